-- Which loops are chosen depends on headers, bodies and verdicts alone.
use Rattle.std.proofs.Common.{◌≡◌, ◌≢◌, ℕ, zero, suc, List, [], ◌∷◌, Option, Some, None, refl, sym, ◌∙◌, subst}
use Rattle.std.specs.Prelude.{slice_get}
use Rattle.std.specs.List.{Contains}
use Rattle.loop_data.specs.declared.verdict.Verdict.TheVariants.{Parallel}
use Rattle.loop_choice.specs.declared.judged.Judged.{Judged}
use Rattle.loop_choice.specs.Choice.{IsParallelWith, IsChosen, HaveSameVerdicts, SameChoiceLaw}

-- the loop at a place of one list, in the other
record Same (js : List Judged) (place : ℕ) (j : Judged) : Type 0 where
  pub loop : Judged
  pub is : slice_get js place ≡ Some loop
  pub header : j.header ≡ loop.header
  pub body : j.body ≡ loop.body
  pub verdict : j.verdict ≡ loop.verdict

same_at : (js ks : List Judged) → HaveSameVerdicts js ks → (place : ℕ) (j : Judged) → slice_get js place ≡ Some j → Same ks place j
same_at [] [] same place j e = absurd (cc)
same_at (x ∷ js) [] same place j e = absurd same
same_at [] (y ∷ ks) same place j e = absurd same
same_at (x ∷ js) (y ∷ ks) same zero j e =
    let q : x ≡ j = cc in
    subst (λ (z : Judged). Same (y ∷ ks) zero z) q (record { loop = y; is = refl; header = same.0; body = same.1; verdict = same.2 })
same_at (x ∷ js) (y ∷ ks) same (suc place) j e =
    let s = same_at js ks same.3 place j e in
    record { loop = s.loop; is = s.is; header = s.header; body = s.body; verdict = s.verdict }

turned : (js ks : List Judged) → HaveSameVerdicts js ks → HaveSameVerdicts ks js
turned [] [] same = tt
turned (x ∷ js) [] same = absurd same
turned [] (y ∷ ks) same = absurd same
turned (x ∷ js) (y ∷ ks) same = (sym same.0, sym same.1, sym same.2, turned js ks same.3)

parallel_in : (js ks : List Judged) → HaveSameVerdicts js ks → (u place : ℕ) → IsParallelWith js u place → IsParallelWith ks u place
parallel_in js ks same u place p =
    let s = same_at js ks same place p.loop p.is in
    record { loop = s.loop; is = s.is; parallel = sym s.verdict ∙ p.parallel; holds = subst (λ (b : List ℕ). Contains b u) s.body p.holds }

pub same_choice : SameChoiceLaw
same_choice all other place same c =
    let s = same_at all other same place c.loop c.is in
    record {
      loop = s.loop;
      is = s.is;
      parallel = sym s.verdict ∙ c.parallel;
      outermost = λ q apart p. c.outermost q apart
          (parallel_in other all (turned all other same) c.loop.header q (subst (λ u. IsParallelWith other u q) (sym s.header) p));
    }
