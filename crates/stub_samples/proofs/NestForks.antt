-- How many words of the added code of the nest are executed, and what its one fork divides.
use Rattle.std.proofs.Common.{◌≡◌, ℕ, zero, suc, ◌+◌, ◌<◌, ◌≤◌, ◌⊎◌, inl, inr, List, [], ◌∷◌, Some, refl, ap, sym, ◌∙◌, subst, arith}
use Rattle.std.specs.Prelude.{◌-◌}
use Rattle.std.proofs.lemmas.Bool.{cases_lt}
use Rattle.rv64_decode.specs.Hart.{Hart, fetched}
use Rattle.rv64_decode.specs.XTable.{decoded_x}
use Rattle.rv64_decode.specs.declared.xinstr.XInstr.TheVariants.{Get, Back}
use Rattle.divided_loops.specs.Alone.{act_alone, run_alone}
use Rattle.divided_loops.specs.Forks.{LeavesFirst}
use Rattle.divided_loops.specs.Added.{DoesTurns}
use Rattle.loop_samples.specs.Checked.{told}
use Rattle.loop_samples.specs.NestLoop.{outer, two_cells}
use Rattle.stub_samples.specs.NestStub.{rounds, stub_words, entering}

-- at a word at which it leaves the hart stays
stays : (code : List ℕ) (n : ℕ) (h : Hart) → fetched code h.pc ≡ Some Back → run_alone code n h ≡ h
unfolding run_alone
stays code zero h e = refl
stays code (suc n) h e = ap (λ o. run_alone code n (act_alone o h)) e ∙ stays code n h e

both : (code : List ℕ) (n m : ℕ) (h : Hart) → run_alone code m (run_alone code n h) ≡ run_alone code (n + m) h
unfolding run_alone
both code zero m h = let z : m ≡ 0 + m = omega arith in ap (λ k. run_alone code k h) z
both code (suc n) m h =
    let z : suc (n + m) ≡ suc n + m = omega arith in
    both code n m (act_alone (fetched code h.pc) h) ∙ ap (λ k. run_alone code k h) z

-- by 525 words it comes to the last one, and by 524 to the one before
leaves_there : fetched stub_words (run_alone stub_words 525 entering).pc ≡ Some Back
unfolding run_alone fetched decoded_x
leaves_there = refl

not_yet : fetched stub_words (run_alone stub_words 524 entering).pc ≡ Some (Get 5 29)
unfolding run_alone fetched decoded_x
not_yet = refl

are_525 : (n : ℕ) (turns : List ℕ) → LeavesFirst stub_words n entering turns → n ≡ 525
are_525 n turns l = by (cases_lt n 525) (cases_lt 525 n)
  where
    before : n < 525 → ⊥
    before lt =
        let z : n + (524 - n) ≡ 524 = omega (arith, lt) in
        let same : run_alone stub_words n entering ≡ run_alone stub_words 524 entering =
        sym (stays stub_words (524 - n) (run_alone stub_words n entering) l.first.leaves) ∙ both stub_words n (524 - n) entering
        ∙ ap (λ k. run_alone stub_words k entering) z in
        let e : Some Back ≡ Some (Get 5 29) = sym l.first.leaves ∙ ap (λ (h : Hart). fetched stub_words h.pc) same ∙ not_yet in
        cc e

    by : (n < 525) ⊎ (525 ≤ n) → (525 < n) ⊎ (n ≤ 525) → n ≡ 525
    by (inl lt) r = absurd (before lt)
    by (inr g) (inl lt) = absurd (l.first.first 525 lt leaves_there)
    by (inr g) (inr le) = omega (arith, g, le)

pub leaves_first : DoesTurns stub_words outer two_cells rounds entering (told 19 3) → LeavesFirst stub_words 525 entering (19 ∷ [])
leaves_first d = subst (λ n. LeavesFirst stub_words n entering (19 ∷ [])) (are_525 d.0 (19 ∷ []) d.5) d.5
