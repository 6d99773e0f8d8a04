-- The places from which listed edges lead.
use Rattle.std.proofs.Common.{◌≡◌, ℕ, ◌<◌, ◌≤◌, ◌⊎◌, ◌↔◌, inl, inr, List, [], length, get_or, take, refl, ap, sym, ◌∙◌, subst, arith}
use Rattle.std.specs.Bool.{⊤}
use Rattle.std.specs.List.{Contains}
use Rattle.std.proofs.lemmas.Bool.{cases_lt}
use Rattle.loop_data.specs.declared.graph.Graph.{Graph}
use Rattle.loop_data.specs.Paths.{addresses, IsInOrder, Leads}
use Rattle.loop_shapes.specs.Places.{HasPredecessors, count_of, at}
use Rattle.loop_data.specs.Bodies.{IsHeader}
use Rattle.loop_shapes.specs.Numbers.{AreNumbers}
use Rattle.loop_shapes.specs.Gains.{Gained, HasAll}
use Rattle.loop_shapes.specs.Lines.{IsRowOf, AreShared}
use Rattle.loop_data.specs.Listed.{IsListed}
use Rattle.loop_data.proofs.Ways.{stop, step}
use Rattle.loop_data.proofs.Lists.{rises}
use Rattle.loop_shapes.proofs.Rows.{none_in, same_place}
use Rattle.loop_shapes.proofs.Gains.{Among, gained_all, all_from_nothing}
use Rattle.loop_data.specs.Flows.{row_at}

-- places in the order of their addresses
pub places_rise : (G : Graph) → IsInOrder G → (i j : ℕ) → i < count_of G → j < count_of G → (i ≤ j) ↔ (at G i ≤ at G j)
places_rise G up i j li lj = (λ l. rises (addresses G) up i j l lj, back)
  where
    back : at G i ≤ at G j → i ≤ j
    back l = by (cases_lt j i)
      where
        by : (j < i) ⊎ (i ≤ j) → i ≤ j
        by (inr q) = q
        by (inl q) =
            let m = rises (addresses G) up j i (omega arith) li in
            let same = same_place (addresses G) up i j li lj (omega arith) in
            omega arith

pub none_listed : (G : Graph) (g : ℕ) (row : List ℕ) → row ≡ [] → IsHeader G (at G g) → IsRowOf G (IsListed G) g row
none_listed G g row e h = subst (IsRowOf G (IsListed G) g) (sym e) (record { each = λ i c. none_in i c; every = λ i l r. absurd (r.no_loop h) })

-- what is chosen of the places from which edges lead to the word at g
abbrev pub Chosen : Graph → List ℕ → ℕ → ℕ → ℕ → Type 0
Chosen G numbers g x z = (z ≡ x) × ((g ≤ x) × ((get_or numbers g 0 ≡ get_or numbers x 0) × ¬ AreShared G (at G g) (at G x)))

pub listed_by : (G : Graph) → IsInOrder G → (rows : List (List ℕ)) → HasPredecessors G (count_of G) rows → (numbers : List ℕ) → AreNumbers G numbers → (g : ℕ) → g < count_of G → ¬ IsHeader G (at G g) → (xs : List ℕ) → xs ≡ row_at rows g → (i : ℕ) → length xs ≤ i → (row : List ℕ) → Gained (Among (Chosen G numbers g) (take i xs)) [] row → IsRowOf G (IsListed G) g row
listed_by G up rows s numbers n g lg no_loop xs same i l row got = record { each = each; every = every }
  where
    all : HasAll (Among (Chosen G numbers g) xs) row
    all = all_from_nothing (Among (Chosen G numbers g) xs) row (gained_all (Chosen G numbers g) xs i [] row l got)

    each : (j : ℕ) → Contains row j → (j < count_of G) × IsListed G (at G g) (at G j)
    each j c =
        let a = all.each j c in
        let m = subst (λ (ys : List ℕ). Contains ys j) same (subst (Contains xs) (sym a.holds.0) a.among) in
        let e = s.each g j m in
        let le : g ≤ j = subst (λ (q : ℕ). g ≤ q) (sym a.holds.0) a.holds.1.0 in
        let eq = a.holds.1.1.0 ∙ ap (λ q. get_or numbers q 0) (sym a.holds.0) in
        let apart = subst (λ (q : ℕ). ¬ AreShared G (at G g) (at G q)) (sym a.holds.0) a.holds.1.1.1 in
        (e.0, record { edge = e.1; back = (places_rise G up g j lg e.0).0 le; returns = ((n.same g j lg e.0).0 eq).0; no_loop = no_loop; apart = λ h b d. apart (record { header = h; first = b; second = d }) })

    every : (j : ℕ) → j < count_of G → IsListed G (at G g) (at G j) → Contains row j
    every j lj r =
        let m = subst (λ (ys : List ℕ). Contains ys j) (sym same) (s.every g j lj lg r.edge) in
        let onward = step (Leads G) (λ _. ⊤) (at G j) (at G g) (at G g) tt r.edge (stop (Leads G) (λ _. ⊤) (at G g) tt) in
        all.every j (record { from = j; among = m; holds = (refl, ((places_rise G up g j lg lj).1 r.back, ((n.same g j lg lj).1 (r.returns, onward), λ b. r.apart b.header b.first b.second))) })
