-- Loops in and round others.
use Rattle.std.proofs.Common.{◌≡◌, ◌≢◌, ℕ, ◌+◌, ◌<◌, ◌≤◌, ◌⊎◌, ◌↔◌, inl, inr, Bool, true, false, List, [], ◌∷◌, ◌++◌, length, get_or, take, ap, sym, ◌∙◌, subst, arith}
use Rattle.std.specs.List.{Contains}
use Rattle.std.proofs.lemmas.Bool.{cases_lt}
use Rattle.std.proofs.lemmas.List.{get_or_default, get_or_append_left, get_or_push, length_push}
use Rattle.std.proofs.lemmas.List.Elements.{Contains-get_or}
use Rattle.loop_data.specs.declared.graph.Graph.{Graph}
use Rattle.loop_data.specs.Sets.{IsListOf, HasAtMost}
use Rattle.loop_data.specs.Bodies.{InBody}
use Rattle.loop_shapes.specs.Gains.{Gained}
use Rattle.loop_data.specs.Shape.{InNest}
use Rattle.loop_data.specs.Early.{IsRound, IsSmallNest}
use Rattle.loop_shapes.proofs.Gains.{Among}
use Rattle.loop_shapes.proofs.Choices.{chosen}
use Rattle.loop_shapes.proofs.Leasts.{most_by}

pub all_at : (P : ℕ → Type 0) (xs : List ℕ) (n : ℕ) → length xs ≤ n → ((k : ℕ) → k < n → P (get_or xs k 0)) → (x : ℕ) → Contains xs x → P x
all_at P xs n l f x c = let m = c.1 in subst P (get_or_default xs c.0 0 x c.1 ∙ c.2) (f c.0 (omega arith))

-- one flag more
pub flags_push : (P : ℕ → Type 0) (old : List Bool) (b : Bool) (n : ℕ) (new : List Bool) → new ≡ old ++ b ∷ [] → (length old ≡ n) × ((i : ℕ) → i < n → (get_or old i false ≡ true) ↔ P i) → (b ≡ true) ↔ P n → (length new ≡ n + 1) × ((i : ℕ) → i < n + 1 → (get_or new i false ≡ true) ↔ P i)
flags_push P old b n new e a p = (ap length e ∙ length_push old b ∙ ap (λ k. k + 1) a.0, λ i l. subst (λ (q : List Bool). (get_or q i false ≡ true) ↔ P i) (sym e) (by i l (cases_lt i n)))
  where
    by : (i : ℕ) → i < n + 1 → (i < n) ⊎ (n ≤ i) → (get_or (old ++ b ∷ []) i false ≡ true) ↔ P i
    by i l (inl m) =
        let c = a.0 in
        let q = get_or_append_left old (b ∷ []) false i (omega arith) in
        (λ t. (a.1 i m).0 (sym q ∙ t), λ r. q ∙ (a.1 i m).1 r)
    by i l (inr m) =
        let c = a.0 in
        let same : n ≡ i = omega arith in
        let q = get_or_push old b false i (c ∙ same) in
        (λ t. subst P same (p.0 (sym q ∙ t)), λ r. q ∙ p.1 (subst P (sym same) r))

pub chosen_round : (G : Graph) (h x : ℕ) (nest : List ℕ) (i : ℕ) (all zs : List ℕ) → length nest ≤ i → IsListOf (InNest G h) nest → Gained (Among (λ (k z : ℕ). (z ≡ k) × ((k ≢ x) × InBody G k x)) (take i nest)) [] all → IsListOf (Contains all) zs → IsListOf (IsRound G h x) zs
chosen_round G h x nest i all zs l is g o = chosen (λ k. (k ≢ x) × InBody G k x) (IsRound G h x) nest i all zs l (λ k. (λ p. record { nest = is.each k p.0; other = p.1.0; holds = p.1.1 }, λ r. (is.every k r.nest, (r.other, r.holds)))) g o

pub many_loops : (G : Graph) (h : ℕ) (nest : List ℕ) → IsListOf (InNest G h) nest → 4 < length nest → IsSmallNest G h → ⊥
many_loops G h nest is m s = let l = (most_by (InNest G h) nest 4 is).1 s.loops in omega arith

pub deep_loop : (G : Graph) (h : ℕ) (nest round : List ℕ) (i : ℕ) → IsListOf (InNest G h) nest → i < length nest → IsListOf (IsRound G h (get_or nest i 0)) round → 2 < length round → IsSmallNest G h → ⊥
deep_loop G h nest round i is l r m s = let n = (most_by (IsRound G h (get_or nest i 0)) round 2 r).1 (s.levels (get_or nest i 0) (is.each (get_or nest i 0) (Contains-get_or nest i 0 l))) in omega arith

pub small_nest : (G : Graph) (h : ℕ) (nest : List ℕ) (n : ℕ) → IsListOf (InNest G h) nest → length nest ≤ 4 → length nest ≤ n → ((k : ℕ) → k < n → HasAtMost 2 (IsRound G h (get_or nest k 0))) → IsSmallNest G h
small_nest G h nest n is four l f = record { loops = (most_by (InNest G h) nest 4 is).0 four; levels = λ k i. all_at (λ q. HasAtMost 2 (IsRound G h q)) nest n l f k (is.every k i) }
