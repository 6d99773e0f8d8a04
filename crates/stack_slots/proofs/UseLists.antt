-- Uses that are put one after the other.
use Rattle.std.proofs.Common.{◌≡◌, ℕ, suc, ◌+◌, ◌<◌, ◌⊎◌, inl, inr, Bool, true, false, List, [], ◌∷◌, ◌++◌, length, get_or, map, drop, refl, ap, sym, ◌∙◌, subst, arith, cond, append_assoc, drop-cons}
use Rattle.std.specs.List.{list_any, filter, filter_map, Contains}
use Rattle.std.proofs.lemmas.List.{length_push, map-append}
use Rattle.std.proofs.lemmas.List.Elements.{Contains-push_cases}
use Rattle.stack_slots.specs.declared.words.BodyWord.{BodyWord}
use Rattle.stack_slots.specs.CellRules.{uses_cell, use_one_cell, first_uses, cell_of}
use Rattle.stack_slots.specs.Results.{IsUse}
use Rattle.stack_slots.specs.Uses.{IsNumber, IsUseAdded, AreUsesTo}
use Rattle.stack_slots.proofs.Members.{Member, to_member}
use Rattle.stack_slots.proofs.FirstUses.{first_found, use_is}

abbrev ats : List BodyWord → List ℕ
ats ws = map (λ (w : BodyWord). w.at) ws

abbrev firsts_of : List (ℕ × ℕ) → List ℕ
firsts_of us = map (λ (u : ℕ × ℕ). u.0) us

module _ (words firsts : List BodyWord) (e : firsts ≡ first_uses words) (i : ℕ) (w : BodyWord) (l : i < length words) (is : w ≡ get_or words i w) where
  member : Member words w
  member = to_member words w (i, l, sym is)

  pub found_at : uses_cell w ≡ true → list_any (λ (f : BodyWord). use_one_cell f w) firsts ≡ true
  found_at u = ap (list_any (λ (f : BodyWord). use_one_cell f w)) e ∙ first_found words w member u

  rest_is : drop i words ≡ w ∷ drop (i + 1) words
  rest_is = drop-cons words i w l ∙ ap (λ (v : BodyWord). v ∷ drop (suc i) words) (sym is) ∙ ap (λ n. w ∷ drop n words) one
    where
      one : suc i ≡ i + 1
      one = omega arith

  use_here : (k : ℕ) → uses_cell w ≡ true → IsNumber firsts w k → IsUse words (filter_map (cell_of words) firsts) (w.at, k)
  use_here k u n =
      subst (λ (fs : List BodyWord). IsUse words (filter_map (cell_of words) fs) (w.at, k)) (sym e)
      (use_is words w k member u (subst (λ (fs : List BodyWord). IsNumber fs w k) e n))

  go : (b : Bool) → uses_cell w ≡ b → (old new : List (ℕ × ℕ)) → IsUseAdded b firsts w old new → AreUsesTo words firsts i old → AreUsesTo words firsts (i + 1) new
  go true u old new (k, n, q) a = subst (AreUsesTo words firsts (i + 1)) (sym q) (record {
    count = let x = length_push old (w.at, k) in let y = a.count in omega arith;
    words_are =
        ap (λ xs. xs ++ ats (filter uses_cell (drop (i + 1) words))) (map-append (λ (z : ℕ × ℕ). z.0) old ((w.at, k) ∷ []))
        ∙ append_assoc (firsts_of old) (w.at ∷ []) (ats (filter uses_cell (drop (i + 1) words)))
        ∙ ap (λ xs. firsts_of old ++ xs) (sym (ap (λ ws. ats (filter uses_cell ws)) rest_is ∙ ap (λ b. ats (cond b (w ∷ filter uses_cell (drop (i + 1) words)) (filter uses_cell (drop (i + 1) words)))) u))
        ∙ a.words_are;
    each = λ z c. by z (Contains-push_cases old (w.at, k) z c);
  })
    where
      by : (z : ℕ × ℕ) → Contains old z ⊎ ((w.at, k) ≡ z) → IsUse words (filter_map (cell_of words) firsts) z
      by z (inl c) = a.each z c
      by z (inr s) = subst (IsUse words (filter_map (cell_of words) firsts)) s (use_here k u n)
  go false u old new q a = subst (AreUsesTo words firsts (i + 1)) (sym q) (record {
    count = let y = a.count in omega arith;
    words_are =
        ap (λ xs. firsts_of old ++ xs) (sym (ap (λ ws. ats (filter uses_cell ws)) rest_is ∙ ap (λ b. ats (cond b (w ∷ filter uses_cell (drop (i + 1) words)) (filter uses_cell (drop (i + 1) words)))) u))
        ∙ a.words_are;
    each = a.each;
  })

  pub use_more : (old new : List (ℕ × ℕ)) → IsUseAdded (uses_cell w) firsts w old new → AreUsesTo words firsts i old → AreUsesTo words firsts (i + 1) new
  use_more old new added a = go (uses_cell w) refl old new added a
