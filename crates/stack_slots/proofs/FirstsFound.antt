-- First uses that are found one after the other.
use Rattle.std.proofs.Common.{◌≡◌, ℕ, ◌+◌, ◌<◌, ◌≤◌, ◌⊎◌, inl, inr, Bool, true, false, ◌&&◌, not, List, [], ◌∷◌, ◌++◌, length, get_or, map, take, refl, ap, sym, ◌∙◌, arith, cond, if◌then◌else◌}
use Rattle.std.specs.Prelude.{nat_lt}
use Rattle.std.specs.List.{list_any, filter}
use Rattle.std.specs.List.Sorted.{IsStrictlyIncreasing}
use Rattle.std.proofs.lemmas.Bool.{cases_lt, ltb-true}
use Rattle.std.proofs.lemmas.Bool.Decides.{nat_tests}
use Rattle.std.proofs.lemmas.List.{take_more, take-append-le, length-take-le}
use Rattle.std.proofs.lemmas.List.Elements.{filter-append}
use Rattle.loop_data.proofs.Tests.{and_true, true_and, yes_no}
use Rattle.stack_slots.specs.declared.words.BodyWord.{BodyWord}
use Rattle.stack_slots.specs.CellRules.{uses_cell, use_one_cell, is_first_use, first_uses}
use Rattle.stack_slots.specs.Uses.{first_added}
use Rattle.stack_slots.proofs.Members.{Member, to_member, some_passes, passes_among, kept_passes, kept_member, any_passes, same_test}
use Rattle.stack_slots.proofs.OneCell.{uses_one_with_itself, use_alike}
use Rattle.stack_slots.proofs.FirstUses.{first_found}
use Rattle.stack_slots.proofs.Orders.{member_before, before_below}

abbrev earlier : BodyWord → BodyWord → Bool
earlier w v = nat_lt v.at w.at && use_one_cell v w

-- the first use of the cell that a word accesses
pub record HasFirst (words : List BodyWord) (v : BodyWord) : Type 0 where
  pub first : BodyWord
  pub member : Member words first
  pub found : Member (first_uses words) first
  pub is : is_first_use words first ≡ true
  pub one : use_one_cell first v ≡ true
  pub below : first.at ≤ v.at

below_of : (a b : ℕ) → a < b → nat_lt a b ≡ true
below_of a b l = grind (arith, nat_tests)

pub first_of : (words : List BodyWord) (v : BodyWord) → Member words v → uses_cell v ≡ true → HasFirst words v
first_of words v m u =
    let p = some_passes (λ (f : BodyWord). use_one_cell f v) (first_uses words) (first_found words v m u) in
    let f = p.element in
    let t = kept_passes (is_first_use words) words f p.member in
    record {
      first = f;
      member = kept_member (is_first_use words) words f p.member;
      found = p.member;
      is = t;
      one = p.passes;
      below = low f t p.passes (cases_lt v.at f.at);
    }
  where
    low : (f : BodyWord) → is_first_use words f ≡ true → use_one_cell f v ≡ true → (v.at < f.at) ⊎ (f.at ≤ v.at) → f.at ≤ v.at
    low f t o (inr l) = l
    low f t o (inl l) =
        let none = (and_true (uses_cell f) (not (list_any (earlier f) words)) t).1 in
        let back : use_one_cell v f ≡ true = use_alike v f v o ∙ uses_one_with_itself v u in
        let some = any_passes (earlier f) words v m (true_and (nat_lt v.at f.at) (use_one_cell v f) (below_of v.at f.at l) back) in
        absurd (yes_no (not (list_any (earlier f) words)) none (ap not some))

module _ (words : List BodyWord) (up : IsStrictlyIncreasing (map (λ (w : BodyWord). w.at) words)) (i : ℕ) (w : BodyWord) (l : i < length words) (is : w ≡ get_or words i w) where
  abbrev found : List BodyWord
  found = filter (is_first_use words) (take i words)

  -- a word before it accesses its cell where one of the first uses before it does
  among_is : list_any (earlier w) words ≡ list_any (λ (f : BodyWord). use_one_cell f w) found
  among_is = same_test (list_any (earlier w) words) (list_any (λ (f : BodyWord). use_one_cell f w) found) there back
    where
      there : list_any (earlier w) words ≡ true → list_any (λ (f : BodyWord). use_one_cell f w) found ≡ true
      there e =
          let p = some_passes (earlier w) words e in
          let v = p.element in
          let t = and_true (nat_lt v.at w.at) (use_one_cell v w) p.passes in
          let lower = ltb-true v.at w.at t.0 in
          let h = first_of words v p.member (Rattle.stack_slots.proofs.OneCell.first_uses_it v w t.1) in
          let b = h.below in
          passes_among (is_first_use words) (λ (f : BodyWord). use_one_cell f w) (take i words) h.first
          (member_before words up i w l is h.first h.member (omega arith)) h.is (sym (use_alike h.first v w t.1) ∙ h.one)

      back : list_any (λ (f : BodyWord). use_one_cell f w) found ≡ true → list_any (earlier w) words ≡ true
      back e =
          let p = some_passes (λ (f : BodyWord). use_one_cell f w) found e in
          let f = p.element in
          let b = before_below words up i w l is f (kept_member (is_first_use words) (take i words) f p.member) in
          any_passes (earlier w) words f b.1 (true_and (nat_lt f.at w.at) (use_one_cell f w) (below_of f.at w.at b.0) p.passes)

  first_is : is_first_use words w ≡ (uses_cell w && not (list_any (λ (f : BodyWord). use_one_cell f w) found))
  first_is = ap (λ b. uses_cell w && not b) among_is

  more_is : filter (is_first_use words) (take (i + 1) words) ≡ found ++ cond (is_first_use words w) (w ∷ []) []
  more_is =
      ap (filter (is_first_use words)) (take_more words i w l ∙ ap (λ (v : BodyWord). take i words ++ v ∷ []) (sym is))
      ∙ filter-append (is_first_use words) (take i words) (w ∷ [])

  -- one more word
  pub first_more : (old new : List BodyWord) → old ≡ take 17 found → new ≡ first_added old w → new ≡ take 17 (filter (is_first_use words) (take (i + 1) words))
  first_more old new e f = by (cases_lt (length found) 17)
    where
      by : (length found < 17) ⊎ (17 ≤ length found) → new ≡ take 17 (filter (is_first_use words) (take (i + 1) words))
      by (inl few) =
          let q : old ≡ found = e ∙ all_taken found 17 (omega arith) in
          f ∙ ap (λ xs. first_added xs w) q ∙ room (nat_lt (length found) 17) (below_of (length found) 17 few) (is_first_use words w) (sym first_is) ∙ sym (all_taken (found ++ cond (is_first_use words w) (w ∷ []) []) 17 (short (is_first_use words w) few)) ∙ ap (take 17) (sym more_is)
        where
          all_taken : (xs : List BodyWord) (n : ℕ) → length xs ≤ n → take n xs ≡ xs
          all_taken xs n le = Rattle.stack_slots.proofs.Members.whole xs n le

          room : (b : Bool) → b ≡ true → (c : Bool) → (uses_cell w && not (list_any (λ (g : BodyWord). use_one_cell g w) found)) ≡ c
              → (if b then (if uses_cell w && not (list_any (λ (g : BodyWord). use_one_cell g w) found) then found ++ w ∷ [] else found) else found) ≡ found ++ cond c (w ∷ []) []
          room true q true g = ap (λ b. if b then found ++ w ∷ [] else found) g
          room true q false g = ap (λ b. if b then found ++ w ∷ [] else found) g ∙ sym (Rattle.stack_slots.proofs.Members.nothing_more found)
          room false q c g = absurd (cc)

          short : (c : Bool) → length found < 17 → length (found ++ cond c (w ∷ []) []) ≤ 17
          short true h = let z = Rattle.stack_slots.proofs.Members.one_more found w in omega arith
          short false h = let z = ap length (Rattle.stack_slots.proofs.Members.nothing_more found) in omega arith
      by (inr many) =
          let n = length-take-le 17 found many in
          let q = ap length e in
          f ∙ full (nat_lt (length old) 17) (not_below (length old) 17 (omega arith)) ∙ e ∙ sym (ap (take 17) more_is ∙ take-append-le 17 found (cond (is_first_use words w) (w ∷ []) []) many)
        where
          not_below : (a b : ℕ) → b ≤ a → nat_lt a b ≡ false
          not_below a b h = grind (arith, nat_tests)

          full : (b : Bool) → b ≡ false → (if b then (if uses_cell w && not (list_any (λ (g : BodyWord). use_one_cell g w) old) then old ++ w ∷ [] else old) else old) ≡ old
          full true g = absurd (cc)
          full false g = refl
