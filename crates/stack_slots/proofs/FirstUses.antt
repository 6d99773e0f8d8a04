-- Each cell that a word accesses has a first use.
use Rattle.std.proofs.Common.{◌≡◌, ℕ, zero, suc, ◌<◌, Bool, true, false, ◌&&◌, not, inl, inr, ◌==◌, if◌then◌else◌, List, [], ◌∷◌, Option, Some, None, refl, ap, sym, ◌∙◌, arith}
use Rattle.std.specs.Prelude.{nat_lt}
use Rattle.std.specs.List.{list_any, filter_map, slice_get, cons_option}
use Rattle.std.proofs.lemmas.Bool.{ltb-true}
use Rattle.rv64_decode.specs.Area.{bytes_of}
use Rattle.loop_data.specs.declared.verdict.Cell.{Cell}
use Rattle.loop_data.specs.Locations.{cell_at}
use Rattle.loop_data.proofs.Tests.{and_true, true_and}
use Rattle.stack_slots.specs.declared.words.BodyWord.{BodyWord}
use Rattle.stack_slots.specs.declared.words.Touch.{Touch}
use Rattle.stack_slots.specs.CellRules.{is_of_cell, uses_cell, use_one_cell, is_first_use, first_uses, is_stored, cell_with, cell_of}
use Rattle.stack_slots.specs.Results.{IsUse}
use Rattle.stack_slots.specs.Uses.{IsNumber}
use Rattle.stack_slots.proofs.Members.{Member, from_member, some_passes, passes_among, passes_too, kept_passes}
use Rattle.stack_slots.proofs.OneCell.{uses_one_with_itself, first_uses_it, use_alike, one_cell}

-- the cell of a word that accesses one
pub has_cell : (words : List BodyWord) (w : BodyWord) → uses_cell w ≡ true → (c : Cell) × (cell_of words w ≡ Some c)
has_cell words w e = go w.touch e
  where
    go : (o : Option Touch) → is_of_cell o ≡ true → (c : Cell) × (cell_with (is_stored words w) o ≡ Some c)
    go (Some t) f = (
      record { base = t.address.base; offset = t.address.offset; wide = bytes_of t.width == 8; stored = is_stored words w },
      ap (λ b. if b then Some (record { base = t.address.base; offset = t.address.offset; wide = bytes_of t.width == 8; stored = is_stored words w }) else None) f,
    )
    go None f = absurd (cc)

-- the cell of a first use has its number
cell_is : (words firsts : List BodyWord) → ((f : BodyWord) → Member firsts f → uses_cell f ≡ true) → (k : ℕ) (f : BodyWord) → slice_get firsts k ≡ Some f → cell_at (filter_map (cell_of words) firsts) k ≡ cell_of words f
cell_is words [] all k f e = absurd (cc)
cell_is words (x ∷ xs) all zero f e =
    let c = has_cell words x (all x (inl refl)) in
    let same : x ≡ f = cc in
    ap (λ o. cell_at (cons_option o (filter_map (cell_of words) xs)) 0) c.1 ∙ sym c.1 ∙ ap (cell_of words) same
cell_is words (x ∷ xs) all (suc k) f e =
    let c = has_cell words x (all x (inl refl)) in
    ap (λ o. cell_at (cons_option o (filter_map (cell_of words) xs)) (suc k)) c.1 ∙ cell_is words xs (λ g m. all g (inr m)) k f e

module _ (words : List BodyWord) where
  found_below : (n : ℕ) (w : BodyWord) → w.at < n → Member words w → uses_cell w ≡ true → list_any (λ (f : BodyWord). use_one_cell f w) (first_uses words) ≡ true
  found_below zero w l m e = absurd (omega arith)
  found_below (suc n) w l m e = go (list_any (λ (v : BodyWord). nat_lt v.at w.at && use_one_cell v w) words) refl (found_below n)
    where
      go : (b : Bool) → list_any (λ (v : BodyWord). nat_lt v.at w.at && use_one_cell v w) words ≡ b
          → ((v : BodyWord) → v.at < n → Member words v → uses_cell v ≡ true → list_any (λ (f : BodyWord). use_one_cell f v) (first_uses words) ≡ true)
          → list_any (λ (f : BodyWord). use_one_cell f w) (first_uses words) ≡ true
      go false q before =
          let first : is_first_use words w ≡ true = true_and (uses_cell w) (not (list_any (λ (v : BodyWord). nat_lt v.at w.at && use_one_cell v w) words)) e (ap not q) in
          passes_among (is_first_use words) (λ (f : BodyWord). use_one_cell f w) words w m first (uses_one_with_itself w e)
      go true q before =
          let p = some_passes (λ (v : BodyWord). nat_lt v.at w.at && use_one_cell v w) words q in
          let v = p.element in
          let parts = and_true (nat_lt v.at w.at) (use_one_cell v w) p.passes in
          let below = ltb-true v.at w.at parts.0 in
          let there = before v (omega arith) p.member (first_uses_it v w parts.1) in
          passes_too (λ (f : BodyWord). use_one_cell f v) (λ (f : BodyWord). use_one_cell f w) (first_uses words) (λ f t. sym (use_alike f v w parts.1) ∙ t) there

  pub first_found : (w : BodyWord) → Member words w → uses_cell w ≡ true → list_any (λ (f : BodyWord). use_one_cell f w) (first_uses words) ≡ true
  first_found w m e = found_below (suc w.at) w (omega arith) m e

  pub first_has : (f : BodyWord) → Member (first_uses words) f → uses_cell f ≡ true
  first_has f m = (and_true (uses_cell f) (not (list_any (λ (v : BodyWord). nat_lt v.at f.at && use_one_cell v f) words)) (kept_passes (is_first_use words) words f m)).0

  -- the use with the number of the first use of its cell
  pub use_is : (w : BodyWord) (k : ℕ) → Member words w → uses_cell w ≡ true → IsNumber (first_uses words) w k → IsUse words (filter_map (cell_of words) (first_uses words)) (w.at, k)
  use_is w k m e n = record {
    word = w;
    among = from_member words w m;
    at = refl;
    uses = e;
    cell = cell_is words (first_uses words) first_has k n.first n.at ∙ one_cell words n.first w n.same;
  }
