-- Accesses of one cell.
use Rattle.std.proofs.Common.{◌≡◌, ℕ, Bool, true, ◌&&◌, ◌==◌, List, Option, Some, None, refl, ap, sym, ◌∙◌, ℤ, if◌then◌else◌}
use mathlib.Core.Path.{fun_ext}
use Rattle.std.specs.List.{list_any}
use Rattle.std.specs.Ordering.{int_eq}
use Rattle.std.proofs.lemmas.Bool.Decides.{Decides-int_eq}
use Rattle.rv64_decode.specs.Area.{bytes_of}
use Rattle.loop_data.specs.declared.verdict.Cell.{Cell}
use Rattle.loop_data.proofs.Tests.{eq_of, is_eq, and_true, true_and}
use Rattle.stack_slots.specs.declared.words.BodyWord.{BodyWord}
use Rattle.stack_slots.specs.declared.words.Touch.{Touch}
use Rattle.stack_slots.specs.CellRules.{same_base, have_one_base, are_of_one_cell, both, is_of_cell, is_store, uses_cell, use_one_cell, is_stored, cell_with, cell_of}

-- the accesses are of cells, of one base, offset and width
pub record AreAlike (s t : Touch) : Type 0 where
  pub first : s.of_cell ≡ true
  pub second : t.of_cell ≡ true
  pub base : s.address.base ≡ t.address.base
  pub offset : s.address.offset ≡ t.address.offset
  pub width : bytes_of s.width ≡ bytes_of t.width

base_is : (a b : Option ℕ) → same_base a b ≡ true → a ≡ b
base_is (Some q) (Some r) e = ap (λ (n : ℕ). Some n) (eq_of q r e)
base_is (Some q) None e = absurd (cc)
base_is None (Some r) e = absurd (cc)
base_is None None e = refl

is_base : (a : Option ℕ) → same_base a a ≡ true
is_base (Some q) = is_eq q q refl
is_base None = refl

pub alike : (s t : Touch) → are_of_one_cell s t ≡ true → AreAlike s t
alike s t e =
    let parts = and_true (s.of_cell && t.of_cell) (have_one_base s t && (int_eq s.address.offset t.address.offset && (bytes_of s.width == bytes_of t.width))) e in
    let cells = and_true s.of_cell t.of_cell parts.0 in
    let more = and_true (have_one_base s t) (int_eq s.address.offset t.address.offset && (bytes_of s.width == bytes_of t.width)) parts.1 in
    let last = and_true (int_eq s.address.offset t.address.offset) (bytes_of s.width == bytes_of t.width) more.1 in
    record {
      first = cells.0;
      second = cells.1;
      base = base_is s.address.base t.address.base more.0;
      offset = (Decides-int_eq s.address.offset t.address.offset).0 last.0;
      width = eq_of (bytes_of s.width) (bytes_of t.width) last.1;
    }

-- the test of accesses, by what it looks at
abbrev test : Touch → Bool → Option ℕ → ℤ → ℕ → Bool
test r cell base offset width =
    (r.of_cell && cell) && (same_base r.address.base base && (int_eq r.address.offset offset && (bytes_of r.width == width)))

-- an access is of one cell with each of two alike ones, or with none
pub tested_alike : (r s t : Touch) → AreAlike s t → are_of_one_cell r s ≡ are_of_one_cell r t
tested_alike r s t a =
    ap (λ b. test r b s.address.base s.address.offset (bytes_of s.width)) (a.first ∙ sym a.second)
    ∙ ap (λ b. test r t.of_cell b s.address.offset (bytes_of s.width)) a.base
    ∙ ap (λ z. test r t.of_cell t.address.base z (bytes_of s.width)) a.offset
    ∙ ap (λ n. test r t.of_cell t.address.base t.address.offset n) a.width

-- the access of a cell is of one cell with itself
with_itself : (t : Touch) → t.of_cell ≡ true → are_of_one_cell t t ≡ true
with_itself t e =
    true_and (t.of_cell && t.of_cell) (have_one_base t t && (int_eq t.address.offset t.address.offset && (bytes_of t.width == bytes_of t.width)))
    (true_and t.of_cell t.of_cell e e)
    (true_and (have_one_base t t) (int_eq t.address.offset t.address.offset && (bytes_of t.width == bytes_of t.width)) (is_base t.address.base)
    (true_and (int_eq t.address.offset t.address.offset) (bytes_of t.width == bytes_of t.width) ((Decides-int_eq t.address.offset t.address.offset).1 refl) (is_eq (bytes_of t.width) (bytes_of t.width) refl)))

pub uses_one_with_itself : (w : BodyWord) → uses_cell w ≡ true → use_one_cell w w ≡ true
uses_one_with_itself w e = go w.touch e
  where
    go : (o : Option Touch) → is_of_cell o ≡ true → both are_of_one_cell o o ≡ true
    go (Some t) f = with_itself t f
    go None f = absurd (cc)

-- of two words that use one cell the first uses a cell
pub first_uses_it : (v w : BodyWord) → use_one_cell v w ≡ true → uses_cell v ≡ true
first_uses_it v w e = go v.touch w.touch e
  where
    go : (o p : Option Touch) → both are_of_one_cell o p ≡ true → is_of_cell o ≡ true
    go (Some s) (Some t) f = (alike s t f).first
    go (Some s) None f = absurd (cc)
    go None (Some t) f = absurd (cc)
    go None None f = absurd (cc)

-- a word uses one cell with each of two words that use one, or with none
pub use_alike : (u v w : BodyWord) → use_one_cell v w ≡ true → use_one_cell u v ≡ use_one_cell u w
use_alike u v w e = go u.touch v.touch w.touch e
  where
    go : (n o p : Option Touch) → both are_of_one_cell o p ≡ true → both are_of_one_cell n o ≡ both are_of_one_cell n p
    go (Some r) (Some s) (Some t) f = tested_alike r s t (alike s t f)
    go None (Some s) (Some t) f = refl
    go n (Some s) None f = absurd (cc)
    go n None (Some t) f = absurd (cc)
    go n None None f = absurd (cc)

-- the cell of an access, by what it is made of
abbrev made : Bool → Bool → Option ℕ → ℤ → ℕ → Option Cell
made stored cell base offset width =
    if cell then Some (record { base = base; offset = offset; wide = width == 8; stored = stored }) else None

-- words that use one cell have one cell
pub one_cell : (words : List BodyWord) (v w : BodyWord) → use_one_cell v w ≡ true → cell_of words v ≡ cell_of words w
one_cell words v w e =
    ap (λ b. cell_with b v.touch) stored ∙ go v.touch w.touch e
  where
    stored : is_stored words v ≡ is_stored words w
    stored = any_same words
      where
        any_same : (us : List BodyWord) → list_any (λ (u : BodyWord). is_store u.touch && use_one_cell u v) us ≡ list_any (λ (u : BodyWord). is_store u.touch && use_one_cell u w) us
        any_same us = ap (λ (f : BodyWord → Bool). list_any (λ (u : BodyWord). is_store u.touch && f u) us) (fun_ext (λ u. use_alike u v w e))

    go : (o p : Option Touch) → both are_of_one_cell o p ≡ true → cell_with (is_stored words w) o ≡ cell_with (is_stored words w) p
    go (Some s) (Some t) f =
        let a = alike s t f in
        let b = is_stored words w in
        ap (λ c. made b c s.address.base s.address.offset (bytes_of s.width)) (a.first ∙ sym a.second)
        ∙ ap (λ q. made b t.of_cell q s.address.offset (bytes_of s.width)) a.base
        ∙ ap (λ z. made b t.of_cell t.address.base z (bytes_of s.width)) a.offset
        ∙ ap (λ n. made b t.of_cell t.address.base t.address.offset n) a.width
    go (Some s) None f = absurd (cc)
    go None (Some t) f = absurd (cc)
    go None None f = absurd (cc)
