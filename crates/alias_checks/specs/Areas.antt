-- Ranges of bytes, and the areas of memory in which they lie. A range is its first address and its end.
use Rattle.std.specs.Prelude.{ℕ, ◌≡◌, ◌==◌, ◌+◌, ◌/◌, ◌%◌, Bool, ◌&&◌, List, [], ◌∷◌, length, ℤ, pos, int_le}
use Rattle.std.specs.List.{list_any}
use Rattle.rv64_decode.specs.Area.{Area}
use Rattle.alias_checks.specs.declared.areas.Permission.{Permission}
use Rattle.alias_checks.specs.declared.areas.Permission.TheVariants.{Read, Write, ReadAndWrite}

abbrev pub Range : Type 0
Range = ℤ × ℤ

-- an area permits an access
abbrev pub permits : Permission → Area → Bool
permits Read a = a.readable
permits Write a = a.writable
permits ReadAndWrite a = a.readable && a.writable

-- all of the range lies in the area
abbrev pub has_range : Area → Range → Bool
has_range a r = int_le (pos a.low) r.0 && int_le r.1 (pos (a.low + length a.bytes))

-- all of it lies in one area, which permits the access
unfoldable pub in_memory : List Area → Permission → Range → Bool
in_memory m permission r = list_any (λ (a : Area). permits permission a && has_range a r) m

-- an area by its bounds: its first address, its end, and its flags, which are those of a program header
abbrev pub Bounds : Type 0
Bounds = ℕ × ℕ × ℕ

abbrev pub may_read : ℕ → Bool
may_read flags = flags / 4 % 2 == 1

abbrev pub may_write : ℕ → Bool
may_write flags = flags / 2 % 2 == 1

-- these are the bounds of an area
pub record AreBounds (b : Bounds) (a : Area) : Type 0 where
  pub low : b.0 ≡ a.low
  pub end : b.1 ≡ a.low + length a.bytes
  pub readable : may_read b.2 ≡ a.readable
  pub writable : may_write b.2 ≡ a.writable

-- and these those of each area in order
abbrev pub AreBoundsOf : List Bounds → List Area → Type 0
AreBoundsOf [] [] = Unit {0}
AreBoundsOf [] (a ∷ m) = ⊥
AreBoundsOf (b ∷ bs) [] = ⊥
AreBoundsOf (b ∷ bs) (a ∷ m) = AreBounds b a × AreBoundsOf bs m

abbrev pub flags_permit : Permission → ℕ → Bool
flags_permit Read flags = may_read flags
flags_permit Write flags = may_write flags
flags_permit ReadAndWrite flags = may_read flags && may_write flags

-- all of the range lies between the bounds, and they permit the access
abbrev pub bounds_have : Permission → Range → Bounds → Bool
bounds_have permission r b = flags_permit permission b.2 && (int_le (pos b.0) r.0 && int_le r.1 (pos b.1))

unfoldable pub in_bounds : List Bounds → Permission → Range → Bool
in_bounds bs permission r = list_any (bounds_have permission r) bs
