-- The areas of an executable end below 2 ^ 31.
use Rattle.std.proofs.Common.{◌≡◌, ℕ, zero, suc, ◌+◌, ◌*◌, ◌/◌, ◌^◌, ◌<◌, ◌≤◌, arith, List, [], ◌∷◌, ◌++◌, length, map, max, Bool, true, false}
use Rattle.std.specs.List.{All}
use Rattle.std.specs.Prelude.{nat_lt}
use Rattle.std.proofs.lemmas.Bool.Decides.{nat_tests}
use Rattle.elf_image.specs.declared.image.Segment.{Segment}
use Rattle.elf_image.specs.declared.image.Elf.{Elf}
use Rattle.elf_image.specs.Layout.{LieFrom, IsLoadable, rounded_low, rounded_end}
use Rattle.guest_memory.specs.Areas.{highest_end, heap_low, heap_size, stack_low, stack_size}
use Rattle.alias_checks.specs.Areas.{Bounds}
use Rattle.alias_checks.specs.Listing.{segment_bounds, data_bounds, bounds_of}
use Rattle.check_code.specs.Checkable.{IsLowArea, RoomLaw}

greatest : (a b : ℕ) → a ≤ 0x5000_0000 → b ≤ 0x5000_0000 → max a b ≤ 0x5000_0000
greatest a b h k = grind (arith, nat_tests)

highest : (from : ℕ) (ss : List Segment) → LieFrom from ss → highest_end ss ≤ 0x5000_0000
highest from [] h = omega arith
highest from (s ∷ ss) h = let e = h.3 in greatest (rounded_end s) (highest_end ss) (omega (arith, e)) (highest (rounded_end s) ss h.5)

more_bounds : (ss : List Segment) (bs : List Bounds) → length (map segment_bounds ss ++ bs) ≡ length ss + length bs
more_bounds [] bs = omega arith
more_bounds (s ∷ ss) bs = let h = more_bounds ss bs in omega (arith, h)

one_more : (b : Bounds) (bs : List Bounds) → IsLowArea b → All IsLowArea bs → All IsLowArea (b ∷ bs)
one_more b bs h k zero d l = h
one_more b bs h k (suc j) d l = k j d (omega (arith, l))

low_segments : (from : ℕ) (ss : List Segment) (bs : List Bounds) → LieFrom from ss → All IsLowArea bs → All IsLowArea
    (map segment_bounds ss ++ bs)
low_segments from [] bs h k = k
low_segments from (s ∷ ss) bs h k =
    let e = h.3 in
    one_more (segment_bounds s) (map segment_bounds ss ++ bs) (omega (arith, e), omega (arith, e))
    (low_segments (rounded_end s) ss bs h.5 k)

low_data : (top : ℕ) → top ≤ 0x5000_0000 → All IsLowArea
    (data_bounds ((top + 4095) / 4096 * 4096) heap_size ∷ data_bounds stack_low stack_size ∷ [])
low_data top h zero d l = (omega (arith, h), omega (arith, h))
low_data top h (suc zero) d l = (omega arith, omega arith)
low_data top h (suc (suc k)) d l = absurd (omega (arith, l))

pub rooms : RoomLaw
rooms elf h = (
  let m = more_bounds elf.segments (data_bounds (heap_low elf.segments) heap_size ∷ data_bounds stack_low stack_size ∷ []) in let f =
      h.few in omega (arith, m, f),
  low_segments 0 elf.segments _ h.apart (low_data (highest_end elf.segments) (highest 0 elf.segments h.apart)),
)
