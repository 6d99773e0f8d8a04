-- The bounds of an executable's areas.
use Rattle.std.proofs.Common.{◌≡◌, ℕ, ◌+◌, ◌-◌, List, [], ◌∷◌, ◌++◌, length, map, refl, ap, sym, ◌∙◌, arith}
use Rattle.std.proofs.lemmas.List.{length-append}
use Rattle.elf_image.specs.declared.image.Segment.{Segment}
use Rattle.elf_image.specs.declared.image.Elf.{Elf}
use Rattle.elf_image.specs.Layout.{LieFrom as SegmentsLieFrom, IsLoadable, rounded_low, rounded_end}
use Rattle.rv64_decode.specs.Area.{Area}
use Rattle.guest_memory.specs.Areas.{zeros, segment_area, segment_areas, data_area, areas_of, heap_low, heap_size, stack_low, stack_size}
use Rattle.guest_memory.specs.Layout.{KeepAreas}
use Rattle.guest_memory.proofs.Loaded.{length-zeros, IsPlaced}
use Rattle.loop_data.specs.Locations.{CellMap}
use Rattle.loop_data.specs.Runs.{State}
use Rattle.loop_data.specs.Holds.{entry_of}
use Rattle.alias_checks.specs.Areas.{Bounds, AreBounds, AreBoundsOf}
use Rattle.alias_checks.specs.Entry.{entry}
use Rattle.alias_checks.specs.Listing.{segment_bounds, data_bounds, bounds_of}

segment_end : (s : Segment) → IsPlaced s → rounded_end s ≡ rounded_low s + length (segment_area s).bytes
segment_end s p =
    let front = length-zeros (s.vaddr - rounded_low s) in
    let back = length-zeros (rounded_end s - (s.vaddr + length s.bytes)) in
    let inner = length-append s.bytes (zeros (rounded_end s - (s.vaddr + length s.bytes))) in
    let outer = length-append (zeros (s.vaddr - rounded_low s)) (s.bytes ++ zeros (rounded_end s - (s.vaddr + length s.bytes))) in
    let bytes = p.bytes in
    omega arith

data_are : (low size : ℕ) → AreBounds (data_bounds low size) (data_area low size)
data_are low size =
    record { low = refl; end = ap (λ n. low + n) (sym (length-zeros size)); readable = refl; writable = refl }

segments_are : (from : ℕ) (segments : List Segment) (bs : List Bounds) (m : List Area) → SegmentsLieFrom from segments → AreBoundsOf bs m
    → AreBoundsOf (map segment_bounds segments ++ bs) (segment_areas segments ++ m)
segments_are from [] bs m l h = h
segments_are from (s ∷ rest) bs m l h = (
  record {
    low = refl;
    end = segment_end s (record { bytes = l.2; end = l.3 });
    readable = refl;
    writable = refl;
  },
  segments_are (rounded_end s) rest bs m l.5 h,
)

pub start_bounds : (elf : Elf) → IsLoadable elf → AreBoundsOf (bounds_of elf) (areas_of elf)
start_bounds elf l =
    segments_are 0 elf.segments _ _ l.apart
    (data_are (heap_low elf.segments) heap_size, (data_are stack_low stack_size, tt))

pub kept_bounds : (bs : List Bounds) (m n : List Area) → AreBoundsOf bs m → KeepAreas m n → AreBoundsOf bs n
kept_bounds [] [] [] h k = tt
kept_bounds [] [] (b ∷ n) h k = absurd k
kept_bounds [] (a ∷ m) n h k = absurd h
kept_bounds (b ∷ bs) [] n h k = absurd h
kept_bounds (b ∷ bs) (a ∷ m) [] h k = absurd k
kept_bounds (b ∷ bs) (a ∷ m) (c ∷ n) h k =
    let e = h.0.end in
    let f = k.0 in
    let g = k.4 in (
      record {
        low = h.0.low ∙ sym k.0;
        end = omega arith;
        readable = h.0.readable ∙ sym k.1;
        writable = h.0.writable ∙ sym k.2;
      },
      kept_bounds bs m n h.1 k.6,
    )

pub entry_is : (C : CellMap) (s : State) → entry C.cells s.regs s.memory ≡ entry_of C s
unfolding entry
entry_is C s = refl
