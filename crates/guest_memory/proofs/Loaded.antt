-- The areas of an executable.
use Rattle.std.proofs.Common.{◌≡◌, ℕ, zero, suc, ◌+◌, ◌-◌, ◌%◌, ◌^◌, ◌<◌, ◌≤◌, max, List, [], ◌∷◌, ◌++◌, length, get_or, drop, refl, ap, sym, subst, ◌∙◌, arith}
use Rattle.std.proofs.lemmas.List.{length-append, length-replicate, take-replicate, drop-replicate, append_assoc, at_drop_all, append-nil}
use Rattle.elf_image.specs.declared.image.Segment.{Segment}
use Rattle.elf_image.specs.declared.image.Elf.{Elf}
use Rattle.elf_image.specs.Layout.{LieFrom as SegmentsLieFrom, IsLoadable, rounded_low, rounded_end, load_end}
use Rattle.rv64_decode.specs.Area.{Area}
use Rattle.guest_memory.specs.Areas.{zeros, segment_area, segment_areas, highest_end, heap_low, heap_size, stack_low, stack_size, data_area, areas_of}
use Rattle.guest_memory.specs.Layout.{end_of, AreasLieFrom, spliced}

pub length-zeros : (n : ℕ) → length (zeros n) ≡ n
unfolding zeros
length-zeros n = length-replicate n 0

-- bytes put over zeros
pub spliced-zeros : (k n : ℕ) (xs : List ℕ) → k + length xs ≤ n → spliced k xs (zeros n) ≡ zeros k ++ (xs ++ zeros (n - (k + length xs)))
unfolding zeros
spliced-zeros k n xs h =
    let short : k ≤ n = omega arith in
    rw (take-replicate {X = ℕ} k n 0 short, drop-replicate {X = ℕ} (k + length xs) n 0) refl

-- what each segment meets
pub record IsPlaced (s : Segment) : Type 0 where
  pub bytes : length s.bytes ≤ s.memsz
  pub end : s.vaddr + s.memsz ≤ load_end

pub placed : (from : ℕ) (segments : List Segment) (i : ℕ) (s : Segment) → SegmentsLieFrom from segments → i < length segments → IsPlaced (get_or segments i s)
placed from [] i s lie h = absurd (omega arith)
placed from (a ∷ rest) zero s lie h = record { bytes = lie.2; end = lie.3 }
placed from (a ∷ rest) (suc i) s lie h = placed (rounded_end a) rest i s lie.5 (omega arith)

pub highest_end-le : (from : ℕ) (segments : List Segment) → SegmentsLieFrom from segments → highest_end segments ≤ load_end
highest_end-le from [] lie = omega arith
highest_end-le from (s ∷ rest) lie =
    let e = highest_end-le (rounded_end s) rest lie.5 in
    let l = lie.3 in
    omega arith

length-segment_area : (s : Segment) → IsPlaced s → length (segment_area s).bytes ≡ rounded_end s - rounded_low s
length-segment_area s p =
    let front = length-zeros (s.vaddr - rounded_low s) in
    let back = length-zeros (rounded_end s - (s.vaddr + length s.bytes)) in
    let inner = length-append s.bytes (zeros (rounded_end s - (s.vaddr + length s.bytes))) in
    let outer = length-append (zeros (s.vaddr - rounded_low s)) (s.bytes ++ zeros (rounded_end s - (s.vaddr + length s.bytes))) in
    let bytes = p.bytes in
    omega arith

LieFrom-below : (from top : ℕ) (m : List Area) → from ≤ top → AreasLieFrom top m → AreasLieFrom from m
LieFrom-below from top [] h lie = tt
LieFrom-below from top (a ∷ rest) h lie = let l = lie.0 in (omega arith, lie.1, lie.2, lie.3, lie.4, lie.5)

segments-lie : (from top : ℕ) (segments : List Segment) (m : List Area) → SegmentsLieFrom from segments → from ≤ top → highest_end segments ≤ top → AreasLieFrom top m → AreasLieFrom from (segment_areas segments ++ m)
segments-lie from top [] m lie below high rest = LieFrom-below from top m below rest
segments-lie from top (s ∷ others) m lie below high rest =
    let p : IsPlaced s = record { bytes = lie.2; end = lie.3 } in
    let low = lie.0 in
    let fits = lie.3 in
    let size = length-segment_area s p in
    let ends : rounded_end s ≡ end_of (segment_area s) = omega arith in
    let later = segments-lie (rounded_end s) top others m lie.5 (omega arith) (omega arith) rest in
    (low, omega arith, omega arith, omega arith, let P : ℕ → Type 0 = λ n. AreasLieFrom n (segment_areas others ++ m) in subst P ends later, lie.4)

data-lie : (from low size : ℕ) (m : List Area) → from ≤ low → low % 8 ≡ 0 → size % 8 ≡ 0 → low + size < 2 ^ 63 → AreasLieFrom (low + size) m → AreasLieFrom from (data_area low size ∷ m)
data-lie from low size m below even length_even fits rest =
    let long = length-zeros size in
    (below, even, rw long length_even, rw long fits, rw long rest, refl)

-- the areas of an executable lie as those of a memory
pub areas-lie : (elf : Elf) → IsLoadable elf → AreasLieFrom 0 (areas_of elf)
areas-lie elf is =
    let high = highest_end-le 0 elf.segments is.apart in
    let stack = data-lie (heap_low elf.segments + heap_size) stack_low stack_size [] (omega arith) (omega arith) (omega arith) (omega arith) tt in
    let heap = data-lie (heap_low elf.segments) (heap_low elf.segments) heap_size (data_area stack_low stack_size ∷ []) (omega arith) (omega arith) (omega arith) (omega arith) stack in
    segments-lie 0 (heap_low elf.segments) elf.segments (data_area (heap_low elf.segments) heap_size ∷ (data_area stack_low stack_size ∷ [])) is.apart (omega arith) (omega arith) heap

-- behind the last segment
pub end-all : (segments : List Segment) (i end : ℕ) → length segments ≤ i → max end (highest_end (drop i segments)) ≡ highest_end segments → end ≡ highest_end segments
end-all segments i end h e =
    let none : highest_end (drop i segments) ≡ 0 = at_drop_all highest_end segments i h in
    omega arith

pub areas-all : (elf : Elf) (segments : List Segment) (i : ℕ) (before two three : List Area) (heap stack : Area) → segments ≡ elf.segments → length segments ≤ i
    → before ++ segment_areas (drop i segments) ≡ segment_areas segments
    → heap ≡ data_area (heap_low elf.segments) heap_size → stack ≡ data_area stack_low stack_size → two ≡ before ++ heap ∷ [] → three ≡ two ++ stack ∷ []
    → three ≡ areas_of elf
areas-all elf segments i before two three heap stack is h loads low high second third =
    let none : segment_areas (drop i segments) ≡ [] = at_drop_all segment_areas segments i h in
    let all : before ≡ segment_areas elf.segments = sym (append-nil before) ∙ ap (λ (v : List Area). before ++ v) (sym none) ∙ loads ∙ ap segment_areas is in
    rw (third, second, all, low, high)
    (append_assoc (segment_areas elf.segments) (data_area (heap_low elf.segments) heap_size ∷ []) (data_area stack_low stack_size ∷ []))
