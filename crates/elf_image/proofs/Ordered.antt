-- The segments of headers whose areas are apart, in address order.
use Rattle.std.proofs.Common.{◌≡◌, ℕ, suc, ◌+◌, ◌*◌, ◌-◌, ◌%◌, ◌<◌, ◌≤◌, ◌==◌, ◌&&◌, ◌||◌, ◌⊎◌, inl, inr, nat_le, nat_lt, Bool, true, false, List, [], ◌∷◌, length, drop, if◌then◌else◌, refl, ap, ◌∙◌, arith}
use Rattle.std.proofs.lemmas.Bool.{and_parts, ltb-true}
use Rattle.std.proofs.lemmas.Bool.Decides.{nat_tests}
use Rattle.std.proofs.lemmas.List.{length-take-le, length-drop}
use Rattle.elf_image.specs.declared.header.ProgramHeader.{ProgramHeader}
use Rattle.elf_image.specs.declared.image.Segment.{Segment}
use Rattle.elf_image.specs.declared.rules.HeaderRule.TheVariants.{SegmentSize, SegmentCut, WritableCode, Range}
use Rattle.elf_image.specs.Header.{file_header, program_headers, HasHeaders}
use Rattle.elf_image.specs.Layout.{LieFrom, IsLoadable, load_end, rounded_low, rounded_end, rounded_length, is_writable, is_executable, in_code, total_length}
use Rattle.elf_image.specs.Rules.{breaks, makes_area, place_of, places_of, range_low, range_end, meet}
use Rattle.elf_image.specs.Reading.{segment_of, with_segment, segments_from, segments_of, elf_of}
use Rattle.elf_image.proofs.Passed.{IsWhole, PassesRules, NoneHas, Apart, none_has, is_below, is_whole, is_sized, is_strict, length-headers}

-- ---- one more segment

-- a segment that may be loaded
record IsFit (s : Segment) : Type 0 where
  some : 0 < s.memsz
  sized : length s.bytes ≤ s.memsz
  below : s.vaddr + s.memsz ≤ load_end
  strict : (is_writable s && is_executable s) ≡ false

-- the areas of the segment and of each of these are apart
abbrev Clear : Segment → List Segment → Type 0
Clear s [] = Unit {0}
Clear s (t ∷ rest) = ((rounded_end s ≤ rounded_low t) ⊎ (rounded_end t ≤ rounded_low s)) × Clear s rest

-- if it starts below another, it ends before it
ends_before : (s t : Segment) → 0 < t.memsz → s.vaddr < t.vaddr → (rounded_end s ≤ rounded_low t) ⊎ (rounded_end t ≤ rounded_low s) → rounded_end s ≤ rounded_low t
ends_before s t some h (inl e) = e
ends_before s t some h (inr e) = absurd (omega arith)

starts_behind : (s t : Segment) → 0 < s.memsz → t.vaddr ≤ s.vaddr → (rounded_end s ≤ rounded_low t) ⊎ (rounded_end t ≤ rounded_low s) → rounded_end t ≤ rounded_low s
starts_behind s t some h (inl e) = absurd (omega arith)
starts_behind s t some h (inr e) = e

placed_lies : (from : ℕ) (s : Segment) (xs : List Segment) → IsFit s → from ≤ rounded_low s → Clear s xs → LieFrom from xs → LieFrom from (with_segment s xs)
placed_lies from s [] fit low clear lie = (low, fit.some, fit.sized, fit.below, fit.strict, tt)
placed_lies from s (t ∷ rest) fit low clear lie = go (nat_lt s.vaddr t.vaddr) refl (λ end. placed_lies (rounded_end t) s rest fit end clear.1 lie.5)
  where
    go : (b : Bool) → nat_lt s.vaddr t.vaddr ≡ b → (rounded_end t ≤ rounded_low s → LieFrom (rounded_end t) (with_segment s rest)) → LieFrom from (if b then s ∷ (t ∷ rest) else t ∷ with_segment s rest)
    go true e later =
        let end = ends_before s t lie.1 (ltb-true _ _ e) clear.0 in
        (low, fit.some, fit.sized, fit.below, fit.strict, (end, lie.1, lie.2, lie.3, lie.4, lie.5))
    go false e later =
        let start : t.vaddr ≤ s.vaddr = grind (arith, nat_tests) in
        let end = starts_behind s t fit.some start clear.0 in
        (lie.0, lie.1, lie.2, lie.3, lie.4, later end)

clear_placed : (s t : Segment) (xs : List Segment) → (rounded_end s ≤ rounded_low t) ⊎ (rounded_end t ≤ rounded_low s) → Clear s xs → Clear s (with_segment t xs)
clear_placed s t [] apart clear = (apart, tt)
clear_placed s t (x ∷ rest) apart clear = go (nat_lt t.vaddr x.vaddr) (clear_placed s t rest apart clear.1)
  where
    go : (b : Bool) → Clear s (with_segment t rest) → Clear s (if b then t ∷ (x ∷ rest) else x ∷ with_segment t rest)
    go true later = (apart, clear)
    go false later = (clear.0, later)

length-placed : (s : Segment) (xs : List Segment) → length (with_segment s xs) ≡ suc (length xs)
length-placed s [] = refl
length-placed s (t ∷ rest) = go (nat_lt s.vaddr t.vaddr) (length-placed s rest)
  where
    go : (b : Bool) → length (with_segment s rest) ≡ suc (length rest) → length (if b then s ∷ (t ∷ rest) else t ∷ with_segment s rest) ≡ suc (suc (length rest))
    go true later = refl
    go false later = ap suc later

total-placed : (s : Segment) (xs : List Segment) → total_length (with_segment s xs) ≡ rounded_length s + total_length xs
total-placed s [] = refl
total-placed s (t ∷ rest) = go (nat_lt s.vaddr t.vaddr) (total-placed s rest)
  where
    go : (b : Bool) → total_length (with_segment s rest) ≡ rounded_length s + total_length rest → total_length (if b then s ∷ (t ∷ rest) else t ∷ with_segment s rest) ≡ rounded_length s + (rounded_length t + total_length rest)
    go true later = refl
    go false later = omega arith

or_swap : (a b c : Bool) → (a || (b || c)) ≡ (b || (a || c))
or_swap true true c = refl
or_swap true false c = refl
or_swap false true c = refl
or_swap false false c = refl

code-placed : (s : Segment) (xs : List Segment) (addr : ℕ) → in_code (with_segment s xs) addr ≡ in_code (s ∷ xs) addr
code-placed s [] addr = refl
code-placed s (t ∷ rest) addr = go (nat_lt s.vaddr t.vaddr) (code-placed s rest addr)
  where
    go : (b : Bool) → in_code (with_segment s rest) addr ≡ in_code (s ∷ rest) addr → in_code (if b then s ∷ (t ∷ rest) else t ∷ with_segment s rest) addr ≡ in_code (s ∷ (t ∷ rest)) addr
    go true later = refl
    go false later =
        ap (λ (b : Bool). is_executable t && (nat_le (rounded_low t) addr && nat_lt addr (rounded_end t)) || b) later
        ∙ or_swap (is_executable t && (nat_le (rounded_low t) addr && nat_lt addr (rounded_end t))) (is_executable s && (nat_le (rounded_low s) addr && nat_lt addr (rounded_end s))) (in_code rest addr)

-- ---- all of them

fit_of : (bytes : List ℕ) (i : ℕ) (h : ProgramHeader) → makes_area h ≡ true → breaks SegmentSize (length bytes) h ≡ false → breaks SegmentCut (length bytes) h ≡ false
    → breaks WritableCode (length bytes) h ≡ false → breaks Range (length bytes) h ≡ false → IsFit (segment_of bytes i h)
fit_of bytes i h m sized cut strict range =
    let rest = length-drop h.offset bytes in
    let whole = is_whole (length bytes) h cut m in
    let n = is_sized (length bytes) h sized m in
    let size = length-take-le h.filesz (drop h.offset bytes) (omega arith) in
    record {
      some = ltb-true _ _ ((and_parts _ _ m).1);
      sized = omega arith;
      below = is_below (length bytes) h range m;
      strict = is_strict (length bytes) h strict m;
    }

not_meeting : (a b : ProgramHeader) → makes_area a ≡ true → makes_area b ≡ true → meet a b ≡ false → (range_end a ≤ range_low b) ⊎ (range_end b ≤ range_low a)
unfolding meet
not_meeting a b m n e = go (nat_lt (range_low a) (range_end b)) (nat_lt (range_low b) (range_end a)) refl refl (rw (m, n) at e)
  where
    go : (p q : Bool) → nat_lt (range_low a) (range_end b) ≡ p → nat_lt (range_low b) (range_end a) ≡ q → (p && q) ≡ false → (range_end a ≤ range_low b) ⊎ (range_end b ≤ range_low a)
    go true true f g e = absurd (cc)
    go false q f g e = inr (grind (arith, nat_tests))
    go true false f g e = inl (grind (arith, nat_tests))

clear_of : (bytes : List ℕ) (i j : ℕ) (h : ProgramHeader) (hs : List ProgramHeader) → makes_area h ≡ true → NoneHas (meet h) hs → Clear (segment_of bytes i h) (segments_from bytes j hs)
clear_of bytes i j h [] m none = tt
clear_of bytes i j h (x ∷ rest) m none = go (makes_area x) refl (clear_of bytes i (suc j) h rest m none.1)
  where
    go : (b : Bool) → makes_area x ≡ b → Clear (segment_of bytes i h) (segments_from bytes (suc j) rest) → Clear (segment_of bytes i h) (if b then with_segment (segment_of bytes j x) (segments_from bytes (suc j) rest) else segments_from bytes (suc j) rest)
    go true n later = clear_placed (segment_of bytes i h) (segment_of bytes j x) (segments_from bytes (suc j) rest) (not_meeting h x m n none.0) later
    go false n later = later

lie_from : (bytes : List ℕ) (i : ℕ) (hs : List ProgramHeader) → NoneHas (breaks SegmentSize (length bytes)) hs → NoneHas (breaks SegmentCut (length bytes)) hs
    → NoneHas (breaks WritableCode (length bytes)) hs → NoneHas (breaks Range (length bytes)) hs → Apart hs → LieFrom 0 (segments_from bytes i hs)
lie_from bytes i [] sized cut strict range apart = tt
lie_from bytes i (h ∷ rest) sized cut strict range apart = go (makes_area h) refl (lie_from bytes (suc i) rest sized.1 cut.1 strict.1 range.1 apart.1)
  where
    go : (b : Bool) → makes_area h ≡ b → LieFrom 0 (segments_from bytes (suc i) rest) → LieFrom 0 (if b then with_segment (segment_of bytes i h) (segments_from bytes (suc i) rest) else segments_from bytes (suc i) rest)
    go true m later =
        placed_lies 0 (segment_of bytes i h) (segments_from bytes (suc i) rest) (fit_of bytes i h m sized.0 cut.0 strict.0 range.0) (omega arith)
        (clear_of bytes i (suc i) h rest m apart.0) later
    go false m later = later

few_from : (bytes : List ℕ) (i : ℕ) (hs : List ProgramHeader) → length (segments_from bytes i hs) ≤ length hs
few_from bytes i [] = omega arith
few_from bytes i (h ∷ rest) = go (makes_area h) (few_from bytes (suc i) rest)
  where
    go : (b : Bool) → length (segments_from bytes (suc i) rest) ≤ length rest → length (if b then with_segment (segment_of bytes i h) (segments_from bytes (suc i) rest) else segments_from bytes (suc i) rest) ≤ suc (length rest)
    go true later = let e = length-placed (segment_of bytes i h) (segments_from bytes (suc i) rest) in omega arith
    go false later = omega arith

total_from : (bytes : List ℕ) (i : ℕ) (hs : List ProgramHeader) → total_length (segments_from bytes i hs) ≡ total_length (places_of hs)
total_from bytes i [] = refl
total_from bytes i (h ∷ rest) = go (makes_area h) (total_from bytes (suc i) rest)
  where
    go : (b : Bool) → total_length (segments_from bytes (suc i) rest) ≡ total_length (places_of rest)
        → total_length (if b then with_segment (segment_of bytes i h) (segments_from bytes (suc i) rest) else segments_from bytes (suc i) rest)
        ≡ total_length (if b then place_of h ∷ places_of rest else places_of rest)
    go true later = total-placed (segment_of bytes i h) (segments_from bytes (suc i) rest) ∙ ap (λ (n : ℕ). range_end h - range_low h + n) later
    go false later = later

code_from : (bytes : List ℕ) (i : ℕ) (hs : List ProgramHeader) (addr : ℕ) → in_code (segments_from bytes i hs) addr ≡ in_code (places_of hs) addr
code_from bytes i [] addr = refl
code_from bytes i (h ∷ rest) addr = go (makes_area h) (code_from bytes (suc i) rest addr)
  where
    go : (b : Bool) → in_code (segments_from bytes (suc i) rest) addr ≡ in_code (places_of rest) addr
        → in_code (if b then with_segment (segment_of bytes i h) (segments_from bytes (suc i) rest) else segments_from bytes (suc i) rest) addr
        ≡ in_code (if b then place_of h ∷ places_of rest else places_of rest) addr
    go true later =
        code-placed (segment_of bytes i h) (segments_from bytes (suc i) rest) addr
        ∙ ap (λ (b : Bool). h.flags % 2 == 1 && (nat_le (range_low h) addr && nat_lt addr (range_end h)) || b) later
    go false later = later

-- ---- the executable

pub is_loadable : (bytes : List ℕ) → IsWhole bytes → PassesRules (length bytes) (file_header bytes).entry (program_headers bytes) → IsLoadable (elf_of bytes)
unfolding segments_of
is_loadable bytes w p =
    let hs = program_headers bytes in
    let n = length-headers bytes in
    let few = few_from bytes 0 hs in
    let total = total_from bytes 0 hs in
    record {
      few = let f = w.few in omega arith;
      apart = lie_from bytes 0 hs p.rules.sized (none_has (breaks SegmentCut (length bytes)) 0 hs p.rules.whole) p.rules.strict p.rules.below p.apart;
      size = let s = p.small in omega arith;
      aligned = p.aligned;
      entry = code_from bytes 0 hs (file_header bytes).entry ∙ p.code;
    }

-- an executable area needs a header
some_header : (hs : List ProgramHeader) (addr : ℕ) → in_code (places_of hs) addr ≡ true → 1 ≤ length hs
some_header [] addr h = absurd (cc)
some_header (h ∷ rest) addr e = omega arith

pub has_headers : (bytes : List ℕ) → IsWhole bytes → PassesRules (length bytes) (file_header bytes).entry (program_headers bytes) → HasHeaders bytes
has_headers bytes w p = go w.within
  where
    go : ((file_header bytes).phnum ≡ 0) ⊎ ((file_header bytes).phoff + 56 * (file_header bytes).phnum ≤ length bytes) → HasHeaders bytes
    go (inl none) = let n = length-headers bytes in let some = some_header (program_headers bytes) _ p.code in absurd (omega arith)
    go (inr within) =
        let n = length-headers bytes in
        let some = some_header (program_headers bytes) _ p.code in
        record { elf = w.elf; long = w.long; some = omega arith; few = w.few; within = within }
