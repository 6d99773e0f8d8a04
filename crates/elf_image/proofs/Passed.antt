-- What is known of a file that no rule refuses.
use Rattle.std.proofs.Common.{◌≡◌, ℕ, zero, suc, ◌+◌, ◌*◌, ◌/◌, ◌%◌, ◌<◌, ◌≤◌, ◌==◌, ◌&&◌, ◌||◌, ◌⊎◌, inl, inr, nat_le, Bool, true, false, List, [], ◌∷◌, length, get_or, Option, Some, None, Ok, Err, Result, if◌then◌else◌, refl, ap, sym, arith}
use Rattle.std.proofs.lemmas.Bool.{and_parts, leb-true, eqb-true}
use Rattle.std.proofs.lemmas.Bool.Decides.{nat_tests}
use Rattle.elf_image.specs.declared.rules.ElfErr.{ElfErr}
use Rattle.elf_image.specs.declared.rules.HeaderRule.{HeaderRule}
use Rattle.elf_image.specs.declared.rules.HeaderRule.TheVariants.{SegmentSize, SegmentCut, WritableCode, Range}
use Rattle.elf_image.specs.declared.header.ProgramHeader.{ProgramHeader}
use Rattle.elf_image.specs.Header.{is_elf, file_header, program_headers, program_headers_from}
use Rattle.elf_image.specs.Layout.{load_end, total_length, in_code}
use Rattle.elf_image.specs.Rules.{unless, first_of, file_rules, file_refusal, table_rules, breaks, makes_area, first_place, refused_at, headers_rules, headers_refusal, place_of, places_of, meet, overlap_from, overlap_or, program_rules, program_refusal}
use Rattle.elf_image.specs.declared.rules.ElfErr.TheVariants.{OutOfMemory}
use Rattle.elf_image.specs.declared.image.Elf.{Elf}
use Rattle.elf_image.specs.Reading.{refusal_of, reading_of, elf_of, IsReading}

-- ---- lists of rules

abbrev AreMet : List (Option ElfErr) → Type 0
AreMet [] = Unit {0}
AreMet (e ∷ rest) = (e ≡ None) × AreMet rest

are_met : (rules : List (Option ElfErr)) → first_of rules ≡ None → AreMet rules
are_met [] h = tt
are_met (None ∷ rest) h = (refl, are_met rest h)
are_met (Some e ∷ rest) h = absurd (cc)

unless_none : (b : Bool) (e : ElfErr) → unless b e ≡ None → b ≡ true
unless_none true e h = refl
unless_none false e h = absurd (cc)

-- ---- the file

-- the program headers lie in the file
in_file : (a : Bool) (phnum phoff size : ℕ) → a ≡ (phnum == 0) → (a || nat_le (phoff + 56 * phnum) size) ≡ true → (phnum ≡ 0) ⊎ (phoff + 56 * phnum ≤ size)
in_file true phnum phoff size e h = inl (eqb-true _ _ (sym e))
in_file false phnum phoff size e h = inr (leb-true _ _ h)

pub record IsWhole (bytes : List ℕ) : Type 0 where
  pub elf : is_elf bytes ≡ true
  pub short : length bytes ≤ 67108864
  pub long : 64 ≤ length bytes
  pub few : (file_header bytes).phnum ≤ 64
  pub within : ((file_header bytes).phnum ≡ 0) ⊎ ((file_header bytes).phoff + 56 * (file_header bytes).phnum ≤ length bytes)

pub file_passed : (bytes : List ℕ) → file_refusal bytes ≡ None → IsWhole bytes
unfolding file_refusal
file_passed bytes h =
    let f = are_met (file_rules bytes) h in
    let t = are_met (table_rules (length bytes) (file_header bytes)) f.1.1.1.1.0 in
    record {
      elf = unless_none _ _ f.1.0;
      short = leb-true _ _ (unless_none _ _ f.0);
      long = leb-true _ _ (unless_none _ _ f.1.1.0);
      few = leb-true _ _ (unless_none _ _ t.1.0);
      within = in_file _ (file_header bytes).phnum (file_header bytes).phoff (length bytes) refl (unless_none _ _ t.0);
    }

-- where one of them lies
pub header_within : (phnum phoff size i : ℕ) → i < phnum → (phnum ≡ 0) ⊎ (phoff + 56 * phnum ≤ size) → phoff + 56 * i + 56 ≤ size
header_within phnum phoff size i h (inl none) = absurd (omega arith)
header_within phnum phoff size i h (inr within) = omega arith

length-headers_from : (bytes : List ℕ) (place n : ℕ) → length (program_headers_from bytes place n) ≡ n
length-headers_from bytes place zero = refl
length-headers_from bytes place (suc n) = ap suc (length-headers_from bytes (place + 56) n)

pub length-headers : (bytes : List ℕ) → length (program_headers bytes) ≡ (file_header bytes).phnum
unfolding program_headers
length-headers bytes = length-headers_from bytes (file_header bytes).phoff (file_header bytes).phnum

-- ---- each header

-- the test holds for none of the headers
abbrev pub NoneHas : (ProgramHeader → Bool) → List ProgramHeader → Type 0
NoneHas test [] = Unit {0}
NoneHas test (h ∷ rest) = (test h ≡ false) × NoneHas test rest

pub none_has : (test : ProgramHeader → Bool) (i : ℕ) (hs : List ProgramHeader) → first_place test i hs ≡ None → NoneHas test hs
none_has test i [] e = tt
none_has test i (h ∷ rest) e = go (test h) refl e (none_has test (suc i) rest)
  where
    go : (b : Bool) → test h ≡ b → (if b then Some i else first_place test (suc i) rest) ≡ None → (first_place test (suc i) rest ≡ None → NoneHas test rest) → (test h ≡ false) × NoneHas test rest
    go true t e later = absurd (cc)
    go false t e later = (t, later e)

pub has_not : (test : ProgramHeader → Bool) (hs : List ProgramHeader) (i : ℕ) (d : ProgramHeader) → NoneHas test hs → i < length hs → test (get_or hs i d) ≡ false
has_not test [] i d all h = absurd (omega arith)
has_not test (h ∷ rest) zero d all l = all.0
has_not test (h ∷ rest) (suc i) d all l = has_not test rest i d all.1 (omega arith)

rule_met : (rule : HeaderRule) (place : Option ℕ) → refused_at rule place ≡ None → place ≡ None
rule_met rule None e = refl
rule_met rule (Some i) e = absurd (cc)

-- the rules that the memory rests on
pub record MeetRules (size : ℕ) (hs : List ProgramHeader) : Type 0 where
  pub sized : NoneHas (breaks SegmentSize size) hs
  pub whole : first_place (breaks SegmentCut size) 0 hs ≡ None
  pub strict : NoneHas (breaks WritableCode size) hs
  pub below : NoneHas (breaks Range size) hs

pub headers_passed : (size : ℕ) (hs : List ProgramHeader) → headers_refusal size hs ≡ None → MeetRules size hs
unfolding headers_refusal
headers_passed size hs h =
    let r = are_met (headers_rules size hs) h in
    record {
      sized = none_has (breaks SegmentSize size) 0 hs (rule_met SegmentSize _ r.1.0);
      whole = rule_met SegmentCut _ r.1.1.0;
      strict = none_has (breaks WritableCode size) 0 hs (rule_met WritableCode _ r.1.1.1.1.0);
      below = none_has (breaks Range size) 0 hs (rule_met Range _ r.1.1.1.1.1.0);
    }

and_false : (a b : Bool) → (a && b) ≡ false → a ≡ true → b ≡ false
and_false true b h e = h
and_false false b h e = absurd (cc)

load_of_area : (h : ProgramHeader) → makes_area h ≡ true → (h.kind == 1) ≡ true
load_of_area h m = (and_parts _ _ m).0

pub is_below : (size : ℕ) (h : ProgramHeader) → breaks Range size h ≡ false → makes_area h ≡ true → h.vaddr + h.memsz ≤ load_end
unfolding breaks
is_below size h b m = let t = and_false _ _ b m in grind (arith, nat_tests)

pub is_whole : (size : ℕ) (h : ProgramHeader) → breaks SegmentCut size h ≡ false → makes_area h ≡ true → h.offset + h.filesz ≤ size
unfolding breaks
is_whole size h b m = let t = and_false _ _ b (load_of_area h m) in grind (arith, nat_tests)

pub is_sized : (size : ℕ) (h : ProgramHeader) → breaks SegmentSize size h ≡ false → makes_area h ≡ true → h.filesz ≤ h.memsz
unfolding breaks
is_sized size h b m = let t = and_false _ _ b (load_of_area h m) in grind (arith, nat_tests)

pub is_strict : (size : ℕ) (h : ProgramHeader) → breaks WritableCode size h ≡ false → makes_area h ≡ true → ((h.flags / 2 % 2 == 1) && (h.flags % 2 == 1)) ≡ false
unfolding breaks
is_strict size h b m = and_false _ _ b (load_of_area h m)

-- how many bytes the areas have at most
pub total-le : (size : ℕ) (hs : List ProgramHeader) → NoneHas (breaks Range size) hs
    → total_length (places_of hs) ≤ length hs * 0x5000_0010
total-le size [] all = omega arith
total-le size (h ∷ rest) all = go (makes_area h) refl (total-le size rest all.1)
  where
    go : (b : Bool) → makes_area h ≡ b → total_length (places_of rest) ≤ length rest * 0x5000_0010
        → total_length (if b then place_of h ∷ places_of rest else places_of rest) ≤ suc (length rest) * 0x5000_0010
    go true m later = let below = is_below size h all.0 m in omega arith
    go false m later = omega arith

-- ---- overlap_or

-- no two headers' areas meet
abbrev pub Apart : List ProgramHeader → Type 0
Apart [] = Unit {0}
Apart (h ∷ rest) = NoneHas (meet h) rest × Apart rest

pub apart_from : (i : ℕ) (hs : List ProgramHeader) → overlap_from i hs ≡ None → Apart hs
apart_from i [] e = tt
apart_from i (h ∷ rest) e = go (first_place (meet h) (suc i) rest) refl e (apart_from (suc i) rest)
  where
    go : (place : Option ℕ) → first_place (meet h) (suc i) rest ≡ place → overlap_or i place (overlap_from (suc i) rest) ≡ None → (overlap_from (suc i) rest ≡ None → Apart rest) → NoneHas (meet h) rest × Apart rest
    go None p e later = (none_has (meet h) (suc i) rest p, later e)
    go (Some j) p e later = absurd (cc)

-- ---- all rules

pub record PassesRules (size entry : ℕ) (hs : List ProgramHeader) : Type 0 where
  pub rules : MeetRules size hs
  pub small : total_length (places_of hs) ≤ 268435456
  pub apart : Apart hs
  pub aligned : entry % 4 ≡ 0
  pub code : in_code (places_of hs) entry ≡ true

pub program_passed : (size entry : ℕ) (hs : List ProgramHeader) → program_refusal size entry hs ≡ None → PassesRules size entry hs
unfolding program_refusal
program_passed size entry hs h =
    let r = are_met (program_rules size entry hs) h in
    let e = and_parts _ _ (unless_none _ _ r.1.1.1.0) in
    record {
      rules = headers_passed size hs r.0;
      small = leb-true _ _ (unless_none _ _ r.1.0);
      apart = apart_from 0 hs r.1.1.0;
      aligned = eqb-true _ _ e.0;
      code = e.1;
    }

-- ---- the answer

pub refused_file : (bytes : List ℕ) (e : ElfErr) → file_refusal bytes ≡ Some e → refusal_of bytes ≡ Some e
unfolding refusal_of
refused_file bytes e h = rw h refl

pub refused_program : (bytes : List ℕ) (e : ElfErr) → file_refusal bytes ≡ None → program_refusal (length bytes) (file_header bytes).entry (program_headers bytes) ≡ Some e → refusal_of bytes ≡ Some e
unfolding refusal_of
refused_program bytes e f h = rw (f, h) refl

pub not_refused : (bytes : List ℕ) → file_refusal bytes ≡ None → program_refusal (length bytes) (file_header bytes).entry (program_headers bytes) ≡ None → refusal_of bytes ≡ None
unfolding refusal_of
not_refused bytes f h = rw (f, h) refl

pub reading-refused : (bytes : List ℕ) (e : ElfErr) → refusal_of bytes ≡ Some e → reading_of bytes ≡ Err e
unfolding reading_of
reading-refused bytes e h = rw h refl

pub reading-passed : (bytes : List ℕ) → refusal_of bytes ≡ None → reading_of bytes ≡ Ok (elf_of bytes)
unfolding reading_of
reading-passed bytes h = rw h refl

-- a refusal is a reading
pub is_reading : (reading : Result Elf ElfErr) (e : ElfErr) → reading ≡ Err e → IsReading reading (Err e)
is_reading reading OutOfMemory h = tt
is_reading reading _ h = h
