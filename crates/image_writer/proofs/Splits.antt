-- What a file is split into, by its tests.
use Rattle.std.proofs.Common.{◌≡◌, ℕ, ◌<◌, true, false, List, [], length, drop, refl, ap, sym, arith}
use Rattle.std.proofs.lemmas.List.{drop_all}
use Rattle.image_writer.specs.declared.splitting.Split.TheVariants.{Plain, BadMark}
use Rattle.elf_image.specs.Header.{program_header}
use Rattle.image_writer.specs.Split.{is_marked, last_header_place, marked_bytes, is_record, read_record, parts_of, split_of}

pub split-plain : (bytes : List ℕ) → is_marked bytes ≡ false → split_of bytes ≡ Plain
unfolding split_of
split-plain bytes h = rw h refl

pub split-bad : (bytes : List ℕ) → is_marked bytes ≡ true → is_record (length bytes) (marked_bytes bytes) ≡ false → split_of bytes ≡ BadMark
unfolding split_of
split-bad bytes h r = rw (h, r) refl

pub split-parts : (bytes rest : List ℕ) → is_marked bytes ≡ true → marked_bytes bytes ≡ rest → is_record (length bytes) rest ≡ true
    → split_of bytes ≡ parts_of bytes rest (read_record rest)
unfolding split_of
split-parts bytes rest h e r = rw (h, e, r) refl

pub no_record : (size : ℕ) → is_record size [] ≡ false
unfolding is_record
no_record size = refl

pub beyond : (size place : ℕ) (bytes : List ℕ) → length bytes < place → is_record size (drop place bytes) ≡ false
beyond size place bytes h = rw (drop_all place bytes (omega arith)) (no_record size)

pub marked-at : (bytes : List ℕ) (place : ℕ) → place ≡ (program_header bytes (last_header_place bytes)).offset → marked_bytes bytes ≡ drop place bytes
unfolding marked_bytes
marked-at bytes place e = ap (λ (p : ℕ). drop p bytes) (sym e)
