-- One entry or word of a list that is read from bytes.
use Rattle.std.proofs.Common.{◌≡◌, ℕ, suc, ◌+◌, ◌-◌, ◌*◌, ◌<◌, List, [], ◌∷◌, ◌++◌, refl, ap, sym, ◌∙◌, arith, append_assoc}
use Rattle.elf_image.specs.Header.{field}
use Rattle.image_writer.specs.declared.image.Entry.{Entry}
use Rattle.image_writer.specs.Split.{entries_from, words_from}

abbrev pub entry_at : List ℕ → ℕ → Entry
entry_at bytes place = record { header = field 8 place bytes; stub = field 8 (place + 8) bytes }

entries_from-suc : (bytes : List ℕ) (p q n m : ℕ) → n ≡ suc m → q ≡ p + 16 → entries_from bytes p n ≡ entry_at bytes p ∷ entries_from bytes q m
entries_from-suc bytes p q n m e f = rw (e, f) refl

pub entries_step : (bytes : List ℕ) (i count : ℕ) (xs ys all : List Entry) (e : Entry) → i < count
    → xs ++ entries_from bytes (48 + 16 * i) (count - i) ≡ all → ys ≡ xs ++ e ∷ [] → e ≡ entry_at bytes (48 + 16 * i)
    → ys ++ entries_from bytes (48 + 16 * (i + 1)) (count - (i + 1)) ≡ all
entries_step bytes i count xs ys all e h before pushed is =
    let one = entries_from-suc bytes (48 + 16 * i) (48 + 16 * (i + 1)) (count - i) (count - (i + 1)) (omega arith) (omega arith) in
    rw (pushed, is, append_assoc) (ap (λ (r : List Entry). xs ++ r) (sym one) ∙ before)

words_from-suc : (bytes : List ℕ) (p q n m : ℕ) → n ≡ suc m → q ≡ p + 4 → words_from bytes p n ≡ field 4 p bytes ∷ words_from bytes q m
words_from-suc bytes p q n m e f = rw (e, f) refl

pub words_step : (bytes : List ℕ) (place i count : ℕ) (xs ys all : List ℕ) (e : ℕ) → i < count
    → xs ++ words_from bytes (place + 4 * i) (count - i) ≡ all → ys ≡ xs ++ e ∷ [] → e ≡ field 4 (place + 4 * i) bytes
    → ys ++ words_from bytes (place + 4 * (i + 1)) (count - (i + 1)) ≡ all
words_step bytes place i count xs ys all e h before pushed is =
    let one = words_from-suc bytes (place + 4 * i) (place + 4 * (i + 1)) (count - i) (count - (i + 1)) (omega arith) (omega arith) in
    rw (pushed, is, append_assoc) (ap (λ (r : List ℕ). xs ++ r) (sym one) ∙ before)
