-- A file with another place and number of program headers.
use Rattle.std.proofs.Common.{◌≡◌, ℕ, ◌+◌, ◌^◌, ◌<◌, ◌≤◌, nat_eq, List, [], ◌∷◌, ◌++◌, length, take, drop, get_or, refl, ap, sym, ◌∙◌, arith, append_assoc, length-append}
use Rattle.std.proofs.lemmas.List.{drop-drop, drop_at, take_at, take-take, take-append-le, take-append-drop, length-take-le, length-drop}
use Rattle.std.specs.Cmp.Lexicographic.{pointwise}
use Rattle.elf_image.specs.Header.{field, is_elf}
use Rattle.image_writer.specs.Image.{number, with_headers}
use Rattle.image_writer.proofs.Fields.{field-past, field-first, length-number, number-field2, number-field8}

-- the parts of a file of at least 64 bytes round the two fields
front-length : (o : List ℕ) → 64 ≤ length o → length (take 32 o) ≡ 32
front-length o h = length-take-le 32 o (omega arith)

middle-length : (o : List ℕ) → 64 ≤ length o → length (take 16 (drop 40 o)) ≡ 16
middle-length o h = let e = length-drop 40 o in length-take-le 16 (drop 40 o) (omega (arith, e))

pub length-with_headers : (p n : ℕ) (o : List ℕ) → 64 ≤ length o → length (with_headers p n o) ≡ length o
unfolding with_headers
length-with_headers p n o h =
    let a = front-length o h in
    let b = middle-length o h in
    let c = length-drop 58 o in
    let d = length-number 8 p in
    let e = length-number 2 n in
    simp length-append (omega (arith, a, b, c, d, e))

pub phoff-with_headers : (p n : ℕ) (o rest : List ℕ) → 64 ≤ length o → p < 256 ^ 8 → field 8 32 (with_headers p n o ++ rest) ≡ p
unfolding with_headers
phoff-with_headers p n o rest h fits =
    rw (append_assoc, append_assoc)
    (field-past 8 32 0 32 (take 32 o) _ (front-length o h) refl ∙ field-first 8 p _ fits)

pub phnum-with_headers : (p n : ℕ) (o rest : List ℕ) → 64 ≤ length o → n < 256 ^ 2 → field 2 56 (with_headers p n o ++ rest) ≡ n
unfolding with_headers
phnum-with_headers p n o rest h fits =
    rw (append_assoc, append_assoc, append_assoc, append_assoc)
    (field-past 2 32 24 56 (take 32 o) _ (front-length o h) refl
    ∙ field-past 2 8 16 24 (number 8 p) _ (length-number 8 p) refl
    ∙ field-past 2 16 0 16 (take 16 (drop 40 o)) _ (middle-length o h) refl
    ∙ field-first 2 n _ fits)

pub elf-with_headers : (p n : ℕ) (o rest : List ℕ) → 64 ≤ length o → is_elf (with_headers p n o ++ rest) ≡ is_elf o
unfolding with_headers
elf-with_headers p n o rest h =
    let a = front-length o h in
    let same : take 4 ((take 32 o ++ (number 8 p ++ (take 16 (drop 40 o) ++ (number 2 n ++ drop 58 o)))) ++ rest) ≡ take 4 o =
    rw append_assoc (take-append-le 4 (take 32 o) _ (omega arith) ∙ take-take 4 32 o (omega arith)) in
    ap (λ (xs : List ℕ). pointwise nat_eq (0x7F ∷ (0x45 ∷ (0x4C ∷ (0x46 ∷ [])))) xs) same

-- a second change takes the place of the first
pub with_headers-twice : (p n q m : ℕ) (o : List ℕ) → 64 ≤ length o → with_headers p n (with_headers q m o) ≡ with_headers p n o
unfolding with_headers
with_headers-twice p n q m o h =
    let a = front-length o h in
    let b = middle-length o h in
    let x : List ℕ = take 16 (drop 40 o) in
    let z : List ℕ = drop 58 o in
    let tail : List ℕ = number 8 q ++ (x ++ (number 2 m ++ z)) in
    let front : take 32 (take 32 o ++ tail) ≡ take 32 o = take_at (take 32 o) tail 32 a in
    let past : drop 32 (take 32 o ++ tail) ≡ tail = drop_at (take 32 o) tail 32 a in
    let eight : drop 8 tail ≡ x ++ (number 2 m ++ z) = drop_at (number 8 q) _ 8 (length-number 8 q) in
    let forty : drop 40 (take 32 o ++ tail) ≡ x ++ (number 2 m ++ z) =
    sym (drop-drop 8 32 (take 32 o ++ tail)) ∙ ap (drop 8) past ∙ eight in
    let middle : take 16 (drop 40 (take 32 o ++ tail)) ≡ x = ap (take 16) forty ∙ take_at x _ 16 b in
    let sixteen : drop 16 (x ++ (number 2 m ++ z)) ≡ number 2 m ++ z = drop_at x _ 16 b in
    let two : drop 2 (number 2 m ++ z) ≡ z = drop_at (number 2 m) z 2 (length-number 2 m) in
    let back : drop 58 (take 32 o ++ tail) ≡ z =
    sym (drop-drop 18 40 (take 32 o ++ tail)) ∙ ap (drop 18) forty ∙ sym (drop-drop 2 16 (x ++ (number 2 m ++ z))) ∙ ap (drop 2) sixteen ∙ two in
    rw (front, middle, back) refl

-- a part and what comes behind it
joined : (k p q : ℕ) (o : List ℕ) → q ≡ p + k → take k (drop p o) ++ drop q o ≡ drop p o
joined k p q o e =
    ap (λ (xs : List ℕ). take k (drop p o) ++ xs) (ap (λ (i : ℕ). drop i o) e ∙ sym (drop-drop k p o)) ∙ take-append-drop k (drop p o)

-- with its own place and number a file is itself
pub with_headers-own : (o : List ℕ) → 64 ≤ length o → ((i : ℕ) → get_or o i 0 < 256) → with_headers (field 8 32 o) (field 2 56 o) o ≡ o
unfolding with_headers
with_headers-own o h fits =
    let a = number-field8 32 o fits (omega arith) in
    let b = number-field2 56 o fits (omega arith) in
    rw (a, b, joined 2 56 58 o refl, joined 16 40 56 o refl, joined 8 32 40 o refl) (take-append-drop 32 o)
