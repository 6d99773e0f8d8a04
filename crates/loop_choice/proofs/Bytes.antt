-- Bytes that are touched, and ranges that have none in common.
use Rattle.std.proofs.Common.{◌≡◌, ℕ, ◌+◌, suc, ◌-◌, ◌^◌, ◌<◌, ◌≤◌, ◌⊎◌, inl, inr, Bool, true, false, List, Option, Some, None, refl, ap, sym, ◌∙◌, subst, arith, ℤ, pos, negsuc, ◌+ℤ◌, ◌*ℤ◌, ◌≤ℤ◌, ◌==◌, nat_lt}
use Rattle.std.proofs.lemmas.Int.{ints}
use Rattle.std.proofs.lemmas.Bool.Decides.{nat_tests}
use Rattle.std.specs.Int.{w64, cast_unsigned}
use Rattle.rv64_decode.specs.Area.{bytes_of}
use Rattle.rv64_decode.specs.Ask.{Ask, Nothing, Loads, Stores}
use Rattle.rv64_decode.specs.Form.{IsSigned}
use Rattle.rv64_decode.specs.Registers.{register}
use Rattle.rv64_decode.specs.Row.{plus_offset, signed64}
use Rattle.rv64_decode.specs.declared.memory.Width.{Width}
use Rattle.linear_forms.specs.Forms.{Alike, word_of}
use Rattle.linear_forms.proofs.Sums.{same, alike_from, alike_trans, alike_add, alike_mod, alike_sym, word_alike, word_below}
use Rattle.loop_data.proofs.Shorts.{alike_word}
use Rattle.loop_data.specs.declared.verdict.Cell.{Cell}
use Rattle.loop_data.specs.Executing.{IsOf32Bits}
use Rattle.loop_data.specs.Locations.{address_by, address, width_of}
use Rattle.loop_data.specs.Turns.{covers, loads_byte, stores_byte}
use Rattle.loop_data.specs.Independent.{IsAccess}
use Rattle.affine_addresses.specs.AddressLaws.{AsksFor}
use Rattle.dependence_tests.specs.Separation.{AreDisjoint}
use Rattle.alias_checks.specs.Values.{IsShort}

covers_is : (x w b : ℕ) → covers x w b ≡ true → (x ≤ b) × (b < x + w)
covers_is x w b e = (grind (arith, nat_tests), grind (arith, nat_tests))

covers_not : (x w b : ℕ) → (b < x) ⊎ (x + w ≤ b) → covers x w b ≡ false
covers_not x w b (inl l) = grind (arith, nat_tests)
covers_not x w b (inr l) = grind (arith, nat_tests)

-- a byte of one range is none of another that has none in common with it
pub apart_bytes : (x w y v b : ℕ) → covers y v b ≡ true → (x + w ≤ y) ⊎ (y + v ≤ x) → covers x w b ≡ false
apart_bytes x w y v b h (inl l) = let k = covers_is y v b h in let p = k.0 in covers_not x w b (inr (omega arith))
apart_bytes x w y v b h (inr l) = let k = covers_is y v b h in let p = k.1 in covers_not x w b (inl (omega arith))

-- the access touches no byte of the range
abbrev pub TouchesNone : Ask → ℕ → Type 0
TouchesNone a b = (loads_byte a b ≡ false) × (stores_byte a b ≡ false)

-- an access of so many bytes, apart from a range
pub access_apart : (a : Ask) (x : ℕ) (w : Width) (y v b : ℕ) → IsAccess a x w → covers y v b ≡ true → (x + bytes_of w ≤ y) ⊎ (y + v ≤ x) → TouchesNone a b
access_apart Nothing x w y v b i h o = absurd i
access_apart (Loads z u) x w y v b i h o =
    (ap (λ n. covers n (bytes_of u) b) i.0 ∙ ap (λ n. covers x (bytes_of n) b) i.1 ∙ apart_bytes x (bytes_of w) y v b h o, refl)
access_apart (Stores z u n) x w y v b i h o =
    (refl, ap (λ n. covers n (bytes_of u) b) i.0 ∙ ap (λ n. covers x (bytes_of n) b) i.1 ∙ apart_bytes x (bytes_of w) y v b h o)

pub nothing_touched : (a : Ask) (b : ℕ) → a ≡ Nothing → TouchesNone a b
nothing_touched a b e = (ap (λ x. loads_byte x b) e, ap (λ x. stores_byte x b) e)

-- a load stores no byte
pub load_stores_none : (a : Ask) (addr : ℕ) (w : Width) (b : ℕ) → AsksFor a addr w false → stores_byte a b ≡ false
load_stores_none Nothing addr w b h = absurd h
load_stores_none (Loads x u) addr w b h = refl
load_stores_none (Stores x u v) addr w b h = absurd (cc)

pub asks_access : (a : Ask) (addr : ℕ) (w : Width) (store : Bool) → AsksFor a addr w store → IsAccess a addr w
asks_access Nothing addr w store h = h
asks_access (Loads x u) addr w store h = (h.0, h.1)
asks_access (Stores x u v) addr w store h = (h.0, h.1)

-- an access within a range that is disjoint from another
pub disjoint_apart : (addr w y v : ℕ) (low high : ℤ) → low ≤ℤ pos addr → (pos addr +ℤ pos w) ≤ℤ high → AreDisjoint (pos y, pos (y + v)) (low, high) → (addr + w ≤ y) ⊎ (y + v ≤ addr)
disjoint_apart addr w y v low high l h (inl o) = inr (omega (arith, ints))
disjoint_apart addr w y v low high l h (inr o) = inl (omega (arith, ints))

pub disjoint_cells : (x w y v : ℕ) → AreDisjoint (pos x, pos (x + w)) (pos y, pos (y + v)) → (x + w ≤ y) ⊎ (y + v ≤ x)
disjoint_cells x w y v (inl o) = inl (omega (arith, ints))
disjoint_cells x w y v (inr o) = inr (omega (arith, ints))

-- ---- cells of one base

near_words : (v w : ℕ) (x y z s t : ℤ) (m : ℕ) → pos v ≡ x +ℤ y +ℤ s *ℤ pos (2 ^ 64) → pos w ≡ x +ℤ z +ℤ t *ℤ pos (2 ^ 64) → v < 2 ^ 31 → w < 2 ^ 31 → IsSigned 32 y → IsSigned 32 z → (y +ℤ pos m) ≤ℤ z → v + m ≤ w
near_words v w x y z s t m a b lv lw ny nz le =
    let y0 = ny.0 in let y1 = ny.1 in let z0 = nz.0 in let z1 = nz.1 in omega (arith, ints)

alike_offset : (a : ℕ) (z : ℤ) → IsSigned 32 z → Alike (pos (plus_offset a z)) (pos a +ℤ z)
alike_offset a z h = alike_trans _ _ _ (alike_mod (a + cast_unsigned w64 z)) (alike_trans _ _ _ (alike_from _ _ (omega (arith, ints))) (alike_add _ _ _ _ (same (pos a)) (alike_word z h)))

-- they lie to each other as their offsets do
pub in_order : (first : List ℕ) (base : Option ℕ) (y z : ℤ) (m : ℕ) → IsSigned 32 y → IsSigned 32 z → address_by first base y < 2 ^ 31 → address_by first base z < 2 ^ 31 → (y +ℤ pos m) ≤ℤ z → address_by first base y + m ≤ address_by first base z
in_order first None y z m ny nz ly lz le =
    let a = word_alike y in let b = word_alike z in
    near_words (word_of y) (word_of z) (pos 0) y z a.turns b.turns m (a.is ∙ omega (arith, ints)) (b.is ∙ omega (arith, ints)) ly lz ny nz le
in_order first (Some q) y z m ny nz ly lz le =
    let a = alike_offset (register first q) y ny in let b = alike_offset (register first q) z nz in
    near_words (plus_offset (register first q) y) (plus_offset (register first q) z) (pos (register first q)) y z a.turns b.turns m a.is b.is ly lz ny nz le

pub cells_apart : (first : List ℕ) (c d : Cell) → c.base ≡ d.base → IsSigned 32 c.offset → IsSigned 32 d.offset → address first c < 2 ^ 31 → address first d < 2 ^ 31
    → ((c.offset +ℤ pos (bytes_of (width_of c))) ≤ℤ d.offset) ⊎ ((d.offset +ℤ pos (bytes_of (width_of d))) ≤ℤ c.offset)
    → (address first c + bytes_of (width_of c) ≤ address first d) ⊎ (address first d + bytes_of (width_of d) ≤ address first c)
cells_apart first c d e nc nd lc ld o = go o
  where
    at : address_by first c.base d.offset ≡ address first d
    at = ap (λ b. address_by first b d.offset) e

    below : address_by first c.base d.offset < 2 ^ 31
    below = subst (λ n. n < 2 ^ 31) (sym at) ld

    go : ((c.offset +ℤ pos (bytes_of (width_of c))) ≤ℤ d.offset) ⊎ ((d.offset +ℤ pos (bytes_of (width_of d))) ≤ℤ c.offset)
        → (address first c + bytes_of (width_of c) ≤ address first d) ⊎ (address first d + bytes_of (width_of d) ≤ address first c)
    go (inl l) = inl (subst (λ n. address first c + bytes_of (width_of c) ≤ n) at (in_order first c.base c.offset d.offset (bytes_of (width_of c)) nc nd lc below l))
    go (inr l) = inr (subst (λ n. n + bytes_of (width_of d) ≤ address first c) at (in_order first c.base d.offset c.offset (bytes_of (width_of d)) nd nc below lc l))

-- a base is another, or not
pub base_or : (a b : Option ℕ) → (a ≡ b) ⊎ ((a ≡ b) → ⊥)
base_or None None = inl refl
base_or None (Some b) = inr (λ e. absurd (cc))
base_or (Some a) None = inr (λ e. absurd (cc))
base_or (Some a) (Some b) = go (a == b) refl
  where
    go : (c : Bool) → (a == b) ≡ c → (Some a ≡ Some b) ⊎ ((Some a ≡ Some b) → ⊥)
    go true e = inl (ap Some (grind (arith, nat_tests)))
    go false e = inr (λ q. let r : a ≡ b = cc in let n : (a ≡ b) → ⊥ = grind (arith, nat_tests) in n r)

-- ---- numbers of 32 bits

alike_signed : (n : ℕ) → n < 2 ^ 64 → Alike (signed64 n) (pos n)
alike_signed n lt = go (nat_lt n (2 ^ 63)) refl
  where
    go : (b : Bool) → nat_lt n (2 ^ 63) ≡ b → Alike (signed64 n) (pos n)
    go true f = let x : signed64 n ≡ pos n = rw f refl in alike_from _ _ x
    go false f =
        let x : signed64 n ≡ negsuc (2 ^ 64 - suc n) = rw f refl in
        record { turns = negsuc 0; is = x ∙ omega (arith, ints) }

-- an integer whose word is read as a number of 32 bits
pub of_32_bits : (z : ℤ) → IsShort (signed64 (word_of z)) → IsOf32Bits z
of_32_bits z h =
    let l = h.low in let u = h.high in
    record {
      number = signed64 (word_of z);
      signed = (omega (arith, ints), omega (arith, ints));
      same = alike_sym _ _ (alike_trans _ _ _ (alike_signed (word_of z) (word_below z)) (word_alike z));
    }
