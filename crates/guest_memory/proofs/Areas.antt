-- What is at an address, by the area in which the address lies.
use Rattle.std.proofs.Common.{◌≡◌, ℕ, zero, suc, ◌+◌, ◌-◌, ◌/◌, ◌%◌, ◌^◌, ◌<◌, ◌≤◌, List, [], ◌∷◌, ◌++◌, length, get_or, take, drop, set, Some, None, true, false, Bool, ◌&&◌, Ok, Err, refl, inl, inr, ap, sym, subst, ◌∙◌, arith}
use Rattle.std.proofs.lemmas.List.{get_or-set_same, get_or-drop, drop-set-lt, set-set, set-get_or, length-set, append_assoc, take-append-drop}
use Rattle.std.proofs.Math.Nat.{div-div-eq-div-mul, div-one, pow-suc}
use Rattle.std.proofs.Math.Seq.{take-suc-set}
use Rattle.std.proofs.lemmas.Bool.{cases_lt}
use Rattle.std.proofs.lemmas.Bool.Decides.{nat_tests}
use Rattle.std.specs.Int.{bytes_low_first, byte_at as byte_of}
use Rattle.rv64_decode.specs.Area.{Area, holds, area_at, byte_at, number_at, with_byte, with_number}
use Rattle.byteorder.specs.Endian.{little_from, little_number}
use Rattle.rv64_decode.specs.Area.{bytes_of, why, why_in, readable_of, writable_of, executable_of, load_of, fetch_of, store_of, after_store}
use Rattle.rv64_decode.specs.declared.memory.Width.{Width}
use Rattle.rv64_decode.specs.declared.memory.Width.TheVariants.{One, Two, Four, Eight}
use Rattle.rv64_decode.specs.declared.memory.MemFault.TheVariants.{Denied}
use Rattle.guest_memory.specs.Layout.{end_of, AreasLieFrom, no_area, nth_area, with_bytes, IsPlace}

pub holds_inside : (a : Area) (x : ℕ) → a.low ≤ x → x < end_of a → holds a x ≡ true
holds_inside a x h k = grind (arith, nat_tests)

pub holds_below : (a : Area) (x : ℕ) → x < a.low → holds a x ≡ false
holds_below a x h = grind (arith, nat_tests)

pub holds_above : (a : Area) (x : ℕ) → end_of a ≤ x → holds a x ≡ false
holds_above a x h = grind (arith, nat_tests)

pub inside_holds : (a : Area) (x : ℕ) → holds a x ≡ true → (a.low ≤ x) × (x < end_of a)
inside_holds a x h = (grind (arith, nat_tests), grind (arith, nat_tests))

-- each area lies from there on
pub low_from : (from : ℕ) (m : List Area) (i : ℕ) → AreasLieFrom from m → i < length m → from ≤ (nth_area m i).low
low_from from [] i lie h = absurd (omega arith)
low_from from (a ∷ rest) zero lie h = lie.0
low_from from (a ∷ rest) (suc i) lie h = let e = low_from (end_of a) rest i lie.4 (omega arith) in omega arith

-- the areas before one end before it starts
pub ends_ascend : (from : ℕ) (m : List Area) (i j : ℕ) → AreasLieFrom from m → i < j → j < length m → end_of (nth_area m i) ≤ (nth_area m j).low
ends_ascend from [] i j lie h k = absurd (omega arith)
ends_ascend from (a ∷ rest) i zero lie h k = absurd (omega arith)
ends_ascend from (a ∷ rest) zero (suc j) lie h k = low_from (end_of a) rest j lie.4 (omega arith)
ends_ascend from (a ∷ rest) (suc i) (suc j) lie h k = ends_ascend (end_of a) rest i j lie.4 (omega arith) (omega arith)

pub record IsAligned (a : Area) : Type 0 where
  pub low : a.low % 8 ≡ 0
  pub size : length a.bytes % 8 ≡ 0
  pub end : end_of a < 2 ^ 63

pub aligned : (from : ℕ) (m : List Area) (i : ℕ) → AreasLieFrom from m → i < length m → IsAligned (nth_area m i)
aligned from [] i lie h = absurd (omega arith)
aligned from (a ∷ rest) zero lie h = record { low = lie.1; size = lie.2; end = lie.3 }
aligned from (a ∷ rest) (suc i) lie h = aligned (end_of a) rest i lie.4 (omega arith)

pub area_at-nth : (from : ℕ) (m : List Area) (i x : ℕ) → AreasLieFrom from m → i < length m → (nth_area m i).low ≤ x → x < end_of (nth_area m i) → area_at m x ≡ Some (nth_area m i)
area_at-nth from [] i x lie h l u = absurd (omega arith)
area_at-nth from (a ∷ rest) zero x lie h l u = rw (holds_inside a x l u) refl
area_at-nth from (a ∷ rest) (suc i) x lie h l u =
    let e = low_from (end_of a) rest i lie.4 (omega arith) in
    let n : end_of a ≤ x = omega arith in
    rw (holds_above a x n) (area_at-nth (end_of a) rest i x lie.4 (omega arith) l u)

pub byte_at-nth : (from : ℕ) (m : List Area) (i x : ℕ) → AreasLieFrom from m → i < length m → (nth_area m i).low ≤ x → x < end_of (nth_area m i) → byte_at m x ≡ get_or (nth_area m i).bytes (x - (nth_area m i).low) 0
byte_at-nth from [] i x lie h l u = absurd (omega arith)
byte_at-nth from (a ∷ rest) zero x lie h l u = rw (holds_inside a x l u) refl
byte_at-nth from (a ∷ rest) (suc i) x lie h l u =
    let e = low_from (end_of a) rest i lie.4 (omega arith) in
    let n : end_of a ≤ x = omega arith in
    rw (holds_above a x n) (byte_at-nth (end_of a) rest i x lie.4 (omega arith) l u)

-- the area with other bytes
abbrev pub rebytes : Area → List ℕ → Area
rebytes a bytes = record a { bytes = bytes }

pub with_byte-nth : (from : ℕ) (m : List Area) (i x b : ℕ) → AreasLieFrom from m → i < length m → (nth_area m i).low ≤ x → x < end_of (nth_area m i)
    → with_byte m x b ≡ set m i (rebytes (nth_area m i) (set (nth_area m i).bytes (x - (nth_area m i).low) b))
with_byte-nth from [] i x b lie h l u = absurd (omega arith)
with_byte-nth from (a ∷ rest) zero x b lie h l u = rw (holds_inside a x l u) refl
with_byte-nth from (a ∷ rest) (suc i) x b lie h l u =
    let e = low_from (end_of a) rest i lie.4 (omega arith) in
    let n : end_of a ≤ x = omega arith in
    rw (holds_above a x n) (ap (λ (r : List Area). a ∷ r) (with_byte-nth (end_of a) rest i x b lie.4 (omega arith) l u))

-- no area holds the address
pub area_at-none : (m : List Area) (x : ℕ) → ((i : ℕ) → i < length m → holds (nth_area m i) x ≡ false) → area_at m x ≡ None
area_at-none [] x h = refl
area_at-none (a ∷ rest) x h = rw (h 0 (omega arith)) (area_at-none rest x (λ i k. h (suc i) (omega arith)))

-- an area of the same place and length in place of another
pub LieFrom-set : (from : ℕ) (m : List Area) (i : ℕ) (b : Area) → AreasLieFrom from m → i < length m → b.low ≡ (nth_area m i).low → length b.bytes ≡ length (nth_area m i).bytes
    → (b.writable && b.executable) ≡ ((nth_area m i).writable && (nth_area m i).executable) → AreasLieFrom from (set m i b)
LieFrom-set from [] i b lie h l e p = absurd (omega arith)
LieFrom-set from (a ∷ rest) zero b lie h l e p =
    let ends : end_of a ≡ end_of b = omega arith in
    (rw l lie.0, rw l lie.1, rw e lie.2, omega arith, let P : ℕ → Type 0 = λ n. AreasLieFrom n rest in subst P ends lie.4, p ∙ lie.5)
LieFrom-set from (a ∷ rest) (suc i) b lie h l e p =
    (lie.0, lie.1, lie.2, lie.3, LieFrom-set (end_of a) rest i b lie.4 (omega arith) l e p, lie.5)

-- the number at a place of an area
pub number_at-nth : (n from : ℕ) (m : List Area) (i k x : ℕ) → AreasLieFrom from m → i < length m → x ≡ (nth_area m i).low + k → k + n ≤ length (nth_area m i).bytes
    → number_at n m x ≡ little_from k n (nth_area m i).bytes
number_at-nth zero from m i k x lie h at fits = refl
number_at-nth (suc n) from m i k x lie h at fits =
    let here = byte_at-nth from m i x lie h (omega arith) (omega arith) in
    let place : x - (nth_area m i).low ≡ k = omega arith in
    let rest = number_at-nth n from m i (suc k) (suc x) lie h (omega arith) (omega arith) in
    rw (here, place, rest) refl

pub little_from-drop : (n i k : ℕ) (xs : List ℕ) → little_from i n (drop k xs) ≡ little_from (k + i) n xs
little_from-drop zero i k xs = refl
little_from-drop (suc n) i k xs =
    let rest = little_from-drop n (suc i) k xs in
    let e : k + suc i ≡ suc (k + i) = omega arith in
    rw (get_or-drop k xs i 0, rest, e) refl

-- the bytes with n of them replaced, one after another
abbrev pub bytes_by : ℕ → ℕ → ℕ → List ℕ → List ℕ
bytes_by zero k value xs = xs
bytes_by (suc n) k value xs = bytes_by n (suc k) (value / 256) (set xs k (value % 256))

pub length-bytes_by : (n k value : ℕ) (xs : List ℕ) → length (bytes_by n k value xs) ≡ length xs
length-bytes_by zero k value xs = refl
length-bytes_by (suc n) k value xs = length-bytes_by n (suc k) (value / 256) (set xs k (value % 256)) ∙ length-set xs k (value % 256)

pub nth-set : (m : List Area) (i : ℕ) (b : Area) → i < length m → nth_area (set m i b) i ≡ b
nth-set m i b h = get_or-set_same m i b no_area h

pub with_number-nth : (n from : ℕ) (m : List Area) (i k x value : ℕ) (a : Area) → nth_area m i ≡ a → AreasLieFrom from m → i < length m → x ≡ a.low + k → k + n ≤ length a.bytes
    → with_number n m x value ≡ set m i (rebytes a (bytes_by n k value a.bytes))
with_number-nth zero from m i k x value a is lie h at fits =
    sym (ap (λ (v : Area). set m i v) (sym is) ∙ set-get_or m i no_area)
with_number-nth (suc n) from m i k x value a is lie h at fits =
    let low : (nth_area m i).low ≡ a.low = ap (λ (v : Area). v.low) is in
    let size : length (nth_area m i).bytes ≡ length a.bytes = ap (λ (v : Area). length v.bytes) is in
    let place : x - a.low ≡ k = omega arith in
    let b : List ℕ = set a.bytes k (value % 256) in
    let one : with_byte m x (value % 256) ≡ set m i (rebytes a b) =
    with_byte-nth from m i x (value % 256) lie h (omega arith) (omega arith)
    ∙ ap (λ (v : Area). set m i (rebytes v (set v.bytes (x - v.low) (value % 256)))) is
    ∙ ap (λ (p : ℕ). set m i (rebytes a (set a.bytes p (value % 256)))) place in
    let same : length b ≡ length a.bytes = length-set a.bytes k (value % 256) in
    let long = length-set m i (rebytes a b) in
    let rest = with_number-nth n from (set m i (rebytes a b)) i (suc k) (suc x) (value / 256) (rebytes a b) (nth-set m i (rebytes a b) h)
    (LieFrom-set from m i (rebytes a b) lie h (sym low) (omega arith) (ap (λ (v : Area). v.writable && v.executable) (sym is))) (omega arith) (omega arith) (omega arith) in
    rw one (rest ∙ set-set m i (rebytes a b) (rebytes a (bytes_by n (suc k) (value / 256) b)))

byte_of-pow : (k x : ℕ) → byte_of k x ≡ x / 256 ^ k % 256
byte_of-pow zero x = ap (λ (y : ℕ). y % 256) (sym (div-one x))
byte_of-pow (suc k) x = refl

bytes_by-splice : (n j k value : ℕ) (xs : List ℕ) → k + n ≤ length xs → bytes_by n k (value / 256 ^ j) xs ≡ take k xs ++ (bytes_low_first j n value ++ drop (k + n) xs)
bytes_by-splice zero j k value xs fits =
    let e : k + 0 ≡ k = omega arith in
    rw e (sym (take-append-drop k xs))
bytes_by-splice (suc n) j k value xs fits =
    let b : ℕ = value / 256 ^ j % 256 in
    let shift : value / 256 ^ j / 256 ≡ value / 256 ^ suc j = div-div-eq-div-mul value (256 ^ j) 256 ∙ ap (λ (p : ℕ). value / p) (sym (pow-suc 256 j)) in
    let same = length-set xs k b in
    let rest = bytes_by-splice n (suc j) (suc k) value (set xs k b) (omega arith) in
    let e : suc k + n ≡ k + suc n = omega arith in
    let tail : drop (suc k + n) (set xs k b) ≡ drop (k + suc n) xs = drop-set-lt (suc k + n) xs k b (omega arith) ∙ ap (λ (p : ℕ). drop p xs) e in
    let head : take (suc k) (set xs k b) ≡ take k xs ++ b ∷ [] = take-suc-set xs k b (omega arith) in
    rw (shift, rest, head, tail, byte_of-pow j value) (append_assoc (take k xs) (b ∷ []) (bytes_low_first (suc j) n value ++ drop (k + suc n) xs))

pub bytes_by-with_bytes : (n k value : ℕ) (xs : List ℕ) → k + n ≤ length xs → bytes_by n k value xs ≡ with_bytes n k value xs
bytes_by-with_bytes n k value xs fits =
    let e : value / 256 ^ 0 ≡ value = div-one value in
    let s = bytes_by-splice n 0 k value xs fits in
    rw e at s

-- an aligned access that begins in an area lies within it
pub fits_from_alignment : (width : Width) (a : Area) (x : ℕ) → IsAligned a → x % bytes_of width ≡ 0 → a.low ≤ x → x < end_of a → x + bytes_of width ≤ end_of a
fits_from_alignment One a x al e l u = omega arith
fits_from_alignment Two a x al e l u = omega arith
fits_from_alignment Four a x al e l u = omega arith
fits_from_alignment Eight a x al e l u = omega arith

pub is_place : (m : List Area) (i x : ℕ) (width : Width) → AreasLieFrom 0 m → x % bytes_of width ≡ 0 → (i < length m) × (holds (nth_area m i) x ≡ true) → IsPlace m i x width
is_place m i x width lie e h =
    let inside = inside_holds (nth_area m i) x h.1 in
    record {
      within = h.0;
      aligned = e;
      low = inside.0;
      fits = fits_from_alignment width (nth_area m i) x (aligned 0 m i lie h.0) e inside.0 inside.1;
    }

pub why-place : (permission : Area → Bool) (m : List Area) (i x : ℕ) (width : Width) → AreasLieFrom 0 m → IsPlace m i x width → why permission m x width ≡ why_in permission (Some (nth_area m i))
why-place permission m i x width lie p =
    let positive : 0 < bytes_of width = elim width as (λ v. 0 < bytes_of v) [ One ↦ omega arith | Two ↦ omega arith | Four ↦ omega arith | Eight ↦ omega arith ] in
    let found = area_at-nth 0 m i x lie p.within p.low (omega (arith, p.fits)) in
    let even = p.aligned in
    rw (even, found) refl

granted : (permission : Area → Bool) (m : List Area) (i x : ℕ) (width : Width) → AreasLieFrom 0 m → IsPlace m i x width → permission (nth_area m i) ≡ true → why permission m x width ≡ None
granted permission m i x width lie p h = why-place permission m i x width lie p ∙ rw h refl

denied : (permission : Area → Bool) (m : List Area) (i x : ℕ) (width : Width) → AreasLieFrom 0 m → IsPlace m i x width → permission (nth_area m i) ≡ false → why permission m x width ≡ Some Denied
denied permission m i x width lie p h = why-place permission m i x width lie p ∙ rw h refl

pub load-denied : (m : List Area) (i x : ℕ) (width : Width) → AreasLieFrom 0 m → IsPlace m i x width → (nth_area m i).readable ≡ false → load_of m x width ≡ Err Denied
load-denied m i x width lie p closed = let e = denied readable_of m i x width lie p closed in rw e refl

-- the number of an access, from the bytes of its area
pub number_at-place : (m : List Area) (i x : ℕ) (width : Width) → AreasLieFrom 0 m → IsPlace m i x width
    → number_at (bytes_of width) m x ≡ little_number (bytes_of width) (drop (x - (nth_area m i).low) (nth_area m i).bytes)
number_at-place m i x width lie p =
    let a = nth_area m i in
    let k : ℕ = x - a.low in
    let low = p.low in
    let fits = p.fits in
    let n = number_at-nth (bytes_of width) 0 m i k x lie p.within (omega arith) (omega arith) in
    let d = little_from-drop (bytes_of width) 0 k a.bytes in
    let z : k + 0 ≡ k = omega arith in
    n ∙ sym (d ∙ ap (λ (v : ℕ). little_from v (bytes_of width) a.bytes) z)

pub load-number : (m : List Area) (i x : ℕ) (width : Width) → AreasLieFrom 0 m → IsPlace m i x width → (nth_area m i).readable ≡ true
    → load_of m x width ≡ Ok (little_number (bytes_of width) (drop (x - (nth_area m i).low) (nth_area m i).bytes))
load-number m i x width lie p open_to = let e = granted readable_of m i x width lie p open_to in rw e (ap (λ (v : ℕ). Ok v) (number_at-place m i x width lie p))

pub fetch-denied : (m : List Area) (i x : ℕ) → AreasLieFrom 0 m → IsPlace m i x Four → (nth_area m i).executable ≡ false → fetch_of m x ≡ Err Denied
fetch-denied m i x lie p closed = let e = denied executable_of m i x Four lie p closed in rw e refl

pub fetch-number : (m : List Area) (i x : ℕ) → AreasLieFrom 0 m → IsPlace m i x Four → (nth_area m i).executable ≡ true
    → fetch_of m x ≡ Ok (little_number (bytes_of Four) (drop (x - (nth_area m i).low) (nth_area m i).bytes))
fetch-number m i x lie p open_to = let e = granted executable_of m i x Four lie p open_to in rw e (ap (λ (v : ℕ). Ok v) (number_at-place m i x Four lie p))

pub store-denied : (m : List Area) (i x : ℕ) (width : Width) → AreasLieFrom 0 m → IsPlace m i x width → (nth_area m i).writable ≡ false → store_of m x width ≡ Err Denied
store-denied m i x width lie p closed = let e = denied writable_of m i x width lie p closed in rw e refl

pub store-done : (m : List Area) (i x : ℕ) (width : Width) → AreasLieFrom 0 m → IsPlace m i x width → (nth_area m i).writable ≡ true → store_of m x width ≡ Ok tt
store-done m i x width lie p open_to = let e = granted writable_of m i x width lie p open_to in rw e refl

pub after-denied : (m : List Area) (i x : ℕ) (width : Width) (value : ℕ) → AreasLieFrom 0 m → IsPlace m i x width → (nth_area m i).writable ≡ false → after_store m x width value ≡ m
after-denied m i x width value lie p closed = let e = denied writable_of m i x width lie p closed in rw e refl

-- the area after a store
abbrev pub stored_in : Area → ℕ → Width → ℕ → Area
stored_in a x width value = rebytes a (with_bytes (bytes_of width) (x - a.low) value a.bytes)

pub with_number-place : (m : List Area) (i x : ℕ) (width : Width) (value : ℕ) → AreasLieFrom 0 m → IsPlace m i x width
    → with_number (bytes_of width) m x value ≡ set m i (stored_in (nth_area m i) x width value)
with_number-place m i x width value lie p =
    let a = nth_area m i in
    let k : ℕ = x - a.low in
    let low = p.low in
    let fits = p.fits in
    let n = with_number-nth (bytes_of width) 0 m i k x value a refl lie p.within (omega arith) (omega arith) in
    let b = bytes_by-with_bytes (bytes_of width) k value a.bytes (omega arith) in
    n ∙ ap (λ (v : List ℕ). set m i (rebytes a v)) b

pub after-done : (m : List Area) (i x : ℕ) (width : Width) (value : ℕ) → AreasLieFrom 0 m → IsPlace m i x width → (nth_area m i).writable ≡ true
    → after_store m x width value ≡ set m i (stored_in (nth_area m i) x width value)
after-done m i x width value lie p open_to =
    let e = granted writable_of m i x width lie p open_to in
    rw e (with_number-place m i x width value lie p)

pub stored-lie : (m : List Area) (i x : ℕ) (width : Width) (value : ℕ) → AreasLieFrom 0 m → IsPlace m i x width → AreasLieFrom 0 (set m i (stored_in (nth_area m i) x width value))
stored-lie m i x width value lie p =
    let a = nth_area m i in
    let k : ℕ = x - a.low in
    let low = p.low in
    let fits = p.fits in
    let b = bytes_by-with_bytes (bytes_of width) k value a.bytes (omega arith) in
    let l = length-bytes_by (bytes_of width) k value a.bytes in
    let size : length (with_bytes (bytes_of width) k value a.bytes) ≡ length a.bytes = sym (ap length b) ∙ l in
    LieFrom-set 0 m i (stored_in a x width value) lie p.within refl size refl

-- no area holds an address between the areas before a place and those behind it
pub none_between : (m : List Area) (at x : ℕ) → AreasLieFrom 0 m → ((k : ℕ) → k < at → end_of (nth_area m k) ≤ x) → ((k : ℕ) → at ≤ k → k < length m → x < end_of (nth_area m k))
    → (at < length m → holds (nth_area m at) x ≡ false) → area_at m x ≡ None
none_between m at x lie before behind free =
    area_at-none m x (λ i h.
    elim (cases_lt i at) [
      | inl l ↦ holds_above (nth_area m i) x (before i l)
      | inr g ↦
          elim (cases_lt at i) [
            | inl l ↦ let b = behind at (omega arith) (omega arith) in let a = ends_ascend 0 m at i lie l h in holds_below (nth_area m i) x (omega arith)
            | inr k ↦ let e : at ≡ i = omega arith in let P : ℕ → Type 0 = λ v. holds (nth_area m v) x ≡ false in subst P e (free (omega arith))
          ]
    ])

pub ends_upto : (m : List Area) (k i : ℕ) → AreasLieFrom 0 m → k ≤ i → i < length m → end_of (nth_area m k) ≤ end_of (nth_area m i)
ends_upto m k i lie h l =
    elim (cases_lt k i) [
      | inl b ↦ let a = ends_ascend 0 m k i lie b l in omega arith
      | inr b ↦ let e : k ≡ i = omega arith in let P : ℕ → Type 0 = λ v. end_of (nth_area m k) ≤ end_of (nth_area m v) in subst P e (omega arith)
    ]
