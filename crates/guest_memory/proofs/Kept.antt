-- Stores leave the areas, and the bytes of those that may not be written.
use Rattle.std.proofs.Common.{◌≡◌, ℕ, zero, suc, ◌+◌, ◌-◌, ◌/◌, ◌%◌, ◌<◌, ◌≤◌, ◌==◌, List, [], ◌∷◌, length, set, Bool, true, false, if◌then◌else◌, ◌&&◌, Option, Some, None, refl, ap, subst, ◌∙◌, arith}
use Rattle.std.specs.Prelude.{All, slice_index}
use Rattle.std.proofs.lemmas.Bool.Decides.{nat_tests}
use Rattle.std.proofs.lemmas.List.{length-set}
use Rattle.rv64_decode.specs.Area.{Area, holds, area_at, byte_at, number_at, fetch_of, with_byte, with_number, bytes_of, why, why_in, writable_of, executable_of, or_refusal, unless_refused}
use Rattle.rv64_decode.specs.Ask.{Ask, Nothing, Loads, Stores, after}
use Rattle.rv64_decode.specs.Range.{AreBytes}
use Rattle.rv64_decode.proofs.Sound.{with_byte_are}
use Rattle.guest_memory.specs.Layout.{AreasLieFrom, KeepAreas, end_of}
use Rattle.rv64_decode.specs.declared.memory.Width.{Width}
use Rattle.rv64_decode.specs.declared.memory.Width.TheVariants.{One, Two, Four, Eight}
use Rattle.guest_memory.specs.Spans.{permits, permits_in, all_permitted, with_bytes_at}
use Rattle.guest_memory.proofs.Areas.{holds_inside, inside_holds}
use Rattle.rv64_decode.specs.declared.memory.MemFault.{MemFault}
use Rattle.rv64_decode.specs.declared.memory.MemFault.TheVariants.{Denied, Misaligned}

pub keep_self : (m : List Area) → KeepAreas m m
keep_self [] = tt
keep_self (a ∷ rest) = (refl, refl, refl, refl, refl, (λ h. refl), keep_self rest)

pub keep_on : (m n o : List Area) → KeepAreas m n → KeepAreas n o → KeepAreas m o
keep_on [] [] [] h k = tt
keep_on [] [] (c ∷ o) h k = absurd k
keep_on [] (b ∷ n) o h k = absurd h
keep_on (a ∷ m) [] o h k = absurd h
keep_on (a ∷ m) (b ∷ n) [] h k = absurd k
keep_on (a ∷ m) (b ∷ n) (c ∷ o) h k =
    (k.0 ∙ h.0, k.1 ∙ h.1, k.2 ∙ h.2, k.3 ∙ h.3, k.4 ∙ h.4, (λ e. k.5 (h.2 ∙ e) ∙ h.5 e), keep_on m n o h.6 k.6)

-- where an address lies in an area that may be written, or in none
abbrev pub MayWrite : Option Area → Type 0
MayWrite None = Unit {0}
MayWrite (Some a) = a.writable ≡ true

pub with_byte-keeps : (m : List Area) (x b : ℕ) → MayWrite (area_at m x) → KeepAreas m (with_byte m x b)
with_byte-keeps [] x b h = tt
with_byte-keeps (a ∷ rest) x b h = go (holds a x) h (with_byte-keeps rest x b)
  where
    go : (t : Bool) → MayWrite (if t then Some a else area_at rest x)
        → (MayWrite (area_at rest x) → KeepAreas rest (with_byte rest x b))
        → KeepAreas (a ∷ rest) (if t then record a { bytes = set a.bytes (x - a.low) b } ∷ rest else a ∷ with_byte rest x b)
    go true w later = (refl, refl, refl, refl, length-set a.bytes (x - a.low) b, (λ e. cc), keep_self rest)
    go false w later = (refl, refl, refl, refl, refl, (λ e. refl), later w)

-- areas that stay hold the same addresses
pub keep-area_at : (m n : List Area) (x : ℕ) → KeepAreas m n → MayWrite (area_at m x) → MayWrite (area_at n x)
keep-area_at [] [] x k h = h
keep-area_at [] (b ∷ n) x k h = absurd k
keep-area_at (a ∷ m) [] x k h = absurd k
keep-area_at (a ∷ m) (b ∷ n) x k h = go (holds a x) (holds b x) same h (keep-area_at m n x k.6)
  where
    same : holds b x ≡ holds a x
    same = rw (k.0, k.4) refl

    go : (s t : Bool) → t ≡ s → MayWrite (if s then Some a else area_at m x) → (MayWrite (area_at m x) → MayWrite (area_at n x)) → MayWrite (if t then Some b else area_at n x)
    go true true e w later = k.2 ∙ w
    go true false e w later = cc
    go false true e w later = cc
    go false false e w later = later w

-- bytes from an address on, each of which may be written
pub with_bytes_at-keeps : (m : List Area) (x : ℕ) (bytes : List ℕ) → ((k : ℕ) → k < length bytes → MayWrite (area_at m (x + k))) → KeepAreas m (with_bytes_at m x bytes)
with_bytes_at-keeps m x [] h = keep_self m
with_bytes_at-keeps m x (b ∷ rest) h =
    let place : x + 0 ≡ x = omega arith in
    let first = with_byte-keeps m x b (rw place at (h 0 (omega arith))) in
    let later = with_bytes_at-keeps (with_byte m x b) (suc x) rest (λ k l.
    let next : x + suc k ≡ suc x + k = omega arith in
    keep-area_at m (with_byte m x b) (suc x + k) first (rw next at (h (suc k) (omega arith)))) in
    keep_on m (with_byte m x b) (with_bytes_at (with_byte m x b) (suc x) rest) first later

-- so many bytes of a number
pub with_number-keeps : (n : ℕ) (m : List Area) (x value : ℕ) → ((k : ℕ) → k < n → MayWrite (area_at m (x + k))) → KeepAreas m (with_number n m x value)
with_number-keeps zero m x value h = keep_self m
with_number-keeps (suc n) m x value h =
    let place : x + 0 ≡ x = omega arith in
    let first = with_byte-keeps m x (value % 256) (rw place at (h 0 (omega arith))) in
    let later = with_number-keeps n (with_byte m x (value % 256)) (suc x) (value / 256) (λ k l.
    let next : x + suc k ≡ suc x + k = omega arith in
    keep-area_at m (with_byte m x (value % 256)) (suc x + k) first (rw next at (h (suc k) (omega arith)))) in
    keep_on m (with_byte m x (value % 256)) (with_number n (with_byte m x (value % 256)) (suc x) (value / 256)) first later

-- all bytes of an aligned access lie in the area of the first, or outside it
same_holds : (w : Width) (a : Area) (x k : ℕ) → a.low % 8 ≡ 0 → length a.bytes % 8 ≡ 0 → x % bytes_of w ≡ 0 → k < bytes_of w → holds a (x + k) ≡ holds a x
same_holds w a x k low size at within = go (holds a x) (holds a (x + k)) refl refl
  where
    there : (w : Width) → x % bytes_of w ≡ 0 → k < bytes_of w → (a.low ≤ x) × (x < end_of a) → (a.low ≤ x + k) × (x + k < end_of a)
    there One at within h = (omega arith, omega arith)
    there Two at within h = (omega arith, omega arith)
    there Four at within h = (omega arith, omega arith)
    there Eight at within h = (omega arith, omega arith)

    back : (w : Width) → x % bytes_of w ≡ 0 → k < bytes_of w → (a.low ≤ x + k) × (x + k < end_of a) → (a.low ≤ x) × (x < end_of a)
    back One at within h = (omega arith, omega arith)
    back Two at within h = (omega arith, omega arith)
    back Four at within h = (omega arith, omega arith)
    back Eight at within h = (omega arith, omega arith)

    go : (s t : Bool) → holds a x ≡ s → holds a (x + k) ≡ t → t ≡ s
    go true true e f = refl
    go true false e f =
        let h = there w at within (inside_holds a x e) in let g = holds_inside a (x + k) h.0 h.1 in cc
    go false true e f =
        let h = back w at within (inside_holds a (x + k) f) in let g = holds_inside a x h.0 h.1 in cc
    go false false e f = refl

same_area : (w : Width) (from : ℕ) (m : List Area) (x k : ℕ) → AreasLieFrom from m → x % bytes_of w ≡ 0 → k < bytes_of w → area_at m (x + k) ≡ area_at m x
same_area w from [] x k lie at within = refl
same_area w from (a ∷ rest) x k lie at within =
    let here = same_holds w a x k lie.1 lie.2 at within in
    let later = same_area w (end_of a) rest x k lie.4 at within in
    rw (here, later) refl

-- areas that stay lie as before
pub keep-lie : (from : ℕ) (m n : List Area) → AreasLieFrom from m → KeepAreas m n → AreasLieFrom from n
keep-lie from [] [] lie k = tt
keep-lie from [] (b ∷ n) lie k = absurd k
keep-lie from (a ∷ m) [] lie k = absurd k
keep-lie from (a ∷ m) (b ∷ n) lie k =
    let ends : end_of a ≡ end_of b = rw (k.0, k.4) refl in (
      rw k.0 lie.0,
      rw k.0 lie.1,
      rw k.4 lie.2,
      rw (← ends) lie.3,
      let P : ℕ → Type 0 = λ v. AreasLieFrom v n in subst P ends (keep-lie (end_of a) m n lie.4 k.6),
      rw (k.2, k.3) lie.5,
    )

-- a store that is not refused
store-keeps : (w : Width) (m : List Area) (x value : ℕ) → AreasLieFrom 0 m → why writable_of m x w ≡ None → KeepAreas m (with_number (bytes_of w) m x value)
store-keeps w m x value lie none = go (x % bytes_of w == 0) refl none
  where
    may : (o : Option Area) → why_in writable_of o ≡ None → MayWrite o
    may None e = tt
    may (Some a) e = writes a.writable e
      where
        writes : (b : Bool) → (if b then None else Some Denied) ≡ None → b ≡ true
        writes true e = refl
        writes false e = cc

    go : (b : Bool) → (x % bytes_of w == 0) ≡ b → (if b then why_in writable_of (area_at m x) else Some Misaligned) ≡ None → KeepAreas m (with_number (bytes_of w) m x value)
    go true e n =
        let at : x % bytes_of w ≡ 0 = grind (arith, nat_tests) in
        with_number-keeps (bytes_of w) m x value (λ k l. rw (same_area w 0 m x k lie at l) (may (area_at m x) n))
    go false e n = cc

pub after-keeps : (m : List Area) (ask : Ask) → AreasLieFrom 0 m → KeepAreas m (after m ask)
after-keeps m Nothing lie = keep_self m
after-keeps m (Loads x w) lie = keep_self m
after-keeps m (Stores x w value) lie = go (why writable_of m x w) refl
  where
    go : (o : Option MemFault) → why writable_of m x w ≡ o → KeepAreas m (unless_refused o m (with_number (bytes_of w) m x value))
    go None e = store-keeps w m x value lie e
    go (Some fault) e = keep_self m

-- bytes where each may be written
pub span-keeps : (m : List Area) (x : ℕ) (bytes : List ℕ) → all_permitted writable_of (length bytes) m x ≡ true → KeepAreas m (with_bytes_at m x bytes)
span-keeps m x bytes h = with_bytes_at-keeps m x bytes (each (length bytes) x h)
  where
    may : (o : Option Area) → permits_in writable_of o ≡ true → MayWrite o
    may None e = tt
    may (Some a) e = e

    both : (a b : Bool) → (a && b) ≡ true → (a ≡ true) × (b ≡ true)
    both true b h = (refl, h)
    both false b h = cc

    each : (n x : ℕ) → all_permitted writable_of n m x ≡ true → (k : ℕ) → k < n → MayWrite (area_at m (x + k))
    each zero x h k l = absurd (omega arith)
    each (suc n) x h zero l =
        let place : x + 0 ≡ x = omega arith in rw place (may (area_at m x) (both (permits writable_of m x) (all_permitted writable_of n m (suc x)) h).0)
    each (suc n) x h (suc k) l =
        let place : x + suc k ≡ suc x + k = omega arith in
        rw place (each n (suc x) (both (permits writable_of m x) (all_permitted writable_of n m (suc x)) h).1 k (omega arith))

-- bytes stay bytes
pub span-bytes : (m : List Area) (x : ℕ) (bytes : List ℕ) → AreBytes m → All (λ b. b < 256) bytes → AreBytes (with_bytes_at m x bytes)
span-bytes m x [] k h = k
span-bytes m x (b ∷ rest) k h =
    span-bytes (with_byte m x b) (suc x) rest (with_byte_are m x b (h 0 b (omega arith)) k) (λ i d l. h (suc i) d (omega arith))

-- ---- code stays

both : (a b : Bool) → (a && b) ≡ false → b ≡ true → a ≡ false
both true b h e = cc
both false b h e = refl

why-keeps : (m n : List Area) (x : ℕ) → KeepAreas m n → why_in executable_of (area_at n x) ≡ why_in executable_of (area_at m x)
why-keeps [] [] x k = refl
why-keeps [] (b ∷ n) x k = absurd k
why-keeps (a ∷ m) [] x k = absurd k
why-keeps (a ∷ m) (b ∷ n) x k = go (holds a x) (holds b x) (rw (k.0, k.4) refl) (why-keeps m n x k.6)
  where
    go : (s t : Bool) → t ≡ s → why_in executable_of (area_at n x) ≡ why_in executable_of (area_at m x)
        → why_in executable_of (if t then Some b else area_at n x) ≡ why_in executable_of (if s then Some a else area_at m x)
    go true true e later = rw k.3 refl
    go true false e later = cc
    go false true e later = cc
    go false false e later = later

byte-keeps : (from : ℕ) (m n : List Area) (x : ℕ) → AreasLieFrom from m → KeepAreas m n → permits executable_of m x ≡ true → byte_at n x ≡ byte_at m x
byte-keeps from [] [] x lie k p = refl
byte-keeps from [] (b ∷ n) x lie k p = absurd k
byte-keeps from (a ∷ m) [] x lie k p = absurd k
byte-keeps from (a ∷ m) (b ∷ n) x lie k p = go (holds a x) (holds b x) (rw (k.0, k.4) refl) p (byte-keeps (end_of a) m n x lie.4 k.6)
  where
    go : (s t : Bool) → t ≡ s → permits_in executable_of (if s then Some a else area_at m x) ≡ true
        → (permits executable_of m x ≡ true → byte_at n x ≡ byte_at m x)
        → (if t then slice_index b.bytes (x - b.low) else byte_at n x) ≡ (if s then slice_index a.bytes (x - a.low) else byte_at m x)
    go true true e q later =
        let same = k.5 (both a.writable a.executable lie.5 q) in rw (k.0, same) refl
    go true false e q later = cc
    go false true e q later = cc
    go false false e q later = later q

-- the answer to a fetch
pub fetch-keeps : (m n : List Area) (x : ℕ) → AreasLieFrom 0 m → KeepAreas m n → fetch_of n x ≡ fetch_of m x
fetch-keeps m n x lie k = go (x % 4 == 0) refl (why_in executable_of (area_at m x)) refl
  where
    may : (o : Option Area) → why_in executable_of o ≡ None → permits_in executable_of o ≡ true
    may None e = cc
    may (Some a) e = runs a.executable e
      where
        runs : (b : Bool) → (if b then None else Some Denied) ≡ None → b ≡ true
        runs true e = refl
        runs false e = cc

    go : (b : Bool) → (x % 4 == 0) ≡ b → (o : Option MemFault) → why_in executable_of (area_at m x) ≡ o → fetch_of n x ≡ fetch_of m x
    go false e o f = rw e refl
    go true e None f =
        let at : x % 4 ≡ 0 = grind (arith, nat_tests) in
        let here = may (area_at m x) f in
        let one : permits executable_of m (suc x) ≡ true = let p : x + 1 ≡ suc x = omega arith in rw (← p) (ap (permits_in executable_of) (same_area Four 0 m x 1 lie at (omega arith)) ∙ here) in
        let two : permits executable_of m (suc (suc x)) ≡ true = let p : x + 2 ≡ suc (suc x) = omega arith in rw (← p) (ap (permits_in executable_of) (same_area Four 0 m x 2 lie at (omega arith)) ∙ here) in
        let three : permits executable_of m (suc (suc (suc x))) ≡ true = let p : x + 3 ≡ suc (suc (suc x)) = omega arith in rw (← p) (ap (permits_in executable_of) (same_area Four 0 m x 3 lie at (omega arith)) ∙ here) in
        let g = why-keeps m n x k in
        let b0 = byte-keeps 0 m n x lie k here in
        let b1 = byte-keeps 0 m n (suc x) lie k one in
        let b2 = byte-keeps 0 m n (suc (suc x)) lie k two in
        let b3 = byte-keeps 0 m n (suc (suc (suc x))) lie k three in
        let number : number_at 4 n x ≡ number_at 4 m x = rw (b0, b1, b2, b3) refl in
        ap (λ (o : Option MemFault). or_refusal (if x % 4 == 0 then o else Some Misaligned) (number_at 4 n x)) g
        ∙ ap (λ (v : ℕ). or_refusal (if x % 4 == 0 then why_in executable_of (area_at m x) else Some Misaligned) v) number
    go true e (Some fault) f =
        let g = why-keeps m n x k ∙ f in rw (e, f, g) refl
