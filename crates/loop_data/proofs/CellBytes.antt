-- Memories by their bytes: a number that was just stored, and numbers at other bytes.
use Rattle.std.proofs.Common.{◌≡◌, ◌≢◌, ℕ, zero, suc, ◌+◌, ◌-◌, ◌*◌, ◌/◌, ◌%◌, ◌^◌, ◌<◌, ◌≤◌, ◌⊎◌, inl, inr, ◌==◌, List, [], ◌∷◌, length, get_or, set, Bool, true, false, if◌then◌else◌, Option, Some, None, refl, ap, ◌∙◌, arith}
use Rattle.std.proofs.lemmas.List.{get_or-set_same, get_or-set_other, length-set}
use Rattle.std.proofs.lemmas.Bool.Decides.{nat_tests}
use Rattle.rv64_decode.specs.Area.{Area, holds, area_at, byte_at, number_at, with_byte, with_number, bytes_of, why, why_in, unless_refused}
use Rattle.rv64_decode.specs.Ask.{Ask, Nothing, Loads, Stores, after}
use Rattle.rv64_decode.specs.declared.memory.Width.{Width}
use Rattle.rv64_decode.specs.declared.memory.Width.TheVariants.{One, Two, Four, Eight}
use Rattle.rv64_decode.specs.declared.memory.MemFault.{MemFault}
use Rattle.rv64_decode.specs.declared.memory.MemFault.TheVariants.{Misaligned}
use Rattle.loop_data.specs.Executing.{AreWhole}

-- the address lies in an area
abbrev pub maps : List Area → ℕ → Bool
maps [] x = false
maps (a ∷ rest) x = if holds a x then true else maps rest x

holds_inside : (a : Area) (x : ℕ) → holds a x ≡ true → (a.low ≤ x) × (x < a.low + length a.bytes)
holds_inside a x h = (grind (arith, nat_tests), grind (arith, nat_tests))

-- an area with other bytes, as many
same_holds : (a : Area) (bytes : List ℕ) (x : ℕ) → length bytes ≡ length a.bytes → holds (record a { bytes = bytes }) x ≡ holds a x
same_holds a bytes x e = rw e refl

holds_with : (a : Area) (x y b : ℕ) → holds (record a { bytes = set a.bytes (x - a.low) b }) y ≡ holds a y
holds_with a x y b = same_holds a (set a.bytes (x - a.low) b) y (length-set a.bytes (x - a.low) b)

same_step : (a : Area) (rest : List Area) (x b : ℕ) (t : Bool) → holds a x ≡ t → (if t then true else maps rest x) ≡ true
    → (maps rest x ≡ true → byte_at (with_byte rest x b) x ≡ b) → byte_at (with_byte (a ∷ rest) x b) x ≡ b
same_step a rest x b true e h later =
    let p = holds_inside a x e in
    let l = length-set a.bytes (x - a.low) b in
    let k = same_holds a (set a.bytes (x - a.low) b) x l in
    rw (e, k, e) (get_or-set_same a.bytes (x - a.low) b 0 (omega arith))
same_step a rest x b false e h later = rw (e, e) (later h)

with_byte-same : (m : List Area) (x b : ℕ) → maps m x ≡ true → byte_at (with_byte m x b) x ≡ b
with_byte-same [] x b h = cc
with_byte-same (a ∷ rest) x b h = same_step a rest x b (holds a x) refl h (λ k. with_byte-same rest x b k)

byte_of_set : (a : Area) (x y b : ℕ) → holds a x ≡ true → holds a y ≡ true → y ≢ x → get_or (set a.bytes (x - a.low) b) (y - a.low) 0 ≡ get_or a.bytes (y - a.low) 0
byte_of_set a x y b h k ne =
    let p = holds_inside a x h in
    let q = holds_inside a y k in
    get_or-set_other a.bytes (x - a.low) (y - a.low) b 0 (λ e. ne (omega arith))

other_step : (a : Area) (rest : List Area) (x y b : ℕ) (t u : Bool) → y ≢ x → holds a x ≡ t → holds a y ≡ u
    → byte_at (with_byte rest x b) y ≡ byte_at rest y → byte_at (with_byte (a ∷ rest) x b) y ≡ byte_at (a ∷ rest) y
other_step a rest x y b true true ne e f later = let k = holds_with a x y b in rw (e, k, f) (byte_of_set a x y b e f ne)
other_step a rest x y b true false ne e f later = let k = holds_with a x y b in rw (e, k, f) refl
other_step a rest x y b false true ne e f later = rw (e, f) refl
other_step a rest x y b false false ne e f later = rw (e, f) later

with_byte-other : (m : List Area) (x y b : ℕ) → y ≢ x → byte_at (with_byte m x b) y ≡ byte_at m y
with_byte-other [] x y b ne = refl
with_byte-other (a ∷ rest) x y b ne = other_step a rest x y b (holds a x) (holds a y) ne refl refl (with_byte-other rest x y b ne)

byte_at-with_number : (n : ℕ) (m : List Area) (x v y : ℕ) → (y < x) ⊎ (x + n ≤ y) → byte_at (with_number n m x v) y ≡ byte_at m y
byte_at-with_number zero m x v y apart = refl
byte_at-with_number (suc n) m x v y apart =
    let ne : y ≢ x = elim apart [ inl h ↦ λ e. absurd (omega arith) | inr h ↦ λ e. absurd (omega arith) ] in
    let next : (y < suc x) ⊎ (suc x + n ≤ y) = elim apart [ inl h ↦ inl (omega arith) | inr h ↦ inr (omega arith) ] in
    byte_at-with_number n (with_byte m x (v % 256)) (suc x) (v / 256) y next ∙ with_byte-other m x y (v % 256) ne

-- a load of other bytes sees nothing of a store
pub number_at-with_number : (n k : ℕ) (m : List Area) (x v y : ℕ) → (x + n ≤ y) ⊎ (y + k ≤ x) → number_at k (with_number n m x v) y ≡ number_at k m y
number_at-with_number n zero m x v y apart = refl
number_at-with_number n (suc k) m x v y apart =
    let one : (y < x) ⊎ (x + n ≤ y) = elim apart [ inl h ↦ inr h | inr h ↦ inl (omega arith) ] in
    let next : (x + n ≤ suc y) ⊎ (suc y + k ≤ x) = elim apart [ inl h ↦ inl (omega arith) | inr h ↦ inr (omega arith) ] in
    let here = byte_at-with_number n m x v y one in
    let rest = number_at-with_number n k m x v (suc y) next in
    rw (here, rest) refl

maps_step : (a : Area) (rest : List Area) (x b y : ℕ) (t : Bool) → holds a x ≡ t → maps (with_byte rest x b) y ≡ maps rest y → maps (with_byte (a ∷ rest) x b) y ≡ maps (a ∷ rest) y
maps_step a rest x b y true e later = let k = holds_with a x y b in simp (e, k)
maps_step a rest x b y false e later = simp (e, later)

maps-with_byte : (m : List Area) (x b y : ℕ) → maps (with_byte m x b) y ≡ maps m y
maps-with_byte [] x b y = refl
maps-with_byte (a ∷ rest) x b y = maps_step a rest x b y (holds a x) refl (maps-with_byte rest x b y)

-- a number by its low bytes
abbrev pub cut : ℕ → ℕ → ℕ
cut zero v = 0
cut (suc n) v = v % 256 + 256 * cut n (v / 256)

-- a load of what was just stored
pub number_at-same : (n : ℕ) (m : List Area) (x v : ℕ) → ((y : ℕ) → x ≤ y → y < x + n → maps m y ≡ true) → number_at n (with_number n m x v) x ≡ cut n v
number_at-same zero m x v all = refl
number_at-same (suc n) m x v all =
    let one : byte_at (with_number n (with_byte m x (v % 256)) (suc x) (v / 256)) x ≡ v % 256 =
    byte_at-with_number n (with_byte m x (v % 256)) (suc x) (v / 256) x (inl (omega arith)) ∙ with_byte-same m x (v % 256) (all x (omega arith) (omega arith)) in
    let two : number_at n (with_number n (with_byte m x (v % 256)) (suc x) (v / 256)) (suc x) ≡ cut n (v / 256) =
    number_at-same n (with_byte m x (v % 256)) (suc x) (v / 256) (λ y lo hi. maps-with_byte m x (v % 256) y ∙ all y (omega arith) (omega arith)) in
    ap (λ z. z + 256 * number_at n (with_number n (with_byte m x (v % 256)) (suc x) (v / 256)) (suc x)) one ∙ ap (λ z. v % 256 + 256 * z) two

pub cut4 : (v : ℕ) → cut 4 v ≡ v % 2 ^ 32
cut4 v = omega arith

pub cut8 : (v : ℕ) → cut 8 v ≡ v % 2 ^ 64
cut8 v = omega arith

-- areas stay where they are
whole_byte : (m : List Area) (x b : ℕ) → AreWhole m → AreWhole (with_byte m x b)
whole_byte [] x b w = tt
whole_byte (a ∷ rest) x b w = go (holds a x) (whole_byte rest x b w.2)
  where
    go : (t : Bool) → AreWhole (with_byte rest x b) → AreWhole (if t then record a { bytes = set a.bytes (x - a.low) b } ∷ rest else a ∷ with_byte rest x b)
    go true later = (w.0, ap (λ n. (a.low + n) % 8) (length-set a.bytes (x - a.low) b) ∙ w.1, w.2)
    go false later = (w.0, w.1, later)

whole_number : (n : ℕ) (m : List Area) (x v : ℕ) → AreWhole m → AreWhole (with_number n m x v)
whole_number zero m x v w = w
whole_number (suc n) m x v w = whole_number n (with_byte m x (v % 256)) (suc x) (v / 256) (whole_byte m x (v % 256) w)

pub whole_after : (m : List Area) (ask : Ask) → AreWhole m → AreWhole (after m ask)
whole_after m Nothing w = w
whole_after m (Loads x width) w = w
whole_after m (Stores x width v) w = go (why Rattle.rv64_decode.specs.Area.writable_of m x width)
  where
    go : (o : Option MemFault) → AreWhole (unless_refused o m (with_number (bytes_of width) m x v))
    go None = whole_number (bytes_of width) m x v w
    go (Some f) = w

-- the bytes of an aligned access lie in an area where the first does
whole_bytes : (w : Width) (x y low end : ℕ) → x % bytes_of w ≡ 0 → low % 8 ≡ 0 → end % 8 ≡ 0 → low ≤ x → x < end → x ≤ y → y < x + bytes_of w → y < end
whole_bytes One x y low end a b c d e f g = omega arith
whole_bytes Two x y low end a b c d e f g = omega arith
whole_bytes Four x y low end a b c d e f g = omega arith
whole_bytes Eight x y low end a b c d e f g = omega arith

holds_by : (a : Area) (y : ℕ) → a.low ≤ y → y < a.low + length a.bytes → holds a y ≡ true
holds_by a y l u = grind (arith, nat_tests)

mapped_in : (permission : Area → Bool) (m : List Area) (x y : ℕ) (w : Width) → AreWhole m → x % bytes_of w ≡ 0 → why_in permission (area_at m x) ≡ None → x ≤ y → y < x + bytes_of w → maps m y ≡ true
mapped_in permission [] x y w k a e lo hi = absurd (cc)
mapped_in permission (b ∷ rest) x y w k a e lo hi = go (holds b x) refl e (λ f. mapped_in permission rest x y w k.2 a f lo hi)
  where
    go : (c : Bool) → holds b x ≡ c → why_in permission (if c then Some b else area_at rest x) ≡ None → (why_in permission (area_at rest x) ≡ None → maps rest y ≡ true) → (if holds b y then true else maps rest y) ≡ true
    go true h e later =
        let p = holds_inside b x h in
        let z = whole_bytes w x y b.low (b.low + length b.bytes) a k.0 k.1 p.0 p.1 lo hi in
        ap (λ c. if c then true else maps rest y) (holds_by b y (let q = p.0 in omega arith) z)
    go false h e later = by (holds b y) (later e)
      where
        by : (c : Bool) → maps rest y ≡ true → (if c then true else maps rest y) ≡ true
        by true t = refl
        by false t = t

-- all bytes of an access that is not refused are mapped
pub mapped_bytes : (permission : Area → Bool) (m : List Area) (x : ℕ) (w : Width) → AreWhole m → why permission m x w ≡ None → (y : ℕ) → x ≤ y → y < x + bytes_of w → maps m y ≡ true
mapped_bytes permission m x w k e y lo hi = go (x % bytes_of w == 0) refl e
  where
    go : (c : Bool) → (x % bytes_of w == 0) ≡ c → (if c then why_in permission (area_at m x) else Some Misaligned) ≡ None → maps m y ≡ true
    go true f h = mapped_in permission m x y w k (grind (arith, nat_tests)) h lo hi
    go false f h = absurd (cc)
