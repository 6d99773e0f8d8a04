-- Bytes in a row: which of them are permitted, and what they are after a write.
use Rattle.std.proofs.Common.{◌≡◌, ℕ, zero, suc, ◌+◌, ◌-◌, ◌<◌, ◌≤◌, ◌^◌, List, [], ◌∷◌, ◌++◌, length, take, drop, set, true, false, Bool, ◌&&◌, refl, ap, sym, ◌∙◌, arith, drop-cons}
use Rattle.std.proofs.lemmas.List.{length-set, length-drop, length-take-le, length-append, at_drop_more, append_assoc, take-append-drop, drop-set-lt, set-set, set-get_or}
use Rattle.std.proofs.Math.Seq.{take-suc-set}
use Rattle.rv64_decode.specs.Area.{Area, holds, with_byte}
use Rattle.guest_memory.specs.Layout.{end_of, AreasLieFrom, no_area, nth_area, spliced}
use Rattle.guest_memory.specs.Spans.{permits, all_permitted, bytes_at, with_bytes_at, all_bytes}
use Rattle.guest_memory.proofs.Areas.{area_at-nth, byte_at-nth, with_byte-nth, rebytes, LieFrom-set, nth-set}

both_left : (a b : Bool) → (a && b) ≡ true → a ≡ true
both_left true b h = refl
both_left false b h = cc

both_right : (a b : Bool) → (a && b) ≡ true → b ≡ true
both_right true b h = h
both_right false b h = cc

-- each of the bytes is permitted
pub permits-each : (p : Area → Bool) (m : List Area) (n k x y : ℕ) → y ≡ x + k → all_permitted p n m x ≡ true → k < n → permits p m y ≡ true
permits-each p m zero k x y at h l = absurd (omega arith)
permits-each p m (suc n) zero x y at h l =
    let here : x ≡ y = omega arith in
    rw (← here) (both_left (permits p m x) (all_permitted p n m (suc x)) h)
permits-each p m (suc n) (suc k) x y at h l =
    permits-each p m n k (suc x) y (omega arith) (both_right (permits p m x) (all_permitted p n m (suc x)) h) (omega arith)

-- and so are those behind the first of them
pub all_permitted-rest : (p : Area → Bool) (m : List Area) (n k t x y : ℕ) → t ≡ n + k → y ≡ x + n → all_permitted p t m x ≡ true → all_permitted p k m y ≡ true
all_permitted-rest p m zero k t x y all at h =
    let here : x ≡ y = omega arith in
    let same : t ≡ k = omega arith in
    rw (← here, ← same) h
all_permitted-rest p m (suc n) k zero x y all at h = absurd (omega arith)
all_permitted-rest p m (suc n) k (suc t) x y all at h =
    all_permitted-rest p m n k t (suc x) y (omega arith) (omega arith) (both_right (permits p m x) (all_permitted p t m (suc x)) h)

pub permits-nth : (p : Area → Bool) (m : List Area) (i x : ℕ) → AreasLieFrom 0 m → i < length m → (nth_area m i).low ≤ x → x < end_of (nth_area m i) → permits p m x ≡ p (nth_area m i)
permits-nth p m i x lie h l u = let e = area_at-nth 0 m i x lie h l u in rw e refl

-- bytes within an area that has the permission
pub all_permitted-within : (p : Area → Bool) (m : List Area) (i n k t x y : ℕ) → AreasLieFrom 0 m → i < length m → p (nth_area m i) ≡ true → (nth_area m i).low ≤ x → y ≤ end_of (nth_area m i)
    → t ≡ n + k → y ≡ x + n → all_permitted p t m x ≡ all_permitted p k m y
all_permitted-within p m i zero k t x y lie h has l u all at =
    let here : x ≡ y = omega arith in
    let same : t ≡ k = omega arith in
    rw (here, same) refl
all_permitted-within p m i (suc n) k zero x y lie h has l u all at = absurd (omega arith)
all_permitted-within p m i (suc n) k (suc t) x y lie h has l u all at =
    let e : permits p m x ≡ true = permits-nth p m i x lie h l (omega arith) ∙ has in
    rw e (all_permitted-within p m i n k t (suc x) y lie h has (omega arith) u (omega arith) (omega arith))

-- the first byte is not permitted
pub all_permitted-stops : (p : Area → Bool) (m : List Area) (n x : ℕ) → 0 < n → permits p m x ≡ false → all_permitted p n m x ≡ false
all_permitted-stops p m zero x h e = absurd (omega arith)
all_permitted-stops p m (suc n) x h e = rw e refl

-- the bytes within an area
pub bytes_at-nth : (n : ℕ) (m : List Area) (i k x : ℕ) → AreasLieFrom 0 m → i < length m → x ≡ (nth_area m i).low + k → k + n ≤ length (nth_area m i).bytes
    → bytes_at n m x ≡ take n (drop k (nth_area m i).bytes)
bytes_at-nth zero m i k x lie h at fits = refl
bytes_at-nth (suc n) m i k x lie h at fits =
    let here = byte_at-nth 0 m i x lie h (omega arith) (omega arith) in
    let place : x - (nth_area m i).low ≡ k = omega arith in
    let rest = bytes_at-nth n m i (suc k) (suc x) lie h (omega arith) (omega arith) in
    let short : k < length (nth_area m i).bytes = omega arith in
    rw (here, place, rest, drop-cons (nth_area m i).bytes k 0) refl

pub bytes_at-append : (j k t : ℕ) (m : List Area) (x y : ℕ) → t ≡ j + k → y ≡ x + j → bytes_at t m x ≡ bytes_at j m x ++ bytes_at k m y
bytes_at-append zero k t m x y all at =
    let here : x ≡ y = omega arith in
    let same : t ≡ k = omega arith in
    rw (here, same) refl
bytes_at-append (suc j) k zero m x y all at = absurd (omega arith)
bytes_at-append (suc j) k (suc t) m x y all at = rw (bytes_at-append j k t m (suc x) y (omega arith) (omega arith)) refl

pub take-bytes_at : (j n : ℕ) (m : List Area) (x : ℕ) → j ≤ n → take j (bytes_at n m x) ≡ bytes_at j m x
take-bytes_at zero n m x h = refl
take-bytes_at (suc j) zero m x h = absurd (omega arith)
take-bytes_at (suc j) (suc n) m x h = rw (take-bytes_at j n m (suc x) (omega arith)) refl

pub with_bytes_at-append : (xs ys : List ℕ) (m : List Area) (x y : ℕ) → y ≡ x + length xs → with_bytes_at m x (xs ++ ys) ≡ with_bytes_at (with_bytes_at m x xs) y ys
with_bytes_at-append [] ys m x y at = let here : x ≡ y = omega arith in rw here refl
with_bytes_at-append (b ∷ xs) ys m x y at = with_bytes_at-append xs ys (with_byte m x b) (suc x) y (omega arith)

-- the bytes with some of them set, one after another
abbrev set_each : ℕ → List ℕ → List ℕ → List ℕ
set_each k [] xs = xs
set_each k (b ∷ bs) xs = set_each (suc k) bs (set xs k b)

length-set_each : (bs : List ℕ) (k : ℕ) (xs : List ℕ) → length (set_each k bs xs) ≡ length xs
length-set_each [] k xs = refl
length-set_each (b ∷ bs) k xs = length-set_each bs (suc k) (set xs k b) ∙ length-set xs k b

set_each-spliced : (bs : List ℕ) (k : ℕ) (xs : List ℕ) → k + length bs ≤ length xs → set_each k bs xs ≡ spliced k bs xs
set_each-spliced [] k xs fits =
    let e : k + 0 ≡ k = omega arith in
    rw e (sym (take-append-drop k xs))
set_each-spliced (b ∷ bs) k xs fits =
    let same = length-set xs k b in
    let rest = set_each-spliced bs (suc k) (set xs k b) (omega arith) in
    let e : suc k + length bs ≡ k + suc (length bs) = omega arith in
    let tail : drop (suc k + length bs) (set xs k b) ≡ drop (k + suc (length bs)) xs = drop-set-lt (suc k + length bs) xs k b (omega arith) ∙ ap (λ (p : ℕ). drop p xs) e in
    let head : take (suc k) (set xs k b) ≡ take k xs ++ b ∷ [] = take-suc-set xs k b (omega arith) in
    rw (rest, head, tail) (append_assoc (take k xs) (b ∷ []) (bs ++ drop (k + suc (length bs)) xs))

with_bytes_at-each : (bs : List ℕ) (m : List Area) (i k x : ℕ) (a : Area) → nth_area m i ≡ a → AreasLieFrom 0 m → i < length m → x ≡ a.low + k → k + length bs ≤ length a.bytes
    → with_bytes_at m x bs ≡ set m i (rebytes a (set_each k bs a.bytes))
with_bytes_at-each [] m i k x a is lie h at fits = sym (ap (λ (v : Area). set m i v) (sym is) ∙ set-get_or m i no_area)
with_bytes_at-each (b ∷ bs) m i k x a is lie h at fits =
    let low : (nth_area m i).low ≡ a.low = ap (λ (v : Area). v.low) is in
    let size : length (nth_area m i).bytes ≡ length a.bytes = ap (λ (v : Area). length v.bytes) is in
    let place : x - a.low ≡ k = omega arith in
    let c : List ℕ = set a.bytes k b in
    let one : with_byte m x b ≡ set m i (rebytes a c) =
    with_byte-nth 0 m i x b lie h (omega arith) (omega arith)
    ∙ ap (λ (v : Area). set m i (rebytes v (set v.bytes (x - v.low) b))) is
    ∙ ap (λ (p : ℕ). set m i (rebytes a (set a.bytes p b))) place in
    let same : length c ≡ length a.bytes = length-set a.bytes k b in
    let long = length-set m i (rebytes a c) in
    let rest = with_bytes_at-each bs (set m i (rebytes a c)) i (suc k) (suc x) (rebytes a c) (nth-set m i (rebytes a c) h)
    (LieFrom-set 0 m i (rebytes a c) lie h (sym low) (omega arith) (ap (λ (v : Area). v.writable && v.executable) (sym is))) (omega arith) (omega arith) (omega arith) in
    rw one (rest ∙ set-set m i (rebytes a c) (rebytes a (set_each (suc k) bs c)))

-- the area with these bytes from an address on
abbrev pub area_with : Area → ℕ → List ℕ → Area
area_with a x bs = rebytes a (spliced (x - a.low) bs a.bytes)

-- bytes set within an area
pub with_bytes_at-nth : (bs : List ℕ) (m : List Area) (i x : ℕ) → AreasLieFrom 0 m → i < length m → (nth_area m i).low ≤ x → x + length bs ≤ end_of (nth_area m i)
    → with_bytes_at m x bs ≡ set m i (area_with (nth_area m i) x bs)
with_bytes_at-nth bs m i x lie h l u =
    let a = nth_area m i in
    let k : ℕ = x - a.low in
    let n = with_bytes_at-each bs m i k x a refl lie h (omega arith) (omega arith) in
    let b = set_each-spliced bs k a.bytes (omega arith) in
    n ∙ ap (λ (v : List ℕ). set m i (rebytes a v)) b

pub area_with-lie : (bs : List ℕ) (m : List Area) (i x : ℕ) → AreasLieFrom 0 m → i < length m → (nth_area m i).low ≤ x → x + length bs ≤ end_of (nth_area m i)
    → AreasLieFrom 0 (set m i (area_with (nth_area m i) x bs))
area_with-lie bs m i x lie h l u =
    let a = nth_area m i in
    let k : ℕ = x - a.low in
    let b = set_each-spliced bs k a.bytes (omega arith) in
    let size : length (spliced k bs a.bytes) ≡ length a.bytes = sym (ap length b) ∙ length-set_each bs k a.bytes in
    LieFrom-set 0 m i (area_with a x bs) lie h refl size refl

-- a permission that does not read the bytes
abbrev pub SeesNoByte : (Area → Bool) → Type 0
SeesNoByte p = (a : Area) (bytes : List ℕ) → p (rebytes a bytes) ≡ p a

holds-set : (a : Area) (x y b : ℕ) → holds (rebytes a (set a.bytes (x - a.low) b)) y ≡ holds a y
holds-set a x y b = let e = length-set a.bytes (x - a.low) b in rw e refl

permits_step : (p : Area → Bool) (a : Area) (rest : List Area) (x y b : ℕ) (t u : Bool) → SeesNoByte p → holds a x ≡ t → holds a y ≡ u
    → permits p (with_byte rest x b) y ≡ permits p rest y → permits p (with_byte (a ∷ rest) x b) y ≡ permits p (a ∷ rest) y
permits_step p a rest x y b true true blind e f later = let k = holds-set a x y b in rw (e, k, f) (blind a (set a.bytes (x - a.low) b))
permits_step p a rest x y b true false blind e f later = let k = holds-set a x y b in rw (e, k, f) refl
permits_step p a rest x y b false true blind e f later = rw (e, f) refl
permits_step p a rest x y b false false blind e f later = rw (e, f) later

permits-with_byte : (p : Area → Bool) (m : List Area) (x y b : ℕ) → SeesNoByte p → permits p (with_byte m x b) y ≡ permits p m y
permits-with_byte p [] x y b blind = refl
permits-with_byte p (a ∷ rest) x y b blind = permits_step p a rest x y b (holds a x) (holds a y) blind refl refl (permits-with_byte p rest x y b blind)

permits-with_bytes_at : (p : Area → Bool) (bs : List ℕ) (m : List Area) (x y : ℕ) → SeesNoByte p → permits p (with_bytes_at m x bs) y ≡ permits p m y
permits-with_bytes_at p [] m x y blind = refl
permits-with_bytes_at p (b ∷ bs) m x y blind = permits-with_bytes_at p bs (with_byte m x b) (suc x) y blind ∙ permits-with_byte p m x y b blind

-- bytes that are set change no permission
pub all_permitted-with_bytes_at : (p : Area → Bool) (bs : List ℕ) (m : List Area) (x n y : ℕ) → SeesNoByte p → all_permitted p n (with_bytes_at m x bs) y ≡ all_permitted p n m y
all_permitted-with_bytes_at p bs m x zero y blind = refl
all_permitted-with_bytes_at p bs m x (suc n) y blind =
    let here = permits-with_bytes_at p bs m x y blind in
    let rest = all_permitted-with_bytes_at p bs m x n (suc y) blind in
    rw (here, rest) refl

-- one turn of a loop that sets the bytes xs, n of them now
pub set_turn-bytes : (m new : List Area) (x n : ℕ) (xs : List ℕ) → n ≤ length xs → new ≡ with_bytes_at m x (take n xs) → with_bytes_at new (x + n) (drop n xs) ≡ with_bytes_at m x xs
set_turn-bytes m new x n xs h e =
    let long = length-take-le n xs h in
    ap (λ (v : List Area). with_bytes_at v (x + n) (drop n xs)) e
    ∙ sym (with_bytes_at-append (take n xs) (drop n xs) m x (x + n) (omega arith))
    ∙ ap (λ (v : List ℕ). with_bytes_at m x v) (take-append-drop n xs)

pub set_turn-permitted : (p : Area → Bool) (m new : List Area) (x n : ℕ) (xs : List ℕ) → SeesNoByte p → n ≤ length xs → new ≡ with_bytes_at m x (take n xs)
    → all_permitted p (length xs) m x ≡ true → all_permitted p (length (drop n xs)) new (x + n) ≡ true
set_turn-permitted p m new x n xs blind h e all =
    let long = length-drop n xs in
    ap (λ (v : List Area). all_permitted p (length (drop n xs)) v (x + n)) e
    ∙ all_permitted-with_bytes_at p (take n xs) m x (length (drop n xs)) (x + n) blind
    ∙ all_permitted-rest p m n (length (drop n xs)) (length xs) x (x + n) (omega arith) refl all

-- all bytes of the areas, from one of them on
pub all_bytes-drop : (m : List Area) (i : ℕ) → i < length m → all_bytes (drop i m) ≡ (nth_area m i).bytes ++ all_bytes (drop (i + 1) m)
all_bytes-drop m i h = at_drop_more all_bytes m i no_area h

pub length-all_bytes : (from : ℕ) (m : List Area) → AreasLieFrom from m → from < 2 ^ 63 → from + length (all_bytes m) < 2 ^ 63
length-all_bytes from [] lie h = omega arith
length-all_bytes from (a ∷ rest) lie h =
    let e = length-all_bytes (end_of a) rest lie.4 lie.3 in
    let l = lie.0 in
    let both = length-append a.bytes (all_bytes rest) in
    omega arith
