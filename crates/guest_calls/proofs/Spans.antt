-- Bytes in a row, in two parts.
use Rattle.std.proofs.Common.{◌≡◌, ℕ, zero, suc, ◌+◌, ◌-◌, ◌≤◌, ◌++◌, List, [], ◌∷◌, length, take, drop, Bool, true, false, ◌&&◌, refl, ap, sym, ◌∙◌, arith, min}
use Rattle.std.proofs.lemmas.List.{length-take, length-drop, take_all, drop_all, append-nil, append_assoc}
use Rattle.rv64_decode.specs.Area.{Area, byte_at}
use Rattle.guest_memory.specs.Spans.{permits, all_permitted, bytes_at}

both : (a b : Bool) → (a && b) ≡ true → (a ≡ true) × (b ≡ true)
both true b h = (refl, h)
both false b h = cc

-- fewer bytes from the same address
pub permitted_fewer : (permission : Area → Bool) (k n : ℕ) (m : List Area) (addr : ℕ) → all_permitted permission n m addr ≡ true → k ≤ n → all_permitted permission k m addr ≡ true
permitted_fewer permission zero n m addr h l = refl
permitted_fewer permission (suc k) zero m addr h l = absurd (omega arith)
permitted_fewer permission (suc k) (suc n) m addr h l =
    let p = both (permits permission m addr) (all_permitted permission n m (suc addr)) h in
    rw (p.0, permitted_fewer permission k n m (suc addr) p.1 (omega arith)) refl

-- the first of some other bytes
pub permitted_taken : (permission : Area → Bool) (k n : ℕ) (bytes : List ℕ) (m : List Area) (addr : ℕ) → all_permitted permission n m addr ≡ true → k ≤ n → all_permitted permission (length (take k bytes)) m addr ≡ true
permitted_taken permission k n bytes m addr h l =
    let t = length-take k bytes in permitted_fewer permission (length (take k bytes)) n m addr h (omega arith)

-- the bytes behind the first k
pub permitted_rest : (permission : Area → Bool) (k n : ℕ) (m : List Area) (addr : ℕ) → all_permitted permission n m addr ≡ true → k ≤ n → all_permitted permission (n - k) m (addr + k) ≡ true
permitted_rest permission zero n m addr h l =
    let a : n - 0 ≡ n = omega arith in let b : addr + 0 ≡ addr = omega arith in rw (a, b) h
permitted_rest permission (suc k) zero m addr h l = absurd (omega arith)
permitted_rest permission (suc k) (suc n) m addr h l =
    let p = both (permits permission m addr) (all_permitted permission n m (suc addr)) h in
    let a : suc n - suc k ≡ n - k = omega arith in
    let b : addr + suc k ≡ suc addr + k = omega arith in
    rw (a, b) (permitted_rest permission k n m (suc addr) p.1 (omega arith))

pub bytes_at_add : (j k : ℕ) (m : List Area) (addr : ℕ) → bytes_at (j + k) m addr ≡ bytes_at j m addr ++ bytes_at k m (addr + j)
bytes_at_add zero k m addr =
    let a : 0 + k ≡ k = omega arith in let b : addr + 0 ≡ addr = omega arith in rw (a, b) refl
bytes_at_add (suc j) k m addr =
    let a : suc j + k ≡ suc (j + k) = omega arith in
    let b : addr + suc j ≡ suc addr + j = omega arith in
    rw (a, b) (ap (λ (xs : List ℕ). byte_at m addr ∷ xs) (bytes_at_add j k m (suc addr)))

pub take_bytes_at : (k n : ℕ) (m : List Area) (addr : ℕ) → k ≤ n → take k (bytes_at n m addr) ≡ bytes_at k m addr
take_bytes_at zero n m addr l = refl
take_bytes_at (suc k) zero m addr l = absurd (omega arith)
take_bytes_at (suc k) (suc n) m addr l = ap (λ (xs : List ℕ). byte_at m addr ∷ xs) (take_bytes_at k n m (suc addr) (omega arith))

-- nothing is left behind the first k
pub short_drop : (k : ℕ) (xs : List ℕ) → drop k xs ≡ [] → length xs ≤ k
short_drop k xs e = let d = length-drop k xs in let z : length (drop k xs) ≡ 0 = ap (λ (ys : List ℕ). length ys) e in omega arith

-- the first bytes and then some of the others are the first of all
pub take_take : (j k : ℕ) (xs ys : List ℕ) → take j xs ++ (take k (drop j xs) ++ ys) ≡ take (j + k) xs ++ ys
take_take zero k xs ys = let e : 0 + k ≡ k = omega arith in rw e refl
take_take (suc j) zero [] ys = let e : suc j + 0 ≡ suc j = omega arith in rw e refl
take_take (suc j) (suc k) [] ys = let e : suc j + suc k ≡ suc (j + suc k) = omega arith in rw e refl
take_take (suc j) k (x ∷ xs) ys =
    let e : suc j + k ≡ suc (j + k) = omega arith in rw e (ap (λ (zs : List ℕ). x ∷ zs) (take_take j k xs ys))

-- all that is there is less than what is asked for
pub taken_all : (done len : ℕ) (xs : List ℕ) → length xs ≤ done → done ≤ len → take done xs ++ [] ≡ take len xs
taken_all done len xs short l =
    let a = take_all done xs short in
    let b = take_all len xs (omega arith) in
    rw (a, b) (append-nil xs)

-- the first bytes of those from the address on, and then some more of them
pub bytes_at_more : (done k : ℕ) (m : List Area) (addr : ℕ) (ys : List ℕ) → (ys ++ bytes_at done m addr) ++ bytes_at k m (addr + done) ≡ ys ++ bytes_at (done + k) m addr
bytes_at_more done k m addr ys = rw (append_assoc, bytes_at_add done k m addr) refl

-- as many bytes as are there, of those that were taken from the address on
pub take_piece : (k : ℕ) (bytes : List ℕ) (m : List Area) (addr : ℕ) → bytes ≡ bytes_at (length bytes) m addr → k ≤ length bytes → take k bytes ≡ bytes_at k m addr
take_piece k bytes m addr e l =
    ap (λ (xs : List ℕ). take k xs) e ∙ take_bytes_at k (length bytes) m addr l

-- nothing is left behind more bytes either
pub at_end_rest : (done len : ℕ) (xs : List ℕ) → drop done xs ≡ [] → done ≤ len → drop done xs ≡ drop len xs
at_end_rest done len xs none l =
    let short = short_drop done xs none in
    none ∙ sym (drop_all len xs (omega arith))

pub take_piece_most : (k : ℕ) (bytes : List ℕ) (m : List Area) (addr : ℕ) → bytes ≡ bytes_at (length bytes) m addr → take k bytes ≡ bytes_at (min k (length bytes)) m addr
take_piece_most k bytes m addr e =
    let t = take_min k bytes in
    t ∙ take_piece (min k (length bytes)) bytes m addr e (omega arith)
  where
    take_min : (k : ℕ) (bytes : List ℕ) → take k bytes ≡ take (min k (length bytes)) bytes
    take_min zero bytes = let e : min 0 (length bytes) ≡ 0 = omega arith in rw e refl
    take_min (suc k) [] = let e : min (suc k) 0 ≡ 0 = omega arith in rw e refl
    take_min (suc k) (b ∷ rest) =
        let e : min (suc k) (suc (length rest)) ≡ suc (min k (length rest)) = omega arith in
        rw e (ap (λ (xs : List ℕ). b ∷ xs) (take_min k rest))

-- what is left behind the bytes that came
pub drop_taken : (len : ℕ) (xs : List ℕ) → drop (length (take len xs)) xs ≡ drop len xs
drop_taken zero xs = refl
drop_taken (suc len) [] = refl
drop_taken (suc len) (x ∷ xs) = drop_taken len xs
