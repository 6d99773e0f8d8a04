-- First parts of bytes.
use Rattle.std.proofs.Common.{◌≡◌, ℕ, zero, suc, ◌+◌, ◌-◌, length, ◌++◌, List, [], ◌∷◌, take, drop, refl, ap, ◌∙◌}
use Rattle.std.proofs.Common.{arith}
use Rattle.std.proofs.lemmas.List.{append_assoc, length-drop, take_all}

take_and_more : (j k : ℕ) (xs : List ℕ) → take j xs ++ take k (drop j xs) ≡ take (j + k) xs
take_and_more zero k xs = let e : 0 + k ≡ k = omega arith in rw e refl
take_and_more (suc j) zero [] = let e : suc j + 0 ≡ suc j = omega arith in rw e refl
take_and_more (suc j) (suc k) [] = let e : suc j + suc k ≡ suc (j + suc k) = omega arith in rw e refl
take_and_more (suc j) k (x ∷ xs) =
    let e : suc j + k ≡ suc (j + k) = omega arith in rw e (ap (λ (ys : List ℕ). x ∷ ys) (take_and_more j k xs))

-- what is written, and then a first part of the bytes that are left
pub written_more : (j k : ℕ) (zs bytes : List ℕ)
    → (zs ++ take j bytes) ++ take k (take (length bytes - j) (drop j bytes)) ≡ zs ++ take (j + k) bytes
written_more j k zs bytes =
    let d = length-drop j bytes in
    let whole : take (length bytes - j) (drop j bytes) ≡ drop j bytes = take_all (length bytes - j) (drop j bytes)
    (omega arith) in
    rw whole (append_assoc zs (take j bytes) (take k (drop j bytes))
    ∙ ap (λ (ys : List ℕ). zs ++ ys) (take_and_more j k bytes))
