-- Addresses fit in 64 bits, and when two ranges of bytes have one in common.
use Rattle.std.proofs.Common.{◌≡◌, ◌^◌, ◌-◌, ◌*◌, ◌<◌, ◌≤◌, ℕ, suc, Bool, true, false, refl, sym, ◌∙◌, subst, arith, ℤ, pos, negsuc, ◌+ℤ◌, ◌-ℤ◌, inl, inr, ◌*ℤ◌, ◌≤ℤ◌, ◌<ℤ◌, to_z, of_z, FitsSigned, w64}
use Rattle.std.specs.Int.RustNames.{unsigned_abs}
use Rattle.std.specs.Prelude.{if◌then◌else◌, int_lt, IsTrue, ◌↔◌, ◌⊎◌}
use Rattle.rv64_decode.specs.Area.{bytes_of}
use Rattle.rv64_decode.specs.declared.memory.Width.{Width}
use Rattle.rv64_decode.specs.declared.memory.Width.TheVariants.{One, Two, Four, Eight}
use Rattle.std.proofs.lemmas.Bool.Decides.{nat_tests}
use Rattle.std.proofs.lemmas.Int.{ints, to_z-of_z, unsigned_abs-mul, fits_signed_mul}
use Rattle.std.proofs.lemmas.Nat.{mul-le}
use Rattle.linear_forms.specs.Forms.{is_small, constant_fits, between}
use Rattle.distance_vectors.specs.Distances.{ShareByte}
use Rattle.distance_vectors.specs.Searching.{IsAdvance, IsAddress}

between_is : (low high z : ℤ) → between low high z ≡ true → (low ≤ℤ z) × (z <ℤ high)
between_is low high z = go (int_lt z low) refl
  where
    go : (b : Bool) → int_lt z low ≡ b → (if b then false else int_lt z high) ≡ true → (low ≤ℤ z) × (z <ℤ high)
    go true e f = absurd (cc)
    go false e f = (grind (arith, ints), grind (arith, ints))

small_size : (z : ℤ) → is_small z ≡ true → unsigned_abs z ≤ 2 ^ 30 - 1
small_size (pos n) e = grind (arith, nat_tests)
small_size (negsuc n) e =
    let p = between_is (negsuc (2 ^ 30 - 2)) (pos (2 ^ 30)) (negsuc n) e in
    let l : negsuc (2 ^ 30 - 2) ≤ℤ negsuc n = p.0 in
    omega (arith, ints)

pub fits_small : (z : ℤ) → is_small z ≡ true → FitsSigned w64 z
fits_small (pos n) e = let h = small_size (pos n) e in omega (arith, ints)
fits_small (negsuc n) e = let h = small_size (negsuc n) e in omega (arith, ints)

constant_range : (z : ℤ) → constant_fits z ≡ true → (negsuc (2 ^ 31 - 1) ≤ℤ z) × (z <ℤ pos (2 ^ 31))
constant_range z e = between_is _ _ z e

small_product : (z k : ℤ) → is_small z ≡ true → unsigned_abs k ≤ 15 → unsigned_abs (z *ℤ k) ≤ (2 ^ 30 - 1) * 15
small_product z k e h = rw (unsigned_abs-mul z k) (product_below _ _ (small_size z e) h)
  where
    product_below : (m n : ℕ) → m ≤ 2 ^ 30 - 1 → n ≤ 15 → m * n ≤ (2 ^ 30 - 1) * 15
    product_below m n p q = mul-le m n (2 ^ 30 - 1) 15 p q

size_range : (z : ℤ) → unsigned_abs z ≤ (2 ^ 30 - 1) * 15 → IsAdvance z
size_range (pos n) h = record { low = omega (arith, ints); high = omega (arith, ints) }
size_range (negsuc n) h = record { low = omega (arith, ints); high = omega (arith, ints) }

pub product_is : (z k : ℤ) → FitsSigned w64 z → FitsSigned w64 k → is_small z ≡ true → unsigned_abs k ≤ 15
    → to_z w64 (of_z w64 (to_z w64 (of_z w64 z) *ℤ to_z w64 (of_z w64 k))) ≡ z *ℤ k
product_is z k f g e h =
    let fits : FitsSigned w64 (z *ℤ k) = fits_signed_mul w64 z k (2 ^ 30 - 1) 15 (small_size z e) h (omega arith) in
    rw (to_z-of_z w64 z f, to_z-of_z w64 k g) (to_z-of_z w64 (z *ℤ k) fits)

pub product_range : (z k : ℤ) → FitsSigned w64 z → FitsSigned w64 k → is_small z ≡ true → unsigned_abs k ≤ 15
    → IsAdvance (to_z w64 (of_z w64 (to_z w64 (of_z w64 z) *ℤ to_z w64 (of_z w64 k))))
product_range z k f g e h = rw (product_is z k f g e h) (size_range (z *ℤ k) (small_product z k e h))

fits_advance : (z : ℤ) → IsAdvance z → FitsSigned w64 z
fits_advance z h = let l = h.low in let g = h.high in omega (arith, ints)

fits_address : (z : ℤ) → IsAddress z → FitsSigned w64 z
fits_address z h = let l = h.low in let g = h.high in omega (arith, ints)

pub address_bits : (z : ℤ) → IsAddress z → to_z w64 (of_z w64 z) ≡ z
address_bits z h = to_z-of_z w64 z (fits_address z h)

advance_bits : (z : ℤ) → IsAdvance z → to_z w64 (of_z w64 z) ≡ z
advance_bits z h = to_z-of_z w64 z (fits_advance z h)

constant_bits : (z : ℤ) → constant_fits z ≡ true → to_z w64 (of_z w64 z) ≡ z
constant_bits z e = let p = constant_range z e in let l = p.0 in let g = p.1 in omega (arith, ints)

plain_inner : (y z : ℤ) → IsAdvance y → IsAdvance z → FitsSigned w64 (y +ℤ z)
plain_inner y z h i =
    let a = h.low in let b = h.high in let c = i.low in let d = i.high in omega (arith, ints)

plain_outer : (x y z : ℤ) → IsAdvance x → IsAdvance y → IsAdvance z → FitsSigned w64 (x +ℤ (y +ℤ z))
plain_outer x y z g h i =
    let p = g.low in let q = g.high in
    let a = h.low in let b = h.high in let c = i.low in let d = i.high in omega (arith, ints)

plain_address : (k x y z : ℤ) → constant_fits k ≡ true → IsAdvance x → IsAdvance y → IsAdvance z
    → IsAddress (k +ℤ (x +ℤ (y +ℤ z)))
plain_address k x y z e g h i =
    let r = constant_range k e in let s = r.0 in let t = r.1 in
    let p = g.low in let q = g.high in
    let a = h.low in let b = h.high in let c = i.low in let d = i.high in
    record { low = omega (arith, ints); high = omega (arith, ints) }

pub inner_fits : (y z : ℤ) → IsAdvance y → IsAdvance z → FitsSigned w64 (to_z w64 (of_z w64 y) +ℤ to_z w64 (of_z w64 z))
inner_fits y z h i = rw (advance_bits y h, advance_bits z i) (plain_inner y z h i)

inner_is : (y z : ℤ) → IsAdvance y → IsAdvance z
    → to_z w64 (of_z w64 (to_z w64 (of_z w64 y) +ℤ to_z w64 (of_z w64 z))) ≡ y +ℤ z
inner_is y z h i = rw (advance_bits y h, advance_bits z i) (to_z-of_z w64 (y +ℤ z) (plain_inner y z h i))

pub outer_fits : (x y z : ℤ) → IsAdvance x → IsAdvance y → IsAdvance z
    → FitsSigned w64 (to_z w64 (of_z w64 x) +ℤ to_z w64 (of_z w64 (to_z w64 (of_z w64 y) +ℤ to_z w64 (of_z w64 z))))
outer_fits x y z g h i = rw (inner_is y z h i, advance_bits x g) (plain_outer x y z g h i)

outer_is : (x y z : ℤ) → IsAdvance x → IsAdvance y → IsAdvance z
    → to_z w64 (of_z w64 (to_z w64 (of_z w64 x) +ℤ to_z w64 (of_z w64 (to_z w64 (of_z w64 y) +ℤ to_z w64 (of_z w64 z)))))
    ≡ x +ℤ (y +ℤ z)
outer_is x y z g h i =
    rw (inner_is y z h i, advance_bits x g) (to_z-of_z w64 (x +ℤ (y +ℤ z)) (plain_outer x y z g h i))

pub address_fits : (k x y z : ℤ) → constant_fits k ≡ true → IsAdvance x → IsAdvance y → IsAdvance z
    → FitsSigned w64 (to_z w64 (of_z w64 k) +ℤ to_z w64 (of_z w64 (to_z w64 (of_z w64 x)
    +ℤ to_z w64 (of_z w64 (to_z w64 (of_z w64 y) +ℤ to_z w64 (of_z w64 z))))))
address_fits k x y z e g h i =
    rw (outer_is x y z g h i, constant_bits k e) (fits_address _ (plain_address k x y z e g h i))

pub address_is : (k x y z : ℤ) → constant_fits k ≡ true → IsAdvance x → IsAdvance y → IsAdvance z
    → to_z w64 (of_z w64 (to_z w64 (of_z w64 k) +ℤ to_z w64 (of_z w64 (to_z w64 (of_z w64 x)
    +ℤ to_z w64 (of_z w64 (to_z w64 (of_z w64 y) +ℤ to_z w64 (of_z w64 z))))))) ≡ k +ℤ (x +ℤ (y +ℤ z))
address_is k x y z e g h i =
    rw (outer_is x y z g h i, constant_bits k e) (address_bits _ (plain_address k x y z e g h i))

pub address_range : (k x y z : ℤ) → constant_fits k ≡ true → IsAdvance x → IsAdvance y → IsAdvance z
    → IsAddress (to_z w64 (of_z w64 (to_z w64 (of_z w64 k) +ℤ to_z w64 (of_z w64 (to_z w64 (of_z w64 x)
    +ℤ to_z w64 (of_z w64 (to_z w64 (of_z w64 y) +ℤ to_z w64 (of_z w64 z))))))))
address_range k x y z e g h i = rw (address_is k x y z e g h i) (plain_address k x y z e g h i)

pub same_sums : (k x y z u v w : ℤ) → x ≡ u → y ≡ v → z ≡ w → k +ℤ (x +ℤ (y +ℤ z)) ≡ k +ℤ (u +ℤ (v +ℤ w))
same_sums k x y z u v w e f g = rw (e, f, g) refl

pub some_bytes : (w : Width) → 0 < bytes_of w
some_bytes One = omega arith
some_bytes Two = omega arith
some_bytes Four = omega arith
some_bytes Eight = omega arith

pub few_bytes : (w : Width) → bytes_of w ≤ 8
few_bytes One = omega arith
few_bytes Two = omega arith
few_bytes Four = omega arith
few_bytes Eight = omega arith

-- a test of the code is one of integers
pub test_is : (x y s : ℤ) (n : ℕ) → FitsSigned w64 x → IsAddress y → s ≡ pos n → n ≤ 8
    → int_lt (to_z w64 (of_z w64 x)) (to_z w64 (of_z w64 (to_z w64 (of_z w64 y) +ℤ to_z w64 (of_z w64 s)))) ≡ int_lt x (y +ℤ pos n)
test_is x y s n f h e few =
    let l = h.low in let g = h.high in
    let size : to_z w64 (of_z w64 s) ≡ pos n = rw e (omega (arith, ints)) in
    let end : FitsSigned w64 (y +ℤ pos n) = omega (arith, ints) in
    rw (to_z-of_z w64 x f, address_bits y h, size, to_z-of_z w64 (y +ℤ pos n) end) refl

-- the two tests of the code
tests_meet : (x : ℤ) (n : ℕ) (y : ℤ) (m : ℕ) → 0 < n → 0 < m → x <ℤ (y +ℤ pos m) → y <ℤ (x +ℤ pos n) → ShareByte x n y m
tests_meet x n y m p q h i = go (y -ℤ x) refl
  where
    go : (d : ℤ) → y -ℤ x ≡ d → ShareByte x n y m
    go (pos d) e = record {
      one = d;
      other = 0;
      one_inside = omega (arith, ints);
      other_inside = q;
      same = omega (arith, ints);
    }
    go (negsuc d) e = record {
      one = 0;
      other = suc d;
      one_inside = p;
      other_inside = omega (arith, ints);
      same = omega (arith, ints);
    }

meet_test : (x : ℤ) (n : ℕ) (y : ℤ) (m : ℕ) → ShareByte x n y m → y <ℤ (x +ℤ pos n)
meet_test x n y m h = let a = h.one_inside in let b = h.other_inside in let e = h.same in omega (arith, ints)

less_is : (a b : ℤ) → int_lt a b ≡ true → a <ℤ b
less_is a b e = grind (arith, ints)

is_less : (a b : ℤ) → a <ℤ b → int_lt a b ≡ true
is_less a b e = grind (arith, ints)

pub share_tests : (x : ℤ) (n : ℕ) (y : ℤ) (m : ℕ) (t : Bool) → 0 < n → 0 < m → int_lt x (y +ℤ pos m) ≡ true
    → t ≡ int_lt y (x +ℤ pos n) → IsTrue t ↔ ShareByte x n y m
share_tests x n y m t p q e f = (
  (λ h. tests_meet x n y m p q (less_is _ _ e) (less_is _ _ (sym f ∙ h))),
  (λ h. f ∙ is_less _ _ (meet_test x n y m h)),
)

-- a fact about the bits of two addresses is one about the addresses
pub shared_at : (x u y v : ℤ) (n m : ℕ) (t : Bool) → u ≡ x → v ≡ y → IsTrue t ↔ ShareByte u n v m → IsTrue t ↔ ShareByte x n y m
shared_at x u y v n m t e f h =
    subst (λ z. IsTrue t ↔ ShareByte x n z m) f (subst (λ z. IsTrue t ↔ ShareByte z n v m) e h)

-- where the first of two facts does not hold, either is the second
pub second_alone : (P Q : Type 0) (t : Bool) → (P → IsTrue false) → IsTrue t ↔ Q → IsTrue t ↔ (P ⊎ Q)
second_alone P Q t n h = ((λ x. inr (h.0 x)), go)
  where
    never : IsTrue false → ⊥
    never x = absurd (cc)

    go : P ⊎ Q → IsTrue t
    go (inl p) = absurd (never (n p))
    go (inr q) = h.1 q
