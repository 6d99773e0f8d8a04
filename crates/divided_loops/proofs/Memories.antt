-- Two memories of the same areas with the same bytes are one.
use Rattle.std.proofs.Common.{◌≡◌, ℕ, ◌+◌, ◌-◌, ◌<◌, ◌≤◌, refl, sym, ap, ◌∙◌, arith, true, false, List, [], ◌∷◌, length, ◌⊎◌, inl, inr, if◌then◌else◌}
use Rattle.std.specs.Prelude.{slice_index}
use Rattle.std.proofs.lemmas.Bool.{cases_lt}
use Rattle.std.proofs.lemmas.Bool.Decides.{nat_tests}
use Rattle.std.proofs.lemmas.Grind.{same_number_lists}
use Rattle.rv64_decode.specs.Area.{Area, holds, byte_at}
use Rattle.guest_memory.specs.Layout.{AreasLieFrom, end_of}
use Rattle.turn_copies.specs.Memories.{SameAreas}

area_is : (a b : Area) → a.low ≡ b.low → a.readable ≡ b.readable → a.writable ≡ b.writable → a.executable ≡ b.executable → a.bytes ≡ b.bytes → a ≡ b
area_is a b p q r s t =
    ap (λ v. record { low = v; readable = a.readable; writable = a.writable; executable = a.executable; bytes = a.bytes }) p
    ∙ (ap (λ v. record { low = b.low; readable = v; writable = a.writable; executable = a.executable; bytes = a.bytes }) q
    ∙ (ap (λ v. record { low = b.low; readable = b.readable; writable = v; executable = a.executable; bytes = a.bytes }) r
    ∙ (ap (λ v. record { low = b.low; readable = b.readable; writable = b.writable; executable = v; bytes = a.bytes }) s
    ∙ ap (λ v. record { low = b.low; readable = b.readable; writable = b.writable; executable = b.executable; bytes = v }) t)))

holds_inside : (a : Area) (x : ℕ) → a.low ≤ x → x < a.low + length a.bytes → holds a x ≡ true
holds_inside a x l u = grind (arith, nat_tests)

holds_not_above : (a : Area) (x : ℕ) → a.low + length a.bytes ≤ x → holds a x ≡ false
holds_not_above a x l = grind (arith, nat_tests)

holds_not_below : (a : Area) (x : ℕ) → x < a.low → holds a x ≡ false
holds_not_below a x l = grind (arith, nat_tests)

inside_is : (a : Area) (rest : List Area) (x : ℕ) → holds a x ≡ true → byte_at (a ∷ rest) x ≡ slice_index a.bytes (x - a.low)
inside_is a rest x h = ap (λ b. if b then slice_index a.bytes (x - a.low) else byte_at rest x) h

outside_is : (a : Area) (rest : List Area) (x : ℕ) → holds a x ≡ false → byte_at (a ∷ rest) x ≡ byte_at rest x
outside_is a rest x h = ap (λ b. if b then slice_index a.bytes (x - a.low) else byte_at rest x) h

-- below the first area there is no byte
below : (from : ℕ) (n m : List Area) (x : ℕ) → SameAreas n m → AreasLieFrom from m → x < from → byte_at n x ≡ 0
below from [] [] x s lie h = refl
below from [] (b ∷ m) x s lie h = absurd s
below from (a ∷ n) [] x s lie h = absurd s
below from (a ∷ n) (b ∷ m) x s lie h =
    let low = s.0 in
    let l = lie.0 in
    outside_is a n x (holds_not_below a x (omega (arith, low, l, h))) ∙ below (end_of b) n m x s.5 lie.4 (omega (arith, l, h))

areas_again : (m : List Area) → SameAreas m m
areas_again [] = tt
areas_again (a ∷ m) = (refl, refl, refl, refl, refl, areas_again m)

pub memories_are : (from : ℕ) (n m : List Area) → AreasLieFrom from m → SameAreas n m → ((x : ℕ) → byte_at n x ≡ byte_at m x) → n ≡ m
memories_are from [] [] lie s same = refl
memories_are from [] (b ∷ m) lie s same = absurd s
memories_are from (a ∷ n) [] lie s same = absurd s
memories_are from (a ∷ n) (b ∷ m) lie s same =
    let low = s.0 in
    let size = s.4 in
    let each : (i : ℕ) → i < length a.bytes → slice_index a.bytes i ≡ slice_index b.bytes i = λ i h.
    (let x = b.low + i in
    let e : x - a.low ≡ i = omega (arith, low) in
    let f : x - b.low ≡ i = omega arith in
    let p = inside_is a n x (holds_inside a x (omega (arith, low)) (omega (arith, low, h))) in
    let q = inside_is b m x (holds_inside b x (omega arith) (omega (arith, size, h))) in
    sym (ap (slice_index a.bytes) e) ∙ sym p ∙ same x ∙ q ∙ ap (slice_index b.bytes) f) in
    let rest : (x : ℕ) → byte_at n x ≡ byte_at m x = λ x. later x (cases_lt x (end_of b)) in
    let first : a ≡ b = area_is a b low s.1 s.2 s.3 (same_number_lists a.bytes b.bytes size each) in
    ap (λ (z : Area). z ∷ n) first ∙ ap (λ (z : List Area). b ∷ z) (memories_are (end_of b) n m lie.4 s.5 rest)
  where
    later : (x : ℕ) → (x < end_of b) ⊎ (end_of b ≤ x) → byte_at n x ≡ byte_at m x
    later x (inl h) = below (end_of b) n m x s.5 lie.4 h ∙ sym (below (end_of b) m m x (areas_again m) lie.4 h)
    later x (inr h) =
        let low = s.0 in
        let size = s.4 in
        sym (outside_is a n x (holds_not_above a x (omega (arith, low, size, h)))) ∙ same x ∙ outside_is b m x (holds_not_above b x h)
