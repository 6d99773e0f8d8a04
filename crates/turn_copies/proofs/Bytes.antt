-- Laws of memories by their bytes.
use Rattle.std.proofs.Common.{◌≡◌, ◌≢◌, ℕ, zero, suc, ◌+◌, ◌-◌, ◌/◌, ◌%◌, ◌<◌, ◌≤◌, List, [], ◌∷◌, length, get_or, set, Bool, true, false, cond, refl, sym, ◌∙◌, inl, inr, ◌⊎◌, arith}
use Rattle.std.proofs.lemmas.List.{get_or-set_same, get_or-set_other, length-set}
use Rattle.std.proofs.lemmas.Bool.Decides.{nat_tests}
use Rattle.rv64_decode.specs.Area.{Area, holds, byte_at, with_byte, with_number}
use Rattle.loop_data.proofs.CellBytes.{maps}
use Rattle.turn_copies.specs.Memories.{SameAreas}

holds_inside : (a : Area) (x : ℕ) → holds a x ≡ true → (a.low ≤ x) × (x < a.low + length a.bytes)
holds_inside a x h = (grind (arith, nat_tests), grind (arith, nat_tests))

-- an area with other bytes, as many
same_holds : (a : Area) (bytes : List ℕ) (x : ℕ) → length bytes ≡ length a.bytes → holds (record a { bytes = bytes }) x ≡ holds a x
same_holds a bytes x e = rw e refl

byte_of_set : (a : Area) (x y b : ℕ) → holds a x ≡ true → holds a y ≡ true → y ≢ x → get_or (set a.bytes (x - a.low) b) (y - a.low) 0 ≡ get_or a.bytes (y - a.low) 0
byte_of_set a x y b h k ne =
    let p = holds_inside a x h in
    let q = holds_inside a y k in
    get_or-set_other a.bytes (x - a.low) (y - a.low) b 0 (λ e. ne (omega arith))

same_step : (a : Area) (rest : List Area) (x b : ℕ) (t : Bool) → holds a x ≡ t → cond t true (maps rest x) ≡ true
    → (maps rest x ≡ true → byte_at (with_byte rest x b) x ≡ b) → byte_at (with_byte (a ∷ rest) x b) x ≡ b
same_step a rest x b true e h later =
    let p = holds_inside a x e in
    let l = length-set a.bytes (x - a.low) b in
    let k = same_holds a (set a.bytes (x - a.low) b) x l in
    rw (e, k, e) (get_or-set_same a.bytes (x - a.low) b 0 (omega arith))
same_step a rest x b false e h later = rw (e, e) (later h)

pub with_byte-same : (m : List Area) (x b : ℕ) → maps m x ≡ true → byte_at (with_byte m x b) x ≡ b
with_byte-same [] x b h = cc
with_byte-same (a ∷ rest) x b h = same_step a rest x b (holds a x) refl h (λ k. with_byte-same rest x b k)

other_step : (a : Area) (rest : List Area) (x y b : ℕ) (t u : Bool) → y ≢ x → holds a x ≡ t → holds a y ≡ u
    → byte_at (with_byte rest x b) y ≡ byte_at rest y → byte_at (with_byte (a ∷ rest) x b) y ≡ byte_at (a ∷ rest) y
other_step a rest x y b true true ne e f later =
    let l = length-set a.bytes (x - a.low) b in
    let k = same_holds a (set a.bytes (x - a.low) b) y l in
    rw (e, k, f) (byte_of_set a x y b e f ne)
other_step a rest x y b true false ne e f later =
    let l = length-set a.bytes (x - a.low) b in
    let k = same_holds a (set a.bytes (x - a.low) b) y l in
    rw (e, k, f) refl
other_step a rest x y b false true ne e f later = rw (e, f) refl
other_step a rest x y b false false ne e f later = rw (e, f) later

pub with_byte-other : (m : List Area) (x y b : ℕ) → y ≢ x → byte_at (with_byte m x b) y ≡ byte_at m y
with_byte-other [] x y b ne = refl
with_byte-other (a ∷ rest) x y b ne = other_step a rest x y b (holds a x) (holds a y) ne refl refl (with_byte-other rest x y b ne)

pub areas_refl : (m : List Area) → SameAreas m m
areas_refl [] = tt
areas_refl (a ∷ rest) = (refl, refl, refl, refl, refl, areas_refl rest)

pub areas_sym : (m n : List Area) → SameAreas m n → SameAreas n m
areas_sym [] [] h = tt
areas_sym [] (b ∷ bs) h = absurd h
areas_sym (a ∷ rest) [] h = absurd h
areas_sym (a ∷ rest) (b ∷ bs) h = (sym h.0, sym h.1, sym h.2, sym h.3, sym h.4, areas_sym rest bs h.5)

pub areas_trans : (m n o : List Area) → SameAreas m n → SameAreas n o → SameAreas m o
areas_trans [] [] [] h k = tt
areas_trans [] [] (c ∷ cs) h k = absurd k
areas_trans [] (b ∷ bs) o h k = absurd h
areas_trans (a ∷ rest) [] o h k = absurd h
areas_trans (a ∷ rest) (b ∷ bs) [] h k = absurd k
areas_trans (a ∷ rest) (b ∷ bs) (c ∷ cs) h k = (h.0 ∙ k.0, h.1 ∙ k.1, h.2 ∙ k.2, h.3 ∙ k.3, h.4 ∙ k.4, areas_trans rest bs cs h.5 k.5)

areas_step : (a : Area) (rest : List Area) (x b : ℕ) (t : Bool) → holds a x ≡ t → SameAreas rest (with_byte rest x b) → SameAreas (a ∷ rest) (with_byte (a ∷ rest) x b)
areas_step a rest x b true e later = rw e (refl, refl, refl, refl, sym (length-set a.bytes (x - a.low) b), areas_refl rest)
areas_step a rest x b false e later = rw e (refl, refl, refl, refl, refl, later)

pub with_byte-areas : (m : List Area) (x b : ℕ) → SameAreas m (with_byte m x b)
with_byte-areas [] x b = tt
with_byte-areas (a ∷ rest) x b = areas_step a rest x b (holds a x) refl (with_byte-areas rest x b)

pub with_number-areas : (n : ℕ) (m : List Area) (x v : ℕ) → SameAreas m (with_number n m x v)
with_number-areas zero m x v = areas_refl m
with_number-areas (suc n) m x v =
    areas_trans m (with_byte m x (v % 256)) (with_number n (with_byte m x (v % 256)) (suc x) (v / 256)) (with_byte-areas m x (v % 256)) (with_number-areas n (with_byte m x (v % 256)) (suc x) (v / 256))

pub byte_at-with_number : (n : ℕ) (m : List Area) (x v y : ℕ) → (y < x) ⊎ (x + n ≤ y) → byte_at (with_number n m x v) y ≡ byte_at m y
byte_at-with_number zero m x v y apart = refl
byte_at-with_number (suc n) m x v y apart =
    let ne : y ≢ x = elim apart [ inl h ↦ λ e. absurd (omega arith) | inr h ↦ λ e. absurd (omega arith) ] in
    let next : (y < suc x) ⊎ (suc x + n ≤ y) = elim apart [ inl h ↦ inl (omega arith) | inr h ↦ inr (omega arith) ] in
    byte_at-with_number n (with_byte m x (v % 256)) (suc x) (v / 256) y next ∙ with_byte-other m x y (v % 256) ne
