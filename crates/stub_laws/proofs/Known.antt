-- What is known of the locations while added code runs.
use Rattle.std.proofs.Common.{◌≡◌, ℕ, ◌^◌, ◌<◌, refl, sym, ap, ◌∙◌, arith, Option, Some, None, Bool, true, false, cond}
use Rattle.std.specs.Prelude.{◌==◌, ◌||◌, if◌then◌else◌}
use Rattle.std.proofs.lemmas.Bool.Decides.{nat_tests}
use Rattle.stub_laws.specs.Straight.{read, put}
use Rattle.stub_laws.specs.Locations.{slot_of}

-- what a location reads: its slot, or else its register
abbrev pub seen : (ℕ → ℕ) → (ℕ → ℕ) → ℕ → Option ℕ → ℕ
seen f g loc None = read f loc
seen f g loc (Some slot) = g slot

-- the locations of which this is known hold their entry values
pub record Knows (known : ℕ → Bool) (e f g : ℕ → ℕ) : Type 0 where
  pub each : (loc : ℕ) → known loc ≡ true → seen f g loc (slot_of loc) ≡ e loc
  pub small : (loc : ℕ) → e loc < 2 ^ 64

-- a register whose entry value is kept in a slot
pub record Temporary (r : ℕ) : Type 0 where
  pub slot : ℕ
  pub is : slot_of r ≡ Some slot

pub same_number : (a b : ℕ) → (a == b) ≡ true → a ≡ b
same_number a b h = grind (arith, nat_tests)

pub same_again : (a : ℕ) → (a == a) ≡ true
same_again a = grind (arith, nat_tests)

seen_put : (f g : ℕ → ℕ) (r v loc slot : ℕ) (o : Option ℕ) (t : Bool) → slot_of r ≡ Some slot → slot_of loc ≡ o → (loc == r) ≡ t → seen (put f r v) g loc o ≡ seen f g loc o
seen_put f g r v loc slot (Some s) t a b c = refl
seen_put f g r v loc slot None true a b c = let e = ap slot_of (same_number loc r c) in cc
seen_put f g r v loc slot None false a b c = ap (λ x. if loc == 0 then 0 else cond x v (f loc)) c

pub knows_put : (known : ℕ → Bool) (e f g : ℕ → ℕ) (r v : ℕ) → Temporary r → Knows known e f g → Knows known e (put f r v) g
knows_put known e f g r v t h = record { each = λ loc k. seen_put f g r v loc t.slot (slot_of loc) (loc == r) t.is refl refl ∙ h.each loc k; small = h.small }

-- one location more
abbrev pub also : (ℕ → Bool) → ℕ → ℕ → Bool
also known new loc = known loc || (loc == new)

-- a slot, and the location whose entry value it holds
pub record Slot (new slot : ℕ) : Type 0 where
  pub is : slot_of new ≡ Some slot
  pub back : (loc : ℕ) → slot_of loc ≡ Some slot → loc ≡ new

seen_slot : (known : ℕ → Bool) (e f g : ℕ → ℕ) (new slot v loc : ℕ) (o : Option ℕ) (t u : Bool) → Slot new slot → slot_of loc ≡ o → known loc ≡ t → (loc == new) ≡ u → (t || u) ≡ true → v ≡ e new → (known loc ≡ true → seen f g loc o ≡ e loc) → seen f (put g slot v) loc o ≡ e loc
seen_slot known e f g new slot v loc None true u z a b c d h k = k b
seen_slot known e f g new slot v loc None false true z a b c d h k = let n = ap slot_of (same_number loc new c) in let y = z.is in cc
seen_slot known e f g new slot v loc None false false z a b c d h k = cc
seen_slot known e f g new slot v loc (Some s) t u z a b c d h k = by_slot (s == slot) refl
  where
    by_known : (t u : Bool) → known loc ≡ t → (loc == new) ≡ u → (t || u) ≡ true → (s == slot) ≡ false → g s ≡ e loc
    by_known true u b c d n = k b
    by_known false true b c d n =
        let m = ap slot_of (same_number loc new c) in
        let y = z.is in
        let q : s ≡ slot = cc in
        let r : (s == slot) ≡ true = grind (arith, nat_tests) in
        cc
    by_known false false b c d n = cc

    by_slot : (x : Bool) → (s == slot) ≡ x → cond (s == slot) v (g s) ≡ e loc
    by_slot true x = let n = z.back loc (a ∙ ap Some (same_number s slot x)) in rw x (h ∙ ap e (sym n))
    by_slot false x = rw x (by_known t u b c d x)

pub knows_slot : (known : ℕ → Bool) (e f g : ℕ → ℕ) (new slot v : ℕ) → Slot new slot → v ≡ e new → Knows known e f g → Knows (also known new) e f (put g slot v)
knows_slot known e f g new slot v z h k = record { each = λ loc n. seen_slot known e f g new slot v loc (slot_of loc) (known loc) (loc == new) z refl refl refl n h (k.each loc); small = k.small }
