-- The registers that added code works with, saved and restored.
use Rattle.std.proofs.Common.{◌≡◌, ℕ, ◌<◌, refl, sym, ap, ◌∙◌, arith, Option, Some, None, Bool, true, false, List, [], ◌∷◌, subst}
use Rattle.std.specs.Prelude.{◌==◌, nat_lt, slice_index}
use Rattle.std.proofs.lemmas.Bool.Decides.{nat_tests}
use Rattle.rv64_decode.specs.Hart.{Hart}
use Rattle.rv64_decode.specs.Registers.{register}
use Rattle.rv64_decode.specs.declared.xinstr.XInstr.TheVariants.{Back}
use Rattle.stub_laws.specs.Locations.{slot_of, held_by}
use Rattle.stub_laws.specs.Places.{behind}
use Rattle.stub_laws.specs.Straight.{read, AreSimple, all_slots}
use Rattle.stub_laws.proofs.Ends.{from_hart, here, world_of}
use Rattle.stub_laws.proofs.Known.{seen}
use Rattle.stub_laws.proofs.Steps.{World, Reads, Holds, hart_at}
use Rattle.stub_laws.proofs.Straight.{straight_law}
use Rattle.turn_copies.specs.StubCode.{save_code, restore_code}
use Rattle.turn_copies.specs.Edges.{is_other_slot, Saved, SaveLaw, Restored, RefuseLaw}
use Rattle.turn_copies.proofs.Following.{placed_front, placed_back}
use Rattle.turn_copies.proofs.Turns.{zero_near, twice}
use Rattle.turn_copies.proofs.Forks.{placed_stands}
use Rattle.turn_copies.proofs.Advances.{back_again, restored}
use Rattle.loop_data.proofs.Tests.{eq_of}

save_simple : AreSimple save_code
save_simple = (tt, (tt, (tt, (tt, (tt, (tt, (tt, tt)))))))

restore_simple : AreSimple restore_code
restore_simple = (tt, (tt, (tt, (tt, (tt, (tt, (tt, tt)))))))

abbrev saved_slots : (ℕ → ℕ) → (ℕ → ℕ) → ℕ → ℕ
saved_slots f g = all_slots save_code f g

-- each register where added code looks for it
saved_seen : (f g : ℕ → ℕ) (r : ℕ) → r < 32 → seen f (saved_slots f g) r (slot_of r) ≡ read f r
saved_seen f g r h = by_test (r == 5) (r == 6) (r == 7) (r == 28) (r == 29) (r == 30) (r == 31) refl refl refl refl refl refl refl
  where
    at : (n : ℕ) → (r == n) ≡ true → seen f (saved_slots f g) n (slot_of n) ≡ read f n → seen f (saved_slots f g) r (slot_of r) ≡ read f r
    at n e k = subst (λ x. seen f (saved_slots f g) x (slot_of x) ≡ read f x) (sym (eq_of r n e)) k

    by_test : (a b c d i j k : Bool) → (r == 5) ≡ a → (r == 6) ≡ b → (r == 7) ≡ c → (r == 28) ≡ d → (r == 29) ≡ i → (r == 30) ≡ j → (r == 31) ≡ k → seen f (saved_slots f g) r (slot_of r) ≡ read f r
    by_test true b c d i j k x5 x6 x7 x28 x29 x30 x31 = at 5 x5 refl
    by_test false true c d i j k x5 x6 x7 x28 x29 x30 x31 = at 6 x6 refl
    by_test false false true d i j k x5 x6 x7 x28 x29 x30 x31 = at 7 x7 refl
    by_test false false false true i j k x5 x6 x7 x28 x29 x30 x31 = at 28 x28 refl
    by_test false false false false true j k x5 x6 x7 x28 x29 x30 x31 = at 29 x29 refl
    by_test false false false false false true k x5 x6 x7 x28 x29 x30 x31 = at 30 x30 refl
    by_test false false false false false false true x5 x6 x7 x28 x29 x30 x31 = at 31 x31 refl
    by_test false false false false false false false x5 x6 x7 x28 x29 x30 x31 =
        let l : nat_lt r 32 ≡ true = grind (arith, nat_tests) in
        let n : slot_of r ≡ None = rw (x5, x6, x7, x28, x29, x30, x31, l) refl in
        ap (seen f (saved_slots f g) r) n

other_slots : (f g : ℕ → ℕ) (k : ℕ) → is_other_slot k ≡ true → saved_slots f g k ≡ g k
other_slots f g k h =
    let a : (k == 16) ≡ false = grind (arith, nat_tests) in let b : (k == 17) ≡ false = grind (arith, nat_tests) in
    let c : (k == 18) ≡ false = grind (arith, nat_tests) in let d : (k == 19) ≡ false = grind (arith, nat_tests) in
    let e : (k == 20) ≡ false = grind (arith, nat_tests) in let i : (k == 21) ≡ false = grind (arith, nat_tests) in
    let j : (k == 22) ≡ false = grind (arith, nat_tests) in
    rw (j, i, e, d, c, b, a) refl

-- what a hart has of a register, from its registers and slots as functions
below_slot : (r s : ℕ) → r < 32 → slot_of r ≡ Some s → s < 32
below_slot r s a h = grind (arith, nat_tests)

held_now : (w : World) (p : ℕ) (f g : ℕ → ℕ) (regs slots : List ℕ) (r : ℕ) (o : Option ℕ) → Reads regs f → Holds slots g → r < 32 → slot_of r ≡ o → held_by (hart_at w p regs slots) r o ≡ seen f g r o
held_now w p f g regs slots r None a b c d = a.each r c
held_now w p f g regs slots r (Some s) a b c d = b.each s (below_slot r s c d)

held_first : (h : Hart) (r : ℕ) (o : Option ℕ) → seen (register h.regs) (slice_index h.slots) r o ≡ held_by h r o
held_first h r None = sym (twice (r == 0) (slice_index h.regs r))
held_first h r (Some s) = refl

pub save_law : SaveLaw
save_law code q h short stands begins =
    let goal : Hart → Type 0 = Saved h (behind q save_code) in
    let w = world_of code short 0 zero_near h goal in
    let f = register h.regs in
    let g = slice_index h.slots in
    from_hart code short 0 zero_near goal q h begins
    (straight_law w save_code q f g save_simple (placed_stands code 0 q save_code save_simple stands)
    (here w (behind q save_code) f (saved_slots f g) (λ regs slots x y.
    record {
      at = refl;
      registers = λ r low. held_now w (behind q save_code) f (saved_slots f g) regs slots r (slot_of r) x y low refl ∙ saved_seen f g r low ∙ sym (twice (r == 0) (slice_index h.regs r));
      slots = λ k low other. y.each k low ∙ other_slots f g k other;
      memory = refl;
      log = refl;
    })))

pub refuse_law : RefuseLaw
refuse_law code q h short stands begins =
    let place = behind q restore_code in
    let goal : Hart → Type 0 = Restored code h place in
    let w = world_of code short 0 zero_near h goal in
    let f = register h.regs in
    let g = slice_index h.slots in
    let front = placed_front code q restore_code (Back ∷ []) stands in
    let back = placed_back code q restore_code (Back ∷ []) stands in
    from_hart code short 0 zero_near goal q h begins
    (straight_law w restore_code q f g restore_simple (placed_stands code 0 q restore_code restore_simple front)
    (here w place (back_again f g) g (λ regs slots x y.
    record {
      at = refl;
      leaves = back.0;
      registers = λ r low. x.each r low ∙ restored f g r low ∙ held_first h r (slot_of r);
      slots = λ k low. y.each k low;
      memory = refl;
      log = refl;
    })))
