-- A hart that executes simple instructions.
use Rattle.std.proofs.Common.{◌≡◌, ℕ, suc, ◌^◌, ◌≤◌, refl, ap, ◌∙◌, arith, Some, List, [], ◌∷◌, length}
use Rattle.std.specs.Prelude.{slice_index}
use Rattle.rv64_decode.specs.Hart.{Hart, run}
use Rattle.rv64_decode.specs.Registers.{register}
use Rattle.rv64_decode.specs.declared.instr.UpperOp.TheVariants.{Lui}
use Rattle.rv64_decode.specs.declared.instr.Instr.TheVariants.{Alu, AluImm, Upper}
use Rattle.rv64_decode.specs.declared.xinstr.XInstr.{XInstr}
use Rattle.rv64_decode.specs.declared.xinstr.XInstr.TheVariants.{Base, Put, Get}
use Rattle.stub_laws.specs.Places.{aimed, StandsIn, behind}
use Rattle.stub_laws.specs.Straight.{IsSimple, AreSimple, all_registers, all_slots}
use Rattle.stub_laws.specs.Harts.{IsHartAt, Passed}
use Rattle.stub_laws.proofs.Straight.{straight_law}
use Rattle.stub_laws.proofs.Ends.{from_hart, here, world_of}

simple_aim : (to out p : ℕ) (i : XInstr) → IsSimple i → aimed to p i ≡ aimed out p i
simple_aim to out p (Base (Alu op rd rs1 rs2)) x = refl
simple_aim to out p (Base (AluImm op rd rs1 imm)) x = refl
simple_aim to out p (Base (Upper Lui rd imm)) x = refl
simple_aim to out p (Put slot rs1) x = refl
simple_aim to out p (Get rd slot) x = refl
simple_aim to out p i x = absurd x

-- no jump is open in simple code, so that it stands the same whatever they are aimed at
simple_anywhere : (code : List ℕ) (to out p : ℕ) (is : List XInstr) → AreSimple is → StandsIn code to p is → StandsIn code out p is
simple_anywhere code to out p [] x h = tt
simple_anywhere code to out p (i ∷ is) x h = (h.0 ∙ ap Some (simple_aim to out p i x.0), simple_anywhere code to out (suc p) is x.1 h.1)

-- simple code is executed
pub straight_runs : (code : List ℕ) (to p : ℕ) (is : List XInstr) (h : Hart) → length code ≤ 2 ^ 32 → AreSimple is → StandsIn code to p is → IsHartAt p h → (n : ℕ) × Passed is h (behind p is) (run code n h)
straight_runs code to p is h short simple stand at =
    let f = register h.regs in
    let g = slice_index h.slots in
    let goal : Hart → Type 0 = Passed is h (behind p is) in
    let w = world_of code short 0 (omega arith) h goal in
    from_hart code short 0 (omega arith) goal p h at
    (straight_law w is p f g simple (simple_anywhere code to 0 p is simple stand) (here w (behind p is) (all_registers is f g) (all_slots is f g)
    (λ regs slots a b. record { at = refl; registers = λ r l. a.each r l; slots = λ s l. b.each s l; memory = refl; log = refl })))
