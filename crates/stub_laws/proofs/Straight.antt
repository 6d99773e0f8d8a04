-- Instructions one after the other, as one step.
use Rattle.std.proofs.Common.{ℕ, suc, List, [], ◌∷◌}
use Rattle.rv64_decode.specs.declared.instr.UpperOp.TheVariants.{Lui}
use Rattle.rv64_decode.specs.declared.instr.Instr.TheVariants.{Alu, AluImm, Upper}
use Rattle.rv64_decode.specs.declared.xinstr.XInstr.{XInstr}
use Rattle.rv64_decode.specs.declared.xinstr.XInstr.TheVariants.{Base, Put, Get}
use Rattle.stub_laws.specs.Places.{behind}
use Rattle.stub_laws.specs.Straight.{IsSimple, AreSimple, effect, slot_effect, all_registers, all_slots}
use Rattle.stub_laws.proofs.Steps.{World, Wins, Stands, alu_law, imm_law, lui_law, get_law, put_law}

one : (w : World) (p : ℕ) (f g : ℕ → ℕ) (i : XInstr) (is : List XInstr) → IsSimple i → Stands w p (i ∷ is) → Wins w (suc p) (effect i f g) (slot_effect i f g) → Wins w p f g
one w p f g (Base (Alu op rd rs1 rs2)) is x has h = alu_law w p f g op rd rs1 rs2 has.0 h
one w p f g (Base (AluImm op rd rs1 imm)) is x has h = imm_law w p f g op rd rs1 imm has.0 h
one w p f g (Base (Upper Lui rd imm)) is x has h = lui_law w p f g rd imm has.0 h
one w p f g (Put slot rs1) is x has h = put_law w p f g slot rs1 has.0 h
one w p f g (Get rd slot) is x has h = get_law w p f g rd slot has.0 h
one w p f g i is x has h = absurd x

pub straight_law : (w : World) (is : List XInstr) (p : ℕ) (f g : ℕ → ℕ) → AreSimple is → Stands w p is → Wins w (behind p is) (all_registers is f g) (all_slots is f g) → Wins w p f g
straight_law w [] p f g x has h = h
straight_law w (i ∷ is) p f g x has h = one w p f g i is x.0 has (straight_law w is (suc p) (effect i f g) (slot_effect i f g) x.1 has.1 h)
