-- An instruction that loads, by what the registers and slots read.
use Rattle.std.proofs.Common.{◌≡◌, ℕ, suc, ap, ◌∙◌, ℤ, Some, Ok, [], ◌∷◌, ◌++◌}
use Rattle.rv64_decode.specs.Area.{load_of}
use Rattle.rv64_decode.specs.Ask.{Loads}
use Rattle.rv64_decode.specs.Hart.{address, fetched, moved}
use Rattle.rv64_decode.specs.Registers.{register, with_register}
use Rattle.rv64_decode.specs.Row.{plus_offset, extended, load_width, loaded}
use Rattle.rv64_decode.specs.declared.instr.LoadOp.{LoadOp}
use Rattle.rv64_decode.specs.declared.instr.Instr.TheVariants.{Load}
use Rattle.rv64_decode.specs.declared.xinstr.XInstr.TheVariants.{Base}
use Rattle.rv64_decode.specs.declared.xinstr.XNext.TheVariants.{Own}
use Rattle.stub_laws.specs.Straight.{read, put}
use Rattle.stub_laws.proofs.Small.{fetched_small}
use Rattle.stub_laws.proofs.Steps.{World, Wins, hart_at, go, next_address, place_small, reads_put}
use Rattle.stub_laws.proofs.Logs.{at}

pub load_law : (w : World) (p n : ℕ) (f g : ℕ → ℕ) (op : LoadOp) (rd rs1 : ℕ) (imm : ℤ) → fetched w.code (address p) ≡ Some
    (Base (Load op rd rs1 imm)) → load_of w.memory (plus_offset (read f rs1) imm) (load_width op) ≡ Ok n
    → Wins (at w (w.log ++ Loads (plus_offset (read f rs1) imm) (load_width op) ∷ [])) (suc p) (put f rd (extended op n)) g → Wins w p f g
load_law w p n f g op rd rs1 imm e told next = record {
  by = λ regs slots a b.
      let small = fetched_small w.code (address p) _ e in
      let new = with_register regs rd (extended op n) in
      let x = plus_offset (read f rs1) imm in
      let l = w.log ++ Loads x (load_width op) ∷ [] in
      let same : plus_offset (register regs rs1) imm ≡ x = ap (λ y. plus_offset y imm) (a.each rs1 small.1) in
      go w (hart_at w p regs slots) (hart_at (at w l) (suc p) new slots) _ e
      (ap (λ y. moved (hart_at w p regs slots) (Own (loaded op rd y (address p) regs (load_of w.memory y (load_width op))).next)
      (loaded op rd y (address p) regs (load_of w.memory y (load_width op))).regs slots (Loads y (load_width op))) same
      ∙ ap (λ r. moved (hart_at w p regs slots) (Own (loaded op rd x (address p) regs r).next) (loaded op rd x (address p) regs r).regs
      slots (Loads x (load_width op))) told
      ∙ ap (λ k. record { pc = k; regs = new; slots = slots; memory = w.memory; log = l; number = w.number; harts = w.harts })
      (next_address p (place_small w p _ e)))
      (next.by new slots (reads_put regs f rd (extended op n) small.0 a) b);
}
