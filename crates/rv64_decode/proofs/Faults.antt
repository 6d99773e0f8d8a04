-- An instruction that faults changes neither registers nor memory.
use Rattle.std.proofs.Common.{◌≡◌, ◌==◌, ℕ, ◌-◌, ◌%◌, if◌then◌else◌, Bool, true, false, List, Option, Some, None, Result, Ok, Err, refl}
use Rattle.rv64_decode.specs.Area.{Area, load_of, why, or_refusal, unless_refused, writable_of, with_number, bytes_of}
use Rattle.rv64_decode.specs.Ask.{after, without_number}
use Rattle.rv64_decode.specs.Registers.{register, with_register}
use Rattle.rv64_decode.specs.Row.{asks, outcome, Outcome, onward, jump, loaded, stored, plus_offset, taken, store_width, load_width, next_pc}
use Rattle.rv64_decode.specs.declared.memory.MemFault.{MemFault}
use Rattle.rv64_decode.specs.declared.outcome.Fault.{Fault}
use Rattle.rv64_decode.specs.declared.outcome.Next.TheVariants.{Fault as Faulting}
use Rattle.rv64_decode.specs.declared.instr.LoadOp.{LoadOp}
use Rattle.rv64_decode.specs.declared.instr.Instr.{Instr}
use Rattle.rv64_decode.specs.declared.instr.Instr.TheVariants.{Alu, AluImm, Upper, Load, Store, Branch, Jal, Jalr, Fence, Ecall, Ebreak}

-- registers and memory are those of before
pub record Stays (o : Outcome) (regs : List ℕ) (new old : List Area) : Type 0 where
  pub regs_stay : o.regs ≡ regs
  pub memory_stays : new ≡ old

loaded_fault : (op : LoadOp) (rd addr pc : ℕ) (regs : List ℕ) (m : List Area) (r : Result ℕ MemFault) (kind : Fault) (at : ℕ)
    → (loaded op rd addr pc regs r).next ≡ Faulting kind at → Stays (loaded op rd addr pc regs r) regs m m
loaded_fault op rd addr pc regs m (Ok n) kind at e = cc
loaded_fault op rd addr pc regs m (Err fault) kind at e = record { regs_stay = refl; memory_stays = refl }

stored_fault : (addr pc : ℕ) (regs : List ℕ) (m n : List Area) (o : Option MemFault) (kind : Fault) (at : ℕ)
    → (stored addr pc regs (without_number (or_refusal o tt))).next ≡ Faulting kind at
    → Stays (stored addr pc regs (without_number (or_refusal o tt))) regs (unless_refused o m n) m
stored_fault addr pc regs m n None kind at e = cc
stored_fault addr pc regs m n (Some fault) kind at e = record { regs_stay = refl; memory_stays = refl }

jumped_fault : (target : ℕ) (old new : List ℕ) (m : List Area) (b : Bool) (kind : Fault) (at : ℕ) → (target % 4 == 0) ≡ b
    → (jump target old new).next ≡ Faulting kind at → Stays (jump target old new) old m m
jumped_fault target old new m true kind at t e = let f = rw t at e in cc
jumped_fault target old new m false kind at t e = rw t (record { regs_stay = refl; memory_stays = refl })

branched_fault : (target pc : ℕ) (regs : List ℕ) (m : List Area) (b : Bool) (kind : Fault) (at : ℕ)
    → (if b then jump target regs regs else onward pc regs).next ≡ Faulting kind at → Stays (if b then jump target regs regs else onward pc regs) regs m m
branched_fault target pc regs m true kind at e = jumped_fault target regs regs m (target % 4 == 0) kind at refl e
branched_fault target pc regs m false kind at e = cc

pub outcome_fault : (i : Instr) (pc : ℕ) (regs : List ℕ) (m : List Area) (kind : Fault) (at : ℕ)
    → (outcome i pc regs m).next ≡ Faulting kind at → Stays (outcome i pc regs m) regs (after m (asks i regs)) m
outcome_fault (Alu op rd rs1 rs2) pc regs m kind at e = cc
outcome_fault (AluImm op rd rs1 imm) pc regs m kind at e = cc
outcome_fault (Upper op rd imm) pc regs m kind at e = cc
outcome_fault (Load op rd rs1 imm) pc regs m kind at e =
    loaded_fault op rd (plus_offset (register regs rs1) imm) pc regs m (load_of m (plus_offset (register regs rs1) imm) (load_width op)) kind at e
outcome_fault (Store op rs1 rs2 imm) pc regs m kind at e =
    let addr = plus_offset (register regs rs1) imm in
    stored_fault addr pc regs m (with_number (bytes_of (store_width op)) m addr (register regs rs2)) (why writable_of m addr (store_width op)) kind at e
outcome_fault (Branch op rs1 rs2 imm) pc regs m kind at e =
    branched_fault (plus_offset pc imm) pc regs m (taken op (register regs rs1) (register regs rs2)) kind at e
outcome_fault (Jal rd imm) pc regs m kind at e = jumped_fault (plus_offset pc imm) regs (with_register regs rd (next_pc pc)) m _ kind at refl e
outcome_fault (Jalr rd rs1 imm) pc regs m kind at e =
    let sum = plus_offset (register regs rs1) imm in
    jumped_fault (sum - sum % 2) regs (with_register regs rd (next_pc pc)) m _ kind at refl e
outcome_fault (Fence rd rs1 imm) pc regs m kind at e = cc
outcome_fault Ecall pc regs m kind at e = cc
outcome_fault Ebreak pc regs m kind at e = record { regs_stay = refl; memory_stays = refl }
