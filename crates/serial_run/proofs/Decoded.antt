-- The instruction that a table has for an address is the one that is executed there.
use Rattle.std.proofs.Common.{◌≡◌, ℕ, ◌-◌, ◌%◌, ◌==◌, if◌then◌else◌, Bool, List, get_or, true, false, Option, Some, None, Result, Ok, Err, refl, ap, sym, subst, ◌∙◌, arith}
use Rattle.std.specs.Prelude.{is_some}
use Rattle.rv64_decode.specs.Area.{Area, fetch_of}
use Rattle.rv64_decode.specs.Ask.{Ask, Nothing, Loads, Stores, IsAllowed}
use Rattle.rv64_decode.specs.declared.memory.MemFault.{MemFault}
use Rattle.rv64_decode.specs.declared.instr.Instr.{Instr}
use Rattle.rv64_decode.specs.declared.instr.Instr.TheVariants.{Alu, AluImm, Upper, Load, Store, Branch, Jal, Jalr, Fence, Ecall, Ebreak}
use Rattle.rv64_decode.specs.declared.instr.LoadOp.{LoadOp}
use Rattle.rv64_decode.specs.declared.outcome.Next.TheVariants.{Call}
use Rattle.rv64_decode.specs.Ask.{answer}
use Rattle.rv64_decode.specs.Registers.{register, with_register}
use Rattle.rv64_decode.specs.Row.{asks, outcome, onward, jump, loaded, stored, plus_offset, taken, next_pc}
use Rattle.guest_memory.specs.Layout.{AreasLieFrom, KeepAreas}
use Rattle.guest_memory.proofs.Kept.{fetch-keeps}
use Rattle.serial_run.specs.Serial.{State, ended, with_ending, after_call, after_instr, after_fetch, unless_ended, step}
use Rattle.serial_run.specs.Runs.{Configuration, configuration_of, from_outside, is_port_fault, CallsNumber, DoesCall, StandsAtCall, call_at, Acts, Keeps, WritesPart}
use Rattle.rv64_decode.specs.Fetched.{instr_in, instr_at}
use Rattle.serial_run.specs.Table.{EndsAt, IsFault, IsEntryOf, IsTableOf}
use Rattle.serial_run.specs.declared.machine.Machine.{Machine}
use Rattle.serial_run.specs.declared.machine.End.{End}
use Rattle.serial_run.specs.declared.machine.End.TheVariants.{Exited, Faulted, Spent, ReadFault, WriteFault}
use Rattle.serial_run.specs.declared.table.Entry.{Entry}

-- every access may be asked of a memory
pub allowed_all : (a : Ask) → IsAllowed (λ b. Unit {0}) a
allowed_all Nothing = tt
allowed_all (Loads addr width) = tt
allowed_all (Stores addr width value) = tt

after_fetched : (s : State) (i : Instr) (r : Result ℕ MemFault) → instr_in r ≡ Some i → after_fetch s r ≡ after_instr s i
after_fetched s i (Ok word) e = rw e refl
after_fetched s i (Err why) e = cc

-- an instruction that stands at pc
pub step_instr : (s : State) (i : Instr) → ended s ≡ None → instr_at s.machine.memory s.machine.pc ≡ Some i → step s ≡ after_instr s i
unfolding step
step_instr s i none is =
    let r = fetch_of s.machine.memory s.machine.pc in
    ap (λ (o : Option End). unless_ended o s (after_fetch s r)) none ∙ after_fetched s i r is

-- ---- the only instruction that calls

jumps_on : (target : ℕ) (old new : List ℕ) (b : Bool) → (target % 4 == 0) ≡ b → (jump target old new).next ≡ Call → ⊥
jumps_on target old new true t e = let f = rw t at e in cc
jumps_on target old new false t e = let f = rw t at e in cc

branches_on : (target pc : ℕ) (regs : List ℕ) (b : Bool)
    → (if b then jump target regs regs else onward pc regs).next ≡ Call → ⊥
branches_on target pc regs true e = jumps_on target regs regs (target % 4 == 0) refl e
branches_on target pc regs false e = cc

loads_on : (op : LoadOp) (rd addr pc : ℕ) (regs : List ℕ) (r : Result ℕ MemFault) → (loaded op rd addr pc regs r).next ≡ Call → ⊥
loads_on op rd addr pc regs (Ok n) e = cc
loads_on op rd addr pc regs (Err why) e = cc

stores_on : (addr pc : ℕ) (regs : List ℕ) (r : Result ℕ MemFault) → (stored addr pc regs r).next ≡ Call → ⊥
stores_on addr pc regs (Ok n) e = cc
stores_on addr pc regs (Err why) e = cc

pub call_is_ecall : (i : Instr) (pc : ℕ) (regs : List ℕ) (m : List Area) → (outcome i pc regs m).next ≡ Call → i ≡ Ecall
call_is_ecall (Alu op rd rs1 rs2) pc regs m e = cc
call_is_ecall (AluImm op rd rs1 imm) pc regs m e = cc
call_is_ecall (Upper op rd imm) pc regs m e = cc
call_is_ecall (Load op rd rs1 imm) pc regs m e =
    absurd (loads_on op rd (plus_offset (register regs rs1) imm) pc regs (answer m (asks (Load op rd rs1 imm) regs)) e)
call_is_ecall (Store op rs1 rs2 imm) pc regs m e =
    absurd (stores_on (plus_offset (register regs rs1) imm) pc regs (answer m (asks (Store op rs1 rs2 imm) regs)) e)
call_is_ecall (Branch op rs1 rs2 imm) pc regs m e =
    absurd (branches_on (plus_offset pc imm) pc regs (taken op (register regs rs1) (register regs rs2)) e)
call_is_ecall (Jal rd imm) pc regs m e =
    absurd (jumps_on (plus_offset pc imm) regs (with_register regs rd (next_pc pc)) _ refl e)
call_is_ecall (Jalr rd rs1 imm) pc regs m e =
    let sum = plus_offset (register regs rs1) imm in
    absurd (jumps_on (sum - sum % 2) regs (with_register regs rd (next_pc pc)) _ refl e)
call_is_ecall (Fence rd rs1 imm) pc regs m e = cc
call_is_ecall Ecall pc regs m e = refl
call_is_ecall Ebreak pc regs m e = cc

-- it is the call at the state
pub acts_call : (i : Instr) (m n : Machine) (r : Option (List ℕ)) (rf : ℕ) (w : Option (List ℕ)) (wf : ℕ) (d : Configuration)
    → n ≡ m → i ≡ Ecall → Acts CallsNumber (λ s. after_call s (call_at s)) (configuration_of n r rf w wf) d
    → Acts (DoesCall i) (λ s. after_instr s i) (configuration_of m r rf w wf) d
acts_call i m n r rf w wf d same ecall a =
    let Q : Machine → Type 0 = λ v. Acts CallsNumber (λ s. after_call s (call_at s)) (configuration_of v r rf w wf) d in
    let P : Instr → Type 0 = λ j. Acts (DoesCall j) (λ s. after_instr s j) (configuration_of m r rf w wf) d in
    let b = subst Q same a in
    subst P (sym ecall) (record {
      machine = λ s e t f. b.machine s e (λ h. t (refl, h)) f;
      rest = b.rest;
      output = b.output;
      at_read = λ h. (refl, b.at_read h);
      at_write = λ h. (refl, b.at_write h);
      reading = b.reading;
      writing = b.writing;
      unread = b.unread;
      sent = b.sent;
    })

-- ---- instructions at pc

-- a machine that has moved nothing but bytes that may be written stands at the same instruction
same_instr : (m n : Machine) (i : Instr) → AreasLieFrom 0 m.memory → KeepAreas m.memory n.memory → n.pc ≡ m.pc
    → instr_at m.memory m.pc ≡ Some i → instr_at n.memory n.pc ≡ Some i
same_instr m n i lie k same is =
    ap (λ (pc : ℕ). instr_at n.memory pc) same ∙ ap instr_in (fetch-keeps m.memory n.memory m.pc lie k) ∙ is

pub stands : (m : Machine) (i : Instr) (n : ℕ) → instr_at m.memory m.pc ≡ Some i → DoesCall i n m → StandsAtCall n m
stands m i n is h = record { instr = is ∙ ap (λ (j : Instr). Some j) h.0; number = h.1 }

-- the instruction of a machine is the next of its states
pub acts_as : (i : Instr) (c d : Configuration) → c.machine.ended ≡ None → instr_at c.machine.memory c.machine.pc ≡ Some i
    → AreasLieFrom 0 c.machine.memory → KeepAreas c.machine.memory d.machine.memory
    → Acts (DoesCall i) (λ s. after_instr s i) c d → Acts StandsAtCall step c d
acts_as i c d none is lie keep a =
    let same : (s : State) → c.machine ≡ s.machine → after_instr s i ≡ step s =
    λ s m.
    let e : ended s ≡ None = ap (λ (v : Machine). v.ended) (sym m) ∙ none in
    let at : instr_at s.machine.memory s.machine.pc ≡ Some i = ap (λ (v : Machine). instr_at v.memory v.pc) (sym m) ∙ is in
    sym (step_instr s i e at) in
    record {
      machine = λ s m r f.
          a.machine s m (λ h. r (stands c.machine i 63 is h)) f ∙ ap (λ (t : State). t.machine) (same s m);
      rest = λ s m r f. a.rest s m r f ∙ ap (λ (t : State). Some t.rest) (same s m);
      output = λ s m f w. a.output s m f w ∙ ap (λ (t : State). Some t.output) (same s m);
      at_read = λ h.
          let pc = ap (λ (v : Machine). v.pc) (a.reading h).others in
          stands d.machine i 63 (same_instr c.machine d.machine i lie keep pc is) (a.at_read h);
      at_write = λ h.
          let pc = ap (λ (v : Machine). v.pc) (a.writing h) in
          stands d.machine i 64 (same_instr c.machine d.machine i lie keep pc is) (a.at_write h);
      reading = a.reading;
      writing = a.writing;
      unread = a.unread;
      sent = λ s m f w.
          let P : State → Type 0 = λ t. WritesPart s.output t.output d.written in subst P (same s m) (a.sent s m f w);
    }

-- entries stay right while areas stay
entry-keeps : (m n : List Area) (e : Entry) → AreasLieFrom 0 m → KeepAreas m n → IsEntryOf m e → IsEntryOf n e
entry-keeps m n e lie k h = record { is = ap instr_in (fetch-keeps m n e.at lie k) ∙ h.is }

pub table-keeps : (m n : List Area) (entries : List Entry) → AreasLieFrom 0 m → KeepAreas m n → IsTableOf m entries → IsTableOf n entries
table-keeps m n entries lie k h = λ i d l. entry-keeps m n (get_or entries i d) lie k (h i d l)

-- the ending of an instruction that does not complete is not from outside
pub no_port : (end : End) → IsFault end → from_outside end ≡ false
no_port (Exited code) h = absurd h
no_port (Faulted kind pc addr) h = refl
no_port Spent h = absurd h
no_port ReadFault h = absurd h
no_port WriteFault h = absurd h

no_spent : (end : End) → IsFault end → Some end ≡ Some Spent → ⊥
no_spent (Exited code) h e = h
no_spent (Faulted kind pc addr) h e = cc
no_spent Spent h e = h
no_spent ReadFault h e = h
no_spent WriteFault h e = h

no_read : (end : End) → IsFault end → Some end ≡ Some ReadFault → ⊥
no_read end h e = let f = no_port end h in let g : is_port_fault (Some end) ≡ true = ap is_port_fault e in cc

no_write : (end : End) → IsFault end → Some end ≡ Some WriteFault → ⊥
no_write end h e = let f = no_port end h in let g : is_port_fault (Some end) ≡ true = ap is_port_fault e in cc

-- an instruction that does not complete
pub acts_end : (m : Machine) (r : Option (List ℕ)) (rf : ℕ) (w : Option (List ℕ)) (wf : ℕ) (end : End) → m.ended ≡ None → EndsAt m.memory m.pc end
    → Acts StandsAtCall step (configuration_of m r rf w wf) (configuration_of (record m { ended = Some end }) r rf w wf)
acts_end m r rf w wf end none at =
    let fault = at.fault in
    let next : (s : State) → m ≡ s.machine → with_ending s end ≡ step s =
    λ s e. sym (at.next s (ap (λ (v : Machine). v.memory) (sym e)) (ap (λ (v : Machine). v.pc) (sym e)) (ap (λ (v : Machine). v.ended) (sym e) ∙ none)) in
    record {
      machine = λ s e h f. ap (λ (v : Machine). record v { ended = Some end }) e ∙ ap (λ (t : State). t.machine) (next s e);
      rest = λ s e h f. h ∙ ap (λ (t : State). Some t.rest) (next s e);
      output = λ s e f o. o ∙ ap (λ (t : State). Some t.output) (next s e);
      at_read = λ h. absurd (no_read end fault h);
      at_write = λ h. absurd (no_write end fault h);
      reading = λ h. absurd (no_read end fault h);
      writing = λ h. absurd (no_write end fault h);
      unread = λ h. refl;
      sent = λ s e f o. let g = no_port end fault in cc;
    }

pub keeps_end : (m : Machine) (r : Option (List ℕ)) (rf : ℕ) (w : Option (List ℕ)) (wf : ℕ) (end : End) → IsFault end
    → Keeps (configuration_of m r rf w wf) (configuration_of (record m { ended = Some end }) r rf w wf)
keeps_end m r rf w wf end fault = record {
  aligned = λ h. h;
  unspent = λ h e. no_spent end fault e;
  read_fault = λ h. absurd (no_read end fault h);
  write_fault = λ h. absurd (no_write end fault h);
  input_never_falls = omega arith;
  output_never_falls = omega arith;
}

-- no ending
pub none_of : (o : Option End) → false ≡ is_some o → o ≡ None
none_of None e = refl
none_of (Some end) e = cc
