-- An instruction that faults leaves the state as it was.
use Rattle.std.proofs.Common.{◌≡◌, ℕ, true, false, List, Option, Some, None, Result, Ok, Err, ap, ◌∙◌, refl}
use Rattle.std.specs.Prelude.{IsNone, is_some}
use Rattle.rv64_decode.specs.Area.{Area, fetch_of}
use Rattle.rv64_decode.specs.Ask.{after}
use Rattle.rv64_decode.specs.Table.{decoded}
use Rattle.rv64_decode.specs.Row.{asks, outcome}
use Rattle.rv64_decode.specs.declared.memory.MemFault.{MemFault}
use Rattle.rv64_decode.specs.declared.instr.Instr.{Instr}
use Rattle.rv64_decode.specs.declared.outcome.Fault.{Fault}
use Rattle.rv64_decode.specs.declared.outcome.Next.{Next}
use Rattle.rv64_decode.specs.declared.outcome.Next.TheVariants.{At, Call, Fault as Faulting}
use Rattle.rv64_decode.proofs.Faults.{outcome_fault}
use Rattle.guest_calls.specs.Calls.{called}
use Rattle.guest_calls.specs.declared.Going.{Going}
use Rattle.guest_calls.specs.declared.Going.TheVariants.{On, Exit}
use Rattle.serial_run.specs.Serial.{State, ended, with_ending, end_after, with_left, after_next, after_instr, after_word, after_fetch, step, unless_ended}
use Rattle.serial_run.specs.declared.machine.End.{End}
use Rattle.serial_run.specs.declared.machine.End.TheVariants.{Faulted}

-- the ending alone is new, and it tells the instruction's place
pub record Halts (s t : State) (kind : Fault) (pc addr : ℕ) : Type 0 where
  pub same : t ≡ with_ending s (Faulted kind pc addr)
  pub place : pc ≡ s.machine.pc

going_fault : (g : Going) (kind : Fault) (pc addr : ℕ) → end_after g ≡ Some (Faulted kind pc addr) → ⊥
going_fault On kind pc addr e = cc
going_fault (Exit code) kind pc addr e = cc

no_ending : (o : Option End) (end : End) → is_some o ≡ false → o ≡ Some end → ⊥
no_ending o end none e = let f : is_some o ≡ true = ap (λ (v : Option End). is_some v) e in cc

fault_halts : (s : State) (k kind : Fault) (a pc addr : ℕ) → Some (Faulted k s.machine.pc a) ≡ Some (Faulted kind pc addr) → Halts s (with_ending s (Faulted k s.machine.pc a)) kind pc addr
fault_halts s k kind a pc addr e =
    record { same = ap (λ (o : Option End). record s { machine = record s.machine { ended = o } }) e; place = cc }

next_halts : (s t : State) (n : Next) (kind : Fault) (pc addr : ℕ) → IsNone (ended t)
    → ((k : Fault) (a : ℕ) → n ≡ Faulting k a → t ≡ s)
    → ended (after_next t n) ≡ Some (Faulted kind pc addr) → Halts s (after_next t n) kind pc addr
next_halts s t (At next) kind pc addr none stays e = absurd (no_ending (ended t) (Faulted kind pc addr) none e)
next_halts s t Call kind pc addr none stays e =
    absurd (going_fault (called t.machine.regs t.machine.memory t.machine.brk t.rest).going kind pc addr e)
next_halts s t (Faulting k a) kind pc addr none stays e =
    let same = stays k a refl in
    let halts = fault_halts t k kind a pc addr e in
    record {
      same = halts.same ∙ ap (λ (v : State). with_ending v (Faulted kind pc addr)) same;
      place = halts.place ∙ ap (λ (v : State). v.machine.pc) same;
    }

left_same : (s : State) (regs : List ℕ) (m : List Area) → regs ≡ s.machine.regs → m ≡ s.machine.memory → with_left s regs m ≡ s
left_same s regs m r e =
    ap (λ (v : List ℕ). with_left s v m) r ∙ ap (λ (v : List Area). with_left s s.machine.regs v) e

instr_halts : (s : State) (i : Instr) (kind : Fault) (pc addr : ℕ) → IsNone (ended s)
    → ended (after_instr s i) ≡ Some (Faulted kind pc addr) → Halts s (after_instr s i) kind pc addr
instr_halts s i kind pc addr none e =
    let m = s.machine in
    let o = outcome i m.pc m.regs m.memory in
    let left = after m.memory (asks i m.regs) in
    next_halts s (with_left s o.regs left) o.next kind pc addr none
    (λ k a f. let stays = outcome_fault i m.pc m.regs m.memory k a f in left_same s o.regs left stays.regs_stay stays.memory_stays)
    e

word_halts : (s : State) (word : ℕ) (i : Option Instr) (kind : Fault) (pc addr : ℕ) → IsNone (ended s)
    → ended (after_word s word i) ≡ Some (Faulted kind pc addr) → Halts s (after_word s word i) kind pc addr
word_halts s word None kind pc addr none e = fault_halts s _ kind _ pc addr e
word_halts s word (Some i) kind pc addr none e = instr_halts s i kind pc addr none e

fetch_halts : (s : State) (r : Result ℕ MemFault) (kind : Fault) (pc addr : ℕ) → IsNone (ended s)
    → ended (after_fetch s r) ≡ Some (Faulted kind pc addr) → Halts s (after_fetch s r) kind pc addr
fetch_halts s (Ok word) kind pc addr none e = word_halts s word (decoded word) kind pc addr none e
fetch_halts s (Err why) kind pc addr none e = fault_halts s _ kind _ pc addr e

unless_halts : (o : Option End) (s t : State) (kind : Fault) (pc addr : ℕ) → is_some o ≡ false
    → (ended t ≡ Some (Faulted kind pc addr) → Halts s t kind pc addr)
    → ended (unless_ended o s t) ≡ Some (Faulted kind pc addr) → Halts s (unless_ended o s t) kind pc addr
unless_halts None s t kind pc addr none halts e = halts e
unless_halts (Some end) s t kind pc addr none halts e = cc

pub step_halts : (s : State) (kind : Fault) (pc addr : ℕ) → IsNone (ended s) → ended (step s) ≡ Some (Faulted kind pc addr) → Halts s (step s) kind pc addr
unfolding step
step_halts s kind pc addr none e =
    let r = fetch_of s.machine.memory s.machine.pc in
    unless_halts (ended s) s (after_fetch s r) kind pc addr none (fetch_halts s r kind pc addr none) e
