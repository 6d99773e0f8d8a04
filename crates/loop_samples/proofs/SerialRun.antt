-- The run of the definitions of turns is the serial run, as long as it goes on.
use Rattle.std.proofs.Common.{◌≡◌, ℕ, zero, suc, List, Option, Some, None, Result, Ok, Err, refl, ap, sym, ◌∙◌, subst}
use Rattle.rv64_decode.specs.Area.{Area, fetch_of}
use Rattle.rv64_decode.specs.Ask.{after}
use Rattle.rv64_decode.specs.Table.{decoded}
use Rattle.rv64_decode.specs.Row.{asks, outcome}
use Rattle.rv64_decode.specs.declared.memory.MemFault.{MemFault}
use Rattle.rv64_decode.specs.declared.instr.Instr.{Instr}
use Rattle.rv64_decode.specs.declared.outcome.Next.{Next}
use Rattle.rv64_decode.specs.declared.outcome.Next.TheVariants.{At, Call, Fault as Faulting}
use Rattle.loop_data.specs.Runs.{State, executed, fetched, stepped, step, run}
use Rattle.serial_run.specs.Serial.{State as SerialState, ended, with_left, after_next, after_word, after_fetch, unless_ended, step as serial_step, serial}
use Rattle.loop_samples.specs.SerialRun.{state_in, IsSerial}

-- one instruction that goes on at pc
module _ (t : SerialState) (e : ended t ≡ None) (pc : ℕ) where
  next_case : (x : Next) (regs : List ℕ) (m : List Area) → x ≡ At pc → IsSerial (record { next = x; regs = regs; memory = m }) t (after_next (with_left t regs m) x)
  next_case (At q) regs m h = record { state = refl; running = e; output = refl; rest = refl; break = refl }
  next_case Call regs m h = absurd (cc h)
  next_case (Faulting kind addr) regs m h = absurd (cc h)

  word_case : (word : ℕ) (o : Option Instr) → (executed word o t.machine.pc t.machine.regs t.machine.memory).next ≡ At pc → IsSerial (executed word o t.machine.pc t.machine.regs t.machine.memory) t (after_word t word o)
  word_case word None h = absurd (cc h)
  word_case word (Some i) h =
      let o = outcome i t.machine.pc t.machine.regs t.machine.memory in
      next_case o.next o.regs (after t.machine.memory (asks i t.machine.regs)) h

  fetch_case : (f : Result ℕ MemFault) → (fetched f t.machine.pc t.machine.regs t.machine.memory).next ≡ At pc → IsSerial (fetched f t.machine.pc t.machine.regs t.machine.memory) t (after_fetch t f)
  fetch_case (Ok word) h = word_case word (decoded word) h
  fetch_case (Err why) h = absurd (cc h)

  serial_is : serial_step t ≡ unless_ended (ended t) t (after_fetch t (fetch_of t.machine.memory t.machine.pc))
  unfolding serial_step
  serial_is = refl

  after_one : serial_step t ≡ after_fetch t (fetch_of t.machine.memory t.machine.pc)
  after_one = serial_is ∙ ap (λ o. unless_ended o t (after_fetch t (fetch_of t.machine.memory t.machine.pc))) e

  one : (step (state_in t)).next ≡ At pc → IsSerial (step (state_in t)) t (serial_step t)
  unfolding step
  one h = subst (λ u. IsSerial (step (state_in t)) t u) (sym after_one) (fetch_case (fetch_of t.machine.memory t.machine.pc) h)

-- a state that leads on goes on itself
before : (r : State) (pc : ℕ) → (step r).next ≡ At pc → (q : ℕ) × (r.next ≡ At q)
unfolding step
before r pc h = go r.next h
  where
    go : (x : Next) → (stepped x r.regs r.memory).next ≡ At pc → (q : ℕ) × (x ≡ At q)
    go (At q) e = (q, refl)
    go Call e = absurd (cc e)
    go (Faulting kind addr) e = absurd (cc e)

last_step : (n : ℕ) (s : SerialState) → serial (suc n) s ≡ serial_step (serial n s)
last_step zero s = refl
last_step (suc n) s = last_step n (serial_step s)

pub run_is_serial : (s : SerialState) (n pc : ℕ) → ended s ≡ None → (run (state_in s) n).next ≡ At pc → IsSerial (run (state_in s) n) s (serial n s)
run_is_serial s zero pc e h = record { state = refl; running = e; output = refl; rest = refl; break = refl }
run_is_serial s (suc n) pc e h =
    let b = before (run (state_in s) n) pc h in
    let i = run_is_serial s n b.0 e b.1 in
    let o = one (serial n s) i.running pc (subst (λ r. (step r).next ≡ At pc) i.state h) in
    subst (λ u. IsSerial (step (run (state_in s) n)) s u) (sym (last_step n s))
    (record {
      state = ap step i.state ∙ o.state;
      running = o.running;
      output = o.output ∙ i.output;
      rest = o.rest ∙ i.rest;
      break = o.break ∙ i.break;
    })
