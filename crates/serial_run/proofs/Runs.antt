-- Runs, instruction by instruction.
use Rattle.std.proofs.Common.{◌≡◌, ℕ, zero, suc, ◌+◌, ◌<◌, ◌≤◌, ◌++◌, ◌⊎◌, inl, inr, min, List, [], ◌∷◌, length, take, true, false, Option, Some, None, refl, ap, sym, subst, ◌∙◌, arith, below_more}
use Rattle.std.proofs.Math.Seq.{take-append-add}
use Rattle.std.proofs.lemmas.List.{append_assoc, append_cancel_left}
use Rattle.std.specs.Prelude.{IsNone, IsSome, is_some}
use Rattle.outside_ports.specs.Ports.{Rose}
use Rattle.guest_calls.specs.Faults.{SendsPart}
use Rattle.guest_calls.specs.Calls.{called}
use Rattle.serial_run.specs.Serial.{State, ended, after_call, step, serial, executed_of}
use Rattle.serial_run.specs.Runs.{Configuration, call_at, StandsAtCall, TellsReads, NeverCalls, Keeps, Acts, Runs, StopsReading, StopsWriting, StopsWithin, WritesPart, is_port_fault}
use Rattle.serial_run.specs.declared.machine.Machine.{Machine}
use Rattle.serial_run.specs.declared.machine.End.{End}
use Rattle.serial_run.specs.declared.machine.End.TheVariants.{ReadFault, WriteFault}
use Rattle.serial_run.proofs.Steps.{serial-suc, serial-ended, serial_next, serial_last, none_ended, none_fault, executed_first, with_before, step_before, output_more}

-- a first part of the bytes that are appended
part_of_bytes : (old bytes : List ℕ) (written : Option (List ℕ)) → SendsPart old bytes written → WritesPart old (old ++ bytes) written
part_of_bytes old bytes written p = record { bytes = bytes; grown = refl; count = p.count; are = p.are }

-- a first part of the bytes of a call
pub part_of_call : (m : Machine) (s : State) (written : Option (List ℕ)) → m ≡ s.machine
    → SendsPart s.output (called m.regs m.memory m.brk s.rest).written written
    → WritesPart s.output (after_call s (call_at s)).output written
part_of_call m s written e p =
    let P : Machine → Type 0 = λ v. SendsPart s.output (called v.regs v.memory v.brk s.rest).written written in
    part_of_bytes s.output (call_at s).written written (subst P e p)

pub keeps_self : (c : Configuration) → Keeps c c
keeps_self c = record {
  aligned = λ h. h;
  unspent = λ h. h;
  read_fault = λ h. inl h;
  write_fault = λ h. inl h;
  input_never_falls = omega arith;
  output_never_falls = omega arith;
}

rose_on : (a b c : ℕ) → a ≤ b → Rose b c → Rose a c
rose_on a b c l r = omega arith

rose_back : (a b c : ℕ) → Rose a b → b ≤ c → Rose a c
rose_back a b c r l = omega arith

-- a run that goes on
pub keeps_on : (c d e : Configuration) → Keeps c d → Keeps d e → Keeps c e
keeps_on c d e a b = record {
  aligned = λ h. b.aligned (a.aligned h);
  unspent = λ h. b.unspent (a.unspent h);
  read_fault = λ h. read (b.read_fault h);
  write_fault = λ h. write (b.write_fault h);
  input_never_falls = let l = a.input_never_falls in let m = b.input_never_falls in omega arith;
  output_never_falls = let l = a.output_never_falls in let m = b.output_never_falls in omega arith;
}
  where
    read_before : (c.machine.ended ≡ Some ReadFault) ⊎ Rose c.read_faults d.read_faults → (c.machine.ended ≡ Some ReadFault) ⊎ Rose c.read_faults e.read_faults
    read_before (inl h) = inl h
    read_before (inr r) = inr (rose_back c.read_faults d.read_faults e.read_faults r b.input_never_falls)

    read : (d.machine.ended ≡ Some ReadFault) ⊎ Rose d.read_faults e.read_faults → (c.machine.ended ≡ Some ReadFault) ⊎ Rose c.read_faults e.read_faults
    read (inl h) = read_before (a.read_fault h)
    read (inr r) = inr (rose_on c.read_faults d.read_faults e.read_faults a.input_never_falls r)

    write_before : (c.machine.ended ≡ Some WriteFault) ⊎ Rose c.write_faults d.write_faults → (c.machine.ended ≡ Some WriteFault) ⊎ Rose c.write_faults e.write_faults
    write_before (inl h) = inl h
    write_before (inr r) = inr (rose_back c.write_faults d.write_faults e.write_faults r b.output_never_falls)

    write : (d.machine.ended ≡ Some WriteFault) ⊎ Rose d.write_faults e.write_faults → (c.machine.ended ≡ Some WriteFault) ⊎ Rose c.write_faults e.write_faults
    write (inl h) = write_before (a.write_fault h)
    write (inr r) = inr (rose_on c.write_faults d.write_faults e.write_faults a.output_never_falls r)

-- k instructions, none of which has given an ending
pub record RunsOn (k : ℕ) (c d : Configuration) : Type 0 where
  pub running : d.machine.ended ≡ None
  pub machine : (s : State) → c.machine ≡ s.machine → TellsReads k s c.rest → d.machine ≡ (serial k s).machine
  pub rest : (s : State) → c.machine ≡ s.machine → c.rest ≡ Some s.rest → d.rest ≡ Some (serial k s).rest
  pub output : (s : State) (before : List ℕ) → c.machine ≡ s.machine → TellsReads k s c.rest
      → c.written ≡ Some (before ++ s.output) → d.written ≡ Some (before ++ (serial k s).output)
  pub first : (s : State) → c.machine ≡ s.machine → TellsReads k s c.rest → (j : ℕ) → j < k → IsNone (ended (serial j s))

-- a source that tells its rest tells it for each number of instructions
pub tells_all : (n : ℕ) (s : State) (told : Option (List ℕ)) → told ≡ Some s.rest → TellsReads n s told
tells_all n s told r = λ k l none at. r

-- and one that tells it for some of them tells it for fewer
pub tells_fewer : (n k : ℕ) (s : State) (told : Option (List ℕ)) → k ≤ n → TellsReads n s told → TellsReads k s told
tells_fewer n k s told l t = λ j m none at. t j (omega arith) none at

-- where the next of fewer instructions reads, the source tells what is left
tells_next : (n k : ℕ) (c d : Configuration) → RunsOn k c d → (s : State) → c.machine ≡ s.machine → k < n
    → TellsReads n s c.rest → StandsAtCall 63 d.machine → d.rest ≡ Some (serial k s).rest
tells_next n k c d a s m l t at =
    let here = a.machine s m (tells_fewer n k s c.rest (omega arith) t) in
    let P : Machine → Type 0 = λ v. StandsAtCall 63 v in
    a.rest s m (t k l (none_ended (serial k s) d.machine here a.running) (subst P here at))

-- a run that never reads wants nothing told
pub tells_never : (n : ℕ) (s : State) (told : Option (List ℕ)) → NeverCalls 63 n s → TellsReads n s told
tells_never n s told never = λ k l none at. absurd (never k l none at)

pub never_fewer : (number n k : ℕ) (s : State) → k ≤ n → NeverCalls number n s → NeverCalls number k s
never_fewer number n k s l never = λ j m none at. never j (omega arith) none at

-- the next instruction is not the call either
pub never_next : (number n k : ℕ) (c d : Configuration) → RunsOn k c d → (s : State) → c.machine ≡ s.machine → k < n
    → TellsReads n s c.rest → NeverCalls number n s → StandsAtCall number d.machine → ⊥
never_next number n k c d a s m l t never at =
    let here = a.machine s m (tells_fewer n k s c.rest (omega arith) t) in
    let P : Machine → Type 0 = λ v. StandsAtCall number v in
    never k l (none_ended (serial k s) d.machine here a.running) (subst P here at)

pub runs_none : (c : Configuration) → c.machine.ended ≡ None → RunsOn 0 c c
runs_none c e = record {
  running = e;
  machine = λ s m t. m;
  rest = λ s m r. r;
  output = λ s before m t w. w;
  first = λ s m t j l. absurd (omega arith);
}

-- one instruction more, which gives no ending either
pub runs_more : (k : ℕ) (c d e : Configuration) → RunsOn k c d → Acts StandsAtCall step d e → e.machine.ended ≡ None
    → RunsOn (k + 1) c e
runs_more k c d e a b running = let no_fault = none_fault e.machine.ended running in
    record {
      running = running;
      machine = λ s m t.
          b.machine (serial k s) (a.machine s m (fewer s t)) (tells_next (k + 1) k c d a s m (omega arith) t) no_fault
          ∙ ap (λ (t : State). t.machine) (serial_next k s);
      rest = λ s m r.
          b.rest (serial k s) (a.machine s m (tells_all k s c.rest r)) (a.rest s m r) no_fault
          ∙ ap (λ (t : State). Some t.rest) (serial_next k s);
      output = λ s before m t w.
          b.output (with_before before (serial k s)) (a.machine s m (fewer s t)) no_fault (a.output s before m (fewer s t) w)
          ∙ ap (λ (t : State). Some t.output) (step_before before (serial k s))
          ∙ ap (λ (t : State). Some (before ++ t.output)) (serial_next k s);
      first = λ s m t.
          below_more _ k (a.first s m (fewer s t))
          (none_ended (serial k s) d.machine (a.machine s m (fewer s t)) a.running);
    }
  where
    fewer : (s : State) → TellsReads (k + 1) s c.rest → TellsReads k s c.rest
    fewer s t = tells_fewer (k + 1) k s c.rest (omega arith) t

port_fault_none : (o : Option End) → o ≡ None → is_port_fault o ≡ true → IsSome o
port_fault_none o e h = let f = none_fault o e in cc

no_fault_none : {A : Type 0} (o : Option End) (end : End) → o ≡ None → o ≡ Some end → A
no_fault_none o end e h = absurd (cc)

-- as many instructions as were allowed have given no ending
pub runs_out : (n : ℕ) (c d : Configuration) → RunsOn n c d → Runs n c d
runs_out n c d a = record {
  machine = λ s m t f. a.machine s m t;
  rest = λ s m r f. a.rest s m r;
  output = λ s before m t f w. a.output s before m t w;
  at_read = λ none h. no_fault_none d.machine.ended ReadFault a.running h;
  at_write = λ none h. no_fault_none d.machine.ended WriteFault a.running h;
  stops = λ s m r o f. let e = none_fault d.machine.ended a.running in cc;
}

-- a machine that has an ending stays
pub runs_ended : (n : ℕ) (c : Configuration) → is_some c.machine.ended ≡ true → Runs n c c
runs_ended n c some =
    let stays : (s : State) → c.machine ≡ s.machine → serial n s ≡ s =
    λ s m. serial-ended n s (ap (λ (v : Machine). is_some v.ended) (sym m) ∙ some) in
    record {
      machine = λ s m t f. m ∙ ap (λ (t : State). t.machine) (sym (stays s m));
      rest = λ s m r f. r ∙ ap (λ (t : State). Some t.rest) (sym (stays s m));
      output = λ s before m t f w. w ∙ ap (λ (t : State). Some (before ++ t.output)) (sym (stays s m));
      at_read = λ none h. absurd (cc);
      at_write = λ none h. absurd (cc);
      stops = λ s m r o f. cc;
    }

-- a first part of what one instruction appends is one of the whole output behind what was there before
part_of_all : (n count : ℕ) (s : State) (before : List ℕ) (written : Option (List ℕ)) → count < n
    → WritesPart (before ++ (serial count s).output) (before ++ (serial (suc count) s).output) written
    → SendsPart before (serial n s).output written
part_of_all n count s before written l p =
    let there = (serial count s).output in
    let grown = output_more (suc count) n s l in
    let j = min p.count (length p.bytes) in
    let next : (serial (suc count) s).output ≡ there ++ p.bytes =
    append_cancel_left before _ _ (p.grown ∙ append_assoc before there p.bytes) in
    let all : (serial n s).output ≡ there ++ (p.bytes ++ grown.more) =
    grown.are ∙ ap (λ (v : List ℕ). v ++ grown.more) next ∙ append_assoc there p.bytes grown.more in
    let part : take (length there + j) (serial n s).output ≡ there ++ take p.count p.bytes =
    ap (λ (v : List ℕ). take (length there + j) v) all
    ∙ take-append-add there (p.bytes ++ grown.more) j
    ∙ ap (λ (v : List ℕ). there ++ v) (sym (take_of_more p.count p.bytes grown.more)) in
    record {
      count = length there + j;
      are = p.are ∙ ap (λ (v : List ℕ). Some v) (append_assoc before there (take p.count p.bytes) ∙ ap (λ (v : List ℕ). before ++ v) (sym part));
    }
  where
    take_of_more : (n : ℕ) (xs ys : List ℕ) → take n xs ≡ take (min n (length xs)) (xs ++ ys)
    take_of_more zero xs ys = let e : min 0 (length xs) ≡ 0 = omega arith in rw e refl
    take_of_more (suc n) [] ys = let e : min (suc n) 0 ≡ 0 = omega arith in rw e refl
    take_of_more (suc n) (x ∷ xs) ys =
        let e : min (suc n) (suc (length xs)) ≡ suc (min n (length xs)) = omega arith in
        rw e (ap (λ (v : List ℕ). x ∷ v) (take_of_more n xs ys))

-- one instruction more, which gives an ending
pub runs_stop : (n k : ℕ) (c d e : Configuration) → RunsOn k c d → Acts StandsAtCall step d e → k < n
    → is_some e.machine.ended ≡ true → Runs n c e
runs_stop n k c d e a b l some = record {
  machine = λ s m t f. at_machine s m t f ∙ ap (λ (t : State). t.machine) (all s m t f);
  rest = λ s m r f.
      let t = tells_all n s c.rest r in
      b.rest (serial k s) (here s m t) (a.rest s m r) f ∙ ap (λ (t : State). Some t.rest) (all s m t f);
  output = λ s before m t f w.
      b.output (with_before before (serial k s)) (here s m t) f (a.output s before m (fewer s t) w)
      ∙ ap (λ (t : State). Some t.output) (step_before before (serial k s))
      ∙ ap (λ (t : State). Some (before ++ t.output)) (all s m t f);
  at_read = λ none h. b.at_read h;
  at_write = λ none h. b.at_write h;
  stops = λ s m t o f. stop s m t f;
}
  where
    fewer : (s : State) → TellsReads n s c.rest → TellsReads k s c.rest
    fewer s t = tells_fewer n k s c.rest (omega arith) t

    here : (s : State) → c.machine ≡ s.machine → TellsReads n s c.rest → d.machine ≡ (serial k s).machine
    here s m t = a.machine s m (fewer s t)

    at_machine : (s : State) → c.machine ≡ s.machine → TellsReads n s c.rest → is_port_fault e.machine.ended ≡ false
        → e.machine ≡ (step (serial k s)).machine
    at_machine s m t f = b.machine (serial k s) (here s m t) (tells_next n k c d a s m l t) f

    all : (s : State) → c.machine ≡ s.machine → TellsReads n s c.rest → is_port_fault e.machine.ended ≡ false
        → step (serial k s) ≡ serial n s
    all s m t f =
        let at : is_some (ended (step (serial k s))) ≡ true = ap (λ (v : Machine). is_some v.ended) (sym (at_machine s m t f)) ∙ some in
        sym (serial_last k n s l at)

    stop : (s : State) → c.machine ≡ s.machine → TellsReads n s c.rest → is_port_fault e.machine.ended ≡ true → StopsWithin n s c e
    stop s m t f =
        let at = here s m t in
        let sent : (before : List ℕ) → c.written ≡ Some (before ++ s.output)
        → WritesPart (before ++ (serial k s).output) (before ++ (serial (suc k) s).output) e.written =
        λ before w.
        let wrote = a.output s before m (fewer s t) w in
        let P : List ℕ → Type 0 = λ v. WritesPart (before ++ (serial k s).output) v e.written in
        let next : (step (with_before before (serial k s))).output ≡ before ++ (serial (suc k) s).output =
        ap (λ (t : State). t.output) (step_before before (serial k s)) ∙ ap (λ (t : State). before ++ t.output) (sym (serial-suc k s)) in
        subst P next (b.sent (with_before before (serial k s)) at f wrote) in
        record {
          count = k;
          below = l;
          running = none_ended (serial k s) d.machine at a.running;
          reading = λ h. let P : Machine → Type 0 = λ v. StopsReading v e.machine in subst P at (b.reading h);
          writing = λ h. let P : Machine → Type 0 = λ v. StopsWriting v e.machine in subst P at (b.writing h);
          unread = λ h r. b.unread h ∙ a.rest s m r;
          sent = sent;
          part = λ before w. part_of_all n k s before e.written l (sent before w);
        }

-- how many instructions were executed, where one gives the first ending
pub steps_stop : (n k : ℕ) (c d e : Configuration) → RunsOn k c d → Acts StandsAtCall step d e → k < n
    → is_some e.machine.ended ≡ true → (s : State) → c.machine ≡ s.machine → TellsReads n s c.rest
    → is_port_fault e.machine.ended ≡ false → k + 1 ≡ executed_of n s
steps_stop n k c d e a b l some s m t f =
    let fewer = tells_fewer n k s c.rest (omega arith) t in
    let here = a.machine s m fewer in
    let there = b.machine (serial k s) here (tells_next n k c d a s m l t) f in
    let none = none_ended (serial k s) d.machine here a.running in
    let at : is_some (ended (serial (k + 1) s)) ≡ true =
    ap (λ (t : State). is_some (ended t)) (sym (serial_next k s)) ∙ ap (λ (v : Machine). is_some v.ended) (sym there) ∙ some in
    sym (executed_first (k + 1) n s (omega arith) at (below_more _ k (a.first s m fewer) none))
