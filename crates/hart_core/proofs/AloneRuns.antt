-- Runs of hart 0 alone, event by event.
use Rattle.std.proofs.Common.{◌≡◌, ◌↔◌, ℕ, zero, suc, ◌+◌, ◌<◌, ◌≤◌, ◌++◌, ◌⊎◌, inl, inr, min, List, [], ◌∷◌, length, take, true, false, Option, Some, None, refl, ap, sym, subst, ◌∙◌, arith, below_more}
use Rattle.std.proofs.Math.Seq.{take-append-add}
use Rattle.std.proofs.lemmas.List.{append_assoc, append_cancel_left}
use Rattle.std.specs.Prelude.{IsNone, is_some}
use Rattle.outside_ports.specs.Ports.{Rose}
use Rattle.guest_calls.specs.Faults.{SendsPart}
use Rattle.serial_run.specs.Runs.{is_port_fault, WritesPart}
use Rattle.serial_run.specs.declared.machine.End.{End}
use Rattle.serial_run.specs.declared.machine.End.TheVariants.{ReadFault, WriteFault}
use Rattle.hart_core.specs.declared.harts.Event.{Event}
use Rattle.hart_core.specs.declared.harts.Event.TheVariants.{Did, Ended}
use Rattle.hart_core.specs.Machine.{Core, State}
use Rattle.hart_core.specs.Events.{after_event, is_effective}
use Rattle.hart_core.specs.Acting.{Configuration, Acts, Keeps, StandsAtCall, NeverCalls, TellsRead, StopsReading, StopsWriting}
use Rattle.hart_core.specs.Alone.{events_alone}
use Rattle.hart_core.specs.Runs.{TellsReads, DoesNoCall, StopsWithin, Runs}
use Rattle.hart_core.proofs.Steps.{ended_before}
use Rattle.hart_core.proofs.AloneSteps.{events-suc, events_next, events_last, events_ended, with_before, event_before, output_more}

-- ---- what is kept

pub keeps_self : (c : Configuration) → Keeps c c
keeps_self c = record {
  unspent = λ h. h;
  read_fault = λ h. inl h;
  write_fault = λ h. inl h;
  input_never_falls = omega arith;
  output_never_falls = omega arith;
}

rose_on : (a b c : ℕ) → a ≤ b → Rose b c → Rose a c
rose_on a b c l r = omega arith

rose_back : (a b c : ℕ) → Rose a b → b ≤ c → Rose a c
rose_back a b c r l = omega arith

-- events one behind the other
pub keeps_on : (c d e : Configuration) → Keeps c d → Keeps d e → Keeps c e
keeps_on c d e a b = record {
  unspent = λ h. b.unspent (a.unspent h);
  read_fault = λ h. read (b.read_fault h);
  write_fault = λ h. write (b.write_fault h);
  input_never_falls = let l = a.input_never_falls in let m = b.input_never_falls in omega arith;
  output_never_falls = let l = a.output_never_falls in let m = b.output_never_falls in omega arith;
}
  where
    read_before : (c.core.ended ≡ Some ReadFault) ⊎ Rose c.read_faults d.read_faults → (c.core.ended ≡ Some ReadFault) ⊎ Rose c.read_faults e.read_faults
    read_before (inl h) = inl h
    read_before (inr r) = inr (rose_back c.read_faults d.read_faults e.read_faults r b.input_never_falls)

    read : (d.core.ended ≡ Some ReadFault) ⊎ Rose d.read_faults e.read_faults → (c.core.ended ≡ Some ReadFault) ⊎ Rose c.read_faults e.read_faults
    read (inl h) = read_before (a.read_fault h)
    read (inr r) = inr (rose_on c.read_faults d.read_faults e.read_faults a.input_never_falls r)

    write_before : (c.core.ended ≡ Some WriteFault) ⊎ Rose c.write_faults d.write_faults → (c.core.ended ≡ Some WriteFault) ⊎ Rose c.write_faults e.write_faults
    write_before (inl h) = inl h
    write_before (inr r) = inr (rose_back c.write_faults d.write_faults e.write_faults r b.output_never_falls)

    write : (d.core.ended ≡ Some WriteFault) ⊎ Rose d.write_faults e.write_faults → (c.core.ended ≡ Some WriteFault) ⊎ Rose c.write_faults e.write_faults
    write (inl h) = write_before (a.write_fault h)
    write (inr r) = inr (rose_on c.write_faults d.write_faults e.write_faults a.output_never_falls r)

-- ---- k events, none of which has given an ending

pub record RunsOn (k : ℕ) (c d : Configuration) : Type 0 where
  pub running : d.core.ended ≡ None
  pub core : (s : State) → c.core ≡ s.core → TellsReads k s c.rest → d.core ≡ (events_alone k s).core
  pub rest : (s : State) → c.core ≡ s.core → c.rest ≡ Some s.rest → d.rest ≡ Some (events_alone k s).rest
  pub output : (s : State) (before : List ℕ) → c.core ≡ s.core → TellsReads k s c.rest
      → c.written ≡ Some (before ++ s.output) → d.written ≡ Some (before ++ (events_alone k s).output)
  pub first : (s : State) → c.core ≡ s.core → TellsReads k s c.rest → (j : ℕ) → j < k → IsNone (events_alone j s).core.ended

-- a source that tells its rest tells it for each number of events
pub tells_all : (n : ℕ) (s : State) (told : Option (List ℕ)) → told ≡ Some s.rest → TellsReads n s told
tells_all n s told r = λ k l none h at. r

-- and one that tells it for some of them tells it for fewer
pub tells_fewer : (n k : ℕ) (s : State) (told : Option (List ℕ)) → k ≤ n → TellsReads n s told → TellsReads k s told
tells_fewer n k s told l t = λ j m none h at. t j (omega arith) none h at

none_ended : (s : State) (c : Core) → c ≡ s.core → c.ended ≡ None → IsNone s.core.ended
none_ended s c e h = ap (λ (v : Core). is_some v.ended) (sym e) ∙ ap (λ (o : Option End). is_some o) h

-- an event that has not ended the run
pub none_after : (r : Event) (o : Option End) → ((end : End) → (r ≡ Ended end) ↔ (o ≡ Some end)) → r ≡ Did → o ≡ None
none_after r None f e = refl
none_after r (Some end) f e = let h : r ≡ Ended end = (f end).1 refl in absurd (cc)

pub none_fault : (o : Option End) → o ≡ None → is_port_fault o ≡ false
none_fault o e = ap is_port_fault e

-- where the next of fewer events reads, the source tells what is left
tells_next : (n k : ℕ) (c d : Configuration) → RunsOn k c d → (s : State) → c.core ≡ s.core → k < n
    → TellsReads n s c.rest → TellsRead (events_alone k s) 0 d.rest
tells_next n k c d a s m l t = λ h at.
    let here = a.core s m (tells_fewer n k s c.rest (omega arith) t) in
    a.rest s m (t k l (none_ended (events_alone k s) d.core here a.running) h at)

-- a run that never reads wants nothing told
pub tells_never : (n : ℕ) (s : State) (told : Option (List ℕ)) → DoesNoCall 63 n s → TellsReads n s told
tells_never n s told never = λ k l none h at. absurd (never k l none h at)

pub never_fewer : (number n k : ℕ) (s : State) → k ≤ n → DoesNoCall number n s → DoesNoCall number k s
never_fewer number n k s l never = λ j m none h at. never j (omega arith) none h at

-- the next event is not the call either
pub never_next : (number n k : ℕ) (c d : Configuration) → RunsOn k c d → (s : State) → c.core ≡ s.core → k < n
    → TellsReads n s c.rest → DoesNoCall number n s → NeverCalls number d.core 0
never_next number n k c d a s m l t never = λ h at.
    let here = a.core s m (tells_fewer n k s c.rest (omega arith) t) in
    never k l (none_ended (events_alone k s) d.core here a.running) h
    (subst (λ (v : Core). StandsAtCall number v 0 h) here at)

pub runs_none : (c : Configuration) → c.core.ended ≡ None → RunsOn 0 c c
runs_none c e = record {
  running = e;
  core = λ s m t. m;
  rest = λ s m r. r;
  output = λ s before m t w. w;
  first = λ s m t j l. absurd (omega arith);
}

-- one event more, which gives no ending either
pub runs_more : (k : ℕ) (c d e : Configuration) → RunsOn k c d → Acts 0 d e → e.core.ended ≡ None → RunsOn (k + 1) c e
runs_more k c d e a b running = let no_fault = none_fault e.core.ended running in
    record {
      running = running;
      core = λ s m t.
          b.core (events_alone k s) (a.core s m (fewer s t)) (tells_next (k + 1) k c d a s m (omega arith) t) no_fault
          ∙ ap (λ (t : State). t.core) (events_next k s);
      rest = λ s m r.
          b.rest (events_alone k s) (a.core s m (tells_all k s c.rest r)) (a.rest s m r) no_fault
          ∙ ap (λ (t : State). Some t.rest) (events_next k s);
      output = λ s before m t w.
          b.output (with_before before (events_alone k s)) (a.core s m (fewer s t)) no_fault (a.output s before m (fewer s t) w)
          ∙ ap (λ (t : State). Some t.output) (event_before before (events_alone k s) 0)
          ∙ ap (λ (t : State). Some (before ++ t.output)) (events_next k s);
      first = λ s m t.
          below_more _ k (a.first s m (fewer s t))
          (none_ended (events_alone k s) d.core (a.core s m (fewer s t)) a.running);
    }
  where
    fewer : (s : State) → TellsReads (k + 1) s c.rest → TellsReads k s c.rest
    fewer s t = tells_fewer (k + 1) k s c.rest (omega arith) t

-- as many events as were allowed have given no ending
pub runs_out : (n : ℕ) (c d : Configuration) → RunsOn n c d → Runs n c d
runs_out n c d a = record {
  core = λ s m t f. a.core s m t;
  rest = λ s m r f. a.rest s m r;
  output = λ s before m t f w. a.output s before m t w;
  stops = λ s m r o f. let e = none_fault d.core.ended a.running in cc;
}

-- after k events hart 0 does nothing any more
pub runs_idle : (n k : ℕ) (c d : Configuration) → RunsOn k c d → k ≤ n → is_effective d.core 0 ≡ false → Runs n c d
runs_idle n k c d a l idle = record {
  core = λ s m t f. let u = fewer s t in a.core s m u ∙ ap (λ (t : State). t.core) (all s m u);
  rest = λ s m r f. a.rest s m r ∙ ap (λ (t : State). Some t.rest) (all s m (tells_all k s c.rest r));
  output = λ s before m t f w. let u = fewer s t in a.output s before m u w ∙ ap (λ (t : State). Some (before ++ t.output)) (all s m u);
  stops = λ s m r o f. let e = none_fault d.core.ended a.running in cc;
}
  where
    fewer : (s : State) → TellsReads n s c.rest → TellsReads k s c.rest
    fewer s t = tells_fewer n k s c.rest l t

    all : (s : State) → c.core ≡ s.core → TellsReads k s c.rest → events_alone k s ≡ events_alone n s
    all s m t = sym (events_last k n s l (ap (λ (v : Core). is_effective v 0) (sym (a.core s m t)) ∙ idle))

-- the next event does nothing
pub runs_rest : (n k : ℕ) (c d e : Configuration) → RunsOn k c d → Acts 0 d e → k < n → is_effective d.core 0 ≡ false
    → e.core ≡ d.core → Runs n c e
runs_rest n k c d e a b l idle same =
    runs_idle n (k + 1) c e (runs_more k c d e a b (ap (λ (v : Core). v.ended) same ∙ a.running)) (omega arith)
    (ap (λ (v : Core). is_effective v 0) same ∙ idle)

-- a machine that has an ending stays
pub runs_ended : (n : ℕ) (c : Configuration) → is_some c.core.ended ≡ true → Runs n c c
runs_ended n c some =
    let stays : (s : State) → c.core ≡ s.core → events_alone n s ≡ s =
    λ s m. events_ended n s (ap (λ (v : Core). is_some v.ended) (sym m) ∙ some) in
    record {
      core = λ s m t f. m ∙ ap (λ (t : State). t.core) (sym (stays s m));
      rest = λ s m r f. r ∙ ap (λ (t : State). Some t.rest) (sym (stays s m));
      output = λ s before m t f w. w ∙ ap (λ (t : State). Some (before ++ t.output)) (sym (stays s m));
      stops = λ s m r o f. cc;
    }

-- a first part of what one event appends is one of the whole output behind what was there before
part_of_all : (n count : ℕ) (s : State) (before : List ℕ) (written : Option (List ℕ)) → count < n
    → WritesPart (before ++ (events_alone count s).output) (before ++ (events_alone (suc count) s).output) written
    → SendsPart before (events_alone n s).output written
part_of_all n count s before written l p =
    let there = (events_alone count s).output in
    let grown = output_more (suc count) n s l in
    let j = min p.count (length p.bytes) in
    let next : (events_alone (suc count) s).output ≡ there ++ p.bytes =
    append_cancel_left before _ _ (p.grown ∙ append_assoc before there p.bytes) in
    let all : (events_alone n s).output ≡ there ++ (p.bytes ++ grown.more) =
    grown.are ∙ ap (λ (v : List ℕ). v ++ grown.more) next ∙ append_assoc there p.bytes grown.more in
    let part : take (length there + j) (events_alone n s).output ≡ there ++ take p.count p.bytes =
    ap (λ (v : List ℕ). take (length there + j) v) all
    ∙ take-append-add there (p.bytes ++ grown.more) j
    ∙ ap (λ (v : List ℕ). there ++ v) (sym (take_of_more p.count p.bytes grown.more)) in
    record {
      count = length there + j;
      are = p.are ∙ ap (λ (v : List ℕ). Some v) (append_assoc before there (take p.count p.bytes) ∙ ap (λ (v : List ℕ). before ++ v) (sym part));
    }
  where
    take_of_more : (n : ℕ) (xs ys : List ℕ) → take n xs ≡ take (min n (length xs)) (xs ++ ys)
    take_of_more zero xs ys = let e : min 0 (length xs) ≡ 0 = omega arith in rw e refl
    take_of_more (suc n) [] ys = let e : min (suc n) 0 ≡ 0 = omega arith in rw e refl
    take_of_more (suc n) (x ∷ xs) ys =
        let e : min (suc n) (suc (length xs)) ≡ suc (min n (length xs)) = omega arith in
        rw e (ap (λ (v : List ℕ). x ∷ v) (take_of_more n xs ys))

-- one event more, which gives an ending
pub runs_stop : (n k : ℕ) (c d e : Configuration) → RunsOn k c d → Acts 0 d e → k < n
    → is_some e.core.ended ≡ true → Runs n c e
runs_stop n k c d e a b l some = record {
  core = λ s m t f. at_core s m t f ∙ ap (λ (t : State). t.core) (all s m t f);
  rest = λ s m r f.
      let t = tells_all n s c.rest r in
      b.rest (events_alone k s) (here s m t) (a.rest s m r) f ∙ ap (λ (t : State). Some t.rest) (all s m t f);
  output = λ s before m t f w.
      b.output (with_before before (events_alone k s)) (here s m t) f (a.output s before m (fewer s t) w)
      ∙ ap (λ (t : State). Some t.output) (event_before before (events_alone k s) 0)
      ∙ ap (λ (t : State). Some (before ++ t.output)) (all s m t f);
  stops = λ s m t o f. stop s m t f;
}
  where
    fewer : (s : State) → TellsReads n s c.rest → TellsReads k s c.rest
    fewer s t = tells_fewer n k s c.rest (omega arith) t

    here : (s : State) → c.core ≡ s.core → TellsReads n s c.rest → d.core ≡ (events_alone k s).core
    here s m t = a.core s m (fewer s t)

    at_core : (s : State) → c.core ≡ s.core → TellsReads n s c.rest → is_port_fault e.core.ended ≡ false
        → e.core ≡ (after_event (events_alone k s) 0).core
    at_core s m t f = b.core (events_alone k s) (here s m t) (tells_next n k c d a s m l t) f

    all : (s : State) → c.core ≡ s.core → TellsReads n s c.rest → is_port_fault e.core.ended ≡ false
        → after_event (events_alone k s) 0 ≡ events_alone n s
    all s m t f =
        let next = events-suc k s in
        let at : is_some (events_alone (suc k) s).core.ended ≡ true =
        ap (λ (t : State). is_some t.core.ended) next ∙ ap (λ (v : Core). is_some v.ended) (sym (at_core s m t f)) ∙ some in
        sym next ∙ sym (events_last (suc k) n s l (ended_before _ _ at))

    stop : (s : State) → c.core ≡ s.core → TellsReads n s c.rest → is_port_fault e.core.ended ≡ true → StopsWithin n s c e
    stop s m t f =
        let at = here s m t in
        let sent : (before : List ℕ) → c.written ≡ Some (before ++ s.output)
        → WritesPart (before ++ (events_alone k s).output) (before ++ (events_alone (suc k) s).output) e.written =
        λ before w.
        let wrote = a.output s before m (fewer s t) w in
        let P : List ℕ → Type 0 = λ v. WritesPart (before ++ (events_alone k s).output) v e.written in
        let next : (after_event (with_before before (events_alone k s)) 0).output ≡ before ++ (events_alone (suc k) s).output =
        ap (λ (t : State). t.output) (event_before before (events_alone k s) 0) ∙ ap (λ (t : State). before ++ t.output) (sym (events-suc k s)) in
        subst P next (b.sent (with_before before (events_alone k s)) at f wrote) in
        record {
          count = k;
          below = l;
          running = none_ended (events_alone k s) d.core at a.running;
          reading = λ h. subst (λ (v : Core). StopsReading 0 v e.core) at (b.reading h);
          writing = λ h. subst (λ (v : Core). StopsWriting 0 v e.core) at (b.writing h);
          unread = λ h r. b.unread h ∙ a.rest s m r;
          sent = sent;
          part = λ before w. part_of_all n k s before e.written l (sent before w);
        }
