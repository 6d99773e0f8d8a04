-- What a run has done, from what it shows.
use Rattle.std.proofs.Common.{◌≡◌, ◌≢◌, ℕ, ◌⊎◌, inl, inr, List, [], ◌∷◌, Option, Some, true, false, refl}
use Rattle.std.proofs.Common.{ap, sym, subst, ◌∙◌}
use Rattle.std.specs.Prelude.{Result, Ok, Err, IfOk}
use Rattle.std.specs.declared.alloc.AllocError.{AllocError}
use Rattle.outside_ports.specs.Ports.{Files, Rose}
use Rattle.outside_ports.specs.Fakes.{File}
use Rattle.rv64_decode.specs.Area.{Area}
use Rattle.serial_run.specs.Runs.{from_outside}
use Rattle.serial_run.specs.declared.machine.End.{End}
use Rattle.serial_run.specs.declared.machine.End.TheVariants.{Exited as DidExit, Faulted as DidFault, Spent as DidSpend}
use Rattle.serial_run.specs.declared.machine.End.TheVariants.{ReadFault as SourceFault, WriteFault as SinkFault}
use Rattle.image_writer.specs.declared.image.Image.{Image}
use Rattle.rewrite_cli.specs.Counts.{Tally, OfNothing, tally_of}
use Rattle.rewrite_cli.specs.declared.counts.Counts.{Counts}
use Rattle.rewrite_cli.specs.Texts.{report_of}
use Rattle.rewrite_cli.specs.Needs.{SameBut, names_of}
use Rattle.rewrite_cli.specs.Status.{is_from_outside, comes_first}
use Rattle.rewrite_cli.specs.Outside.{Stored, Stream, outside}
use Rattle.rewrite_cli.specs.Runs.{View, view_of, HasRun, status_of, status_of_end, dump_of}
use Rattle.rewrite_cli.specs.Effect.{Moment, IsMomentOf, ran}
use Rattle.rewrite_cli.specs.Answer.{LeavesRest, AreSaved, StayBut, StopsAt, HasTally, RunsTo}
use Rattle.rewrite_cli.specs.declared.status.Status.{Status}
use Rattle.rewrite_cli.specs.declared.status.Status.TheVariants.{OutOfMemory, WriteFault, StoreFault, ReadFault}
use Rattle.rewrite_cli.proofs.Done.{same_but, IsReady, ready_met, ready_behind, kept_saving}

-- ---- endings

pub inside_end : (end : End) → end ≢ SourceFault → end ≢ SinkFault → from_outside end ≡ false
inside_end (DidExit code) source sink = refl
inside_end (DidFault kind pc addr) source sink = refl
inside_end DidSpend source sink = refl
inside_end SourceFault source sink = absurd (source refl)
inside_end SinkFault source sink = absurd (sink refl)

inside_answer : (end : End) → from_outside end ≡ false → is_from_outside (status_of_end end) ≡ false
inside_answer (DidExit code) e = refl
inside_answer (DidFault kind pc addr) e = refl
inside_answer DidSpend e = refl
inside_answer SourceFault e = absurd (cc)
inside_answer SinkFault e = absurd (cc)

late_end : (end : End) → comes_first (status_of_end end) ≡ false
late_end (DidExit code) = refl
late_end (DidFault kind pc addr) = refl
late_end DidSpend = refl
late_end SourceFault = refl
late_end SinkFault = refl

-- what is known of counts that are there
pub ok_tally : (all : Result Counts AllocError) (counts : Counts) (Known : Tally → Type 0) → all ≡ Ok counts
    → IfOk all (λ (c : Counts). Known (tally_of c)) → Known (tally_of counts)
ok_tally (Ok found) counts Known e known = let same : found ≡ counts = cc in subst (λ (c : Counts). Known (tally_of c)) same known
ok_tally (Err why) counts Known e known = absurd (cc)

-- counts that are those of a run
pub told_tally : (all : Result Counts AllocError) (fuel : ℕ) (view : List ℕ → ℕ → View) (input : Stream) (end : End)
    (tally : Tally) → IfOk all (λ (c : Counts). tally_of c ≡ tally) → HasTally fuel view input end tally
    → IfOk all (λ (c : Counts). HasTally fuel view input end (tally_of c))
told_tally (Ok found) fuel view input end tally is known = λ xs told clean. is ∙ known xs told clean
told_tally (Err why) fuel view input end tally is known = tt

-- ---- a fault of the input or the output

-- an answer to a fault of the input, or to one of the output
abbrev IsFault : Status → End → Type 0
IsFault answer end = ((answer ≡ ReadFault) × (end ≡ SourceFault)) ⊎ ((answer ≡ WriteFault) × (end ≡ SinkFault))

left_by : (answer : Status) (end : End) (before after : Option (List ℕ)) (xs left : List ℕ) → IsFault answer end
    → (end ≡ SinkFault → after ≡ Some left) → answer ≢ ReadFault → LeavesRest before after xs left
left_by answer end before after xs left (inl e) unread other told = absurd (other e.0)
left_by answer end before after xs left (inr e) unread other told = unread e.1

why_stopped : (answer : Status) (end : End) → IsFault answer end
    → (answer ≡ ReadFault) ⊎ ((answer ≡ WriteFault) ⊎ ((answer ≡ OutOfMemory) × Unit {0}))
why_stopped answer end (inl e) = inl e.0
why_stopped answer end (inr e) = inr (inl e.0)

is_outside : (answer : Status) (end : End) → IsFault answer end → from_outside end ≡ true
is_outside answer end (inl e) = ap from_outside e.1
is_outside answer end (inr e) = ap from_outside e.1

fault_stops : (fuel : ℕ) (view : List ℕ → ℕ → View) (m : Files) (xs : List ℕ) (store now : Stored)
    (input read output written : Stream) (end : End) (memory : List Area) (answer : Status)
    → HasRun fuel view input read output written end memory → now.files ≡ store.files → IsFault answer end
    → input.bytes ≡ Some xs
    → (moment : Moment) × (IsMomentOf fuel (view xs) moment
    × StopsAt moment (Unit {0}) xs (outside store input output) (outside now read written) answer)
fault_stops fuel view m xs store now input read output written end memory answer run same kind told =
    let stop = run.stops xs told (is_outside answer end kind) in (
      record { output = (view xs stop.count).output; more = stop.more; rest = (view xs stop.count).rest },
      (
        record {
          count = stop.count;
          below = stop.below;
          running = stop.running;
          output = refl;
          more = stop.grown;
          rest = refl;
        },
        record {
          why = why_stopped answer end kind;
          output = stop.sent;
          rest = left_by answer end input.bytes read.bytes xs (view xs stop.count).rest kind stop.unread;
          files = same;
        },
      ),
    )

pub fault_runs : (image : Image) (fuel : ℕ) (dump : Option (List ℕ)) (store now : Stored)
    (input read output written : Stream) (end : End) (memory : List Area) (answer : Status) (text : List ℕ)
    → HasRun fuel (view_of image) input read output written end memory → now.files ≡ store.files → IsFault answer end
    → text ≡ report_of OfNothing answer
    → RunsTo image fuel dump (outside store input output) (outside now read written) answer text
fault_runs image fuel dump store now input read output written end memory answer text run same kind is =
    record {
      counts = OfNothing;
      text_is = is;
      late = late kind;
      store_fault = λ v. absurd (no_store kind v);
      failed_save = λ v. absurd (no_store kind v);
      read_fault = λ v. run.read_fault (source kind v);
      write_fault = λ v. run.write_fault (sink kind v);
      inside = λ m xs files told f. absurd (not_inside kind f);
      stopped = λ m xs files told f.
          inr (inl (fault_stops fuel (view_of image) m xs store now input read output written end memory answer run same
          kind told));
      others = λ m files. same_but m now.files (names_of dump) (same ∙ files);
    }
  where
    late : IsFault answer end → comes_first answer ≡ false
    late (inl e) = ap comes_first e.0
    late (inr e) = ap comes_first e.0

    no_store : IsFault answer end → answer ≡ StoreFault → ⊥
    no_store (inl e) v = let g : ReadFault ≡ StoreFault = sym e.0 ∙ v in cc
    no_store (inr e) v = let g : WriteFault ≡ StoreFault = sym e.0 ∙ v in cc

    source : IsFault answer end → answer ≡ ReadFault → end ≡ SourceFault
    source (inl e) v = e.1
    source (inr e) v = let g : WriteFault ≡ ReadFault = sym e.0 ∙ v in absurd (cc)

    sink : IsFault answer end → answer ≡ WriteFault → end ≡ SinkFault
    sink (inl e) v = let g : ReadFault ≡ WriteFault = sym e.0 ∙ v in absurd (cc)
    sink (inr e) v = e.1

    not_inside : IsFault answer end → is_from_outside answer ≡ false → ⊥
    not_inside (inl e) f = let g : is_from_outside ReadFault ≡ false = ap is_from_outside (sym e.0) ∙ f in cc
    not_inside (inr e) f = let g : is_from_outside WriteFault ≡ false = ap is_from_outside (sym e.0) ∙ f in cc

-- ---- a run that no port has stopped

run_ready : (image : Image) (fuel : ℕ) (dump : Option (List ℕ)) (m : Files) (xs : List ℕ) (store now : Stored)
    (input read output written : Stream) (end : End) (memory : List Area) (counts : Tally)
    → HasRun fuel (view_of image) input read output written end memory → HasTally fuel (view_of image) input end counts
    → from_outside end ≡ false → input.bytes ≡ Some xs
    → IsReady (ran fuel dump image xs) m xs (outside store input output) (outside now read written) (status_of_end end)
    counts
run_ready image fuel dump m xs store now input read output written end memory counts run counted clean told =
    let status = run.answer xs told clean in
    record {
      status_is = status;
      report = ap (λ (v : Status). report_of counts v) status
          ∙ ap (λ (t : Tally). report_of t (status_of (view_of image xs fuel).ended)) (counted xs told clean);
      output = λ ys told_out. run.sent xs ys told clean told_out;
      rest = λ t. run.rest xs told clean;
    }

-- what is saved of it
run_dump : (image : Image) (fuel : ℕ) (dump : Option (List ℕ)) (xs : List ℕ) (input read output written : Stream)
    (end : End) (memory : List Area) → HasRun fuel (view_of image) input read output written end memory
    → from_outside end ≡ false → input.bytes ≡ Some xs
    → dump_of dump (status_of_end end) memory ≡ (ran fuel dump image xs).saved
run_dump image fuel dump xs input read output written end memory run clean told =
    ap (λ (v : Status). dump_of dump v memory) (run.answer xs told clean)
    ∙ ap (dump_of dump (status_of (view_of image xs fuel).ended)) (run.bytes xs told clean)

pub ended_runs : (image : Image) (fuel : ℕ) (dump : Option (List ℕ)) (store now : Stored)
    (input read output written : Stream) (end : End) (memory : List Area) (counts : Tally) (answer : Status)
    (text : List ℕ)
    → HasRun fuel (view_of image) input read output written end memory → HasTally fuel (view_of image) input end counts
    → from_outside end ≡ false
    → (answer ≡ status_of_end end) ⊎ ((answer ≡ StoreFault) ⊎ (answer ≡ OutOfMemory))
    → text ≡ report_of counts answer
    → ((m : Files) → store.files ≡ Some m → answer ≡ status_of_end end
    → AreSaved m now.files (dump_of dump (status_of_end end) memory))
    → ((m : Files) → store.files ≡ Some m → is_from_outside answer ≡ true
    → StayBut answer m now.files (dump_of dump (status_of_end end) memory))
    → ((m : Files) → store.files ≡ Some m → SameBut m now.files (names_of dump))
    → (answer ≡ StoreFault → Rose store.faults now.faults)
    → (answer ≡ StoreFault → Rose store.failed_saves now.failed_saves)
    → RunsTo image fuel dump (outside store input output) (outside now read written) answer text
ended_runs image fuel dump store now input read output written end memory counts answer text run counted clean kept is
    saved stays others fault failed =
    record {
      counts = counts;
      text_is = is;
      late = late_answer kept;
      store_fault = fault;
      failed_save = failed;
      read_fault = λ v. absurd (no_port_answer ReadFault kept v refl (λ u. cc) (λ u. cc));
      write_fault = λ v. absurd (no_port_answer WriteFault kept v refl (λ u. cc) (λ u. cc));
      inside = λ m xs files told f.
          let same = kept_saving answer (status_of_end end) kept f in
          ready_met (ran fuel dump image xs) m xs (outside store input output) (outside now read written)
          (status_of_end end) answer counts text same is
          (run_ready image fuel dump m xs store now input read output written end memory counts run counted clean told)
          (λ t. subst (λ (v : List File). AreSaved m now.files v)
          (run_dump image fuel dump xs input read output written end memory run clean told) (saved m files same));
      stopped = λ m xs files told f.
          inr (inr (
            ran fuel dump image xs,
            (
              refl,
              ready_behind (ran fuel dump image xs) (Unit {0}) m xs (outside store input output)
                  (outside now read written) (status_of_end end) answer counts
                  (run_ready image fuel dump m xs store now input read output written end memory counts run counted
                  clean told)
                  kept (inside_answer end clean) f (inl tt)
                  (λ t. subst (λ (v : List File). StayBut answer m now.files v)
                  (run_dump image fuel dump xs input read output written end memory run clean told)
                  (stays m files f)),
            ),
          ));
      others = others;
    }
  where
    late_answer : (answer ≡ status_of_end end) ⊎ ((answer ≡ StoreFault) ⊎ (answer ≡ OutOfMemory))
        → comes_first answer ≡ false
    late_answer (inl v) = ap comes_first v ∙ late_end end
    late_answer (inr (inl v)) = ap comes_first v
    late_answer (inr (inr v)) = ap comes_first v

    no_port_answer : (fault : Status) → (answer ≡ status_of_end end) ⊎ ((answer ≡ StoreFault) ⊎ (answer ≡ OutOfMemory))
        → answer ≡ fault → is_from_outside fault ≡ true → fault ≢ StoreFault → fault ≢ OutOfMemory → ⊥
    no_port_answer fault (inl v) w t a b =
        let g : is_from_outside answer ≡ false = ap is_from_outside v ∙ inside_answer end clean in
        let h : is_from_outside answer ≡ true = ap is_from_outside w ∙ t in cc
    no_port_answer fault (inr (inl v)) w t a b = a (sym w ∙ v)
    no_port_answer fault (inr (inr v)) w t a b = b (sym w ∙ v)

-- ---- a run behind which memory is wanted

pub wanting_runs : (image : Image) (fuel : ℕ) (dump : Option (List ℕ)) (store now : Stored)
    (input read output written : Stream) (end : End) (memory : List Area) (answer : Status) (text : List ℕ)
    → HasRun fuel (view_of image) input read output written end memory → from_outside end ≡ false
    → now.files ≡ store.files → answer ≡ OutOfMemory → text ≡ report_of OfNothing answer
    → RunsTo image fuel dump (outside store input output) (outside now read written) answer text
wanting_runs image fuel dump store now input read output written end memory answer text run clean same e is =
    record {
      counts = OfNothing;
      text_is = is;
      late = ap comes_first e;
      store_fault = λ v. absurd (let g : OutOfMemory ≡ StoreFault = sym e ∙ v in cc);
      failed_save = λ v. absurd (let g : OutOfMemory ≡ StoreFault = sym e ∙ v in cc);
      read_fault = λ v. absurd (let g : OutOfMemory ≡ ReadFault = sym e ∙ v in cc);
      write_fault = λ v. absurd (let g : OutOfMemory ≡ WriteFault = sym e ∙ v in cc);
      inside = λ m xs files told f. let g = rw e at f in absurd (cc);
      stopped = λ m xs files told f.
          inr (inr (
            ran fuel dump image xs,
            (
              refl,
              record {
                why = inr (e, inl tt);
                output = λ ys told_out. run.sent xs ys told clean told_out;
                rest = λ t. run.rest xs told clean;
                count = 0;
                some_left = inl refl;
                between = m;
                saved = refl;
                files = λ t. subst (λ (a : Status). StayBut a m now.files (ran fuel dump image xs).saved) (sym e)
                    (stays_all (ran fuel dump image xs).saved (same ∙ t));
              },
            ),
          ));
      others = λ m files. same_but m now.files (names_of dump) (same ∙ files);
    }
  where
    stays_all : {m : Files} (later : List File) → now.files ≡ Some m → StayBut OutOfMemory m now.files later
    stays_all [] e = e
    stays_all (file ∷ later) e = e

-- ---- a run that has not begun

pub unbegun_runs : (image : Image) (fuel : ℕ) (dump : Option (List ℕ)) (store now : Stored) (input output : Stream)
    (answer : Status) (text : List ℕ)
    → now.files ≡ store.files → answer ≡ OutOfMemory → text ≡ report_of OfNothing answer
    → RunsTo image fuel dump (outside store input output) (outside now input output) answer text
unbegun_runs image fuel dump store now input output answer text same e is =
    record {
      counts = OfNothing;
      text_is = is;
      late = ap comes_first e;
      store_fault = λ v. absurd (cc);
      failed_save = λ v. absurd (cc);
      read_fault = λ v. absurd (cc);
      write_fault = λ v. absurd (cc);
      inside = λ m xs files told f. let g = rw e at f in absurd (cc);
      stopped = λ m xs files told f. inl (record { output = refl; rest = refl; files = same });
      others = λ m files. same_but m now.files (names_of dump) (same ∙ files);
    }
