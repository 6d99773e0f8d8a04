-- What is seen of a run, from the machine that has made it.
use Rattle.std.proofs.Common.{◌≡◌, ◌≢◌, ◌≤◌, ◌++◌, ℕ, suc, ◌⊎◌, inl, inr, List, [], ◌∷◌, Option, Some, None, true, false, refl}
use Rattle.std.proofs.Common.{ap, sym, ◌∙◌, append_assoc, arith}
use Rattle.std.proofs.lemmas.List.{append-nil, append_cancel_left}
use Rattle.std.specs.Prelude.{take, unwrap_or, is_some}
use Rattle.outside_ports.specs.Ports.{Rose}
use Rattle.elf_image.specs.declared.image.Elf.{Elf}
use Rattle.serial_run.specs.declared.machine.Machine.{Machine}
use Rattle.serial_run.specs.declared.machine.End.{End}
use Rattle.serial_run.specs.declared.machine.End.TheVariants.{Spent as DidSpend, ReadFault as SourceFault, WriteFault as SinkFault}
use Rattle.serial_run.specs.Serial.{State as SerialState, start_machine, start_of, ended, serial}
use Rattle.serial_run.specs.Runs.{configuration_of, Runs, WritesPart, is_port_fault, from_outside}
use Rattle.image_writer.specs.declared.image.Entry.{Entry}
use Rattle.image_writer.specs.declared.image.Image.{Image}
use Rattle.hart_core.specs.Alone.{events_alone}
use Rattle.hart_core.specs.Acting.{configuration_of as harts_configuration}
use Rattle.hart_core.specs.Laws.{GrowthLaw}
use Rattle.hart_core.specs.Machine.{Core}
use Rattle.hart_core.specs.Runs.{Runs as HartsRun}
use Rattle.hart_core.specs.Start.{start_core, start_state}
use Rattle.rewrite_cli.specs.Outside.{Stream}
use Rattle.rewrite_cli.specs.Runs.{HasRun, StopsWithin, executable_view, image_view, view_by, view_of, status_of, status_of_end}

-- ---- endings

status_as : (ended : Option End) (end : End) → end ≡ unwrap_or ended DidSpend → status_of_end end ≡ status_of ended
status_as None end e = ap status_of_end e
status_as (Some found) end e = ap status_of_end e

pub port_as : (ended : Option End) (end : End) → end ≡ unwrap_or ended DidSpend → is_port_fault ended ≡ from_outside end
port_as None end e = sym (ap from_outside e)
port_as (Some found) end e = sym (ap from_outside e)

ended_as : (ended : Option End) (end : End) → end ≡ unwrap_or ended DidSpend → end ≢ DidSpend → ended ≡ Some end
ended_as None end e other = absurd (other e)
ended_as (Some found) end e other = ap (λ (v : End). Some v) (sym e)

not_spent : (end : End) → from_outside end ≡ true → end ≢ DidSpend
not_spent end h e = let g : from_outside DidSpend ≡ true = ap from_outside (sym e) ∙ h in cc

-- a first part of what a step appends
part_sent : (ys old new more : List ℕ) (written : Option (List ℕ)) → new ≡ old ++ more
    → WritesPart (ys ++ old) (ys ++ new) written → (k : ℕ) × (written ≡ Some (ys ++ (old ++ take k more)))
part_sent ys old new more written e part =
    let whole : new ≡ old ++ part.bytes =
    append_cancel_left ys new (old ++ part.bytes) (part.grown ∙ append_assoc ys old part.bytes) in
    let same : part.bytes ≡ more = append_cancel_left old part.bytes more (sym whole ∙ e) in (
      part.count,
      part.are
          ∙ ap (λ (v : List ℕ). Some v) (append_assoc ys old (take part.count part.bytes)
          ∙ ap (λ (v : List ℕ). ys ++ (old ++ take part.count v)) same),
    )

told_more : (ys : List ℕ) (told : Option (List ℕ)) → told ≡ Some ys → told ≡ Some (ys ++ [])
told_more ys told e = e ∙ ap (λ (v : List ℕ). Some v) (sym (append-nil ys))

rose_by : (R : Type 0) (old : Option End) (end : End) → old ≡ None → (old ≡ Some end) ⊎ R → R
rose_by R old end none (inl e) = let g : None ≡ Some end = sym none ∙ e in absurd (cc)
rose_by R old end none (inr rose) = rose

-- ---- an executable

-- the output only grows
abbrev pub Grows : Type 0
Grows = (n m : ℕ) (s : SerialState) → n ≤ m → (more : List ℕ) × ((serial m s).output ≡ (serial n s).output ++ more)

module _ (grows : Grows) (elf : Elf) (fuel : ℕ) (input read output written : Stream) (start machine : Machine) (end : End)
    (begun : start ≡ start_machine elf)
    (runs : Runs fuel (configuration_of start input.bytes input.faults output.bytes output.faults)
    (configuration_of machine read.bytes read.faults written.bytes written.faults))
    (e : end ≡ unwrap_or machine.ended DidSpend) where
  none : start.ended ≡ None
  none = ap (λ (v : Machine). v.ended) begun

  clean : from_outside end ≡ false → is_port_fault machine.ended ≡ false
  clean h = port_as machine.ended end e ∙ h

  machine_is : (xs : List ℕ) → input.bytes ≡ Some xs → from_outside end ≡ false
      → machine ≡ (serial fuel (start_of elf xs)).machine
  machine_is xs told h = runs.machine (start_of elf xs) begun (λ k l n c. told) (clean h)

  stops_in : (xs : List ℕ) → input.bytes ≡ Some xs → from_outside end ≡ true
      → StopsWithin fuel (executable_view elf xs) read output written end
  stops_in xs told h =
      let s = start_of elf xs in
      let is = ended_as machine.ended end e (not_spent end h) in
      let stop = runs.stops s begun (λ k l n c. told) (ap is_some none) (port_as machine.ended end e ∙ h) in
      let more = grows stop.count (suc stop.count) s (omega arith) in
      record {
        count = stop.count;
        below = stop.below;
        running = stop.running;
        unread = λ sink. stop.unread (is ∙ ap (λ (v : End). Some v) sink) told;
        more = more.0;
        grown = more.1;
        sent = λ ys told_out.
            part_sent ys (serial stop.count s).output (serial (suc stop.count) s).output more.0 written.bytes more.1
            (stop.sent ys (told_more ys output.bytes told_out));
      }

  pub serial_seen : (machine.ended ≡ Some SourceFault → (start.ended ≡ Some SourceFault) ⊎ Rose input.faults read.faults)
      → (machine.ended ≡ Some SinkFault → (start.ended ≡ Some SinkFault) ⊎ Rose output.faults written.faults)
      → HasRun fuel (executable_view elf) input read output written end machine.memory
  serial_seen reading writing =
      record {
        answer = λ xs told h.
            status_as machine.ended end e ∙ ap (λ (v : Machine). status_of v.ended) (machine_is xs told h);
        bytes = λ xs told h. ap (λ (v : Machine). v.memory) (machine_is xs told h);
        rest = λ xs told h. runs.rest (start_of elf xs) begun told (clean h);
        sent = λ xs ys told h told_out.
            runs.output (start_of elf xs) ys begun (λ k l n c. told) (clean h) (told_more ys output.bytes told_out);
        stops = stops_in;
        read_fault = λ f.
            rose_by (Rose input.faults read.faults) start.ended SourceFault none
            (reading (ended_as machine.ended SourceFault (sym f ∙ e) (λ g. cc)));
        write_fault = λ f.
            rose_by (Rose output.faults written.faults) start.ended SinkFault none
            (writing (ended_as machine.ended SinkFault (sym f ∙ e) (λ g. cc)));
      }

-- ---- the machine with one hart

start_running : (image : Image) → (start_core image 1).ended ≡ None
unfolding start_core
start_running image = refl

module _ (grows : GrowthLaw) (image : Image) (fuel : ℕ) (input read output written : Stream) (start core : Core) (end : End)
    (begun : start ≡ start_core image 1)
    (runs : HartsRun fuel (harts_configuration start input.bytes input.faults output.bytes output.faults)
    (harts_configuration core read.bytes read.faults written.bytes written.faults))
    (e : end ≡ unwrap_or core.ended DidSpend) where
  no_ending : start.ended ≡ None
  no_ending = ap (λ (v : Core). v.ended) begun ∙ start_running image

  is_clean : from_outside end ≡ false → is_port_fault core.ended ≡ false
  is_clean h = port_as core.ended end e ∙ h

  pub core_is : (xs : List ℕ) → input.bytes ≡ Some xs → from_outside end ≡ false
      → core ≡ (events_alone fuel (start_state image 1 xs)).core
  core_is xs told h = runs.core (start_state image 1 xs) begun (λ k l n c d. told) (is_clean h)

  harts_stop : (xs : List ℕ) → input.bytes ≡ Some xs → from_outside end ≡ true
      → StopsWithin fuel (image_view image xs) read output written end
  harts_stop xs told h =
      let s = start_state image 1 xs in
      let is = ended_as core.ended end e (not_spent end h) in
      let stop = runs.stops s begun (λ k l n c d. told) (ap is_some no_ending) (port_as core.ended end e ∙ h) in
      let more = grows stop.count (suc stop.count) s (omega arith) in
      record {
        count = stop.count;
        below = stop.below;
        running = stop.running;
        unread = λ sink. stop.unread (is ∙ ap (λ (v : End). Some v) sink) told;
        more = more.0;
        grown = more.1;
        sent = λ ys told_out.
            part_sent ys (events_alone stop.count s).output (events_alone (suc stop.count) s).output more.0 written.bytes
            more.1 (stop.sent ys (told_more ys output.bytes told_out));
      }

  pub harts_seen : (core.ended ≡ Some SourceFault → (start.ended ≡ Some SourceFault) ⊎ Rose input.faults read.faults)
      → (core.ended ≡ Some SinkFault → (start.ended ≡ Some SinkFault) ⊎ Rose output.faults written.faults)
      → HasRun fuel (image_view image) input read output written end core.memory
  harts_seen reading writing =
      record {
        answer = λ xs told h.
            status_as core.ended end e ∙ ap (λ (v : Core). status_of v.ended) (core_is xs told h);
        bytes = λ xs told h. ap (λ (v : Core). v.memory) (core_is xs told h);
        rest = λ xs told h. runs.rest (start_state image 1 xs) begun told (is_clean h);
        sent = λ xs ys told h told_out.
            runs.output (start_state image 1 xs) ys begun (λ k l n c d. told) (is_clean h)
            (told_more ys output.bytes told_out);
        stops = harts_stop;
        read_fault = λ f.
            rose_by (Rose input.faults read.faults) start.ended SourceFault no_ending
            (reading (ended_as core.ended SourceFault (sym f ∙ e) (λ g. cc)));
        write_fault = λ f.
            rose_by (Rose output.faults written.faults) start.ended SinkFault no_ending
            (writing (ended_as core.ended SinkFault (sym f ∙ e) (λ g. cc)));
      }

-- ---- by the entries of an image

pub plain_view : (image : Image) → image.entries ≡ [] → executable_view image.elf ≡ view_of image
plain_view image none = ap (λ (es : List Entry). view_by es image) (sym none)

pub divided_view : (image : Image) → image.entries ≢ [] → image_view image ≡ view_of image
divided_view image some = by image.entries refl
  where
    by : (es : List Entry) → image.entries ≡ es → image_view image ≡ view_by es image
    by [] e = absurd (some e)
    by (entry ∷ es) e = refl
