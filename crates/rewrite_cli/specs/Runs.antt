-- What is seen of a run: that of an executable, or that of an image on one hart.
use Rattle.std.specs.Prelude.{ℕ, suc, ◌≡◌, ◌<◌, ◌++◌, take, false, true, if◌then◌else◌, List, [], ◌∷◌, map, Option, Some, None, IsSome, IsNone}
use Rattle.outside_ports.specs.Ports.{Rose}
use Rattle.outside_ports.specs.Fakes.{File}
use Rattle.rv64_decode.specs.Area.{Area}
use Rattle.elf_image.specs.declared.image.Elf.{Elf}
use Rattle.guest_memory.specs.Spans.{all_bytes}
use Rattle.serial_run.specs.Runs.{from_outside}
use Rattle.serial_run.specs.Serial.{start_of, ended, serial, executed_of}
use Rattle.serial_run.specs.declared.machine.End.{End}
use Rattle.serial_run.specs.declared.machine.End.TheVariants.{Exited as DidExit, Faulted as DidFault, Spent as DidSpend}
use Rattle.serial_run.specs.declared.machine.End.TheVariants.{ReadFault as SourceFault, WriteFault as SinkFault}
use Rattle.image_writer.specs.declared.image.Entry.{Entry}
use Rattle.image_writer.specs.declared.image.Image.{Image}
use Rattle.hart_core.specs.Alone.{events_alone}
use Rattle.hart_core.specs.Counting.{events_of, steps_of}
use Rattle.hart_core.specs.Start.{start_state}
use Rattle.rewrite_cli.specs.Counts.{Tally, OfRun, of_steps}
use Rattle.rewrite_cli.specs.Outside.{Stream}
use Rattle.rewrite_cli.specs.Status.{is_ending}
use Rattle.rewrite_cli.specs.declared.status.Status.{Status}
use Rattle.rewrite_cli.specs.declared.status.Status.TheVariants.{Exited, Faulted, Spent, ReadFault, WriteFault}

-- how a run has ended, if it has, what it has written and left unread, its memory, and what is counted
pub record View : Type 0 where
  pub ended : Option End
  pub output : List ℕ
  pub rest : List ℕ
  pub memory : List Area
  pub tally : Tally

-- the run of an executable after at most n instructions
abbrev pub executable_view : Elf → List ℕ → ℕ → View
executable_view elf input n =
    let s = start_of elf input in
    let t = serial n s in
    record {
      ended = ended t;
      output = t.output;
      rest = t.rest;
      memory = t.machine.memory;
      tally = of_steps (executed_of n s);
    }

-- the machine with one hart over an image after at most n events
abbrev pub image_view : Image → List ℕ → ℕ → View
image_view image input n =
    let t = events_alone n (start_state image 1 input) in
    record {
      ended = t.core.ended;
      output = t.output;
      rest = t.rest;
      memory = t.core.memory;
      tally = OfRun t.core.loops (map events_of t.core.harts) (steps_of t.core.harts);
    }

-- an image without entries is run as its executable is
abbrev pub view_by : List Entry → Image → List ℕ → ℕ → View
view_by [] image input n = executable_view image.elf input n
view_by (e ∷ entries) image input n = image_view image input n

abbrev pub view_of : Image → List ℕ → ℕ → View
view_of image input n = view_by image.entries image input n

-- the run has an ending after so many steps, and none before
pub record EndsAfter (view : ℕ → View) (steps : ℕ) : Type 0 where
  pub ended : IsSome (view steps).ended
  pub first : (k : ℕ) → k < steps → IsNone (view k).ended

-- ---- its answer

-- the answer to the ending of a run
abbrev pub status_of_end : End → Status
status_of_end (DidExit code) = Exited code
status_of_end (DidFault kind pc addr) = Faulted kind pc addr
status_of_end DidSpend = Spent
status_of_end SourceFault = ReadFault
status_of_end SinkFault = WriteFault

abbrev pub status_of : Option End → Status
status_of None = Spent
status_of (Some end) = status_of_end end

-- what is saved of the memory after a run: the bytes of all areas, in address order, where a name is
-- given and the run has come to an ending
abbrev pub dump_of : Option (List ℕ) → Status → List Area → List File
dump_of None status memory = []
dump_of (Some name) status memory = if is_ending status then (name, all_bytes memory) ∷ [] else []

-- ---- with an input and an output

-- of at most so many steps a port met a fault in the one behind `count` others, and nothing more was read or written but
-- a first part of what that one writes
pub record StopsWithin (fuel : ℕ) (view : ℕ → View) (read output written : Stream) (end : End) : Type 0 where
  pub count : ℕ
  pub below : count < fuel
  pub running : IsNone (view count).ended
  pub unread : end ≡ SinkFault → read.bytes ≡ Some (view count).rest
  pub more : List ℕ
  pub grown : (view (suc count)).output ≡ (view count).output ++ more
  pub sent : (ys : List ℕ) → output.bytes ≡ Some ys
      → (k : ℕ) × (written.bytes ≡ Some (ys ++ ((view count).output ++ take k more)))

-- a run of at most so many steps that tells this ending, and has this memory then: by the bytes of the input, what is
-- seen of it, or that a port met a fault
pub record HasRun (fuel : ℕ) (view : List ℕ → ℕ → View) (input read output written : Stream) (end : End)
    (memory : List Area) : Type 0 where
  pub answer : (xs : List ℕ) → input.bytes ≡ Some xs → from_outside end ≡ false
      → status_of_end end ≡ status_of (view xs fuel).ended
  pub bytes : (xs : List ℕ) → input.bytes ≡ Some xs → from_outside end ≡ false → memory ≡ (view xs fuel).memory
  pub rest : (xs : List ℕ) → input.bytes ≡ Some xs → from_outside end ≡ false → read.bytes ≡ Some (view xs fuel).rest
  pub sent : (xs ys : List ℕ) → input.bytes ≡ Some xs → from_outside end ≡ false → output.bytes ≡ Some ys
      → written.bytes ≡ Some (ys ++ (view xs fuel).output)
  pub stops : (xs : List ℕ) → input.bytes ≡ Some xs → from_outside end ≡ true
      → StopsWithin fuel (view xs) read output written end
  pub read_fault : end ≡ SourceFault → Rose input.faults read.faults
  pub write_fault : end ≡ SinkFault → Rose output.faults written.faults
