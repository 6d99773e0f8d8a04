-- The machine of several harts at its start.
use Rattle.std.specs.Prelude.{ℕ, ◌-◌, ◌+◌, ◌<◌, ◌^◌, List, [], ◌∷◌, length, map, replicate, None}
use Rattle.std.specs.List.Sorted.{IsStrictlyIncreasing}
use Rattle.elf_image.specs.Layout.{IsLoadable}
use Rattle.elf_image.specs.declared.image.Elf.{Elf}
use Rattle.serial_run.specs.Serial.{start_machine}
use Rattle.image_writer.specs.declared.image.Entry.{Entry}
use Rattle.image_writer.specs.declared.image.Image.{Image}
use Rattle.hart_core.specs.declared.counts.LoopCount.{LoopCount}
use Rattle.hart_core.specs.declared.entries.Found.{Found}
use Rattle.hart_core.specs.Machine.{Hart, Core, State, Free, Idle, Elsewhere}
use Rattle.hart_core.specs.Entering.{headers_of, entry_at, entered, with_arrival, place_of_entry}

-- what holds of each image that can be run: its original can be loaded, and its entries are in order
pub record IsRunnable (image : Image) : Type 0 where
  pub loadable : IsLoadable image.elf
  pub ascending : IsStrictlyIncreasing (headers_of image.entries)
  pub few : length image.entries < 2 ^ 32

-- a hart that has not been woken
abbrev pub idle_hart : Hart
idle_hart = record { pc = 0; regs = replicate 32 0; slots = replicate 32 0; mode = Idle; kept = 0; events = 0 }

-- the hart that runs the original
abbrev pub first_hart : ℕ → List ℕ → Hart
first_hart pc regs = record { pc = pc; regs = regs; slots = replicate 32 0; mode = Free; kept = 0; events = 0 }

abbrev pub no_count : Entry → LoopCount
no_count e = record { header = e.header; arrivals = 0; divided = 0; turns = 0 }

-- the machine with so many harts, of which the first stands at the executable's entry, or has left there
-- for the added code
unfoldable pub start_core : Image → ℕ → Core
start_core image harts =
    let m = start_machine image.elf in
    let found = entry_at image.entries m.pc in
    record {
      harts = entered (first_hart m.pc m.regs) found ∷ replicate (harts - 1) idle_hart;
      memory = m.memory;
      brk = m.brk;
      ended = None;
      image = image;
      loops = with_arrival (map no_count image.entries) found;
      place = place_of_entry found;
    }

-- with all of the input unread
abbrev pub start_state : Image → ℕ → List ℕ → State
start_state image harts input = record { core = start_core image harts; output = []; rest = input }
