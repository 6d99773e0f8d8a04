-- Two harts in an image of three words with one entry, from the start through a fork and a join back to the header.
use Rattle.std.specs.Prelude.{ℕ, ◌≡◌, true, false, List, [], ◌∷◌, map, slice_index, replicate, None}
use Rattle.rv64_decode.specs.Area.{Area}
use Rattle.serial_run.specs.Serial.{start_regs}
use Rattle.image_writer.specs.declared.image.Entry.{Entry}
use Rattle.image_writer.specs.declared.image.Image.{Image}
use Rattle.hart_core.specs.declared.counts.LoopCount.{LoopCount}
use Rattle.hart_core.specs.Machine.{Mode, Passing, Idle, Hart, Core, State, Elsewhere}
use Rattle.hart_core.specs.Entering.{entry_at, entered, with_arrival, place_of_entry}
use Rattle.hart_core.specs.Start.{idle_hart, first_hart, no_count}
use Rattle.hart_core.specs.Events.{after_events}

abbrev pub sample_entries : List Entry
sample_entries = record { header = 0x10000; stub = 0x6000_0000 } ∷ []

-- li x5, 4; xp.put 23, x5; xp.par; xp.id x5; xp.put 16, x5; xp.join; xp.back
abbrev pub sample_code : List ℕ
sample_code =
    0x0040_0293 ∷ 0x0172_800B ∷ 0x0000_200B ∷ 0x0000_528B ∷ 0x0102_800B ∷ 0x0000_300B ∷ 0x0000_400B ∷ []

-- nop
abbrev pub sample_memory : List Area
sample_memory =
    record { low = 0x10000; readable = true; writable = false; executable = true; bytes = 0x13 ∷ 0 ∷ 0 ∷ 0 ∷ 0 ∷ 0 ∷ 0 ∷ 0 ∷ [] } ∷ []

abbrev pub sample_image : Image
sample_image = record {
  elf = record { entry = 0x10000; segments = [] };
  entries = sample_entries;
  code = sample_code;
}

abbrev pub sample_core : Core
sample_core =
    let found = entry_at sample_entries 0x10000 in
    record {
      harts = entered (first_hart 0x10000 start_regs) found ∷ idle_hart ∷ [];
      memory = sample_memory;
      brk = record { at = 0; low = 0; high = 0 };
      ended = None;
      image = sample_image;
      loops = with_arrival (map no_count sample_entries) found;
      place = place_of_entry found;
    }

abbrev pub sample_state : State
sample_state = record { core = sample_core; output = []; rest = [] }

-- hart 1 has no event before the fork, and hart 0 none while it waits
abbrev pub sample_order : List ℕ
sample_order = 1 ∷ 0 ∷ 0 ∷ 0 ∷ 0 ∷ 1 ∷ 0 ∷ 0 ∷ 0 ∷ 1 ∷ 1 ∷ 0 ∷ []

abbrev pub modes_of : List Hart → List Mode
modes_of harts = map (λ (h : Hart). h.mode) harts

pub record SampleRun : Type 0 where
  pub modes : modes_of (after_events sample_state sample_order).core.harts ≡ Passing ∷ Idle ∷ []
  pub pcs : map (λ (h : Hart). h.pc) (after_events sample_state sample_order).core.harts ≡ 0x10000 ∷ 0x6000_0018 ∷ []
  pub numbers : map (λ (h : Hart). slice_index h.slots 16) (after_events sample_state sample_order).core.harts ≡ 0 ∷ 1 ∷ []
  pub events : map (λ (h : Hart). h.events) (after_events sample_state sample_order).core.harts ≡ 7 ∷ 3 ∷ []
  pub loops : (after_events sample_state sample_order).core.loops
      ≡ record { header = 0x10000; arrivals = 1; divided = 1; turns = 5 } ∷ []
  pub place : (after_events sample_state sample_order).core.place ≡ Elsewhere
