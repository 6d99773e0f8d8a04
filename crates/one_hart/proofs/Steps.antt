-- The way through a stub, from one state of the serial run to a later one.
use Rattle.std.proofs.Common.{◌≡◌, ℕ, zero, suc, ◌+◌, ◌<◌, ◌≤◌, ◌^◌, ◌⊎◌, inl, inr, List, [], ◌∷◌, Option, Some, None, refl, ap, sym, ◌∙◌, subst, arith}
use Rattle.std.specs.Prelude.{slice_get}
use Rattle.rv64_decode.specs.Hart.{Hart as OneHart, fetched}
use Rattle.rv64_decode.specs.Range.{AreWords, AreBytes}
use Rattle.rv64_decode.specs.declared.xinstr.XInstr.TheVariants.{Back}
use Rattle.stub_laws.specs.Sound.{IsSound}
use Rattle.serial_run.specs.Serial.{State as SerialState, ended, serial}
use Rattle.image_writer.specs.declared.image.Image.{Image}
use Rattle.divided_loops.specs.Alone.{run_alone, MeetsNoFault}
use Rattle.hart_core.specs.declared.entries.Found.{Found}
use Rattle.hart_core.specs.Machine.{Hart, State}
use Rattle.hart_core.specs.Entering.{header_of, entry_at}
use Rattle.image_writer.specs.declared.image.Entry.{Entry}
use Rattle.loop_division.specs.Division.{IsDivision}
use Rattle.stub_laws.specs.Harts.{AreSlots}
use Rattle.hart_core.specs.Alone.{events_alone}
use Rattle.added_runs.specs.Laws.{IsInStub, IsQuiet, HasLeft, StubLaw}
use Rattle.entered_loops.specs.Laws.{IsWhole, Leaves, HasLoop, told, LeadsOn, EntryLaw}
use Rattle.one_hart.specs.Laws.{IsDivided}
use Rattle.one_hart.proofs.Standing.{IsFree, HasLeftAt, Stands}

-- the machine has come through a stub, to a later state of the serial run
pub record Passes (image : Image) (s : State) (t : SerialState) : Type 0 where
  pub events : ℕ
  pub instructions : ℕ
  pub hart : Hart
  pub stands : Stands image (events_alone (suc events) s) hart (serial instructions t)
  pub free : IsFree hart (serial instructions t).machine.pc
  pub running : ended (serial instructions t) ≡ None
  pub quiet : (k : ℕ) → k ≤ events → IsQuiet s (events_alone k s)

-- the one hart as a hart that executes these words alone
abbrev one : State → Hart → OneHart
one s h = record { pc = h.pc; regs = h.regs; slots = h.slots; memory = s.core.memory; log = []; number = 0; harts = 1 }

no_entry : (pc : ℕ) (found : Found) → entry_at [] pc ≡ Some found → ⊥
unfolding entry_at
no_entry pc found e = cc e

module _ (image : Image) (s : State) (h : Hart) (t : SerialState) (i : Stands image s h t) (w : IsWhole image.elf t) (left : HasLeftAt image.entries h t) where
  sound : IsSound (one s h)
  sound = record {
    registers = subst AreWords (sym i.regs) w.registers;
    slots = i.slots;
    bytes = subst AreBytes (sym i.memory) w.bytes;
    number = omega arith;
    harts = omega arith;
  }

  enters : Leaves t left.found.stub (one s h)
  enters = record { at = left.pc; sound = sound; regs = i.regs; memory = i.memory; number = refl; harts = refl }

  in_stub : IsInStub s (one s h)
  in_stub = record {
    hart = h;
    only = i.only;
    stub = left.mode;
    running = i.ended ∙ left.running;
    pc = refl;
    regs = refl;
    slots = refl;
    memory = refl;
    number = refl;
    harts = refl;
  }

  code_is : s.core.image.code ≡ image.code
  code_is = ap (λ (q : Image). q.code) i.image

  -- what the law of added code tells, over the image's own words
  abbrev Through : List ℕ → ℕ → Type 0
  Through code n = (m : ℕ) × HasLeft s (events_alone (suc m) s) h.kept (run_alone code n (one s h)) × ((k : ℕ) → k ≤ m → IsQuiet s (events_alone k s))

  goes_through : StubLaw → (n : ℕ) → fetched image.code (run_alone image.code n (one s h)).pc ≡ Some Back → MeetsNoFault image.code (one s h) → Through image.code n
  unfolding in_stub
  goes_through stubs n back quiet = subst
      (λ (code : List ℕ). fetched code (run_alone code n (one s h)).pc ≡ Some Back → MeetsNoFault code (one s h) → Through code n)
      code_is (λ b f. stubs s (one s h) n in_stub b f) back quiet

  comes : (m : ℕ) (loop : HasLoop image.elf t.machine.pc) (lead : LeadsOn image.code t (one s h) loop.root (told image.elf t loop))
      → header_of (slice_get image.entries left.found.number) ≡ t.machine.pc
      → HasLeft s (events_alone (suc m) s) h.kept (run_alone image.code lead.words (one s h)) → ((k : ℕ) → k ≤ m → IsQuiet s (events_alone k s)) → Passes image s t
  comes m loop lead header l quiet = record {
    events = m;
    instructions = lead.instructions;
    hart = l.hart;
    stands = record {
      only = l.only;
      image = l.image ∙ i.image;
      slots = subst AreSlots (sym l.slots) lead.sound.slots;
      regs = l.regs ∙ lead.regs;
      memory = l.memory ∙ lead.memory;
      brk = l.brk ∙ i.brk ∙ sym lead.break;
      ended = l.running ∙ sym lead.running;
      output = l.output ∙ i.output ∙ sym lead.output;
      rest = l.rest ∙ i.rest ∙ sym lead.rest;
    };
    free = record {
      mode = inr l.passing;
      pc = l.pc ∙ ap (λ (q : Image). header_of (slice_get q.entries h.kept)) i.image ∙ ap (λ (k : ℕ). header_of (slice_get image.entries k)) left.kept ∙ header ∙ sym lead.pc;
    };
    running = lead.running;
    quiet = quiet;
  }

  pub passes : StubLaw → EntryLaw → IsDivided image → Passes image s t
  passes stubs entries d = by d.entries
    where
      by : (image.entries ≡ []) ⊎ IsDivision image.elf image.entries image.code → Passes image s t
      by (inl none) = absurd (no_entry t.machine.pc left.found (ap (λ (es : List Entry). entry_at es t.machine.pc) (sym none) ∙ left.entry))
      by (inr division) =
          let e = entries image.elf image.entries image.code t left.found (one s h) d.loadable division w left.running left.entry enters in
          let g = goes_through stubs e.1.words e.1.leaves.first.leaves e.2 in
          comes g.0 e.0 e.1 e.3 g.1 g.2
