-- Where the machine stands at a point of the walk, and how it comes to the next one.
use Rattle.std.proofs.Common.{◌≡◌, ℕ, suc, ◌+◌, ◌≤◌, ◌⊎◌, inl, inr, Bool, true, false, List, [], ◌∷◌, map, Option, Some, None, refl, ap, sym, ◌∙◌, subst, arith}
use Rattle.std.specs.Prelude.{slice_get, slice_set}
use Rattle.rv64_decode.specs.Hart.{Hart as OneHart}
use Rattle.stub_laws.specs.Harts.{AreSlots}
use Rattle.stub_laws.specs.Sound.{IsSound}
use Rattle.serial_run.specs.Serial.{State as SerialState, ended, step, serial}
use Rattle.serial_run.specs.declared.machine.End.{End}
use Rattle.divided_loops.specs.Alone.{run_alone, MeetsNoFault}
use Rattle.divided_loops.specs.Forks.{IsFirstBack, turns_divided, forks_of}
use Rattle.image_writer.specs.declared.image.Entry.{Entry}
use Rattle.image_writer.specs.declared.image.Image.{Image}
use Rattle.hart_core.specs.declared.counts.LoopCount.{LoopCount}
use Rattle.hart_core.specs.declared.entries.Found.{Found}
use Rattle.hart_core.specs.Machine.{Free, Stub, Hart, State, capped}
use Rattle.hart_core.specs.Entering.{entry_at, header_of, entered, arrival, with_arrival, unless_ended as if_running}
use Rattle.hart_core.specs.Rows.{back_in}
use Rattle.hart_core.specs.Events.{after_event}
use Rattle.hart_core.specs.Alone.{events_alone}
use Rattle.added_runs.specs.Laws.{IsInStub, HasLeft, IsQuiet, with_divisions, CountLaw}
use Rattle.loop_division.specs.Division.{IsDivision}
use Rattle.entered_loops.specs.Laws.{IsWhole, Leaves, HasLoop, told, LeadsOn, EntryLaw}
use Rattle.one_hart.specs.Laws.{IsDivided}
use Rattle.one_hart.proofs.Standing.{IsFree, Stands, own_is, own_event_is}
use Rattle.walks.specs.Walk.{Point, behind_word, entering, Arrives, behind_stub, IsAtWord}
use Rattle.walks.specs.Laws.{shown, arriving}
use Rattle.walks.proofs.Counts.{capped_by, capped_next, shown_stub}

-- the hart has left the executable at an entry
pub record IsAtStub (h : Hart) (found : Found) : Type 0 where
  pub mode : h.mode ≡ Stub
  pub pc : h.pc ≡ found.stub
  pub kept : h.kept ≡ found.number

-- where it stands, by the entry at which the walk is about to arrive
abbrev pub IsThere : Hart → SerialState → Option Found → Type 0
IsThere h t None = IsFree h t.machine.pc
IsThere h t (Some found) = IsAtStub h found

-- the machine, beside the serial state of a point
pub record Holds (image : Image) (s : State) (t : SerialState) (w : Point) : Type 0 where
  pub hart : Hart
  pub stands : Stands image s hart t
  pub slots : hart.slots ≡ w.slots
  pub events : hart.events ≡ capped w.events
  pub loops : s.core.loops ≡ with_arrival (map shown w.loops) (arriving image t w.passing)
  pub there : IsThere hart t (arriving image t w.passing)
  -- where the walk passes a header the run goes on
  pub goes : w.passing ≡ true → ended t ≡ None

-- ---- at a word of the executable

no_entry_there : (o : Option End) (f : Option Found) → o ≡ None → f ≡ None → if_running o f ≡ None
no_entry_there None f a b = b
no_entry_there (Some end) f a b = refl

not_arriving : (image : Image) (t : SerialState) (passing : Bool) → IsAtWord image t passing → ended t ≡ None
    → arriving image t passing ≡ None
not_arriving image t true at running = refl
not_arriving image t false (inl p) running = absurd (cc p)
not_arriving image t false (inr none) running = no_entry_there t.machine.ended (entry_at image.entries t.machine.pc) running none

entry_there : (o : Option End) (f : Option Found) (found : Found) → o ≡ None → f ≡ Some found → if_running o f ≡ Some found
entry_there None f found a b = b
entry_there (Some end) f found a b = absurd (cc a)

pub is_arriving : (image : Image) (t : SerialState) (passing : Bool) (found : Found) → passing ≡ false
    → entry_at image.entries t.machine.pc ≡ Some found → ended t ≡ None
    → arriving image t passing ≡ Some found
is_arriving image t true found off e running = absurd (cc off)
is_arriving image t false found off e running = entry_there t.machine.ended (entry_at image.entries t.machine.pc) found running e

-- the machine after an event at such a word, which leads to the serial state u
module _ (image : Image) (s : State) (t u : SerialState) (w : Point) (i : Holds image s t w)
    (none : arriving image t w.passing ≡ None) where
  abbrev back : Hart
  back = back_in i.hart Free u.machine

  next_loops : (o : Option Found) → arrival image.entries u.machine ≡ o
      → (own_is s i.hart u).core.loops ≡ with_arrival (map shown w.loops) o
  next_loops o e =
      let at : arrival s.core.image.entries u.machine ≡ o = ap (λ (q : Image). arrival q.entries u.machine) i.stands.image ∙ e in
      ap (λ (f : Option Found). with_arrival s.core.loops f) at
      ∙ ap (λ (cs : List LoopCount). with_arrival cs o) (i.loops ∙ ap (with_arrival (map shown w.loops)) none)

  next_only : (o : Option Found) → arrival image.entries u.machine ≡ o → (own_is s i.hart u).core.harts ≡ entered back o ∷ []
  next_only o e =
      let at : arrival s.core.image.entries u.machine ≡ o = ap (λ (q : Image). arrival q.entries u.machine) i.stands.image ∙ e in
      ap (λ (hs : List Hart). slice_set hs 0 (entered back (arrival s.core.image.entries u.machine))) i.stands.only
      ∙ ap (λ (f : Option Found). entered back f ∷ []) at

  next_events : back.events ≡ capped (suc w.events)
  next_events = ap (λ n. capped (n + 1)) i.events ∙ sym (capped_next w.events)

  next_by : (o : Option Found) → arrival image.entries u.machine ≡ o → Holds image (own_is s i.hart u) u (behind_word w)
  next_by None e = record {
    hart = back;
    stands = record {
      only = next_only None e;
      image = i.stands.image;
      slots = i.stands.slots;
      regs = refl;
      memory = refl;
      brk = refl;
      ended = refl;
      output = refl;
      rest = refl;
    };
    slots = i.slots;
    events = next_events;
    loops = next_loops None e ∙ ap (with_arrival (map shown w.loops)) (sym e);
    there = subst (IsThere back u) (sym e) (record { mode = inl refl; pc = refl });
    goes = λ p. absurd (cc p);
  }
  next_by (Some found) e = record {
    hart = entered back (Some found);
    stands = record {
      only = next_only (Some found) e;
      image = i.stands.image;
      slots = i.stands.slots;
      regs = refl;
      memory = refl;
      brk = refl;
      ended = refl;
      output = refl;
      rest = refl;
    };
    slots = i.slots;
    events = next_events;
    loops = next_loops (Some found) e ∙ ap (with_arrival (map shown w.loops)) (sym e);
    there = subst (IsThere (entered back (Some found)) u) (sym e) (record { mode = refl; pc = refl; kept = refl });
    goes = λ p. absurd (cc p);
  }

pub by_own : (image : Image) (s : State) (t : SerialState) (w : Point) → Holds image s t w → IsAtWord image t w.passing → ended t ≡ None
    → Holds image (after_event s 0) (step t) (behind_word w)
by_own image s t w i at running =
    let none = not_arriving image t w.passing at running in
    let free : IsFree i.hart t.machine.pc = subst (IsThere i.hart t) none i.there in
    let is = own_event_is image s i.hart t i.stands free running in
    subst (λ (q : State). Holds image q (step t) (behind_word w)) (sym is)
    (next_by image s t (step t) w i none (arrival image.entries (step t).machine) refl)

-- ---- through added code

no_entry : (pc : ℕ) (found : Found) → entry_at [] pc ≡ Some found → ⊥
unfolding entry_at
no_entry pc found e = cc e

-- at a point at which the walk arrives: what it arrives at, and what has become of the machine behind the added code
pub record Through (image : Image) (s : State) (t : SerialState) (w : Point) : Type 0 where
  pub arrives : Arrives image t w.slots
  pub holds : Holds image (events_alone (suc arrives.words) s) (serial arrives.instructions t) (behind_stub image t w arrives)
  pub quiet : (k : ℕ) → k ≤ arrives.words → IsQuiet s (events_alone k s)

module _ (image : Image) (s : State) (t : SerialState) (w : Point) (i : Holds image s t w) (whole : IsWhole image.elf t) (found : Found)
    (off : w.passing ≡ false) (at : entry_at image.entries t.machine.pc ≡ Some found) (running : ended t ≡ None) where
  now : arriving image t w.passing ≡ Some found
  now = is_arriving image t w.passing found off at running

  there : IsAtStub i.hart found
  there = subst (IsThere i.hart t) now i.there

  abbrev one : OneHart
  one = entering t w.slots found

  sound : IsSound one
  sound = record {
    registers = whole.registers;
    slots = subst AreSlots i.slots i.stands.slots;
    bytes = whole.bytes;
    number = omega arith;
    harts = omega arith;
  }

  leaves : Leaves t found.stub one
  leaves = record { at = refl; sound = sound; regs = refl; memory = refl; number = refl; harts = refl }

  in_stub : IsInStub s one
  in_stub = record {
    hart = i.hart;
    only = i.stands.only;
    stub = there.mode;
    running = i.stands.ended ∙ running;
    pc = sym there.pc;
    regs = sym i.stands.regs;
    slots = sym i.slots;
    memory = sym i.stands.memory;
    number = refl;
    harts = refl;
  }

  code_is : s.core.image.code ≡ image.code
  code_is = ap (λ (q : Image). q.code) i.stands.image

  -- what the machine has counted there, over the image's own words
  abbrev Counted : List ℕ → ℕ → Type 0
  Counted code n = (left : HasLeft s (events_alone (suc n) s) i.hart.kept (run_alone code n one))
      × (left.hart.events ≡ capped (i.hart.events + suc n))
      × ((events_alone (suc n) s).core.loops ≡ with_divisions i.hart.kept s.core.loops (turns_divided code n one))
      × ((k : ℕ) → k ≤ n → IsQuiet s (events_alone k s))

  counted : CountLaw → (n : ℕ) → IsFirstBack image.code n one → MeetsNoFault image.code one → Counted image.code n
  unfolding in_stub
  counted counts n first goes = subst
      (λ (code : List ℕ). IsFirstBack code n one → MeetsNoFault code one → Counted code n)
      code_is (λ f g. counts s one n in_stub f g) first goes

  arrived : (loop : HasLoop image.elf t.machine.pc) → LeadsOn image.code t one loop.root (told image.elf t loop) → Arrives image t w.slots
  arrived loop lead = record {
    found = found;
    at = at;
    loop = loop;
    words = lead.words;
    first = lead.leaves.first;
    instructions = lead.instructions;
    are_turns = lead.are_turns;
  }

  module _ (loop : HasLoop image.elf t.machine.pc) (lead : LeadsOn image.code t one loop.root (told image.elf t loop))
      (header : header_of (slice_get image.entries found.number) ≡ t.machine.pc) (c : Counted image.code lead.words) where
    abbrev to : Point
    to = behind_stub image t w (arrived loop lead)

    loops_then : (events_alone (suc lead.words) s).core.loops ≡ map shown (behind_stub image t w (arrived loop lead)).loops
    unfolding arrived
    loops_then =
        c.2
        ∙ ap (λ (ts : List ℕ). with_divisions i.hart.kept s.core.loops ts) lead.leaves.divides
        ∙ ap (λ k. with_divisions k s.core.loops (forks_of (told image.elf t loop))) there.kept
        ∙ ap (λ (cs : List LoopCount). with_divisions found.number cs (forks_of (told image.elf t loop)))
        (i.loops ∙ ap (with_arrival (map shown w.loops)) now)
        ∙ shown_stub (told image.elf t loop) w.loops found.number

    holds : Holds image (events_alone (suc lead.words) s) (serial lead.instructions t) (behind_stub image t w (arrived loop lead))
    unfolding arrived
    holds = record {
      hart = c.0.hart;
      stands = record {
        only = c.0.only;
        image = c.0.image ∙ i.stands.image;
        slots = subst AreSlots (sym c.0.slots) lead.sound.slots;
        regs = c.0.regs ∙ lead.regs;
        memory = c.0.memory ∙ lead.memory;
        brk = c.0.brk ∙ i.stands.brk ∙ sym lead.break;
        ended = c.0.running ∙ sym lead.running;
        output = c.0.output ∙ i.stands.output ∙ sym lead.output;
        rest = c.0.rest ∙ i.stands.rest ∙ sym lead.rest;
      };
      slots = c.0.slots;
      events = c.1 ∙ ap (λ n. capped (n + suc lead.words)) i.events ∙ sym (capped_by w.events (suc lead.words));
      loops = loops_then;
      there = record {
        mode = inr c.0.passing;
        pc = c.0.pc ∙ ap (λ (q : Image). header_of (slice_get q.entries i.hart.kept)) i.stands.image
            ∙ ap (λ (k : ℕ). header_of (slice_get image.entries k)) there.kept ∙ header ∙ sym lead.pc;
      };
      goes = λ p. lead.running;
    }

    through_by : Through image s t w
    unfolding arrived
    through_by = record { arrives = arrived loop lead; holds = holds; quiet = c.3 }

  pub through : CountLaw → EntryLaw → IsDivided image → Through image s t w
  through counts entries d = by d.entries
    where
      by : (image.entries ≡ []) ⊎ IsDivision image.elf image.entries image.code → Through image s t w
      by (inl none) = absurd (no_entry t.machine.pc found (ap (λ (es : List Entry). entry_at es t.machine.pc) (sym none) ∙ at))
      by (inr division) =
          let e = entries image.elf image.entries image.code t found one d.loadable division whole running at leaves in
          through_by e.0 e.1 e.3 (counted counts e.1.words e.1.leaves.first e.2)
