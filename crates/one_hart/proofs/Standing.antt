-- Where the machine with one hart stands between the words of the executable.
use Rattle.std.proofs.Common.{◌≡◌, ℕ, zero, suc, ◌⊎◌, inl, inr, Bool, true, false, List, [], ◌∷◌, Option, Some, None, refl, ap, sym, ◌∙◌, subst}
use Rattle.std.specs.Prelude.{slice_get}
use Rattle.rv64_decode.specs.Area.{Area}
use Rattle.guest_calls.specs.declared.Brk.{Brk}
use Rattle.stub_laws.specs.Harts.{AreSlots}
use Rattle.serial_run.specs.Serial.{State as SerialState, ended, step}
use Rattle.serial_run.specs.declared.machine.Machine.{Machine}
use Rattle.serial_run.specs.declared.machine.End.{End}
use Rattle.image_writer.specs.declared.image.Entry.{Entry}
use Rattle.image_writer.specs.declared.image.Image.{Image}
use Rattle.hart_core.specs.declared.entries.Found.{Found}
use Rattle.hart_core.specs.Machine.{Mode, Free, Stub, Passing, Hart, Core, State, alone_in}
use Rattle.hart_core.specs.Entering.{entry_at, entered, arrival, unless_ended as if_running}
use Rattle.hart_core.specs.Rows.{back_in, after_own}
use Rattle.hart_core.specs.Events.{own_event, event_by, event_of, unless_ended, after_event}

-- the hart is about to execute the word of the executable at which the serial state stands
pub record IsFree (h : Hart) (at : ℕ) : Type 0 where
  pub mode : (h.mode ≡ Free) ⊎ (h.mode ≡ Passing)
  pub pc : h.pc ≡ at

-- or it has left there for the added code, at this entry
pub record HasLeftAt (entries : List Entry) (h : Hart) (t : SerialState) : Type 0 where
  pub found : Found
  pub entry : entry_at entries t.machine.pc ≡ Some found
  pub mode : h.mode ≡ Stub
  pub pc : h.pc ≡ found.stub
  pub kept : h.kept ≡ found.number
  pub running : ended t ≡ None

-- the machine has one hart, and all but its pc is as in the serial state
pub record Stands (i : Image) (s : State) (h : Hart) (t : SerialState) : Type 0 where
  pub only : s.core.harts ≡ h ∷ []
  pub image : s.core.image ≡ i
  pub slots : AreSlots h.slots
  pub regs : h.regs ≡ t.machine.regs
  pub memory : s.core.memory ≡ t.machine.memory
  pub brk : s.core.brk ≡ t.machine.brk
  pub ended : s.core.ended ≡ t.machine.ended
  pub output : s.output ≡ t.output
  pub rest : s.rest ≡ t.rest

-- the machine stands at a word of the executable, or has just left there
pub record IsBetween (image : Image) (s : State) (t : SerialState) : Type 0 where
  pub hart : Hart
  pub stands : Stands image s hart t
  pub at : IsFree hart t.machine.pc ⊎ HasLeftAt image.entries hart t

-- ---- an event at a word of the executable

abbrev serial_by : ℕ → List ℕ → List Area → Brk → Option End → List ℕ → List ℕ → SerialState
serial_by pc regs memory brk end output rest =
    record { machine = record { pc = pc; regs = regs; memory = memory; brk = brk; ended = end }; output = output; rest = rest }

same_state : (s : State) (h : Hart) (t : SerialState) → h.pc ≡ t.machine.pc → h.regs ≡ t.machine.regs → s.core.memory ≡ t.machine.memory
    → s.core.brk ≡ t.machine.brk → s.core.ended ≡ t.machine.ended → s.output ≡ t.output → s.rest ≡ t.rest → alone_in s h ≡ t
same_state s h t a b c d e f g =
    ap (λ x. serial_by x h.regs s.core.memory s.core.brk s.core.ended s.output s.rest) a
    ∙ ap (λ x. serial_by t.machine.pc x s.core.memory s.core.brk s.core.ended s.output s.rest) b
    ∙ ap (λ x. serial_by t.machine.pc t.machine.regs x s.core.brk s.core.ended s.output s.rest) c
    ∙ ap (λ x. serial_by t.machine.pc t.machine.regs t.machine.memory x s.core.ended s.output s.rest) d
    ∙ ap (λ x. serial_by t.machine.pc t.machine.regs t.machine.memory t.machine.brk x s.output s.rest) e
    ∙ ap (λ x. serial_by t.machine.pc t.machine.regs t.machine.memory t.machine.brk t.machine.ended x s.rest) f
    ∙ ap (λ x. serial_by t.machine.pc t.machine.regs t.machine.memory t.machine.brk t.machine.ended t.output x) g

event_is : (s : State) (h : Hart) → s.core.harts ≡ h ∷ [] → s.core.ended ≡ None → after_event s 0 ≡ event_by h.mode s 0 h
unfolding after_event
event_is s h only running =
    ap (λ (o : Option End). unless_ended o s (event_of s 0 (slice_get s.core.harts 0))) running
    ∙ ap (λ (hs : List Hart). event_of s 0 (slice_get hs 0)) only

free_event : (m : Mode) (s : State) (h : Hart) → (m ≡ Free) ⊎ (m ≡ Passing) → event_by m s 0 h ≡ own_event s 0 h
free_event m s h (inl e) = ap (λ (q : Mode). event_by q s 0 h) e
free_event m s h (inr e) = ap (λ (q : Mode). event_by q s 0 h) e

-- the state of the machine after that event, where the serial state that it leads to is u
abbrev pub own_is : State → Hart → SerialState → State
own_is s h u = record { core = after_own s.core 0 h u.machine; output = u.output; rest = u.rest }

pub found_running : (o : Option End) (f : Option Found) (found : Found) → if_running o f ≡ Some found → (o ≡ None) × (f ≡ Some found)
found_running None f found e = (refl, e)
found_running (Some end) f found e = absurd (cc)

between_by : (image : Image) (s : State) (h : Hart) (u : SerialState) (found : Option Found) → arrival image.entries u.machine ≡ found → s.core.image ≡ image → AreSlots h.slots → s.core.harts ≡ h ∷ []
    → IsBetween image (own_is s h u) u
between_by image s h u None e i slots only =
    let at : arrival s.core.image.entries u.machine ≡ None = ap (λ (q : Image). arrival q.entries u.machine) i ∙ e in
    record {
      hart = back_in h Free u.machine;
      stands = record {
        only = ap (λ (hs : List Hart). Rattle.std.specs.Prelude.slice_set hs 0 (entered (back_in h Free u.machine) (arrival s.core.image.entries u.machine))) only
            ∙ ap (λ (o : Option Found). entered (back_in h Free u.machine) o ∷ []) at;
        image = i;
        slots = slots;
        regs = refl;
        memory = refl;
        brk = refl;
        ended = refl;
        output = refl;
        rest = refl;
      };
      at = inl (record { mode = inl refl; pc = refl });
    }
between_by image s h u (Some found) e i slots only =
    let at : arrival s.core.image.entries u.machine ≡ Some found = ap (λ (q : Image). arrival q.entries u.machine) i ∙ e in
    let both = found_running u.machine.ended (entry_at image.entries u.machine.pc) found e in
    record {
      hart = entered (back_in h Free u.machine) (Some found);
      stands = record {
        only = ap (λ (hs : List Hart). Rattle.std.specs.Prelude.slice_set hs 0 (entered (back_in h Free u.machine) (arrival s.core.image.entries u.machine))) only
            ∙ ap (λ (o : Option Found). entered (back_in h Free u.machine) o ∷ []) at;
        image = i;
        slots = slots;
        regs = refl;
        memory = refl;
        brk = refl;
        ended = refl;
        output = refl;
        rest = refl;
      };
      at = inr (record { found = found; entry = both.1; mode = refl; pc = refl; kept = refl; running = both.0 });
    }

-- what the event makes of the machine
pub own_event_is : (image : Image) (s : State) (h : Hart) (t : SerialState) → Stands image s h t → IsFree h t.machine.pc → ended t ≡ None
    → after_event s 0 ≡ own_is s h (step t)
own_event_is image s h t i f running =
    let same = same_state s h t f.pc i.regs i.memory i.brk i.ended i.output i.rest in
    event_is s h i.only (i.ended ∙ running) ∙ free_event h.mode s h f.mode ∙ ap (λ (q : SerialState). own_is s h (step q)) same

pub own_step : (image : Image) (s : State) (h : Hart) (t : SerialState) → Stands image s h t → IsFree h t.machine.pc → ended t ≡ None → IsBetween image (after_event s 0) (step t)
own_step image s h t i f running =
    subst (λ (q : State). IsBetween image q (step t)) (sym (own_event_is image s h t i f running))
    (between_by image s h (step t) (arrival image.entries (step t).machine) refl i.image i.slots i.only)
