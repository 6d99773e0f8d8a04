-- One word of hart k, by the parts of the machine: a machine that has taken pc and registers from the hart executes
-- it, and the hart takes them back.
use Rattle.std.proofs.Common.{◌≡◌, ℕ, ◌<◌, ◌≤◌, Bool, true, false, List, length, get_or, Option, Some, None, refl, ap, sym, subst, ◌∙◌, arith}
use Rattle.std.proofs.lemmas.Option.{get_or_from_slice_get, slice_get_read, slice_get_past}
use Rattle.std.specs.Prelude.{IsNone, slice_get, slice_set}
use Rattle.rv64_decode.specs.declared.instr.Instr.{Instr}
use Rattle.serial_run.specs.Serial.{step, after_instr}
use Rattle.serial_run.specs.Runs.{DoesCall, StandsAtCall as CallStands, Acts as OneActs, Keeps as OneKeeps, configuration_of as one_configuration}
use Rattle.serial_run.specs.declared.machine.Machine.{Machine}
use Rattle.serial_run.specs.declared.machine.End.{End}
use Rattle.image_writer.specs.declared.image.Entry.{Entry}
use Rattle.image_writer.specs.declared.image.Image.{Image}
use Rattle.hart_core.specs.declared.counts.LoopCount.{LoopCount}
use Rattle.hart_core.specs.declared.entries.Found.{Found}
use Rattle.hart_core.specs.Machine.{Mode, Free, Stub, Elsewhere, Place, Hart, Core, State, alone}
use Rattle.hart_core.specs.Entering.{arrival, entered, with_arrival, next_place, place_of_entry}
use Rattle.hart_core.specs.Rows.{back_in}
use Rattle.hart_core.specs.Events.{added_word, with_core, goes, goes_in, goes_before, is_effective}
use Rattle.hart_core.specs.Acting.{configuration_of, Acts, Keeps, NeverCalls, GoesFree, GoesInStub, base_in}
use Rattle.hart_core.proofs.Happening.{own_parts, base_parts, word_keeps, stands_free, stands_stub, is_none, none_plain, still_acts}
use Rattle.hart_core.proofs.Steps.{stays}

abbrev pub core_of : List Hart → Machine → Image → List LoopCount → Place → Core
core_of seats m image loops place =
    record { harts = seats; memory = m.memory; brk = m.brk; ended = m.ended; image = image; loops = loops; place = place }

module _ (k : ℕ) (c : Core) (seats shown : List Hart) (machine : Machine) (image : Image) (loops : List LoopCount) (place : Place)
    (view : core_of seats machine image loops place ≡ c) (seen : shown ≡ seats) (n : Machine)
    (load : (h : Hart) → slice_get shown k ≡ Some h → n ≡ record machine { pc = h.pc; regs = h.regs }) where
  here : (h : Hart) → slice_get c.harts k ≡ Some h → slice_get seats k ≡ Some h
  here h at = ap (λ (b : Core). slice_get b.harts k) view ∙ at

  own : (h : Hart) → slice_get c.harts k ≡ Some h → n ≡ record machine { pc = h.pc; regs = h.regs }
  own h at = load h (ap (λ (xs : List Hart). slice_get xs k) seen ∙ here h at)

  loaded : (h : Hart) → slice_get c.harts k ≡ Some h → n ≡ alone c h
  loaded h at = own h at ∙ ap (λ (b : Core). alone b h) view

  pub whole_keeps : (h : Hart) → slice_get c.harts k ≡ Some h → (d : Core) (m : Machine) → d.ended ≡ m.ended
      → (r q : Option (List ℕ)) (rf qf : ℕ) (w v : Option (List ℕ)) (wf vf : ℕ)
      → OneKeeps (one_configuration n r rf w wf) (one_configuration m q qf v vf)
      → Keeps (configuration_of c r rf w wf) (configuration_of d q qf v vf)
  whole_keeps h at d m e r q rf qf w v wf vf a =
      word_keeps c d n m r q rf qf w v wf vf (sym (ap (λ (o : Machine). o.ended) (loaded h at))) e a

  pub own_whole : GoesFree c k → (m : Machine) (r q : Option (List ℕ)) (rf qf : ℕ) (w v : Option (List ℕ)) (wf vf : ℕ)
      → (IsNone n.ended → OneActs CallStands step (one_configuration n r rf w wf) (one_configuration m q qf v vf))
      → (entries : List Entry) → entries ≡ image.entries → (found : Option Found) → found ≡ arrival entries m
      → (there : Place) → there ≡ place_of_entry found → (seats' : List Hart) (loops' : List LoopCount) (place' : Place)
      → ((h : Hart) → slice_get seats k ≡ Some h → seats' ≡ slice_set seats k (entered (back_in h Free m) found))
      → loops' ≡ with_arrival loops found → place' ≡ next_place k there place
      → Acts k (configuration_of c r rf w wf) (configuration_of (core_of seats' m image loops' place') q qf v vf)
  own_whole at m r q rf qf w v wf vf a entries en found is there to seats' loops' place' settles counts stands =
      let h = at.hart in
      let none : machine.ended ≡ None = ap (λ (b : Core). b.ended) view ∙ at.running in
      let f : found ≡ arrival image.entries m = is ∙ ap (λ (es : List Entry). arrival es m) en in
      let same = own h at.stands in
      let ran = a (is_none n.ended (ap (λ (o : Machine). o.ended) same ∙ none)) in
      subst (λ (b : Core). Acts k (configuration_of b r rf w wf) (configuration_of (core_of seats' m image loops' place') q qf v vf)) view
      (own_parts k h (core_of seats machine image loops place) none (here h at.stands) at.free n m r q rf qf w v wf vf same ran
      seats' loops' place'
      (settles h (here h at.stands) ∙ ap (λ (o : Option Found). slice_set seats k (entered (back_in h Free m) o)) f)
      (counts ∙ ap (λ (o : Option Found). with_arrival loops o) f)
      (stands ∙ ap (λ (p : Place). next_place k p place) (to ∙ ap (λ (o : Option Found). place_of_entry o) f)))

  pub own_never : (number : ℕ) → GoesFree c k → NeverCalls number c k → CallStands number n → ⊥
  own_never number at never s =
      never at.hart (stands_free number k at.hart c at.stands at.free
      (subst (λ (o : Machine). CallStands number o) (loaded at.hart at.stands) s))

  pub base_whole : (i : Instr) → GoesInStub c k
      → ((h : Hart) → slice_get c.harts k ≡ Some h → base_in (added_word c.image.code h.pc) ≡ Some i)
      → (m : Machine) (r q : Option (List ℕ)) (rf qf : ℕ) (w v : Option (List ℕ)) (wf vf : ℕ)
      → OneActs (DoesCall i) (λ s. after_instr s i) (one_configuration n r rf w wf) (one_configuration m q qf v vf)
      → (seats' : List Hart) (place' : Place)
      → ((h : Hart) → slice_get seats k ≡ Some h → seats' ≡ slice_set seats k (back_in h Stub m))
      → place' ≡ next_place k Elsewhere place
      → Acts k (configuration_of c r rf w wf) (configuration_of (core_of seats' m image loops place') q qf v vf)
  base_whole i at is m r q rf qf w v wf vf a seats' place' settles stands =
      let h = at.hart in
      let none : machine.ended ≡ None = ap (λ (b : Core). b.ended) view ∙ at.running in
      let code : base_in (added_word image.code h.pc) ≡ Some i =
      ap (λ (b : Core). base_in (added_word b.image.code h.pc)) view ∙ is h at.stands in
      subst (λ (b : Core). Acts k (configuration_of b r rf w wf) (configuration_of (core_of seats' m image loops place') q qf v vf)) view
      (base_parts k h (core_of seats machine image loops place) i none (here h at.stands) at.stub code
      n m r q rf qf w v wf vf (own h at.stands) a seats' place' (settles h (here h at.stands)) stands)

  pub base_never : (number : ℕ) (i : Instr) → GoesInStub c k
      → ((h : Hart) → slice_get c.harts k ≡ Some h → base_in (added_word c.image.code h.pc) ≡ Some i)
      → NeverCalls number c k → DoesCall i number n → ⊥
  base_never number i at is never d =
      never at.hart (stands_stub number k at.hart c i at.stands at.stub (is at.hart at.stands) n
      (ap (λ (o : Machine). o.regs) (loaded at.hart at.stands)) d)

-- where a hart's pc has no added word
pub no_word : (k : ℕ) (c : Core) (h : Hart) → slice_get c.harts k ≡ Some h → (b : Core) → b ≡ c → (x : Hart) → x ≡ get_or b.harts k x
    → (code : List ℕ) → code ≡ b.image.code → (pc : ℕ) → pc ≡ x.pc → (o : Option ℕ) → o ≡ added_word code pc → o ≡ None
    → added_word c.image.code h.pc ≡ None
no_word k c h at b view x is code en pc to o means none =
    let same : x ≡ h = is ∙ get_or_from_slice_get b.harts k h x (ap (λ (d : Core). slice_get d.harts k) view ∙ at) in
    sym (ap (λ (d : Core). added_word d.image.code h.pc) view)
    ∙ sym (ap (λ (y : Hart). added_word b.image.code y.pc) same)
    ∙ sym (ap (λ (p : ℕ). added_word b.image.code p) to)
    ∙ sym (ap (λ (words : List ℕ). added_word words pc) en)
    ∙ sym means ∙ none

-- an event that is not effective
none_acts : (k : ℕ) (c : Core) (r : Option (List ℕ)) (rf : ℕ) (w : Option (List ℕ)) (wf : ℕ) → is_effective c k ≡ false
    → c.ended ≡ None → Acts k (configuration_of c r rf w wf) (configuration_of c r rf w wf)
none_acts k c r rf w wf idle none =
    still_acts k c c r rf w wf
    (λ s e. stays s k (ap (λ (d : Core). is_effective d k) (sym e) ∙ idle) ∙ ap (λ (d : Core). with_core s d) (sym e))
    (none_plain c.ended none)

-- a hart that is read, with its mode
module _ (k : ℕ) (c : Core) (none : c.ended ≡ None) (within : k < length c.harts) (b : Core) (view : b ≡ c) (x : Hart)
    (is : x ≡ get_or b.harts k x) (m : Mode) (mode : m ≡ x.mode) where
  stands : slice_get c.harts k ≡ Some x
  stands =
      let same : length c.harts ≡ length b.harts = ap (λ (d : Core). length d.harts) (sym view) in
      ap (λ (d : Core). slice_get d.harts k) (sym view) ∙ slice_get_read b.harts (length b.harts) k x refl (omega arith) is

  pub effective_is : (e : Bool) → goes m ≡ e → e ≡ is_effective c k
  effective_is e g =
      sym g ∙ ap (λ (n : Mode). goes n) mode
      ∙ sym (ap (λ (o : Option End). goes_before o (goes_in (slice_get c.harts k))) none ∙ ap (λ (o : Option Hart). goes_in o) stands)

  pub idle_acts : goes m ≡ false → (r : Option (List ℕ)) (rf : ℕ) (w : Option (List ℕ)) (wf : ℕ)
      → Acts k (configuration_of c r rf w wf) (configuration_of c r rf w wf)
  idle_acts g r rf w wf = none_acts k c r rf w wf (sym (effective_is false g)) none

-- a hart of a number beyond them
pub past_effective : (k : ℕ) (c b : Core) → b ≡ c → length b.harts ≤ k → is_effective c k ≡ false
past_effective k c b view past =
    ap (λ (d : Core). is_effective d k) (sym view)
    ∙ ap (λ (o : Option Hart). goes_before b.ended (goes_in o)) (slice_get_past b.harts k past) ∙ none_goes b.ended
  where
    none_goes : (o : Option End) → goes_before o false ≡ false
    none_goes None = refl
    none_goes (Some end) = refl

pub past_acts : (k : ℕ) (c b : Core) → b ≡ c → length b.harts ≤ k → b.ended ≡ None
    → (r : Option (List ℕ)) (rf : ℕ) (w : Option (List ℕ)) (wf : ℕ)
    → Acts k (configuration_of c r rf w wf) (configuration_of c r rf w wf)
past_acts k c b view past none r rf w wf =
    none_acts k c r rf w wf (past_effective k c b view past) (ap (λ (d : Core). d.ended) (sym view) ∙ none)
