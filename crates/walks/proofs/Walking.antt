-- The machine at each point of the walk.
use Rattle.std.proofs.Common.{◌≡◌, ℕ, zero, suc, ◌+◌, ◌*◌, ◌<◌, ◌≤◌, ◌⊎◌, inl, inr, if◌then◌else◌, Bool, true, false, List, [], ◌∷◌, map, Option, Some, None, refl, ap, sym, ◌∙◌, subst, arith}
use Rattle.std.specs.Prelude.{◌-◌, IsSome, IsNone}
use Rattle.std.proofs.lemmas.Bool.{cases_lt}
use Rattle.serial_run.specs.Serial.{State as SerialState, start_of, start_machine, ended, step, serial, IsEnding}
use Rattle.serial_run.specs.declared.machine.End.{End}
use Rattle.image_writer.specs.declared.image.Image.{Image}
use Rattle.hart_core.specs.declared.counts.LoopCount.{LoopCount}
use Rattle.hart_core.specs.declared.entries.Found.{Found}
use Rattle.hart_core.specs.Machine.{State, capped}
use Rattle.hart_core.specs.Counting.{events_of, steps_of}
use Rattle.hart_core.specs.Entering.{entry_at, entered, arrival, with_arrival}
use Rattle.hart_core.specs.Start.{no_count, start_core, start_state, first_hart}
use Rattle.hart_core.specs.Events.{after_event}
use Rattle.hart_core.specs.Alone.{events_alone}
use Rattle.added_runs.specs.Laws.{CountLaw}
use Rattle.entered_loops.specs.Laws.{IsWhole, WholeLaw, EntryLaw}
use Rattle.one_hart.specs.Laws.{IsDivided, AreBytes}
use Rattle.one_hart.proofs.Whole.{serial_both, events_both, serial_stays, some_not_none, none_is, first_slots}
use Rattle.walks.specs.Walk.{Point, state_at, first_point, behind_word, behind_stub, IsAtWord, Comes, by_word, by_stub, GoesOn, IsPoint}
use Rattle.walks.specs.Laws.{shown, arriving, HasCounted, HasWalked, OnLaw, ReachLaw, WalkLaw, EndLaw}
use Rattle.walks.proofs.Counts.{shown_start}
use Rattle.walks.proofs.Standing.{IsThere, Holds, Through, by_own, through}
use Rattle.walks.proofs.Unique.{Laws, one_behind}

module _ (laws : Laws) (counts : CountLaw) (entries : EntryLaw) (whole : WholeLaw) (image : Image) (input : List ℕ) (d : IsDivided image)
    (bytes : AreBytes input) where
  abbrev start : State
  start = start_state image 1 input

  abbrev At : Point → SerialState
  At w = state_at image input w

  abbrev Machine : Point → State
  Machine w = events_alone w.events start

  -- what is known at each point
  record Known (w : Point) : Type 0 where
    holds : Holds image (Machine w) (At w) w
    before : (m : ℕ) → m < w.events → IsNone (events_alone m start).core.ended

  is_whole : (w : Point) → IsWhole image.elf (At w)
  is_whole w = whole image.elf input w.index d.loadable d.bytes bytes

  -- ---- the start

  start_loops : (o : Option Found) → with_arrival (map no_count image.entries) o ≡ with_arrival (map shown (map no_count image.entries)) o
  start_loops o = ap (λ (cs : List LoopCount). with_arrival cs o) (sym (shown_start image.entries))

  start_by : (o : Option Found) → entry_at image.entries image.elf.entry ≡ o
      → Holds image start (start_of image.elf input) (first_point image)
  unfolding start_core
  start_by None e = record {
    hart = first_hart image.elf.entry (start_machine image.elf).regs;
    stands = record {
      only = ap (λ (o : Option Found). entered (first_hart image.elf.entry (start_machine image.elf).regs) o ∷ []) e;
      image = refl;
      slots = first_slots;
      regs = refl;
      memory = refl;
      brk = refl;
      ended = refl;
      output = refl;
      rest = refl;
    };
    slots = refl;
    events = refl;
    loops = start_loops (entry_at image.entries image.elf.entry);
    there = subst (IsThere (first_hart image.elf.entry (start_machine image.elf).regs) (start_of image.elf input)) (sym e)
        (record { mode = inl refl; pc = refl });
    goes = λ p. refl;
  }
  start_by (Some found) e = record {
    hart = entered (first_hart image.elf.entry (start_machine image.elf).regs) (Some found);
    stands = record {
      only = ap (λ (o : Option Found). entered (first_hart image.elf.entry (start_machine image.elf).regs) o ∷ []) e;
      image = refl;
      slots = first_slots;
      regs = refl;
      memory = refl;
      brk = refl;
      ended = refl;
      output = refl;
      rest = refl;
    };
    slots = refl;
    events = refl;
    loops = start_loops (entry_at image.entries image.elf.entry);
    there = subst (IsThere (entered (first_hart image.elf.entry (start_machine image.elf).regs) (Some found)) (start_of image.elf input)) (sym e)
        (record { mode = refl; pc = refl; kept = refl });
    goes = λ p. refl;
  }

  known_start : Known (first_point image)
  known_start = record { holds = start_by (entry_at image.entries image.elf.entry) refl; before = λ m lt. absurd (omega (arith, lt)) }

  -- ---- one point more

  abbrev HoldsBy : Point → State → SerialState → Type 0
  HoldsBy w s t = Holds image s t w

  none_more : (n b : ℕ) → ((m : ℕ) → m < n → IsNone (events_alone m start).core.ended)
      → ((k : ℕ) → k < b → IsNone (events_alone k (events_alone n start)).core.ended)
      → (m : ℕ) → m < n + b → IsNone (events_alone m start).core.ended
  none_more n b low high m lt = by (cases_lt m n)
    where
      by : (m < n) ⊎ (n ≤ m) → IsNone (events_alone m start).core.ended
      by (inl l) = low m l
      by (inr g) =
          let same : n + (m - n) ≡ m = omega (arith, g) in
          let at = high (m - n) (omega (arith, lt, g)) in
          subst (λ k. IsNone (events_alone k start).core.ended) same
          (subst (λ (q : State). IsNone q.core.ended) (events_both n (m - n) start) at)

  known_word : (w : Point) → Known w → IsAtWord image (At w) w.passing → ended (At w) ≡ None → Known (behind_word w)
  known_word w known at running =
      let one : w.events + 1 ≡ suc w.events = omega arith in
      let index : w.index + 1 ≡ suc w.index = omega arith in
      let machine : after_event (Machine w) 0 ≡ Machine (behind_word w) =
      events_both w.events 1 start ∙ ap (λ n. events_alone n start) one in
      let serial_is : step (At w) ≡ At (behind_word w) =
      serial_both w.index 1 (start_of image.elf input) ∙ ap (λ n. serial n (start_of image.elf input)) index in
      let own = by_own image (Machine w) (At w) w known.holds at running in
      let there = subst (λ (s : State). Holds image s (step (At w)) (behind_word w)) machine own in
      record {
        holds = subst (λ (t : SerialState). Holds image (Machine (behind_word w)) t (behind_word w)) serial_is there;
        before = λ m lt. none_more w.events 1 known.before (quiet_one running) m (let z = one in omega (arith, lt, z));
      }
    where
      quiet_one : ended (At w) ≡ None → (k : ℕ) → k < 1 → IsNone (events_alone k (Machine w)).core.ended
      quiet_one running zero lt = none_is (Machine w).core.ended (known.holds.stands.ended ∙ running)
      quiet_one running (suc k) lt = absurd (omega (arith, lt))

  goes_through : (w : Point) → Known w → (found : Found) → w.passing ≡ false → entry_at image.entries (At w).machine.pc ≡ Some found
      → ended (At w) ≡ None
      → Through image (Machine w) (At w) w
  goes_through w known found off at running =
      through image (Machine w) (At w) w known.holds (is_whole w) found off at running counts entries d

  known_through : (w : Point) → Known w → (g : Through image (Machine w) (At w) w) → Known (behind_stub image (At w) w g.arrives)
  known_through w known g =
      let to = behind_stub image (At w) w g.arrives in
      let machine : events_alone (suc g.arrives.words) (Machine w) ≡ Machine to = events_both w.events (suc g.arrives.words) start in
      let serial_is : serial g.arrives.instructions (At w) ≡ At to =
      serial_both w.index g.arrives.instructions (start_of image.elf input) in
      let there = subst (λ (s : State). Holds image s (serial g.arrives.instructions (At w)) to) machine g.holds in
      record {
        holds = subst (λ (t : SerialState). Holds image (Machine to) t to) serial_is there;
        before =
            none_more w.events (suc g.arrives.words) known.before
            (λ k lt. none_is (events_alone k (Machine w)).core.ended (g.quiet k (omega (arith, lt))).running);
      }

  known_next : (w v : Point) → Known w → ended (At w) ≡ None → Comes image (At w) w v → Known v
  known_next w v known running (by_word at) = known_word w known at running
  known_next w v known running (by_stub off a) =
      let g = goes_through w known a.found off a.at running in
      subst Known (one_behind laws image (At w) w g.arrives a) (known_through w known g)

  known : (k : ℕ) (w : Point) → IsPoint image input k w → Known w
  known zero w e = subst Known (sym e) known_start
  known (suc k) w p = known_next p.0 w (known k p.0 p.1) p.2.running p.2.comes

  pub has_counted : (k : ℕ) (w : Point) → IsPoint image input k w
      → HasCounted image (Machine w) (At w) w × ((m : ℕ) → m < w.events → IsNone (events_alone m start).core.ended)
  has_counted k w p =
      let q = known k w p in (
        record {
          hart = q.holds.hart;
          only = q.holds.stands.only;
          events = q.holds.events;
          loops = q.holds.loops;
          slots = q.holds.slots;
          regs = q.holds.stands.regs;
          memory = q.holds.stands.memory;
          break = q.holds.stands.brk;
          ending = q.holds.stands.ended;
          output = q.holds.stands.output;
          rest = q.holds.stands.rest;
        },
        q.before,
      )

  -- ---- the walk goes on

  next_by : (w : Point) → Known w → ended (At w) ≡ None → (b : Bool) → w.passing ≡ b → (o : Option Found)
      → entry_at image.entries (At w).machine.pc ≡ o → (v : Point) × GoesOn image input w v
  next_by w known running true on o e = (behind_word w, record { running = running; comes = by_word (inl on) })
  next_by w known running false off None e = (behind_word w, record { running = running; comes = by_word (inr e) })
  next_by w known running false off (Some found) e =
      let g = goes_through w known found off e running in
      (behind_stub image (At w) w g.arrives, record { running = running; comes = by_stub off g.arrives })

  pub goes_on : (k : ℕ) (w : Point) → IsPoint image input k w → ended (At w) ≡ None → (v : Point) × GoesOn image input w v
  goes_on k w p running = next_by w (known k w p) running w.passing refl (entry_at image.entries (At w).machine.pc) refl

  -- what is left of the way to instruction n: instructions, and the arrival that may be next
  abbrev left : ℕ → Point → ℕ
  left n w = 2 * (n - w.index) + (if w.passing then 0 else 1)

  fewer_by_word : (n m f : ℕ) (b : Bool) → 2 * (n - m) + (if b then 0 else 1) ≤ suc f → m < n → 2 * (n - suc m) + 1 ≤ f
  fewer_by_word n m f true few lt = omega (arith, few, lt)
  fewer_by_word n m f false few lt = omega (arith, few, lt)

  fewer_by_stub : (n m i f : ℕ) (b : Bool) → b ≡ false → 2 * (n - m) + (if b then 0 else 1) ≤ suc f → 2 * (n - (m + i)) + 0 ≤ f
  fewer_by_stub n m i f true off few = absurd (cc off)
  fewer_by_stub n m i f false off few = omega (arith, few)

  fewer : (n f : ℕ) (w v : Point) → left n w ≤ suc f → w.index < n → Comes image (At w) w v → left n v ≤ f
  fewer n f w v few lt (by_word at) = fewer_by_word n w.index f w.passing few lt
  fewer n f w v few lt (by_stub off a) = fewer_by_stub n w.index a.instructions f w.passing off few

  -- ---- up to an instruction

  module _ (n : ℕ) (runs : (m : ℕ) → m < n → IsNone (ended (serial m (start_of image.elf input)))) where
    abbrev Reaches : Type 0
    Reaches = (k : ℕ) × (w : Point) × IsPoint image input k w × (n ≤ w.index)

    is_running : (o : Option End) → IsNone o → o ≡ None
    is_running None h = refl
    is_running (Some end) h = absurd (cc h)

    reaches : (f k : ℕ) (w : Point) → IsPoint image input k w → left n w ≤ f → (w.index < n) ⊎ (n ≤ w.index) → Reaches
    reaches f k w p few (inr g) = (k, w, p, g)
    reaches zero k w p few (inl lt) = absurd (omega (arith, few, lt))
    reaches (suc f) k w p few (inl lt) =
        let running = is_running (ended (At w)) (runs w.index lt) in
        let g = goes_on k w p running in
        reaches f (suc k) g.0 (w, p, g.1) (fewer n f w g.0 few lt g.1.comes) (cases_lt g.0.index n)

    pub reached : Reaches
    reached = reaches (left n (first_point image)) 0 (first_point image) refl (omega arith) (cases_lt 0 n)

  -- ---- up to the ending

  module _ (n : ℕ) (t : SerialState) (e : IsEnding (start_of image.elf input) n t) where
    abbrev Walked : Type 0
    Walked = (k : ℕ) × (w : Point) × HasWalked image input n t k w

    walked : (k : ℕ) (w : Point) → IsPoint image input k w → w.index ≡ n → Walked
    walked k w p index =
        let q = known k w p in
        let is : At w ≡ t = ap (λ m. serial m (start_of image.elf input)) index ∙ e.reached in
        let some : IsSome (ended (At w)) = subst (λ (u : SerialState). IsSome (ended u)) (sym is) e.at_end in
        let none : arriving image (At w) w.passing ≡ None = ended_none w.passing some in (
          k,
          w,
          record {
            point = p;
            index = index;
            ends = record {
              ending = q.holds.stands.ended ∙ ap ended is;
              memory = q.holds.stands.memory ∙ ap (λ (u : SerialState). u.machine.memory) is;
              output = q.holds.stands.output ∙ ap (λ (u : SerialState). u.output) is;
              rest = q.holds.stands.rest ∙ ap (λ (u : SerialState). u.rest) is;
              first = q.before;
            };
            loops = q.holds.loops ∙ ap (with_arrival (map shown w.loops)) none;
            harts = ap (map events_of) q.holds.stands.only ∙ ap (λ m. m ∷ []) q.holds.events;
            steps = ap steps_of q.holds.stands.only ∙ ap (λ m. capped (m + 0)) q.holds.events ∙ capped_twice w.events;
          },
        )
      where
        capped_twice : (m : ℕ) → capped (capped m + 0) ≡ capped m
        capped_twice m = omega arith

        ended_none : (b : Bool) → IsSome (ended (At w)) → arriving image (At w) b ≡ None
        ended_none true some = refl
        ended_none false some = by (At w).machine.ended some
          where
            by : (o : Option End) → IsSome o
                → Rattle.hart_core.specs.Entering.unless_ended o (entry_at image.entries (At w).machine.pc) ≡ None
            by None some = absurd (cc some)
            by (Some end) some = refl

    not_after : (w : Point) → ended (At w) ≡ None → w.index < n
    not_after w running = by (cases_lt w.index n)
      where
        by : (w.index < n) ⊎ (n ≤ w.index) → w.index < n
        by (inl lt) = lt
        by (inr g) =
            let same : n + (w.index - n) ≡ w.index = omega (arith, g) in
            let stays : At w ≡ t =
            ap (λ m. serial m (start_of image.elf input)) (sym same) ∙ sym (serial_both n (w.index - n) (start_of image.elf input))
            ∙ ap (serial (w.index - n)) e.reached ∙ serial_stays (w.index - n) t e.at_end in
            absurd (some_not_none (ended t) e.at_end (ap ended (sym stays) ∙ running))

    abbrev Comes_on : ℕ → Type 0
    Comes_on f = (k : ℕ) (w : Point) → IsPoint image input k w → left n w ≤ f → w.index ≤ n → Walked

    -- one point on, instruction n is not passed
    not_passed : (k : ℕ) (w v : Point) → IsPoint image input (suc k) v → w.index < n → Comes image (At w) w v → v.index ≤ n
    not_passed k w v q lt (by_word at) = omega (arith, lt)
    not_passed k w v q lt (by_stub off a) =
        let later = not_after v ((known (suc k) v q).holds.goes refl) in
        omega (arith, later)

    on_by : (f : ℕ) → Comes_on f → (k : ℕ) (w v : Point) → left n w ≤ suc f → ended (At w) ≡ None → Comes image (At w) w v
        → IsPoint image input (suc k) v → Walked
    on_by f rest k w v few running c q =
        let lt = not_after w running in
        rest (suc k) v q (fewer n f w v few lt c) (not_passed k w v q lt c)

    ends_now : (k : ℕ) (w : Point) → IsPoint image input k w → w.index ≤ n → IsSome (ended (At w)) → Walked
    ends_now k w p le some = by (cases_lt w.index n)
      where
        none_some : (o : Option End) → IsNone o → IsSome o → ⊥
        none_some None a b = cc b
        none_some (Some end) a b = cc a

        by : (w.index < n) ⊎ (n ≤ w.index) → Walked
        by (inl lt) = absurd (none_some (ended (At w)) (e.first w.index lt) some)
        by (inr g) = walked k w p (omega (arith, le, g))

    comes_by : (f : ℕ) → Comes_on f → (k : ℕ) (w : Point) → IsPoint image input k w → left n w ≤ suc f → w.index ≤ n → (o : Option End)
        → ended (At w) ≡ o → Walked
    comes_by f rest k w p few le (Some end) r = ends_now k w p le (subst IsSome (sym r) refl)
    comes_by f rest k w p few le None r = let g = goes_on k w p r in on_by f rest k w g.0 few r g.1.comes (w, p, g.1)

    comes_last : (k : ℕ) (w : Point) → IsPoint image input k w → left n w ≤ 0 → w.index ≤ n → (o : Option End) → ended (At w) ≡ o → Walked
    comes_last k w p few le (Some end) r = ends_now k w p le (subst IsSome (sym r) refl)
    comes_last k w p few le None r = absurd (let lt = not_after w r in omega (arith, few, lt))

    comes_on : (f : ℕ) → Comes_on f
    comes_on zero k w p few le = comes_last k w p few le (ended (At w)) refl
    comes_on (suc f) k w p few le = comes_by f (comes_on f) k w p few le (ended (At w)) refl

    pub whole_walk : Walked
    whole_walk = comes_on (left n (first_point image)) 0 (first_point image) refl (omega arith) (omega arith)

pub on_law : Laws → CountLaw → EntryLaw → WholeLaw → OnLaw
on_law laws counts entries whole image input k w d bytes p running = goes_on laws counts entries whole image input d bytes k w p running

pub reach_law : Laws → CountLaw → EntryLaw → WholeLaw → ReachLaw
reach_law laws counts entries whole image input n d bytes runs = reached laws counts entries whole image input d bytes n runs

pub walk_law : Laws → CountLaw → EntryLaw → WholeLaw → WalkLaw
walk_law laws counts entries whole image input k w d bytes p = has_counted laws counts entries whole image input d bytes k w p

pub end_law : Laws → CountLaw → EntryLaw → WholeLaw → EndLaw
end_law laws counts entries whole image input n t d bytes e = whole_walk laws counts entries whole image input d bytes n t e
