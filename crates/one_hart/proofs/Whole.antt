-- The whole run of an image on one hart, beside that of its executable.
use Rattle.std.proofs.Common.{◌≡◌, ℕ, zero, suc, ◌+◌, ◌-◌, ◌<◌, ◌≤◌, ◌⊎◌, inl, inr, List, [], ◌∷◌, Option, Some, None, refl, ap, sym, ◌∙◌, subst, arith}
use Rattle.std.specs.Prelude.{◌^◌, IsSome, IsNone, replicate, slice_index}
use Rattle.std.proofs.lemmas.Bool.{cases_lt}
use Rattle.serial_run.specs.Serial.{State as SerialState, start_of, start_machine, ended, step, serial, unless_ended as serial_unless, IsEnding}
use Rattle.serial_run.specs.declared.machine.End.{End}
use Rattle.stub_laws.specs.Harts.{AreSlots}
use Rattle.image_writer.specs.declared.image.Image.{Image}
use Rattle.hart_core.specs.declared.entries.Found.{Found}
use Rattle.hart_core.specs.Machine.{Hart, State}
use Rattle.hart_core.specs.Entering.{entry_at, entered}
use Rattle.hart_core.specs.Start.{start_core, start_state, first_hart}
use Rattle.hart_core.specs.Events.{after_event, event_of, unless_ended}
use Rattle.hart_core.specs.Alone.{events_alone}
use Rattle.added_runs.specs.Laws.{IsQuiet, StubLaw}
use Rattle.entered_loops.specs.Laws.{IsWhole, WholeLaw, EntryLaw}
use Rattle.one_hart.specs.Laws.{IsDivided, AreBytes, EndsAs, IsInStep, EndingLaw, StepLaw}
use Rattle.one_hart.proofs.Standing.{IsFree, HasLeftAt, Stands, IsBetween, own_step}
use Rattle.one_hart.proofs.Steps.{Passes, passes}

-- ---- runs one behind the other

pub serial_both : (n b : ℕ) (s : SerialState) → serial b (serial n s) ≡ serial (n + b) s
serial_both zero b s = let z : b ≡ 0 + b = omega arith in ap (λ k. serial k s) z
serial_both (suc n) b s = let z : suc (n + b) ≡ suc n + b = omega arith in serial_both n b (step s) ∙ ap (λ k. serial k s) z

pub events_both : (n m : ℕ) (s : State) → events_alone m (events_alone n s) ≡ events_alone (n + m) s
events_both zero m s = let z : m ≡ 0 + m = omega arith in ap (λ k. events_alone k s) z
events_both (suc n) m s = let z : suc (n + m) ≡ suc n + m = omega arith in events_both n m (after_event s 0) ∙ ap (λ k. events_alone k s) z

pub some_not_none : (o : Option End) → IsSome o → o ≡ None → ⊥
some_not_none None h e = absurd (cc)
some_not_none (Some end) h e = absurd (cc)

-- ---- after the ending nothing changes

serial_stops : (o : Option End) (s t : SerialState) → IsSome o → serial_unless o s t ≡ s
serial_stops None s t h = absurd (cc)
serial_stops (Some end) s t h = refl

step_stays : (t : SerialState) → IsSome (ended t) → step t ≡ t
unfolding step
step_stays t h = serial_stops (ended t) t _ h

pub serial_stays : (n : ℕ) (t : SerialState) → IsSome (ended t) → serial n t ≡ t
serial_stays zero t h = refl
serial_stays (suc n) t h = ap (serial n) (step_stays t h) ∙ serial_stays n t h

event_stops : (o : Option End) (s t : State) → IsSome o → unless_ended o s t ≡ s
event_stops None s t h = absurd (cc)
event_stops (Some end) s t h = refl

event_stays : (s : State) → IsSome s.core.ended → after_event s 0 ≡ s
unfolding after_event
event_stays s h = event_stops s.core.ended s _ h

events_stay : (n : ℕ) (s : State) → IsSome s.core.ended → events_alone n s ≡ s
events_stay zero s h = refl
events_stay (suc n) s h = ap (events_alone n) (event_stays s h) ∙ events_stay n s h

-- ---- endings, moved back over events that do not end the run

pub none_is : (o : Option End) → o ≡ None → IsNone o
none_is None e = refl
none_is (Some end) e = absurd (cc)

later : (n m : ℕ) (s : State) (u : SerialState) → ((k : ℕ) → k < n → IsNone (events_alone k s).core.ended) → EndsAs (events_alone n s) m u → EndsAs s (n + m) u
later n m s u before e =
    let both = events_both n m s in
    record {
      ending = ap (λ (q : State). q.core.ended) (sym both) ∙ e.ending;
      memory = ap (λ (q : State). q.core.memory) (sym both) ∙ e.memory;
      output = ap (λ (q : State). q.output) (sym both) ∙ e.output;
      rest = ap (λ (q : State). q.rest) (sym both) ∙ e.rest;
      first = λ k lt. by k lt (cases_lt k n);
    }
  where
    by : (k : ℕ) → k < n + m → (k < n) ⊎ (n ≤ k) → IsNone (events_alone k s).core.ended
    by k lt (inl low) = before k low
    by k lt (inr high) =
        let same : n + (k - n) ≡ k = omega (arith, high) in
        let at = e.first (k - n) (omega (arith, lt, high)) in
        subst (λ q. IsNone (events_alone q s).core.ended) same (subst (λ (q : State). IsNone q.core.ended) (events_both n (k - n) s) at)

-- ---- the slots of the hart at the start

zeros : (n k : ℕ) → slice_index (replicate n 0) k ≡ 0
zeros zero k = refl
zeros (suc n) zero = refl
zeros (suc n) (suc k) = zeros n k

pub first_slots : AreSlots (replicate 32 0)
first_slots = record { count = refl; below = λ k. let z = zeros 32 k in omega (arith, z) }

-- ---- the walk

module _ (image : Image) (input : List ℕ) (stubs : StubLaw) (entries : EntryLaw) (whole : WholeLaw) (d : IsDivided image) (bytes : AreBytes input) where
  -- a state of the run of the executable
  abbrev Reached : SerialState → Type 0
  Reached t = (n : ℕ) × (t ≡ serial n (start_of image.elf input))

  on : (t : SerialState) (b : ℕ) → Reached t → Reached (serial b t)
  on t b r = (r.0 + b, ap (serial b) r.1 ∙ serial_both r.0 b (start_of image.elf input))

  is_whole : (t : SerialState) → Reached t → IsWhole image.elf t
  is_whole t r = subst (IsWhole image.elf) (sym r.1) (whole image.elf input r.0 d.loadable d.bytes bytes)

  through : (s : State) (h : Hart) (t : SerialState) → Stands image s h t → HasLeftAt image.entries h t → Reached t → Passes image s t
  through s h t i left r = passes image s h t i (is_whole t r) left stubs entries d

  -- the serial state u, with the first ending, is j instructions on
  record Ends (j : ℕ) (t u : SerialState) : Type 0 where
    is : serial j t ≡ u
    some : IsSome (ended u)
    first : (k : ℕ) → k < j → IsNone (ended (serial k t))

  abbrev Free : ℕ → Type 0
  Free f = (j : ℕ) (s : State) (h : Hart) (t u : SerialState) → j ≤ f → Stands image s h t → IsFree h t.machine.pc → Reached t → Ends j t u → (m : ℕ) × EndsAs s m u

  not_before : (j b : ℕ) (t u : SerialState) → Ends j t u → ended (serial b t) ≡ None → b ≤ j
  not_before j b t u e running = by (cases_lt j b)
    where
      by : (j < b) ⊎ (b ≤ j) → b ≤ j
      by (inr le) = le
      by (inl lt) =
          let same : j + (b - j) ≡ b = omega (arith, lt) in
          let stays : serial b t ≡ serial j t =
          ap (λ k. serial k t) (sym same) ∙ sym (serial_both j (b - j) t) ∙ serial_stays (b - j) (serial j t) (subst (λ (q : SerialState). IsSome (ended q)) (sym e.is) e.some) in
          absurd (some_not_none (ended u) e.some (ap ended (sym e.is) ∙ ap ended (sym stays) ∙ running))

  fewer : (j b : ℕ) (t u : SerialState) → b ≤ j → Ends j t u → Ends (j - b) (serial b t) u
  fewer j b t u le e =
      let same : b + (j - b) ≡ j = omega (arith, le) in
      record {
        is = serial_both b (j - b) t ∙ ap (λ k. serial k t) same ∙ e.is;
        some = e.some;
        first = λ k lt. subst (λ (q : SerialState). IsNone (ended q)) (sym (serial_both b k t)) (e.first (b + k) (omega (arith, lt, le)));
      }

  between : (f : ℕ) → Free f → (j : ℕ) (s : State) (t u : SerialState) → j ≤ f → IsBetween image s t → Reached t → Ends j t u → (m : ℕ) × EndsAs s m u
  between f free j s t u le i r e = by i.at
    where
      by : IsFree i.hart t.machine.pc ⊎ HasLeftAt image.entries i.hart t → (m : ℕ) × EndsAs s m u
      by (inl at) = free j s i.hart t u le i.stands at r e
      by (inr left) =
          let p = through s i.hart t i.stands left r in
          let few = not_before j p.instructions t u e p.running in
          let rest = free (j - p.instructions) (events_alone (suc p.events) s) p.hart (serial p.instructions t) u (omega (arith, le)) p.stands p.free (on t p.instructions r) (fewer j p.instructions t u few e) in
          (suc p.events + rest.0, later (suc p.events) rest.0 s u (λ k lt. none_is (events_alone k s).core.ended (p.quiet k (omega (arith, lt))).running) rest.1)

  ends_now : (s : State) (h : Hart) (t u : SerialState) → Stands image s h t → t ≡ u → EndsAs s 0 u
  ends_now s h t u i e = record {
    ending = i.ended ∙ ap ended e;
    memory = i.memory ∙ ap (λ (q : SerialState). q.machine.memory) e;
    output = i.output ∙ ap (λ (q : SerialState). q.output) e;
    rest = i.rest ∙ ap (λ (q : SerialState). q.rest) e;
    first = λ k lt. absurd (omega (arith, lt));
  }

  one_on : (j : ℕ) (t u : SerialState) → Ends (suc j) t u → Ends j (step t) u
  one_on j t u e = record { is = e.is; some = e.some; first = λ k lt. e.first (suc k) (omega (arith, lt)) }

  is_running : (o : Option End) → IsNone o → o ≡ None
  is_running None h = refl
  is_running (Some end) h = absurd (cc)

  forward : (f : ℕ) → Free f
  forward f zero s h t u le i free r e = (0, ends_now s h t u i e.is)
  forward zero (suc j) s h t u le i free r e = absurd (omega (arith, le))
  forward (suc f) (suc j) s h t u le i free r e =
      let running = is_running (ended t) (e.first 0 (omega arith)) in
      let rest = between f (forward f) j (after_event s 0) (step t) u (omega (arith, le)) (own_step image s h t i free running) (on t 1 r) (one_on j t u e) in
      (1 + rest.0, later 1 rest.0 s u (λ k lt. none_first k lt (i.ended ∙ running)) rest.1)
    where
      none_first : (k : ℕ) → k < 1 → s.core.ended ≡ None → IsNone (events_alone k s).core.ended
      none_first zero lt e = none_is s.core.ended e
      none_first (suc k) lt e = absurd (omega (arith, lt))

  -- ---- after any number of events

  abbrev Within : ℕ → Type 0
  Within f = (m : ℕ) (s : State) (h : Hart) (t : SerialState) → m ≤ f → Stands image s h t → IsFree h t.machine.pc → Reached t → (n : ℕ) × IsInStep (events_alone m s) (serial n t)

  in_step : (s : State) (h : Hart) (t : SerialState) → Stands image s h t → IsInStep s t
  in_step s h t i = record { output = i.output; rest = i.rest; ending = i.ended; memory = λ some. i.memory }

  on_by : (b n : ℕ) (s : State) (t : SerialState) → IsInStep s (serial n (serial b t)) → IsInStep s (serial (b + n) t)
  on_by b n s t = subst (IsInStep s) (serial_both b n t)

  within_between : (f : ℕ) → Within f → (m : ℕ) (s : State) (t : SerialState) → m ≤ f → IsBetween image s t → Reached t → (n : ℕ) × IsInStep (events_alone m s) (serial n t)
  within_between f free m s t le i r = by i.at
    where
      passed : (p : Passes image s t) → HasLeftAt image.entries i.hart t → (m < suc p.events) ⊎ (suc p.events ≤ m) → (n : ℕ) × IsInStep (events_alone m s) (serial n t)
      passed p left (inl low) =
          let q = p.quiet m (omega (arith, low)) in (
            0,
            record {
              output = q.output ∙ i.stands.output;
              rest = q.rest ∙ i.stands.rest;
              ending = q.running ∙ sym left.running;
              memory = λ some. absurd (some_not_none (ended t) some left.running);
            },
          )
      passed p left (inr high) =
          let same : suc p.events + (m - suc p.events) ≡ m = omega (arith, high) in
          let later = free (m - suc p.events) (events_alone (suc p.events) s) p.hart (serial p.instructions t) (omega (arith, le)) p.stands p.free (on t p.instructions r) in
          let at = subst (λ (q : State). IsInStep q (serial later.0 (serial p.instructions t))) (events_both (suc p.events) (m - suc p.events) s ∙ ap (λ k. events_alone k s) same) later.1 in
          (p.instructions + later.0, on_by p.instructions later.0 (events_alone m s) t at)

      by : IsFree i.hart t.machine.pc ⊎ HasLeftAt image.entries i.hart t → (n : ℕ) × IsInStep (events_alone m s) (serial n t)
      by (inl at) = free m s i.hart t le i.stands at r
      by (inr left) = let p = through s i.hart t i.stands left r in passed p left (cases_lt m (suc p.events))

  within_step : (f : ℕ) → Within f → (m : ℕ) (s : State) (h : Hart) (t : SerialState) → m ≤ f → Stands image s h t → IsFree h t.machine.pc → Reached t → (n : ℕ) × IsInStep (events_alone (suc m) s) (serial n t)
  within_step f ih m s h t le i free r = by (ended t) refl
    where
      rest : ended t ≡ None → (n : ℕ) × IsInStep (events_alone m (after_event s 0)) (serial n (step t))
      rest running = within_between f ih m (after_event s 0) (step t) le (own_step image s h t i free running) (on t 1 r)

      by : (o : Option End) → ended t ≡ o → (n : ℕ) × IsInStep (events_alone (suc m) s) (serial n t)
      by None e = let q = rest e in (suc q.0, q.1)
      by (Some end) e =
          let some : IsSome s.core.ended = subst IsSome (sym (i.ended ∙ e)) refl in
          (0, subst (λ (q : State). IsInStep q t) (sym (events_stay (suc m) s some)) (in_step s h t i))

  within : (f : ℕ) → Within f
  within f zero s h t le i free r = (0, in_step s h t i)
  within zero (suc m) s h t le i free r = absurd (omega (arith, le))
  within (suc f) (suc m) s h t le i free r = within_step f (within f) m s h t (omega (arith, le)) i free r

  -- ---- the start

  start_by : (found : Option Found) → entry_at image.entries image.elf.entry ≡ found → IsBetween image (start_state image 1 input) (start_of image.elf input)
  unfolding start_core
  start_by None e = record {
    hart = first_hart image.elf.entry (start_machine image.elf).regs;
    stands = record {
      only = ap (λ (o : Option Found). entered (first_hart image.elf.entry (start_machine image.elf).regs) o ∷ []) e;
      image = refl;
      slots = first_slots;
      regs = refl;
      memory = refl;
      brk = refl;
      ended = refl;
      output = refl;
      rest = refl;
    };
    at = inl (record { mode = inl refl; pc = refl });
  }
  start_by (Some found) e = record {
    hart = entered (first_hart image.elf.entry (start_machine image.elf).regs) (Some found);
    stands = record {
      only = ap (λ (o : Option Found). entered (first_hart image.elf.entry (start_machine image.elf).regs) o ∷ []) e;
      image = refl;
      slots = first_slots;
      regs = refl;
      memory = refl;
      brk = refl;
      ended = refl;
      output = refl;
      rest = refl;
    };
    at = inr (record { found = found; entry = e; mode = refl; pc = refl; kept = refl; running = refl });
  }

  starts : IsBetween image (start_state image 1 input) (start_of image.elf input)
  starts = start_by (entry_at image.entries image.elf.entry) refl

  pub ends : (n : ℕ) (t : SerialState) → IsEnding (start_of image.elf input) n t → (m : ℕ) × EndsAs (start_state image 1 input) m t
  ends n t e =
      between n (forward n) n (start_state image 1 input) (start_of image.elf input) t (omega arith) starts (0, refl)
      (record { is = e.reached; some = e.at_end; first = e.first })

  pub steps : (m : ℕ) → (n : ℕ) × IsInStep (events_alone m (start_state image 1 input)) (serial n (start_of image.elf input))
  steps m = within_between m (within m) m (start_state image 1 input) (start_of image.elf input) (omega arith) starts (0, refl)

pub ending_law : StubLaw → EntryLaw → WholeLaw → EndingLaw
ending_law stubs entries whole image input n t d bytes e = ends image input stubs entries whole d bytes n t e

pub step_law : StubLaw → EntryLaw → WholeLaw → StepLaw
step_law stubs entries whole image input m d bytes = steps image input stubs entries whole d bytes m
