-- A run of an image beside that of its executable.
use Rattle.std.proofs.Common.{◌≡◌, ℕ, zero, suc, ◌+◌, ◌-◌, ◌<◌, ◌≤◌, ◌^◌, true, List, [], ◌∷◌, map, Option, Some, None, refl, ap, sym, subst, ◌∙◌, arith}
use Rattle.std.specs.Prelude.{IsSome, IsNone}
use Rattle.serial_run.specs.Serial.{State as SerialState, start_of, ended, serial, executed_of, IsEnding}
use Rattle.serial_run.specs.declared.machine.End.{End}
use Rattle.image_writer.specs.declared.image.Entry.{Entry}
use Rattle.image_writer.specs.declared.image.Image.{Image}
use Rattle.hart_core.specs.declared.counts.LoopCount.{LoopCount}
use Rattle.hart_core.specs.Alone.{events_alone}
use Rattle.hart_core.specs.Counting.{events_of, steps_of}
use Rattle.hart_core.specs.Events.{after_event}
use Rattle.hart_core.specs.Laws.{EndedLaw}
use Rattle.hart_core.specs.Machine.{State, capped}
use Rattle.hart_core.specs.Start.{start_state}
use Rattle.one_hart.specs.Laws.{IsDivided, AreBytes, StepLaw}
use Rattle.walks.specs.Walk.{Point, IsPoint}
use Rattle.walks.specs.Laws.{PlainLaw, EndLaw, shown, plain_point}
use Rattle.rewrite_cli.specs.Counts.{Tally, OfRun}
use Rattle.rewrite_cli.specs.Effect.{IsAlong, EndsAt, RunsAs, effect_of, ran}
use Rattle.rewrite_cli.specs.Runs.{View, executable_view, image_view, view_by, status_of, dump_of}
use Rattle.rewrite_cli.specs.Status.{is_ending}
use Rattle.rewrite_cli.specs.Texts.{report_of}
use Rattle.rewrite_cli.specs.declared.status.Status.TheVariants.{Spent}

-- the first ending of a serial run is the state of every longer one
abbrev pub FirstLaw : Type 0
FirstLaw = (fuel n : ℕ) (s t : SerialState) → IsEnding s n t → n ≤ fuel → (serial fuel s ≡ t) × (executed_of fuel s ≡ n)

-- the laws of what stands below
pub record Laws : Type 0 where
  pub first : FirstLaw
  pub stops : EndedLaw
  pub step : StepLaw
  pub plain : PlainLaw
  pub end : EndLaw

-- ---- after the ending nothing changes

stay_all : EndedLaw → (k : ℕ) (s : State) → IsSome s.core.ended → events_alone k s ≡ s
stay_all law zero s some = refl
stay_all law (suc k) s some = ap (events_alone k) (law s (0 ∷ []) some) ∙ stay_all law k s some

events_both : (n m : ℕ) (s : State) → events_alone m (events_alone n s) ≡ events_alone (n + m) s
events_both zero m s = let z : m ≡ 0 + m = omega arith in ap (λ k. events_alone k s) z
events_both (suc n) m s =
    let z : suc (n + m) ≡ suc n + m = omega arith in
    events_both n m (after_event s 0) ∙ ap (λ k. events_alone k s) z

stays : EndedLaw → (m fuel : ℕ) (s : State) → m ≤ fuel → IsSome (events_alone m s).core.ended
    → events_alone fuel s ≡ events_alone m s
stays law m fuel s h some =
    let z : fuel ≡ m + (fuel - m) = omega arith in
    ap (λ k. events_alone k s) z ∙ sym (events_both m (fuel - m) s) ∙ stay_all law (fuel - m) (events_alone m s) some

none_spent : (o : Option End) → IsNone o → status_of o ≡ Spent
none_spent None none = refl
none_spent (Some end) none = absurd (cc)

ending_some : (o : Option End) → is_ending (status_of o) ≡ true → IsSome o
ending_some None h = absurd (cc)
ending_some (Some end) h = refl

cap : (n : ℕ) → n < 2 ^ 64 → capped n ≡ n
cap n h = omega arith

tally_by : (loops others : List LoopCount) (harts numbers : List ℕ) (steps n : ℕ) → loops ≡ others → harts ≡ numbers
    → steps ≡ n → OfRun loops harts steps ≡ OfRun others numbers n
tally_by loops others harts numbers steps n e f g = λ k. OfRun (e k) (f k) (g k)

-- what is to be shown of a run by what is seen of it
abbrev Facts : ℕ → Option (List ℕ) → List ℕ → Image → (ℕ → View) → Type 0
Facts fuel dump xs image view =
    ((n : ℕ) (t : SerialState) → IsEnding (start_of image.elf xs) n t
    → (k : ℕ) × (w : Point) × IsPoint image xs k w × (w.index ≡ n)
    × EndsAt fuel dump view t w (effect_of fuel dump view))
    × ((n : ℕ) × IsAlong dump (serial n (start_of image.elf xs)) (effect_of fuel dump view))

module _ (laws : Laws) (fuel : ℕ) (dump : Option (List ℕ)) (image : Image) (divided : IsDivided image) (xs : List ℕ)
    (bytes : AreBytes xs) where
  -- ---- an image on one hart

  abbrev begun : State
  begun = start_state image 1 xs

  dump_at : State → List (List ℕ × List ℕ)
  dump_at s = dump_of dump (status_of s.core.ended) s.core.memory

  image_ends : (n : ℕ) (t : SerialState) → IsEnding (start_of image.elf xs) n t
      → (k : ℕ) × (w : Point) × IsPoint image xs k w × (w.index ≡ n)
      × EndsAt fuel dump (image_view image xs) t w (effect_of fuel dump (image_view image xs))
  unfolding dump_at
  image_ends n t e =
      let r = laws.end image xs n t divided bytes e in
      let k = r.0 in
      let w = r.1 in
      let walked = r.2 in
      let some : IsSome (events_alone w.events begun).core.ended = subst (λ (o : Option End). IsSome o) (sym walked.ends.ending) e.at_end in
      let same : w.events ≤ fuel → events_alone fuel begun ≡ events_alone w.events begun =
      λ h. stays laws.stops w.events fuel begun h some in (
        k,
        w,
        walked.point,
        walked.index,
        record {
          steps = record { ended = some; first = walked.ends.first };
          within = λ h.
              record {
                status = ap (λ (s : State). status_of s.core.ended) (same h) ∙ ap status_of walked.ends.ending;
                output = ap (λ (s : State). s.output) (same h) ∙ walked.ends.output;
                rest = ap (λ (s : State). s.rest) (same h) ∙ walked.ends.rest;
                saved = ap dump_at (same h)
                    ∙ ap (λ (o : Option End). dump_of dump (status_of o) (events_alone w.events begun).core.memory)
                    walked.ends.ending
                    ∙ ap (dump_of dump (status_of (ended t))) walked.ends.memory;
              };
          counts = λ h small.
              ap (λ (tally : Tally). report_of tally (status_of (events_alone fuel begun).core.ended))
              (ap (λ (s : State). OfRun s.core.loops (map events_of s.core.harts) (steps_of s.core.harts)) (same h)
              ∙ tally_by (events_alone w.events begun).core.loops (map shown w.loops)
              (map events_of (events_alone w.events begun).core.harts) (w.events ∷ [])
              (steps_of (events_alone w.events begun).core.harts) w.events walked.loops
              (walked.harts ∙ ap (λ (m : ℕ). m ∷ []) (cap w.events (omega arith)))
              (walked.steps ∙ cap w.events (omega arith)));
          beyond = λ h. none_spent (events_alone fuel begun).core.ended (walked.ends.first fuel h);
        },
      )

  image_along : (n : ℕ) × IsAlong dump (serial n (start_of image.elf xs)) (effect_of fuel dump (image_view image xs))
  image_along =
      let r = laws.step image xs fuel divided bytes in
      let t = serial r.0 (start_of image.elf xs) in (
        r.0,
        record {
          output = r.1.output;
          rest = r.1.rest;
          ending = λ h.
              let some = subst (λ (o : Option End). IsSome o) r.1.ending (ending_some (events_alone fuel begun).core.ended h) in (
                some,
                record {
                  status = ap status_of r.1.ending;
                  output = r.1.output;
                  rest = r.1.rest;
                  saved = ap (λ (o : Option End). dump_of dump (status_of o) (events_alone fuel begun).core.memory) r.1.ending
                      ∙ ap (dump_of dump (status_of (ended t))) (r.1.memory some);
                },
              );
        },
      )

  -- ---- an image without entries

  abbrev serially : SerialState
  serially = start_of image.elf xs

  serial_dump : SerialState → List (List ℕ × List ℕ)
  serial_dump t = dump_of dump (status_of (ended t)) t.machine.memory

  plain_ends : image.entries ≡ [] → (n : ℕ) (t : SerialState) → IsEnding (start_of image.elf xs) n t
      → (k : ℕ) × (w : Point) × IsPoint image xs k w × (w.index ≡ n)
      × EndsAt fuel dump (executable_view image.elf xs) t w (effect_of fuel dump (executable_view image.elf xs))
  unfolding serial_dump
  plain_ends none n t e =
      let r = laws.end image xs n t divided bytes e in
      let k = r.0 in
      let w = r.1 in
      let walked = r.2 in
      let is : w ≡ plain_point k = laws.plain image xs k w none walked.point in
      let index : w.index ≡ k = ap (λ (p : Point). p.index) is in
      let events : w.events ≡ k = ap (λ (p : Point). p.events) is in
      let loops : w.loops ≡ [] = ap (λ (p : Point). p.loops) is in
      let at : w.events ≡ n = events ∙ sym index ∙ walked.index in
      let same : n ≤ fuel → serial fuel serially ≡ t = λ h. (laws.first fuel n serially t e h).0 in (
        k,
        w,
        walked.point,
        walked.index,
        record {
          steps = record {
            ended = subst (λ (u : SerialState). IsSome (ended u)) (sym (ap (λ (m : ℕ). serial m serially) at ∙ e.reached)) e.at_end;
            first = λ m l. e.first m (omega arith);
          };
          within = λ h.
              let h2 : n ≤ fuel = omega arith in
              record {
                status = ap (λ (u : SerialState). status_of (ended u)) (same h2);
                output = ap (λ (u : SerialState). u.output) (same h2);
                rest = ap (λ (u : SerialState). u.rest) (same h2);
                saved = ap serial_dump (same h2);
              };
          counts = λ h small.
              let h2 : n ≤ fuel = omega arith in
              let executed : executed_of fuel serially ≡ w.events = (laws.first fuel n serially t e h2).1 ∙ sym at in
              ap (λ (tally : Tally). report_of tally (status_of (ended (serial fuel serially))))
              (tally_by [] (map shown w.loops) (executed_of fuel serially ∷ []) (w.events ∷ [])
              (executed_of fuel serially) w.events (ap (map shown) (sym loops)) (ap (λ (m : ℕ). m ∷ []) executed)
              executed);
          beyond = λ h. none_spent (ended (serial fuel serially)) (e.first fuel (omega arith));
        },
      )

  plain_along : (n : ℕ) × IsAlong dump (serial n (start_of image.elf xs)) (effect_of fuel dump (executable_view image.elf xs))
  plain_along = (
    fuel,
    record {
      output = refl;
      rest = refl;
      ending = λ h. (
        ending_some (ended (serial fuel serially)) h,
        record { status = refl; output = refl; rest = refl; saved = refl },
      );
    },
  )

  by_entries : (es : List Entry) → image.entries ≡ es → Facts fuel dump xs image (view_by es image xs)
  by_entries [] e = (plain_ends e, plain_along)
  by_entries (entry ∷ es) e = (image_ends, image_along)

  pub runs_as : RunsAs fuel dump xs image (ran fuel dump image xs)
  runs_as = let facts = by_entries image.entries refl in record { ends = facts.0; along = facts.1 }
