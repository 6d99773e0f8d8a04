-- What the only hart counts up to the event by which it leaves added code, and with that.
use Rattle.std.proofs.Common.{◌≡◌, ◌≢◌, ◌+◌, ◌≤◌, ℕ, zero, suc, [], ◌∷◌, refl, sym, ap, ◌∙◌, subst, Option, Some, None, List, arith, slice_set, length, ◌⊎◌, inl, inr, true}
use Rattle.rv64_decode.specs.Ask.{Ask}
use Rattle.rv64_decode.specs.Row.{next_pc}
use Rattle.rv64_decode.specs.Hart.{Hart as OneHart}
use Rattle.rv64_decode.specs.declared.xinstr.XInstr.{XInstr}
use Rattle.rv64_decode.specs.declared.xinstr.XInstr.TheVariants.{Base, Put, Get, Par, Join, Back, Id, Harts}
use Rattle.serial_run.specs.Serial.{after_instr}
use Rattle.divided_loops.specs.Alone.{act_alone, run_alone, goes_on}
use Rattle.divided_loops.specs.Forks.{IsFirstBack, with_fork, turns_divided}
use Rattle.hart_core.specs.declared.counts.LoopCount.{LoopCount}
use Rattle.hart_core.specs.Machine.{Hart, State, Stub, alone_in, counted, capped}
use Rattle.hart_core.specs.Entering.{changed_count}
use Rattle.hart_core.specs.Rows.{back_in, alone_after, forks, gathered, resting, divided_turns, one_division}
use Rattle.hart_core.specs.Events.{added_event, after_event}
use Rattle.hart_core.specs.Alone.{events_alone}
use Rattle.added_runs.specs.Laws.{HasLeft, IsQuiet, with_divisions, CountLaw}
use Rattle.added_runs.proofs.Following.{alone_at, gone, Follows, IsOther, instr_of, executed, one_more, at_back}
use Rattle.added_runs.proofs.Leaving.{quiet, next, runs, GoesOn, next_run, no_run, next_goes, first_goes, is_other, none_goes, begins}

-- the events that the first hart has counted
abbrev events_of : List Hart → ℕ
events_of [] = 0
events_of (h ∷ others) = h.events

-- the counts of entries after an instruction
abbrev loops_after : Option XInstr → ℕ → OneHart → List LoopCount → List LoopCount
loops_after (Some Par) entry r loops = changed_count loops entry (one_division (divided_turns r.slots))
loops_after _ entry r loops = loops

-- the only hart has become this one
placed : (t : State) (h to : Hart) → t.core.harts ≡ h ∷ [] → events_of (slice_set t.core.harts 0 to) ≡ to.events
placed t h to only = ap (λ hs. events_of (slice_set hs 0 to)) only

-- the hart counts the event of each instruction
event_counts : (t : State) (h : Hart) (word : ℕ) (i : XInstr) → t.core.harts ≡ h ∷ []
    → events_of (added_event t 0 h word i).core.harts ≡ capped (h.events + 1)
event_counts t h word (Base i) only = placed t h (back_in h Stub (after_instr (alone_in t h) i).machine) only
event_counts t h word (Put slot rs1) only = placed t h (alone_after h (Put slot rs1) 0 (length t.core.harts) t.core.memory) only
event_counts t h word (Get rd slot) only = placed t h (alone_after h (Get rd slot) 0 (length t.core.harts) t.core.memory) only
event_counts t h word Par only = ap (λ hs. events_of (forks (record (counted h) { pc = next_pc h.pc }) hs)) only
event_counts t h word Join only =
    ap (λ hs. events_of (gathered (slice_set hs 0 (record (counted h) { pc = next_pc h.pc; mode = resting 0 })))) only
event_counts t h word Back only = placed t h (gone t h) only
event_counts t h word (Id rd) only = placed t h (alone_after h (Id rd) 0 (length t.core.harts) t.core.memory) only
event_counts t h word (Harts rd) only = placed t h (alone_after h (Harts rd) 0 (length t.core.harts) t.core.memory) only

-- the counts of entries after the event
event_loops : (t : State) (h : Hart) (log : List Ask) (word : ℕ) (i : XInstr)
    → (added_event t 0 h word i).core.loops ≡ loops_after (Some i) h.kept (alone_at h t.core.memory log) t.core.loops
event_loops t h log word (Base i) = refl
event_loops t h log word (Put slot rs1) = refl
event_loops t h log word (Get rd slot) = refl
event_loops t h log word Par = refl
event_loops t h log word Join = refl
event_loops t h log word Back = refl
event_loops t h log word (Id rd) = refl
event_loops t h log word (Harts rd) = refl

-- an event of the machine at an instruction of the hart
counts_one : (s : State) (entry : ℕ) (t : State) (r : OneHart) (i : XInstr) → Follows s entry t r → instr_of s r ≡ Some i
    → events_of (after_event t 0).core.harts ≡ capped (events_of t.core.harts + 1)
counts_one s entry t r i f is =
    let w = executed s entry t r i f is in
    let before = ap events_of f.only in
    ap (λ (x : State). events_of x.core.harts) w.1 ∙ event_counts t f.hart w.0 i f.only ∙ ap (λ n. capped (n + 1)) (sym before)

loops_one : (s : State) (entry : ℕ) (t : State) (r : OneHart) (i : XInstr) → Follows s entry t r → instr_of s r ≡ Some i
    → (after_event t 0).core.loops ≡ loops_after (instr_of s r) entry r t.core.loops
loops_one s entry t r i f is =
    let w = executed s entry t r i f is in
    ap (λ (x : State). x.core.loops) w.1
    ∙ event_loops t f.hart f.log w.0 i
    ∙ ap (λ n. loops_after (Some i) n (alone_at f.hart t.core.memory f.log) t.core.loops) f.kept
    ∙ ap (λ x. loops_after (Some i) entry x t.core.loops) (sym f.is)
    ∙ ap (λ o. loops_after o entry r t.core.loops) (sym is)

-- a count of events, by one and then by the others
capped_more : (a n : ℕ) → capped (capped (a + 1) + suc n) ≡ capped (a + suc (suc n))
capped_more a n = omega arith

-- the turns of the first instruction, and then those of the others
divided_first : (o : Option XInstr) (entry : ℕ) (r : OneHart) (loops : List LoopCount) (later : List ℕ)
    → with_divisions entry (loops_after o entry r loops) later ≡ with_divisions entry loops (with_fork o r later)
divided_first None entry r loops later = refl
divided_first (Some (Base i)) entry r loops later = refl
divided_first (Some (Put slot rs1)) entry r loops later = refl
divided_first (Some (Get rd slot)) entry r loops later = refl
divided_first (Some Par) entry r loops later = refl
divided_first (Some Join) entry r loops later = refl
divided_first (Some Back) entry r loops later = refl
divided_first (Some (Id rd)) entry r loops later = refl
divided_first (Some (Harts rd)) entry r loops later = refl

no_turns : (code : List ℕ) (r : OneHart) → turns_divided code 0 r ≡ []
unfolding turns_divided
no_turns code r = refl

next_turns : (s : State) (n : ℕ) (r : OneHart)
    → turns_divided s.core.image.code (suc n) r ≡ with_fork (instr_of s r) r (turns_divided s.core.image.code n (next s r))
unfolding turns_divided
next_turns s n r = refl

-- by n instructions and the one at which the hart leaves
record Counts (s : State) (entry : ℕ) (t : State) (n : ℕ) (r : OneHart) : Type 0 where
  left : HasLeft s (events_alone (suc n) t) entry (runs s n r)
  events : events_of (events_alone (suc n) t).core.harts ≡ capped (events_of t.core.harts + suc n)
  loops : (events_alone (suc n) t).core.loops ≡ with_divisions entry t.core.loops (turns_divided s.core.image.code n r)
  before : (k : ℕ) → k ≤ n → IsQuiet s (events_alone k t)

-- the event by which it leaves
counts_last : (s : State) (entry : ℕ) (t : State) (r : OneHart) → Follows s entry t r → instr_of s r ≡ Some Back
    → Counts s entry t 0 r
counts_last s entry t r f is = record {
  left = subst (HasLeft s (after_event t 0) entry) (sym (no_run s r)) (at_back s entry t r f is);
  events = counts_one s entry t r Back f is;
  loops =
      loops_one s entry t r Back f is
      ∙ ap (λ o. loops_after o entry r t.core.loops) is
      ∙ ap (with_divisions entry t.core.loops) (sym (no_turns s.core.image.code r));
  before = now;
}
  where
    now : (k : ℕ) → k ≤ 0 → IsQuiet s (events_alone k t)
    now zero b = quiet s t f.shared
    now (suc k) b = absurd (omega (arith, b))

-- one event more before
counts_more : (s : State) (entry : ℕ) (t : State) (n : ℕ) (r : OneHart) (i : XInstr) → Follows s entry t r → instr_of s r ≡ Some i
    → Counts s entry (after_event t 0) n (next s r) → Counts s entry t (suc n) r
counts_more s entry t n r i f is c = record {
  left = subst (HasLeft s (events_alone (suc n) (after_event t 0)) entry) (sym (next_run s n r)) c.left;
  events = c.events ∙ ap (λ x. capped (x + suc n)) (counts_one s entry t r i f is) ∙ capped_more (events_of t.core.harts) n;
  loops =
      c.loops
      ∙ ap (λ x. with_divisions entry x (turns_divided s.core.image.code n (next s r))) (loops_one s entry t r i f is)
      ∙ divided_first (instr_of s r) entry r t.core.loops (turns_divided s.core.image.code n (next s r))
      ∙ ap (with_divisions entry t.core.loops) (sym (next_turns s n r));
  before = now;
}
  where
    now : (k : ℕ) → k ≤ suc n → IsQuiet s (events_alone k t)
    now zero b = quiet s t f.shared
    now (suc k) b = c.before k (omega (arith, b))

-- the first word at which it leaves is that of the rest too
first_now : (s : State) (n : ℕ) (r : OneHart) → IsFirstBack s.core.image.code (suc n) r → instr_of s r ≢ Some Back
unfolding run_alone
first_now s n r b = b.first 0 (omega arith)

first_next : (s : State) (n : ℕ) (r : OneHart) → IsFirstBack s.core.image.code (suc n) r
    → IsFirstBack s.core.image.code n (next s r)
unfolding run_alone
first_next s n r b = record { leaves = b.leaves; first = λ k l. b.first (suc k) (omega arith) }

-- wherever the machine and the hart stand
abbrev CountsBy : ℕ → State → ℕ → Type 0
CountsBy n s entry = (t : State) (r : OneHart) → Follows s entry t r → IsFirstBack s.core.image.code n r → GoesOn s r
    → Counts s entry t n r

-- one instruction, and then n more
module _ (n : ℕ) (s : State) (entry : ℕ) (rest : CountsBy n s entry) (t : State) (r : OneHart) (f : Follows s entry t r)
    (b : IsFirstBack s.core.image.code (suc n) r) (goes : GoesOn s r) where
  from_instr : (i : XInstr) → instr_of s r ≡ Some i → (i ≡ Back) ⊎ IsOther i → Counts s entry t (suc n) r
  from_instr i is (inl back) = absurd (first_now s n r b (is ∙ ap Some back))
  from_instr i is (inr other) =
      let more = one_more s entry t r i f other is (subst (λ o. goes_on o r ≡ true) is (first_goes s r goes)) in
      let follows = subst (λ o. Follows s entry (after_event t 0) (act_alone o r)) (sym is) more in
      counts_more s entry t n r i f is (rest (after_event t 0) (next s r) follows (first_next s n r b) (next_goes s r goes))

  from_word : (o : Option XInstr) → instr_of s r ≡ o → Counts s entry t (suc n) r
  from_word None is = absurd (none_goes (instr_of s r) r is (first_goes s r goes))
  from_word (Some i) is = from_instr i is (is_other i)

counts : (n : ℕ) (s : State) (entry : ℕ) → CountsBy n s entry
counts zero s entry t r f b goes = counts_last s entry t r f (subst (λ x. instr_of s x ≡ Some Back) (no_run s r) b.leaves)
counts (suc n) s entry t r f b goes = from_word n s entry (counts n s entry) t r f b goes (instr_of s r) refl

pub count_law : CountLaw
count_law s r n i b goes =
    let c = counts n s i.hart.kept s r (begins s r i) b goes in
    let after = ap events_of c.left.only in
    let before = ap events_of i.only in
    (c.left, sym after ∙ c.events ∙ ap (λ x. capped (x + suc n)) before, c.loops, c.before)
