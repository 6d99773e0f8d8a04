-- One event of the only hart, beside the one instruction of a hart that runs alone.
use Rattle.std.proofs.Common.{◌≡◌, ℕ, ◌∷◌, [], refl, sym, ap, ◌∙◌, subst, subst₂, Option, Some, None, Bool, true, false, List, if◌then◌else◌, ◌==◌, ◌-◌, ◌/◌, ◌%◌, ◌&&◌, nat_le, slice_get, slice_set, length}
use Rattle.rv64_decode.specs.Area.{Area}
use Rattle.rv64_decode.specs.Ask.{Ask, after}
use Rattle.rv64_decode.specs.Row.{asks, outcome, next_pc}
use Rattle.rv64_decode.specs.Hart.{Hart as OneHart, fetched, read_by, logged, moved}
use Rattle.rv64_decode.specs.XTable.{decoded_x}
use Rattle.rv64_decode.specs.declared.outcome.Next.{Next}
use Rattle.rv64_decode.specs.declared.outcome.Next.TheVariants.{At, Call, Fault as Faulting}
use Rattle.rv64_decode.specs.declared.xinstr.XInstr.{XInstr}
use Rattle.rv64_decode.specs.declared.xinstr.XInstr.TheVariants.{Base, Put, Get, Par, Join, Back, Id, Harts}
use Rattle.rv64_decode.specs.declared.xinstr.XNext.TheVariants.{Own}
use Rattle.serial_run.specs.Serial.{with_left, after_next}
use Rattle.divided_loops.specs.Alone.{behind_it, act_alone, goes_on_by, goes_on}
use Rattle.hart_core.specs.Machine.{Hart, Core, State, Stub, Passing, alone_in, counted}
use Rattle.hart_core.specs.Entering.{header_of}
use Rattle.hart_core.specs.Rows.{after_base, alone_after, with_hart, forked, joined, forks, gathered, resting}
use Rattle.hart_core.specs.Events.{added_word, with_core, added_event, decoded_event, word_event, event_by, event_of, unless_ended, after_event}
use Rattle.added_runs.specs.Laws.{HasLeft}

-- the hart that runs alone where the machine's hart stands, with the accesses that it has made
abbrev pub alone_at : Hart → List Area → List Ask → OneHart
alone_at h memory log = record { pc = h.pc; regs = h.regs; slots = h.slots; memory = memory; log = log; number = 0; harts = 1 }

-- what the events of a hart in added code leave alone, and the run has not ended
pub record LeavesAlone (s t : State) : Type 0 where
  pub brk : t.core.brk ≡ s.core.brk
  pub running : t.core.ended ≡ None
  pub image : t.core.image ≡ s.core.image
  pub output : t.output ≡ s.output
  pub rest : t.rest ≡ s.rest

-- the machine t has come from s by events of its one hart, which is in added code and stands where r does
pub record Follows (s : State) (entry : ℕ) (t : State) (r : OneHart) : Type 0 where
  pub hart : Hart
  pub log : List Ask
  pub only : t.core.harts ≡ hart ∷ []
  pub stub : hart.mode ≡ Stub
  pub kept : hart.kept ≡ entry
  pub is : r ≡ alone_at hart t.core.memory log
  pub shared : LeavesAlone s t

-- an instruction at which the hart does not leave added code
abbrev pub IsOther : XInstr → Type 0
IsOther Back = ⊥
IsOther _ = Unit {0}

-- where an instruction is fetched, there is its word
word_of : (b : Bool) (o : Option ℕ) (i : XInstr) → (if b then read_by o else None) ≡ Some i
    → (word : ℕ) × ((if b then o else None) ≡ Some word) × (decoded_x word ≡ Some i)
word_of true (Some word) i e = (word, refl, e)
word_of true None i e = absurd (cc e)
word_of false o i e = absurd (cc e)

word_at : (code : List ℕ) (pc : ℕ) (i : XInstr) → fetched code pc ≡ Some i
    → (word : ℕ) × (added_word code pc ≡ Some word) × (decoded_x word ≡ Some i)
unfolding fetched added_word
word_at code pc i e = word_of (nat_le 0x6000_0000 pc && pc % 4 == 0) (slice_get code ((pc - 0x6000_0000) / 4)) i e

-- what an event does where the only hart is in added code
event_is : (s : State) (h : Hart) → s.core.harts ≡ h ∷ [] → h.mode ≡ Stub → s.core.ended ≡ None
    → after_event s 0 ≡ word_event s 0 h (added_word s.core.image.code h.pc)
unfolding after_event
event_is s h only stub running =
    ap (λ e. unless_ended e s (event_of s 0 (slice_get s.core.harts 0))) running
    ∙ ap (λ hs. event_of s 0 (slice_get hs 0)) only
    ∙ ap (λ m. event_by m s 0 h) stub

-- it executes the instruction that stands there
pub executes : (s : State) (h : Hart) (word : ℕ) (i : XInstr) → s.core.harts ≡ h ∷ [] → h.mode ≡ Stub → s.core.ended ≡ None
    → added_word s.core.image.code h.pc ≡ Some word → decoded_x word ≡ Some i → after_event s 0 ≡ added_event s 0 h word i
executes s h word i only stub running there means =
    event_is s h only stub running
    ∙ ap (word_event s 0 h) there
    ∙ ap (decoded_event s 0 h word) means

-- the hart once it has gone back to the header, which it passes
abbrev pub gone : State → Hart → Hart
gone t h = record (counted h) { pc = header_of (slice_get t.core.image.entries h.kept); mode = Passing }

-- an instruction of the only hart h, in a machine t that has come from s
module _ (s : State) (entry : ℕ) (t : State) (h : Hart) (log : List Ask) (only : t.core.harts ≡ h ∷ []) (stub : h.mode ≡ Stub)
    (kept : h.kept ≡ entry) (shared : LeavesAlone s t) where
  still : (c : Core) → c.brk ≡ t.core.brk → c.ended ≡ t.core.ended → c.image ≡ t.core.image → LeavesAlone s (with_core t c)
  still c brk ended image = record {
    brk = brk ∙ shared.brk;
    running = ended ∙ shared.running;
    image = image ∙ shared.image;
    output = shared.output;
    rest = shared.rest;
  }

  -- an ordinary instruction that leads on
  base_next : (next : Next) (regs : List ℕ) (ask : Ask) → goes_on_by (Own next) ≡ true
      → let m = after_next (with_left (alone_in t h) regs (after t.core.memory ask)) next in
      Follows s entry (record { core = after_base t.core 0 h m.machine; output = m.output; rest = m.rest })
      (moved (alone_at h t.core.memory log) (Own next) regs h.slots ask)
  base_next (At pc) regs ask e = record {
    hart = record (counted h) { pc = pc; regs = regs; mode = Stub };
    log = logged log ask;
    only = ap (λ hs. slice_set hs 0 (record (counted h) { pc = pc; regs = regs; mode = Stub })) only;
    stub = refl;
    kept = kept;
    is = refl;
    shared = still _ refl refl refl;
  }
  base_next Call regs ask e = absurd (cc e)
  base_next (Faulting kind addr) regs ask e = absurd (cc e)

  -- the hart alone changes
  of_one : (to : Hart) (r : OneHart) → to.mode ≡ Stub → to.kept ≡ entry → r ≡ alone_at to t.core.memory log
      → Follows s entry (with_core t (with_hart t.core 0 to)) r
  of_one to r m k e = record {
    hart = to;
    log = log;
    only = ap (λ hs. slice_set hs 0 to) only;
    stub = m;
    kept = k;
    is = e;
    shared = still _ refl refl refl;
  }

  -- no other hart is woken, and the turns are counted
  at_fork : Follows s entry (with_core t (forked t.core h)) (behind_it (alone_at h t.core.memory log))
  at_fork = record {
    hart = record (counted h) { pc = next_pc h.pc };
    log = log;
    only = ap (λ hs. forks (record (counted h) { pc = next_pc h.pc }) hs) only;
    stub = stub;
    kept = kept;
    is = refl;
    shared = still _ refl refl refl;
  }

  -- no other hart is waited for
  at_join : Follows s entry (with_core t (joined t.core 0 h)) (behind_it (alone_at h t.core.memory log))
  at_join = record {
    hart = record (counted h) { pc = next_pc h.pc; mode = Stub };
    log = log;
    only = ap (λ hs. gathered (slice_set hs 0 (record (counted h) { pc = next_pc h.pc; mode = resting 0 }))) only;
    stub = refl;
    kept = kept;
    is = refl;
    shared = still _ refl refl refl;
  }

  -- any of them but the last
  one_event : (word : ℕ) (i : XInstr) → IsOther i → goes_on (Some i) (alone_at h t.core.memory log) ≡ true
      → Follows s entry (added_event t 0 h word i) (act_alone (Some i) (alone_at h t.core.memory log))
  one_event word (Base i) o e =
      let told = outcome i h.pc h.regs t.core.memory in
      base_next told.next told.regs (asks i h.regs) e
  one_event word (Put slot rs1) o e = of_one _ _ stub kept refl
  one_event word (Get rd slot) o e = of_one _ _ stub kept refl
  one_event word Par o e = at_fork
  one_event word Join o e = at_join
  one_event word Back o e = absurd o
  one_event word (Id rd) o e = of_one _ _ stub kept refl
  one_event word (Harts rd) o e =
      of_one _ _ stub kept
      (ap (λ hs. alone_at (alone_after h (Harts rd) 0 (length hs) t.core.memory) t.core.memory log) (sym only))

  -- the last
  went : (word : ℕ) → HasLeft s (added_event t 0 h word Back) entry (alone_at h t.core.memory log)
  went word = record {
    hart = gone t h;
    only = ap (λ hs. slice_set hs 0 (gone t h)) only;
    passing = refl;
    pc = ap (λ x. header_of (slice_get x.entries h.kept)) shared.image ∙ ap (λ k. header_of (slice_get s.core.image.entries k)) kept;
    regs = refl;
    slots = refl;
    memory = refl;
    brk = shared.brk;
    running = shared.running;
    image = shared.image;
    output = shared.output;
    rest = shared.rest;
  }

-- the instruction at which a hart stands in the added code of a machine
abbrev pub instr_of : State → OneHart → Option XInstr
instr_of s r = fetched s.core.image.code r.pc

-- where the hart that runs alone stands at an instruction, the machine's hart executes that
pub executed : (s : State) (entry : ℕ) (t : State) (r : OneHart) (i : XInstr) (f : Follows s entry t r) → instr_of s r ≡ Some i
    → (word : ℕ) × (after_event t 0 ≡ added_event t 0 f.hart word i)
executed s entry t r i f e =
    let here : fetched t.core.image.code f.hart.pc ≡ Some i =
    ap (λ x. fetched x.code f.hart.pc) f.shared.image ∙ ap (λ x. instr_of s x) (sym f.is) ∙ e in
    let w = word_at t.core.image.code f.hart.pc i here in
    (w.0, executes t f.hart w.0 i f.only f.stub f.shared.running w.1 w.2)

-- an event at a word at which the hart does not leave added code
pub one_more : (s : State) (entry : ℕ) (t : State) (r : OneHart) (i : XInstr) → Follows s entry t r → IsOther i
    → instr_of s r ≡ Some i → goes_on (Some i) r ≡ true → Follows s entry (after_event t 0) (act_alone (Some i) r)
one_more s entry t r i f other e goes =
    let w = executed s entry t r i f e in
    let goes' = subst (λ x. goes_on (Some i) x ≡ true) f.is goes in
    let next = one_event s entry t f.hart f.log f.only f.stub f.kept f.shared w.0 i other goes' in
    let same = ap (act_alone (Some i)) (sym f.is) in
    subst₂ (Follows s entry) (sym w.1) same next

-- the event at the word at which it does
pub at_back : (s : State) (entry : ℕ) (t : State) (r : OneHart) → Follows s entry t r → instr_of s r ≡ Some Back
    → HasLeft s (after_event t 0) entry r
at_back s entry t r f e =
    let w = executed s entry t r Back f e in
    let left = went s entry t f.hart f.log f.only f.stub f.kept f.shared w.0 in
    subst₂ (λ t' r'. HasLeft s t' entry r') (sym w.1) (sym f.is) left
