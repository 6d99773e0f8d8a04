-- From the state at an entry through its stub.
use Rattle.std.proofs.Common.{◌≡◌, ℕ, ◌≤◌, ◌^◌, inl, inr, List, ◌∷◌, ◌++◌, length, Option, Some, None, refl, ap, sym, ◌∙◌, subst, arith}
use Rattle.std.specs.Prelude.{slice_get}
use Rattle.std.proofs.lemmas.List.Elements.{All-get_or}
use Rattle.std.proofs.lemmas.Option.{get_or_from_slice_get, slice_get_within}
use Rattle.elf_image.specs.declared.image.Elf.{Elf}
use Rattle.elf_image.specs.Layout.{IsLoadable}
use Rattle.rv64_decode.specs.Hart.{Hart, address}
use Rattle.rv64_decode.specs.Registers.{register}
use Rattle.rv64_decode.specs.declared.outcome.Next.TheVariants.{At}
use Rattle.loop_data.specs.declared.graph.Graph.{Graph}
use Rattle.loop_data.specs.declared.plans.Plan.{Plan}
use Rattle.loop_data.specs.declared.shape.Level.{Level}
use Rattle.loop_data.specs.declared.shape.LoopShape.{LoopShape}
use Rattle.loop_data.specs.Graphs.{IsGraph}
use Rattle.loop_data.specs.Loops.{AreLoops}
use Rattle.loop_data.specs.LoopWords.{AreNestAt}
use Rattle.loop_data.specs.Lookups.{cell_map, roles_by}
use Rattle.loop_data.specs.Runs.{State as LoopState, run}
use Rattle.loop_shapes.specs.Laws.{NestLaw}
use Rattle.stack_slots.specs.CellLaws.{NumberedLaw, FewAccessesLaw}
use Rattle.alias_checks.specs.declared.lists.Check.{Check}
use Rattle.alias_checks.specs.declared.lists.Turns.{Turns}
use Rattle.alias_checks.specs.Answers.{answer}
use Rattle.check_code.proofs.Answered.{tells_check}
use Rattle.turn_copies.specs.StubWords.{IsStub, HasStub, StubLaw}
use Rattle.serial_run.specs.Serial.{State, serial, ended}
use Rattle.loop_choice.specs.Independence.{IsAtLoop, roles_of}
use Rattle.loop_choice.specs.Judging.{IsOneOfLoops, IsPlanOf}
use Rattle.loop_samples.specs.SerialRun.{state_in, IsSerial}
use Rattle.checkable_plans.specs.Judged.{JudgedRoomLaw}
use Rattle.divided_loops.specs.Alone.{MeetsNoFault}
use Rattle.divided_loops.specs.Added.{Enters, DoesTurns}
use Rattle.divided_loops.specs.Judged.{planned, IsAddedFor, JudgedLaw}
use Rattle.loop_division.specs.Stubs.{AreShort, AreStubWords}
use Rattle.entered_loops.specs.Laws.{IsWhole, Leaves, HasLoop, told, LeadsOn, EntryLaw}
use Rattle.entered_loops.proofs.Entries.{stub_of, header_is, all_short}
use Rattle.entered_loops.proofs.CheckLimits.{plan_limits}

-- a run that goes on at a pc is the serial run
abbrev pub RunLaw : Type 0
RunLaw = (s : State) (n pc : ℕ) → ended s ≡ None → (run (state_in s) n).next ≡ At pc → IsSerial (run (state_in s) n) s (serial n s)

-- the loop at a place of the list is one of the loops, and with a plan it is a nest
listed_at : (G : Graph) (shapes : List LoopShape) (place : ℕ) (shape : LoopShape) → AreLoops G shapes → slice_get shapes place ≡ Some shape → IsOneOfLoops G shape
listed_at G shapes place shape loops is =
    subst (IsOneOfLoops G) (get_or_from_slice_get shapes place shape shape is)
    (All-get_or (IsOneOfLoops G) shapes place shape (slice_get_within shapes place shape is) loops.each)

nest_at : NestLaw → (elf : Elf) (G : Graph) (shape : LoopShape) → IsGraph elf G → IsOneOfLoops G shape → shape.early ≡ None → AreNestAt G shape.header shape.levels
nest_at law elf G shape is (inl loop) early = law elf G shape is loop early
nest_at law elf G shape is (inr edge) early = let e = edge.early in absurd (cc)

-- the two ways to name the root are one
root_is : (levels others : List Level) (root known : Level) (inner rest : List Level) → levels ≡ root ∷ inner → others ≡ known ∷ rest → levels ≡ others → root ≡ known
root_is levels others root known inner rest a b c = let e : root ∷ inner ≡ known ∷ rest = sym a ∙ c ∙ b in cc

module _ (numbers : NumberedLaw) (few : FewAccessesLaw) (rooms : JudgedRoomLaw) (stands : StubLaw) (judged : JudgedLaw) (runs : RunLaw)
    (elf : Elf) (G : Graph) (shape : LoopShape) (load : IsLoadable elf) (is : IsGraph elf G) (nest : AreNestAt G shape.header shape.levels) (code : List ℕ)
    (size : length code ≤ 2 ^ 32) (bits : AreShort code) where
  abbrev root : Level
  root = nest.nest.root

  abbrev Added : Plan → Check → ℕ → List ℕ → Type 0
  Added plan check p words = IsAddedFor code G shape plan check nest.nest p words

  -- a stub by its plan, which names the loop's levels in its own way
  has_stub : (plan : Plan) (check : Check) (before rest words : List ℕ) → plan.shape ≡ shape → (a : AreStubWords G plan check (length before) words)
      → code ≡ before ++ (words ++ rest) → HasStub code root (planned G plan) (roles_of G shape.levels plan root) (length before) a.tests
  has_stub plan check before rest words same a c =
      let levels : plan.shape.levels ≡ shape.levels = ap (λ (q : LoopShape). q.levels) same in
      let top : a.root ≡ root = root_is plan.shape.levels shape.levels a.root root a.inner nest.nest.inner a.levels nest.nest.are levels in
      let s : IsStub root (planned G plan) (roles_by (planned G plan) plan.shape.levels plan.classes root) (length before) a.tests words =
      subst (λ (l : Level). IsStub l (planned G plan) (roles_by (planned G plan) plan.shape.levels plan.classes l) (length before) a.tests words) top a.stub in
      stands before words rest code root (planned G plan) (roles_of G shape.levels plan root) a.tests c
      (subst (λ (ls : List Level). IsStub root (planned G plan) (roles_by (planned G plan) ls plan.classes root) (length before) a.tests words) levels s)

  added_for : (plan : Plan) (check : Check) (before rest words : List ℕ) (p : IsPlanOf G elf shape plan check) (a : AreStubWords G plan check (length before) words)
      → code ≡ before ++ (words ++ rest) → Added plan check (length before) a.tests
  added_for plan check before rest words p a c = record {
    tells = λ own. tells_check check a.tests (rooms elf G shape plan check load nest.nest p) (plan_limits numbers few elf G shape plan check nest.nest p) own a.tell;
    stub = has_stub plan check before rest words p.shape a c;
    size = size;
    bits = bits;
  }

  module _ (s : State) (whole : IsWhole elf s) (running : ended s ≡ None) (here : shape.header ≡ s.machine.pc) where
    at_loop : IsAtLoop elf root (state_in s)
    at_loop = record {
      at = record { at = ap At (sym (nest.root_header ∙ here)); areas = whole.areas };
      registers = whole.registers;
      bytes = whole.bytes;
    }

    enters : (place : ℕ) (stub : ℕ) (h : Hart) → stub ≡ address place → Leaves s stub h → Enters (state_in s) place h
    enters place stub h at l = record {
      at = l.at ∙ at;
      sound = l.sound;
      registers = λ r lt. ap (λ regs. register regs r) l.regs;
      memory = l.memory;
      number = l.number;
      harts = l.harts;
    }

    leads : (plan : Plan) (h : Hart) (o : Option Turns) → DoesTurns code root (cell_map plan.cells) (state_in s) h o
        → LeadsOn code s h root o
    leads plan h (Some t) d =
        let r = runs s d.1 root.header running d.2.at in
        let next = ap (λ (q : LoopState). q.next) r.state in
        let here' : At (serial d.1 s).machine.pc ≡ At root.header = sym next ∙ d.2.at in
        record {
          words = d.0;
          instructions = d.1;
          leaves = d.5;
          are_turns = d.2;
          sound = d.3.stays.sound;
          regs = d.3.registers ∙ ap (λ (q : LoopState). q.regs) r.state;
          memory = d.3.memory ∙ ap (λ (q : LoopState). q.memory) r.state;
          pc = same_pc (serial d.1 s).machine.pc root.header here' ∙ nest.root_header ∙ here;
          break = r.break;
          running = r.running;
          output = r.output;
          rest = r.rest;
        }
      where
        same_pc : (a b : ℕ) → At a ≡ At b → a ≡ b
        same_pc a b e = cc
    leads plan h None d = record {
      words = d.0;
      instructions = 0;
      leaves = d.2;
      are_turns = refl;
      sound = d.1.stays.sound;
      regs = d.1.registers;
      memory = d.1.memory;
      pc = refl;
      break = refl;
      running = running;
      output = refl;
      rest = refl;
    }

    has_loop : (shapes : List LoopShape) (at : ℕ) (plan : Plan) (check : Check) → AreLoops G shapes → slice_get shapes at ≡ Some shape
        → IsPlanOf G elf shape plan check → HasLoop elf s.machine.pc
    has_loop shapes at plan check loops listed p = record {
      graph = G;
      is = is;
      shapes = shapes;
      loops = loops;
      place = at;
      shape = shape;
      listed = listed;
      header = here;
      root = root;
      inner = nest.nest.inner;
      levels = nest.nest.are;
      plan = plan;
      check = check;
      planned = p;
    }

    abbrev Goes : Hart → Type 0
    Goes h = (loop : HasLoop elf s.machine.pc) × LeadsOn code s h loop.root (told elf s loop) × MeetsNoFault code h

    goes : (shapes : List LoopShape) (place : ℕ) → AreLoops G shapes → slice_get shapes place ≡ Some shape
        → (plan : Plan) (check : Check) (before rest words : List ℕ) (stub : ℕ) (h : Hart) (p : IsPlanOf G elf shape plan check)
        (a : AreStubWords G plan check (length before) words)
        → code ≡ before ++ (words ++ rest) → stub ≡ address (length before) → Leaves s stub h → Goes h
    unfolding has_loop
    goes shapes place loops listed plan check before rest words stub h p a c at l =
        let d = judged elf G shape plan check nest.nest code (length before) a.tests (state_in s) h load is p (added_for plan check before rest words p a c) at_loop (enters (length before) stub h at l) in
        (has_loop shapes place plan check loops listed p, leads plan h (answer check s.machine.regs s.machine.memory) d.0, d.1)

pub entry_law : NestLaw → NumberedLaw → FewAccessesLaw → JudgedRoomLaw → StubLaw → JudgedLaw → RunLaw → EntryLaw
entry_law nests numbers few rooms stands judged runs elf entries code s found h load d whole running e l =
    let v = d.are.verdicts in
    let w = stub_of elf d.are.graph d.are.shapes d.are.places d.stubs entries code s.machine.pc found d.are.stand d.entries_are d.code_is e in
    let shape = w.is.shape in
    let p = w.is.words.planned in
    let listed = listed_at d.are.graph d.are.shapes w.place shape v.loops w.is.is in
    let nest = nest_at nests elf d.are.graph shape v.graph listed p.early in
    let room = d.room in
    let bits : AreShort code = subst AreShort (sym d.code_is) (all_short elf d.are.graph d.are.shapes d.are.places 0 d.stubs d.are.stand) in
    let g = goes numbers few rooms stands judged runs elf d.are.graph shape load v.graph nest code (omega (arith, room)) bits s whole running (sym w.is.header ∙ w.header)
    d.are.shapes w.place v.loops w.is.is w.is.words.plan w.is.words.check w.before w.rest w.stub.words found.stub h p
    w.is.words.are w.code_is w.at l in
    (g.0, g.1, g.2, header_is entries s.machine.pc found e)
