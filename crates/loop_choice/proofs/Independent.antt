-- A check of what is found of a loop that holds in a state at it means independence.
use Rattle.std.proofs.Common.{◌≡◌, ℕ, suc, ◌<◌, inl, true, Some, None, refl, ap, sym, ◌∙◌, subst, arith, slice_index}
use Rattle.std.specs.List.{All, AllPairs}
use Rattle.std.specs.Prelude.{slice_get}
use Rattle.elf_image.specs.declared.image.Elf.{Elf}
use Rattle.rv64_decode.specs.Area.{why, writable_of}
use Rattle.loop_data.specs.declared.equations.Equations.{Equations}
use Rattle.loop_data.specs.declared.graph.Graph.{Graph}
use Rattle.loop_data.specs.declared.plans.Plan.{Plan}
use Rattle.loop_data.specs.declared.shape.LoopShape.{LoopShape}
use Rattle.loop_data.specs.declared.verdict.Cell.{Cell}
use Rattle.loop_data.specs.Executing.{AreProgramWords}
use Rattle.loop_data.specs.FactLaws.{SomePassLaw}
use Rattle.loop_data.specs.Holds.{entry_of}
use Rattle.loop_data.specs.Independent.{Independent, AreApart}
use Rattle.loop_data.specs.Locations.{CellMap, no_cells, cell_at, address, width_of}
use Rattle.loop_data.specs.LoopCode.{code_of}
use Rattle.loop_data.specs.LoopWords.{AreNest}
use Rattle.loop_data.specs.Lookups.{cell_map, form_at}
use Rattle.loop_data.specs.Nests.{Nest, nest_of}
use Rattle.loop_data.specs.Results.{IsNestOf}
use Rattle.loop_data.specs.Runs.{State, run, walk, instr}
use Rattle.loop_data.specs.Turns.{turn, Leaves}
use Rattle.register_equations.specs.FormLaws.{AreResults}
use Rattle.stack_slots.specs.CellLaws.{FoundLaw}
use Rattle.apart_turns.specs.Apart.{IsAsTold, ApartLaw}
use Rattle.alias_checks.specs.declared.lists.Check.{Check}
use Rattle.alias_checks.specs.declared.lists.Turns.{Turns}
use Rattle.alias_checks.specs.BoundsLaws.{EntryLaw}
use Rattle.alias_checks.specs.Entry.{entry}
use Rattle.alias_checks.specs.Holds.{Holds as CheckHolds, HoldsLaw, CellHolds, CellsHold, RootHolds, PassesHold, DutyHolds, AccessHolds, KeepsOff}
use Rattle.alias_checks.specs.TurnTests.{last_of}
use Rattle.loop_choice.specs.Analysis.{AreFound}
use Rattle.loop_choice.specs.Independence.{roles_of, IsHeld, IndependenceLaw, StayLaw}
use Rattle.loop_choice.specs.States.{WordsLaw, StoredLaw}
use Rattle.loop_choice.proofs.KnownCells.{known_cells}
use Rattle.loop_choice.proofs.RunAreas.{state_lie, code_stays, bits_below}
use Rattle.loop_choice.proofs.Tasks.{Laws, IsTested, Task}
use Rattle.loop_choice.proofs.TurnsEnd.{fine_below}
use Rattle.loop_choice.proofs.Visits.{holds_at, in_loop, word, pass_up_to}
use Rattle.loop_choice.proofs.Roles.{have_roles}
use Rattle.loop_choice.proofs.Held.{are_turns, are_cells, none_leaves, stored_cell}

-- the laws of the crates below, with those that are used once
pub record AllLaws : Type 0 where
  pub laws : Laws
  pub some_pass : SomePassLaw
  pub found : FoundLaw
  pub holds : HoldsLaw
  pub entry : EntryLaw
  pub apart : ApartLaw

-- a check that holds, over the entry values of the state
tested_of : (c : Check) (s : State) (t : Turns) (C : CellMap) (e : Equations) → CheckHolds c s.regs s.memory t → entry c.cells.list.items s.regs s.memory ≡ entry_of C s → c.cells.list.items ≡ C.cells → c.duties ≡ e.duties
    → IsTested C.cells c.trips e.duties c.accesses.list.items (entry_of C s) s.regs s.memory t
tested_of c s t C e h q cells duties =
    record {
      cells_hold = subst (All (CellHolds s.regs s.memory)) cells h.cells;
      cells_apart = subst (AllPairs (CellsHold s.regs)) cells h.apart;
      root = subst (λ v. RootHolds c.trips v t.root) q h.root;
      inner = subst (λ v. (k : ℕ) → k < 3 → PassesHold (slice_get c.trips (suc k)) v (slice_index t.inner k)) q h.inner;
      duties_hold = subst (All (DutyHolds (entry_of C s) (last_of t))) duties (subst (λ v. All (DutyHolds v (last_of t)) c.duties) q h.duties);
      accesses_hold = subst (λ v. All (AccessHolds s.memory v (last_of t)) c.accesses.list.items) q h.accesses;
      off = subst (All (λ (d : Cell). All (KeepsOff s.regs (entry_of C s) (last_of t) d) c.accesses.list.items)) cells
          (subst (λ v. All (λ (d : Cell). All (KeepsOff s.regs v (last_of t) d) c.accesses.list.items) c.cells.list.items) q h.off);
    }

module _ (laws : AllLaws) (elf : Elf) (G : Graph) (shape : LoopShape) (plan : Plan) (check : Check) (nest : AreNest G shape.levels) (s : State) (t : Turns) (held : IsHeld elf G shape plan check nest.root s t) where
  abbrev N : Nest
  N = nest_of G nest.root nest.inner

  abbrev C : CellMap
  C = cell_map plan.cells

  of : IsNestOf G shape.levels N
  of = record { root = nest.root; inner = nest.inner; are = nest.are; is = refl }

  found : AreFound G shape.levels plan.cells plan.classes held.judged.equations check.trips check.accesses.list.items
  found = held.judged.found

  holds : CheckHolds check s.regs s.memory t
  holds = (laws.holds check s.regs s.memory t held.judged.pairs).0 held.answer

  cells_are : check.cells.list.items ≡ plan.cells.list.items
  cells_are = held.judged.cells.list

  entry_is : entry check.cells.list.items s.regs s.memory ≡ entry_of C s
  entry_is = ap (λ cs. entry cs s.regs s.memory) cells_are ∙ laws.entry C s

  words : AreProgramWords G
  words = record { ordered = held.graph.ordered; bits = bits_below elf G held.load held.graph s held.state.at.areas held.state.bytes }

  results : AreResults G shape.levels N plan.cells plan.classes held.judged.equations
  results =
      let facts = laws.some_pass N (code_of G no_cells) nest.root nest.nest (inl refl) in
      let sound = found.confirmed.solved.sound in
      record {
        facts = facts.0;
        pass = facts.1;
        found = laws.found G shape.levels plan.cells N facts.0 nest sound.cells sound.no_fault of facts.1;
        classes = found.confirmed.solved.classes;
        equations = found.confirmed.solved.equations;
        confirmed = found.confirmed.confirmed;
      }

  task : Task
  task =
      record {
        G = G;
        levels = shape.levels;
        nest = nest;
        words = words;
        cells = plan.cells;
        classes = plan.classes;
        equations = held.judged.equations;
        results = results;
        known = let sound = found.confirmed.solved.sound in known_cells G shape.levels nest plan.cells results.facts sound.cells sound.no_fault results.pass;
        trips = check.trips;
        count = found.are_trips.count;
        are_trips = found.are_trips.each;
        list = check.accesses.list.items;
        accesses = found.are_accesses N of;
        state = s;
        start = held.state.at.at;
        registers = held.state.registers;
        bytes = held.state.bytes;
        lie = state_lie elf G held.load held.graph s held.state.at.areas;
        code = code_stays elf G held.load held.graph s held.state.at.areas;
        turns = t;
        tested = tested_of check s t C held.judged.equations holds entry_is cells_are held.judged.duties;
        laws = laws.laws;
      }

  as_told : (n : ℕ) → turn nest.root s n < t.root → IsAsTold G nest.root nest.inner C (form_at held.judged.equations.points) (last_of t) s n
  unfolding task
  as_told n lt =
      let f = fine_below task n lt in
      record { inside = in_loop task n f; word = word task n f lt; forms = holds_at task n f; within = λ j l within e h. pass_up_to task n f lt j l within e h }

  apart : AreApart nest.root C s t.root
  unfolding task
  apart =
      laws.apart G shape.levels nest words C (form_at held.judged.equations.points) check t s t.root (found.are_accesses N of) held.judged.pairs (sym cells_are)
      (record { uses = λ u k h e. let x = results.found u k h e in (x.cell, x.at, x.width) }) holds (omega arith) as_told (are_cells task)

  independent : Independent nest.root C (roles_of G shape.levels plan nest.root) s t.root
  unfolding task
  independent = record { turns = are_turns task; cells = are_cells task; apart = apart; locations = have_roles task }

  stays : (n : ℕ) → turn nest.root s n < t.root → ¬ Leaves nest.root s n
  unfolding task
  stays = none_leaves task

  executed : (n : ℕ) → turn nest.root s n < t.root → instr (run s n) ≡ (code_of G C).instr (walk s n)
  unfolding task
  executed n lt = word task n (fine_below task n lt) lt

  may_be_stored : (j : ℕ) (c : Cell) → cell_at plan.cells.list.items j ≡ Some c → c.stored ≡ true
      → why writable_of s.memory (address s.regs c) (width_of c) ≡ None
  unfolding task
  may_be_stored j c e stored = stored_cell task j c e stored

pub independence_law : AllLaws → IndependenceLaw
independence_law laws elf G shape plan check nest s t held = independent laws elf G shape plan check nest s t held

pub stay_law : AllLaws → StayLaw
stay_law laws elf G shape plan check nest s t held = stays laws elf G shape plan check nest s t held

pub words_law : AllLaws → WordsLaw
words_law laws elf G shape plan check nest s t held = executed laws elf G shape plan check nest s t held

pub stored_law : AllLaws → StoredLaw
stored_law laws elf G shape plan check nest s t held = may_be_stored laws elf G shape plan check nest s t held
