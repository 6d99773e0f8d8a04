-- A loop that is judged Parallel, with its added code.
use Rattle.std.proofs.Common.{◌≡◌, ℕ, sym, ◌∙◌, Some, List, [], ◌∷◌}
use Rattle.rv64_decode.specs.Area.{Area}
use Rattle.guest_memory.specs.Areas.{areas_of}
use Rattle.loop_data.specs.Executing.{AreProgramWords}
use Rattle.loop_data.specs.Independent.{Role}
use Rattle.loop_data.specs.Turns.{HasAreas}
use Rattle.alias_checks.specs.declared.lists.Turns.{Turns}
use Rattle.alias_checks.specs.Answers.{answer}
use Rattle.alias_checks.specs.Areas.{Bounds, AreBoundsOf}
use Rattle.loop_choice.specs.Asking.{AskingLaw}
use Rattle.loop_choice.specs.Independence.{roles_of, IsHeld, IndependenceLaw}
use Rattle.loop_choice.proofs.RunAreas.{state_lie, bits_below}
use Rattle.checkable_plans.specs.Judged.{JudgedCheckableLaw}
use Rattle.check_code.specs.CheckLaws.{IsArrival as IsAsked}
use Rattle.divided_loops.specs.Added.{IsAdded, IsAskedOf, AddedLaw}
use Rattle.divided_loops.specs.Judged.{planned, CopyLaw, MoveLaw, DividedLaw, JudgedLaw}

-- bounds of areas are those of others with other bytes
same_bounds : (bs : List Bounds) (areas m : List Area) → AreBoundsOf bs areas → HasAreas areas m → AreBoundsOf bs m
same_bounds [] [] [] b h = tt
same_bounds [] [] (n ∷ m) b h = absurd h
same_bounds [] (a ∷ areas) m b h = absurd b
same_bounds (x ∷ bs) [] m b h = absurd b
same_bounds (x ∷ bs) (a ∷ areas) [] b h = absurd h
same_bounds (x ∷ bs) (a ∷ areas) (n ∷ m) b h =
    let s = h.0 in
    let e = b.0 in (
      record {
        low = e.low ∙ sym s.low;
        end = rw (s.low, s.length) e.end;
        readable = e.readable ∙ sym s.readable;
        writable = e.writable ∙ sym s.writable;
      },
      same_bounds bs areas m b.1 h.1,
    )

pub judged_law : CopyLaw → MoveLaw → DividedLaw → JudgedCheckableLaw → AskingLaw → IndependenceLaw → AddedLaw → JudgedLaw
judged_law copies moves divides checkable asks independent adds elf G shape plan check nest code p words s h load graph plans added state enters =
    let program : AreProgramWords G = record { ordered = graph.ordered; bits = bits_below elf G load graph s state.at.areas state.bytes } in
    let body = copies elf G shape plan check nest load graph program plans in
    let held : (t : Turns) → answer check s.regs s.memory ≡ Some t → IsHeld elf G shape plan check nest.root s t = λ t e. record { load = load; graph = graph; judged = plans; state = state; answer = e } in
    let roles : ℕ → Role = roles_of G shape.levels plan nest.root in
    let there : IsAdded code nest.root (planned G plan) roles check p words = record {
      body = body.0;
      ordered = body.1;
      tells = added.tells (checkable elf G shape plan check load nest plans);
      stub = added.stub;
      size = added.size;
      bits = added.bits;
    } in
    let asked : IsAsked check s.regs s.memory = record {
      registers = state.registers;
      bytes = state.bytes;
      lie = state_lie elf G load graph s state.at.areas;
      areas = same_bounds check.areas (areas_of elf) s.memory (asks elf G shape plan check load nest plans).areas state.at.areas;
    } in
    let ask : IsAskedOf nest.root (planned G plan) roles check s = record {
      asked = asked;
      cells = plans.cells.list;
      moves = moves elf G shape plan check nest plans;
      divided = λ t e. (divides elf G shape plan check nest s t (held t e)).0;
      stored = λ t e. (divides elf G shape plan check nest s t (held t e)).1;
    } in
    let does = adds code nest.root (planned G plan) roles check p words s h there ask enters in
    (does.0, does.1, λ t e. independent elf G shape plan check nest s t (held t e))
