-- The check of a plan for a nest has room in instructions, and its words tell what it tells.
use Rattle.std.proofs.Common.{◌≡◌, ℕ, zero, suc, ◌^◌, ◌<◌, ◌≤◌, List, [], ◌∷◌, length, map, get_or, Option, Some, None, refl, sym, subst, arith, ℤ, pos, negsuc, ◌≤ℤ◌, ◌<ℤ◌}
use Rattle.std.proofs.lemmas.Int.{ints}
use Rattle.std.specs.List.{All, Contains}
use Rattle.std.proofs.lemmas.List.{length-map}
use Rattle.elf_image.specs.declared.image.Elf.{Elf}
use Rattle.elf_image.specs.Layout.{IsLoadable}
use Rattle.loop_data.specs.declared.classes.Classes.{Classes}
use Rattle.loop_data.specs.declared.equations.Duty.{Duty}
use Rattle.loop_data.specs.declared.equations.Equations.{Equations}
use Rattle.loop_data.specs.declared.graph.Graph.{Graph}
use Rattle.loop_data.specs.declared.shape.Level.{Level}
use Rattle.loop_data.specs.declared.plans.Plan.{Plan}
use Rattle.loop_data.specs.declared.shape.LoopShape.{LoopShape}
use Rattle.loop_data.specs.Locations.{CellMap}
use Rattle.loop_data.specs.LoopWords.{AreNest}
use Rattle.loop_data.specs.Lookups.{cell_map}
use Rattle.loop_data.specs.Nests.{nest_of}
use Rattle.loop_data.specs.Results.{AreEquations}
use Rattle.loop_data.proofs.Lists.{no_longer, apart_from_increasing}
use Rattle.stack_slots.specs.CellLaws.{HasOffset}
use Rattle.alias_checks.specs.declared.lists.Check.{Check}
use Rattle.alias_checks.specs.Areas.{Bounds}
use Rattle.alias_checks.specs.CellTests.{HasRegister}
use Rattle.check_code.specs.Checkable.{IsLowArea, HasRoom, IsCheckable, RoomLaw, IsFoundCheck, FoundLaw}
use Rattle.check_code.specs.Laws.{HasOffset as HasRoomFor}
use Rattle.loop_choice.specs.Asking.{AskingLaw}
use Rattle.loop_choice.specs.Judging.{IsPlanOf}
use Rattle.checkable_plans.specs.Judged.{JudgedRoomLaw, JudgedCheckableLaw}

found_check : (elf : Elf) (G : Graph) (shape : LoopShape) (plan : Plan) (check : Check) → AreNest G shape.levels → (p : IsPlanOf G elf shape plan check)
    → IsFoundCheck G shape.levels plan.cells plan.classes p.equations check
found_check elf G shape plan check nest p = record {
  nest = nest;
  equations = p.found.confirmed.solved.equations;
  same_cells = p.cells.list;
  count = p.found.are_trips.count;
  trips = p.found.are_trips.each;
  duties = p.duties;
  accesses = p.found.are_accesses;
}

-- the duty of an address, among those of a list
duty_at : (ds : List Duty) (u i : ℕ) → i < length (map (λ (d : Duty). d.at) ds) → get_or (map (λ (d : Duty). d.at) ds) i u ≡ u → (d : Duty) × Contains ds d × (d.at ≡ u)
duty_at [] u i l e = absurd (omega arith)
duty_at (d ∷ ds) u zero l e = (d, (0, omega arith, refl), e)
duty_at (d ∷ ds) u (suc i) l e = let r = duty_at ds u i (omega arith) e in (r.0, (suc r.1.0, (let m = r.1.1 in omega arith), r.1.2), r.2)

-- duties are of different words of the root
few_duties : (G : Graph) (levels : List Level) (C : CellMap) (classes : Classes) (e : Equations) → AreNest G levels → AreEquations G levels C classes e → length e.duties ≤ 256
few_duties G levels C classes e nest are =
    let N = nest_of G nest.root nest.inner in
    let own = are.duties N (record { root = nest.root; inner = nest.inner; are = nest.are; is = refl }) in
    let m = length-map e.duties (λ (d : Duty). d.at) in
    let short = nest.short in
    let fewer : length (map (λ (d : Duty). d.at) e.duties) ≤ length nest.root.body =
    no_longer (map (λ (d : Duty). d.at) e.duties) nest.root.body (apart_from_increasing (map (λ (d : Duty). d.at) e.duties) own.ordered)
    (λ x c. let r = duty_at e.duties x c.0 c.1 c.2 in subst (Contains nest.root.body) r.2 (own.each r.0 r.1).0) in
    omega (arith, m, short, fewer)

room_for : (base : Option ℕ) (z : ℤ) → HasRegister base → HasOffset base z → HasRoomFor base z
room_for None z r h = let a = h.0 in let b = h.1 in (omega (arith, ints), omega (arith, ints))
room_for (Some q) z r h = (r, h)

pub judged_room : AskingLaw → RoomLaw → FoundLaw → JudgedRoomLaw
judged_room asking rooms founds elf G shape plan check load nest p =
    let asked = asking elf G shape plan check load nest p in
    let found = founds G shape.levels plan.cells plan.classes p.equations check (found_check elf G shape plan check nest p) in
    let room = rooms elf load in
    record {
      offsets = λ k d l. room_for _ _ (asked.registers k d l) (asked.offsets k d l);
      some_trips = found.0;
      few_trips = found.1;
      few_duties = subst (λ (ds : List Duty). length ds ≤ 256) (sym p.duties)
          (few_duties G shape.levels (cell_map plan.cells) plan.classes p.equations nest p.found.confirmed.solved.equations);
      pairs = p.pairs;
      few_areas = subst (λ (bs : List Bounds). length bs ≤ 128) (sym p.areas) room.0;
      low_areas = subst (All IsLowArea) (sym p.areas) room.1;
    }

pub judged_checkable : FoundLaw → JudgedCheckableLaw
judged_checkable founds elf G shape plan check load nest p =
    (founds G shape.levels plan.cells plan.classes p.equations check (found_check elf G shape plan check nest p)).2
