-- Two plans and checks of a loop are the same, part by part.
use Rattle.std.proofs.Common.{◌≡◌, ℕ, ◌<◌, List, length, get_or, Option, Some, refl, ap, sym, ◌∙◌, subst, arith}
use mathlib.Core.Path.{fun_ext}
use Rattle.std.specs.List.{All}
use Rattle.std.proofs.lemmas.List.{same_lists}
use Rattle.std.proofs.lemmas.Option.{slice_get-get_or}
use Rattle.elf_image.specs.declared.image.Elf.{Elf}
use Rattle.linear_forms.specs.Forms.{LinearForm}
use Rattle.loop_data.specs.declared.accesses.Access.{Access}
use Rattle.loop_data.specs.declared.cells.Cells.{Cells}
use Rattle.loop_data.specs.declared.equations.Duty.{Duty}
use Rattle.loop_data.specs.declared.graph.Graph.{Graph}
use Rattle.loop_data.specs.declared.plans.Plan.{Plan}
use Rattle.loop_data.specs.declared.shape.Level.{Level}
use Rattle.loop_data.specs.declared.shape.LoopShape.{LoopShape}
use Rattle.loop_data.specs.declared.trips.Trip.{Trip}
use Rattle.loop_data.specs.declared.verdict.Cell.{Cell}
use Rattle.loop_data.specs.declared.verdict.Verdict.{Verdict}
use Rattle.loop_data.specs.Accesses.{AreAccesses}
use Rattle.loop_data.specs.LoopCode.{code_of}
use Rattle.loop_data.specs.LoopWords.{AreNest}
use Rattle.loop_data.specs.Lookups.{cell_map, form_at}
use Rattle.loop_data.specs.Nests.{Nest, nest_of}
use Rattle.loop_data.specs.Results.{IsNestOf}
use Rattle.affine_addresses.specs.OneList as accesses
use Rattle.alias_checks.specs.declared.lists.Check.{Check}
use Rattle.alias_checks.specs.Listing.{AreSameCells, ArePairs, Pair}
use Rattle.alias_checks.specs.OneList.{OnePairsLaw}
use Rattle.induction.specs.OneClass.{OneClassLaw, OneInnerClassLaw, OneClassesLaw}
use Rattle.register_equations.specs.OneResult.{AreAnswers, OneFormLaw, OneDutiesLaw}
use Rattle.stack_slots.specs.OneList as cells
use Rattle.trip_counts.specs.OneTrip.{OneTripLaw}
use Rattle.loop_shapes.specs.Laws.{NestLaw}
use Rattle.loop_choice.specs.Analysis.{AreTrips, AreFound}
use Rattle.loop_choice.specs.Judging.{IsPlanOf}
use Rattle.loop_choice.specs.OnePlan.{OnePlanLaw}
use Rattle.loop_choice.proofs.OneVerdict.{nest_without_early}

-- the laws of the steps
pub record Parts : Type 0 where
  pub cells : cells.OneListLaw
  pub class : OneClassLaw
  pub inner : OneInnerClassLaw
  pub classes : OneClassesLaw
  pub form : OneFormLaw
  pub duties : OneDutiesLaw
  pub trip : OneTripLaw
  pub list : accesses.OneKeptListLaw
  pub pairs : OnePairsLaw

inside : {X : Type 0} {x y : X} → Some x ≡ Some y → x ≡ y
inside e = cc

-- cells that are the same in each part
same_cells : (c d : Cells) → AreSameCells c d → c ≡ d
same_cells c d s =
    ap (λ (xs : List Cell). record { list = record { items = xs }; uses = record { items = c.uses.items }; fault = c.fault }) s.list
    ∙ ap (λ (us : List (ℕ × ℕ)). record { list = record { items = d.list.items }; uses = record { items = us }; fault = c.fault }) s.uses
    ∙ ap (λ (v : Option Verdict). record { list = record { items = d.list.items }; uses = record { items = d.uses.items }; fault = v }) s.fault

module _ (laws : Parts) (elf : Elf) (G : Graph) (s : LoopShape) (plan other : Plan) (check second : Check) (nest : AreNest G s.levels)
    (one : IsPlanOf G elf s plan check) (two : IsPlanOf G elf s other second) where
  abbrev ls : List Level
  ls = s.levels

  abbrev N : Nest
  N = nest_of G nest.root nest.inner

  this : IsNestOf G ls N
  this = record { root = nest.root; inner = nest.inner; are = nest.are; is = refl }

  plan_cells : other.cells ≡ plan.cells
  plan_cells = laws.cells G ls other.cells plan.cells nest two.found.confirmed.solved.sound.cells one.found.confirmed.solved.sound.cells

  found : AreFound G ls plan.cells other.classes two.equations second.trips second.accesses.list.items
  found = subst (λ (c : Cells). AreFound G ls c other.classes two.equations second.trips second.accesses.list.items) plan_cells two.found

  answers : AreAnswers G ls (cell_map plan.cells) one.equations two.equations
  answers = record {
    nest = nest;
    first = plan.classes;
    second = other.classes;
    alike = record {
      root = laws.class G ls (cell_map plan.cells) plan.classes other.classes nest one.found.confirmed.solved.classes found.confirmed.solved.classes;
      inner = laws.inner G ls (cell_map plan.cells) plan.classes other.classes nest one.found.confirmed.solved.classes found.confirmed.solved.classes;
    };
    one = one.found.confirmed.solved.equations;
    other = found.confirmed.solved.equations;
  }

  forms : form_at two.equations.points ≡ form_at one.equations.points
  forms = fun_ext (λ u. fun_ext (λ r. sym (laws.form G ls (cell_map plan.cells) one.equations two.equations answers u r)))

  classes : plan.classes ≡ other.classes
  classes = laws.classes G ls (cell_map plan.cells) plan.classes other.classes nest one.found.confirmed.solved.classes found.confirmed.solved.classes one.entries.classes two.entries.classes

  same_trips : (at : ℕ → ℕ → Option LinearForm) (xs ys : List Trip) → AreTrips G ls at xs → AreTrips G ls at ys → xs ≡ ys
  same_trips at xs ys f g = same_lists xs ys (f.count ∙ sym g.count) trip
    where
      trip : (k : ℕ) (d : Trip) → k < length xs → get_or xs k d ≡ get_or ys k d
      trip k d l =
          let m = f.count in
          let n = g.count in
          inside
          (laws.trip G ls at k (Some (get_or xs k d)) (Some (get_or ys k d)) (omega arith)
          (f.each k (get_or xs k d) (slice_get-get_or xs k d l))
          (g.each k (get_or ys k d) (slice_get-get_or ys k d (omega arith))))

  trips : check.trips ≡ second.trips
  trips = same_trips (form_at one.equations.points) check.trips second.trips one.found.are_trips (subst (λ (at : ℕ → ℕ → Option LinearForm). AreTrips G ls at second.trips) forms found.are_trips)

  list : check.accesses.list.items ≡ second.accesses.list.items
  list =
      laws.list G ls N.root.body (code_of G (cell_map plan.cells)) (form_at one.equations.points) check.accesses.list.items second.accesses.list.items nest (one.found.are_accesses N this)
      (subst (λ (at : ℕ → ℕ → Option LinearForm). AreAccesses ls N.root.body (code_of G (cell_map plan.cells)) at second.accesses.list.items) forms (found.are_accesses N this)) one.entries.accesses two.entries.accesses

  duties : check.duties ≡ second.duties
  duties =
      one.duties
      ∙ laws.duties G ls (cell_map plan.cells) one.equations two.equations answers
      (subst (λ (ds : List Duty). All (λ (d : Duty). length d.around ≡ 3) ds) one.duties one.entries.duties)
      (subst (λ (ds : List Duty). All (λ (d : Duty). length d.around ≡ 3) ds) two.duties two.entries.duties)
      ∙ sym two.duties

  pairs : check.pairs ≡ second.pairs
  pairs = laws.pairs second.accesses.list.items check.pairs second.pairs (subst (λ (xs : List Access). ArePairs xs check.pairs) list one.pairs) two.pairs

  check_cells : check.cells ≡ second.cells
  check_cells = same_cells check.cells plan.cells one.cells ∙ sym plan_cells ∙ sym (same_cells second.cells other.cells two.cells)

  pub one_plan : plan ≡ other
  one_plan =
      ap (λ (z : LoopShape). record { shape = z; cells = plan.cells; classes = plan.classes }) (one.shape ∙ sym two.shape)
      ∙ ap (λ (c : Cells). record { shape = other.shape; cells = c; classes = plan.classes }) (sym plan_cells)
      ∙ ap (λ k. record { shape = other.shape; cells = other.cells; classes = k }) classes

  pub one_check : check ≡ second
  one_check =
      ap (λ (c : Cells). record { cells = c; trips = check.trips; duties = check.duties; accesses = check.accesses; pairs = check.pairs; areas = check.areas }) check_cells
      ∙ ap (λ (ts : List Trip). record { cells = second.cells; trips = ts; duties = check.duties; accesses = check.accesses; pairs = check.pairs; areas = check.areas }) trips
      ∙ ap (λ (ds : List Duty). record { cells = second.cells; trips = second.trips; duties = ds; accesses = check.accesses; pairs = check.pairs; areas = check.areas }) duties
      ∙ ap (λ (xs : List Access). record { cells = second.cells; trips = second.trips; duties = second.duties; accesses = record { list = record { items = xs } }; pairs = check.pairs; areas = check.areas }) list
      ∙ ap (λ (ps : List Pair). record { cells = second.cells; trips = second.trips; duties = second.duties; accesses = second.accesses; pairs = ps; areas = check.areas }) pairs
      ∙ ap (λ bs. record { cells = second.cells; trips = second.trips; duties = second.duties; accesses = second.accesses; pairs = second.pairs; areas = bs }) (one.areas ∙ sym two.areas)

pub one_plan_and_check : Parts → NestLaw → OnePlanLaw
one_plan_and_check laws nests elf G s plan other check second graph loop one two =
    let nest = nest_without_early nests elf G s graph loop one.early in
    (one_plan laws elf G s plan other check second nest one two, one_check laws elf G s plan other check second nest one two)
