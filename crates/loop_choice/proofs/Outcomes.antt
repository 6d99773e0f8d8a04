-- Verdicts and plans out of what the passes over a nest find.
use Rattle.std.proofs.Common.{◌≡◌, ◌≢◌, ℕ, zero, suc, ◌<◌, ◌≤◌, ◌+◌, ◌⊎◌, inl, inr, List, [], ◌∷◌, ◌++◌, length, get_or, Option, Some, None, refl, ap, sym, ◌∙◌, subst, arith}
use Rattle.std.specs.Prelude.{slice_get, slice_index_or}
use Rattle.std.proofs.lemmas.List.{length_push}
use Rattle.std.proofs.lemmas.Option.{slice_get_read, get_or_from_slice_get}
use Rattle.elf_image.specs.declared.image.Elf.{Elf}
use Rattle.linear_forms.specs.Forms.{LinearForm}
use Rattle.linear_forms.specs.declared.location.Loc.{Loc}
use Rattle.loop_data.specs.declared.accesses.Access.{Access}
use Rattle.loop_data.specs.declared.cells.Cells.{Cells}
use Rattle.loop_data.specs.declared.classes.Classes.{Classes}
use Rattle.loop_data.specs.declared.equations.Equations.{Equations}
use Rattle.loop_data.specs.declared.graph.Graph.{Graph}
use Rattle.loop_data.specs.declared.shape.Level.{Level}
use Rattle.loop_data.specs.declared.shape.LoopShape.{LoopShape}
use Rattle.loop_data.specs.declared.trips.Trip.{Trip}
use Rattle.loop_data.specs.declared.verdict.Verdict.{Verdict}
use Rattle.loop_data.specs.declared.verdict.Verdict.TheVariants.{Limit, MixedCell, Carried, NoTrip, Irregular, Parallel}
use Rattle.loop_data.specs.Early.{IsEarly}
use Rattle.loop_data.specs.Graphs.{IsGraph}
use Rattle.loop_data.specs.Listed.{IsLine, HasVerdict}
use Rattle.loop_data.specs.LoopWords.{AreNest}
use Rattle.loop_data.specs.Accesses.{access_count}
use Rattle.loop_data.specs.Locations.{cell_at}
use Rattle.loop_data.specs.LoopCode.{code_of}
use Rattle.loop_data.specs.Lookups.{cell_map, form_at}
use Rattle.loop_data.specs.Nests.{Nest}
use Rattle.loop_data.specs.Results.{IsNestOf, AreClasses, AreEquations}
use Rattle.loop_data.specs.declared.plans.Plan.{Plan}
use Rattle.loop_data.specs.declared.verdict.Cell.{Cell}
use Rattle.stack_slots.specs.CellLaws.{FaultLaw, FewAccessesLaw}
use Rattle.stack_slots.specs.Results.{AreCellsOf}
use Rattle.induction.specs.Results.{IsLeastCarried}
use Rattle.alias_checks.specs.declared.lists.Check.{Check}
use Rattle.alias_checks.specs.Listing.{ArePairs, AreSameCells, bounds_of}
use Rattle.loop_data.specs.Trips.{IsTripAt}
use Rattle.loop_shapes.specs.Laws.{NestLaw}
use Rattle.loop_choice.specs.Analysis.{cell_of, AreSound, AreConfirmed, AreTrips, IsFirstWithoutTrip, AreAccessesOf, IsIrregularAt, AreFound}
use Rattle.loop_choice.specs.Entries.{HasAllEntries}
use Rattle.loop_choice.specs.Judging.{IsOneOfLoops, IsPlanOf}
use Rattle.loop_choice.specs.Pairs.{HasNoHopelessPair, IsFirstHopelessPair, IsDependence, IsDependenceAt}
use Rattle.loop_choice.specs.Verdicts.{IsNestVerdict, IsVerdictBy, IsVerdict}
use Rattle.loop_choice.proofs.Lists.{get_push, element_at, one_element}

-- ---- the list of loops

pub nest_of_loop : (elf : Elf) (G : Graph) (s : LoopShape) → NestLaw → IsGraph elf G → IsOneOfLoops G s → s.early ≡ None → AreNest G s.levels
nest_of_loop elf G s law g (inl loop) e = (law elf G s g loop e).nest
nest_of_loop elf G s law g (inr edge) e = let l = edge.early in absurd (cc)

-- the shape decides no loop to be Parallel
pub no_parallel_shape : (G : Graph) (s : LoopShape) (v : Verdict) → IsOneOfLoops G s → s.early ≡ Some v → v ≢ Parallel
no_parallel_shape G s v (inl loop) e p = subst (IsEarly G s.header) (e ∙ ap (λ (w : Verdict). Some w) p) loop.early
no_parallel_shape G s v (inr edge) e p = by edge.line
  where
    by : IsLine G s.header edge.verdict → ⊥
    by (inl limit) = let l = limit.is in let f = edge.early in absurd (cc)
    by (inr entry) =
        let f = edge.early in
        let q : edge.verdict ≡ Parallel = cc in
        subst (HasVerdict G s.header entry.source) q entry.verdict

-- ---- trips

abbrev pub AreTripsTo : Graph → List Level → (ℕ → ℕ → Option LinearForm) → ℕ → List Trip → Type 0
AreTripsTo G levels at n trips = (length trips ≡ n) × ((i : ℕ) (t : Trip) → slice_get trips i ≡ Some t → IsTripAt G levels at i (Some t))

pub no_trips : (G : Graph) (levels : List Level) (at : ℕ → ℕ → Option LinearForm) → AreTripsTo G levels at 0 []
no_trips G levels at = (refl, λ i t e. absurd (cc))

pub trip_more : (G : Graph) (levels : List Level) (at : ℕ → ℕ → Option LinearForm) (n : ℕ) (trips : List Trip) (t : Trip) → AreTripsTo G levels at n trips
    → IsTripAt G levels at n (Some t) → AreTripsTo G levels at (n + 1) (trips ++ t ∷ [])
trip_more G levels at n trips t (count, each) is = (let l = length_push trips t in omega arith, λ i x e. by i x (get_push trips t i x e))
  where
    by : (i : ℕ) (x : Trip) → (slice_get trips i ≡ Some x) ⊎ ((i ≡ length trips) × (t ≡ x)) → IsTripAt G levels at i (Some x)
    by i x (inl e) = each i x e
    by i x (inr p) = subst (λ k. IsTripAt G levels at k (Some x)) (sym (p.0 ∙ count)) (subst (λ (y : Trip). IsTripAt G levels at n (Some y)) p.1 is)

pub all_trips : (G : Graph) (levels : List Level) (at : ℕ → ℕ → Option LinearForm) (n : ℕ) (trips : List Trip) → n ≡ length levels → AreTripsTo G levels at n trips
    → AreTrips G levels at trips
all_trips G levels at n trips e (count, each) = record { count = count ∙ e; each = each }

pub first_without : (G : Graph) (levels : List Level) (at : ℕ → ℕ → Option LinearForm) (n exit : ℕ) (trips : List Trip) → n < length levels
    → AreTripsTo G levels at n trips → IsTripAt G levels at n None
    → ((l : Level) → slice_index_or levels n l ≡ l → exit ≡ l.exit) → IsFirstWithoutTrip G levels at exit
first_without G levels at n exit trips l (count, each) none left =
    let x = element_at levels n l in
    record {
      place = n;
      level = x.0;
      is = x.1;
      left = left x.0 (get_or_from_slice_get levels n x.0 x.0 x.1);
      none = none;
      others = λ i b. let t = element_at trips i (omega arith) in (t.0, each i t.0 t.1);
    }

-- ---- verdicts

module _ (G : Graph) (levels : List Level) (c : Cells) where
  abbrev Told : Verdict → Type 0
  Told v = IsNestVerdict G levels v × (v ≢ Parallel)

  pub by_cells : (v : Verdict) → FaultLaw → AreNest G levels → AreCellsOf G levels c → c.fault ≡ Some v → Told v
  by_cells v law nest are e =
      (inl (record { cells = c; are = are; fault = e }), λ p. other (law G levels c v nest are e) p)
    where
      other : (at : ℕ) × ((v ≡ Limit at) ⊎ (v ≡ MixedCell at)) → v ≡ Parallel → ⊥
      other (at, inl q) p = absurd (cc)
      other (at, inr q) p = absurd (cc)

  pub by_classes : (loc : Loc) (v : Verdict) → AreSound G levels c → IsLeastCarried G levels (cell_map c) loc → v ≡ Carried loc (cell_of c.list.items loc) → Told v
  by_classes loc v sound least e =
      (inr (inl (record { cells = c; sound = sound; loc = loc; least = least; verdict = e })), λ p. absurd (cc))

  module _ (k : Classes) (e : Equations) where
    pub by_forms : (loc : Loc) (v : Verdict) → AreSound G levels c → AreClasses G levels (cell_map c) k → AreEquations G levels (cell_map c) k e
        → e.unconfirmed ≡ Some loc → v ≡ Carried loc (cell_of c.list.items loc) → Told v
    by_forms loc v sound classes equations at q =
        (inr (inr (inl (record { cells = c; classes = k; equations = e; solved = record { sound = sound; classes = classes; equations = equations }; loc = loc; unconfirmed = at; verdict = q }))), λ p. absurd (cc))

    pub are_confirmed : AreSound G levels c → AreClasses G levels (cell_map c) k → AreEquations G levels (cell_map c) k e → e.unconfirmed ≡ None → AreConfirmed G levels c k e
    are_confirmed sound classes equations at = record { solved = record { sound = sound; classes = classes; equations = equations }; confirmed = at }

    pub by_trips : (exit : ℕ) → AreConfirmed G levels c k e → IsFirstWithoutTrip G levels (form_at e.points) exit → Told (NoTrip exit)
    by_trips exit confirmed first =
        (inr (inr (inr (inl (record { cells = c; classes = k; equations = e; confirmed = confirmed; exit = exit; first = first; verdict = refl })))), λ p. absurd (cc))

    pub by_addresses : (trips : List Trip) (at : ℕ) → AreConfirmed G levels c k e → AreTrips G levels (form_at e.points) trips → IsIrregularAt G levels c e at → Told (Irregular at)
    by_addresses trips at confirmed are irregular =
        (inr (inr (inr (inr (inl (record { cells = c; classes = k; equations = e; confirmed = confirmed; trips = trips; are_trips = are; at = at; irregular = irregular; verdict = refl }))))), λ p. absurd (cc))

    pub are_found : (trips : List Trip) (list : List Access) → AreConfirmed G levels c k e → AreTrips G levels (form_at e.points) trips → AreAccessesOf G levels c e list
        → AreFound G levels c k e trips list
    are_found trips list confirmed are accesses = record { confirmed = confirmed; are_trips = are; are_accesses = accesses }

    pub few_are : FewAccessesLaw → AreNest G levels → AreConfirmed G levels c k e → (N : Nest) → IsNestOf G levels N → access_count (code_of G (cell_map c)) N.root.body ≤ 32
    few_are law nest confirmed N is = let s = (confirmed.solved).sound in law G levels c N nest s.cells s.no_fault is

    pub by_pairs : (trips : List Trip) (seen list : List Access) (i j : ℕ) (v : Verdict) → seen ≡ list → AreFound G levels c k e trips list
        → IsFirstHopelessPair seen i j → IsDependenceAt seen i j v → Told v
    by_pairs trips seen list i j v same found first d =
        (inr (inr (inr (inr (inr (inl (record { cells = c; classes = k; equations = e; trips = trips; list = seen; found = subst (λ (xs : List Access). AreFound G levels c k e trips xs) (sym same) found; i = i; j = j; first = first; verdict = own })))))), λ r. let s = (d.verdict).verdict in absurd (cc))
      where
        own : IsDependence (first.pair).first (first.pair).second v
        own =
            let s : d.first ≡ (first.pair).first = one_element seen i d.first (first.pair).first d.at_first (first.pair).at_first in
            let t : d.second ≡ (first.pair).second = one_element seen j d.second (first.pair).second d.at_second (first.pair).at_second in
            subst (λ (a : Access). IsDependence a (first.pair).second v) s (subst (λ (a : Access). IsDependence d.first a v) t d.verdict)

pub dependence_there : (list : List Access) (i j : ℕ) (a b : Access) (v : Verdict) → i < length list → j < length list → a ≡ get_or list i a → b ≡ get_or list j b
    → IsDependence a b v → IsDependenceAt list i j v
dependence_there list i j a b v l m p q d = record {
  first = a;
  second = b;
  at_first = slice_get_read list (length list) i a refl l p;
  at_second = slice_get_read list (length list) j b refl m q;
  verdict = d;
}

-- ---- plans

pub plan_of : (G : Graph) (elf : Elf) (s : LoopShape) (e : Equations) (trips : List Trip) (list : List Access) (plan : Plan) (check : Check) → s.early ≡ None
    → AreFound G s.levels plan.cells plan.classes e trips list → HasNoHopelessPair list → plan.shape ≡ s → AreSameCells check.cells plan.cells
    → check.trips ≡ trips → check.duties ≡ e.duties → check.accesses.list.items ≡ list → ArePairs list check.pairs → check.areas ≡ bounds_of elf
    → HasAllEntries plan check → IsPlanOf G elf s plan check
plan_of G elf s e trips list plan check early found none shape cells same_trips duties same_list pairs areas entries = record {
  early = early;
  shape = shape;
  equations = e;
  found =
      subst (λ (ts : List Trip). AreFound G s.levels plan.cells plan.classes e ts check.accesses.list.items) (sym same_trips)
      (subst (λ (xs : List Access). AreFound G s.levels plan.cells plan.classes e trips xs) (sym same_list) found);
  none = subst HasNoHopelessPair (sym same_list) none;
  cells = cells;
  duties = duties;
  pairs = subst (λ (xs : List Access). ArePairs xs check.pairs) (sym same_list) pairs;
  areas = areas;
  entries = entries;
}

pub free_verdict : (G : Graph) (elf : Elf) (s : LoopShape) (plan : Plan) (check : Check) → IsPlanOf G elf s plan check → IsVerdict G s Parallel
free_verdict G elf s plan check p =
    subst (λ (o : Option Verdict). IsVerdictBy G s.levels o Parallel) (sym p.early)
    (inr (inr (inr (inr (inr (inr (record { cells = plan.cells; classes = plan.classes; equations = p.equations; trips = check.trips; list = check.accesses.list.items; found = p.found; none = p.none; verdict = refl })))))))

pub nest_verdict : (G : Graph) (s : LoopShape) (v : Verdict) → s.early ≡ None → IsNestVerdict G s.levels v → IsVerdict G s v
nest_verdict G s v e is = subst (λ (o : Option Verdict). IsVerdictBy G s.levels o v) (sym e) is

pub shape_verdict : (G : Graph) (s : LoopShape) (v : Verdict) → s.early ≡ Some v → IsVerdict G s v
shape_verdict G s v e = subst (λ (o : Option Verdict). IsVerdictBy G s.levels o v) (sym e) refl

-- ---- cells

pub cell_here : (cs : List Cell) (i : ℕ) (c : Cell) → i < length cs → c ≡ get_or cs i c → cell_at cs i ≡ Some c
cell_here [] i c l e = absurd (omega arith)
cell_here (x ∷ xs) zero c l e = ap (λ (d : Cell). Some d) (sym e)
cell_here (x ∷ xs) (suc i) c l e = cell_here xs i c (omega arith) e

pub cell_past : (cs : List Cell) (i : ℕ) → length cs ≤ i → cell_at cs i ≡ None
cell_past [] i l = refl
cell_past (x ∷ xs) zero l = absurd (omega arith)
cell_past (x ∷ xs) (suc i) l = cell_past xs i (omega arith)
