-- Two verdicts of a loop are the same, one step of the analysis after the other.
use Rattle.std.proofs.Common.{◌≡◌, ◌⊎◌, inl, inr, ℕ, ◌<◌, ◌≤◌, List, length, get_or, map, Option, Some, None, refl, ap, sym, ◌∙◌, subst, arith}
use mathlib.Core.Path.{fun_ext}
use Rattle.std.specs.Prelude.{slice_get}
use Rattle.std.proofs.lemmas.Bool.{cases_lt}
use Rattle.std.proofs.lemmas.Option.{slice_get_within, slice_get_cases}
use Rattle.elf_image.specs.declared.image.Elf.{Elf}
use Rattle.linear_forms.specs.Forms.{LinearForm}
use Rattle.linear_forms.specs.declared.location.Loc.{Loc}
use Rattle.loop_data.specs.declared.accesses.Access.{Access}
use Rattle.loop_data.specs.declared.cells.Cells.{Cells}
use Rattle.loop_data.specs.declared.classes.Classes.{Classes}
use Rattle.loop_data.specs.declared.equations.Equations.{Equations}
use Rattle.loop_data.specs.declared.graph.Graph.{Graph}
use Rattle.loop_data.specs.declared.shape.Level.{Level}
use Rattle.loop_data.specs.declared.shape.LoopShape.{LoopShape}
use Rattle.loop_data.specs.declared.trips.Trip.{Trip}
use Rattle.loop_data.specs.declared.verdict.Verdict.{Verdict}
use Rattle.loop_data.specs.declared.verdict.Verdict.TheVariants.{Carried, NoTrip, Irregular, Parallel}
use Rattle.loop_data.specs.Accesses.{AreAccesses, IsLeastIrregular}
use Rattle.loop_data.specs.Graphs.{IsGraph}
use Rattle.loop_data.specs.LoopCode.{LoopCode, code_of}
use Rattle.loop_data.specs.LoopWords.{AreNest}
use Rattle.loop_data.specs.Lookups.{cell_map, form_at}
use Rattle.loop_data.specs.Nests.{Nest, nest_of}
use Rattle.loop_data.specs.Results.{IsNestOf, AreClasses, AreEquations}
use Rattle.loop_data.specs.Trips.{IsTripAt}
use Rattle.affine_addresses.specs.OneList.{placed}
use Rattle.affine_addresses.specs.OneList as accesses
use Rattle.distance_vectors.specs.Distances.{OneDistanceLaw}
use Rattle.induction.specs.OneClass.{OneClassLaw, OneInnerClassLaw, NoneCarriedLaw, OneCarriedLaw}
use Rattle.induction.specs.Results.{IsLeastCarried}
use Rattle.register_equations.specs.OneResult.{AreAnswers, OneFormLaw, OneUnconfirmedLaw}
use Rattle.stack_slots.specs.OneList as cells
use Rattle.stack_slots.specs.Results.{AreCellsOf}
use Rattle.trip_counts.specs.OneTrip.{OneTripLaw}
use Rattle.loop_choice.specs.Analysis.{cell_of, AreSound, AreConfirmed, AreTrips, IsFirstWithoutTrip}
use Rattle.loop_choice.specs.Judging.{IsOneOfLoops}
use Rattle.loop_choice.specs.OneVerdict.{OneNestVerdictLaw, OneVerdictLaw}
use Rattle.loop_choice.specs.Pairs.{HasNoHopelessPair}
use Rattle.loop_choice.specs.Verdicts.{IsNestVerdict, IsVerdictBy, IsVerdict}
use Rattle.loop_shapes.specs.Laws.{NestLaw}
use Rattle.loop_choice.proofs.OneDependence.{IsByFirst, one_by_first, moved_none}

-- the laws of the steps
pub record Laws : Type 0 where
  pub cells : cells.OneListLaw
  pub class : OneClassLaw
  pub inner : OneInnerClassLaw
  pub carried : OneCarriedLaw
  pub none_carried : NoneCarriedLaw
  pub form : OneFormLaw
  pub unconfirmed : OneUnconfirmedLaw
  pub trip : OneTripLaw
  pub list : accesses.OneListLaw
  pub irregular : accesses.OneIrregularLaw
  pub none_irregular : accesses.NoneIrregularLaw
  pub distance : OneDistanceLaw

inside : {X : Type 0} {x y : X} → Some x ≡ Some y → x ≡ y
inside e = cc

never : {X : Type 0} {x : X} → Some x ≡ None → ⊥
never e = absurd (cc)

module _ (laws : Laws) (G : Graph) (ls : List Level) (nest : AreNest G ls) where
  abbrev N : Nest
  N = nest_of G nest.root nest.inner

  this : IsNestOf G ls N
  this = record { root = nest.root; inner = nest.inner; are = nest.are; is = refl }

  -- ---- what is left to be told by each step

  -- by the pairs of the accesses
  abbrev ByPairs : List Access → Verdict → Type 0
  ByPairs list v = IsByFirst list v ⊎ (HasNoHopelessPair list × (v ≡ Parallel))

  -- by the addresses, where the locations have these forms
  abbrev ByAddresses : LoopCode → (ℕ → ℕ → Option LinearForm) → Verdict → Type 0
  ByAddresses B at v =
      ((u : ℕ) × IsLeastIrregular N.root.body B at u × (v ≡ Irregular u))
      ⊎ ((list : List Access) × AreAccesses ls N.root.body B at list × ByPairs list v)

  -- by the trips
  abbrev ByTrips : LoopCode → (ℕ → ℕ → Option LinearForm) → Verdict → Type 0
  ByTrips B at v =
      ((exit : ℕ) × IsFirstWithoutTrip G ls at exit × (v ≡ NoTrip exit))
      ⊎ ((trips : List Trip) × AreTrips G ls at trips × ByAddresses B at v)

  -- by the forms, of which one is not confirmed or none
  abbrev ByForms : Cells → Option Loc → (ℕ → ℕ → Option LinearForm) → Verdict → Type 0
  ByForms c (Some loc) at v = v ≡ Carried loc (cell_of c.list.items loc)
  ByForms c None at v = ByTrips (code_of G (cell_map c)) at v

  -- by the classes
  abbrev ByClasses : Cells → Verdict → Type 0
  ByClasses c v =
      ((loc : Loc) × IsLeastCarried G ls (cell_map c) loc × (v ≡ Carried loc (cell_of c.list.items loc)))
      ⊎ ((k : Classes) × (e : Equations) × AreClasses G ls (cell_map c) k × AreEquations G ls (cell_map c) k e × ByForms c e.unconfirmed (form_at e.points) v)

  -- by the cells, which have a fault or none
  abbrev ByFault : Cells → Option Verdict → Verdict → Type 0
  ByFault c (Some w) v = v ≡ w
  ByFault c None v = ByClasses c v

  abbrev ByCells : Verdict → Type 0
  ByCells v = (c : Cells) × AreCellsOf G ls c × ByFault c c.fault v

  -- ---- each step tells one verdict

  by_pairs : (xs ys : List Access) (v w : Verdict) → map placed xs ≡ map placed ys → ByPairs xs v → ByPairs ys w → v ≡ w
  by_pairs xs ys v w e (inl f) (inl g) = one_by_first laws.distance xs ys e v w f g
  by_pairs xs ys v w e (inl f) (inr g) = absurd (moved_none ys xs (sym e) g.0 f.i f.j f.first.pair)
  by_pairs xs ys v w e (inr f) (inl g) = absurd (moved_none xs ys e f.0 g.i g.j g.first.pair)
  by_pairs xs ys v w e (inr f) (inr g) = f.1 ∙ sym g.1

  by_addresses : (B : LoopCode) (at : ℕ → ℕ → Option LinearForm) (v w : Verdict) → ByAddresses B at v → ByAddresses B at w → v ≡ w
  by_addresses B at v w (inl f) (inl g) = f.2 ∙ ap Irregular (laws.irregular N.root.body B at f.0 g.0 f.1 g.1) ∙ sym g.2
  by_addresses B at v w (inl f) (inr g) = absurd (laws.none_irregular ls N.root.body B at g.0 f.0 g.1 f.1)
  by_addresses B at v w (inr f) (inl g) = absurd (laws.none_irregular ls N.root.body B at f.0 g.0 f.1 g.1)
  by_addresses B at v w (inr f) (inr g) = by_pairs f.0 g.0 v w (laws.list G ls N.root.body B at f.0 g.0 nest f.1 g.1) f.2 g.2

  -- no level without a trip stands where there is a trip
  no_trip : (at : ℕ → ℕ → Option LinearForm) (i : ℕ) (t : Trip) → i < length ls → IsTripAt G ls at i (Some t) → IsTripAt G ls at i None → ⊥
  no_trip at i t l f g = never (laws.trip G ls at i (Some t) None l f g)

  one_exit : (at : ℕ → ℕ → Option LinearForm) (x y : ℕ) → IsFirstWithoutTrip G ls at x → IsFirstWithoutTrip G ls at y → x ≡ y
  one_exit at x y f g = by (cases_lt f.place g.place) (cases_lt g.place f.place)
    where
      by : (f.place < g.place) ⊎ (g.place ≤ f.place) → (g.place < f.place) ⊎ (f.place ≤ g.place) → x ≡ y
      by (inl l) m = absurd (let t = g.others f.place l in no_trip at f.place t.0 (slice_get_within ls f.place f.level f.is) t.1 f.none)
      by (inr l) (inl m) = absurd (let t = f.others g.place m in no_trip at g.place t.0 (slice_get_within ls g.place g.level g.is) t.1 g.none)
      by (inr l) (inr m) =
          let e : f.place ≡ g.place = omega arith in
          f.left ∙ ap (λ (z : Level). z.exit) (inside (sym f.is ∙ ap (slice_get ls) e ∙ g.is)) ∙ sym g.left

  all_trips : (at : ℕ → ℕ → Option LinearForm) (x : ℕ) (trips : List Trip) → IsFirstWithoutTrip G ls at x → AreTrips G ls at trips → ⊥
  all_trips at x trips f g = by (slice_get_cases trips f.place).1
    where
      within : f.place < length ls
      within = slice_get_within ls f.place f.level f.is

      by : ((t : Trip) × (f.place < length trips) × (slice_get trips f.place ≡ Some t) × (get_or trips f.place t ≡ t)) ⊎ ((length trips ≤ f.place) × (slice_get trips f.place ≡ None)) → ⊥
      by (inl t) = no_trip at f.place t.0 within (g.each f.place t.0 t.2) f.none
      by (inr p) = absurd (let c = g.count in let l = p.0 in let m = within in omega arith)

  by_trips : (B : LoopCode) (at : ℕ → ℕ → Option LinearForm) (v w : Verdict) → ByTrips B at v → ByTrips B at w → v ≡ w
  by_trips B at v w (inl f) (inl g) = f.2 ∙ ap NoTrip (one_exit at f.0 g.0 f.1 g.1) ∙ sym g.2
  by_trips B at v w (inl f) (inr g) = absurd (all_trips at f.0 g.0 f.1 g.1)
  by_trips B at v w (inr f) (inl g) = absurd (all_trips at g.0 f.0 g.1 f.1)
  by_trips B at v w (inr f) (inr g) = by_addresses B at v w f.2 g.2

  by_forms : (c : Cells) (o : Option Loc) (at : ℕ → ℕ → Option LinearForm) (v w : Verdict) → ByForms c o at v → ByForms c o at w → v ≡ w
  by_forms c (Some loc) at v w f g = f ∙ sym g
  by_forms c None at v w f g = by_trips (code_of G (cell_map c)) at v w f g

  by_classes : (c : Cells) (v w : Verdict) → ByClasses c v → ByClasses c w → v ≡ w
  by_classes c v w (inl f) (inl g) = f.2 ∙ ap (λ (l : Loc). Carried l (cell_of c.list.items l)) (laws.carried G ls (cell_map c) f.0 g.0 nest f.1 g.1) ∙ sym g.2
  by_classes c v w (inl f) (inr g) = absurd (laws.none_carried G ls (cell_map c) g.0 f.0 nest g.2 f.1)
  by_classes c v w (inr f) (inl g) = absurd (laws.none_carried G ls (cell_map c) f.0 g.0 nest f.2 g.1)
  by_classes c v w (inr f) (inr g) = by_forms c (f.1).unconfirmed (form_at (f.1).points) v w f.4 moved
    where
      answers : AreAnswers G ls (cell_map c) f.1 g.1
      answers = record {
        nest = nest;
        first = f.0;
        second = g.0;
        alike = record { root = laws.class G ls (cell_map c) f.0 g.0 nest f.2 g.2; inner = laws.inner G ls (cell_map c) f.0 g.0 nest f.2 g.2 };
        one = f.3;
        other = g.3;
      }

      forms : form_at (g.1).points ≡ form_at (f.1).points
      forms = fun_ext (λ u. fun_ext (λ r. sym (laws.form G ls (cell_map c) f.1 g.1 answers u r)))

      moved : ByForms c (f.1).unconfirmed (form_at (f.1).points) w
      moved =
          subst (λ (at : ℕ → ℕ → Option LinearForm). ByForms c (f.1).unconfirmed at w) forms
          (subst (λ (o : Option Loc). ByForms c o (form_at (g.1).points) w) (sym (laws.unconfirmed G ls (cell_map c) f.1 g.1 answers)) g.4)

  by_fault : (c : Cells) (o : Option Verdict) (v w : Verdict) → ByFault c o v → ByFault c o w → v ≡ w
  by_fault c (Some x) v w f g = f ∙ sym g
  by_fault c None v w f g = by_classes c v w f g

  by_cells : (v w : Verdict) → ByCells v → ByCells w → v ≡ w
  by_cells v w f g = by_fault f.0 (f.0).fault v w f.2 (subst (λ (c : Cells). ByFault c c.fault w) (laws.cells G ls g.0 f.0 nest g.1 f.1) g.2)

  -- ---- each verdict is one of the steps

  sound : (c : Cells) (v : Verdict) → AreSound G ls c → ByClasses c v → ByCells v
  sound c v s b = (c, s.cells, subst (λ (o : Option Verdict). ByFault c o v) (sym s.no_fault) b)

  confirmed : (c : Cells) (k : Classes) (e : Equations) (v : Verdict) → AreConfirmed G ls c k e → ByTrips (code_of G (cell_map c)) (form_at e.points) v → ByCells v
  confirmed c k e v a b = sound c v a.solved.sound (inr (k, e, a.solved.classes, a.solved.equations, subst (λ (o : Option Loc). ByForms c o (form_at e.points) v) (sym a.confirmed) b))

  told : (v : Verdict) → IsNestVerdict G ls v → ByCells v
  told v (inl r) = (r.cells, r.are, subst (λ (o : Option Verdict). ByFault r.cells o v) (sym r.fault) refl)
  told v (inr (inl r)) = sound r.cells v r.sound (inl (r.loc, r.least, r.verdict))
  told v (inr (inr (inl r))) =
      sound r.cells v r.solved.sound
      (inr (r.classes, r.equations, r.solved.classes, r.solved.equations, subst (λ (o : Option Loc). ByForms r.cells o (form_at r.equations.points) v) (sym r.unconfirmed) r.verdict))
  told v (inr (inr (inr (inl r)))) = confirmed r.cells r.classes r.equations v r.confirmed (inl (r.exit, r.first, r.verdict))
  told v (inr (inr (inr (inr (inl r))))) = confirmed r.cells r.classes r.equations v r.confirmed (inr (r.trips, r.are_trips, inl (r.at, r.irregular N this, r.verdict)))
  told v (inr (inr (inr (inr (inr (inl r)))))) =
      confirmed r.cells r.classes r.equations v r.found.confirmed
      (inr (r.trips, r.found.are_trips, inr (r.list, r.found.are_accesses N this, inl (record { i = r.i; j = r.j; first = r.first; verdict = r.verdict }))))
  told v (inr (inr (inr (inr (inr (inr r)))))) =
      confirmed r.cells r.classes r.equations v r.found.confirmed (inr (r.trips, r.found.are_trips, inr (r.list, r.found.are_accesses N this, inr (r.none, r.verdict))))

pub one_nest_verdict : Laws → OneNestVerdictLaw
one_nest_verdict laws G ls v w nest f g = by_cells laws G ls nest v w (told laws G ls nest v f) (told laws G ls nest w g)

-- the levels of a listed loop whose shape decides nothing
pub nest_without_early : NestLaw → (elf : Elf) (G : Graph) (s : LoopShape) → IsGraph elf G → IsOneOfLoops G s → s.early ≡ None → AreNest G s.levels
nest_without_early nests elf G s graph (inl loop) e = (nests elf G s graph loop e).nest
nest_without_early nests elf G s graph (inr edge) e = absurd (never (sym edge.early ∙ e))

pub one_listed_verdict : NestLaw → OneNestVerdictLaw → OneVerdictLaw
one_listed_verdict nests law elf G s v w graph one f g = go s.early refl
  where
    by : (o : Option Verdict) → s.early ≡ o → (u : Verdict) → IsVerdict G s u → IsVerdictBy G s.levels o u
    by o e u h = subst (λ (p : Option Verdict). IsVerdictBy G s.levels p u) e h

    go : (o : Option Verdict) → s.early ≡ o → v ≡ w
    go (Some early) e = by (Some early) e v f ∙ sym (by (Some early) e w g)
    go None e = law G s.levels v w (nest_without_early nests elf G s graph one e) (by None e v f) (by None e w g)
