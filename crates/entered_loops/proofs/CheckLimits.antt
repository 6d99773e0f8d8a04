-- The check of a plan keeps to the limits of forms, of cells and of accesses.
use Rattle.std.proofs.Common.{◌≡◌, ℕ, zero, suc, ◌+◌, ◌<◌, ◌≤◌, inl, inr, refl, sym, subst, ap, ◌∙◌, arith, pos, Option, Some, None, Bool, true, false, if◌then◌else◌, List, [], ◌∷◌, length, map, get_or, ℤ}
use Rattle.std.specs.Prelude.{◌==◌, ◌&&◌, slice_get, slice_index_or}
use Rattle.std.specs.List.{All, Contains}
use Rattle.std.proofs.lemmas.Bool.Decides.{nat_tests}
use Rattle.std.proofs.lemmas.List.{length-map, get_or-map}
use Rattle.elf_image.specs.declared.image.Elf.{Elf}
use Rattle.rv64_decode.specs.declared.instr.Instr.{Instr}
use Rattle.rv64_decode.specs.declared.instr.Instr.TheVariants.{Branch}
use Rattle.rv64_decode.specs.declared.memory.Width.{Width}
use Rattle.rv64_decode.specs.Row.{plus_offset}
use Rattle.linear_forms.specs.Forms.{LinearForm, stride, is_small, difference, limited, pure, IsForm}
use Rattle.loop_data.specs.declared.accesses.Access.{Access}
use Rattle.loop_data.specs.declared.classes.Class.{Class}
use Rattle.loop_data.specs.declared.classes.Class.TheVariants.{Induction, Private as PrivateClass}
use Rattle.loop_data.specs.declared.classes.Classes.{Classes}
use Rattle.loop_data.specs.declared.equations.Duty.{Duty}
use Rattle.loop_data.specs.declared.graph.Graph.{Graph}
use Rattle.loop_data.specs.declared.plans.Plan.{Plan}
use Rattle.loop_data.specs.declared.shape.Level.{Level}
use Rattle.loop_data.specs.declared.shape.LoopShape.{LoopShape}
use Rattle.loop_data.specs.declared.trips.Relation.{Relation}
use Rattle.loop_data.specs.declared.trips.Relation.TheVariants.{Differ, Less, AtMost, More, AtLeast}
use Rattle.loop_data.specs.declared.trips.Trip.{Trip}
use Rattle.loop_data.specs.Accesses.{Motion, motion_at, address_form, is_regular, if_regular, accessed_form, AreAccesses, counted_with, access_count}
use Rattle.loop_data.specs.FormRows.{form_read, form_sum}
use Rattle.loop_data.specs.Independent.{Role, Moves}
use Rattle.loop_data.specs.LoopCode.{LoopCode, code_of, instr_among, any_writes}
use Rattle.loop_data.specs.LoopWords.{AreNest}
use Rattle.loop_data.specs.Lookups.{cell_map, form_at, role_by, classes_of, roles_by}
use Rattle.loop_data.specs.Nests.{Nest, nest_of, has, Among, In}
use Rattle.loop_data.specs.Results.{IsNestOf, AreSmall, AreSmallSteps}
use Rattle.loop_data.specs.Trips.{stay, is_signed, turned, approaches, is_still, moves_at, trip_toward, or_else, trip_to_zero, trip_between, trip_read, trip_by, IsTripAt}
use Rattle.loop_data.proofs.Lists.{no_longer, apart_from_increasing}
use Rattle.loop_data.proofs.Steps.{contains_has}
use Rattle.stack_slots.specs.CellLaws.{NumberedLaw, FewAccessesLaw}
use Rattle.alias_checks.specs.declared.lists.Check.{Check}
use Rattle.loop_choice.specs.Judging.{IsPlanOf}
use Rattle.check_code.specs.Checkable.{KeepsLimits}
use Rattle.entered_loops.proofs.FormLimits.{Fine, Ordered, in_order, limited_fine, pure_fine, read_fine, sum_ordered, difference_ordered, kept_fine, duty_fine, forms_fine}

-- ---- trips

pub record IsFineTrip (t : Trip) : Type 0 where
  pub start : IsForm t.start
  pub bound : IsForm t.bound

toward_fine : (depth : ℕ) (relation : Relation) (signed : Bool) (f g : LinearForm) (t : Trip) → IsForm f → IsForm g
    → trip_toward depth relation signed f g ≡ Some t → IsFineTrip t
toward_fine depth relation signed f g t a b e =
    by_test (is_still g && (moves_at depth f && approaches relation (stride f depth))) e
  where
    some_trip : (x y : Trip) → Some x ≡ Some y → x ≡ y
    some_trip x y q = cc

    by_test : (c : Bool)
        → (if c then Some (record { relation = relation; signed = signed; start = f; bound = g; step = stride f depth }) else None)
        ≡ Some t → IsFineTrip t
    by_test true q = subst IsFineTrip (some_trip _ t q) (record { start = a; bound = b })
    by_test false q = absurd (cc)

either_fine : (o p : Option Trip) (t : Trip) → (o ≡ Some t → IsFineTrip t) → (p ≡ Some t → IsFineTrip t)
    → or_else o p ≡ Some t → IsFineTrip t
either_fine (Some u) p t a b e = a e
either_fine None p t a b e = b e

order_fine : (depth : ℕ) (relation : Relation) (signed : Bool) (f g : LinearForm) (t : Trip) → IsForm f → IsForm g
    → or_else (trip_toward depth relation signed f g) (trip_toward depth (turned relation) signed g f) ≡ Some t
    → IsFineTrip t
order_fine depth relation signed f g t a b e =
    either_fine (trip_toward depth relation signed f g) (trip_toward depth (turned relation) signed g f) t
    (λ q. toward_fine depth relation signed f g t a b q) (λ q. toward_fine depth (turned relation) signed g f t b a q) e

zero_fine : (depth : ℕ) (o : Option LinearForm) (t : Trip) → Fine o → trip_to_zero depth o ≡ Some t → IsFineTrip t
zero_fine depth (Some h) t a e = toward_fine depth Differ true h (pure (pos 0)) t a (pure_fine (pos 0) refl) e
zero_fine depth None t a e = absurd (cc)

between_fine : (depth : ℕ) (relation : Relation) (signed : Bool) (f g : LinearForm) (t : Trip) → IsForm f → IsForm g
    → trip_between depth relation signed f g ≡ Some t → IsFineTrip t
between_fine depth Differ signed f g t a b e =
    zero_fine depth (limited (difference f g)) t
    (limited_fine (difference f g) (difference_ordered (Some f) (Some g) a.terms.ordered b.terms.ordered)) e
between_fine depth Less signed f g t a b e = order_fine depth Less signed f g t a b e
between_fine depth AtMost signed f g t a b e = order_fine depth AtMost signed f g t a b e
between_fine depth More signed f g t a b e = order_fine depth More signed f g t a b e
between_fine depth AtLeast signed f g t a b e = order_fine depth AtLeast signed f g t a b e

operands_fine : (depth : ℕ) (o : Option Relation) (signed : Bool) (f g : Option LinearForm) (t : Trip) → Fine f → Fine g
    → trip_read depth o signed f g ≡ Some t → IsFineTrip t
operands_fine depth (Some relation) signed (Some f) (Some g) t a b e = between_fine depth relation signed f g t a b e
operands_fine depth (Some relation) signed (Some f) None t a b e = absurd (cc)
operands_fine depth (Some relation) signed None g t a b e = absurd (cc)
operands_fine depth None signed f g t a b e = absurd (cc)

branch_fine : (l : Level) (o : Option Instr) (F : ℕ → Option LinearForm) (t : Trip) → ((q : ℕ) → Fine (F q))
    → trip_by l o F ≡ Some t → IsFineTrip t
branch_fine l (Some (Branch op rs1 rs2 imm)) F t h e =
    operands_fine l.depth (stay op (has l.body (plus_offset l.exit imm))) (is_signed op) (form_read F rs1) (form_read F rs2)
    t (read_fine F rs1 h) (read_fine F rs2 h) e
branch_fine l o F t h e = absurd (cc)

-- ---- addresses

regular_fine : (width : Width) (o : Option LinearForm) (f : LinearForm) → Fine o → if_regular width o ≡ Some f → IsForm f
regular_fine width (Some g) f h e = by_test (is_regular width g) e
  where
    by_test : (t : Bool) → (if t then Some g else None) ≡ Some f → IsForm f
    by_test true e = subst Fine e h
    by_test false e = absurd (cc)
regular_fine width None f h e = absurd (cc)

accessed_fine : (F : ℕ → Option LinearForm) (x : Motion) (f : LinearForm) → ((q : ℕ) → Fine (F q))
    → accessed_form F x ≡ Some f → IsForm f
accessed_fine F x f h e =
    regular_fine x.width (address_form F x.base x.offset) f
    (kept_fine (form_sum (form_read F x.base) (Some (pure x.offset)))
    (sum_ordered (form_read F x.base) (Some (pure x.offset)) (in_order (form_read F x.base) (read_fine F x.base h)) tt)) e

-- ---- how many accesses there are

with_access : Option Motion → ℕ → List ℕ → List ℕ
with_access None u us = us
with_access (Some m) u us = u ∷ us

accessing : LoopCode → List ℕ → List ℕ
accessing B [] = []
accessing B (u ∷ us) = with_access (motion_at B u) u (accessing B us)

accessing_count : (B : LoopCode) (us : List ℕ) → length (accessing B us) ≡ access_count B us
unfolding accessing with_access
accessing_count B [] = refl
accessing_count B (u ∷ us) = go (motion_at B u) (accessing_count B us)
  where
    go : (o : Option Motion) → length (accessing B us) ≡ access_count B us
        → length (with_access o u (accessing B us)) ≡ counted_with o (access_count B us)
    go None e = e
    go (Some m) e = ap suc e

later_access : (o : Option Motion) (u x : ℕ) (us : List ℕ) → Contains us x → Contains (with_access o u us) x
unfolding with_access
later_access None u x us c = c
later_access (Some m) u x us c = let l = c.1 in (suc c.0, omega (arith, l), c.2)

accessing_has : (B : LoopCode) (us : List ℕ) (x : ℕ) (m : Motion) → motion_at B x ≡ Some m → Contains us x
    → Contains (accessing B us) x
unfolding accessing with_access
accessing_has B us x m e c = at_place us c.0 c.1 c.2
  where
    here : (u : ℕ) (us : List ℕ) (o : Option Motion) → u ≡ x → o ≡ Some m → Contains (with_access o u us) x
    here u us None q f = absurd (cc)
    here u us (Some n) q f = (0, omega arith, q)

    at_place : (us : List ℕ) (k : ℕ) → k < length us → slice_index_or us k x ≡ x → Contains (accessing B us) x
    at_place [] k l q = absurd (omega (arith, l))
    at_place (u ∷ us) zero l q = here u (accessing B us) (motion_at B u) q (ap (motion_at B) q ∙ e)
    at_place (u ∷ us) (suc k) l q =
        later_access (motion_at B u) u x (accessing B us) (at_place us k (omega (arith, l)) q)

-- an access at an address among those of a list
access_at : (xs : List Access) (u i : ℕ) → i < length (map (λ (a : Access). a.at) xs)
    → get_or (map (λ (a : Access). a.at) xs) i u ≡ u → (a : Access) × Contains xs a × (a.at ≡ u)
access_at [] u i l e = absurd (omega arith)
access_at (a ∷ xs) u zero l e = (a, (0, omega arith, refl), e)
access_at (a ∷ xs) u (suc i) l e =
    let r = access_at xs u i (omega arith) e in
    (r.0, (suc r.1.0, (let m = r.1.1 in omega arith), r.1.2), r.2)

few_listed : (levels : List Level) (body : List ℕ) (B : LoopCode) (at : ℕ → ℕ → Option LinearForm) (list : List Access)
    → AreAccesses levels body B at list → length list ≤ access_count B body
few_listed levels body B at list h =
    let n = length-map list (λ (a : Access). a.at) in
    let c = accessing_count B body in
    let fewer = no_longer (map (λ (a : Access). a.at) list) (accessing B body)
    (apart_from_increasing (map (λ (a : Access). a.at) list) h.ordered) each in
    omega (arith, n, c, fewer)
  where
    each : (x : ℕ) → Contains (map (λ (a : Access). a.at) list) x → Contains (accessing B body) x
    each x c =
        let r = access_at list x c.0 c.1 c.2 in
        let a = h.each r.0 r.1 in
        subst (Contains (accessing B body)) r.2 (accessing_has B body (r.0).at a.1.motion a.1.moves a.0)

-- ---- steps of inductions

small_rows : (ms : List Level) (rows : List (List (Option Class))) (l : Level)
    → ((i : ℕ) → AreSmall (slice_index_or rows i [])) → AreSmall (classes_of ms rows l)
small_rows [] rows l h = λ r step e. absurd (cc)
small_rows (m ∷ ms) [] l h = λ r step e. absurd (cc)
small_rows (m ∷ ms) (row ∷ rows) l h = go (m.header == l.header) (small_rows ms rows l (λ i. h (suc i)))
  where
    go : (b : Bool) → AreSmall (classes_of ms rows l) → AreSmall (if b then row else classes_of ms rows l)
    go true later = h 0
    go false later = later

small_class : (ms : List Level) (c : Classes) (l : Level) → AreSmallSteps c
    → AreSmall (classes_of ms (c.root ∷ c.inner) l)
small_class ms c l s = small_rows ms (c.root ∷ c.inner) l row
  where
    row : (i : ℕ) → AreSmall (slice_index_or (c.root ∷ c.inner) i [])
    row zero = s.root
    row (suc i) = s.inner i

-- a location that moves on has a class that says so
class_of_moves : (written : Bool) (o : Option Class) (z : ℤ) → role_by written o ≡ Moves z → o ≡ Some (Induction z)
class_of_moves written (Some (Induction step)) z e = let q : step ≡ z = cc in ap (λ (y : ℤ). Some (Induction y)) q
class_of_moves written (Some PrivateClass) z e = absurd (cc)
class_of_moves true None z e = absurd (cc)
class_of_moves false None z e = absurd (cc)

small_role : (B : LoopCode) (ms : List Level) (c : Classes) (l : Level) (r : ℕ) (z : ℤ) → AreSmallSteps c
    → roles_by B ms c l r ≡ Moves z → is_small z ≡ true
small_role B ms c l r z s e =
    small_class ms c l s r z
    (class_of_moves (any_writes B l.body r) (slice_index_or (classes_of ms (c.root ∷ c.inner) l) r None) z e)

-- ---- places

same_place : {X : Type 0} (xs : List X) (i : ℕ) (d e : X) → i < length xs → slice_index_or xs i d ≡ slice_index_or xs i e
same_place [] i d e h = absurd (omega (arith, h))
same_place (x ∷ xs) zero d e h = refl
same_place (x ∷ xs) (suc i) d e h = same_place xs i d e (omega (arith, h))

taken : {X : Type 0} (xs : List X) (i : ℕ) (d : X) → i < length xs → slice_get xs i ≡ Some (slice_index_or xs i d)
taken [] i d h = absurd (omega (arith, h))
taken (x ∷ xs) zero d h = refl
taken (x ∷ xs) (suc i) d h = taken xs i d (omega (arith, h))

contains_at : {X : Type 0} (xs : List X) (i : ℕ) (d : X) → i < length xs → Contains xs (slice_index_or xs i d)
contains_at xs i d h = (i, h, same_place xs i (slice_index_or xs i d) d h)

level_among : (root : Level) (inner : List Level) (i : ℕ) (d : Level) → i < length (root ∷ inner)
    → In (root ∷ inner) (slice_index_or (root ∷ inner) i d)
level_among root inner zero d h = inl refl
level_among root [] (suc i) d h = absurd (omega (arith, h))
level_among root (l ∷ ls) (suc i) d h = inr (level_among l ls i d (omega (arith, h)))

-- ---- the check

module _ (numbered : NumberedLaw) (few_law : FewAccessesLaw) (elf : Elf) (G : Graph) (shape : LoopShape) (plan : Plan)
    (check : Check) (nest : AreNest G shape.levels) (p : IsPlanOf G elf shape plan check) where
  abbrev N : Nest
  N = nest_of G nest.root nest.inner

  abbrev B : LoopCode
  B = code_of G (cell_map plan.cells)

  of : IsNestOf G shape.levels N
  of = record { root = nest.root; inner = nest.inner; are = nest.are; is = refl }

  few_cells : length plan.cells.list.items ≤ 16
  few_cells =
      let s = p.found.confirmed.solved.sound in (numbered G shape.levels plan.cells nest s.cells s.no_fault).few

  fine_at : (u : ℕ) → has nest.root.body u ≡ true → (r : ℕ) → Fine (form_at p.equations.points u r)
  fine_at u h r =
      let s = p.found.confirmed.solved in
      forms_fine N B (roles_by B shape.levels plan.classes) (form_at p.equations.points) nest.nest (s.equations.forms N of)
      few_cells (λ l q z e. small_role B shape.levels plan.classes l q z s.classes.steps e) u h r

  among : (i : ℕ) (d : Level) → i < length shape.levels → Among N (slice_index_or shape.levels i d)
  among i d h =
      subst (λ ls. In (nest.root ∷ nest.inner) (slice_index_or ls i d)) (sym nest.are)
      (level_among nest.root nest.inner i d (subst (λ ls. i < length ls) nest.are h))

  one_trip : (i : ℕ) (d : Level) (t : Trip) → i < length shape.levels
      → IsTripAt G shape.levels (form_at p.equations.points) i (Some t) → IsFineTrip t
  one_trip i d t h at =
      let l = slice_index_or shape.levels i d in
      let m = among i d h in
      let inside = nest.nest.bodies.within l m l.exit (nest.nest.shapes.sides l m).inside in
      branch_fine l (instr_among G.words l.exit) (form_at p.equations.points l.exit) t (fine_at l.exit inside)
      (at l (same_place shape.levels i l d h))

  each_trip : (i : ℕ) (t : Trip) → i < length check.trips → IsFineTrip (slice_index_or check.trips i t)
  each_trip i t h =
      let n = p.found.are_trips.count in
      one_trip i nest.root (slice_index_or check.trips i t) (omega (arith, h, n))
      (p.found.are_trips.each i (slice_index_or check.trips i t) (taken check.trips i t h))

  one_duty : (d : Duty) → Contains p.equations.duties d → IsForm d.form
  one_duty d h =
      let x = (p.found.confirmed.solved.equations.duties N of).each d h in
      let k = duty_fine B d.at (form_at p.equations.points d.at)
      (fine_at d.at (contains_has nest.root.body d.at x.0)) in
      subst Fine x.1.form k

  each_duty : All (λ (d : Duty). IsForm d.form) check.duties
  each_duty i d h =
      one_duty (slice_index_or check.duties i d)
      (subst (λ ds. Contains ds (slice_index_or check.duties i d)) p.duties (contains_at check.duties i d h))

  one_access : (a : Access) → Contains check.accesses.list.items a → IsForm a.form
  one_access a h =
      let x = (p.found.are_accesses N of).each a h in
      accessed_fine (form_at p.equations.points a.at) x.1.motion a.form
      (fine_at a.at (contains_has nest.root.body a.at x.0)) x.1.form

  few_accesses : length check.accesses.list.items ≤ 32
  few_accesses =
      let s = p.found.confirmed.solved.sound in
      let few = few_law G shape.levels plan.cells N nest s.cells s.no_fault of in
      let most = few_listed shape.levels N.root.body B (form_at p.equations.points) check.accesses.list.items
      (p.found.are_accesses N of) in
      omega (arith, few, most)

  pub plan_limits : KeepsLimits check
  plan_limits = record {
    few_cells = subst (λ cs. length cs ≤ 16) (sym p.cells.list) few_cells;
    few_accesses = few_accesses;
    starts = λ i t h. (each_trip i t h).start;
    bounds = λ i t h. (each_trip i t h).bound;
    duties = each_duty;
    accesses = λ i a h. one_access (slice_index_or check.accesses.list.items i a)
        (contains_at check.accesses.list.items i a h);
  }
