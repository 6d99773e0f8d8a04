-- The check of what the analysis finds of a nest can be told by its words.
use Rattle.std.proofs.Common.{◌≡◌, ℕ, zero, suc, ◌+◌, ◌<◌, ◌≤◌, inl, inr, refl, sym, subst, ap, arith, pos, Option, Some, None, Bool, true, false, cond, List, [], ◌∷◌, length}
use Rattle.std.specs.Prelude.{◌==◌, ◌&&◌, slice_get, slice_index, slice_index_or}
use Rattle.std.specs.List.{All, Contains}
use Rattle.std.proofs.lemmas.Bool.Decides.{nat_tests}
use Rattle.rv64_decode.specs.declared.instr.Instr.{Instr}
use Rattle.rv64_decode.specs.declared.instr.Instr.TheVariants.{Branch}
use Rattle.rv64_decode.specs.declared.memory.Width.{Width}
use Rattle.rv64_decode.specs.Row.{plus_offset}
use Rattle.linear_forms.specs.Forms.{EntryTerm, LinearForm, stride, difference, limited, pure}
use Rattle.loop_data.specs.declared.accesses.Access.{Access}
use Rattle.loop_data.specs.declared.cells.Cells.{Cells}
use Rattle.loop_data.specs.declared.classes.Classes.{Classes}
use Rattle.loop_data.specs.declared.equations.Duty.{Duty}
use Rattle.loop_data.specs.declared.equations.Equations.{Equations}
use Rattle.loop_data.specs.declared.graph.Graph.{Graph}
use Rattle.loop_data.specs.declared.shape.Level.{Level}
use Rattle.loop_data.specs.declared.trips.Relation.{Relation}
use Rattle.loop_data.specs.declared.trips.Relation.TheVariants.{Differ, Less, AtMost, More, AtLeast}
use Rattle.loop_data.specs.declared.trips.Trip.{Trip}
use Rattle.loop_data.specs.Accesses.{Motion, address_form, is_regular, if_regular, accessed_form}
use Rattle.loop_data.specs.FormRows.{form_read, form_sum}
use Rattle.loop_data.specs.LoopCode.{code_of, instr_among}
use Rattle.loop_data.specs.Lookups.{cell_map, form_at, roles_by}
use Rattle.loop_data.specs.Nests.{Nest, nest_of, has, Among, In}
use Rattle.loop_data.specs.Results.{IsNestOf, IsAround}
use Rattle.loop_data.specs.Trips.{stay, is_signed, turned, approaches, is_still, moves_at, trip_toward, or_else, trip_to_zero, trip_between, trip_read, trip_by, IsTripAt}
use Rattle.alias_checks.specs.declared.lists.Check.{Check}
use Rattle.check_code.specs.Checkable.{IsOver, AreAmong, IsTripOver, IsDutyOver, IsAccessOver, IsCheckable, IsFoundCheck, FoundLaw}
use Rattle.check_code.proofs.Located.{Over, limited_over, read_over, sum_over, difference_over, kept_over, duty_over, forms_over, each_over}

-- the trip of a branch
pub record Tells (n depth : ℕ) (t : Trip) : Type 0 where
  pub gains : t.step ≡ stride t.start depth
  pub toward : approaches t.relation t.step ≡ true
  pub differs : t.relation ≡ Differ → (t.signed ≡ true) × (t.bound ≡ pure (pos 0))
  pub start : Over n (Some t.start)
  pub bound : Over n (Some t.bound)

second_of : (t u : Bool) → (t && u) ≡ true → u ≡ true
second_of true u h = h
second_of false u h = absurd (cc)

toward_tells : (n depth : ℕ) (relation : Relation) (signed : Bool) (f g : LinearForm) (t : Trip) → Over n (Some f) → Over n (Some g) →
    (relation ≡ Differ → (signed ≡ true) × (g ≡ pure (pos 0))) → trip_toward depth relation signed f g ≡ Some t → Tells n depth t
toward_tells n depth relation signed f g t a b d e = by_test (is_still g && (moves_at depth f && approaches relation (stride f depth)))
    refl e
  where
    whole : Trip
    whole = record { relation = relation; signed = signed; start = f; bound = g; step = stride f depth }

    some_trip : (x y : Trip) → Some x ≡ Some y → x ≡ y
    some_trip x y q = cc

    by_test : (c : Bool) → (is_still g && (moves_at depth f && approaches relation (stride f depth))) ≡ c
        → cond c (Some (record { relation = relation; signed = signed; start = f; bound = g; step = stride f depth })) None ≡ Some t →
        Tells n depth t
    by_test true h q =
        let k : approaches relation (stride f depth) ≡ true = second_of (moves_at depth f) _ (second_of (is_still g) _ h) in
        subst (Tells n depth) (some_trip _ t q) (record { gains = refl; toward = k; differs = d; start = a; bound = b })
    by_test false h q = absurd (cc)

either_tells : (n depth : ℕ) (o p : Option Trip) (t : Trip) → (o ≡ Some t → Tells n depth t) → (p ≡ Some t → Tells n depth t) → or_else o
    p ≡ Some t → Tells n depth t
either_tells n depth (Some u) p t a b e = a e
either_tells n depth None p t a b e = b e

order_tells : (n depth : ℕ) (relation : Relation) (signed : Bool) (f g : LinearForm) (t : Trip) → Over n (Some f) → Over n (Some g) →
    (relation ≡ Differ → ⊥) → (turned relation ≡ Differ → ⊥) → or_else (trip_toward depth relation signed f g)
    (trip_toward depth (turned relation) signed g f) ≡ Some t → Tells n depth t
order_tells n depth relation signed f g t a b d d' e =
    either_tells n depth (trip_toward depth relation signed f g) (trip_toward depth (turned relation) signed g f) t
    (λ q. toward_tells n depth relation signed f g t a b (λ r. absurd (d r)) q)
    (λ q. toward_tells n depth (turned relation) signed g f t b a (λ r. absurd (d' r)) q) e

zero_tells : (n depth : ℕ) (o : Option LinearForm) (t : Trip) → Over n o → trip_to_zero depth o ≡ Some t → Tells n depth t
zero_tells n depth (Some h) t a e = toward_tells n depth Differ true h (pure (pos 0)) t a refl (λ r. (refl, refl)) e
zero_tells n depth None t a e = absurd (cc)

between_tells : (n depth : ℕ) (relation : Relation) (signed : Bool) (f g : LinearForm) (t : Trip) → Over n (Some f) → Over n (Some g) →
    trip_between depth relation signed f g ≡ Some t → Tells n depth t
between_tells n depth Differ signed f g t a b e = zero_tells n depth (limited (difference f g)) t
    (limited_over n (difference f g) (difference_over n (Some f) (Some g) a b)) e
between_tells n depth Less signed f g t a b e = order_tells n depth Less signed f g t a b (λ q. absurd (cc)) (λ q. absurd (cc)) e
between_tells n depth AtMost signed f g t a b e = order_tells n depth AtMost signed f g t a b (λ q. absurd (cc)) (λ q. absurd (cc)) e
between_tells n depth More signed f g t a b e = order_tells n depth More signed f g t a b (λ q. absurd (cc)) (λ q. absurd (cc)) e
between_tells n depth AtLeast signed f g t a b e = order_tells n depth AtLeast signed f g t a b (λ q. absurd (cc)) (λ q. absurd (cc)) e

read_tells : (n depth : ℕ) (o : Option Relation) (signed : Bool) (f g : Option LinearForm) (t : Trip) → Over n f → Over n g → trip_read
    depth o signed f g ≡ Some t → Tells n depth t
read_tells n depth (Some relation) signed (Some f) (Some g) t a b e = between_tells n depth relation signed f g t a b e
read_tells n depth (Some relation) signed (Some f) None t a b e = absurd (cc)
read_tells n depth (Some relation) signed None g t a b e = absurd (cc)
read_tells n depth None signed f g t a b e = absurd (cc)

branch_tells : (n : ℕ) (l : Level) (o : Option Instr) (F : ℕ → Option LinearForm) (t : Trip) → ((q : ℕ) → Over n (F q)) → trip_by l o F ≡
    Some t → Tells n l.depth t
branch_tells n l (Some (Branch op rs1 rs2 imm)) F t h e =
    read_tells n l.depth (stay op (has l.body (plus_offset l.exit imm))) (is_signed op) (form_read F rs1) (form_read F rs2) t
    (read_over n F rs1 h) (read_over n F rs2 h) e
branch_tells n l o F t h e = absurd (cc)

-- the form of an address
regular_over : (n : ℕ) (width : Width) (o : Option LinearForm) (f : LinearForm) → Over n o → if_regular width o ≡ Some f → Over n (Some f)
regular_over n width (Some g) f h e = by_test (is_regular width g) e
  where
    by_test : (t : Bool) → cond t (Some g) None ≡ Some f → Over n (Some f)
    by_test true e = subst (Over n) e h
    by_test false e = absurd (cc)
regular_over n width None f h e = absurd (cc)

accessed_over : (n : ℕ) (F : ℕ → Option LinearForm) (x : Motion) (f : LinearForm) → ((q : ℕ) → Over n (F q)) → accessed_form F x ≡ Some f
    → Over n (Some f)
accessed_over n F x f h e = regular_over n x.width (address_form F x.base x.offset) f
    (kept_over n (form_sum (form_read F x.base) (Some (pure x.offset)))
    (sum_over n (form_read F x.base) (Some (pure x.offset)) (read_over n F x.base h) refl)) e

-- places
holds_of : (ys : List ℕ) (x : ℕ) → Contains ys x → has ys x ≡ true
holds_of ys x c = at_place ys c.0 c.1 c.2
  where
    at_place : (ys : List ℕ) (k : ℕ) → k < length ys → slice_index_or ys k x ≡ x → has ys x ≡ true
    at_place [] k h e = absurd (omega (arith, h))
    at_place (y ∷ ys) zero h e = let t : (y == x) ≡ true = grind (arith, nat_tests) in ap (λ b. cond b true (has ys x)) t
    at_place (y ∷ ys) (suc k) h e = by_test (y == x) (at_place ys k (omega (arith, h)) e)
      where
        by_test : (b : Bool) → has ys x ≡ true → cond b true (has ys x) ≡ true
        by_test true q = refl
        by_test false q = q

around_below : (levels : List Level) (u depth place : ℕ) → 0 < length levels → IsAround levels u depth place → place < length levels
around_below levels u depth place some (inl x) = x.1
around_below levels u depth place some (inr x) = let e = x.1 in omega (arith, e, some)

same_place : {X : Type 0} (xs : List X) (i : ℕ) (d e : X) → i < length xs → slice_index_or xs i d ≡ slice_index_or xs i e
same_place [] i d e h = absurd (omega (arith, h))
same_place (x ∷ xs) zero d e h = refl
same_place (x ∷ xs) (suc i) d e h = same_place xs i d e (omega (arith, h))

taken : {X : Type 0} (xs : List X) (i : ℕ) (d : X) → i < length xs → slice_get xs i ≡ Some (slice_index_or xs i d)
taken [] i d h = absurd (omega (arith, h))
taken (x ∷ xs) zero d h = refl
taken (x ∷ xs) (suc i) d h = taken xs i d (omega (arith, h))

contains_at : {X : Type 0} (xs : List X) (i : ℕ) (d : X) → i < length xs → Contains xs (slice_index_or xs i d)
contains_at xs i d h = (i, h, same_place xs i (slice_index_or xs i d) d h)

level_among : (root : Level) (inner : List Level) (i : ℕ) (d : Level) → i < length (root ∷ inner) → In (root ∷ inner)
    (slice_index_or (root ∷ inner) i d)
level_among root inner zero d h = inl refl
level_among root [] (suc i) d h = absurd (omega (arith, h))
level_among root (l ∷ ls) (suc i) d h = inr (level_among l ls i d (omega (arith, h)))

module _ (G : Graph) (levels : List Level) (cells : Cells) (classes : Classes) (e : Equations) (c : Check)
    (is : IsFoundCheck G levels cells classes e c) where
  abbrev N : Nest
  N = nest_of G is.nest.root is.nest.inner

  of : IsNestOf G levels N
  of = record { root = is.nest.root; inner = is.nest.inner; are = is.nest.are; is = refl }

  over_at : (u : ℕ) → has is.nest.root.body u ≡ true → (r : ℕ) → Over (32 + length cells.list.items) (form_at e.points u r)
  over_at u h r = forms_over N (code_of G (cell_map cells)) (roles_by (code_of G (cell_map cells)) levels classes) (form_at e.points)
      is.nest.nest (is.equations.forms N of) u h r

  as_property : (f : LinearForm) → Over (32 + length cells.list.items) (Some f) → IsOver (length c.cells.list.items) f
  as_property f h = subst (λ n. All (λ (t : EntryTerm). t.loc < 32 + n) f.terms) (sym (ap length is.same_cells))
      (each_over (32 + length cells.list.items) f.terms h)

  some : 0 < length levels
  some = subst (λ ls. 0 < length ls) (sym is.nest.are) (omega arith)

  few : length levels ≤ 4
  few = let f = is.nest.few in subst (λ ls. length ls ≤ 4) (sym is.nest.are) (omega (arith, f))

  among : (i : ℕ) (d : Level) → i < length levels → Among N (slice_index_or levels i d)
  among i d h = subst (λ ls. In (is.nest.root ∷ is.nest.inner) (slice_index_or ls i d)) (sym is.nest.are)
      (level_among is.nest.root is.nest.inner i d (subst (λ ls. i < length ls) is.nest.are h))

  one_trip : (i : ℕ) (d : Level) (t : Trip) → i < length levels → IsTripAt G levels (form_at e.points) i (Some t) → IsTripOver
      (length c.cells.list.items) t
  one_trip i d t h at =
      let l = slice_index_or levels i d in
      let m = among i d h in
      let inside = is.nest.nest.bodies.within l m l.exit (is.nest.nest.shapes.sides l m).inside in
      let k = branch_tells (32 + length cells.list.items) l (instr_among G.words l.exit) (form_at e.points l.exit) t
      (over_at l.exit inside) (at l (same_place levels i l d h)) in
      record {
        depth = l.depth;
        gains = k.gains;
        toward = k.toward;
        differs = k.differs;
        start = as_property t.start k.start;
        bound =
            as_property t.bound k.bound;
      }

  trips_over : All (IsTripOver (length c.cells.list.items)) c.trips
  trips_over i t h = let n = is.count in one_trip i is.nest.root (slice_index_or c.trips i t) (omega (arith, h, n))
      (is.trips i (slice_index_or c.trips i t) (taken c.trips i t h))

  placed : (u : ℕ) (xs : List ℕ) → ((k : ℕ) → k < 3 → IsAround levels u k (slice_index xs k)) → AreAmong (length c.trips) xs
  placed u xs h =
      let n = is.count in
      let a = around_below levels u 1 (slice_index xs 1) some (h 1 (omega arith)) in
      let b = around_below levels u 2 (slice_index xs 2) some (h 2 (omega arith)) in
      record { second = omega (arith, a, n); third = omega (arith, b, n) }

  one_duty : (d : Duty) → Contains e.duties d → IsDutyOver (length c.cells.list.items) (length c.trips) d
  one_duty d h =
      let x = (is.equations.duties N of).each d h in
      let k = duty_over (32 + length cells.list.items) (code_of G (cell_map cells)) d.at (form_at e.points d.at)
      (over_at d.at (holds_of is.nest.root.body d.at x.0)) in
      record {
        form = as_property d.form (subst (Over (32 + length cells.list.items)) x.1.form k);
        around = placed d.at d.around
            x.1.around;
      }

  duties_over : All (IsDutyOver (length c.cells.list.items) (length c.trips)) c.duties
  duties_over i d h = one_duty (slice_index_or c.duties i d)
      (subst (λ ds. Contains ds (slice_index_or c.duties i d)) is.duties (contains_at c.duties i d h))

  one_access : (a : Access) → Contains c.accesses.list.items a → IsAccessOver (length c.cells.list.items) (length c.trips) a
  one_access a h =
      let x = (is.accesses N of).each a h in
      let k = accessed_over (32 + length cells.list.items) (form_at e.points a.at) x.1.motion a.form
      (over_at a.at (holds_of is.nest.root.body a.at x.0)) x.1.form in
      record { form = as_property a.form k; around = placed a.at a.around x.1.around }

  accesses_over : All (IsAccessOver (length c.cells.list.items) (length c.trips)) c.accesses.list.items
  accesses_over i a h = one_access (slice_index_or c.accesses.list.items i a) (contains_at c.accesses.list.items i a h)

  checkable : (0 < length c.trips) × (length c.trips ≤ 4) × IsCheckable c
  checkable =
      let n = is.count in
      let s = some in
      let f = few in
      (omega (arith, n, s), omega (arith, n, f), record { trips = trips_over; duties = duties_over; accesses = accesses_over })

pub found : FoundLaw
found G levels cells classes e c is = checkable G levels cells classes e c is
