-- The answer of a check, and what holds of the loop.
use Rattle.std.proofs.Common.{◌≡◌, ◌≢◌, ◌↔◌, ℕ, zero, suc, ◌+◌, ◌-◌, ◌%◌, ◌^◌, ◌<◌, ◌≤◌, ◌⊎◌, inl, inr, List, [], ◌∷◌, length, map, Bool, true, false, not, ◌&&◌, ◌||◌, ◌==◌, nat_le, nat_lt, if◌then◌else◌, Option, Some, None, refl, ap, sym, ◌∙◌, subst, arith, ℤ, pos, slice_index, slice_index_or}
use Rattle.std.specs.Prelude.{int_le, slice_get}
use Rattle.std.proofs.lemmas.Bool.{and_parts}
use Rattle.std.proofs.lemmas.Bool.Decides.{nat_tests}
use Rattle.std.proofs.lemmas.List.Folds.{list_all-map}
use Rattle.std.proofs.lemmas.List.Kept.{AllPairs-cons}
use Rattle.std.specs.List.{All, AllPairs, list_all}
use Rattle.rv64_decode.specs.Area.{Area}
use Rattle.rv64_decode.specs.declared.memory.Width.TheVariants.{Eight}
use Rattle.linear_forms.specs.Forms.{pure}
use Rattle.loop_data.specs.declared.accesses.Access.{Access}
use Rattle.loop_data.specs.declared.equations.Duty.{Duty}
use Rattle.loop_data.specs.declared.plans.Term.TheVariants.{Apart}
use Rattle.loop_data.specs.declared.trips.Trip.{Trip}
use Rattle.loop_data.specs.declared.verdict.Cell.{Cell}
use Rattle.loop_data.specs.Locations.{address}
use Rattle.loop_data.specs.Trips.{number_of_stays}
use Rattle.dependence_tests.specs.Overlaps.{IsBoxOf}
use Rattle.dependence_tests.specs.PairTests.{are_disjoint, pair_test}
use Rattle.dependence_tests.specs.Separation.{AreDisjoint, PassTest, TestLaw}
use Rattle.alias_checks.specs.declared.areas.Permission.{Permission}
use Rattle.alias_checks.specs.declared.lists.Check.{Check}
use Rattle.alias_checks.specs.declared.lists.Place.{Place}
use Rattle.alias_checks.specs.declared.lists.Turns.{Turns}
use Rattle.alias_checks.specs.Areas.{Range, permits, has_range, in_memory}
use Rattle.alias_checks.specs.Entry.{entry}
use Rattle.alias_checks.specs.CellTests.{cell_size, cell_range, cell_permission, cell_fits, same_base, are_clear, all_clear}
use Rattle.alias_checks.specs.TurnTests.{up_to, few_stays, root_turns, passes_of, root_by, passes_by, turns_with, turns_of, last_of, AreRootTurns, ArePasses}
use Rattle.alias_checks.specs.AccessTests.{duty_fits, place_of, access_fits, keeps_off, all_keep_off, place_at, box_of, pair_passes}
use Rattle.alias_checks.specs.Listing.{Pair, stores_at, IsPair, ArePairs}
use Rattle.alias_checks.specs.Answers.{cells_pass, all_pass, if_all_pass, answer_by, answer}
use Rattle.alias_checks.specs.Holds.{LiesIn, CellHolds, CellsHold, RootHolds, PassesHold, DutyHolds, first_address, AccessHolds, KeepsOff, PairHolds, Holds}
use Rattle.alias_checks.proofs.CellFits.{fits}
use Rattle.alias_checks.proofs.Elements.{each_passes}
use Rattle.alias_checks.proofs.Facts.{both, lt_forth, lt_back, le_forth, le_back, zero_forth, zero_back, int_le_forth, int_le_back, int_lt_forth, int_lt_back, or_forth, or_back, disjoint_forth, disjoint_back, unless_forth, unless_back, all_forth, all_back, any_forth, any_back}
use Rattle.alias_checks.proofs.Paired.{listed}
use Rattle.alias_checks.proofs.Rows.{stores_at-nth}

lies_forth : (m : List Area) (k : Permission) (r : Range) → in_memory m k r ≡ true → LiesIn m k r
unfolding in_memory
lies_forth m k r e =
    let p = any_forth (λ (a : Area). permits k a && has_range a r) m e in
    let q = and_parts (permits k p.0) (has_range p.0 r) p.2 in
    let s = and_parts (int_le (pos p.0.low) r.0) (int_le r.1 (pos (p.0.low + length p.0.bytes))) q.1 in
    record { area = p.0; among = p.1; permitted = q.0; low = int_le_forth _ _ s.0; end = int_le_forth _ _ s.1 }

lies_back : (m : List Area) (k : Permission) (r : Range) → LiesIn m k r → in_memory m k r ≡ true
unfolding in_memory
lies_back m k r l =
    any_back (λ (a : Area). permits k a && has_range a r) m l.area l.among.0 l.among.1 l.among.2
    (both (permits k l.area) (has_range l.area r) l.permitted
    (both (int_le (pos l.area.low) r.0) (int_le r.1 (pos (l.area.low + length l.area.bytes))) (int_le_back _ _ l.low) (int_le_back _ _ l.end)))

cell_forth : (regs : List ℕ) (m : List Area) (c : Cell) → cell_fits (in_memory m) regs c ≡ true → CellHolds regs m c
cell_forth regs m c e =
    let f = fits (in_memory m) regs c e in
    record { aligned = f.aligned; below = f.below; lies = lies_forth m _ _ f.lies }

cell_back : (regs : List ℕ) (m : List Area) (c : Cell) → CellHolds regs m c → cell_fits (in_memory m) regs c ≡ true
unfolding cell_fits
cell_back regs m c h =
    both (address regs c % cell_size c == 0) (nat_lt (address regs c) (2 ^ 31) && in_memory m (cell_permission c) (cell_range regs c))
    (zero_back _ h.aligned)
    (both (nat_lt (address regs c) (2 ^ 31)) (in_memory m (cell_permission c) (cell_range regs c)) (lt_back _ _ h.below) (lies_back m _ _ h.lies))

base_forth : (a b : Option ℕ) → same_base a b ≡ true → a ≡ b
base_forth None None e = refl
base_forth None (Some r) e = absurd (cc)
base_forth (Some q) None e = absurd (cc)
base_forth (Some q) (Some r) e = let h : q ≡ r = grind (arith, nat_tests) in ap (λ n. Some n) h

base_back : (a b : Option ℕ) → same_base a b ≡ false → a ≢ b
base_back None None e h = absurd (cc)
base_back None (Some r) e h = absurd (cc)
base_back (Some q) None e h = absurd (cc)
base_back (Some q) (Some r) e h = let k : q ≡ r = cc in let g : (q == r) ≡ true = grind (arith, nat_tests) in absurd (cc)

clear_forth : (regs : List ℕ) (c d : Cell) → are_clear regs c d ≡ true → CellsHold regs c d
unfolding are_clear
clear_forth regs c d e ne s = go (or_forth (same_base c.base d.base) (not (c.stored || d.stored) || are_disjoint (cell_range regs c) (cell_range regs d)) e)
  where
    go : (same_base c.base d.base ≡ true) ⊎ ((not (c.stored || d.stored) || are_disjoint (cell_range regs c) (cell_range regs d)) ≡ true)
        → AreDisjoint (cell_range regs c) (cell_range regs d)
    go (inl f) = absurd (ne (base_forth _ _ f))
    go (inr f) = disjoint_forth _ _ (unless_forth (c.stored || d.stored) (are_disjoint (cell_range regs c) (cell_range regs d)) f (or_back c.stored d.stored s))

clear_back : (regs : List ℕ) (c d : Cell) → CellsHold regs c d → are_clear regs c d ≡ true
unfolding are_clear
clear_back regs c d h = go (same_base c.base d.base) refl
  where
    go : (b : Bool) → same_base c.base d.base ≡ b → (same_base c.base d.base || (not (c.stored || d.stored) || are_disjoint (cell_range regs c) (cell_range regs d))) ≡ true
    go true e = or_back (same_base c.base d.base) (not (c.stored || d.stored) || are_disjoint (cell_range regs c) (cell_range regs d)) (inl e)
    go false e =
        or_back (same_base c.base d.base) (not (c.stored || d.stored) || are_disjoint (cell_range regs c) (cell_range regs d))
        (inr (unless_back (c.stored || d.stored) (are_disjoint (cell_range regs c) (cell_range regs d))
        (λ s. disjoint_back (cell_range regs c) (cell_range regs d) (h (base_back _ _ e) (or_forth c.stored d.stored s)))))

all_clear_forth : (regs : List ℕ) (cs : List Cell) → all_clear regs cs ≡ true → AllPairs (CellsHold regs) cs
all_clear_forth regs [] e = λ i j d h k. absurd (omega arith)
all_clear_forth regs (c ∷ cs) e =
    let p = and_parts (list_all (are_clear regs c) cs) (all_clear regs cs) e in
    AllPairs-cons (CellsHold regs) c cs (all_forth (are_clear regs c) (CellsHold regs c) cs (clear_forth regs c) p.0) (all_clear_forth regs cs p.1)

all_clear_back : (regs : List ℕ) (cs : List Cell) → AllPairs (CellsHold regs) cs → all_clear regs cs ≡ true
all_clear_back regs [] a = refl
all_clear_back regs (c ∷ cs) a =
    both (list_all (are_clear regs c) cs) (all_clear regs cs)
    (all_back (are_clear regs c) (CellsHold regs c) cs (clear_back regs c) (λ k d h. a 0 (suc k) d (omega arith) (omega arith)))
    (all_clear_back regs cs (λ i j d h k. a (suc i) (suc j) d (omega arith) (omega arith)))

-- the turns of the root
root_from : (n : Option ℕ) (p : ℕ) → root_turns (up_to (2 ^ 31) n) ≡ Some p → (n ≡ Some p) × AreRootTurns p
root_from None p e = absurd (cc)
root_from (Some q) p e = go (nat_le q (2 ^ 31)) refl e
  where
    go2 : (b : Bool) → nat_le 16 q ≡ b → q ≤ 2 ^ 31 → (if b then Some q else None) ≡ Some p → (Some q ≡ Some p) × AreRootTurns p
    go2 true f l h = let k : q ≡ p = cc in let g = le_forth 16 q f in (h, record { some = omega arith; few = omega arith })
    go2 false f l h = absurd (cc)

    go : (b : Bool) → nat_le q (2 ^ 31) ≡ b → root_turns (if b then Some q else None) ≡ Some p → (Some q ≡ Some p) × AreRootTurns p
    go true f h = go2 (nat_le 16 q) refl (le_forth _ _ f) h
    go false f h = absurd (cc)

root_to : (p : ℕ) → AreRootTurns p → root_turns (up_to (2 ^ 31) (Some p)) ≡ Some p
root_to p h =
    let e : nat_le p (2 ^ 31) ≡ true = le_back _ _ h.few in
    let f : nat_le 16 p ≡ true = le_back _ _ h.some in
    rw (e, f) refl

root_forth : (trips : List Trip) (e : ℕ → ℤ) (p : ℕ) (o : Option Trip) → slice_get trips 0 ≡ o → root_by o e ≡ Some p → RootHolds trips e p
unfolding few_stays
root_forth trips e p None f h = absurd (cc)
root_forth trips e p (Some t) f h =
    let r = root_from (number_of_stays t e) p h in record { trip = t; first = f; number = r.0; limits = r.1 }

root_back : (trips : List Trip) (e : ℕ → ℤ) (p : ℕ) → RootHolds trips e p → root_by (slice_get trips 0) e ≡ Some p
unfolding few_stays
root_back trips e p h =
    ap (λ (o : Option Trip). root_by o e) h.first ∙ ap (λ (n : Option ℕ). root_turns (up_to (2 ^ 31) n)) h.number ∙ root_to p h.limits

-- the passes of an inner loop
passes_from : (n : Option ℕ) (q : ℕ) → passes_of (up_to (2 ^ 31) n) ≡ Some q → ArePasses q × (n ≡ Some (q - 1))
passes_from None q e = absurd (cc)
passes_from (Some k) q e = go (nat_le k (2 ^ 31)) refl e
  where
    go2 : (b : Bool) → nat_lt k (2 ^ 31) ≡ b → (if b then Some (suc k) else None) ≡ Some q → ArePasses q × (Some k ≡ Some (q - 1))
    go2 true f h =
        let g : suc k ≡ q = cc in
        let l = lt_forth k (2 ^ 31) f in
        let m : k ≡ q - 1 = omega arith in
        (record { some = omega arith; few = omega arith }, ap (λ n. Some n) m)
    go2 false f h = absurd (cc)

    go : (b : Bool) → nat_le k (2 ^ 31) ≡ b → passes_of (if b then Some k else None) ≡ Some q → ArePasses q × (Some k ≡ Some (q - 1))
    go true f h = go2 (nat_lt k (2 ^ 31)) refl h
    go false f h = absurd (cc)

passes_to : (q : ℕ) → ArePasses q → passes_of (up_to (2 ^ 31) (Some (q - 1))) ≡ Some q
passes_to q h =
    let a = h.some in
    let b = h.few in
    let e : nat_le (q - 1) (2 ^ 31) ≡ true = le_back _ _ (omega arith) in
    let f : nat_lt (q - 1) (2 ^ 31) ≡ true = lt_back _ _ (omega arith) in
    let g : suc (q - 1) ≡ q = omega arith in
    rw (e, f) (ap (λ n. Some n) g)

passes_forth : (e : ℕ → ℤ) (q : ℕ) (o : Option Trip) → passes_by o e ≡ Some q → PassesHold o e q
unfolding few_stays
passes_forth e q None h = let g : 1 ≡ q = cc in sym g
passes_forth e q (Some t) h = passes_from (number_of_stays t e) q h

passes_back : (e : ℕ → ℤ) (q : ℕ) (o : Option Trip) → PassesHold o e q → passes_by o e ≡ Some q
unfolding few_stays
passes_back e q None h = ap (λ n. Some n) (sym h)
passes_back e q (Some t) h = ap (λ (n : Option ℕ). passes_of (up_to (2 ^ 31) n)) h.1 ∙ passes_to q h.0

-- the turns and passes together
pub record Parts (a b c d : Option ℕ) (t : Turns) : Type 0 where
  pub root : a ≡ Some t.root
  pub first : b ≡ Some (slice_index t.inner 0)
  pub second : c ≡ Some (slice_index t.inner 1)
  pub third : d ≡ Some (slice_index t.inner 2)
  pub three : length t.inner ≡ 3

with_forth : (a b c d : Option ℕ) (t : Turns) → turns_with a b c d ≡ Some t → Parts a b c d t
with_forth None b c d t e = absurd (cc)
with_forth (Some p) None c d t e = absurd (cc)
with_forth (Some p) (Some i) None d t e = absurd (cc)
with_forth (Some p) (Some i) (Some j) None t e = absurd (cc)
with_forth (Some p) (Some i) (Some j) (Some k) t e =
    let u : Turns = record { root = p; inner = i ∷ j ∷ k ∷ [] } in
    let f : u ≡ t = cc in
    subst (λ (v : Turns). Parts (Some p) (Some i) (Some j) (Some k) v) f
    (record { root = refl; first = refl; second = refl; third = refl; three = refl })

three_are : (xs : List ℕ) → length xs ≡ 3 → slice_index xs 0 ∷ slice_index xs 1 ∷ slice_index xs 2 ∷ [] ≡ xs
three_are [] h = absurd (omega arith)
three_are (x ∷ []) h = absurd (omega arith)
three_are (x ∷ y ∷ []) h = absurd (omega arith)
three_are (x ∷ y ∷ z ∷ []) h = refl
three_are (x ∷ y ∷ z ∷ w ∷ xs) h = absurd (omega arith)

with_back : (a b c d : Option ℕ) (t : Turns) → Parts a b c d t → turns_with a b c d ≡ Some t
with_back a b c d t h =
    ap (λ (o : Option ℕ). turns_with o b c d) h.root
    ∙ ap (λ (o : Option ℕ). turns_with (Some t.root) o c d) h.first
    ∙ ap (λ (o : Option ℕ). turns_with (Some t.root) (Some (slice_index t.inner 0)) o d) h.second
    ∙ ap (λ (o : Option ℕ). turns_with (Some t.root) (Some (slice_index t.inner 0)) (Some (slice_index t.inner 1)) o) h.third
    ∙ ap (λ (xs : List ℕ). made xs) (three_are t.inner h.three)
  where
    made : List ℕ → Option Turns
    made xs = Some (record { root = t.root; inner = xs })

duty_forth : (e : ℕ → ℤ) (last : List ℕ) (d : Duty) → duty_fits e last d ≡ true → DutyHolds e last d
unfolding duty_fits
duty_forth e last d h = let p = and_parts _ _ h in record { low = int_le_forth _ _ p.0; high = int_lt_forth _ _ p.1 }

duty_back : (e : ℕ → ℤ) (last : List ℕ) (d : Duty) → DutyHolds e last d → duty_fits e last d ≡ true
unfolding duty_fits
duty_back e last d h = both _ _ (int_le_back _ _ h.low) (int_lt_back _ _ h.high)

access_forth : (m : List Area) (e : ℕ → ℤ) (last : List ℕ) (a : Access) → access_fits (in_memory m) e last a ≡ true → AccessHolds m e last a
unfolding access_fits place_of
access_forth m e last a h =
    let p = and_parts _ _ h in
    let q = and_parts _ _ p.1 in
    record { below = lt_forth _ _ p.0; aligned = zero_forth _ q.0; lies = lies_forth m _ _ q.1 }

access_back : (m : List Area) (e : ℕ → ℤ) (last : List ℕ) (a : Access) → AccessHolds m e last a → access_fits (in_memory m) e last a ≡ true
unfolding access_fits place_of
access_back m e last a h =
    both _ _ (lt_back _ _ h.below) (both _ _ (zero_back _ h.aligned) (lies_back m _ _ h.lies))

off_forth : (regs : List ℕ) (e : ℕ → ℤ) (last : List ℕ) (c : Cell) (a : Access) → keeps_off regs c (place_of e last a) ≡ true → KeepsOff regs e last c a
unfolding keeps_off place_of
off_forth regs e last c a h s = disjoint_forth _ _ (unless_forth _ _ h (or_back c.stored a.store s))

off_back : (regs : List ℕ) (e : ℕ → ℤ) (last : List ℕ) (c : Cell) (a : Access) → KeepsOff regs e last c a → keeps_off regs c (place_of e last a) ≡ true
unfolding keeps_off place_of
off_back regs e last c a h = unless_back _ _ (λ s. disjoint_back _ _ (h (or_forth c.stored a.store s)))

all_off_forth : (regs : List ℕ) (e : ℕ → ℤ) (last : List ℕ) (cs : List Cell) (xs : List Access) → all_keep_off regs cs (map (place_of e last) xs) ≡ true
    → All (λ (c : Cell). All (KeepsOff regs e last c) xs) cs
all_off_forth regs e last cs xs h =
    all_forth (λ (c : Cell). list_all (keeps_off regs c) (map (place_of e last) xs)) (λ (c : Cell). All (KeepsOff regs e last c) xs) cs
    (λ c f. all_forth (λ (a : Access). keeps_off regs c (place_of e last a)) (KeepsOff regs e last c) xs (off_forth regs e last c)
    (sym (list_all-map (keeps_off regs c) (place_of e last) xs) ∙ f)) h

all_off_back : (regs : List ℕ) (e : ℕ → ℤ) (last : List ℕ) (cs : List Cell) (xs : List Access) → All (λ (c : Cell). All (KeepsOff regs e last c) xs) cs
    → all_keep_off regs cs (map (place_of e last) xs) ≡ true
all_off_back regs e last cs xs h =
    all_back (λ (c : Cell). list_all (keeps_off regs c) (map (place_of e last) xs)) (λ (c : Cell). All (KeepsOff regs e last c) xs) cs
    (λ c f. list_all-map (keeps_off regs c) (place_of e last) xs
    ∙ all_back (λ (a : Access). keeps_off regs c (place_of e last a)) (KeepsOff regs e last c) xs (off_back regs e last c) f) h

-- the place of an access among all
place-nth : (e : ℕ → ℤ) (last : List ℕ) (xs : List Access) (i : ℕ) (d : Access) → i < length xs
    → place_at (map (place_of e last) xs) i ≡ place_of e last (slice_index_or xs i d)
place-nth e last [] i d h = absurd (omega arith)
place-nth e last (x ∷ xs) zero d h = refl
place-nth e last (x ∷ xs) (suc i) d h = place-nth e last xs i d (omega arith)

box_is : (e : ℕ → ℤ) (last : List ℕ) (a b : Access)
    → IsBoxOf a b (pos (first_address e a)) (pos (first_address e b)) (box_of last (place_of e last a) (place_of e last b))
unfolding place_of
box_is e last a b = record { difference = refl; first = refl; second = refl }

-- a pair that passes, by its accesses
passes_is : (e : ℕ → ℤ) (last : List ℕ) (xs : List Access) (t : Pair) (d : Access) → IsPair xs t
    → pair_passes (map (place_of e last) xs) last t
    ≡ pair_test t.2 (box_of last (place_of e last (slice_index_or xs t.0 d)) (place_of e last (slice_index_or xs t.1 d)))
unfolding pair_passes
passes_is e last xs t d p =
    ap (λ (q : Place). pair_test t.2 (box_of last q (place_at (map (place_of e last) xs) t.1))) (place-nth e last xs t.0 d p.first)
    ∙ ap (λ (q : Place). pair_test t.2 (box_of last (place_of e last (slice_index_or xs t.0 d)) q)) (place-nth e last xs t.1 d p.second)

pair_is : TestLaw → (e : ℕ → ℤ) (last : List ℕ) (xs : List Access) (t : Pair) (d : Access) → IsPair xs t
    → (pair_passes (map (place_of e last) xs) last t ≡ true)
    ↔ PassTest (slice_index_or xs t.0 d) (slice_index_or xs t.1 d) (pos (first_address e (slice_index_or xs t.0 d))) (pos (first_address e (slice_index_or xs t.1 d))) last
pair_is law e last xs t d p =
    let a = slice_index_or xs t.0 d in
    let b = slice_index_or xs t.1 d in
    let k = law a b t.2 (box_of last (place_of e last a) (place_of e last b)) (pos (first_address e a)) (pos (first_address e b)) (p.term d) (box_is e last a b) in (
      λ h. k.0 (sym (passes_is e last xs t d p) ∙ h),
      λ h. passes_is e last xs t d p ∙ k.1 h,
    )

-- each two accesses pass, where all listed pairs do
pairs_forth : TestLaw → (e : ℕ → ℤ) (last : List ℕ) (xs : List Access) (pairs : List Pair) → ArePairs xs pairs
    → list_all (pair_passes (map (place_of e last) xs) last) pairs ≡ true
    → (i j : ℕ) (d : Access) → i ≤ j → j < length xs → PairHolds e last (slice_index_or xs i d) (slice_index_or xs j d)
pairs_forth law e last xs pairs are h i j d l k s =
    let f = listed pairs xs i j d are.places l k s in
    let none : Pair = (0, 0, Apart) in
    let t = slice_index_or pairs f.place none in
    let p = are.each f.place none f.within in
    let q = each_passes (pair_passes (map (place_of e last) xs) last) pairs f.place none h f.within in
    let r = (pair_is law e last xs t d p).0 q in
    let by_first : (n : ℕ) → t.0 ≡ n → PassTest (slice_index_or xs n d) (slice_index_or xs t.1 d) (pos (first_address e (slice_index_or xs n d))) (pos (first_address e (slice_index_or xs t.1 d))) last =
    λ n g. subst (λ (v : ℕ). PassTest (slice_index_or xs v d) (slice_index_or xs t.1 d) (pos (first_address e (slice_index_or xs v d))) (pos (first_address e (slice_index_or xs t.1 d))) last) g r in
    subst (λ (v : ℕ). PassTest (slice_index_or xs i d) (slice_index_or xs v d) (pos (first_address e (slice_index_or xs i d))) (pos (first_address e (slice_index_or xs v d))) last)
    (f.second none) (by_first i (f.first none))

one_stores : (xs : List Access) (t : Pair) (d : Access) → IsPair xs t → ((slice_index_or xs t.0 d).store ≡ true) ⊎ ((slice_index_or xs t.1 d).store ≡ true)
one_stores xs t d p = go (or_forth (stores_at xs t.0) (stores_at xs t.1) p.stores)
  where
    go : (stores_at xs t.0 ≡ true) ⊎ (stores_at xs t.1 ≡ true) → ((slice_index_or xs t.0 d).store ≡ true) ⊎ ((slice_index_or xs t.1 d).store ≡ true)
    go (inl f) = inl (stores_at-nth xs t.0 d p.first ∙ f)
    go (inr f) = inr (stores_at-nth xs t.1 d p.second ∙ f)

some_access : Access
some_access = record { at = 0; level = 0; around = []; form = pure (pos 0); width = Eight; store = false }

pairs_back : TestLaw → (e : ℕ → ℤ) (last : List ℕ) (xs : List Access) (pairs : List Pair) → ArePairs xs pairs
    → ((i j : ℕ) (d : Access) → i ≤ j → j < length xs → PairHolds e last (slice_index_or xs i d) (slice_index_or xs j d))
    → list_all (pair_passes (map (place_of e last) xs) last) pairs ≡ true
pairs_back law e last xs pairs are h =
    all_back (pair_passes (map (place_of e last) xs) last) (IsPair xs) pairs
    (λ t p. (pair_is law e last xs t some_access p).1 (h t.0 t.1 some_access p.order p.second (one_stores xs t some_access p)))
    are.each

-- what tests 5 to 8 say
pub record Rest (c : Check) (regs : List ℕ) (m : List Area) (e : ℕ → ℤ) (last : List ℕ) : Type 0 where
  pub duties : All (DutyHolds e last) c.duties
  pub accesses : All (AccessHolds m e last) c.accesses.list.items
  pub off : All (λ (d : Cell). All (KeepsOff regs e last d) c.accesses.list.items) c.cells.list.items
  pub pairs : (i j : ℕ) (d : Access) → i ≤ j → j < length c.accesses.list.items
      → PairHolds e last (slice_index_or c.accesses.list.items i d) (slice_index_or c.accesses.list.items j d)

rest_forth : TestLaw → (c : Check) (regs : List ℕ) (m : List Area) (e : ℕ → ℤ) (last : List ℕ) → ArePairs c.accesses.list.items c.pairs
    → all_pass c (in_memory m) regs e last ≡ true → Rest c regs m e last
rest_forth law c regs m e last are h =
    let p = and_parts _ _ h in
    let q = and_parts _ _ p.1 in
    let r = and_parts _ _ q.1 in
    record {
      duties = all_forth (duty_fits e last) (DutyHolds e last) c.duties (duty_forth e last) p.0;
      accesses = all_forth (access_fits (in_memory m) e last) (AccessHolds m e last) c.accesses.list.items (access_forth m e last) q.0;
      off = all_off_forth regs e last c.cells.list.items c.accesses.list.items r.0;
      pairs = pairs_forth law e last c.accesses.list.items c.pairs are r.1;
    }

rest_back : TestLaw → (c : Check) (regs : List ℕ) (m : List Area) (e : ℕ → ℤ) (last : List ℕ) → ArePairs c.accesses.list.items c.pairs
    → Rest c regs m e last → all_pass c (in_memory m) regs e last ≡ true
rest_back law c regs m e last are h =
    both _ _ (all_back (duty_fits e last) (DutyHolds e last) c.duties (duty_back e last) h.duties)
    (both _ _ (all_back (access_fits (in_memory m) e last) (AccessHolds m e last) c.accesses.list.items (access_back m e last) h.accesses)
    (both _ _ (all_off_back regs e last c.cells.list.items c.accesses.list.items h.off) (pairs_back law e last c.accesses.list.items c.pairs are h.pairs)))

-- the three tests that make an answer
pub record Tests (c : Check) (regs : List ℕ) (m : List Area) (e : ℕ → ℤ) (t : Turns) : Type 0 where
  pub cells : cells_pass c (in_memory m) regs ≡ true
  pub turns : turns_of c.trips e ≡ Some t
  pub rest : all_pass c (in_memory m) regs e (last_of t) ≡ true

tests_from : (c : Check) (regs : List ℕ) (m : List Area) (e : ℕ → ℤ) (t : Turns) → answer_by c (in_memory m) regs e ≡ Some t → Tests c regs m e t
tests_from c regs m e t h = go (cells_pass c (in_memory m) regs) refl h
  where
    last : (b : Bool) (u : Turns) → cells_pass c (in_memory m) regs ≡ true → turns_of c.trips e ≡ Some u → all_pass c (in_memory m) regs e (last_of u) ≡ b
        → (if b then Some u else None) ≡ Some t → Tests c regs m e t
    last true u p q r k =
        let f : u ≡ t = cc in
        record {
          cells = p;
          turns = q ∙ k;
          rest = ap (λ (v : Turns). all_pass c (in_memory m) regs e (last_of v)) (sym f) ∙ r;
        }
    last false u p q r k = absurd (cc)

    some : (o : Option Turns) → cells_pass c (in_memory m) regs ≡ true → turns_of c.trips e ≡ o → if_all_pass c (in_memory m) regs e o ≡ Some t → Tests c regs m e t
    some None p q k = absurd (cc)
    some (Some u) p q k = last (all_pass c (in_memory m) regs e (last_of u)) u p q refl k

    go : (b : Bool) → cells_pass c (in_memory m) regs ≡ b → (if b then if_all_pass c (in_memory m) regs e (turns_of c.trips e) else None) ≡ Some t → Tests c regs m e t
    go true p k = some (turns_of c.trips e) p refl k
    go false p k = absurd (cc)

tests_to : (c : Check) (regs : List ℕ) (m : List Area) (e : ℕ → ℤ) (t : Turns) → Tests c regs m e t → answer_by c (in_memory m) regs e ≡ Some t
tests_to c regs m e t h = go (cells_pass c (in_memory m) regs) h.cells
  where
    last : (b : Bool) → b ≡ true → (if b then Some t else None) ≡ Some t
    last b p = rw p refl

    go : (b : Bool) → b ≡ true → (if b then if_all_pass c (in_memory m) regs e (turns_of c.trips e) else None) ≡ Some t
    go b p = rw p (ap (λ (o : Option Turns). if_all_pass c (in_memory m) regs e o) h.turns ∙ last (all_pass c (in_memory m) regs e (last_of t)) h.rest)

turns_forth : (trips : List Trip) (e : ℕ → ℤ) (t : Turns) → turns_of trips e ≡ Some t
    → Parts (root_by (slice_get trips 0) e) (passes_by (slice_get trips 1) e) (passes_by (slice_get trips 2) e) (passes_by (slice_get trips 3) e) t
unfolding turns_of
turns_forth trips e t h = with_forth _ _ _ _ t h

turns_back : (trips : List Trip) (e : ℕ → ℤ) (t : Turns)
    → Parts (root_by (slice_get trips 0) e) (passes_by (slice_get trips 1) e) (passes_by (slice_get trips 2) e) (passes_by (slice_get trips 3) e) t
    → turns_of trips e ≡ Some t
unfolding turns_of
turns_back trips e t h = with_back _ _ _ _ t h

inner_forth : (trips : List Trip) (e : ℕ → ℤ) (t : Turns)
    → Parts (root_by (slice_get trips 0) e) (passes_by (slice_get trips 1) e) (passes_by (slice_get trips 2) e) (passes_by (slice_get trips 3) e) t
    → (k : ℕ) → k < 3 → PassesHold (slice_get trips (suc k)) e (slice_index t.inner k)
inner_forth trips e t p zero h = passes_forth e _ (slice_get trips 1) p.first
inner_forth trips e t p (suc zero) h = passes_forth e _ (slice_get trips 2) p.second
inner_forth trips e t p (suc (suc zero)) h = passes_forth e _ (slice_get trips 3) p.third
inner_forth trips e t p (suc (suc (suc k))) h = absurd (omega arith)

pub holds_forth : TestLaw → (c : Check) (regs : List ℕ) (m : List Area) (t : Turns) → ArePairs c.accesses.list.items c.pairs → answer c regs m ≡ Some t → Holds c regs m t
holds_forth law c regs m t are h =
    let e = entry c.cells.list.items regs m in
    let f = tests_from c regs m e t h in
    let cells = and_parts (list_all (cell_fits (in_memory m) regs) c.cells.list.items) (all_clear regs c.cells.list.items) f.cells in
    let p = turns_forth c.trips e t f.turns in
    let r = rest_forth law c regs m e (last_of t) are f.rest in
    record {
      cells = all_forth (cell_fits (in_memory m) regs) (CellHolds regs m) c.cells.list.items (cell_forth regs m) cells.0;
      apart = all_clear_forth regs c.cells.list.items cells.1;
      root = root_forth c.trips e t.root (slice_get c.trips 0) refl p.root;
      three = p.three;
      inner = inner_forth c.trips e t p;
      duties = r.duties;
      accesses = r.accesses;
      off = r.off;
      pairs = r.pairs;
    }

pub holds_back : TestLaw → (c : Check) (regs : List ℕ) (m : List Area) (t : Turns) → ArePairs c.accesses.list.items c.pairs → Holds c regs m t → answer c regs m ≡ Some t
holds_back law c regs m t are h =
    let e = entry c.cells.list.items regs m in
    tests_to c regs m e t
    (record {
      cells =
          both (list_all (cell_fits (in_memory m) regs) c.cells.list.items) (all_clear regs c.cells.list.items)
          (all_back (cell_fits (in_memory m) regs) (CellHolds regs m) c.cells.list.items (cell_back regs m) h.cells)
          (all_clear_back regs c.cells.list.items h.apart);
      turns =
          turns_back c.trips e t
          (record {
            root = root_back c.trips e t.root h.root;
            first = passes_back e _ (slice_get c.trips 1) (h.inner 0 (omega arith));
            second = passes_back e _ (slice_get c.trips 2) (h.inner 1 (omega arith));
            third = passes_back e _ (slice_get c.trips 3) (h.inner 2 (omega arith));
            three = h.three;
          });
      rest =
          rest_back law c regs m e (last_of t) are
          (record { duties = h.duties; accesses = h.accesses; off = h.off; pairs = h.pairs });
    })
