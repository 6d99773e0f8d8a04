-- How many words the parts of a check have at most.
use Rattle.std.proofs.Common.{◌≡◌, ℕ, ℤ, zero, suc, ◌+◌, ◌-◌, ◌*◌, ◌^◌, ◌<◌, ◌≤◌, ◌||◌, if◌then◌else◌, int_lt, nat_lt, pos, negsuc, refl, ap, sym, ◌∙◌, subst, arith, List, [], ◌∷◌, ◌++◌, length, map, Bool, true, false, Option, Some, None}
use Rattle.std.specs.Prelude.{flat_map, nat_le, slice_get, slice_index}
use Rattle.std.specs.List.{All}
use Rattle.std.proofs.lemmas.Bool.{and_parts, leb-true}
use Rattle.std.proofs.lemmas.Int.{ints}
use Rattle.std.proofs.lemmas.List.{length-append, length-map}
use Rattle.std.proofs.lemmas.Option.{slice_get_within, get_or_from_slice_get}
use Rattle.rv64_decode.specs.Area.{bytes_of}
use Rattle.rv64_decode.specs.Aim.{IsNear}
use Rattle.rv64_decode.specs.declared.memory.Width.{Width}
use Rattle.rv64_decode.specs.declared.xinstr.XInstr.{XInstr}
use Rattle.linear_forms.specs.Forms.{EntryTerm, LinearForm, AreTerms, IsForm, are_small}
use Rattle.loop_data.specs.declared.accesses.Access.{Access}
use Rattle.loop_data.specs.declared.equations.Duty.{Duty}
use Rattle.loop_data.specs.declared.plans.Term.{Term}
use Rattle.loop_data.specs.declared.plans.Term.TheVariants.{Same, Apart}
use Rattle.loop_data.specs.declared.trips.Relation.{Relation}
use Rattle.loop_data.specs.declared.trips.Relation.TheVariants.{Differ, Less, AtMost, More, AtLeast}
use Rattle.loop_data.specs.declared.trips.Trip.{Trip}
use Rattle.loop_data.specs.declared.verdict.Cell.{Cell}
use Rattle.loop_data.specs.Locations.{width_of}
use Rattle.check_numbers.specs.TripWords.{is_strict, is_up}
use Rattle.std.specs.Int.RustNames.{unsigned_abs}
use Rattle.alias_checks.specs.declared.areas.Permission.{Permission}
use Rattle.alias_checks.specs.declared.lists.Check.{Check}
use Rattle.alias_checks.specs.AccessTests.{access_permission}
use Rattle.alias_checks.specs.Areas.{Bounds, flags_permit}
use Rattle.alias_checks.specs.CellTests.{cell_permission, same_base}
use Rattle.alias_checks.specs.Listing.{Pair, Two, row_from, rows_from, places_in, ArePairs}
use Rattle.stub_laws.specs.Code.{readings, somes}
use Rattle.stub_laws.proofs.Ends.{many_words}
use Rattle.check_code.specs.Macros.{sum_code, terms_code, form_code, span_code, fall_code, rise_code, low_code, high_code, offset_code, address_by_code, address_code, permitted, area_code, areas_code}
use Rattle.check_code.specs.Rounds.{own_form, own_slots}
use Rattle.check_code.specs.AccessCode.{access_low, access_end, access_code, below_code, aligned_code}
use Rattle.check_code.specs.CellCode.{cell_areas_code, cell_load_code, cell_code, apart_code, both_code, clear_code}
use Rattle.check_code.specs.CheckCode.{cells_code, all_clear_code, inners_code, trips_code, all_keep_off_code, pair_of_code, pair_at_code, check_code}
use Rattle.check_code.specs.Checkable.{HasRoom, KeepsLimits}
use Rattle.check_code.specs.DutyCode.{short_code, shorts_code, duty_code}
use Rattle.check_code.specs.MeetCode.{disjoint_code, meet_code, keep_off_code}
use Rattle.check_code.specs.PairCode.{distance_code, passes_code, far_code, residue_part, lane_part, block_code, four_code, front_code, same_code, ranges_code, pair_code, lane_length, residue_length, far_length}
use Rattle.check_code.specs.Sizes.{most_words, CanBeAimed}
use Rattle.check_code.specs.TurnCode.{difference_code, counted_code, order_code, trip_by, trip_code, last_turn_code, last_pass_code, root_code, inner_code}

-- ---- lists of at most so many

le_self : (n : ℕ) → n ≤ n
le_self n = omega arith

zero_least : (n : ℕ) → 0 ≤ n
zero_least n = omega arith

to_suc : (n m : ℕ) → n ≤ 1 + m → n ≤ suc m
to_suc n m h = omega (arith, h)

both_below : {X : Type 0} (xs ys : List X) (a b : ℕ) → length xs ≤ a → length ys ≤ b → length (xs ++ ys) ≤ a + b
both_below xs ys a b p q = let e = length-append xs ys in omega (arith, p, q, e)

if_below : (b : Bool) (xs : List XInstr) (n : ℕ) → length xs ≤ n → length (if b then xs else []) ≤ n
if_below true xs n h = h
if_below false xs n h = omega arith

-- so many each
abbrev times : ℕ → ℕ → ℕ
times n zero = 0
times n (suc k) = n + times n k

add_most : (n a b : ℕ) → a ≤ b → n + a ≤ n + b
add_most n a b h = omega (arith, h)

times_most : (n a b : ℕ) → a ≤ b → times n a ≤ times n b
times_most n zero b h = zero_least (times n b)
times_most n (suc a) zero h = absurd (omega (arith, h))
times_most n (suc a) (suc b) h = add_most n (times n a) (times n b) (times_most n a b (omega (arith, h)))

le_of : (a b c : ℕ) → a ≤ b → b ≤ c → a ≤ c
le_of a b c p q = omega (arith, p, q)

flat_below : {X : Type 0} (P : X → Type 0) (code : X → List XInstr) (n : ℕ) → ((x : X) → P x → length (code x) ≤ n) → (xs : List X) → All P xs
    → length (flat_map code xs) ≤ times n (length xs)
flat_below P code n each [] all = le_self 0
flat_below P code n each (x ∷ xs) all =
    both_below (code x) (flat_map code xs) n (times n (length xs)) (each x (all 0 x (omega arith)))
    (flat_below P code n each xs (λ i d l. all (suc i) d (omega (arith, l))))

-- ---- forms

five_more : (n m : ℕ) → n ≤ 5 * m → suc (suc (suc (suc (suc n)))) ≤ 5 * suc m
five_more n m h = omega (arith, h)

sum_below : (r : ℕ) (ts : List EntryTerm) → length (sum_code r ts) ≤ 5 * length ts
sum_below r [] = omega arith
sum_below r (t ∷ ts) = five_more (length (sum_code r ts)) (length ts) (sum_below r ts)

few_terms : (ts : List EntryTerm) → AreTerms ts → length ts ≤ 4
few_terms ts h = leb-true (length ts) 4 (and_parts (nat_le (length ts) 4) (are_small ts) h.limited).0

form_more : (n m : ℕ) → n ≤ 5 * m → m ≤ 4 → suc (suc n) ≤ 22
form_more n m h k = omega (arith, h, k)

form_below : (r : ℕ) (f : LinearForm) → IsForm f → length (form_code r f) ≤ 22
form_below r f h = form_more (length (sum_code r f.terms)) (length f.terms) (sum_below r f.terms) (few_terms f.terms h.terms)

fall_below : (r : ℕ) (by : ℤ) (slot : ℕ) → length (fall_code r by slot) ≤ 5
fall_below r by slot = if_below (int_lt by (pos 0)) (span_code r by slot) 5 (le_self 5)

rise_below : (r : ℕ) (by : ℤ) (slot : ℕ) → length (rise_code r by slot) ≤ 5
rise_below r by slot = if_below (int_lt (pos 0) by) (span_code r by slot) 5 (le_self 5)

low_below : (r : ℕ) (f : LinearForm) (slots : List ℕ) → length (form_code r f) ≤ 22 → length (low_code r f slots) ≤ 37
low_below r f slots h =
    both_below (form_code r f) _ 22 15 h
    (both_below (fall_code r f.first (slice_index slots 0)) _ 5 10 (fall_below r f.first (slice_index slots 0))
    (both_below (fall_code r f.second (slice_index slots 1)) _ 5 5 (fall_below r f.second (slice_index slots 1))
    (fall_below r f.third (slice_index slots 2))))

high_below : (r : ℕ) (f : LinearForm) (slots : List ℕ) (size : ℕ) → length (form_code r f) ≤ 22 → length (high_code r f slots size) ≤ 38
high_below r f slots size h =
    both_below (form_code r f) _ 22 16 h
    (both_below (rise_code r f.first (slice_index slots 0)) _ 5 11 (rise_below r f.first (slice_index slots 0))
    (both_below (rise_code r f.second (slice_index slots 1)) _ 5 6 (rise_below r f.second (slice_index slots 1))
    (both_below (rise_code r f.third (slice_index slots 2)) _ 5 1 (rise_below r f.third (slice_index slots 2)) (le_self 1))))

-- ---- cells

address_below : (r : ℕ) (base : Option ℕ) (z : ℤ) → length (address_by_code r base z) ≤ 2
address_below r None z = le_self 2
address_below r (Some q) z = le_self 2

permitted_more : (b : Bool) (x : Bounds) (xs : List Bounds) (n : ℕ) → length xs ≤ n → length (if b then x ∷ xs else xs) ≤ suc n
permitted_more true x xs n h = omega (arith, h)
permitted_more false x xs n h = omega (arith, h)

permitted_below : (p : Permission) (bs : List Bounds) → length (permitted p bs) ≤ length bs
permitted_below p [] = le_self 0
permitted_below p (b ∷ bs) = permitted_more (flags_permit p b.2) b (permitted p bs) (length bs) (permitted_below p bs)

six_more : (n m : ℕ) → n ≤ 6 * m + 1 → suc (suc (suc (suc (suc (suc n))))) ≤ 6 * suc m + 1
six_more n m h = omega (arith, h)

areas_more : (bs : List Bounds) → length (areas_code bs) ≤ 6 * length bs + 1
areas_more [] = le_self 1
areas_more (b ∷ bs) = six_more (length (areas_code bs)) (length bs) (areas_more bs)

areas_below : (p : Permission) (bs : List Bounds) → length bs ≤ 128 → length (areas_code (permitted p bs)) ≤ 769
areas_below p bs few = let a = areas_more (permitted p bs) in let b = permitted_below p bs in omega (arith, a, b, few)

more : (n m : ℕ) → n ≤ m → suc n ≤ suc m
more n m h = omega (arith, h)

cell_below : (areas : List Bounds) (slot : ℕ) (c : Cell) → length areas ≤ 128 → length (cell_code areas slot c) ≤ 780
cell_below areas slot c few =
    both_below (address_code 5 c) _ 2 778 (address_below 5 c.base c.offset)
    (both_below (aligned_code (width_of c)) (below_code ++ (cell_areas_code areas c ++ cell_load_code slot c)) 3 775 (le_self 3)
    (both_below below_code (cell_areas_code areas c ++ cell_load_code slot c) 3 772 (le_self 3)
    (both_below (cell_areas_code areas c) (cell_load_code slot c) 770 2 (more _ 769 (areas_below (cell_permission c) areas few)) (le_self 2))))

cells_below : (areas : List Bounds) (slot : ℕ) (cs : List Cell) → length areas ≤ 128 → length (cells_code areas slot cs) ≤ times 780 (length cs)
cells_below areas slot [] few = le_self 0
cells_below areas slot (c ∷ cs) few =
    both_below (cell_code areas slot c) (cells_code areas (suc slot) cs) 780 (times 780 (length cs)) (cell_below areas slot c few)
    (cells_below areas (suc slot) cs few)

both_cells : (c d : Cell) → length (both_code c d) ≤ 9
both_cells c d =
    both_below (address_code 5 c) _ 2 7 (address_below 5 c.base c.offset)
    (both_below (address_code 6 d) (apart_code c d) 2 5 (address_below 6 d.base d.offset) (le_self 5))

clear_below : (c d : Cell) → length (clear_code c d) ≤ 9
clear_below c d = go (same_base c.base d.base)
  where
    go : (b : Bool) → length (if b then [] else if c.stored || d.stored then both_code c d else []) ≤ 9
    go true = omega arith
    go false = if_below (c.stored || d.stored) (both_code c d) 9 (both_cells c d)

all_any : {X : Type 0} (xs : List X) → All (λ x. Unit {0}) xs
all_any xs i d l = tt

row_clear : (c : Cell) (cs : List Cell) → length cs ≤ 16 → length (flat_map (clear_code c) cs) ≤ 144
row_clear c cs h =
    le_of _ (times 9 (length cs)) 144 (flat_below (λ x. Unit {0}) (clear_code c) 9 (λ d u. clear_below c d) cs (all_any cs)) (times_most 9 (length cs) 16 h)

all_clear_below : (cs : List Cell) → length cs ≤ 16 → length (all_clear_code cs) ≤ times 144 (length cs)
all_clear_below [] h = le_self 0
all_clear_below (c ∷ cs) h =
    let few : length cs ≤ 16 = omega (arith, h) in
    both_below (flat_map (clear_code c) cs) (all_clear_code cs) 144 (times 144 (length cs)) (row_clear c cs few) (all_clear_below cs few)

-- ---- trips

difference_below : (f : LinearForm) (step : ℤ) → IsForm f → length (difference_code f step) ≤ 57
difference_below f step h =
    le_of _ 31 57 (both_below (form_code 5 f) _ 22 9 (form_below 5 f h) (le_self 9)) (omega arith)

order_below : (signed strict up : Bool) (start bound : LinearForm) (size : ℕ) → IsForm start → IsForm bound
    → length (order_code signed strict up start bound size) ≤ 57
order_below signed strict up start bound size h k =
    both_below (form_code 5 start) _ 22 35 (form_below 5 start h)
    (both_below (form_code 6 bound) _ 22 13 (form_below 6 bound k) (le_self 13))

by_below : (relation : Relation) (signed : Bool) (start bound : LinearForm) (step : ℤ) → IsForm start → IsForm bound
    → length (trip_by relation signed start bound step) ≤ 57
by_below Differ signed start bound step h k = difference_below start step h
by_below Less signed start bound step h k = order_below signed (is_strict Less) (is_up Less) start bound (unsigned_abs step) h k
by_below AtMost signed start bound step h k = order_below signed (is_strict AtMost) (is_up AtMost) start bound (unsigned_abs step) h k
by_below More signed start bound step h k = order_below signed (is_strict More) (is_up More) start bound (unsigned_abs step) h k
by_below AtLeast signed start bound step h k = order_below signed (is_strict AtLeast) (is_up AtLeast) start bound (unsigned_abs step) h k

trip_below : (t : Trip) → IsForm t.start → IsForm t.bound → length (trip_code t) ≤ 57
trip_below t h k = by_below t.relation t.signed t.start t.bound t.step h k

tail_of : {X : Type 0} (P : X → Type 0) (x : X) (xs : List X) → All P (x ∷ xs) → All P xs
tail_of P x xs all i d l = all (suc i) d (omega (arith, l))

head_of : {X : Type 0} (P : X → Type 0) (x : X) (xs : List X) → All P (x ∷ xs) → P x
head_of P x xs all = all 0 x (omega arith)

inners_below : (slot : ℕ) (ts : List Trip) → All (λ (t : Trip). IsForm t.start) ts → All (λ (t : Trip). IsForm t.bound) ts
    → length (inners_code slot ts) ≤ times 61 (length ts)
inners_below slot [] a b = le_self 0
inners_below slot (t ∷ ts) a b =
    both_below (inner_code slot t) (inners_code (suc slot) ts) 61 (times 61 (length ts))
    (both_below (trip_code t) (last_pass_code slot) 57 4
    (trip_below t (head_of (λ (t : Trip). IsForm t.start) t ts a) (head_of (λ (t : Trip). IsForm t.bound) t ts b)) (le_self 4))
    (inners_below (suc slot) ts (tail_of (λ (t : Trip). IsForm t.start) t ts a) (tail_of (λ (t : Trip). IsForm t.bound) t ts b))

trips_below : (ts : List Trip) → length ts ≤ 4 → All (λ (t : Trip). IsForm t.start) ts → All (λ (t : Trip). IsForm t.bound) ts
    → length (trips_code ts) ≤ 249
trips_below [] few a b = omega arith
trips_below (t ∷ ts) few a b =
    both_below (root_code t) (inners_code 24 ts) 66 183
    (both_below (trip_code t) last_turn_code 57 9
    (trip_below t (head_of (λ (t : Trip). IsForm t.start) t ts a) (head_of (λ (t : Trip). IsForm t.bound) t ts b)) (le_self 9))
    (le_of _ (times 61 (length ts)) 183
    (inners_below 24 ts (tail_of (λ (t : Trip). IsForm t.start) t ts a) (tail_of (λ (t : Trip). IsForm t.bound) t ts b))
    (times_most 61 (length ts) 3 (omega (arith, few))))

-- ---- duties and accesses

duty_below : (d : Duty) → IsForm d.form → length (duty_code d) ≤ 108
duty_below d h =
    both_below (form_code 5 d.form) _ 22 86 (form_below 5 d.form h)
    (both_below short_code
    (low_code 5 (own_form d.form d.around) (own_slots d.around) ++ (high_code 6 (own_form d.form d.around) (own_slots d.around) 0 ++ shorts_code)) 3 83 (le_self 3)
    (both_below (low_code 5 (own_form d.form d.around) (own_slots d.around))
    (high_code 6 (own_form d.form d.around) (own_slots d.around) 0 ++ shorts_code) 37 46
    (low_below 5 (own_form d.form d.around) (own_slots d.around) (form_below 5 d.form h))
    (both_below (high_code 6 (own_form d.form d.around) (own_slots d.around) 0) shorts_code 38 8
    (high_below 6 (own_form d.form d.around) (own_slots d.around) 0 (form_below 6 d.form h)) (le_self 8))))

access_low_below : (r : ℕ) (a : Access) → IsForm a.form → length (access_low r a) ≤ 37
access_low_below r a h = low_below r (own_form a.form a.around) (own_slots a.around) (form_below r a.form h)

access_end_below : (r : ℕ) (a : Access) → IsForm a.form → length (access_end r a) ≤ 38
access_end_below r a h = high_below r (own_form a.form a.around) (own_slots a.around) (bytes_of a.width) (form_below r a.form h)

access_below : (areas : List Bounds) (a : Access) → length areas ≤ 128 → IsForm a.form → length (access_code areas a) ≤ 872
access_below areas a few h =
    both_below (form_code 5 a.form) _ 22 850 (form_below 5 a.form h)
    (both_below below_code (aligned_code a.width ++ (access_low 5 a ++ (access_end 6 a ++ areas_code (permitted (access_permission a) areas)))) 3 847 (le_self 3)
    (both_below (aligned_code a.width) (access_low 5 a ++ (access_end 6 a ++ areas_code (permitted (access_permission a) areas))) 3 844 (le_self 3)
    (both_below (access_low 5 a) (access_end 6 a ++ areas_code (permitted (access_permission a) areas)) 37 807 (access_low_below 5 a h)
    (both_below (access_end 6 a) _ 38 769 (access_end_below 6 a h) (areas_below (access_permission a) areas few)))))

meet_below : (c : Cell) (a : Access) → IsForm a.form → length (meet_code c a) ≤ 81
meet_below c a h =
    both_below (address_code 5 c) _ 2 79 (address_below 5 c.base c.offset)
    (more _ 78 (both_below (access_low 7 a) _ 37 41 (access_low_below 7 a h) (both_below (access_end 28 a) disjoint_code 38 3 (access_end_below 28 a h) (le_self 3))))

keep_off_below : (c : Cell) (a : Access) → IsForm a.form → length (keep_off_code c a) ≤ 81
keep_off_below c a h = if_below (c.stored || a.store) (meet_code c a) 81 (meet_below c a h)

all_keep_off_below : (cs : List Cell) (list : List Access) → length cs ≤ 16 → length list ≤ 32 → All (λ (a : Access). IsForm a.form) list
    → length (all_keep_off_code cs list) ≤ 41472
all_keep_off_below cs list few short all =
    le_of _ (times 2592 (length cs)) 41472
    (flat_below (λ x. Unit {0}) (λ (c : Cell). flat_map (keep_off_code c) list) 2592 row cs (all_any cs))
    (times_most 2592 (length cs) 16 few)
  where
    row : (c : Cell) → Unit {0} → length (flat_map (keep_off_code c) list) ≤ 2592
    row c u =
        le_of _ (times 81 (length list)) 2592 (flat_below (λ (a : Access). IsForm a.form) (keep_off_code c) 81 (keep_off_below c) list all)
        (times_most 81 (length list) 32 short)

-- ---- pairs

ranges_below : (a b : Access) → IsForm a.form → IsForm b.form → length (ranges_code a b) ≤ 153
ranges_below a b h k =
    both_below (access_low 5 a) _ 37 116 (access_low_below 5 a h)
    (both_below (access_end 6 a) _ 38 78 (access_end_below 6 a h)
    (both_below (access_low 7 b) _ 37 41 (access_low_below 7 b k) (both_below (access_end 28 b) disjoint_code 38 3 (access_end_below 28 b k) (le_self 3))))

passes_below : (inner : List ℕ) → length (passes_code inner) ≤ 15
passes_below inner =
    both_below (rise_code 6 (pos (slice_index inner 0)) 24) _ 5 10 (rise_below 6 (pos (slice_index inner 0)) 24)
    (both_below (rise_code 6 (pos (slice_index inner 1)) 25) (rise_code 6 (pos (slice_index inner 2)) 26) 5 5
    (rise_below 6 (pos (slice_index inner 1)) 25) (rise_below 6 (pos (slice_index inner 2)) 26))

front_below : (f g : LinearForm) (inner : List ℕ) → IsForm f → IsForm g → length (front_code f g inner) ≤ 64
front_below f g inner h k =
    both_below (form_code 5 f) _ 22 42 (form_below 5 f h)
    (both_below (form_code 6 g) _ 22 20 (form_below 6 g k) (both_below distance_code (passes_code inner) 5 15 (le_self 5) (passes_below inner)))

lanes_below : (inner : Bool) (lanes width n : ℕ) → length (lane_part inner lanes width n) ≤ 8
lanes_below true lanes width n = le_self 8
lanes_below false lanes width n = omega arith

residues_below : (common : Bool) (residue width : ℕ) → length (residue_part common residue width) ≤ 9
residues_below true residue width = le_self 9
residues_below false residue width = omega arith

four_below : (inner common : Bool) (root lanes residue width : ℕ) → length (four_code inner common root lanes residue width) ≤ 28
four_below inner common root lanes residue width =
    both_below (block_code root width (lane_length inner + (residue_length common + far_length))) _ 5 23 (le_self 5)
    (both_below (lane_part inner lanes width (residue_length common + far_length)) _ 8 15 (lanes_below inner lanes width (residue_length common + far_length))
    (both_below (residue_part common residue width) (far_code width) 9 6 (residues_below common residue width) (le_self 6)))

pair_below : (a b : Access) (term : Term) → IsForm a.form → IsForm b.form → length (pair_code a b term) ≤ 153
pair_below a b (Same root inner lanes residue width known) h k =
    le_of _ 92 153
    (both_below (front_code a.form b.form inner) _ 64 28 (front_below a.form b.form inner h k) (four_below (nat_lt 0 lanes) (nat_lt 0 residue) root lanes residue width))
    (omega arith)
pair_below a b Apart h k = ranges_below a b h k

taken_form : (list : List Access) (i : ℕ) (a : Access) → All (λ (x : Access). IsForm x.form) list → slice_get list i ≡ Some a → IsForm a.form
taken_form list i a all e =
    subst (λ (x : Access). IsForm x.form) (get_or_from_slice_get list i a a e) (all i a (slice_get_within list i a e))

pair_at_below : (list : List Access) → All (λ (x : Access). IsForm x.form) list → (t : Pair) → length (pair_at_code list t) ≤ 153
pair_at_below list all t = go (slice_get list t.0) (slice_get list t.1) refl refl
  where
    go : (o p : Option Access) → slice_get list t.0 ≡ o → slice_get list t.1 ≡ p → length (pair_of_code o p t.2) ≤ 153
    go (Some a) (Some b) e f = pair_below a b t.2 (taken_form list t.0 a all e) (taken_form list t.1 b all f)
    go (Some a) None e f = omega arith
    go None p e f = omega arith

-- as many pairs as there are places at or before a place
abbrev triangle : ℕ → ℕ
triangle zero = 0
triangle (suc n) = suc n + triangle n

add_both : (a b c d : ℕ) → a ≤ b → c ≤ d → a + c ≤ b + d
add_both a b c d p q = omega (arith, p, q)

triangle_most : (a b : ℕ) → a ≤ b → triangle a ≤ triangle b
triangle_most zero b h = zero_least (triangle b)
triangle_most (suc a) zero h = absurd (omega (arith, h))
triangle_most (suc a) (suc b) h = add_both (suc a) (suc b) (triangle a) (triangle b) h (triangle_most a b (omega (arith, h)))

one_or_none : (b : Bool) (t : Two) → length (if b then t ∷ [] else []) ≤ 1
one_or_none true t = le_self 1
one_or_none false t = omega arith

row_below : (store : Bool) (i j : ℕ) (list : List Access) → length (row_from store i j list) ≤ length list
row_below store i j [] = le_self 0
row_below store i j (b ∷ bs) =
    to_suc _ (length bs)
    (both_below (if store || b.store then (i, j) ∷ [] else []) (row_from store i (suc j) bs) 1 (length bs) (one_or_none (store || b.store) (i, j))
    (row_below store i (suc j) bs))

rows_below : (i : ℕ) (list : List Access) → length (rows_from i list) ≤ triangle (length list)
rows_below i [] = le_self 0
rows_below i (a ∷ rest) =
    both_below (row_from a.store i i (a ∷ rest)) (rows_from (suc i) rest) (length (a ∷ rest)) (triangle (length rest)) (row_below a.store i i (a ∷ rest))
    (rows_below (suc i) rest)

few_pairs : (list : List Access) (pairs : List Pair) → length list ≤ 32 → ArePairs list pairs → length pairs ≤ 528
few_pairs list pairs few are =
    let m = length-map {B = Two} pairs (λ (t : Pair). (t.0, t.1)) in
    let e : length (places_in pairs) ≡ length (rows_from 0 list) = ap length are.places in
    let r = rows_below 0 list in
    let t : triangle (length list) ≤ 528 = triangle_most (length list) 32 few in
    omega (arith, m, e, r, t)

pairs_below : (list : List Access) (pairs : List Pair) → length list ≤ 32 → ArePairs list pairs → All (λ (x : Access). IsForm x.form) list
    → length (flat_map (pair_at_code list) pairs) ≤ 80784
pairs_below list pairs few are all =
    le_of _ (times 153 (length pairs)) 80784
    (flat_below (λ x. Unit {0}) (pair_at_code list) 153 (λ t u. pair_at_below list all t) pairs (all_any pairs))
    (times_most 153 (length pairs) 528 (few_pairs list pairs few are))

-- ---- all of them

short_code_of : (c : Check) → HasRoom c → KeepsLimits c → length (check_code c) ≤ 192841
short_code_of c room keeps =
    both_below (cells_code c.areas 0 c.cells.list.items) _ 12480 180361
    (le_of _ (times 780 (length c.cells.list.items)) 12480 (cells_below c.areas 0 c.cells.list.items room.few_areas)
    (times_most 780 (length c.cells.list.items) 16 keeps.few_cells))
    (both_below (all_clear_code c.cells.list.items) _ 2304 178057
    (le_of _ (times 144 (length c.cells.list.items)) 2304 (all_clear_below c.cells.list.items keeps.few_cells)
    (times_most 144 (length c.cells.list.items) 16 keeps.few_cells))
    (both_below (trips_code c.trips) _ 249 177808 (trips_below c.trips room.few_trips keeps.starts keeps.bounds)
    (both_below (flat_map duty_code c.duties) _ 27648 150160
    (le_of _ (times 108 (length c.duties)) 27648 (flat_below (λ (d : Duty). IsForm d.form) duty_code 108 duty_below c.duties keeps.duties)
    (times_most 108 (length c.duties) 256 room.few_duties))
    (both_below (flat_map (access_code c.areas) c.accesses.list.items) _ 27904 122256
    (le_of _ (times 872 (length c.accesses.list.items)) 27904
    (flat_below (λ (a : Access). IsForm a.form) (access_code c.areas) 872 (λ a h. access_below c.areas a room.few_areas h) c.accesses.list.items keeps.accesses)
    (times_most 872 (length c.accesses.list.items) 32 keeps.few_accesses))
    (both_below (all_keep_off_code c.cells.list.items c.accesses.list.items) _ 41472 80784
    (all_keep_off_below c.cells.list.items c.accesses.list.items keeps.few_cells keeps.few_accesses keeps.accesses)
    (pairs_below c.accesses.list.items c.pairs keeps.few_accesses room.pairs keeps.accesses))))))

pub short_words : (c : Check) (words : List ℕ) → HasRoom c → KeepsLimits c → readings words ≡ somes (check_code c) → length words ≤ most_words
short_words c words room keeps e =
    let n = many_words words (check_code c) e in let s = short_code_of c room keeps in omega (arith, n, s)

-- a jump over so many words and 2 ^ 15 places more
pub can_be_aimed : (words : List ℕ) → length words ≤ most_words → CanBeAimed words
can_be_aimed words short to k lt le = (omega (arith, ints, short, lt, le), omega (arith, ints, short, lt, le))
