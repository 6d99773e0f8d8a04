-- The words of a check neither store nor call, and jump to the open target alone.
use Rattle.std.proofs.Common.{◌≡◌, ℕ, suc, ◌+◌, refl, ap, ◌∙◌, ℤ, pos, Option, Some, None, Bool, true, false, cond, List, [], ◌∷◌, ◌++◌, length}
use Rattle.std.specs.Prelude.{◌&&◌, ◌||◌, flat_map, int_lt, nat_lt, slice_get, slice_index}
use Rattle.std.specs.List.{list_all}
use Rattle.rv64_decode.specs.declared.instr.BranchOp.{BranchOp}
use Rattle.rv64_decode.specs.declared.instr.ImmOp.TheVariants.{Addi}
use Rattle.rv64_decode.specs.declared.instr.Instr.TheVariants.{AluImm}
use Rattle.rv64_decode.specs.declared.xinstr.XInstr.{XInstr}
use Rattle.rv64_decode.specs.declared.xinstr.XInstr.TheVariants.{Base}
use Rattle.linear_forms.specs.Forms.{EntryTerm, LinearForm}
use Rattle.loop_data.specs.declared.accesses.Access.{Access}
use Rattle.loop_data.specs.declared.equations.Duty.{Duty}
use Rattle.loop_data.specs.declared.plans.Term.{Term}
use Rattle.loop_data.specs.declared.plans.Term.TheVariants.{Same, Apart}
use Rattle.loop_data.specs.declared.trips.Relation.{Relation}
use Rattle.loop_data.specs.declared.trips.Relation.TheVariants.{Differ, Less, AtMost, More, AtLeast}
use Rattle.loop_data.specs.declared.trips.Trip.{Trip}
use Rattle.loop_data.specs.declared.verdict.Cell.{Cell}
use Rattle.alias_checks.specs.declared.lists.Check.{Check}
use Rattle.alias_checks.specs.Areas.{Bounds}
use Rattle.alias_checks.specs.CellTests.{same_base, cell_permission}
use Rattle.alias_checks.specs.AccessTests.{access_permission}
use Rattle.rv64_decode.specs.Area.{bytes_of}
use Rattle.std.specs.Int.RustNames.{unsigned_abs}
use Rattle.alias_checks.specs.Listing.{Pair}
use Rattle.stub_laws.specs.Locations.{slot_of}
use Rattle.check_numbers.specs.TripWords.{branch_of, swapped, side}
use Rattle.check_code.specs.Macros.{bring_from, product_code, sum_code, terms_code, form_code, span_code, fall_code, rise_code, low_code, offset_code, high_code, address_by_code, address_code, need_code, permitted, areas_code}
use Rattle.check_code.specs.Rounds.{own_form, own_slots}
use Rattle.check_code.specs.TurnCode.{gap_code, end_code, count_code, counted_code, order_code, trip_by, trip_code, root_code, inner_code}
use Rattle.check_code.specs.DutyCode.{duty_code}
use Rattle.check_code.specs.AccessCode.{access_low, access_end, access_code}
use Rattle.check_code.specs.MeetCode.{meet_code, keep_off_code}
use Rattle.check_code.specs.PairCode.{lane_part, residue_part, residue_length, far_length, far_code, front_code, pair_code}
use Rattle.check_code.specs.CellCode.{cell_load_code, cell_code, apart_code, both_code, clear_code}
use Rattle.check_code.specs.CheckCode.{is_check_word, cells_code, all_clear_code, inners_code, trips_code, all_keep_off_code, pair_of_code, pair_at_code, check_code}

abbrev Plain : List XInstr → Type 0
Plain is = list_all is_check_word is ≡ true

both : (is js : List XInstr) → Plain is → Plain js → Plain (is ++ js)
both [] js h k = k
both (i ∷ is) js h k = by_test (is_check_word i) (both is js) h
  where
    by_test : (t : Bool) → (Plain is → Plain js → Plain (is ++ js)) → (t && list_all is_check_word is) ≡ true →
        (t && list_all is_check_word (is ++ js)) ≡ true
    by_test true again h = again h k
    by_test false again h = h

either : (t : Bool) (is js : List XInstr) → Plain is → Plain js → Plain (cond t is js)
either true is js h k = h
either false is js h k = k

each : {X : Type 0} (code : X → List XInstr) → ((x : X) → Plain (code x)) → (xs : List X) → Plain (flat_map code xs)
each code h [] = refl
each code h (x ∷ xs) = both (code x) (flat_map code xs) (h x) (each code h xs)

brings : (r loc : ℕ) (o : Option ℕ) (js : List XInstr) → Plain js → Plain (bring_from r loc o ∷ js)
brings r loc None js h = h
brings r loc (Some slot) js h = h

sums : (r : ℕ) (ts : List EntryTerm) → Plain (sum_code r ts)
sums r [] = refl
sums r (t ∷ ts) = brings 31 t.loc (slot_of t.loc) (product_code r t.by ++ sum_code r ts) (sums r ts)

forms : (r : ℕ) (c : ℤ) (ts : List EntryTerm) → Plain (terms_code r c ts)
forms r c ts = sums r ts

lows : (r : ℕ) (f : LinearForm) (slots : List ℕ) → Plain (low_code r f slots)
lows r f slots =
    both (terms_code r f.constant f.terms) _ (forms r f.constant f.terms)
    (both (fall_code r f.first (slice_index slots 0)) _
    (either (int_lt f.first (pos 0)) (span_code r f.first (slice_index slots 0)) [] refl refl)
    (both (fall_code r f.second (slice_index slots 1)) _
    (either (int_lt f.second (pos 0)) (span_code r f.second (slice_index slots 1)) [] refl refl)
    (either (int_lt f.third (pos 0)) (span_code r f.third (slice_index slots 2)) [] refl refl)))

highs : (r : ℕ) (f : LinearForm) (slots : List ℕ) (size : ℕ) → Plain (high_code r f slots size)
highs r f slots size =
    both (terms_code r f.constant f.terms) _ (forms r f.constant f.terms)
    (both (rise_code r f.first (slice_index slots 0)) _
    (either (int_lt (pos 0) f.first) (span_code r f.first (slice_index slots 0)) [] refl refl)
    (both (rise_code r f.second (slice_index slots 1)) _
    (either (int_lt (pos 0) f.second) (span_code r f.second (slice_index slots 1)) [] refl refl)
    (both (rise_code r f.third (slice_index slots 2)) _
    (either (int_lt (pos 0) f.third) (span_code r f.third (slice_index slots 2)) [] refl refl) refl)))

addresses : (r : ℕ) (base : Option ℕ) (offset : ℤ) → Plain (address_by_code r base offset)
addresses r None offset = refl
addresses r (Some base) offset = brings r base (slot_of base) (offset_code r offset) refl

areas : (bs : List Bounds) → Plain (areas_code bs)
areas [] = refl
areas (b ∷ bs) = areas bs

accesses_low : (r : ℕ) (a : Access) → Plain (access_low r a)
accesses_low r a = lows r (own_form a.form a.around) (own_slots a.around)

accesses_end : (r : ℕ) (a : Access) → Plain (access_end r a)
accesses_end r a = highs r (own_form a.form a.around) (own_slots a.around) (bytes_of a.width)

form_plain : (r : ℕ) (f : LinearForm) → Plain (form_code r f)
form_plain r f = forms r f.constant f.terms

-- cells
cell_plain : (bs : List Bounds) (slot : ℕ) (c : Cell) → Plain (cell_code bs slot c)
cell_plain bs slot c =
    both (address_code 5 c) _ (addresses 5 c.base c.offset)
    (both (areas_code (permitted (cell_permission c) bs)) (cell_load_code slot c) (areas (permitted (cell_permission c) bs)) refl)

cells_plain : (bs : List Bounds) (slot : ℕ) (cs : List Cell) → Plain (cells_code bs slot cs)
cells_plain bs slot [] = refl
cells_plain bs slot (c ∷ cs) = both (cell_code bs slot c) (cells_code bs (suc slot) cs) (cell_plain bs slot c)
    (cells_plain bs (suc slot) cs)

clear_plain : (c d : Cell) → Plain (clear_code c d)
clear_plain c d =
    either (same_base c.base d.base) [] (cond (c.stored || d.stored) (both_code c d) []) refl
    (either (c.stored || d.stored) (both_code c d) []
    (both (address_code 5 c) _ (addresses 5 c.base c.offset)
    (both (address_code 6 d) (apart_code c d) (addresses 6 d.base d.offset) refl)) refl)

all_clear_plain : (cs : List Cell) → Plain (all_clear_code cs)
all_clear_plain [] = refl
all_clear_plain (c ∷ cs) = both (flat_map (clear_code c) cs) (all_clear_code cs) (each (clear_code c) (clear_plain c) cs)
    (all_clear_plain cs)

-- trips
one_before : (i : XInstr) (is : List XInstr) → is_check_word i ≡ true → Plain is → Plain (i ∷ is)
one_before i is h k = rw (h, k) refl

gap_plain : (up : Bool) → is_check_word (gap_code up) ≡ true
gap_plain true = refl
gap_plain false = refl

end_plain : (up : Bool) → is_check_word (end_code up) ≡ true
end_plain true = refl
end_plain false = refl

count_plain : (strict up : Bool) (size : ℕ) → Plain (count_code strict up size)
count_plain strict up size = one_before (gap_code up) (end_code up ∷ []) (gap_plain up) (one_before (end_code up) [] (end_plain up) refl)

order_plain : (signed strict up : Bool) (f g : LinearForm) (size : ℕ) → Plain (order_code signed strict up f g size)
order_plain signed strict up f g size =
    both (form_code 5 f) _ (form_plain 5 f) (both (form_code 6 g) _ (form_plain 6 g)
    (both (counted_code signed strict up size) (Base (AluImm Addi 5 7 (pos 0)) ∷ [])
    (both (count_code strict up size) (need_code (branch_of signed strict) (side (swapped strict up) 28 6)
    (side (swapped strict up) 6 28)) (count_plain strict up size) refl) refl))

trip_plain : (relation : Relation) (signed : Bool) (f g : LinearForm) (step : ℤ) → Plain (trip_by relation signed f g step)
trip_plain Differ signed f g step = both (form_code 5 f) _ (form_plain 5 f) refl
trip_plain Less signed f g step = order_plain signed true true f g (unsigned_abs step)
trip_plain AtMost signed f g step = order_plain signed false true f g (unsigned_abs step)
trip_plain More signed f g step = order_plain signed true false f g (unsigned_abs step)
trip_plain AtLeast signed f g step = order_plain signed false false f g (unsigned_abs step)

inners_plain : (slot : ℕ) (ts : List Trip) → Plain (inners_code slot ts)
inners_plain slot [] = refl
inners_plain slot (t ∷ ts) = both (inner_code slot t) (inners_code (suc slot) ts)
    (both (trip_code t) _ (trip_plain t.relation t.signed t.start t.bound t.step) refl) (inners_plain (suc slot) ts)

trips_plain : (ts : List Trip) → Plain (trips_code ts)
trips_plain [] = refl
trips_plain (t ∷ ts) = both (root_code t) (inners_code 24 ts)
    (both (trip_code t) _ (trip_plain t.relation t.signed t.start t.bound t.step) refl) (inners_plain 24 ts)

-- duties, accesses and pairs
duty_plain : (d : Duty) → Plain (duty_code d)
duty_plain d =
    both (form_code 5 d.form) _ (form_plain 5 d.form)
    (both (low_code 5 (own_form d.form d.around) (own_slots d.around)) _ (lows 5 (own_form d.form d.around) (own_slots d.around))
    (both (high_code 6 (own_form d.form d.around) (own_slots d.around) 0) _ (highs 6 (own_form d.form d.around) (own_slots d.around) 0)
    refl))

access_plain : (bs : List Bounds) (a : Access) → Plain (access_code bs a)
access_plain bs a =
    both (form_code 5 a.form) _ (form_plain 5 a.form)
    (both (access_low 5 a) _ (accesses_low 5 a)
    (both (access_end 6 a) _ (accesses_end 6 a) (areas (permitted (access_permission a) bs))))

meet_plain : (c : Cell) (a : Access) → Plain (keep_off_code c a)
meet_plain c a =
    either (c.stored || a.store) (meet_code c a) []
    (both (address_code 5 c) _ (addresses 5 c.base c.offset)
    (both (access_low 7 a) _ (accesses_low 7 a) (both (access_end 28 a) _ (accesses_end 28 a) refl))) refl

lane_plain : (t : Bool) (lanes width n : ℕ) → Plain (lane_part t lanes width n)
lane_plain true lanes width n = refl
lane_plain false lanes width n = refl

residue_plain : (t : Bool) (residue width : ℕ) → Plain (residue_part t residue width)
residue_plain true residue width = refl
residue_plain false residue width = refl

rise_plain : (by : ℕ) (slot : ℕ) → Plain (rise_code 6 (pos by) slot)
rise_plain by slot = either (int_lt (pos 0) (pos by)) (span_code 6 (pos by) slot) [] refl refl

pair_plain : (a b : Access) (t : Term) → Plain (pair_code a b t)
pair_plain a b (Same root inner lanes residue width known) =
    both (front_code a.form b.form inner) _
    (both (form_code 5 a.form) _ (form_plain 5 a.form) (both (form_code 6 b.form) _ (form_plain 6 b.form)
    (both (rise_code 6 (pos (slice_index inner 0)) 24) _ (rise_plain (slice_index inner 0) 24)
    (both (rise_code 6 (pos (slice_index inner 1)) 25) _ (rise_plain (slice_index inner 1) 25)
    (rise_plain (slice_index inner 2) 26)))))
    (both (lane_part (nat_lt 0 lanes) lanes width (residue_length (nat_lt 0 residue) + far_length)) _
    (lane_plain (nat_lt 0 lanes) lanes width _)
    (both (residue_part (nat_lt 0 residue) residue width) (far_code width) (residue_plain (nat_lt 0 residue) residue width) refl))
pair_plain a b Apart = both (access_low 5 a) _ (accesses_low 5 a)
    (both (access_end 6 a) _ (accesses_end 6 a)
    (both (access_low 7 b) _ (accesses_low 7 b) (both (access_end 28 b) _ (accesses_end 28 b) refl)))

pair_of_plain : (o p : Option Access) (t : Term) → Plain (pair_of_code o p t)
pair_of_plain (Some a) (Some b) t = pair_plain a b t
pair_of_plain (Some a) None t = refl
pair_of_plain None p t = refl

pub check_plain : (c : Check) → list_all is_check_word (check_code c) ≡ true
check_plain c =
    both (cells_code c.areas 0 c.cells.list.items) _ (cells_plain c.areas 0 c.cells.list.items)
    (both (all_clear_code c.cells.list.items) _ (all_clear_plain c.cells.list.items)
    (both (trips_code c.trips) _ (trips_plain c.trips)
    (both (flat_map duty_code c.duties) _ (each duty_code duty_plain c.duties)
    (both (flat_map (access_code c.areas) c.accesses.list.items) _
    (each (access_code c.areas) (access_plain c.areas) c.accesses.list.items)
    (both (all_keep_off_code c.cells.list.items c.accesses.list.items) _
    (each (λ (d : Cell). flat_map (keep_off_code d) c.accesses.list.items)
    (λ d. each (keep_off_code d) (meet_plain d) c.accesses.list.items) c.cells.list.items)
    (each (pair_at_code c.accesses.list.items)
    (λ (t : Pair). pair_of_plain (slice_get c.accesses.list.items t.0) (slice_get c.accesses.list.items t.1) t.2) c.pairs))))))
