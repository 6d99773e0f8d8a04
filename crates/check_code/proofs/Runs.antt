-- The check's pieces, wherever they stand in code that a hart runs.
use Rattle.std.proofs.Common.{◌≡◌, ◌≢◌, ℕ, suc, ◌+◌, ◌*◌, ◌%◌, ◌^◌, ◌<◌, ◌≤◌, refl, sym, subst, ap, ◌∙◌, arith, ℤ, pos, ◌+ℤ◌, ◌*ℤ◌, Option, Some, None, Bool, true, false, cond, List, [], ◌∷◌, ◌++◌, length}
use Rattle.std.specs.Prelude.{◌==◌, ◌&&◌, ◌||◌, not, if◌then◌else◌, int_lt, int_le, slice_index}
use Rattle.std.specs.Int.{w64, cast_signed}
use Rattle.std.specs.List.{list_any}
use Rattle.std.proofs.lemmas.Bool.Decides.{nat_tests}
use Rattle.std.proofs.lemmas.Int.{ints}
use Rattle.std.proofs.lemmas.List.{append-nil}
use Rattle.rv64_decode.specs.Hart.{Hart, address, fetched}
use Rattle.rv64_decode.specs.Registers.{register}
use Rattle.rv64_decode.specs.Row.{taken, signed64, plus_offset}
use Rattle.rv64_decode.specs.declared.instr.ImmOp.TheVariants.{Addi}
use Rattle.rv64_decode.specs.declared.instr.Instr.TheVariants.{AluImm}
use Rattle.rv64_decode.specs.declared.instr.BranchOp.{BranchOp}
use Rattle.rv64_decode.specs.declared.xinstr.XInstr.{XInstr}
use Rattle.rv64_decode.specs.declared.xinstr.XInstr.TheVariants.{Base}
use Rattle.linear_forms.specs.Forms.{EntryTerm, LinearForm, IsForm, word_of}
use Rattle.linear_forms.specs.Extremes.{least, most, lowest_shift, highest_shift}
use Rattle.linear_forms.proofs.Sums.{word_is, alike_from, alike_trans}
use Rattle.loop_data.specs.Locations.{address as cell_address, address_by}
use Rattle.loop_data.specs.declared.verdict.Cell.{Cell}
use Rattle.alias_checks.specs.declared.areas.Permission.{Permission}
use Rattle.alias_checks.specs.Areas.{Bounds, flags_permit, bounds_have, in_bounds}
use Rattle.stub_laws.specs.Harts.{IsHartAt, Gives}
use Rattle.stub_laws.specs.Locations.{slot_of, held, held_by}
use Rattle.stub_laws.specs.Places.{StandsIn, behind}
use Rattle.stub_laws.specs.Straight.{read, put}
use Rattle.stub_laws.proofs.Steps.{World, Wins, Stands, behind-append, stands_front, stands_back, imm_law}
use Rattle.stub_laws.proofs.Known.{seen, Knows, same_number, same_again}
use Rattle.stub_laws.proofs.Ends.{gives, comes, world_of}
use Rattle.check_numbers.specs.Parts.{bits}
use Rattle.check_numbers.specs.Sums.{IsShort, value_of, sum_from}
use Rattle.check_numbers.proofs.Sums.{bits_below, small_short}
use Rattle.check_code.specs.Macros.{is_work, number_code, bring, form_code, span_code, fall_code, rise_code, low_code, high_code, address_by_code, address_code, need_code, permitted, areas_code}
use Rattle.check_code.specs.Laws.{nothing, only, with_helpers, last_in, start, HasOffset, HoldsBase, Decides, AreLow}
use Rattle.check_code.proofs.Pieces.{Target, three, added, inside, li_law, bring_law, aimed_bring_is, form_law, span_law, maybe_span, as_three, based_law, need_law, areas_law, areas_length}
use Rattle.check_code.proofs.Values.{bits_word, constant_short, form_terms, start_alike, added_alike, added_below, fallen_alike, risen_alike, either_below, regroup, more_alike}

pub twice : (t : Bool) (x : ℕ) → cond t 0 x ≡ cond t 0 (cond t 0 x)
twice true x = refl
twice false x = refl

held_seen : (h : Hart) (loc : ℕ) (o : Option ℕ) → seen (register h.regs) (slice_index h.slots) loc o ≡ held_by h loc o
held_seen h loc None = sym (twice (loc == 0) (slice_index h.regs loc))
held_seen h loc (Some s) = refl

zero_not : (r : ℕ) → r ≢ 0 → (r == 0) ≡ false
zero_not r h = by_test (r == 0) refl
  where
    by_test : (t : Bool) → (r == 0) ≡ t → t ≡ false
    by_test true e = absurd (h (same_number r 0 e))
    by_test false e = refl

-- a target among the registers that a sum may be worked out in
one_target : (r k : ℕ) (u : Bool) → Target k → (u ≡ true → Target r) → (r == k || u) ≡ true → Target r
one_target r k u t rest h = by_test (r == k) refl h
  where
    by_test : (b : Bool) → (r == k) ≡ b → (b || u) ≡ true → Target r
    by_test true e h = subst Target (sym (same_number r k e)) t
    by_test false e h = rest h

pub target_of : (r : ℕ) → is_work r ≡ true → Target r
target_of r h =
    one_target r 5 (r == 6 || (r == 7 || (r == 28 || r == 29))) (record { nonzero = refl; not30 = refl; not31 = refl; temporary = record { slot = 16; is = refl } })
    (one_target r 6 (r == 7 || (r == 28 || r == 29)) (record { nonzero = refl; not30 = refl; not31 = refl; temporary = record { slot = 17; is = refl } })
    (one_target r 7 (r == 28 || r == 29) (record { nonzero = refl; not30 = refl; not31 = refl; temporary = record { slot = 18; is = refl } })
    (one_target r 28 (r == 29) (record { nonzero = refl; not30 = refl; not31 = refl; temporary = record { slot = 19; is = refl } })
    (λ e. subst Target (sym (same_number r 29 e)) (record { nonzero = refl; not30 = refl; not31 = refl; temporary = record { slot = 20; is = refl } }))))) h

pub work_low : (r : ℕ) → is_work r ≡ true → r < 32
work_low r h = grind (arith, nat_tests)

work_nonzero : (r : ℕ) → is_work r ≡ true → r ≢ 0
work_nonzero r h e = let t : is_work 0 ≡ true = subst (λ k. is_work k ≡ true) e h in cc

pub both_ways : (t : Bool) → t ≡ true → t ≡ false → ⊥
both_ways true a b = cc
both_ways false a b = cc

reduced : (n : ℕ) → n % 2 ^ 64 < 2 ^ 64
reduced n = omega arith

-- what a hart's locations hold is known
held_below : (p : ℕ) (h : Hart) (loc : ℕ) (o : Option ℕ) → IsHartAt p h → held_by h loc o < 2 ^ 64
held_below p h loc None is = by_test (loc == 0)
  where
    by_test : (t : Bool) → cond t 0 (slice_index h.regs loc) < 2 ^ 64
    by_test true = omega arith
    by_test false = is.registers.below loc
held_below p h loc (Some slot) is = is.slots.below slot

pub all_known : (p : ℕ) (h : Hart) → IsHartAt p h → Knows (λ loc. true) (held h) (register h.regs) (slice_index h.slots)
all_known p h is = record { each = λ loc k. held_seen h loc (slot_of loc); small = λ loc. held_below p h loc (slot_of loc) is }

-- registers after a write of one
put_value : (f : ℕ → ℕ) (r v : ℕ) → (r == 0) ≡ false → read (put f r v) r ≡ v
put_value f r v nonzero = rw (nonzero, same_again r) refl

put_kept : (f : ℕ → ℕ) (r v k : ℕ) → only r k ≡ false → read (put f r v) k ≡ read f k
put_kept f r v k h = ap (λ t. if k == 0 then 0 else cond t v (f k)) h

-- registers after a sum
three_value : (f : ℕ → ℕ) (r a b v : ℕ) → Target r → read (three f r a b v) r ≡ v
three_value f r a b v t = rw (t.nonzero, same_again r) refl

neither : (t u v : Bool) (x y z n : ℕ) → (t || (u || v)) ≡ false → cond t x (cond u y (cond v z n)) ≡ n
neither true u v x y z n h = absurd (cc)
neither false true v x y z n h = absurd (cc)
neither false false true x y z n h = absurd (cc)
neither false false false x y z n h = refl

three_kept : (f : ℕ → ℕ) (r a b v k : ℕ) → with_helpers r k ≡ false → read (three f r a b v) k ≡ read f k
three_kept f r a b v k h = ap (λ x. if k == 0 then 0 else x) (neither (k == r) (k == 31) (k == 30) v b a (f k) h)

pub number_runs : (code : List ℕ) (to p r : ℕ) (v : ℤ) (h : Hart) → length code ≤ 2 ^ 32 → to ≤ 2 ^ 32 → r ≢ 0 → r < 32 → IsShort v → StandsIn code to p (number_code r v) → IsHartAt p h → Gives code h (behind p (number_code r v)) (only r) r (word_of v)
number_runs code to p r v h short near nonzero low fits has is =
    let z = zero_not r nonzero in
    let f = register h.regs in
    gives code to p (suc (suc p)) h (only r) r (word_of v) short near low is (λ s n goal next.
    li_law (world_of code s to n h goal) p f (slice_index h.slots) r v fits z has.0 has.1.0
    (next (put f r (bits v)) (put_value f r (bits v) z ∙ bits_word v fits) (λ k l t. put_kept f r (bits v) k t)))

pub location_runs : (code : List ℕ) (to p r loc : ℕ) (h : Hart) → length code ≤ 2 ^ 32 → to ≤ 2 ^ 32 → r ≢ 0 → r < 32 → StandsIn code to p (bring r loc ∷ []) → IsHartAt p h → Gives code h (behind p (bring r loc ∷ [])) (only r) r (held h loc)
location_runs code to p r loc h short near nonzero low has is =
    let z = zero_not r nonzero in
    let f = register h.regs in
    let first : fetched code (address p) ≡ Some (bring r loc) = subst (λ i. fetched code (address p) ≡ Some i) (aimed_bring_is to p r loc (slot_of loc)) has.0 in
    gives code to p (suc p) h (only r) r (held h loc) short near low is (λ s n goal next.
    bring_law (world_of code s to n h goal) (λ loc. true) (held h) p f (slice_index h.slots) r loc (all_known p h is) refl first
    (next (put f r (held h loc)) (put_value f r (held h loc) z) (λ k l t. put_kept f r (held h loc) k t)))

pub sum_below : (e : ℕ → ℕ) (f : LinearForm) → IsForm f → value_of e f.constant f.terms < 2 ^ 64
sum_below e f h = below_from f.terms (bits f.constant) (bits_below f.constant (constant_short f.constant h.bounded.constant))
  where
    below_from : (ts : List EntryTerm) (n : ℕ) → n < 2 ^ 64 → sum_from e ts n < 2 ^ 64
    below_from [] n l = l
    below_from (t ∷ ts) n l = below_from ts ((n + e t.loc * bits t.by % 2 ^ 64) % 2 ^ 64) (omega arith)

pub form_runs : (code : List ℕ) (to p r : ℕ) (f : LinearForm) (h : Hart) → length code ≤ 2 ^ 32 → to ≤ 2 ^ 32 → is_work r ≡ true → IsForm f → StandsIn code to p (form_code r f) → IsHartAt p h → Gives code h (behind p (form_code r f)) (with_helpers r) r (word_of (start f h))
form_runs code to p r form h short near work fine has is =
    let t = target_of r work in
    let f = register h.regs in
    let v = value_of (held h) form.constant form.terms in
    let same = word_is v (start form h) (sum_below (held h) form fine) (start_alike (held h) form fine) in
    gives code to p (behind p (form_code r form)) h (with_helpers r) r (word_of (start form h)) short near (work_low r work) is (λ s n goal next.
    form_law (world_of code s to n h goal) (λ loc. true) (held h) f (slice_index h.slots) r form.constant form.terms p t (all_known p h is) (constant_short form.constant fine.bounded.constant) (form_terms form fine) has
    (λ a b. next (three f r a b v) (three_value f r a b v t ∙ same) (λ k l u. three_kept f r a b v k u)))

pub span_runs : (code : List ℕ) (to p r slot : ℕ) (by : ℤ) (h : Hart) → length code ≤ 2 ^ 32 → to ≤ 2 ^ 32 → is_work r ≡ true → IsShort by → StandsIn code to p (span_code r by slot) → IsHartAt p h → Gives code h (behind p (span_code r by slot)) (with_helpers r) r (word_of (pos (register h.regs r) +ℤ by *ℤ pos (slice_index h.slots slot)))
span_runs code to p r slot by h short near work fits has is =
    let t = target_of r work in
    let f = register h.regs in
    let x = slice_index h.slots slot in
    let n = f r in
    let v = added n by x in
    let same = word_is v (pos n +ℤ by *ℤ pos x) (added_below n by x) (added_alike n (pos n) by x fits (alike_from (pos n) (pos n) refl)) in
    gives code to p (behind p (span_code r by slot)) h (with_helpers r) r (word_of (pos n +ℤ by *ℤ pos x)) short near (work_low r work) is (λ s m goal next.
    let w = world_of code s to m h goal in
    as_three w p f (slice_index h.slots) r
    (span_law w f (slice_index h.slots) r t by slot p (f 30) (f 31) n fits has
    (λ a b. next (three f r a b v) (three_value f r a b v t ∙ same) (λ k l u. three_kept f r a b v k u))))

-- three spans of a form, each of which may be left out, and what follows
pub spans_law : (w : World) (f g : ℕ → ℕ) (r : ℕ) → Target r → (x y z : ℤ) (i j k : ℕ) (s t u : Bool) (rest : List XInstr) (p a b n : ℕ) → IsShort x → IsShort y → IsShort z
    → (let c1 = cond s (span_code r x i) [] in let c2 = cond t (span_code r y j) [] in let c3 = cond u (span_code r z k) [] in
    let n1 = cond s (added n x (g i)) n in let n2 = cond t (added n1 y (g j)) n1 in let n3 = cond u (added n2 z (g k)) n2 in
    Stands w p (c1 ++ (c2 ++ (c3 ++ rest)))
    → ((a' b' : ℕ) → Stands w (behind (behind (behind p c1) c2) c3) rest → Wins w (behind (behind (behind p c1) c2) c3) (three f r a' b' n3) g)
    → Wins w p (three f r a b n) g)
spans_law w f g r target x y z i j k s t u rest p a b n sx sy sz has next =
    let c1 = cond s (span_code r x i) [] in
    let c2 = cond t (span_code r y j) [] in
    let c3 = cond u (span_code r z k) [] in
    let n1 = cond s (added n x (g i)) n in
    let n2 = cond t (added n1 y (g j)) n1 in
    let p1 = behind p c1 in
    let p2 = behind p1 c2 in
    let h1 = stands_back w p c1 (c2 ++ (c3 ++ rest)) has in
    let h2 = stands_back w p1 c2 (c3 ++ rest) h1 in
    maybe_span w f g r target x i s p a b n sx (stands_front w p c1 (c2 ++ (c3 ++ rest)) has) (λ a1 b1.
    maybe_span w f g r target y j t p1 a1 b1 n1 sy (stands_front w p1 c2 (c3 ++ rest) h1) (λ a2 b2.
    maybe_span w f g r target z k u p2 a2 b2 n2 sz (stands_front w p2 c3 rest h2) (λ a3 b3.
    next a3 b3 (stands_back w p2 c3 rest h2))))

pub far_place : (p : ℕ) (c0 c1 c2 c3 : List XInstr) → behind (behind (behind (behind p c0) c1) c2) c3 ≡ behind p (c0 ++ (c1 ++ (c2 ++ c3)))
far_place p c0 c1 c2 c3 =
    sym (behind-append p c0 (c1 ++ (c2 ++ c3)) ∙ behind-append (behind p c0) c1 (c2 ++ c3) ∙ behind-append (behind (behind p c0) c1) c2 c3)

-- the strides of a form have room in an instruction
pub record AreStrides (f : LinearForm) : Type 0 where
  pub first : IsShort f.first
  pub second : IsShort f.second
  pub third : IsShort f.third

pub strides_of : (f : LinearForm) → IsForm f → AreStrides f
strides_of f h = record { first = small_short f.first h.bounded.first; second = small_short f.second h.bounded.second; third = small_short f.third h.bounded.third }

low_same : (f : LinearForm) (h : Hart) (slots : List ℕ) → IsForm f
    → (let n = value_of (held h) f.constant f.terms in
    let n1 = cond (int_lt f.first (pos 0)) (added n f.first (last_in h slots 0)) n in
    let n2 = cond (int_lt f.second (pos 0)) (added n1 f.second (last_in h slots 1)) n1 in
    cond (int_lt f.third (pos 0)) (added n2 f.third (last_in h slots 2)) n2 ≡ word_of (start f h +ℤ lowest_shift f (last_in h slots)))
low_same f h slots fine =
    let st = strides_of f fine in
    let n = value_of (held h) f.constant f.terms in
    let x0 = last_in h slots 0 in
    let x1 = last_in h slots 1 in
    let x2 = last_in h slots 2 in
    let n1 = cond (int_lt f.first (pos 0)) (added n f.first x0) n in
    let n2 = cond (int_lt f.second (pos 0)) (added n1 f.second x1) n1 in
    let b0 = sum_below (held h) f fine in
    let b1 = either_below (int_lt f.first (pos 0)) (added n f.first x0) n (added_below n f.first x0) b0 in
    let b2 = either_below (int_lt f.second (pos 0)) (added n1 f.second x1) n1 (added_below n1 f.second x1) b1 in
    let b3 = either_below (int_lt f.third (pos 0)) (added n2 f.third x2) n2 (added_below n2 f.third x2) b2 in
    let z = start f h in
    let a1 = fallen_alike n z f.first x0 st.first (start_alike (held h) f fine) in
    let a2 = fallen_alike n1 (z +ℤ least f.first x0) f.second x1 st.second a1 in
    let a3 = fallen_alike n2 (z +ℤ least f.first x0 +ℤ least f.second x1) f.third x2 st.third a2 in
    word_is _ _ b3 (alike_trans _ _ _ a3 (alike_from _ _ (regroup z (least f.first x0) (least f.second x1) (least f.third x2))))

pub low_runs : (code : List ℕ) (to p r : ℕ) (f : LinearForm) (slots : List ℕ) (h : Hart) → length code ≤ 2 ^ 32 → to ≤ 2 ^ 32 → is_work r ≡ true → IsForm f → StandsIn code to p (low_code r f slots) → IsHartAt p h → Gives code h (behind p (low_code r f slots)) (with_helpers r) r (word_of (start f h +ℤ lowest_shift f (last_in h slots)))
low_runs code to p r form slots h short near work fine has is =
    let t = target_of r work in
    let st = strides_of form fine in
    let f = register h.regs in
    let g = slice_index h.slots in
    let c0 = form_code r form in
    let c1 = fall_code r form.first (slice_index slots 0) in
    let c2 = fall_code r form.second (slice_index slots 1) in
    let c3 = fall_code r form.third (slice_index slots 2) in
    let v = value_of (held h) form.constant form.terms in
    let n1 = cond (int_lt form.first (pos 0)) (added v form.first (last_in h slots 0)) v in
    let n2 = cond (int_lt form.second (pos 0)) (added n1 form.second (last_in h slots 1)) n1 in
    let n3 = cond (int_lt form.third (pos 0)) (added n2 form.third (last_in h slots 2)) n2 in
    gives code to p (behind p (low_code r form slots)) h (with_helpers r) r (word_of (start form h +ℤ lowest_shift form (last_in h slots))) short near (work_low r work) is (λ s n goal next.
    let w = world_of code s to n h goal in
    form_law w (λ loc. true) (held h) f g r form.constant form.terms p t (all_known p h is) (constant_short form.constant fine.bounded.constant) (form_terms form fine) (stands_front w p c0 (c1 ++ (c2 ++ c3)) has)
    (λ a b. spans_law w f g r t form.first form.second form.third (slice_index slots 0) (slice_index slots 1) (slice_index slots 2) (int_lt form.first (pos 0)) (int_lt form.second (pos 0)) (int_lt form.third (pos 0)) [] (behind p c0) a b v st.first st.second st.third
    (subst (λ l. Stands w (behind p c0) (c1 ++ (c2 ++ l))) (sym (append-nil c3)) (stands_back w p c0 (c1 ++ (c2 ++ c3)) has))
    (λ a' b' u. subst (λ q. Wins w q (three f r a' b' n3) g) (sym (far_place p c0 c1 c2 c3)) (next (three f r a' b' n3) (three_value f r a' b' n3 t ∙ low_same form h slots fine) (λ k l y. three_kept f r a' b' n3 k y)))))

high_same : (f : LinearForm) (h : Hart) (slots : List ℕ) (size : ℕ) → IsForm f
    → (let n = value_of (held h) f.constant f.terms in
    let n1 = cond (int_lt (pos 0) f.first) (added n f.first (last_in h slots 0)) n in
    let n2 = cond (int_lt (pos 0) f.second) (added n1 f.second (last_in h slots 1)) n1 in
    let n3 = cond (int_lt (pos 0) f.third) (added n2 f.third (last_in h slots 2)) n2 in
    (n3 + size) % 2 ^ 64 ≡ word_of (start f h +ℤ highest_shift f (last_in h slots) +ℤ pos size))
high_same f h slots size fine =
    let st = strides_of f fine in
    let n = value_of (held h) f.constant f.terms in
    let x0 = last_in h slots 0 in
    let x1 = last_in h slots 1 in
    let x2 = last_in h slots 2 in
    let n1 = cond (int_lt (pos 0) f.first) (added n f.first x0) n in
    let n2 = cond (int_lt (pos 0) f.second) (added n1 f.second x1) n1 in
    let n3 = cond (int_lt (pos 0) f.third) (added n2 f.third x2) n2 in
    let z = start f h in
    let a1 = risen_alike n z f.first x0 st.first (start_alike (held h) f fine) in
    let a2 = risen_alike n1 (z +ℤ most f.first x0) f.second x1 st.second a1 in
    let a3 = risen_alike n2 (z +ℤ most f.first x0 +ℤ most f.second x1) f.third x2 st.third a2 in
    let all = alike_trans _ _ _ a3 (alike_from _ _ (regroup z (most f.first x0) (most f.second x1) (most f.third x2))) in
    word_is _ _ (reduced (n3 + size)) (more_alike n3 _ size all)

other_register : (r k : ℕ) → with_helpers r k ≡ false → only r k ≡ false
other_register r k h = neither_first (k == r) (k == 31 || k == 30) h
  where
    neither_first : (t u : Bool) → (t || u) ≡ false → t ≡ false
    neither_first true u e = e
    neither_first false u e = refl

pub high_runs : (code : List ℕ) (to p r : ℕ) (f : LinearForm) (slots : List ℕ) (size : ℕ) (h : Hart) → length code ≤ 2 ^ 32 → to ≤ 2 ^ 32 → is_work r ≡ true → IsForm f → StandsIn code to p (high_code r f slots size) → IsHartAt p h → Gives code h (behind p (high_code r f slots size)) (with_helpers r) r (word_of (start f h +ℤ highest_shift f (last_in h slots) +ℤ pos size))
high_runs code to p r form slots size h short near work fine has is =
    let t = target_of r work in
    let st = strides_of form fine in
    let f = register h.regs in
    let g = slice_index h.slots in
    let last = Base (AluImm Addi r r (pos size)) ∷ [] in
    let c0 = form_code r form in
    let c1 = rise_code r form.first (slice_index slots 0) in
    let c2 = rise_code r form.second (slice_index slots 1) in
    let c3 = rise_code r form.third (slice_index slots 2) in
    let p3 = behind (behind (behind (behind p c0) c1) c2) c3 in
    let v = value_of (held h) form.constant form.terms in
    let n1 = cond (int_lt (pos 0) form.first) (added v form.first (last_in h slots 0)) v in
    let n2 = cond (int_lt (pos 0) form.second) (added n1 form.second (last_in h slots 1)) n1 in
    let n3 = cond (int_lt (pos 0) form.third) (added n2 form.third (last_in h slots 2)) n2 in
    let m = (n3 + size) % 2 ^ 64 in
    let place : suc p3 ≡ behind p (high_code r form slots size) = sym (behind-append (behind (behind (behind p c0) c1) c2) c3 last) ∙ far_place p c0 c1 c2 (c3 ++ last) in
    gives code to p (behind p (high_code r form slots size)) h (with_helpers r) r (word_of (start form h +ℤ highest_shift form (last_in h slots) +ℤ pos size)) short near (work_low r work) is (λ s n goal next.
    let w = world_of code s to n h goal in
    form_law w (λ loc. true) (held h) f g r form.constant form.terms p t (all_known p h is) (constant_short form.constant fine.bounded.constant) (form_terms form fine) (stands_front w p c0 (c1 ++ (c2 ++ (c3 ++ last))) has)
    (λ a b. spans_law w f g r t form.first form.second form.third (slice_index slots 0) (slice_index slots 1) (slice_index slots 2) (int_lt (pos 0) form.first) (int_lt (pos 0) form.second) (int_lt (pos 0) form.third) last (behind p c0) a b v st.first st.second st.third
    (stands_back w p c0 (c1 ++ (c2 ++ (c3 ++ last))) has)
    (λ a' b' u. let f' = three f r a' b' n3 in
    imm_law w p3 f' g Addi r r (pos size) u.0
    (subst (λ x. Wins w (suc p3) (put f' r ((x + size) % 2 ^ 64)) g) (sym (three_value f r a' b' n3 t))
    (subst (λ q. Wins w q (put f' r m) g) (sym place)
    (next (put f' r m) (put_value f' r m t.nonzero ∙ high_same form h slots size fine) (λ k l y. put_kept f' r m k (other_register r k y) ∙ three_kept f r a' b' n3 k y)))))))

address_runs_by : (code : List ℕ) (to p r : ℕ) (base : Option ℕ) (offset : ℤ) (regs : List ℕ) (h : Hart) → length code ≤ 2 ^ 32 → to ≤ 2 ^ 32 → is_work r ≡ true → HasOffset base offset → HoldsBase base regs h → StandsIn code to p (address_by_code r base offset) → IsHartAt p h → Gives code h (behind p (address_by_code r base offset)) (only r) r (address_by regs base offset)
address_runs_by code to p r None offset regs h short near work room holds has is = number_runs code to p r offset h short near (work_nonzero r work) (work_low r work) room has is
address_runs_by code to p r (Some base) offset regs h short near work room holds has is =
    let z = (target_of r work).nonzero in
    let f = register h.regs in
    let x = held h base in
    let v = plus_offset x offset in
    gives code to p (suc (suc p)) h (only r) r (plus_offset (register regs base) offset) short near (work_low r work) is (λ s n goal next.
    based_law (world_of code s to n h goal) (λ loc. true) (held h) p f (slice_index h.slots) r base offset z (all_known p h is) refl has
    (next (put (put f r x) r v) (put_value (put f r x) r v z ∙ ap (λ y. plus_offset y offset) holds) (λ k l t. put_kept (put f r x) r v k t ∙ put_kept f r x k t)))

pub address_runs : (code : List ℕ) (to p r : ℕ) (c : Cell) (regs : List ℕ) (h : Hart) → length code ≤ 2 ^ 32 → to ≤ 2 ^ 32 → is_work r ≡ true → HasOffset c.base c.offset → HoldsBase c.base regs h → StandsIn code to p (address_code r c) → IsHartAt p h → Gives code h (behind p (address_code r c)) (only r) r (cell_address regs c)
address_runs code to p r c regs h short near work room holds has is = address_runs_by code to p r c.base c.offset regs h short near work room holds has is

pub need_runs : (code : List ℕ) (to p rs1 rs2 : ℕ) (op : BranchOp) (h : Hart) → length code ≤ 2 ^ 32 → to ≤ 2 ^ 32 → StandsIn code to p (need_code op rs1 rs2) → IsHartAt p h → Decides code h (behind p (need_code op rs1 rs2)) to nothing (taken op (register h.regs rs1) (register h.regs rs2))
need_runs code to p a b op h short near has is =
    let f = register h.regs in
    let same : taken op (f a) (f b) ≡ taken op (read f a) (read f b) = ap (λ x. taken op x (f b)) (twice (a == 0) (slice_index h.regs a)) ∙ ap (taken op (read f a)) (twice (b == 0) (slice_index h.regs b)) in
    record {
      on = λ e. comes code to p (suc (suc p)) h nothing short near is (λ s n goal next.
          need_law (world_of code s to n h goal) p f (slice_index h.slots) op a b has (λ t. next f (λ k l u. refl)) (λ t. absurd (both_ways _ (sym same ∙ e) t)));
      off = λ e. comes code to p to h nothing short near is (λ s n goal next.
          need_law (world_of code s to n h goal) p f (slice_index h.slots) op a b has (λ t. absurd (both_ways _ t (sym same ∙ e))) (λ t. next f (λ k l u. refl)));
    }

-- the areas that permit the access
ge_is : (a b : ℤ) → not (int_lt a b) ≡ int_le b a
ge_is a b = grind (arith, ints, nat_tests)

inside_is : (permission : Permission) (bs : List Bounds) (lo hi : ℕ) → inside (permitted permission bs) lo hi ≡ list_any (bounds_have permission (signed64 lo, signed64 hi)) bs
inside_is permission [] lo hi = refl
inside_is permission (b ∷ bs) lo hi = by_flag (flags_permit permission b.2) (inside_is permission bs lo hi)
  where
    by_flag : (t : Bool) → inside (permitted permission bs) lo hi ≡ list_any (bounds_have permission (signed64 lo, signed64 hi)) bs
        → inside (cond t (b ∷ permitted permission bs) (permitted permission bs)) lo hi ≡ (t && (int_le (pos b.0) (signed64 lo) && int_le (signed64 hi) (pos b.1)) || list_any (bounds_have permission (signed64 lo, signed64 hi)) bs)
    by_flag true rest =
        ap (λ x. x && not (int_lt (pos b.1) (cast_signed w64 hi)) || inside (permitted permission bs) lo hi) (ge_is (cast_signed w64 lo) (pos b.0))
        ∙ ap (λ x. int_le (pos b.0) (signed64 lo) && x || inside (permitted permission bs) lo hi) (ge_is (pos b.1) (cast_signed w64 hi))
        ∙ ap (λ x. int_le (pos b.0) (signed64 lo) && int_le (signed64 hi) (pos b.1) || x) rest
    by_flag false rest = rest

pub bounds_is : (permission : Permission) (bs : List Bounds) (lo hi : ℕ) → inside (permitted permission bs) lo hi ≡ in_bounds bs permission (signed64 lo, signed64 hi)
unfolding in_bounds
bounds_is permission bs lo hi = inside_is permission bs lo hi

pub fewer : (permission : Permission) (bs : List Bounds) → length (permitted permission bs) ≤ length bs
fewer permission [] = omega arith
fewer permission (b ∷ bs) = by_flag (flags_permit permission b.2) (fewer permission bs)
  where
    by_flag : (t : Bool) → length (permitted permission bs) ≤ length bs → length (cond t (b ∷ permitted permission bs) (permitted permission bs)) ≤ suc (length bs)
    by_flag true rest = omega (arith, rest)
    by_flag false rest = omega (arith, rest)

pub low_bounds : (permission : Permission) (bs : List Bounds) → AreLow bs → AreLow (permitted permission bs)
low_bounds permission [] h = tt
low_bounds permission (b ∷ bs) h = by_flag (flags_permit permission b.2) (low_bounds permission bs h.2)
  where
    by_flag : (t : Bool) → AreLow (permitted permission bs) → AreLow (cond t (b ∷ permitted permission bs) (permitted permission bs))
    by_flag true rest = (h.0, h.1, rest)
    by_flag false rest = rest

pub areas_runs : (code : List ℕ) (to p : ℕ) (permission : Permission) (areas : List Bounds) (h : Hart) → length code ≤ 2 ^ 32 → to ≤ 2 ^ 32 → length areas < 2 ^ 16 → AreLow areas → StandsIn code to p (areas_code (permitted permission areas)) → IsHartAt p h → Decides code h (behind p (areas_code (permitted permission areas))) to (only 7) (in_bounds areas permission (signed64 (register h.regs 5), signed64 (register h.regs 6)))
areas_runs code to p permission areas h short near few low has is =
    let f = register h.regs in
    let g = slice_index h.slots in
    let some_areas = permitted permission areas in
    let size : length (areas_code some_areas) < 2 ^ 19 = omega (arith, areas_length some_areas, fewer permission areas, few) in
    let bounds = low_bounds permission areas low in
    let same = bounds_is permission areas (f 5) (f 6) in
    record {
      on = λ e. comes code to p (behind p (areas_code some_areas)) h (only 7) short near is (λ s n goal next.
          areas_law (world_of code s to n h goal) f g some_areas p size bounds has (λ t a. next (put f 7 a) (λ k l u. put_kept f 7 a k u)) (λ t a. absurd (both_ways _ (same ∙ e) t)));
      off = λ e. comes code to p to h (only 7) short near is (λ s n goal next.
          areas_law (world_of code s to n h goal) f g some_areas p size bounds has (λ t a. absurd (both_ways _ t (same ∙ e))) (λ t a. next (put f 7 a) (λ k l u. put_kept f 7 a k u)));
    }
