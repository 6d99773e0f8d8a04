-- The forms at the words of a nest keep to the limits of forms.
use Rattle.std.proofs.Common.{◌≡◌, ◌≢◌, ℕ, zero, suc, ◌+◌, ◌-◌, ◌^◌, ◌<◌, ◌≤◌, ◌⊎◌, inl, inr, Bool, true, false, ◌&&◌, if◌then◌else◌, nat_lt, nat_le, ◌==◌, List, [], ◌∷◌, length, Option, Some, None, refl, sym, subst, ap, ◌∙◌, arith, ℤ, pos, negsuc, ◌+ℤ◌, ◌*ℤ◌, ◌≤ℤ◌, ◌<ℤ◌, int_lt}
use Rattle.std.specs.Prelude.{is_some}
use Rattle.std.proofs.lemmas.Int.{ints}
use Rattle.std.proofs.lemmas.Bool.{cases_eq}
use Rattle.std.proofs.lemmas.Bool.Decides.{nat_tests}
use Rattle.rv64_decode.specs.declared.instr.AluOp.{AluOp}
use Rattle.rv64_decode.specs.declared.instr.AluOp.TheVariants.{Add, Sub, Addw, Subw, Mul, Mulw}
use Rattle.rv64_decode.specs.declared.instr.ImmOp.{ImmOp}
use Rattle.rv64_decode.specs.declared.instr.ImmOp.TheVariants.{Addi, Slli, Addiw, Slliw}
use Rattle.rv64_decode.specs.declared.instr.UpperOp.{UpperOp}
use Rattle.rv64_decode.specs.declared.instr.UpperOp.TheVariants.{Lui, Auipc}
use Rattle.rv64_decode.specs.declared.instr.StoreOp.{StoreOp}
use Rattle.rv64_decode.specs.declared.instr.StoreOp.TheVariants.{Sw}
use Rattle.rv64_decode.specs.declared.instr.Instr.{Instr}
use Rattle.rv64_decode.specs.declared.instr.Instr.TheVariants.{Alu, AluImm, Upper, Load, Store}
use Rattle.rv64_decode.specs.Row.{signed32}
use Rattle.linear_forms.specs.Forms.{EntryTerm, LinearForm, stride, is_zero, is_small, constant_fits, are_limited, is_limited, limited, word_of, merged, scaled_terms, multiple, pure, moving, AreFrom, IsForm}
use Rattle.linear_forms.proofs.Merges.{AreFrom-unless_zero, AreFrom-merged, and_true}
use Rattle.loop_data.specs.declared.shape.Level.{Level}
use Rattle.loop_data.specs.declared.verdict.Cell.{Cell}
use Rattle.loop_data.specs.Locations.{cell_at}
use Rattle.loop_data.specs.Nests.{Nest, has, levels, In, Among, Holds, around, IsEntered, IsNest}
use Rattle.loop_data.specs.Independent.{Role, Keeps, Moves, Private}
use Rattle.loop_data.specs.LoopCode.{LoopCode, writes, is_location, IsForwardIn}
use Rattle.loop_data.specs.FormRows.{form_read, form_sum, form_difference, form_multiple, form_shifted, form_product, form_limited, form_short, form_owed, is_pure, is_factor, alu_form, imm_form, upper_form, cell_form, register_form, store_form, stored_form, written_form, form_after, alu_duty, imm_duty, store_duty, duty_by, duty_from, duty}
use Rattle.loop_data.specs.Facts.{signed_of, short_of}
use Rattle.loop_data.specs.Equations.{entry_form, with_step, header_form, Carries, Arrives, AreForms}
use Rattle.loop_data.proofs.Arounds.{around_is, around_none}
use Rattle.loop_data.proofs.NestVisits.{header_or}
use Rattle.loop_data.proofs.Strides.{Without, without_after}
use Rattle.loop_data.proofs.Tests.{yes_no, not_true}

-- a form, if there is one, has its terms in order, and is a form within the limits
abbrev pub Ordered : Option LinearForm → Type 0
Ordered None = Unit {0}
Ordered (Some f) = AreFrom 1 f.terms

abbrev pub Fine : Option LinearForm → Type 0
Fine None = Unit {0}
Fine (Some f) = IsForm f

pub in_order : (o : Option LinearForm) → Fine o → Ordered o
in_order None h = tt
in_order (Some f) h = h.terms.ordered

ordered_if : (t : Bool) (o p : Option LinearForm) → Ordered o → Ordered p → Ordered (if t then o else p)
ordered_if true o p h k = h
ordered_if false o p h k = k

fine_if : (t : Bool) (o p : Option LinearForm) → Fine o → Fine p → Fine (if t then o else p)
fine_if true o p h k = h
fine_if false o p h k = k

-- ---- limits

pub limited_fine : (f : LinearForm) → AreFrom 1 f.terms → Fine (limited f)
limited_fine f a = go (is_limited f) refl
  where
    go : (t : Bool) → is_limited f ≡ t → Fine (if t then Some f else None)
    go true e =
        let p = and_true (constant_fits f.constant) _ e in
        let q = and_true (are_limited f.terms) _ p.1 in
        let r = and_true (is_small f.first) _ q.1 in
        let s = and_true (is_small f.second) (is_small f.third) r.1 in
        record {
          terms = record { ordered = a; limited = q.0 };
          bounded = record { constant = p.0; first = r.0; second = s.0; third = s.1 };
        }
    go false e = tt

pub pure_fine : (z : ℤ) → constant_fits z ≡ true → IsForm (pure z)
pure_fine z e = record {
  terms = record { ordered = tt; limited = refl };
  bounded = record { constant = e; first = refl; second = refl; third = refl };
}

constant_from : (z : ℤ) → negsuc (2 ^ 31 - 1) ≤ℤ z → z <ℤ pos (2 ^ 31) → constant_fits z ≡ true
constant_from z l h =
    let e : int_lt z (negsuc (2 ^ 31 - 1)) ≡ false = grind (arith, ints) in
    let f : int_lt z (pos (2 ^ 31)) ≡ true = grind (arith, ints) in
    rw (e, f) refl

short_fits : (n : ℕ) → constant_fits (signed32 n) ≡ true
short_fits n = constant_from (signed32 n) (omega (arith, ints)) (omega (arith, ints))

scaled_from : (low : ℕ) (by : ℤ) (ts : List EntryTerm) → AreFrom low ts → AreFrom low (scaled_terms by ts)
scaled_from low by [] a = tt
scaled_from low by (t ∷ ts) a =
    AreFrom-unless_zero low (record { loc = t.loc; by = by *ℤ t.by }) (scaled_terms by ts) a.0 a.1
    (scaled_from (suc t.loc) by ts a.3)

-- ---- what words write

pub read_fine : (F : ℕ → Option LinearForm) (r : ℕ) → ((q : ℕ) → Fine (F q)) → Fine (form_read F r)
read_fine F r h = fine_if (r == 0) (Some (pure (pos 0))) (F r) (pure_fine (pos 0) refl) (h r)

read_ordered : (F : ℕ → Option LinearForm) (r : ℕ) → ((q : ℕ) → Fine (F q)) → Ordered (form_read F r)
read_ordered F r h = in_order (form_read F r) (read_fine F r h)

pub sum_ordered : (o p : Option LinearForm) → Ordered o → Ordered p → Ordered (form_sum o p)
sum_ordered (Some f) (Some g) h k = AreFrom-merged 1 f.terms g.terms h k
sum_ordered (Some f) None h k = tt
sum_ordered None p h k = tt

pub difference_ordered : (o p : Option LinearForm) → Ordered o → Ordered p → Ordered (form_difference o p)
difference_ordered (Some f) (Some g) h k =
    AreFrom-merged 1 f.terms (scaled_terms (negsuc 0) g.terms) h (scaled_from 1 (negsuc 0) g.terms k)
difference_ordered (Some f) None h k = tt
difference_ordered None p h k = tt

multiple_ordered : (by : ℤ) (o : Option LinearForm) → Ordered o → Ordered (form_multiple by o)
multiple_ordered by (Some f) h = scaled_from 1 by f.terms h
multiple_ordered by None h = tt

shifted_ordered : (o : Option LinearForm) (z : ℤ) → Ordered o → Ordered (form_shifted o z)
shifted_ordered o (pos k) h =
    ordered_if (nat_le k 30) (form_multiple (pos (2 ^ k)) o) None (multiple_ordered (pos (2 ^ k)) o h) tt
shifted_ordered o (negsuc k) h = tt

product_ordered : (o p : Option LinearForm) → Ordered o → Ordered p → Ordered (form_product o p)
product_ordered (Some f) (Some g) h k =
    ordered_if (is_factor g) (Some (multiple g.constant f)) (if is_factor f then Some (multiple f.constant g) else None)
    (scaled_from 1 g.constant f.terms h)
    (ordered_if (is_factor f) (Some (multiple f.constant g)) None (scaled_from 1 f.constant g.terms k) tt)
product_ordered (Some f) None h k = tt
product_ordered None p h k = tt

pub kept_fine : (o : Option LinearForm) → Ordered o → Fine (form_limited o)
kept_fine (Some f) h = limited_fine f h
kept_fine None h = tt

short_fine : (o : Option LinearForm) → Ordered o → Fine (form_short o)
short_fine (Some f) h =
    fine_if (is_pure f) (Some (pure (short_of f.constant))) (limited f) (pure_fine (short_of f.constant) (short_fits (word_of f.constant)))
    (limited_fine f h)
short_fine None h = tt

owed_fine : (o : Option LinearForm) → Ordered o → Fine (form_owed o)
owed_fine (Some f) h = fine_if (is_pure f) None (limited f) tt (limited_fine f h)
owed_fine None h = tt

alu_fine : (op : AluOp) (o p : Option LinearForm) → Ordered o → Ordered p → Fine (alu_form op o p)
alu_fine Add o p h k = kept_fine (form_sum o p) (sum_ordered o p h k)
alu_fine Sub o p h k = kept_fine (form_difference o p) (difference_ordered o p h k)
alu_fine Mul o p h k = kept_fine (form_product o p) (product_ordered o p h k)
alu_fine Addw o p h k = short_fine (form_sum o p) (sum_ordered o p h k)
alu_fine Subw o p h k = short_fine (form_difference o p) (difference_ordered o p h k)
alu_fine Mulw o p h k = short_fine (form_product o p) (product_ordered o p h k)
alu_fine op o p h k = tt

imm_fine : (op : ImmOp) (o : Option LinearForm) (z : ℤ) → Ordered o → Fine (imm_form op o z)
imm_fine Addi o z h = kept_fine (form_sum o (Some (pure z))) (sum_ordered o (Some (pure z)) h tt)
imm_fine Slli o z h = kept_fine (form_shifted o z) (shifted_ordered o z h)
imm_fine Addiw o z h = short_fine (form_sum o (Some (pure z))) (sum_ordered o (Some (pure z)) h tt)
imm_fine Slliw o z h = short_fine (form_shifted o z) (shifted_ordered o z h)
imm_fine op o z h = tt

upper_fine : (op : UpperOp) (u : ℕ) (z : ℤ) → Fine (upper_form op u z)
upper_fine Lui u z = limited_fine (pure z) tt
upper_fine Auipc u z = limited_fine (pure (signed_of (pos u +ℤ z))) tt

cell_fine : (cell : Option ℕ) (F : ℕ → Option LinearForm) → ((q : ℕ) → Fine (F q)) → Fine (cell_form cell F)
cell_fine (Some k) F h = h (32 + k)
cell_fine None F h = tt

register_fine : (u : ℕ) (i : Instr) (cell : Option ℕ) (F : ℕ → Option LinearForm) → ((q : ℕ) → Fine (F q))
    → Fine (register_form u i cell F)
register_fine u (Alu op rd rs1 rs2) cell F h =
    alu_fine op (form_read F rs1) (form_read F rs2) (read_ordered F rs1 h) (read_ordered F rs2 h)
register_fine u (AluImm op rd rs1 imm) cell F h = imm_fine op (form_read F rs1) imm (read_ordered F rs1 h)
register_fine u (Upper op rd imm) cell F h = upper_fine op u imm
register_fine u (Load op rd rs1 imm) cell F h = cell_fine cell F h
register_fine u i cell F h = tt

store_fine : (op : StoreOp) (o : Option LinearForm) → Fine o → Fine (store_form op o)
store_fine Sw o h = short_fine o (in_order o h)
store_fine op o h = h

stored_fine : (i : Instr) (F : ℕ → Option LinearForm) → ((q : ℕ) → Fine (F q)) → Fine (stored_form i F)
stored_fine (Store op rs1 rs2 imm) F h = store_fine op (form_read F rs2) (read_fine F rs2 h)
stored_fine i F h = tt

written_fine : (u : ℕ) (o : Option Instr) (cell : Option ℕ) (r : ℕ) (F : ℕ → Option LinearForm)
    → ((q : ℕ) → Fine (F q)) → Fine (written_form u o cell r F)
written_fine u None cell r F h = tt
written_fine u (Some i) cell r F h =
    fine_if (nat_lt r 32) (register_form u i cell F) (stored_form i F) (register_fine u i cell F h) (stored_fine i F h)

after_fine : (B : LoopCode) (u : ℕ) (F : ℕ → Option LinearForm) (r : ℕ) → ((q : ℕ) → Fine (F q))
    → Fine (form_after B u F r)
after_fine B u F r h =
    fine_if (writes B u r) (written_form u (B.instr u) (B.cells.uses u) r F) (F r)
    (written_fine u (B.instr u) (B.cells.uses u) r F h) (h r)

-- ---- what they owe

alu_owes : (op : AluOp) (o p : Option LinearForm) → Ordered o → Ordered p → Fine (alu_duty op o p)
alu_owes Addw o p h k = owed_fine (form_sum o p) (sum_ordered o p h k)
alu_owes Subw o p h k = owed_fine (form_difference o p) (difference_ordered o p h k)
alu_owes Mulw o p h k = owed_fine (form_product o p) (product_ordered o p h k)
alu_owes op o p h k = tt

imm_owes : (op : ImmOp) (o : Option LinearForm) (z : ℤ) → Ordered o → Fine (imm_duty op o z)
imm_owes Addiw o z h = owed_fine (form_sum o (Some (pure z))) (sum_ordered o (Some (pure z)) h tt)
imm_owes Slliw o z h = owed_fine (form_shifted o z) (shifted_ordered o z h)
imm_owes op o z h = tt

store_owes : (op : StoreOp) (o : Option LinearForm) → Ordered o → Fine (store_duty op o)
store_owes Sw o h = owed_fine o h
store_owes op o h = tt

duty_owes : (i : Instr) (cell : Option ℕ) (F : ℕ → Option LinearForm) → ((q : ℕ) → Fine (F q))
    → Fine (duty_by i cell F)
duty_owes (Alu op rd rs1 rs2) cell F h =
    fine_if (rd == 0) None (alu_duty op (form_read F rs1) (form_read F rs2)) tt
    (alu_owes op (form_read F rs1) (form_read F rs2) (read_ordered F rs1 h) (read_ordered F rs2 h))
duty_owes (AluImm op rd rs1 imm) cell F h =
    fine_if (rd == 0) None (imm_duty op (form_read F rs1) imm) tt (imm_owes op (form_read F rs1) imm (read_ordered F rs1 h))
duty_owes (Store op rs1 rs2 imm) (Some k) F h = store_owes op (form_read F rs2) (read_ordered F rs2 h)
duty_owes (Store op rs1 rs2 imm) None F h = tt
duty_owes i cell F h = tt

from_owes : (o : Option Instr) (cell : Option ℕ) (F : ℕ → Option LinearForm) → ((q : ℕ) → Fine (F q))
    → Fine (duty_from o cell F)
from_owes None cell F h = tt
from_owes (Some i) cell F h = duty_owes i cell F h

pub duty_fine : (B : LoopCode) (u : ℕ) (F : ℕ → Option LinearForm) → ((q : ℕ) → Fine (F q)) → Fine (duty B u F)
duty_fine B u F h = from_owes (B.instr u) (B.cells.uses u) F h

-- ---- entry values

moving_fine : (r : ℕ) → 1 ≤ r → r < 48 → IsForm (moving r (pos 0))
moving_fine r low high = record {
  terms = record { ordered = (low, high, (λ e. absurd (cc)), tt); limited = refl };
  bounded = record { constant = refl; first = refl; second = refl; third = refl };
}

entry_fine : (B : LoopCode) (r : ℕ) → length B.cells.cells ≤ 16 → Fine (entry_form B r)
entry_fine B r few =
    fine_if (r == 0) (Some (pure (pos 0))) (if is_location B r then Some (moving r (pos 0)) else None)
    (pure_fine (pos 0) refl) (by_test (is_location B r) refl)
  where
    within : (cs : List Cell) (k : ℕ) → is_some (cell_at cs k) ≡ true → k < length cs
    within [] k e = absurd (cc)
    within (c ∷ cs) zero e = omega arith
    within (c ∷ cs) (suc k) e = let h = within cs k e in omega (arith, h)

    bounds : (a b : Bool) → (r == 0) ≡ a → nat_lt r 32 ≡ b
        → (if a then false else if b then true else is_some (cell_at B.cells.cells (r - 32))) ≡ true → (1 ≤ r) × (r < 48)
    bounds true b p q e = absurd (cc)
    bounds false true p q e = (grind (arith, nat_tests), grind (arith, nat_tests))
    bounds false false p q e =
        let h = within B.cells.cells (r - 32) e in
        let l : 32 ≤ r = grind (arith, nat_tests) in
        (omega (arith, l), omega (arith, h, l))

    by_test : (t : Bool) → is_location B r ≡ t → Fine (if t then Some (moving r (pos 0)) else None)
    by_test true e = let b = bounds (r == 0) (nat_lt r 32) refl refl e in moving_fine r b.0 b.1
    by_test false e = tt

stride_entry : (r k : ℕ) → stride (moving r (pos 0)) k ≡ pos 0
stride_entry r zero = refl
stride_entry r (suc zero) = refl
stride_entry r (suc (suc zero)) = refl
stride_entry r (suc (suc (suc k))) = refl

stride_nothing : (k : ℕ) → stride (pure (pos 0)) k ≡ pos 0
stride_nothing zero = refl
stride_nothing (suc zero) = refl
stride_nothing (suc (suc zero)) = refl
stride_nothing (suc (suc (suc k))) = refl

entry_still : (B : LoopCode) (r k : ℕ) → Without k (entry_form B r)
entry_still B r k = go (r == 0) (is_location B r)
  where
    go : (a b : Bool) → Without k (if a then Some (pure (pos 0)) else if b then Some (moving r (pos 0)) else None)
    go true b f e = let q : pure (pos 0) ≡ f = cc in ap (λ (h : LinearForm). stride h k) (sym q) ∙ stride_nothing k
    go false true f e = let q : moving r (pos 0) ≡ f = cc in ap (λ (h : LinearForm). stride h k) (sym q) ∙ stride_entry r k
    go false false f e = absurd (cc)

-- ---- headers

small_step : (a z : ℤ) → a ≡ pos 0 → is_small z ≡ true → is_small (a +ℤ z) ≡ true
small_step a z e h = let q : a +ℤ z ≡ z = omega (arith, ints) in subst (λ x. is_small x ≡ true) (sym q) h

step_fine : (f : LinearForm) (k : ℕ) (z : ℤ) → IsForm f → stride f k ≡ pos 0 → is_small z ≡ true → IsForm (with_step f k z)
step_fine f zero z h e s = record {
  terms = h.terms;
  bounded = record {
    constant = h.bounded.constant;
    first = small_step f.first z e s;
    second = h.bounded.second;
    third = h.bounded.third;
  };
}
step_fine f (suc zero) z h e s = record {
  terms = h.terms;
  bounded = record {
    constant = h.bounded.constant;
    first = h.bounded.first;
    second = small_step f.second z e s;
    third = h.bounded.third;
  };
}
step_fine f (suc (suc zero)) z h e s = record {
  terms = h.terms;
  bounded = record {
    constant = h.bounded.constant;
    first = h.bounded.first;
    second = h.bounded.second;
    third = small_step f.third z e s;
  };
}
step_fine f (suc (suc (suc k))) z h e s = h

stride_other : (f : LinearForm) (k d : ℕ) (z : ℤ) → d ≢ k → stride (with_step f k z) d ≡ stride f d
stride_other f zero zero z ne = absurd (ne refl)
stride_other f zero (suc zero) z ne = refl
stride_other f zero (suc (suc zero)) z ne = refl
stride_other f zero (suc (suc (suc d))) z ne = refl
stride_other f (suc zero) zero z ne = refl
stride_other f (suc zero) (suc zero) z ne = absurd (ne refl)
stride_other f (suc zero) (suc (suc zero)) z ne = refl
stride_other f (suc zero) (suc (suc (suc d))) z ne = refl
stride_other f (suc (suc zero)) zero z ne = refl
stride_other f (suc (suc zero)) (suc zero) z ne = refl
stride_other f (suc (suc zero)) (suc (suc zero)) z ne = absurd (ne refl)
stride_other f (suc (suc zero)) (suc (suc (suc d))) z ne = refl
stride_other f (suc (suc (suc k))) d z ne = refl

-- the form at a header is that from outside, or it has a step more
header_fine : (k : ℕ) (c : Role) (o : Option LinearForm) (f : LinearForm) → header_form k c o ≡ Some f
    → ((z : ℤ) → c ≡ Moves z → is_small z ≡ true) → ((g : LinearForm) → o ≡ Some g → IsForm g × (stride g k ≡ pos 0))
    → IsForm f
header_fine k Keeps o f e small h = (h f e).0
header_fine k (Moves z) (Some g) f e small h =
    let q : with_step g k z ≡ f = cc in
    subst IsForm q (step_fine g k z (h g refl).0 (h g refl).1 (small z refl))
header_fine k (Moves z) None f e small h = absurd (cc)
header_fine k Private o f e small h = absurd (cc)

header_still : (k d : ℕ) (c : Role) (o : Option LinearForm) (f : LinearForm) → header_form k c o ≡ Some f → d ≢ k
    → Without d o → stride f d ≡ pos 0
header_still k d Keeps o f e ne w = w f e
header_still k d (Moves z) (Some g) f e ne w =
    let q : with_step g k z ≡ f = cc in
    ap (λ (h : LinearForm). stride h d) (sym q) ∙ stride_other g k d z ne ∙ w g refl
header_still k d (Moves z) None f e ne w = absurd (cc)
header_still k d Private o f e ne w = absurd (cc)

-- ---- the nest

-- a form has no stride of a depth at which no loop is round the word
abbrev pub Flat : Nest → ℕ → LinearForm → Type 0
Flat N v f = (k : ℕ) → k < 3 → ((l : Level) → Among N l → l.depth ≡ k → has l.body v ≡ false) → stride f k ≡ pos 0

-- a loop of the depth is round the word, or none is
pub record IsRound (N : Nest) (k v : ℕ) : Type 0 where
  pub loop : Level
  pub among : Among N loop
  pub depth : loop.depth ≡ k
  pub holds : has loop.body v ≡ true

round_or : (N : Nest) (k v : ℕ) → IsRound N k v ⊎ ((l : Level) → Among N l → l.depth ≡ k → has l.body v ≡ false)
round_or N k v = go (around (levels N) k v) refl
  where
    go : (o : Option Level) → around (levels N) k v ≡ o
        → IsRound N k v ⊎ ((l : Level) → Among N l → l.depth ≡ k → has l.body v ≡ false)
    go None e = inr (λ l i d. around_none (levels N) k v e l i d)
    go (Some m) e =
        let r = around_is (levels N) k v m e in
        inl (record { loop = m; among = r.0; depth = r.1; holds = r.2 })

-- a stride that an edge loses, or that is not there
gone : (N : Nest) (u v k : ℕ) (f : LinearForm) → k < 3 → Flat N u f → Carries N u v f
    → ((m : Level) → Among N m → m.depth ≡ k → has m.body u ≡ true → has m.body v ≡ false) → stride f k ≡ pos 0
gone N u v k f lt flat carries out = go (round_or N k u)
  where
    go : IsRound N k u ⊎ ((l : Level) → Among N l → l.depth ≡ k → has l.body u ≡ false) → stride f k ≡ pos 0
    go (inl m) =
        subst (λ d. stride f d ≡ pos 0) m.depth
        (carries m.loop m.among m.holds (out m.loop m.among m.depth m.holds))
    go (inr none) = flat k lt none

module _ (N : Nest) (B : LoopCode) (roles : Level → ℕ → Role) (at : ℕ → ℕ → Option LinearForm) (nest : IsNest N)
    (forms : AreForms N B roles at) (few : length B.cells.cells ≤ 16)
    (small : (l : Level) (r : ℕ) (z : ℤ) → roles l r ≡ Moves z → is_small z ≡ true) where
  -- each form at a word is within the limits, and has no stride of a loop that is not round the word
  abbrev Kept : ℕ → Type 0
  Kept v = (r : ℕ) (f : LinearForm) → at v r ≡ Some f → IsForm f × Flat N v f

  kept_each : (u : ℕ) → Kept u → (q : ℕ) → Fine (at u q)
  kept_each u h q = go (at u q) refl
    where
      go : (o : Option LinearForm) → at u q ≡ o → Fine o
      go None e = tt
      go (Some f) e = (h q f e).0

  after_kept : (u r : ℕ) (f : LinearForm) → Kept u → form_after B u (at u) r ≡ Some f → IsForm f × Flat N u f
  after_kept u r f h e = (
    subst Fine e (after_fine B u (at u) r (kept_each u h)),
    λ k lt none. without_after B u k (at u) (λ q g i. (h q g i).1 k lt none) r f e,
  )

  -- a form that comes along an edge
  arrived : (u v r : ℕ) (f : LinearForm) → Kept u → Arrives N B at u v r f → IsForm f × Flat N v f
  arrived u v r f h a =
      let p = after_kept u r f h a.after in
      (p.0, λ k lt none. gone N u v k f lt p.1 a.carries (λ m i d mu. none m i d))

  root_kept : Kept N.root.header
  root_kept r f e = (
    header_fine 0 (roles N.root r) (entry_form B r) f is (small N.root r)
        (λ g q. (subst Fine q (entry_fine B r few), entry_still B r 0 g q)),
    flat,
  )
    where
      is : header_form 0 (roles N.root r) (entry_form B r) ≡ Some f
      is = sym (forms.root r) ∙ e

      flat : Flat N N.root.header f
      flat zero lt none =
          absurd (yes_no _ (nest.bodies.header N.root (inl refl)) (none N.root (inl refl) nest.bodies.outermost))
      flat (suc k) lt none =
          header_still 0 (suc k) (roles N.root r) (entry_form B r) f is (λ q. absurd (omega arith)) (entry_still B r (suc k))

  -- at the header of an inner loop, which is entered from outside
  inner_kept : (l : Level) (u : ℕ) → In N.inner l → IsForwardIn N N.root.body u l.header → has l.body u ≡ false → Kept u
      → Kept l.header
  inner_kept l u i w out h r f e = (
    header_fine l.depth (roles l r) (forms.outside l r) f is (small l r) (λ g q. ((came g q).0, unmoved g q)),
    flat,
  )
    where
      is : header_form l.depth (roles l r) (forms.outside l r) ≡ Some f
      is = sym (forms.inner l i r) ∙ e

      along : (g : LinearForm) → forms.outside l r ≡ Some g → Arrives N B at u l.header r g
      along g q = (forms.entering l i r g).0 q u w

      came : (g : LinearForm) → forms.outside l r ≡ Some g → IsForm g × Flat N u g
      came g q = after_kept u r g h (along g q).after

      holds : has l.body l.header ≡ true
      holds = nest.bodies.header l (inr i)

      -- no other loop of its depth is round its header
      alone : (m : Level) → Among N m → m.depth ≡ l.depth → has m.body u ≡ true → has m.body l.header ≡ false
      alone m im d mu =
          not_true (has m.body l.header)
          (λ mv. yes_no _ mu
          (subst (λ (z : Level). has z.body u ≡ false) (nest.bodies.alone l m (inr i) im (sym d) l.header holds mv) out))

      unmoved : (g : LinearForm) → forms.outside l r ≡ Some g → stride g l.depth ≡ pos 0
      unmoved g q =
          gone N u l.header l.depth g (nest.bodies.depth l (inr i)) (came g q).1 (along g q).carries alone

      flat : Flat N l.header f
      flat k lt none =
          header_still l.depth k (roles l r) (forms.outside l r) f is
          (λ q. yes_no _ holds (none l (inr i) (sym q)))
          (λ g q. gone N u l.header k g lt (came g q).1 (along g q).carries (λ m im d mu. none m im d))

  -- at any other word
  met_kept : (v u : ℕ) → Holds N.root v → ((l : Level) → Among N l → v ≢ l.header) → IsForwardIn N N.root.body u v
      → Kept u → Kept v
  met_kept v u h none w k r f e = arrived u v r f k ((forms.met v r f h none).0 e u w)

  entered_kept : (v : ℕ) → Holds N.root v → v ≢ N.root.header → (x : IsEntered N v) → Kept x.from → Kept v
  entered_kept v h ne x k = go (header_or N.inner v)
    where
      forward : IsForwardIn N N.root.body x.from v
      forward = record { edge = x.edge; closes = λ m im mu q. yes_no _ mu (x.outside m im q) }

      heads_none : ((l : Level) → In N.inner l → v ≢ l.header) → (l : Level) → Among N l → v ≢ l.header
      heads_none none l (inl e) q = ne (q ∙ sym (ap (λ (z : Level). z.header) e))
      heads_none none l (inr i) q = none l i q

      go : ((l : Level) × In N.inner l × (v ≡ l.header)) ⊎ ((l : Level) → In N.inner l → v ≢ l.header) → Kept v
      go (inl s) =
          let w = subst (λ z. IsForwardIn N N.root.body x.from z) s.2 forward in
          subst Kept (sym s.2) (inner_kept s.0 x.from s.1 w (x.outside s.0 (inr s.1) s.2) k)
      go (inr none) = met_kept v x.from h (heads_none none) forward k

  by_rank : (n v : ℕ) → nest.shapes.ranked.rank v < n → Holds N.root v → Kept v
  by_rank zero v lt h = absurd (omega (arith, lt))
  by_rank (suc n) v lt h = go (λ u l k. by_rank n u l k) (cases_eq v N.root.header)
    where
      go : ((u : ℕ) → nest.shapes.ranked.rank u < n → Holds N.root u → Kept u)
          → (v ≡ N.root.header) ⊎ (v ≢ N.root.header) → Kept v
      go below (inl e) = subst Kept (sym e) root_kept
      go below (inr ne) =
          let x = nest.shapes.entered v h ne in
          let up = nest.shapes.ranked.is.up x.from v x.edge (λ m im mu q. yes_no _ mu (x.outside m im q)) in
          entered_kept v h ne x (below x.from (omega (arith, up, lt)) x.edge.from)

  pub forms_fine : (v : ℕ) → Holds N.root v → (r : ℕ) → Fine (at v r)
  forms_fine v h r = kept_each v (by_rank (suc (nest.shapes.ranked.rank v)) v (omega arith) h) r
