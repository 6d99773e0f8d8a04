-- Straight code between states: what is known after it of the registers that it writes.
use Rattle.std.proofs.Common.{◌≡◌, ℕ, suc, ◌+◌, ◌%◌, ◌^◌, refl, sym, subst, ap, ◌∙◌, ℤ, pos, Option, Some, None, Bool, true, false, cond, List, [], ◌∷◌, ◌++◌}
use Rattle.std.specs.Prelude.{◌==◌, ◌&&◌, if◌then◌else◌, int_lt, slice_index}
use Rattle.std.proofs.lemmas.List.{append-nil}
use Rattle.rv64_decode.specs.Row.{alu_imm, taken, plus_offset}
use Rattle.rv64_decode.specs.declared.instr.UpperOp.TheVariants.{Lui}
use Rattle.rv64_decode.specs.declared.instr.ImmOp.TheVariants.{Addi}
use Rattle.rv64_decode.specs.declared.instr.BranchOp.{BranchOp}
use Rattle.rv64_decode.specs.declared.instr.Instr.TheVariants.{Alu, AluImm, Upper}
use Rattle.rv64_decode.specs.declared.xinstr.XInstr.{XInstr}
use Rattle.rv64_decode.specs.declared.xinstr.XInstr.TheVariants.{Base, Get}
use Rattle.rv64_decode.specs.Hart.{address, fetched}
use Rattle.linear_forms.specs.Forms.{EntryTerm, LinearForm, IsForm}
use Rattle.stub_laws.specs.Places.{behind}
use Rattle.stub_laws.specs.Straight.{read, put, AreSimple, all_registers, all_slots}
use Rattle.stub_laws.specs.Locations.{slot_of}
use Rattle.stub_laws.proofs.Steps.{World, Wins, Stands, alike, imm_law, behind-append, stands_front, stands_back}
use Rattle.stub_laws.proofs.Known.{Knows, Temporary, knows_put, same_again}
use Rattle.stub_laws.proofs.Tests.{State, IsTest, Known, With, straight_test}
use Rattle.check_numbers.specs.Parts.{bits}
use Rattle.check_numbers.specs.Sums.{IsShort, value_of}
use Rattle.check_code.specs.Macros.{bring, terms_code, form_code, span_code, fall_code, rise_code, low_code, high_code, offset_code, address_by_code, need_code}
use Rattle.check_code.proofs.Pieces.{TermsOk, Target, three, added, form_law, span_law, maybe_span, as_three, bring_law, li_law, based_law, need_law, aimed_bring_is}
use Rattle.check_code.proofs.Runs.{spans_law, far_place, AreStrides, strides_of}
use Rattle.check_code.proofs.Values.{constant_short}

abbrev pub has_slot : Option ℕ → Bool
has_slot None = false
has_slot (Some s) = true

-- it is straight code that writes a temporary
abbrev pub temp : XInstr → Bool
temp (Base (Alu op rd rs1 rs2)) = has_slot (slot_of rd)
temp (Base (AluImm op rd rs1 imm)) = has_slot (slot_of rd)
temp (Base (Upper Lui rd imm)) = has_slot (slot_of rd)
temp (Get rd slot) = has_slot (slot_of rd)
temp i = false

abbrev pub all_temps : List XInstr → Bool
all_temps [] = true
all_temps (i ∷ is) = temp i && all_temps is

first_of : (t u : Bool) → (t && u) ≡ true → t ≡ true
first_of true u h = refl
first_of false u h = h

second_of : (t u : Bool) → (t && u) ≡ true → u ≡ true
second_of true u h = h
second_of false u h = absurd (cc)

temporary_of : (r : ℕ) → has_slot (slot_of r) ≡ true → Temporary r
temporary_of r h = by_slot (slot_of r) refl h
  where
    by_slot : (o : Option ℕ) → slot_of r ≡ o → has_slot o ≡ true → Temporary r
    by_slot None e h = absurd (cc)
    by_slot (Some s) e h = record { slot = s; is = e }

pub simple_temps : (is : List XInstr) → all_temps is ≡ true → AreSimple is
simple_temps [] h = tt
simple_temps (Base (Alu op rd rs1 rs2) ∷ is) h = (tt, simple_temps is (second_of (temp (Base (Alu op rd rs1 rs2))) (all_temps is) h))
simple_temps (Base (AluImm op rd rs1 imm) ∷ is) h = (tt, simple_temps is (second_of (temp (Base (AluImm op rd rs1 imm))) (all_temps is) h))
simple_temps (Base (Upper Lui rd imm) ∷ is) h = (tt, simple_temps is (second_of (temp (Base (Upper Lui rd imm))) (all_temps is) h))
simple_temps (Get rd slot ∷ is) h = (tt, simple_temps is (second_of (temp (Get rd slot)) (all_temps is) h))
simple_temps (i ∷ is) h = absurd (cc)

pub knows_temps : (known : ℕ → Bool) (e : ℕ → ℕ) (is : List XInstr) (f g : ℕ → ℕ) → all_temps is ≡ true → Knows known e f g
    → Knows known e (all_registers is f g) (all_slots is f g)
knows_temps known e [] f g h k = k
knows_temps known e (Base (Alu op rd rs1 rs2) ∷ is) f g h k =
    knows_temps known e is _ g (second_of (temp (Base (Alu op rd rs1 rs2))) (all_temps is) h)
    (knows_put known e f g rd _ (temporary_of rd (first_of (temp (Base (Alu op rd rs1 rs2))) (all_temps is) h)) k)
knows_temps known e (Base (AluImm op rd rs1 imm) ∷ is) f g h k =
    knows_temps known e is _ g (second_of (temp (Base (AluImm op rd rs1 imm))) (all_temps is) h)
    (knows_put known e f g rd _ (temporary_of rd (first_of (temp (Base (AluImm op rd rs1 imm))) (all_temps is) h)) k)
knows_temps known e (Base (Upper Lui rd imm) ∷ is) f g h k =
    knows_temps known e is _ g (second_of (temp (Base (Upper Lui rd imm))) (all_temps is) h)
    (knows_put known e f g rd _ (temporary_of rd (first_of (temp (Base (Upper Lui rd imm))) (all_temps is) h)) k)
knows_temps known e (Get rd slot ∷ is) f g h k =
    knows_temps known e is _ g (second_of (temp (Get rd slot)) (all_temps is) h)
    (knows_put known e f g rd _ (temporary_of rd (first_of (temp (Get rd slot)) (all_temps is) h)) k)
knows_temps known e (i ∷ is) f g h k = absurd (cc)

-- straight code over temporaries
pub temps_test : (w : World) (z b c : State) (is : List XInstr) → all_temps is ≡ true
    → ((f g : ℕ → ℕ) → b f g → c (all_registers is f g) (all_slots is f g)) → IsTest w z b c is true
temps_test w z b c is h leads = straight_test w z b c is (simple_temps is h) leads

-- a function of two or three numbers at equal ones
pub ap2 : {X : Type 0} (a a' b b' : ℕ) (k : ℕ → ℕ → X) → a ≡ a' → b ≡ b' → k a b ≡ k a' b'
ap2 a a' b b' k p q = ap (λ x. k x b) p ∙ ap (k a') q

pub ap3 : {X : Type 0} (a a' b b' c c' : ℕ) (k : ℕ → ℕ → ℕ → X) → a ≡ a' → b ≡ b' → c ≡ c' → k a b c ≡ k a' b' c'
ap3 a a' b b' c c' k p q r = ap (λ x. k x b c) p ∙ ap (λ x. k a' x c) q ∙ ap (k a' b') r

-- less has to be known behind it
pub weaker_after : (w : World) (z b c c' : State) (is : List XInstr) (t : Bool) → IsTest w z b c is t → ((f g : ℕ → ℕ) → c f g → c' f g)
    → IsTest w z b c' is t
weaker_after w z b c c' is t h k = record { by = λ p f g x has on off. h.by p f g x has (λ y f' g' q. on y f' g' (k f' g' q)) off }

-- the registers that sums are worked out in
pub t5 : Target 5
t5 = record { nonzero = refl; not30 = refl; not31 = refl; temporary = record { slot = 16; is = refl } }

pub t6 : Target 6
t6 = record { nonzero = refl; not30 = refl; not31 = refl; temporary = record { slot = 17; is = refl } }

pub t7 : Target 7
t7 = record { nonzero = refl; not30 = refl; not31 = refl; temporary = record { slot = 18; is = refl } }

pub t28 : Target 28
t28 = record { nonzero = refl; not30 = refl; not31 = refl; temporary = record { slot = 19; is = refl } }

-- FORM
pub formed : (w : World) (known : ℕ → Bool) (e : ℕ → ℕ) (r : ℕ) → Target r → (c : ℤ) (ts : List EntryTerm) (b after : State) → IsShort c
    → TermsOk known ts
    → ((f g : ℕ → ℕ) → b f g → Knows known e f g) → ((f g : ℕ → ℕ) (a' b' : ℕ) → b f g → after (three f r a' b' (value_of e c ts)) g)
    → IsTest w (Known known e) b after (terms_code r c ts) true
formed w known e r t c ts b after short ok knows leads = record {
  by = λ p f g x has on off. form_law w known e f g r c ts p t (knows f g x) short ok has (λ a' b'. on refl _ _ (leads f g a' b' x));
}

-- NEED
pub needed : (w : World) (z b : State) (op : BranchOp) (r s : ℕ) (t : Bool) → ((f g : ℕ → ℕ) → b f g → taken op (read f r) (read f s) ≡ t)
    → ((f g : ℕ → ℕ) → b f g → z f g) → IsTest w z b b (need_code op r s) t
needed w z b op r s t is weaker = record {
  by =
      λ p f g x has on off. need_law w p f g op r s has (λ y. on (sym (is f g x) ∙ y) f g x)
      (λ y. off (sym (is f g x) ∙ y) f g (weaker f g x));
}

-- the words that LO and HI leave, where the last turn numbers are these
abbrev pub low_word : (ℕ → ℕ) → LinearForm → (ℕ → ℕ) → ℕ
low_word e f x =
    let n = value_of e f.constant f.terms in
    let n1 = cond (int_lt f.first (pos 0)) (added n f.first (x 0)) n in
    let n2 = cond (int_lt f.second (pos 0)) (added n1 f.second (x 1)) n1 in
    cond (int_lt f.third (pos 0)) (added n2 f.third (x 2)) n2

abbrev pub raised_word : (ℕ → ℕ) → LinearForm → (ℕ → ℕ) → ℕ
raised_word e f x =
    let n = value_of e f.constant f.terms in
    let n1 = cond (int_lt (pos 0) f.first) (added n f.first (x 0)) n in
    let n2 = cond (int_lt (pos 0) f.second) (added n1 f.second (x 1)) n1 in
    cond (int_lt (pos 0) f.third) (added n2 f.third (x 2)) n2

abbrev pub high_word : (ℕ → ℕ) → LinearForm → (ℕ → ℕ) → ℕ → ℕ
high_word e f x size = (raised_word e f x + size) % 2 ^ 64

-- what the slots of these numbers have
abbrev pub from_slots : (ℕ → ℕ) → List ℕ → ℕ → ℕ
from_slots g slots k = g (slice_index slots k)

-- LO
pub lowered : (w : World) (known : ℕ → Bool) (e : ℕ → ℕ) (r : ℕ) → Target r → (form : LinearForm) (slots : List ℕ) (v : ℕ) (b after : State)
    → IsForm form → TermsOk known form.terms
    → ((f g : ℕ → ℕ) → b f g → Knows known e f g) → ((f g : ℕ → ℕ) → b f g → low_word e form (from_slots g slots) ≡ v)
    → ((f g : ℕ → ℕ) (a' b' : ℕ) → b f g → after (three f r a' b' v) g)
    → IsTest w (Known known e) b after (low_code r form slots) true
lowered w known e r t form slots v b after fine ok knows value leads = record {
  by = λ p f g x has on off.
      let st = strides_of form fine in
      let c0 = form_code r form in
      let c1 = fall_code r form.first (slice_index slots 0) in
      let c2 = fall_code r form.second (slice_index slots 1) in
      let c3 = fall_code r form.third (slice_index slots 2) in
      form_law w known e f g r form.constant form.terms p t (knows f g x) (constant_short form.constant fine.bounded.constant) ok
      (stands_front w p c0 (c1 ++ (c2 ++ c3)) has)
      (λ a1 b1. spans_law w f g r t form.first form.second form.third (slice_index slots 0) (slice_index slots 1) (slice_index slots 2) (int_lt form.first (pos 0)) (int_lt form.second (pos 0)) (int_lt form.third (pos 0))
      [] (behind p c0) a1 b1 (value_of e form.constant form.terms) st.first st.second st.third
      (subst (λ l. Stands w (behind p c0) (c1 ++ (c2 ++ l))) (sym (append-nil c3)) (stands_back w p c0 (c1 ++ (c2 ++ c3)) has))
      (λ a2 b2 u. subst (λ n. Wins w (behind (behind (behind (behind p c0) c1) c2) c3) (three f r a2 b2 n) g) (sym (value f g x))
      (subst (λ q. Wins w q (three f r a2 b2 v) g) (sym (far_place p c0 c1 c2 c3)) (on refl _ _ (leads f g a2 b2 x)))));
}

-- HI
pub raised : (w : World) (known : ℕ → Bool) (e : ℕ → ℕ) (r : ℕ) → Target r
    → (form : LinearForm) (slots : List ℕ) (size v : ℕ) (b after : State) → IsForm form → TermsOk known form.terms
    → ((f g : ℕ → ℕ) → b f g → Knows known e f g) → ((f g : ℕ → ℕ) → b f g → raised_word e form (from_slots g slots) ≡ v)
    → ((f g : ℕ → ℕ) (a' b' : ℕ) → b f g → after (put (three f r a' b' v) r ((v + size) % 2 ^ 64)) g)
    → IsTest w (Known known e) b after (high_code r form slots size) true
raised w known e r t form slots size v b after fine ok knows value leads = record {
  by = λ p f g x has on off.
      let st = strides_of form fine in
      let last = Base (AluImm Addi r r (pos size)) ∷ [] in
      let c0 = form_code r form in
      let c1 = rise_code r form.first (slice_index slots 0) in
      let c2 = rise_code r form.second (slice_index slots 1) in
      let c3 = rise_code r form.third (slice_index slots 2) in
      let p3 = behind (behind (behind (behind p c0) c1) c2) c3 in
      let place : suc p3 ≡ behind p (high_code r form slots size) = sym (behind-append (behind (behind (behind p c0) c1) c2) c3 last)
      ∙ far_place p c0 c1 c2 (c3 ++ last) in
      form_law w known e f g r form.constant form.terms p t (knows f g x) (constant_short form.constant fine.bounded.constant) ok
      (stands_front w p c0 (c1 ++ (c2 ++ (c3 ++ last))) has)
      (λ a1 b1. spans_law w f g r t form.first form.second form.third (slice_index slots 0) (slice_index slots 1) (slice_index slots 2) (int_lt (pos 0) form.first) (int_lt (pos 0) form.second) (int_lt (pos 0) form.third)
      last (behind p c0) a1 b1 (value_of e form.constant form.terms) st.first st.second st.third
      (stands_back w p c0 (c1 ++ (c2 ++ (c3 ++ last))) has)
      (λ a2 b2 u. subst (λ n. Wins w p3 (three f r a2 b2 n) g) (sym (value f g x))
      (imm_law w p3 (three f r a2 b2 v) g Addi r r (pos size) u.0
      (subst (λ y. Wins w (suc p3) (put (three f r a2 b2 v) r ((y + size) % 2 ^ 64)) g) (sym (own_value f r a2 b2 v t))
      (subst (λ q. Wins w q (put (three f r a2 b2 v) r ((v + size) % 2 ^ 64)) g) (sym place) (on refl _ _ (leads f g a2 b2 x)))))));
}
  where
    own_value : (f : ℕ → ℕ) (r a b v : ℕ) → Target r → read (three f r a b v) r ≡ v
    own_value f r a b v t = rw (t.nonzero, same_again r) refl

-- ADDR
abbrev pub address_word : (ℕ → ℕ) → Option ℕ → ℤ → ℕ
address_word e (Some loc) offset = plus_offset (e loc) offset
address_word e None offset = bits offset

abbrev pub AddressOk : (ℕ → Bool) → Option ℕ → ℤ → Type 0
AddressOk known (Some loc) offset = known loc ≡ true
AddressOk known None offset = IsShort offset

twice : (t : Bool) (x y z : ℕ) → cond t x (cond t y z) ≡ cond t x z
twice true x y z = refl
twice false x y z = refl

pub addressed : (w : World) (known : ℕ → Bool) (e : ℕ → ℕ) (r : ℕ) → Target r → (base : Option ℕ) (offset : ℤ) (b after : State)
    → AddressOk known base offset
    → ((f g : ℕ → ℕ) → b f g → Knows known e f g) → ((f g : ℕ → ℕ) → b f g → after (put f r (address_word e base offset)) g)
    → IsTest w (Known known e) b after (address_by_code r base offset) true
addressed w known e r t None offset b after ok knows leads = record {
  by = λ p f g x has on off. li_law w p f g r offset ok t.nonzero has.0 has.1.0 (on refl _ _ (leads f g x));
}
addressed w known e r t (Some loc) offset b after ok knows leads = record {
  by = λ p f g x has on off.
      based_law w known e p f g r loc offset t.nonzero (knows f g x) ok has
      (alike w (suc (suc p)) _ (put f r (plus_offset (e loc) offset)) g g
      (λ q l. ap (λ y. if q == 0 then 0 else y) (twice (q == r) (plus_offset (e loc) offset) (e loc) (f q)))
      (λ q l. refl) (on refl _ _ (leads f g x)));
}
