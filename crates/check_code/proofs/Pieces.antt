-- What the check's pieces do, by what the registers and slots read.
use Rattle.std.proofs.Common.{◌≡◌, ℕ, suc, ◌+◌, ◌*◌, ◌%◌, ◌^◌, ◌<◌, refl, sym, subst, ap, ◌∙◌, arith, ℤ, pos, Option, Some, None, Bool, true, false, cond, List, [], ◌∷◌, length}
use Rattle.std.specs.Prelude.{◌==◌, ◌&&◌, ◌||◌, not, if◌then◌else◌, int_lt}
use Rattle.std.specs.Int.{w64, cast_signed}
use Rattle.std.proofs.lemmas.Int.{ints}
use Rattle.rv64_decode.specs.Row.{alu_imm, taken, plus_offset}
use Rattle.rv64_decode.specs.declared.instr.AluOp.TheVariants.{Add, Mul}
use Rattle.rv64_decode.specs.declared.instr.ImmOp.TheVariants.{Addi, Addiw}
use Rattle.rv64_decode.specs.declared.instr.BranchOp.{BranchOp}
use Rattle.rv64_decode.specs.declared.instr.BranchOp.TheVariants.{Blt, Bge}
use Rattle.rv64_decode.specs.Hart.{address, fetched}
use Rattle.linear_forms.specs.Forms.{EntryTerm}
use Rattle.alias_checks.specs.Areas.{Bounds}
use Rattle.stub_laws.specs.Places.{aimed, behind}
use Rattle.stub_laws.specs.Straight.{read, put}
use Rattle.stub_laws.specs.Locations.{slot_of}
use Rattle.stub_laws.proofs.Steps.{World, Wins, Stands, behind_hop, alike, alu_law, imm_law, lui_law, get_law, branch_law, no_law}
use Rattle.stub_laws.proofs.Known.{seen, Knows, Temporary, knows_put, same_number, same_again}
use Rattle.check_numbers.specs.Parts.{bits, low_part, high_part}
use Rattle.check_numbers.specs.Sums.{IsShort, sum_from, value_of}
use Rattle.check_numbers.proofs.Parts.{parts}
use Rattle.check_code.specs.Macros.{load_upper, add_lower, bring_from, bring, sum_code, terms_code, span_code, address_by_code, need_code, areas_code}
use Rattle.check_code.specs.Laws.{AreLow}

-- each location is known, and each coefficient a signed number of 32 bits
abbrev pub TermsOk : (ℕ → Bool) → List EntryTerm → Type 0
TermsOk known [] = Unit {0}
TermsOk known (t ∷ ts) = (known t.loc ≡ true) × IsShort t.by × TermsOk known ts

-- the range from lo to hi, as signed numbers, lies in one of the areas
abbrev pub inside : List Bounds → ℕ → ℕ → Bool
inside [] lo hi = false
inside (a ∷ as') lo hi = not (int_lt (cast_signed w64 lo) (pos a.0)) && not (int_lt (pos a.1) (cast_signed w64 hi)) || inside as' lo hi

pub bring_law : (w : World) (known : ℕ → Bool) (e : ℕ → ℕ) (p : ℕ) (f g : ℕ → ℕ) (r loc : ℕ) → Knows known e f g → known loc ≡ true → fetched w.code (address p) ≡ Some (bring r loc) → Wins w (suc p) (put f r (e loc)) g → Wins w p f g
bring_law w known e p f g r loc k h has next = by_slot (slot_of loc) (k.each loc h) has
  where
    by_slot : (o : Option ℕ) → seen f g loc o ≡ e loc → fetched w.code (address p) ≡ Some (bring_from r loc o) → Wins w p f g
    by_slot None s has =
        let small = k.small loc in
        let v : (read f loc + 0) % 2 ^ 64 ≡ e loc = omega (arith, s, small) in
        imm_law w p f g Addi r loc (pos 0) has (subst (λ n. Wins w (suc p) (put f r n) g) (sym v) next)
    by_slot (Some slot) s has = get_law w p f g r slot has (subst (λ n. Wins w (suc p) (put f r n) g) (sym s) next)

over : (t : Bool) (x y z : ℕ) → cond t x (cond t y z) ≡ cond t x z
over true x y z = refl
over false x y z = refl

-- LI
pub li_law : (w : World) (p : ℕ) (f g : ℕ → ℕ) (r : ℕ) (v : ℤ) → IsShort v → (r == 0) ≡ false → fetched w.code (address p) ≡ Some (load_upper r v) → fetched w.code (address (suc p)) ≡ Some (add_lower r v) → Wins w (suc (suc p)) (put f r (bits v)) g → Wins w p f g
li_law w p f g r v fits nonzero a b next =
    let h = bits (high_part v) in
    let mid : read (put f r h) r ≡ h = rw (nonzero, same_again r) refl in
    let value : alu_imm Addiw (read (put f r h) r) (low_part v) ≡ bits v = ap (λ x. alu_imm Addiw x (low_part v)) mid ∙ parts v fits in
    lui_law w p f g r (high_part v) a
    (imm_law w (suc p) (put f r h) g Addiw r r (low_part v) b
    (alike w (suc (suc p)) _ (put f r (bits v)) g g
    (λ q l. ap (λ x. if q == 0 then 0 else x) (over (q == r) _ h (f q) ∙ ap (λ n. cond (q == r) n (f q)) value))
    (λ q l. refl) next))

-- a register that a macro may write: a temporary, and none of the two that it works with
pub record Target (r : ℕ) : Type 0 where
  pub nonzero : (r == 0) ≡ false
  pub not30 : (r == 30) ≡ false
  pub not31 : (r == 31) ≡ false
  pub temporary : Temporary r

abbrev pub three : (ℕ → ℕ) → ℕ → ℕ → ℕ → ℕ → ℕ → ℕ
three f r a b v = put (put (put f 30 a) 31 b) r v

x30 : Temporary 30
x30 = record { slot = 21; is = refl }

x31 : Temporary 31
x31 = record { slot = 22; is = refl }

pub knows_three : (known : ℕ → Bool) (e f g : ℕ → ℕ) (r a b v : ℕ) → Target r → Knows known e f g → Knows known e (three f r a b v) g
knows_three known e f g r a b v t k =
    knows_put known e (put (put f 30 a) 31 b) g r v t.temporary (knows_put known e (put f 30 a) g 31 b x31 (knows_put known e f g 30 a x30 k))

aimed_bring : (w : World) (p r loc : ℕ) (o : Option ℕ) → aimed w.no p (bring_from r loc o) ≡ bring_from r loc o
aimed_bring w p r loc None = refl
aimed_bring w p r loc (Some slot) = refl

shadow : (tr t31 t30 : Bool) (v m c x n b a y : ℕ) → cond tr v (cond t31 m (cond t30 c (cond t31 x (cond tr n (cond t31 b (cond t30 a y)))))) ≡ cond tr v (cond t31 m (cond t30 c y))
shadow true true true v m c x n b a y = refl
shadow true true false v m c x n b a y = refl
shadow true false true v m c x n b a y = refl
shadow true false false v m c x n b a y = refl
shadow false true true v m c x n b a y = refl
shadow false true false v m c x n b a y = refl
shadow false false true v m c x n b a y = refl
shadow false false false v m c x n b a y = refl

-- the terms of a form, and the spans of a range
pub sum_law : (w : World) (known : ℕ → Bool) (e f g : ℕ → ℕ) (r : ℕ) → Target r → Knows known e f g → (ts : List EntryTerm) (p a b n : ℕ) → TermsOk known ts → Stands w p (sum_code r ts) → ((a' b' : ℕ) → Wins w (behind p (sum_code r ts)) (three f r a' b' (sum_from e ts n)) g) → Wins w p (three f r a b n) g
sum_law w known e f g r t k [] p a b n ok has next = next a b
sum_law w known e f g r t k (u ∷ ts) p a b n ok has next =
    let x = e u.loc in
    let c = bits u.by in
    let m = x * c % 2 ^ 64 in
    let f0 = three f r a b n in
    let f1 = put f0 31 x in
    let f2 = put f1 30 c in
    let f3 = put f2 31 m in
    let v : read f3 r ≡ n = rw (t.nonzero, t.not31, t.not30, same_again r) refl in
    let first : fetched w.code (address p) ≡ Some (bring 31 u.loc) = subst (λ i. fetched w.code (address p) ≡ Some i) (aimed_bring w p 31 u.loc (slot_of u.loc)) has.0 in
    bring_law w known e p f0 g 31 u.loc (knows_three known e f g r a b n t k) ok.0 first
    (li_law w (suc p) f1 g 30 u.by ok.1 refl has.1.0 has.1.1.0
    (alu_law w (suc (suc (suc p))) f2 g Mul 31 31 30 has.1.1.1.0
    (alu_law w (suc (suc (suc (suc p)))) f3 g Add r r 31 has.1.1.1.1.0
    (alike w (suc (suc (suc (suc (suc p))))) _ (three f r c m ((n + m) % 2 ^ 64)) g g
    (λ q l. ap (λ z. if q == 0 then 0 else z) (shadow (q == r) (q == 31) (q == 30) _ m c x n b a (f q) ∙ ap (λ z. cond (q == r) ((z + m) % 2 ^ 64) (cond (q == 31) m (cond (q == 30) c (f q)))) v))
    (λ q l. refl)
    (sum_law w known e f g r t k ts (suc (suc (suc (suc (suc p))))) c m ((n + m) % 2 ^ 64) ok.2 has.1.1.1.1.1 next)))))

-- the sum with one product more
abbrev pub added : ℕ → ℤ → ℕ → ℕ
added n by x = (n + x * bits by % 2 ^ 64) % 2 ^ 64

-- SPAN
pub span_law : (w : World) (f g : ℕ → ℕ) (r : ℕ) → Target r → (by : ℤ) (slot p a b n : ℕ) → IsShort by → Stands w p (span_code r by slot) → ((a' b' : ℕ) → Wins w (behind p (span_code r by slot)) (three f r a' b' (added n by (g slot))) g) → Wins w p (three f r a b n) g
span_law w f g r t by slot p a b n short has next =
    let x = g slot in
    let c = bits by in
    let m = x * c % 2 ^ 64 in
    let f0 = three f r a b n in
    let f1 = put f0 31 x in
    let f2 = put f1 30 c in
    let f3 = put f2 31 m in
    let v : read f3 r ≡ n = rw (t.nonzero, t.not31, t.not30, same_again r) refl in
    get_law w p f0 g 31 slot has.0
    (li_law w (suc p) f1 g 30 by short refl has.1.0 has.1.1.0
    (alu_law w (suc (suc (suc p))) f2 g Mul 31 31 30 has.1.1.1.0
    (alu_law w (suc (suc (suc (suc p)))) f3 g Add r r 31 has.1.1.1.1.0
    (alike w (suc (suc (suc (suc (suc p))))) _ (three f r c m ((n + m) % 2 ^ 64)) g g
    (λ q l. ap (λ z. if q == 0 then 0 else z) (shadow (q == r) (q == 31) (q == 30) _ m c x n b a (f q) ∙ ap (λ z. cond (q == r) ((z + m) % 2 ^ 64) (cond (q == 31) m (cond (q == 30) c (f q)))) v))
    (λ q l. refl) (next c m)))))

-- a span that may be left out
pub maybe_span : (w : World) (f g : ℕ → ℕ) (r : ℕ) → Target r → (by : ℤ) (slot : ℕ) (s : Bool) (p a b n : ℕ) → IsShort by → Stands w p (cond s (span_code r by slot) []) → ((a' b' : ℕ) → Wins w (behind p (cond s (span_code r by slot) [])) (three f r a' b' (cond s (added n by (g slot)) n)) g) → Wins w p (three f r a b n) g
maybe_span w f g r t by slot true p a b n short has next = span_law w f g r t by slot p a b n short has next
maybe_span w f g r t by slot false p a b n short has next = next a b

pub kept_at : (f : ℕ → ℕ) (q k : ℕ) (t : Bool) → (q == k) ≡ t → cond (q == k) (f k) (f q) ≡ f q
kept_at f q k true h = rw h (ap f (sym (same_number q k h)))
kept_at f q k false h = rw h refl

kept : (f : ℕ → ℕ) (q : ℕ) → cond (q == 31) (f 31) (cond (q == 30) (f 30) (f q)) ≡ f q
kept f q = ap (λ z. cond (q == 31) (f 31) z) (kept_at f q 30 (q == 30) refl) ∙ kept_at f q 31 (q == 31) refl

-- FORM, and with spans LO and the main part of HI
pub form_law : (w : World) (known : ℕ → Bool) (e f g : ℕ → ℕ) (r : ℕ) (c : ℤ) (ts : List EntryTerm) (p : ℕ) → Target r → Knows known e f g → IsShort c → TermsOk known ts → Stands w p (terms_code r c ts) → ((a b : ℕ) → Wins w (behind p (terms_code r c ts)) (three f r a b (value_of e c ts)) g) → Wins w p f g
form_law w known e f g r c ts p t k fits ok has next =
    li_law w p f g r c fits t.nonzero has.0 has.1.0
    (alike w (suc (suc p)) (put f r (bits c)) (three f r (f 30) (f 31) (bits c)) g g
    (λ q l. ap (λ z. if q == 0 then 0 else cond (q == r) (bits c) z) (sym (kept f q)))
    (λ q l. refl)
    (sum_law w known e f g r t k ts (suc (suc p)) (f 30) (f 31) (bits c) ok has.1.1 next))

-- NEED
pub need_law : (w : World) (p : ℕ) (f g : ℕ → ℕ) (op : BranchOp) (a b : ℕ) → Stands w p (need_code op a b) → (taken op (read f a) (read f b) ≡ true → Wins w (suc (suc p)) f g) → (taken op (read f a) (read f b) ≡ false → Wins w w.no f g) → Wins w p f g
need_law w p f g op a b has on off =
    branch_law w p f g op a b 2 has.0 (omega arith) on (λ h. no_law w (suc p) f g has.1.0 (off h))

signed_back : (v : ℤ) → IsShort v → cast_signed w64 (bits v) ≡ v
signed_back v h = let a = h.0 in let b = h.1 in omega (arith, ints, a, b)

pub low_short : (n : ℕ) → n < 2 ^ 31 → IsShort (pos n)
low_short n h = (omega (arith, ints), omega (arith, ints))

-- LI where the register holds something already
again_law : (w : World) (p : ℕ) (f g : ℕ → ℕ) (a : ℕ) (v : ℤ) → IsShort v → fetched w.code (address p) ≡ Some (load_upper 7 v) → fetched w.code (address (suc p)) ≡ Some (add_lower 7 v) → Wins w (suc (suc p)) (put f 7 (bits v)) g → Wins w p (put f 7 a) g
again_law w p f g a v fits x y next =
    li_law w p (put f 7 a) g 7 v fits refl x y
    (alike w (suc (suc p)) _ (put f 7 (bits v)) g g (λ q l. ap (λ z. if q == 0 then 0 else z) (over (q == 7) (bits v) a (f q))) (λ q l. refl) next)

areas_from : (w : World) (f g : ℕ → ℕ) (lo hi : ℕ) → read f 5 ≡ lo → read f 6 ≡ hi → (areas : List Bounds) (p a : ℕ) → length (areas_code areas) < 2 ^ 19 → AreLow areas → Stands w p (areas_code areas) → (inside areas lo hi ≡ true → (a' : ℕ) → Wins w (behind p (areas_code areas)) (put f 7 a') g) → (inside areas lo hi ≡ false → (a' : ℕ) → Wins w w.no (put f 7 a') g) → Wins w p (put f 7 a) g
areas_from w f g lo hi is5 is6 [] p a short ok has on off = no_law w p (put f 7 a) g has.0 (off refl a)
areas_from w f g lo hi is5 is6 (u ∷ rest) p a short ok has on off =
    again_law w p f g a (pos u.0) (low_short u.0 ok.0) has.0 has.1.0
    (branch_law w (suc (suc p)) (put f 7 (bits (pos u.0))) g Blt 5 7 4 has.1.1.0 (omega arith)
    (λ below. let same : inside (u ∷ rest) lo hi ≡ inside rest lo hi = rw (same_low ∙ below) refl in
    areas_from w f g lo hi is5 is6 rest (suc (suc (suc (suc (suc (suc p)))))) (bits (pos u.0)) (omega arith) ok.2 has.1.1.1.1.1.1 (λ t. on (same ∙ t)) (λ t. off (same ∙ t)))
    (λ above. again_law w (suc (suc (suc p))) f g (bits (pos u.0)) (pos u.1) (low_short u.1 ok.1) has.1.1.1.0 has.1.1.1.1.0
    (branch_law w (suc (suc (suc (suc (suc p))))) (put f 7 (bits (pos u.1))) g Bge 7 6 (suc (length (areas_code rest))) has.1.1.1.1.1.0 (omega arith)
    (λ within. subst (λ n. Wins w n (put f 7 (bits (pos u.1))) g) (behind_hop (suc (suc (suc (suc (suc (suc p)))))) (areas_code rest)) (on (rw (same_low ∙ above, same_end ∙ within) refl) (bits (pos u.1))))
    (λ past. let same : inside (u ∷ rest) lo hi ≡ inside rest lo hi = rw (same_end ∙ past) (none (int_lt (cast_signed w64 lo) (pos u.0)) (inside rest lo hi)) in
    areas_from w f g lo hi is5 is6 rest (suc (suc (suc (suc (suc (suc p)))))) (bits (pos u.1)) (omega arith) ok.2 has.1.1.1.1.1.1 (λ t. on (same ∙ t)) (λ t. off (same ∙ t))))))
  where
    same_low : int_lt (cast_signed w64 lo) (pos u.0) ≡ taken Blt (read (put f 7 (bits (pos u.0))) 5) (read (put f 7 (bits (pos u.0))) 7)
    same_low = sym (ap (λ x. int_lt (cast_signed w64 x) (cast_signed w64 (bits (pos u.0)))) is5 ∙ ap (int_lt (cast_signed w64 lo)) (signed_back (pos u.0) (low_short u.0 ok.0)))

    same_end : not (int_lt (pos u.1) (cast_signed w64 hi)) ≡ taken Bge (read (put f 7 (bits (pos u.1))) 7) (read (put f 7 (bits (pos u.1))) 6)
    same_end = sym (ap (λ x. not (int_lt (cast_signed w64 (bits (pos u.1))) (cast_signed w64 x))) is6 ∙ ap (λ z. not (int_lt z (cast_signed w64 hi))) (signed_back (pos u.1) (low_short u.1 ok.1)))

    none : (t u : Bool) → (not t && false || u) ≡ u
    none true u = refl
    none false u = refl

-- AREAS
pub areas_law : (w : World) (f g : ℕ → ℕ) (areas : List Bounds) (p : ℕ) → length (areas_code areas) < 2 ^ 19 → AreLow areas → Stands w p (areas_code areas) → (inside areas (read f 5) (read f 6) ≡ true → (a : ℕ) → Wins w (behind p (areas_code areas)) (put f 7 a) g) → (inside areas (read f 5) (read f 6) ≡ false → (a : ℕ) → Wins w w.no (put f 7 a) g) → Wins w p f g
areas_law w f g areas p short ok has on off =
    alike w p f (put f 7 (f 7)) g g (λ q l. ap (λ z. if q == 0 then 0 else z) (sym (kept_at f q 7 (q == 7) refl))) (λ q l. refl)
    (areas_from w f g (read f 5) (read f 6) refl refl areas p (f 7) short ok has on off)

kept_three : (f : ℕ → ℕ) (r q : ℕ) → cond (q == r) (f r) (cond (q == 31) (f 31) (cond (q == 30) (f 30) (f q))) ≡ f q
kept_three f r q =
    ap (λ z. cond (q == r) (f r) (cond (q == 31) (f 31) z)) (kept_at f q 30 (q == 30) refl)
    ∙ ap (cond (q == r) (f r)) (kept_at f q 31 (q == 31) refl)
    ∙ kept_at f q r (q == r) refl

-- the registers as they are, with the three that a sum writes
pub as_three : (w : World) (p : ℕ) (f g : ℕ → ℕ) (r : ℕ) → Wins w p (three f r (f 30) (f 31) (f r)) g → Wins w p f g
as_three w p f g r h = alike w p f (three f r (f 30) (f 31) (f r)) g g (λ q l. ap (λ z. if q == 0 then 0 else z) (sym (kept_three f r q))) (λ q l. refl) h

-- the address of a cell with a base
pub based_law : (w : World) (known : ℕ → Bool) (e : ℕ → ℕ) (p : ℕ) (f g : ℕ → ℕ) (r loc : ℕ) (offset : ℤ) → (r == 0) ≡ false → Knows known e f g → known loc ≡ true → Stands w p (address_by_code r (Some loc) offset) → Wins w (suc (suc p)) (put (put f r (e loc)) r (plus_offset (e loc) offset)) g → Wins w p f g
based_law w known e p f g r loc offset nonzero k known_loc has next =
    let first : fetched w.code (address p) ≡ Some (bring r loc) = subst (λ i. fetched w.code (address p) ≡ Some i) (aimed_bring w p r loc (slot_of loc)) has.0 in
    let mid : read (put f r (e loc)) r ≡ e loc = rw (nonzero, same_again r) refl in
    bring_law w known e p f g r loc k known_loc first
    (imm_law w (suc p) (put f r (e loc)) g Addi r r offset has.1.0
    (subst (λ n. Wins w (suc (suc p)) (put (put f r (e loc)) r (plus_offset n offset)) g) (sym mid) next))

pub aimed_bring_is : (to p r loc : ℕ) (o : Option ℕ) → aimed to p (bring_from r loc o) ≡ bring_from r loc o
aimed_bring_is to p r loc None = refl
aimed_bring_is to p r loc (Some slot) = refl

pub areas_length : (areas : List Bounds) → length (areas_code areas) ≡ 6 * length areas + 1
areas_length [] = refl
areas_length (a ∷ rest) = let h = areas_length rest in omega (arith, h)
