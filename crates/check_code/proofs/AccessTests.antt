-- The test of an access, by its words and over integers.
use Rattle.std.proofs.Common.{◌≡◌, ℕ, ◌-◌, ◌/◌, ◌%◌, ◌^◌, ◌<◌, ◌≤◌, refl, sym, subst, ap, ◌∙◌, arith, ℤ, pos, ◌+ℤ◌, Bool, true, false, List, [], ◌∷◌, ◌++◌, length}
use Rattle.std.specs.Prelude.{◌==◌, ◌&&◌, nat_lt, bit_and}
use Rattle.std.specs.List.{All}
use Rattle.std.proofs.lemmas.Nat.{and_mask}
use Rattle.std.proofs.lemmas.Int.{ints}
use Rattle.std.proofs.lemmas.Bool.Decides.{nat_tests}
use Rattle.rv64_decode.specs.Row.{alu_imm, taken, signed64}
use Rattle.rv64_decode.specs.Area.{bytes_of}
use Rattle.rv64_decode.specs.declared.memory.Width.{Width}
use Rattle.rv64_decode.specs.declared.memory.Width.TheVariants.{One, Two, Four, Eight}
use Rattle.rv64_decode.specs.declared.instr.ImmOp.TheVariants.{Srli, Andi}
use Rattle.rv64_decode.specs.declared.instr.BranchOp.TheVariants.{Beq}
use Rattle.rv64_decode.specs.declared.instr.Instr.TheVariants.{AluImm}
use Rattle.rv64_decode.specs.declared.xinstr.XInstr.{XInstr}
use Rattle.rv64_decode.specs.declared.xinstr.XInstr.TheVariants.{Base}
use Rattle.linear_forms.specs.Forms.{LinearForm, IsForm, word_of}
use Rattle.linear_forms.specs.Extremes.{highest_shift}
use Rattle.loop_data.specs.declared.accesses.Access.{Access}
use Rattle.dependence_tests.specs.Overlaps.{whole_range}
use Rattle.alias_checks.specs.declared.areas.Permission.{Permission}
use Rattle.alias_checks.specs.Areas.{Bounds, in_bounds}
use Rattle.alias_checks.specs.Entry.{start_value}
use Rattle.alias_checks.specs.AccessTests.{last_at, place_of, access_permission, access_fits}
use Rattle.stub_laws.specs.Straight.{read, put}
use Rattle.stub_laws.proofs.Steps.{World}
use Rattle.stub_laws.proofs.Known.{Knows, knows_put}
use Rattle.stub_laws.proofs.Tests.{State, IsTest, both, same_test, Known, With}
use Rattle.check_numbers.specs.Sums.{value_of}
use Rattle.check_code.specs.Macros.{form_code, need_code, permitted, areas_code}
use Rattle.check_code.specs.Laws.{AreLow}
use Rattle.check_code.specs.Rounds.{own_slots, own_form, last_from, AreRoundsKnown}
use Rattle.check_code.specs.AccessCode.{access_low, access_end, below_code, aligned_code, access_code}
use Rattle.check_code.proofs.Pieces.{Target, inside, three, knows_three, areas_law, areas_length}
use Rattle.check_code.proofs.Values.{constant_short, start_is}
use Rattle.check_code.proofs.Runs.{fewer, bounds_is, low_bounds}
use Rattle.check_code.proofs.States.{temps_test, knows_temps, weaker_after, formed, needed, lowered, raised, t5, t6}
use Rattle.check_code.proofs.Extents.{words, first_value, own_is_form, terms_known, least_word, end_word, own_low, own_raised, end_is, least_signed, end_signed, start_is_word}

-- a number below a power of 2 has no bit from there on
pub below_is : (v : ℕ) → (alu_imm Srli v (pos 31) == 0) ≡ nat_lt v (2 ^ 31)
below_is v = below (v / 2 ^ 31) refl
  where
    below : (q : ℕ) → v / 2 ^ 31 ≡ q → (v / 2 ^ 31 == 0) ≡ nat_lt v (2 ^ 31)
    below q e = grind (arith, nat_tests)

-- the low bits of a number are its remainder
pub aligned_is : (v : ℕ) (width : Width) → (alu_imm Andi v (pos (bytes_of width - 1)) == 0) ≡ (v % bytes_of width == 0)
aligned_is v One = ap (λ n. n == 0) (and_mask v 0)
aligned_is v Two = ap (λ n. n == 0) (and_mask v 1)
aligned_is v Four = ap (λ n. n == 0) (and_mask v 2)
aligned_is v Eight = ap (λ n. n == 0) (and_mask v 3)

-- the second test may be another where the first holds
pub under : (t u v : Bool) → (t ≡ true → u ≡ v) → (t && u) ≡ (t && v)
under true u v h = h refl
under false u v h = refl

pub below_of : (v : ℕ) → nat_lt v (2 ^ 31) ≡ true → v < 2 ^ 31
below_of v h = grind (arith, nat_tests)

-- LO and HI of an access, from any state
module _ (w : World) (known : ℕ → Bool) (e : ℕ → ℕ) where
  pub access_lowered : (r : ℕ) → Target r → (a : Access) (b : State) → IsForm a.form → AreRoundsKnown known a.form a.around
      → ((f g : ℕ → ℕ) → b f g → Knows known e f g)
      → (after : State) → ((f g : ℕ → ℕ) (a' b' : ℕ) → b f g → after (three f r a' b' (least_word e a.form a.around)) g)
      → IsTest w (Known known e) b after (access_low r a) true
  access_lowered r t a b fine has knows after leads =
      lowered w known e r t (own_form a.form a.around) (own_slots a.around) (least_word e a.form a.around) b after
      (own_is_form a.form a.around fine) (terms_known known a.form fine has.terms) knows
      (λ f g x. own_low known e f g a.form a.around fine (knows f g x) has) leads

  pub access_raised : (r : ℕ) → Target r → (a : Access) (b : State) → IsForm a.form → AreRoundsKnown known a.form a.around
      → ((f g : ℕ → ℕ) → b f g → Knows known e f g)
      → (after : State)
      → ((f g : ℕ → ℕ) (a' b' n : ℕ) → b f g → after (put (three f r a' b' n) r (end_word e a.form a.around (bytes_of a.width))) g)
      → IsTest w (Known known e) b after (access_end r a) true
  access_raised r t a b fine has knows after leads =
      let v = word_of (first_value e a.form +ℤ highest_shift a.form (last_at a.around (last_from e))) in
      raised w known e r t (own_form a.form a.around) (own_slots a.around) (bytes_of a.width) v b after (own_is_form a.form a.around fine)
      (terms_known known a.form fine has.terms) knows
      (λ f g x. own_raised known e f g a.form a.around fine (knows f g x) has)
      (λ f g a' b' x. subst (λ n. after (put (three f r a' b' v) r n) g) (sym (end_is (first_value e a.form +ℤ highest_shift a.form (last_at a.around (last_from e))) (bytes_of a.width))) (leads f g a' b' v x))

  -- AREAS
  areas_test : (areas : List Bounds) (lo hi : ℕ) → length (areas_code areas) < 2 ^ 19 → AreLow areas
      → IsTest w (Known known e) (With 6 hi (With 5 lo (Known known e))) (Known known e) (areas_code areas) (inside areas lo hi)
  areas_test areas lo hi short low = record {
    by = λ p f g x has on off.
        let same : inside areas (read f 5) (read f 6) ≡ inside areas lo hi = ap (λ n. inside areas n (read f 6)) x.1.0 ∙ ap
        (inside areas lo) x.0 in
        areas_law w f g areas p short low has
        (λ y a. on (sym same ∙ y) (put f 7 a) g (knows_put known e f g 7 a (record { slot = 18; is = refl }) x.1.1))
        (λ y a. off (sym same ∙ y) (put f 7 a) g (knows_put known e f g 7 a (record { slot = 18; is = refl }) x.1.1));
  }

  -- the test in words
  access_words : (areas : List Bounds) (a : Access) → IsForm a.form → AreRoundsKnown known a.form a.around
      → length (areas_code (permitted (access_permission a) areas)) < 2 ^ 19 → AreLow (permitted (access_permission a) areas)
      → (let v = value_of e a.form.constant a.form.terms in
      IsTest w (Known known e) (Known known e) (Known known e) (access_code areas a)
      ((alu_imm Srli v (pos 31) == 0) && ((alu_imm Andi v (pos (bytes_of a.width - 1)) == 0) && inside (permitted (access_permission a) areas) (least_word e a.form a.around) (end_word e a.form a.around (bytes_of a.width)))))
  access_words areas a fine has short low =
      let z = Known known e in
      let v = value_of e a.form.constant a.form.terms in
      let n = pos (bytes_of a.width - 1) in
      let lo = least_word e a.form a.around in
      let hi = end_word e a.form a.around (bytes_of a.width) in
      let some_areas = permitted (access_permission a) areas in
      let t1 = alu_imm Srli v (pos 31) == 0 in
      let t2 = alu_imm Andi v n == 0 in
      let t3 = inside some_areas lo hi in
      let one = Base (AluImm Srli 6 5 (pos 31)) ∷ [] in
      let two = Base (AluImm Andi 6 5 n) ∷ [] in
      let need = need_code Beq 6 0 in
      let s1 = With 5 v z in
      let s2 = With 6 (alu_imm Srli v (pos 31)) s1 in
      let s3 = With 6 (alu_imm Andi v n) s1 in
      let s4 = With 5 lo z in
      let s5 = With 6 hi s4 in
      let c6 = areas_code some_areas in
      let c5 = access_end 6 a ++ c6 in
      let c4 = access_low 5 a ++ c5 in
      let c3 = need ++ c4 in
      let c2 = two ++ c3 in
      let c1 = need ++ c2 in
      let c0 = one ++ c1 in
      both w z z s1 z (form_code 5 a.form) c0 true (t1 && (t2 && t3))
      (formed w known e 5 t5 a.form.constant a.form.terms z s1 (constant_short a.form.constant fine.bounded.constant) (terms_known known a.form fine has.terms) (λ f g x. x) (λ f g p q x. (refl, knows_three known e f g 5 p q _ t5 x)))
      (λ h. both w z s1 s2 z one c1 true (t1 && (t2 && t3))
      (temps_test w z s1 s2 one refl (λ f g x. (ap (λ y. alu_imm Srli y (pos 31)) x.0, (x.0, knows_temps known e one f g refl x.1))))
      (λ h. both w z s2 s2 z need c2 t1 (t2 && t3)
      (needed w z s2 Beq 6 0 t1 (λ f g x. ap (λ y. y == 0) x.0) (λ f g x. x.1.1))
      (λ h. both w z s2 s3 z two c3 true (t2 && t3)
      (temps_test w z s2 s3 two refl (λ f g x. (ap (λ y. alu_imm Andi y n) x.1.0, (x.1.0, knows_temps known e two f g refl x.1.1))))
      (λ h. both w z s3 s3 z need c4 t2 t3
      (needed w z s3 Beq 6 0 t2 (λ f g x. ap (λ y. y == 0) x.0) (λ f g x. x.1.1))
      (λ h. both w z s3 s4 z (access_low 5 a) c5 true t3
      (access_lowered 5 t5 a s3 fine has (λ f g x. x.1.1) s4 (λ f g p q x. (refl, knows_three known e f g 5 p q _ t5 x.1.1)))
      (λ h. both w z s4 s5 z (access_end 6 a) c6 true t3
      (access_raised 6 t6 a s4 fine has (λ f g x. x.1) s5 (λ f g p q m x. (refl, (x.0, knows_put known e (three f 6 p q m) g 6 _ t6.temporary (knows_three known e f g 6 p q m t6 x.1)))))
      (λ h. areas_test some_areas lo hi short low)))))))

-- what the test is over integers
access_is : (areas : List Bounds) (e : ℕ → ℕ) (a : Access) → IsForm a.form → All (λ n. n < 2 ^ 31) (last_from e)
    → (let v = value_of e a.form.constant a.form.terms in
    ((alu_imm Srli v (pos 31) == 0) && ((alu_imm Andi v (pos (bytes_of a.width - 1)) == 0) && inside (permitted (access_permission a) areas) (least_word e a.form a.around) (end_word e a.form a.around (bytes_of a.width))))
    ≡ access_fits (in_bounds areas) (words e) (last_from e) a)
unfolding access_fits place_of
access_is areas e a fine low =
    let v = value_of e a.form.constant a.form.terms in
    let u = start_value a.form (words e) in
    let same : v ≡ u = start_is e a.form fine ∙ sym (start_is_word e a.form) in
    let k = access_permission a in
    let lo = least_word e a.form a.around in
    let hi = end_word e a.form a.around (bytes_of a.width) in
    let r = whole_range a (pos u) (last_from e) in
    ap (λ t. t && ((alu_imm Andi v (pos (bytes_of a.width - 1)) == 0) && inside (permitted k areas) lo hi)) (below_is v)
    ∙ ap (λ t. nat_lt v (2 ^ 31) && (t && inside (permitted k areas) lo hi)) (aligned_is v a.width)
    ∙ ap (λ n. nat_lt n (2 ^ 31) && ((n % bytes_of a.width == 0) && inside (permitted k areas) lo hi)) same
    ∙ under (nat_lt u (2 ^ 31)) _ _ (λ h. ap (λ t. (u % bytes_of a.width == 0) && t)
    (bounds_is k areas lo hi ∙ ap (λ x. in_bounds areas k (x, signed64 hi)) (least_signed e a fine low (below_of u h)) ∙ ap (λ x. in_bounds areas k (r.0, x)) (end_signed e a fine low (below_of u h))))

few_words : (permission : Permission) (areas : List Bounds) → length areas < 2 ^ 16
    → length (areas_code (permitted permission areas)) < 2 ^ 19
few_words permission areas few = omega (arith, areas_length (permitted permission areas), fewer permission areas, few)

-- the words of an access go on where it fits, and to the open target where it does not
pub access_law : (w : World) (known : ℕ → Bool) (e : ℕ → ℕ) (areas : List Bounds) (a : Access) → IsForm a.form
    → AreRoundsKnown known a.form a.around → length areas < 2 ^ 16 → AreLow areas → All (λ n. n < 2 ^ 31) (last_from e)
    → IsTest w (Known known e) (Known known e) (Known known e) (access_code areas a) (access_fits (in_bounds areas) (words e) (last_from e) a)
access_law w known e areas a fine has few low lasts =
    same_test w (Known known e) (Known known e) (Known known e) (access_code areas a) _ _ (access_is areas e a fine lasts)
    (access_words w known e areas a fine has (few_words (access_permission a) areas few) (low_bounds (access_permission a) areas low))
