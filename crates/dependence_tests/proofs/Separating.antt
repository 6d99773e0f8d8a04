-- A term and a box tell whether two accesses pass the test.
use Rattle.std.proofs.Common.{◌≡◌, ◌↔◌, ℕ, ◌+◌, ◌-◌, ◌<◌, ◌≤◌, ◌⊎◌, inl, inr, Bool, true, false, not, ◌||◌, ◌&&◌, nat_le, nat_lt, List, ◌∷◌, Option, Some, None, refl, ap, sym, ◌∙◌, subst, arith, int_lt, ℤ}
use Rattle.std.proofs.lemmas.Int.{ints}
use Rattle.std.proofs.lemmas.Bool.Decides.{nat_tests}
use Rattle.std.proofs.lemmas.Nat.Gcd.{dvd_antisymm}
use Rattle.std.specs.Int.RustNames.{unsigned_abs}
use Rattle.loop_data.specs.declared.accesses.Access.{Access}
use Rattle.loop_data.specs.declared.plans.Term.{Term}
use Rattle.loop_data.specs.declared.plans.Term.TheVariants.{Same, Apart}
use Rattle.dependence_tests.specs.declared.pairs.PairBox.{PairBox}
use Rattle.dependence_tests.specs.Terms.{IsGcdOf, AreShared, IsTermOf}
use Rattle.dependence_tests.specs.PairTests.{span, are_blocks, are_lanes, remainder, are_residues, are_apart, are_disjoint, pair_test, least_box, hopeless}
use Rattle.dependence_tests.specs.Overlaps.{whole_range, IsBoxOf}
use Rattle.dependence_tests.specs.Separation.{root_size, inner_sizes, greater_width, reach, AreApart, AreDisjoint, PassTest, AreHopeless}

pub one_gcd : (ns : List ℕ) (g h : ℕ) → IsGcdOf ns g → IsGcdOf ns h → g ≡ h
one_gcd ns g h p q = dvd_antisymm (q.greatest g p.divides) (p.greatest h q.divides)

any : (a b c d : Bool) → (a ≡ true) ⊎ ((b ≡ true) ⊎ ((c ≡ true) ⊎ (d ≡ true))) → ((a || b) || (c || d)) ≡ true
any true b c d h = refl
any false true c d h = refl
any false false true d h = refl
any false false false true h = refl
any false false false false (inl e) = e
any false false false false (inr (inl e)) = e
any false false false false (inr (inr (inl e))) = e
any false false false false (inr (inr (inr e))) = e

which : (a b c d : Bool) → ((a || b) || (c || d)) ≡ true → (a ≡ true) ⊎ ((b ≡ true) ⊎ ((c ≡ true) ⊎ (d ≡ true)))
which true b c d h = inl refl
which false true c d h = inr (inl refl)
which false false true d h = inr (inr (inl refl))
which false false false true h = inr (inr (inr refl))
which false false false false h = absurd (cc)

-- the four tests of two accesses with these divisors
abbrev pub told : Access → Access → ℤ → List ℕ → ℕ → ℕ → Bool
told a b c last g h =
    (are_blocks (root_size a) (unsigned_abs c) (span (inner_sizes a) last) (greater_width a b)
    || are_lanes (root_size a) (reach a last) (unsigned_abs c) (greater_width a b) g)
    || (are_residues c (greater_width a b) h || are_apart (reach a last) (unsigned_abs c) (span (inner_sizes a) last) (greater_width a b))

told_forth : (a b : Access) (c : ℤ) (last : List ℕ) (g h : ℕ) → IsGcdOf (inner_sizes a) g → IsGcdOf (root_size a ∷ inner_sizes a) h → told a b c last g h ≡ true → AreApart a b c last
told_forth a b c last g h p q e = by (which _ _ _ _ e)
  where
    m : ℕ
    m = root_size a

    s : ℕ
    s = span (inner_sizes a) last

    w : ℕ
    w = greater_width a b

    by : (are_blocks m (unsigned_abs c) s w ≡ true) ⊎ ((are_lanes m (reach a last) (unsigned_abs c) w g ≡ true) ⊎ ((are_residues c w h ≡ true) ⊎ (are_apart (reach a last) (unsigned_abs c) s w ≡ true)))
        → AreApart a b c last
    by (inl f) = inl (record { stride = blocks m (unsigned_abs c) s w f })
      where
        blocks : (m d s w : ℕ) → are_blocks m d s w ≡ true → d + s + w ≤ m
        blocks m d s w f = grind (arith, nat_tests)
    by (inr (inl f)) =
        let l = lanes m (reach a last) (unsigned_abs c) w g f in
        inr (inl (record { step = g; divisor = p; moves = l.0; stride = l.1; within = l.2 }))
      where
        lanes : (m r d w g : ℕ) → are_lanes m r d w g ≡ true → (0 < g) × (d + w ≤ m) × (r + d + w ≤ g)
        lanes m r d w g f = (grind (arith, nat_tests), grind (arith, nat_tests), grind (arith, nat_tests))
    by (inr (inr (inl f))) =
        let l = residues (remainder c h) w h f in
        inr (inr (inl (record { step = h; divisor = q; moves = l.0; above = l.1; below = l.2 })))
      where
        residues : (r w h : ℕ) → (nat_lt 0 h && (nat_le w r && nat_le w (h - r))) ≡ true → (0 < h) × (w ≤ r) × (w ≤ h - r)
        residues r w h f = (grind (arith, nat_tests), grind (arith, nat_tests), grind (arith, nat_tests))
    by (inr (inr (inr f))) = inr (inr (inr (record { distance = far (reach a last) (unsigned_abs c) s w f })))
      where
        far : (r d s w : ℕ) → are_apart r d s w ≡ true → r + s + w ≤ d
        far r d s w f = grind (arith, nat_tests)

told_back : (a b : Access) (c : ℤ) (last : List ℕ) (g h : ℕ) → IsGcdOf (inner_sizes a) g → IsGcdOf (root_size a ∷ inner_sizes a) h → AreApart a b c last → told a b c last g h ≡ true
told_back a b c last g h p q x = any _ _ _ _ (by x)
  where
    m : ℕ
    m = root_size a

    s : ℕ
    s = span (inner_sizes a) last

    w : ℕ
    w = greater_width a b

    by : AreApart a b c last
        → (are_blocks m (unsigned_abs c) s w ≡ true) ⊎ ((are_lanes m (reach a last) (unsigned_abs c) w g ≡ true) ⊎ ((are_residues c w h ≡ true) ⊎ (are_apart (reach a last) (unsigned_abs c) s w ≡ true)))
    by (inl f) = inl (blocks m (unsigned_abs c) s w f.stride)
      where
        blocks : (m d s w : ℕ) → d + s + w ≤ m → are_blocks m d s w ≡ true
        blocks m d s w f = grind (arith, nat_tests)
    by (inr (inl f)) =
        let e = one_gcd (inner_sizes a) f.step g f.divisor p in
        inr (inl (subst (λ z. are_lanes m (reach a last) (unsigned_abs c) w z ≡ true) e (lanes m (reach a last) (unsigned_abs c) w f.step f.moves f.stride f.within)))
      where
        lanes : (m r d w g : ℕ) → 0 < g → d + w ≤ m → r + d + w ≤ g → are_lanes m r d w g ≡ true
        lanes m r d w g x y z = grind (arith, nat_tests)
    by (inr (inr (inl f))) =
        let e = one_gcd (root_size a ∷ inner_sizes a) f.step h f.divisor q in
        inr (inr (inl (subst (λ z. are_residues c w z ≡ true) e (residues (remainder c f.step) w f.step f.moves f.above f.below))))
      where
        residues : (r w h : ℕ) → 0 < h → w ≤ r → w ≤ h - r → (nat_lt 0 h && (nat_le w r && nat_le w (h - r))) ≡ true
        residues r w h x y z = grind (arith, nat_tests)
    by (inr (inr (inr f))) = inr (inr (inr (far (reach a last) (unsigned_abs c) s w f.distance)))
      where
        far : (r d s w : ℕ) → r + s + w ≤ d → are_apart r d s w ≡ true
        far r d s w f = grind (arith, nat_tests)

-- the test of a term is that of the accesses which it is of
same_told : (a b : Access) (r : ℕ) (ss : List ℕ) (g h w : ℕ) (k : Option ℤ) (at : PairBox) → AreShared a b r ss g h w k → pair_test (Same r ss g h w k) at ≡ told a b at.difference at.last g h
same_told a b r ss g h w k at s =
    ap (λ z. pair_test (Same z ss g h w k) at) s.root ∙ ap (λ z. pair_test (Same (root_size a) z g h w k) at) s.inner
    ∙ ap (λ z. pair_test (Same (root_size a) (inner_sizes a) g h z k) at) s.width

disjoint_forth : (p q : ℤ × ℤ) → are_disjoint p q ≡ true → AreDisjoint p q
disjoint_forth p q e = go (int_lt q.0 p.1) (int_lt p.0 q.1) refl refl e
  where
    go : (b c : Bool) → int_lt q.0 p.1 ≡ b → int_lt p.0 q.1 ≡ c → (not b || not c) ≡ true → AreDisjoint p q
    go true true f g h = absurd (cc)
    go true false f g h = inr (grind (arith, ints))
    go false c f g h = inl (grind (arith, ints))

disjoint_back : (p q : ℤ × ℤ) → AreDisjoint p q → are_disjoint p q ≡ true
disjoint_back p q d = go (int_lt q.0 p.1) (int_lt p.0 q.1) refl refl d
  where
    go : (b c : Bool) → int_lt q.0 p.1 ≡ b → int_lt p.0 q.1 ≡ c → AreDisjoint p q → (not b || not c) ≡ true
    go true true f g (inl h) = let n : int_lt q.0 p.1 ≡ false = grind (arith, ints) in absurd (cc)
    go true true f g (inr h) = let n : int_lt p.0 q.1 ≡ false = grind (arith, ints) in absurd (cc)
    go true false f g h = refl
    go false c f g h = refl

ranges_are : (a b : Access) (at : PairBox) (x y : ℤ) → IsBoxOf a b x y at → are_disjoint at.first at.second ≡ are_disjoint (whole_range a x at.last) (whole_range b y at.last)
ranges_are a b at x y box =
    ap (λ z. are_disjoint z at.second) box.first ∙ ap (λ z. are_disjoint (whole_range a x at.last) z) box.second

pub test_is : (a b : Access) (term : Term) (at : PairBox) (x y : ℤ) → IsTermOf a b term → IsBoxOf a b x y at → (pair_test term at ≡ true) ↔ PassTest a b x y at.last
test_is a b (Same r ss g h w k) at x y s box =
    ((λ e. inl (s.shape, subst (λ z. AreApart a b z at.last) box.difference (told_forth a b at.difference at.last g h s.lanes s.residue (sym (same_told a b r ss g h w k at s) ∙ e)))), back)
  where
    back : PassTest a b x y at.last → pair_test (Same r ss g h w k) at ≡ true
    back (inl p) =
        same_told a b r ss g h w k at s ∙ told_back a b at.difference at.last g h s.lanes s.residue (subst (λ z. AreApart a b z at.last) (sym box.difference) p.1)
    back (inr p) = absurd (p.0 s.shape)
test_is a b Apart at x y s box =
    ((λ e. inr (s, disjoint_forth _ _ (sym (ranges_are a b at x y box) ∙ e))), back)
  where
    back : PassTest a b x y at.last → pair_test Apart at ≡ true
    back (inl p) = absurd (s p.0)
    back (inr p) = ranges_are a b at x y box ∙ disjoint_back _ _ p.1

not_forth : (b : Bool) → not b ≡ true → b ≡ true → ⊥
not_forth true e f = absurd (cc)
not_forth false e f = absurd (cc)

not_back : (b : Bool) → (b ≡ true → ⊥) → not b ≡ true
not_back true f = absurd (f refl)
not_back false f = refl

pub hopeless_is : (a b : Access) (term : Term) → IsTermOf a b term → (hopeless term ≡ true) ↔ AreHopeless a b
hopeless_is a b (Same r ss g h w (Some c)) s = (
  (λ e. record {
    shape = s.shape;
    terms = s.known.0;
    fails = λ x. not_forth _ e (same ∙ told_back a b c (least_box c).last g h s.lanes s.residue (subst (λ z. AreApart a b z (least_box c).last) (sym s.known.1) x));
  }),
  (λ n. not_back _ (λ e. n.fails (subst (λ z. AreApart a b z (least_box c).last) s.known.1 (told_forth a b c (least_box c).last g h s.lanes s.residue (sym same ∙ e))))),
)
  where
    same : pair_test (Same r ss g h w (Some c)) (least_box c) ≡ told a b c (least_box c).last g h
    same = same_told a b r ss g h w (Some c) (least_box c) s
hopeless_is a b (Same r ss g h w None) s = ((λ e. absurd (cc)), (λ n. absurd (s.known n.terms)))
hopeless_is a b Apart s = ((λ e. absurd (cc)), (λ n. absurd (s n.shape)))
