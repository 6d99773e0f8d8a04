-- The accesses of a loop have one list of pairs.
use Rattle.std.proofs.Common.{◌≡◌, ℕ, suc, ◌<◌, List, [], ◌∷◌, length, refl, ap, sym, ◌∙◌, subst, arith}
use Rattle.std.specs.Prelude.{slice_index_or}
use Rattle.std.specs.List.{All}
use Rattle.loop_data.specs.declared.accesses.Access.{Access}
use Rattle.dependence_tests.specs.OneTerm.{OneTermLaw}
use Rattle.dependence_tests.specs.Terms.{IsTermOf}
use Rattle.alias_checks.specs.Listing.{Two, Pair, places_in, IsPair}
use Rattle.alias_checks.specs.OneList.{OnePairsLaw}

some_access : (accesses : List Access) (i : ℕ) → i < length accesses → Access
some_access [] i l = absurd (omega arith)
some_access (a ∷ rest) i l = a

first_is : (x y : Two) (xs ys : List Two) → x ∷ xs ≡ y ∷ ys → x ≡ y
first_is x y xs ys e = cc

module _ (one_term : OneTermLaw) (accesses : List Access) where
  same_pair : (s t : Pair) → IsPair accesses s → IsPair accesses t → s.0 ≡ t.0 → s.1 ≡ t.1 → s ≡ t
  same_pair s t f g a b =
      let d = some_access accesses t.0 g.first in
      let own : IsTermOf (slice_index_or accesses t.0 d) (slice_index_or accesses t.1 d) s.2 =
      subst (λ i. IsTermOf (slice_index_or accesses i d) (slice_index_or accesses t.1 d) s.2) a
      (subst (λ j. IsTermOf (slice_index_or accesses s.0 d) (slice_index_or accesses j d) s.2) b (f.term d)) in
      let term : s.2 ≡ t.2 = one_term (slice_index_or accesses t.0 d) (slice_index_or accesses t.1 d) s.2 t.2 own (g.term d) in
      ap (λ i. (i, s.1, s.2)) a ∙ ap (λ j. (t.0, j, s.2)) b ∙ ap (λ x. (t.0, t.1, x)) term

  same_pairs : (ss ts : List Pair) → places_in ss ≡ places_in ts → All (IsPair accesses) ss → All (IsPair accesses) ts → ss ≡ ts
  same_pairs [] [] e f g = refl
  same_pairs [] (t ∷ ts) e f g = absurd (cc)
  same_pairs (s ∷ ss) [] e f g = absurd (cc)
  same_pairs (s ∷ ss) (t ∷ ts) e f g =
      let two = first_is (s.0, s.1) (t.0, t.1) (places_in ss) (places_in ts) e in
      let a : s.0 ≡ t.0 = ap (λ (p : Two). p.0) two in
      let b : s.1 ≡ t.1 = ap (λ (p : Two). p.1) two in
      let rest : places_in ss ≡ places_in ts = cc in
      ap (λ x. x ∷ ss) (same_pair s t (f 0 s (omega arith)) (g 0 t (omega arith)) a b)
      ∙ ap (λ xs. t ∷ xs) (same_pairs ss ts rest (λ k d l. f (suc k) d (omega arith)) (λ k d l. g (suc k) d (omega arith)))

pub one_list : OneTermLaw → OnePairsLaw
one_list term accesses pairs others f g = same_pairs term accesses pairs others (f.places ∙ sym g.places) f.each g.each
