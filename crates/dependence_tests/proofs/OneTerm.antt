-- Two accesses have one term.
use Rattle.std.proofs.Common.{◌≡◌, ℕ, List, ℤ, Option, Some, None, refl, ap, sym, ◌∙◌}
use Rattle.loop_data.specs.declared.accesses.Access.{Access}
use Rattle.loop_data.specs.declared.plans.Term.TheVariants.{Same, Apart}
use Rattle.dependence_tests.specs.OneTerm.{OneTermLaw}
use Rattle.dependence_tests.specs.Terms.{IsKnown, AreShared}
use Rattle.dependence_tests.proofs.Separating.{one_gcd}

one_known : (a b : Access) (c d : Option ℤ) → IsKnown a b c → IsKnown a b d → c ≡ d
one_known a b None None f g = refl
one_known a b None (Some d) f g = absurd (f g.0)
one_known a b (Some c) None f g = absurd (g f.0)
one_known a b (Some c) (Some d) f g = ap (λ z. Some z) (f.1 ∙ sym g.1)

-- a term by its parts, one after the other
one_shared : (a b : Access) (r s : ℕ) (rs ss : List ℕ) (g h i j v w : ℕ) (c d : Option ℤ) → AreShared a b r rs g i v c → AreShared a b s ss h j w d → Same r rs g i v c ≡ Same s ss h j w d
one_shared a b r s rs ss g h i j v w c d m n =
    ap (λ x. Same x rs g i v c) (m.root ∙ sym n.root)
    ∙ ap (λ xs. Same s xs g i v c) (m.inner ∙ sym n.inner)
    ∙ ap (λ x. Same s ss x i v c) (one_gcd _ g h m.lanes n.lanes)
    ∙ ap (λ x. Same s ss h x v c) (one_gcd _ i j m.residue n.residue)
    ∙ ap (λ x. Same s ss h j x c) (m.width ∙ sym n.width)
    ∙ ap (λ o. Same s ss h j w o) (one_known a b c d m.known n.known)

pub one_term : OneTermLaw
one_term a b (Same r rs g i v c) (Same s ss h j w d) m n = one_shared a b r s rs ss g h i j v w c d m n
one_term a b (Same r rs g i v c) Apart m n = absurd (n m.shape)
one_term a b Apart (Same s ss h j w d) m n = absurd (m n.shape)
one_term a b Apart Apart m n = refl
