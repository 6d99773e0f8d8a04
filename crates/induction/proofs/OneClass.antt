-- Each location has one class, and no location with one is carried.
use Rattle.std.proofs.Common.{◌≡◌, ◌≢◌, ℕ, ◌<◌, ◌≤◌, ◌⊎◌, inl, inr, ℤ, Bool, true, false, List, [], length, get_or, Option, Some, None, refl, ap, sym, ◌∙◌, arith}
use Rattle.std.specs.Prelude.{slice_index_or}
use Rattle.std.proofs.lemmas.Bool.{cases_lt}
use Rattle.std.proofs.lemmas.List.{get_or_default, same_lists}
use Rattle.linear_forms.specs.declared.location.Loc.{Loc}
use Rattle.linear_forms.specs.Locations.{number_of}
use Rattle.loop_data.specs.declared.classes.Class.{Class}
use Rattle.loop_data.specs.declared.classes.Class.TheVariants.{Induction, Private}
use Rattle.loop_data.specs.declared.classes.Classes.{Classes}
use Rattle.loop_data.specs.declared.graph.Graph.{Graph}
use Rattle.loop_data.specs.declared.shape.Level.{Level}
use Rattle.loop_data.specs.Nests.{Nest, nest_of}
use Rattle.loop_data.specs.Locations.{CellMap}
use Rattle.loop_data.specs.LoopWords.{AreNest}
use Rattle.loop_data.specs.LoopCode.{LoopCode, code_of, writes, any_writes, IsUnwritten, IsWritten}
use Rattle.loop_data.specs.Lookups.{role_by}
use Rattle.loop_data.specs.Classes.{IsInduction, IsCarried, HasRole, HasInnerRole}
use Rattle.loop_data.specs.Facts.{Fact, Offset, fact_after}
use Rattle.loop_data.specs.FactPass.{AreFacts}
use Rattle.loop_data.specs.Results.{IsNestOf, class_in, class_at, AreClasses}
use Rattle.loop_data.proofs.FactsExist.{facts_exist}
use Rattle.loop_data.proofs.FlowEdges.{listed_in}
use Rattle.loop_data.proofs.Least.{least_is_one}
use Rattle.induction.specs.OneClass.{OneClassLaw, OneInnerClassLaw, OneClassesLaw, OneCarriedLaw, NoneCarriedLaw}
use Rattle.induction.specs.Results.{IsLeastCarried}

module _ (N : Nest) (B : LoopCode) (V : ℕ → ℕ → Option Fact) (r : ℕ) where
  not_both : (l : Level) → IsUnwritten B l r → IsWritten B l r → ⊥
  not_both l none some = absurd (off (writes B some.word r) some.does (none some.word some.inside))
    where
      off : (b : Bool) → b ≡ true → b ≡ false → ⊥
      off b e f = absurd (cc)

  written : (l : Level) (step : ℤ) → IsInduction N B V l r step → IsWritten B l r
  written l step i = record { word = i.word; inside = i.inside; does = i.does }

  -- the one word that writes an induction tells its step
  one_step : (l : Level) (s t : ℤ) → IsInduction N B V l r s → IsInduction N B V l r t → s ≡ t
  one_step l s t a b =
      let e : a.word ≡ b.word = b.alone a.word a.inside a.does in
      step_of (sym a.adds ∙ ap (λ u. fact_after B u (V u) r) e ∙ b.adds)
    where
      step_of : Some (Offset r s) ≡ Some (Offset r t) → s ≡ t
      step_of e = cc

  root_class : (w : Bool) (x y : Option Class) → HasRole N B V r (role_by w x) → (x ≡ None → IsUnwritten B N.root r) → HasRole N B V r (role_by w y) → (y ≡ None → IsUnwritten B N.root r) → x ≡ y
  root_class w None None f none g zero = refl
  root_class w None (Some (Induction t)) f none g zero = absurd (not_both N.root (none refl) (written N.root t g))
  root_class w None (Some Private) f none g zero = absurd (not_both N.root (none refl) g.0)
  root_class w (Some (Induction s)) None f none g zero = absurd (not_both N.root (zero refl) (written N.root s f))
  root_class w (Some (Induction s)) (Some (Induction t)) f none g zero = ap (λ z. Some (Induction z)) (one_step N.root s t f g)
  root_class w (Some (Induction s)) (Some Private) f none g zero = absurd (g.1 s f)
  root_class w (Some Private) None f none g zero = absurd (not_both N.root (zero refl) f.0)
  root_class w (Some Private) (Some (Induction t)) f none g zero = absurd (f.1 t g)
  root_class w (Some Private) (Some Private) f none g zero = refl

  no_induction : (l : Level) (w : Bool) → HasInnerRole N B V l r (role_by w None) → (step : ℤ) → IsInduction N B V l r step → ⊥
  no_induction l true f step i = f.1 step i
  no_induction l false f step i = not_both l f (written l step i)

  inner_class : (l : Level) (w : Bool) (x y : Option Class) → HasInnerRole N B V l r (role_by w x) → x ≢ Some Private → HasInnerRole N B V l r (role_by w y) → y ≢ Some Private → x ≡ y
  inner_class l w None None f p g q = refl
  inner_class l w None (Some (Induction t)) f p g q = absurd (no_induction l w f t g)
  inner_class l w x (Some Private) f p g q = absurd (q refl)
  inner_class l w (Some Private) y f p g q = absurd (p refl)
  inner_class l w (Some (Induction s)) None f p g q = absurd (no_induction l w g s f)
  inner_class l w (Some (Induction s)) (Some (Induction t)) f p g q = ap (λ z. Some (Induction z)) (one_step l s t f g)

  -- what has a class is not carried
  not_carried : (w : Bool) (x : Option Class) → HasRole N B V r (role_by w x) → (x ≡ None → IsUnwritten B N.root r) → IsCarried N B V r → ⊥
  not_carried w None f none c = not_both N.root (none refl) c.written
  not_carried w (Some (Induction s)) f none c = c.no_induction s f
  not_carried w (Some Private) f none c = c.not_private f.2

module _ (G : Graph) (ls : List Level) (C : CellMap) (nest : AreNest G ls) where
  abbrev N : Nest
  N = nest_of G nest.root nest.inner

  abbrev B : LoopCode
  B = code_of G C

  this : IsNestOf G ls N
  this = record { root = nest.root; inner = nest.inner; are = nest.are; is = refl }

  pass : (V : ℕ → ℕ → Option Fact) × AreFacts N B N.root V
  pass = facts_exist N B nest.root nest.nest (inl refl)

  pub same_class : (c d : Classes) → AreClasses G ls C c → AreClasses G ls C d → (r : ℕ) → class_in c.root r ≡ class_in d.root r
  same_class c d f g r =
      root_class N B pass.0 r (any_writes B N.root.body r) (class_in c.root r) (class_in d.root r)
      (f.root N pass.0 r this pass.1) (f.unwritten N r this) (g.root N pass.0 r this pass.1) (g.unwritten N r this)

  pub same_inner : (c d : Classes) → AreClasses G ls C c → AreClasses G ls C d → (i r : ℕ) → class_at c.inner i r ≡ class_at d.inner i r
  same_inner c d f g i r = by (cases_lt i (length nest.inner))
    where
      by : (i < length nest.inner) ⊎ (length nest.inner ≤ i) → class_at c.inner i r ≡ class_at d.inner i r
      by (inr past) = f.beyond N i r this past ∙ sym (g.beyond N i r this past)
      by (inl within) =
          let l = slice_index_or nest.inner i nest.root in
          let at : slice_index_or nest.inner i l ≡ l = get_or_default nest.inner i l nest.root within in
          let own = facts_exist N B l nest.nest (inr (listed_in nest.inner i l within at)) in
          inner_class N B own.0 r l (any_writes B l.body r) (class_at c.inner i r) (class_at d.inner i r)
          (f.inner N own.0 l i r this own.1 within at) (f.moving i r) (g.inner N own.0 l i r this own.1 within at) (g.moving i r)

  pub same_carried : (a b : Loc) → IsLeastCarried G ls C a → IsLeastCarried G ls C b → a ≡ b
  same_carried a b f g = inside (least_is_one (IsCarried N B pass.0) (IsCarried N B pass.0) (λ r x. x) (λ r x. x) (Some a) (Some b) (f N pass.0 this pass.1) (g N pass.0 this pass.1))
    where
      inside : Some a ≡ Some b → a ≡ b
      inside e = cc

  pub none_carried : (c : Classes) (loc : Loc) → AreClasses G ls C c → IsLeastCarried G ls C loc → ⊥
  none_carried c loc f least =
      let r = number_of loc in
      not_carried N B pass.0 r (any_writes B N.root.body r) (class_in c.root r) (f.root N pass.0 r this pass.1) (f.unwritten N r this) (least N pass.0 this pass.1).1

-- rows that tell the same classes are the same
same_row : (xs ys : List (Option Class)) → length xs ≡ 48 → length ys ≡ 48 → ((r : ℕ) → class_in xs r ≡ class_in ys r) → xs ≡ ys
same_row xs ys m n f = same_lists xs ys (m ∙ sym n) (λ k d l. get_or_default xs k d None l ∙ f k ∙ get_or_default ys k None d (omega arith))

classes_from : (c d : Classes) → c.root ≡ d.root → c.inner ≡ d.inner → c ≡ d
classes_from c d a b = ap (λ xs. record { root = xs; inner = c.inner }) a ∙ ap (λ rs. record { root = d.root; inner = rs }) b

pub one_class : OneClassLaw
one_class G ls C c d nest f g r = same_class G ls C nest c d f g r

pub one_inner_class : OneInnerClassLaw
one_inner_class G ls C c d nest f g i r = same_inner G ls C nest c d f g i r

pub one_classes : OneClassesLaw
one_classes G ls C c d nest f g m n = classes_from c d (same_row c.root d.root m.root n.root (one_class G ls C c d nest f g)) (same_lists c.inner d.inner (m.inner ∙ sym n.inner) row)
  where
    row : (k : ℕ) (e : List (Option Class)) → k < length c.inner → get_or c.inner k e ≡ get_or d.inner k e
    row k e l =
        let three = m.inner in
        let also = n.inner in
        let below : k < 3 = omega arith in
        get_or_default c.inner k e [] l
        ∙ same_row (slice_index_or c.inner k []) (slice_index_or d.inner k []) (m.each k below) (n.each k below) (one_inner_class G ls C c d nest f g k)
        ∙ get_or_default d.inner k [] e (omega arith)

pub one_carried : OneCarriedLaw
one_carried G ls C a b nest f g = same_carried G ls C nest a b f g

pub no_carried : NoneCarriedLaw
no_carried G ls C c loc nest f least = none_carried G ls C nest c loc f least
