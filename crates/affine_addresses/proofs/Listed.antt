-- The levels of a listed loop, as the list of its accesses needs them.
use Rattle.std.proofs.Common.{◌≡◌, ℕ, ◌<◌, List, length, get_or, Result, Ok, Err, refl, ap, sym, ◌∙◌, subst, arith}
use Rattle.std.specs.Result.{IfOk, IfErr}
use Rattle.std.specs.List.{Contains}
use Rattle.std.proofs.lemmas.List.Elements.{Contains-get_or}
use Rattle.loop_data.specs.declared.graph.Graph.{Graph}
use Rattle.loop_data.specs.declared.shape.Level.{Level}
use Rattle.loop_data.specs.Nests.{Nest, In, Holds, nest_of}
use Rattle.loop_data.specs.LoopWords.{AreNest}
use Rattle.loop_data.specs.Results.{IsNestOf}
use Rattle.loop_data.proofs.FlowEdges.{listed_in}
use Rattle.loop_data.proofs.Steps.{contains_has}

pub if_ok : {A E : Type 0} (r : Result A E) (P Q : A → Type 0) → ((a : A) → P a → Q a) → IfOk r P → IfOk r Q
if_ok (Ok a) P Q f p = f a p
if_ok (Err e) P Q f p = p

pub if_err : {A E : Type 0} (r : Result A E) (P Q : E → Type 0) → ((e : E) → P e → Q e) → IfErr r P → IfErr r Q
if_err (Ok a) P Q f p = p
if_err (Err e) P Q f p = f e p

-- what is so of some lists is so of the same lists
pub carried : (P : List Level → List ℕ → Type 0) (ls ms : List Level) (xs ys : List ℕ) → ls ≡ ms → xs ≡ ys → P ls xs → P ms ys
carried P ls ms xs ys a b h = subst (λ z. P ms z) b (subst (λ z. P z xs) a h)

module _ (G : Graph) (ls : List Level) (nest : AreNest G ls) where
  pub deep : (l : Level) → Contains ls l → l.depth < 3
  deep l c = nest.nest.bodies.depth l (subst (λ (xs : List Level). In xs l) nest.are (listed_in ls c.0 l c.1 c.2))

  -- the first of the levels is the root
  pub first_is : (l : Level) → get_or ls 0 l ≡ nest.root
  first_is l = ap (λ (xs : List Level). get_or xs 0 l) nest.are

  pub held : (body : List ℕ) → body ≡ nest.root.body → (k : ℕ) → k < length body → (l : Level) × Contains ls l × Holds l (get_or body k 0)
  held body e k lt = (
    nest.root,
    subst (λ (xs : List Level). Contains xs nest.root) (sym nest.are) (0, omega arith, refl),
    subst (λ (xs : List ℕ). Holds nest.root (get_or xs k 0)) (sym e)
        (contains_has nest.root.body (get_or nest.root.body k 0) (Contains-get_or nest.root.body k 0 (subst (λ (xs : List ℕ). k < length xs) e lt))),
  )

  -- there is one nest of the levels
  pub root_is : (N : Nest) → IsNestOf G ls N → N.root ≡ nest.root
  root_is N is =
      let q = sym is.are ∙ nest.are in
      let r : is.root ≡ nest.root = cc in
      ap (λ (M : Nest). M.root) is.is ∙ r

  pub this_nest : IsNestOf G ls (nest_of G nest.root nest.inner)
  this_nest = record { root = nest.root; inner = nest.inner; are = nest.are; is = refl }
