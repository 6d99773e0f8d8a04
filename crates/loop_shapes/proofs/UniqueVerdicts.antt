-- The shape of a loop decides one verdict or none, and the edges to an address that close no loop decide one.
use Rattle.std.proofs.Common.{◌≡◌, ℕ, ◌<◌, ◌≤◌, ◌⊎◌, inl, inr, Option, Some, None, refl, sym, ap, subst, ◌∙◌, arith}
use Rattle.loop_data.specs.declared.graph.Graph.{Graph}
use Rattle.loop_data.specs.declared.verdict.Verdict.{Verdict}
use Rattle.loop_data.specs.declared.verdict.Verdict.TheVariants.{MultiEntry, Limit, Call, System, Indirect, Unsupported, Shape}
use Rattle.loop_data.specs.Instructions.{CallsFunction, AsksSystem, JumpsIndirectly, IsNoInstruction}
use Rattle.loop_data.specs.Sets.{HasAtMost, IsLeast}
use Rattle.loop_data.specs.Bodies.{InPart}
use Rattle.loop_data.specs.Early.{IsShort, IsBodyWord, IsMisshapen, IsSmallNest, IsPlain, IsEarly}
use Rattle.loop_data.specs.Listed.{IsListed, StartsIn, IsLeastEntrance, IsLeastStart, HasVerdict, IsLine}
use Rattle.loop_data.proofs.Rising.{same_least}

-- at most one value has this
abbrev IsOne : (V : Type 0) → (V → Type 0) → Type 0
IsOne V F = (a b : V) → F a → F b → a ≡ b

-- this value where A does not hold, and else one of F
abbrev Unless : (V : Type 0) → Type 0 → V → (V → Type 0) → V → Type 0
Unless V A v F a = ((¬ A) × (a ≡ v)) ⊎ (A × F a)

one_unless : (V : Type 0) (A : Type 0) (v : V) (F : V → Type 0) → IsOne V F → IsOne V (Unless V A v F)
one_unless V A v F one a b (inl p) (inl q) = p.1 ∙ sym q.1
one_unless V A v F one a b (inl p) (inr q) = absurd (p.0 q.0)
one_unless V A v F one a b (inr p) (inl q) = absurd (q.0 p.0)
one_unless V A v F one a b (inr p) (inr q) = one a b p.1 q.1

-- the value of the least member of P, and one of F where P has none
abbrev First : (V : Type 0) → (ℕ → Type 0) → (ℕ → V) → (V → Type 0) → V → Type 0
First V P v F a = ((at : ℕ) × IsLeast P at × (a ≡ v at)) ⊎ (((x : ℕ) → ¬ P x) × F a)

one_first : (V : Type 0) (P : ℕ → Type 0) (v : ℕ → V) (F : V → Type 0) → IsOne V F → IsOne V (First V P v F)
one_first V P v F one a b (inl p) (inl q) = p.2 ∙ ap v (same_least P p.0 q.0 p.1 q.1) ∙ sym q.2
one_first V P v F one a b (inl p) (inr q) = absurd (q.0 p.0 p.1.holds)
one_first V P v F one a b (inr p) (inl q) = absurd (p.0 q.0 q.1.holds)
one_first V P v F one a b (inr p) (inr q) = one a b p.1 q.1

-- what the table of early verdicts decides from a row on, by the verdict of that row: the last row first
abbrev FromSize : Graph → ℕ → Option Verdict → Type 0
FromSize G h = Unless (Option Verdict) (IsSmallNest G h) (Some (Limit h)) (λ a. a ≡ None)

abbrev FromShape : Graph → ℕ → Option Verdict → Type 0
FromShape G h = First (Option Verdict) (IsMisshapen G h) (λ at. Some (Shape at)) (FromSize G h)

abbrev FromUnsupported : Graph → ℕ → Option Verdict → Type 0
FromUnsupported G h = First (Option Verdict) (IsBodyWord G h IsNoInstruction) (λ at. Some (Unsupported at)) (FromShape G h)

abbrev FromIndirect : Graph → ℕ → Option Verdict → Type 0
FromIndirect G h = First (Option Verdict) (IsBodyWord G h JumpsIndirectly) (λ at. Some (Indirect at)) (FromUnsupported G h)

abbrev FromSystem : Graph → ℕ → Option Verdict → Type 0
FromSystem G h = First (Option Verdict) (IsBodyWord G h AsksSystem) (λ at. Some (System at)) (FromIndirect G h)

abbrev FromCall : Graph → ℕ → Option Verdict → Type 0
FromCall G h = First (Option Verdict) (IsBodyWord G h CallsFunction) (λ at. Some (Call at)) (FromSystem G h)

abbrev Decided : Graph → ℕ → Option Verdict → Type 0
Decided G h = Unless (Option Verdict) (IsShort G h) (Some (Limit h)) (FromCall G h)

one_from_size : (G : Graph) (h : ℕ) → IsOne (Option Verdict) (FromSize G h)
one_from_size G h = one_unless (Option Verdict) (IsSmallNest G h) (Some (Limit h)) (λ a. a ≡ None) (λ a b p q. p ∙ sym q)

one_from_shape : (G : Graph) (h : ℕ) → IsOne (Option Verdict) (FromShape G h)
one_from_shape G h = one_first (Option Verdict) (IsMisshapen G h) (λ at. Some (Shape at)) (FromSize G h) (one_from_size G h)

one_from_unsupported : (G : Graph) (h : ℕ) → IsOne (Option Verdict) (FromUnsupported G h)
one_from_unsupported G h = one_first (Option Verdict) (IsBodyWord G h IsNoInstruction) (λ at. Some (Unsupported at)) (FromShape G h) (one_from_shape G h)

one_from_indirect : (G : Graph) (h : ℕ) → IsOne (Option Verdict) (FromIndirect G h)
one_from_indirect G h = one_first (Option Verdict) (IsBodyWord G h JumpsIndirectly) (λ at. Some (Indirect at)) (FromUnsupported G h) (one_from_unsupported G h)

one_from_system : (G : Graph) (h : ℕ) → IsOne (Option Verdict) (FromSystem G h)
one_from_system G h = one_first (Option Verdict) (IsBodyWord G h AsksSystem) (λ at. Some (System at)) (FromIndirect G h) (one_from_indirect G h)

one_from_call : (G : Graph) (h : ℕ) → IsOne (Option Verdict) (FromCall G h)
one_from_call G h = one_first (Option Verdict) (IsBodyWord G h CallsFunction) (λ at. Some (Call at)) (FromSystem G h) (one_from_system G h)

one_decided : (G : Graph) (h : ℕ) → IsOne (Option Verdict) (Decided G h)
one_decided G h = one_unless (Option Verdict) (IsShort G h) (Some (Limit h)) (FromCall G h) (one_from_call G h)

decided_plain : (G : Graph) (h : ℕ) (a : Option Verdict) → IsPlain G h → FromShape G h a → Decided G h a
decided_plain G h a p f = inr (p.short, inr (p.no_call, inr (p.no_system, inr (p.no_indirect, inr (p.no_unsupported, f)))))

decided_limit : (G : Graph) (h at : ℕ) → at ≡ h → (¬ IsShort G h) ⊎ (IsPlain G h × ((k : ℕ) → ¬ IsMisshapen G h k) × ¬ IsSmallNest G h) → Decided G h (Some (Limit at))
decided_limit G h at e (inl long) = inl (long, ap (λ x. Some (Limit x)) e)
decided_limit G h at e (inr r) = decided_plain G h (Some (Limit at)) r.0 (inr (r.1, inl (r.2, ap (λ x. Some (Limit x)) e)))

decided : (G : Graph) (h : ℕ) (a : Option Verdict) → IsEarly G h a → Decided G h a
decided G h None e = decided_plain G h None e.0 (inr (e.1, inr (e.2, refl)))
decided G h (Some (Call at)) e = inr (e.0, inl (at, e.1, refl))
decided G h (Some (System at)) e = inr (e.0, inr (e.1, inl (at, e.2, refl)))
decided G h (Some (Indirect at)) e = inr (e.0, inr (e.1, inr (e.2, inl (at, e.3, refl))))
decided G h (Some (Unsupported at)) e = inr (e.0, inr (e.1, inr (e.2, inr (e.3, inl (at, e.4, refl)))))
decided G h (Some (Shape at)) e = decided_plain G h (Some (Shape at)) e.0 (inl (at, e.1, refl))
decided G h (Some (Limit at)) e = decided_limit G h at e.0 e.1
decided G h (Some _) e = absurd e

-- the shape of a loop decides one verdict or none
pub same_early : (G : Graph) (h : ℕ) (a b : Option Verdict) → IsEarly G h a → IsEarly G h b → a ≡ b
same_early G h a b p q = one_decided G h a b (decided G h a p) (decided G h b q)

same_entrance : (G : Graph) (g u from to x y : ℕ) → IsLeastEntrance G g u from to → IsLeastEntrance G g u x y → (from ≡ x) × (to ≡ y)
same_entrance G g u from to x y p q = by (p.least x y q.enters) (q.least from to p.enters)
  where
    by : (from < x) ⊎ ((from ≡ x) × (to ≤ y)) → (x < from) ⊎ ((x ≡ from) × (y ≤ to)) → (from ≡ x) × (to ≡ y)
    by (inl a) (inl b) = absurd (omega arith)
    by (inl a) (inr b) = absurd (let e = b.0 in omega arith)
    by (inr a) (inl b) = absurd (let e = a.0 in omega arith)
    by (inr a) (inr b) = (a.0, let c = a.1 in let d = b.1 in omega arith)

-- the ends of the least edge in, or a start word as both
abbrev HasEnds : Graph → ℕ → ℕ → ℕ → ℕ → Type 0
HasEnds G g u from to = IsLeastEntrance G g u from to ⊎ IsLeastStart G g u from to

same_ends : (G : Graph) (g u from to x y : ℕ) → HasEnds G g u from to → HasEnds G g u x y → (from ≡ x) × (to ≡ y)
same_ends G g u from to x y (inl p) (inl q) = same_entrance G g u from to x y p q
same_ends G g u from to x y (inl p) (inr q) = absurd (q.none from to p.enters)
same_ends G g u from to x y (inr p) (inl q) = absurd (p.none x y q.enters)
same_ends G g u from to x y (inr p) (inr q) =
    let e = same_least (StartsIn G g u) from x p.least q.least in
    (e, p.same ∙ e ∙ sym q.same)

-- the verdict of the ends
record IsEntry (G : Graph) (g u : ℕ) (v : Verdict) : Type 0 where
  pub from : ℕ
  pub to : ℕ
  pub ends : HasEnds G g u from to
  pub is : v ≡ MultiEntry from to

one_entry : (G : Graph) (g u : ℕ) → IsOne Verdict (IsEntry G g u)
one_entry G g u a b p q =
    let e = same_ends G g u p.from p.to q.from q.to p.ends q.ends in
    p.is ∙ (λ j. MultiEntry (e.0 j) (e.1 j)) ∙ sym q.is

line_verdict : (G : Graph) (g u : ℕ) (v : Verdict) → HasVerdict G g u v → Unless Verdict (HasAtMost 256 (InPart G g u)) (Limit g) (IsEntry G g u) v
line_verdict G g u (Limit at) h = inl (h.1, ap Limit h.0)
line_verdict G g u (MultiEntry from to) h = inr (h.0, record { from = from; to = to; ends = h.1; is = refl })
line_verdict G g u _ h = absurd h

same_verdict : (G : Graph) (g u : ℕ) (v w : Verdict) → HasVerdict G g u v → HasVerdict G g u w → v ≡ w
same_verdict G g u v w p q = one_unless Verdict (HasAtMost 256 (InPart G g u)) (Limit g) (IsEntry G g u) (one_entry G g u) v w (line_verdict G g u v p) (line_verdict G g u w q)

-- the edges to g that close no loop decide one verdict
pub same_line : (G : Graph) (g : ℕ) (v w : Verdict) → IsLine G g v → IsLine G g w → v ≡ w
same_line G g v w (inl p) (inl q) = p.is ∙ sym q.is
same_line G g v w (inl p) (inr q) = absurd (q.none p.source p.past)
same_line G g v w (inr p) (inl q) = absurd (p.none q.source q.past)
same_line G g v w (inr p) (inr q) =
    let e = same_least (IsListed G g) p.source q.source p.least q.least in
    same_verdict G g q.source v w (subst (λ u. HasVerdict G g u v) e p.verdict) q.verdict

-- a line stands for some edge
pub line_edge : (G : Graph) (g : ℕ) (v : Verdict) → IsLine G g v → (u : ℕ) × IsListed G g u
line_edge G g v (inl p) = (p.source, p.past.listed)
line_edge G g v (inr p) = (p.source, p.least.holds)
