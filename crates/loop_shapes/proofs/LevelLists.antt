-- The loops of a nest as levels.
use Rattle.std.proofs.Common.{◌≡◌, inr, refl, Some, None, ℕ, ◌+◌, ◌<◌, ◌≤◌, List, [], ◌∷◌, ◌++◌, length, get_or, map, take, ap, sym, ◌∙◌, subst}
use Rattle.std.specs.List.{Contains, All}
use Rattle.std.proofs.lemmas.List.{map_push, take_more, take_all}
use Rattle.std.proofs.lemmas.List.Elements.{All-push}
use Rattle.loop_data.specs.declared.graph.Graph.{Graph}
use Rattle.loop_data.specs.declared.shape.Level.{Level}
use Rattle.loop_data.specs.Sets.{IsListOf}
use Rattle.loop_data.specs.Shape.{InNest}
use Rattle.loop_shapes.specs.Difference.{InDifference}
use Rattle.loop_data.specs.declared.shape.LoopShape.{LoopShape}
use Rattle.loop_data.specs.declared.verdict.Verdict.TheVariants.{Limit}
use Rattle.loop_data.specs.Bodies.{IsHeader}
use Rattle.loop_data.specs.Early.{IsRound, IsPlain, IsMisshapen, IsSmallNest, IsEarly}
use Rattle.loop_data.specs.Loops.{IsLevel, AreLevels, IsSoundNest, HasLevels, IsLoop}
use Rattle.loop_shapes.proofs.Leasts.{most_by}
use Rattle.loop_shapes.proofs.Shapes.{inner_by}

abbrev pub header_of : Level → ℕ
header_of v = v.header

pub few_round : (G : Graph) (nest round : List ℕ) (x : ℕ) (s : IsSoundNest G nest) → Contains nest x → IsListOf (IsRound G s.root x) round → length round ≤ 2
few_round G nest round x s c r = (most_by (IsRound G s.root x) round 2 r).1 (s.small.levels x (s.is.each x c))

-- one level more
pub level_push : (G : Graph) (h : ℕ) (old new : List Level) (v : Level) (x : ℕ) (front : List ℕ) → new ≡ old ++ v ∷ [] → v.header ≡ x → IsLevel G h v → (map header_of old ≡ front) × All (IsLevel G h) old → (map header_of new ≡ front ++ x ∷ []) × All (IsLevel G h) new
level_push G h old new v x front e f l a = (
  ap (map header_of) e ∙ map_push header_of old v ∙ ap (λ (q : List ℕ). q ++ v.header ∷ []) a.0 ∙ ap (λ (q : ℕ). front ++ q ∷ []) f,
  subst (All (IsLevel G h)) (sym e) (All-push (IsLevel G h) old v a.1 l),
)

pub level_more : (G : Graph) (h : ℕ) (inner : List ℕ) (i : ℕ) (old new : List Level) (v : Level) → i < length inner → new ≡ old ++ v ∷ [] → v.header ≡ get_or inner i 0 → IsLevel G h v → (map header_of old ≡ h ∷ take i inner) × All (IsLevel G h) old → (map header_of new ≡ h ∷ take (i + 1) inner) × All (IsLevel G h) new
level_more G h inner i old new v li e f l a =
    let p = level_push G h old new v (get_or inner i 0) (h ∷ take i inner) e f l a in
    (p.0 ∙ ap (λ (q : List ℕ). h ∷ q) (sym (take_more inner i 0 li)), p.1)

pub levels_by : (G : Graph) (h : ℕ) (nest inner : List ℕ) (i : ℕ) (all : List Level) → IsListOf (InNest G h) nest → IsListOf (InDifference nest (h ∷ [])) inner → length inner ≤ i → (map header_of all ≡ h ∷ take i inner) × All (IsLevel G h) all → AreLevels G h all
levels_by G h nest inner i all is out l a = record { inner = inner; are_inner = inner_by G h nest inner is out; headers = a.0 ∙ ap (λ (q : List ℕ). h ∷ q) (take_all i inner l); each = a.1 }

-- a nest past the limits, and one within them
pub limit_loop : (G : Graph) (h : ℕ) (s : LoopShape) → IsHeader G h → s.header ≡ h → s.early ≡ Some (Limit h) → s.levels ≡ [] → IsPlain G h × ((k : ℕ) → ¬ IsMisshapen G h k) → ¬ IsSmallNest G h → IsLoop G s
limit_loop G h s header e f l plain small = record {
  header = subst (IsHeader G) (sym e) header;
  early = subst (λ q. IsEarly G q s.early) (sym e) (subst (IsEarly G h) (sym f) (refl, inr (plain.0, plain.1, small)));
  levels = subst (λ o. HasLevels G s.header o s.levels) (sym f) l;
}

pub sound_loop : (G : Graph) (h : ℕ) (s : LoopShape) → IsHeader G h → s.header ≡ h → s.early ≡ None → AreLevels G h s.levels → IsPlain G h × ((k : ℕ) → ¬ IsMisshapen G h k) → IsSmallNest G h → IsLoop G s
sound_loop G h s header e f l plain small = record {
  header = subst (IsHeader G) (sym e) header;
  early = subst (λ q. IsEarly G q s.early) (sym e) (subst (IsEarly G h) (sym f) (plain.0, plain.1, small));
  levels = subst (λ o. HasLevels G s.header o s.levels) (sym f) (subst (λ q. AreLevels G q s.levels) (sym e) l);
}
