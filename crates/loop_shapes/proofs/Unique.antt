-- A graph has one list of loops.
use Rattle.std.proofs.Common.{◌≡◌, ℕ, ◌⊎◌, inl, inr, Option, Some, None, List, [], ◌∷◌, length, map, All, refl, sym, ap, subst, ◌∙◌, arith}
use Rattle.std.specs.List.{Contains}
use Rattle.std.proofs.lemmas.List.Elements.{All-head, All-tail}
use Rattle.loop_data.specs.declared.graph.Graph.{Graph}
use Rattle.loop_data.specs.declared.shape.Level.{Level}
use Rattle.loop_data.specs.declared.shape.LoopShape.{LoopShape}
use Rattle.loop_data.specs.declared.verdict.Verdict.{Verdict}
use Rattle.loop_data.specs.Sets.{IsListOf, HasCount}
use Rattle.loop_data.specs.Bodies.{IsHeader, InBody}
use Rattle.loop_data.specs.Shape.{IsInner, HasOwnShape}
use Rattle.loop_data.specs.Listed.{IsLine}
use Rattle.loop_data.specs.Early.{IsEarly, IsRound}
use Rattle.loop_data.specs.Loops.{IsLevel, AreLevels, HasLevels, IsLoop, IsListedEdge, headers_of, AreLoops}
use Rattle.loop_data.proofs.Rising.{in_tail, same_members, same_list, same_count}
use Rattle.loop_shapes.proofs.UniqueVerdicts.{same_early, same_line, line_edge}

-- records with the same headers that their headers determine
same_each : (X : Type 0) (header : X → ℕ) (P : X → Type 0) → ((x y : X) → P x → P y → header x ≡ header y → x ≡ y) → (xs ys : List X) → All P xs → All P ys → map header xs ≡ map header ys → xs ≡ ys
same_each X header P same [] [] p q e = refl
same_each X header P same [] (y ∷ ys) p q e = absurd (let l = ap length e in omega arith)
same_each X header P same (x ∷ xs) [] p q e = absurd (let l = ap length e in omega arith)
same_each X header P same (x ∷ xs) (y ∷ ys) p q e =
    let at : header x ≡ header y = cc e in
    let later : map header xs ≡ map header ys = cc e in
    let first = same x y (All-head P x xs p) (All-head P y ys q) at in
    let rest = same_each X header P same xs ys (All-tail P x xs p) (All-tail P y ys q) later in
    λ j. first j ∷ rest j

same_back : (G : Graph) (h back exit b e : ℕ) → HasOwnShape G h back exit → HasOwnShape G h b e → back ≡ b
same_back G h back exit b e p q = q.one_back.only back p.one_back.closed

same_exit : (G : Graph) (h back exit b e : ℕ) → HasOwnShape G h back exit → HasOwnShape G h b e → exit ≡ e
same_exit G h back exit b e p q = (q.one_exit.only exit p.target p.one_exit.leaves).0

same_level : (G : Graph) (h : ℕ) (l m : Level) → IsLevel G h l → IsLevel G h m → l.header ≡ m.header → l ≡ m
same_level G h l m p q e =
    let shape : HasOwnShape G m.header l.back l.exit = subst (λ k. HasOwnShape G k l.back l.exit) e p.shape in
    let body : l.body ≡ m.body = same_list (InBody G m.header) l.body m.body (subst (λ k. IsListOf (InBody G k) l.body) e p.body) q.body in
    let back : l.back ≡ m.back = same_back G m.header l.back l.exit m.back m.exit shape q.shape in
    let exit : l.exit ≡ m.exit = same_exit G m.header l.back l.exit m.back m.exit shape q.shape in
    let depth : l.depth ≡ m.depth = same_count (IsRound G h m.header) l.depth m.depth (subst (λ k. HasCount (IsRound G h k) l.depth) e p.depth) q.depth in
    λ j. record { header = e j; body = body j; back = back j; exit = exit j; depth = depth j }

same_nest : (G : Graph) (h : ℕ) (xs ys : List Level) → AreLevels G h xs → AreLevels G h ys → xs ≡ ys
same_nest G h xs ys p q =
    let inner = same_list (IsInner G h) p.inner q.inner p.are_inner q.are_inner in
    same_each Level (λ l. l.header) (IsLevel G h) (same_level G h) xs ys p.each q.each (p.headers ∙ ap (λ k. h ∷ k) inner ∙ sym q.headers)

same_levels : (G : Graph) (h : ℕ) (a : Option Verdict) (xs ys : List Level) → HasLevels G h a xs → HasLevels G h a ys → xs ≡ ys
same_levels G h None xs ys p q = same_nest G h xs ys p q
same_levels G h (Some v) xs ys p q = p ∙ sym q

same_loop : (G : Graph) (s t : LoopShape) → IsLoop G s → IsLoop G t → s.header ≡ t.header → s ≡ t
same_loop G s t p q e =
    let early : s.early ≡ t.early = same_early G t.header s.early t.early (subst (λ h. IsEarly G h s.early) e p.early) q.early in
    let moved : HasLevels G t.header s.early s.levels = subst (λ h. HasLevels G h s.early s.levels) e p.levels in
    let levels : s.levels ≡ t.levels = same_levels G t.header t.early s.levels t.levels (subst (λ a. HasLevels G t.header a s.levels) early moved) q.levels in
    λ j. record { header = e j; levels = levels j; early = early j }

same_edge : (G : Graph) (s t : LoopShape) → IsListedEdge G s → IsListedEdge G t → s.header ≡ t.header → s ≡ t
same_edge G s t p q e =
    let verdict : p.verdict ≡ q.verdict = same_line G t.header p.verdict q.verdict (subst (λ g. IsLine G g p.verdict) e p.line) q.line in
    let early : s.early ≡ t.early = p.early ∙ ap Some verdict ∙ sym q.early in
    let levels : s.levels ≡ t.levels = p.levels ∙ sym q.levels in
    λ j. record { header = e j; levels = levels j; early = early j }

-- where a line stands there is no loop
no_loop : (G : Graph) (s : LoopShape) → IsListedEdge G s → ¬ IsHeader G s.header
no_loop G s p = (line_edge G s.header p.verdict p.line).1.no_loop

abbrev IsEither : Graph → LoopShape → Type 0
IsEither G s = IsLoop G s ⊎ IsListedEdge G s

same_shape : (G : Graph) (s t : LoopShape) → IsEither G s → IsEither G t → s.header ≡ t.header → s ≡ t
same_shape G s t (inl p) (inl q) e = same_loop G s t p q e
same_shape G s t (inl p) (inr q) e = absurd (no_loop G t q (subst (IsHeader G) e p.header))
same_shape G s t (inr p) (inl q) e = absurd (no_loop G s p (subst (IsHeader G) (sym e) q.header))
same_shape G s t (inr p) (inr q) e = same_edge G s t p q e

-- an address that one list of a graph names is named by each other
named : (G : Graph) (xs ys : List LoopShape) → All (IsEither G) xs → AreLoops G ys → (h : ℕ) → Contains (headers_of xs) h → Contains (headers_of ys) h
named G [] ys p q h m = absurd (let l = m.1 in omega arith)
named G (x ∷ xs) ys p q h m = by (in_tail x.header (headers_of xs) h m) (named G xs ys (All-tail (IsEither G) x xs p) q h)
  where
    first : IsEither G x → Contains (headers_of ys) x.header
    first (inl l) = q.loops x.header l.header
    first (inr l) = let k = line_edge G x.header l.verdict l.line in q.edges x.header k.0 k.1

    by : (x.header ≡ h) ⊎ Contains (headers_of xs) h → (Contains (headers_of xs) h → Contains (headers_of ys) h) → Contains (headers_of ys) h
    by (inl e) later = subst (Contains (headers_of ys)) e (first (All-head (IsEither G) x xs p))
    by (inr n) later = later n

pub same_loops : (G : Graph) (xs ys : List LoopShape) → AreLoops G xs → AreLoops G ys → xs ≡ ys
same_loops G xs ys p q =
    let at = same_members (headers_of xs) (headers_of ys) p.ordered q.ordered (named G xs ys p.each q) (named G ys xs q.each p) in
    same_each LoopShape (λ s. s.header) (IsEither G) (same_shape G) xs ys p.each q.each at
