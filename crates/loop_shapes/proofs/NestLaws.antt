-- The levels of a loop whose nest has the shape are a nest.
use Rattle.std.proofs.Common.{◌≡◌, ◌≢◌, ℕ, suc, ◌<◌, ◌≤◌, ◌⊎◌, inl, inr, List, [], ◌∷◌, length, map, Bool, true, false, Option, None, refl, ap, sym, ◌∙◌, subst, arith, if◌then◌else◌, ◌==◌}
use Rattle.std.specs.List.Sorted.{IsStrictlyIncreasing}
use Rattle.std.specs.List.{All}
use Rattle.std.proofs.lemmas.List.{length-map}
use Rattle.std.proofs.lemmas.List.Elements.{All-head, All-tail}
use Rattle.std.proofs.lemmas.Bool.{cases_eq}
use Rattle.elf_image.specs.declared.image.Elf.{Elf}
use Rattle.loop_data.specs.declared.graph.Graph.{Graph}
use Rattle.loop_data.specs.declared.verdict.Verdict.{Verdict}
use Rattle.loop_data.specs.Graphs.{IsGraph}
use Rattle.loop_data.specs.declared.shape.Level.{Level}
use Rattle.loop_data.specs.Paths.{Leads, Reaches}
use Rattle.loop_data.specs.Starts.{AreFromStarts}
use Rattle.loop_data.specs.Sets.{HasCount}
use Rattle.loop_data.specs.Bodies.{ReachesPast, InPart, IsClosed, InBody}
use Rattle.loop_data.specs.Shape.{IsInner, InNest, IsForward}
use Rattle.loop_data.specs.Early.{IsRound, IsSmallNest, IsPlain, IsEarly}
use Rattle.loop_data.specs.Loops.{IsLevel, AreLevels, HasLevels}
use Rattle.loop_data.specs.LoopWords.{AreNest, AreNestAt}
use Rattle.loop_data.specs.Nests.{has, leads_in, nest_of, In as IsListedIn, AreDistinct, levels, Among, Edge, IsPassTo, IsPass, HasSides, ClosesNone, IsRank, IsEntered, AreNested, HasShapes, IsNest}
use Rattle.loop_data.proofs.Lists.{In, to_in, Apart, pigeons}
use Rattle.loop_data.proofs.FromStarts.{from_starts}
use Rattle.loop_data.proofs.Ways.{stop, join, further, ends_in}
use Rattle.loop_data.proofs.Tests.{eq_of, ne_of, is_ne, true_or_false, yes_no, not_true}
use Rattle.loop_data.proofs.Steps.{has_contains, contains_has, leads_is, is_leads}
use Rattle.loop_shapes.specs.Laws.{NestLaw}
use Rattle.loop_shapes.proofs.NestWords.{loop_word}
use Rattle.loop_shapes.proofs.Bridge.{tests, to_body, from_body, to_closed, to_reached, word_in}
use Rattle.loop_shapes.proofs.Counts.{each_in, every_in, apart_in, fewer, at_most, none, just_one, Second, second}
use Rattle.loop_shapes.proofs.Ranks.{longest, is_forward, is_forward_edge, rank_is}
use Rattle.loop_shapes.proofs.PathGraphs.{PathGraph, IsPath, IsFromStart, InPathBody, IsClosedPath}
use Rattle.loop_shapes.proofs.PathBodies.{before, backwards, apart, meet, nested}

-- a loop with its inner loops, as levels
pub record Given (G : Graph) (root : Level) (inner : List Level) : Type 0 where
  pub starts : AreFromStarts G
  pub are : AreLevels G root.header (root ∷ inner)
  pub small : IsSmallNest G root.header

loops_in : (G : Graph) (h : ℕ) (ls : List Level) → All (IsLevel G h) ls → (l : Level) → IsListedIn ls l → IsLevel G h l
loops_in G h [] a l i = absurd i
loops_in G h (m ∷ ms) a l (inl e) = subst (IsLevel G h) e (All-head (IsLevel G h) m ms a)
loops_in G h (m ∷ ms) a l (inr i) = loops_in G h ms (All-tail (IsLevel G h) m ms a) l i

header_in : (ls : List Level) (l : Level) → IsListedIn ls l → In (map (λ (l : Level). l.header) ls) l.header
header_in [] l i = absurd i
header_in (m ∷ ms) l (inl e) = inl (ap (λ (z : Level). z.header) e)
header_in (m ∷ ms) l (inr i) = inr (header_in ms l i)

level_at : (ls : List Level) (k : ℕ) → In (map (λ (l : Level). l.header) ls) k → (l : Level) × IsListedIn ls l × (l.header ≡ k)
level_at [] k i = absurd i
level_at (m ∷ ms) k (inl e) = (m, inl refl, e)
level_at (m ∷ ms) k (inr i) = let r = level_at ms k i in (r.0, inr r.1, r.2)

only_one : (ls : List Level) → Apart (map (λ (l : Level). l.header) ls) → (l m : Level) → IsListedIn ls l → IsListedIn ls m → l.header ≡ m.header → l ≡ m
only_one [] a l m i j e = absurd i
only_one (x ∷ xs) a l m (inl p) (inl q) e = sym p ∙ q
only_one (x ∷ xs) a l m (inl p) (inr j) e = absurd (a.0 (subst (In (map (λ (l : Level). l.header) xs)) (sym e ∙ sym (ap (λ (z : Level). z.header) p)) (header_in xs m j)))
only_one (x ∷ xs) a l m (inr i) (inl q) e = absurd (a.0 (subst (In (map (λ (l : Level). l.header) xs)) (e ∙ sym (ap (λ (z : Level). z.header) q)) (header_in xs l i)))
only_one (x ∷ xs) a l m (inr i) (inr j) e = only_one xs a.1 l m i j e

abbrev tails : List ℕ → List ℕ
tails [] = []
tails (x ∷ xs) = xs

-- a path to v from another word: the word before the first place at which it comes to v
first_hit : (H : PathGraph) (xs : List ℕ) (s v : ℕ) → IsPath H xs s v → s ≢ v
    → (u : ℕ) × (ys : List ℕ) × IsPath H ys s u × (has (s ∷ ys) v ≡ false) × (H.leads u v ≡ true)
first_hit H [] s v p ne = absurd (ne p)
first_hit H (z ∷ zs) s v p ne = go (z == v) refl (λ n. first_hit H zs z v p.1 n)
  where
    not_here : (s == v) ≡ false
    not_here = is_ne s v ne

    go : (b : Bool) → (z == v) ≡ b → (z ≢ v → (u : ℕ) × (ys : List ℕ) × IsPath H ys z u × (has (z ∷ ys) v ≡ false) × (H.leads u v ≡ true))
        → (u : ℕ) × (ys : List ℕ) × IsPath H ys s u × (has (s ∷ ys) v ≡ false) × (H.leads u v ≡ true)
    go true e later = (s, [], refl, ap (λ b. if b then true else false) not_here, subst (λ x. H.leads s x ≡ true) (eq_of z v e) p.0)
    go false e later = let r = later (ne_of z v e) in (r.0, z ∷ r.1, (p.0, r.2), ap (λ b. if b then true else has (z ∷ r.1) v) not_here ∙ r.3, r.4)

module _ (G : Graph) (root : Level) (inner : List Level) (g : Given G root inner) where
  loop_of : (l : Level) → Among (nest_of G root inner) l → IsLevel G root.header l
  loop_of l i = loops_in G root.header (root ∷ inner) g.are.each l i

  heads : map (λ (l : Level). l.header) (levels (nest_of G root inner)) ≡ root.header ∷ g.are.inner
  heads = g.are.headers

  apart_heads : Apart (map (λ (l : Level). l.header) (levels (nest_of G root inner)))
  apart_heads = subst Apart (sym heads) ((λ i. (each_in (IsInner G root.header) g.are.inner g.are.are_inner root.header i).other refl), apart_in (IsInner G root.header) g.are.inner g.are.are_inner)

  unique : (l m : Level) → Among (nest_of G root inner) l → Among (nest_of G root inner) m → l.header ≡ m.header → l ≡ m
  unique l m i j e = only_one (levels (nest_of G root inner)) apart_heads l m i j e

  -- the parts of a level
  closed : (l : Level) (i : Among (nest_of G root inner) l) → IsClosed G l.header l.back
  closed l i = (loop_of l i).shape.one_back.closed

  tested_closed : (l : Level) (i : Among (nest_of G root inner) l) → IsClosedPath (tests G) l.header l.back
  tested_closed l i = to_closed G l.header l.back g.starts (closed l i)

  part_of : (l : Level) (i : Among (nest_of G root inner) l) (x : ℕ) → InBody G l.header x → InPart G l.header l.back x
  part_of l i x b = subst (λ u. InPart G l.header u x) ((loop_of l i).shape.one_back.only b.source b.closed) b.part

  of_part : (l : Level) (i : Among (nest_of G root inner) l) (x : ℕ) → InPart G l.header l.back x → InBody G l.header x
  of_part l i x p = record { source = l.back; closed = closed l i; part = p }

  in_body : (l : Level) → Among (nest_of G root inner) l → (x : ℕ) → has l.body x ≡ true → InBody G l.header x
  in_body l i x h = (loop_of l i).body.each x (has_contains l.body x h)

  body_in : (l : Level) → Among (nest_of G root inner) l → (x : ℕ) → InBody G l.header x → has l.body x ≡ true
  body_in l i x b = contains_has l.body x ((loop_of l i).body.every x b)

  in_tests : (l : Level) (i : Among (nest_of G root inner) l) (x : ℕ) → has l.body x ≡ true → InPathBody (tests G) l.header l.back x
  in_tests l i x h = to_body G l.header l.back x (part_of l i x (in_body l i x h))

  tests_in : (l : Level) (i : Among (nest_of G root inner) l) (x : ℕ) → InPathBody (tests G) l.header l.back x → has l.body x ≡ true
  tests_in l i x b = body_in l i x (of_part l i x (from_body G l.header l.back x b))

  own_header : (l : Level) → Among (nest_of G root inner) l → has l.body l.header ≡ true
  own_header l i = tests_in l i l.header (inl refl)

  in_nest : (l : Level) → Among (nest_of G root inner) l → InNest G root.header l.header
  in_nest l i = by (subst (λ (xs : List ℕ). In xs l.header) heads (header_in (levels (nest_of G root inner)) l i))
    where
      by : (root.header ≡ l.header) ⊎ In g.are.inner l.header → InNest G root.header l.header
      by (inl e) =
          record {
            header = record { source = l.back; closed = closed l i };
            inside = subst (InBody G root.header) e (in_body root (inl refl) root.header (own_header root (inl refl)));
          }
      by (inr j) = let k = each_in (IsInner G root.header) g.are.inner g.are.are_inner l.header j in record { header = k.header; inside = k.inside }

  level_of : (k : ℕ) → InNest G root.header k → (l : Level) × Among (nest_of G root inner) l × (l.header ≡ k)
  level_of k n = level_at (levels (nest_of G root inner)) k (subst (λ (xs : List ℕ). In xs k) (sym heads) (by (cases_eq k root.header)))
    where
      by : (k ≡ root.header) ⊎ (k ≢ root.header) → (root.header ≡ k) ⊎ In g.are.inner k
      by (inl e) = inl (sym e)
      by (inr ne) = inr (every_in (IsInner G root.header) g.are.inner g.are.are_inner k (record { header = n.header; inside = n.inside; other = ne }))

  nested_in : (l m : Level) → Among (nest_of G root inner) l → Among (nest_of G root inner) m → has m.body l.header ≡ true → (x : ℕ) → has l.body x ≡ true → has m.body x ≡ true
  nested_in l m i j h x hx = by (cases_eq l.header m.header)
    where
      by : (l.header ≡ m.header) ⊎ (l.header ≢ m.header) → has m.body x ≡ true
      by (inl e) = subst (λ (z : Level). has z.body x ≡ true) (unique l m i j e) hx
      by (inr ne) = tests_in m j x (nested (tests G) l.header l.back m.header m.back x (tested_closed l i) (tested_closed m j) ne (in_tests m j l.header h) (in_tests l i x hx))

  apart_in_nest : (l m : Level) → Among (nest_of G root inner) l → Among (nest_of G root inner) m → has m.body l.header ≡ true → has l.body m.header ≡ true → l ≡ m
  apart_in_nest l m i j h k =
      unique l m i j (apart (tests G) l.header l.back m.header m.back (tested_closed l i) (tested_closed m j) (in_tests m j l.header h) (in_tests l i m.header k))

  met_in : (l m : Level) → Among (nest_of G root inner) l → Among (nest_of G root inner) m → l.header ≢ m.header → (x : ℕ) → has l.body x ≡ true → has m.body x ≡ true → (has l.body m.header ≡ true) ⊎ (has m.body l.header ≡ true)
  met_in l m i j ne x hx hy =
      by (meet (tests G) l.header l.back m.header m.back x (tested_closed l i) (tested_closed m j) ne (to_reached G x (g.starts x (word_in G l.header l.back x (closed l i) (part_of l i x (in_body l i x hx))))) (in_tests l i x hx) (in_tests m j x hy))
    where
      by : InPathBody (tests G) l.header l.back m.header ⊎ InPathBody (tests G) m.header m.back l.header → (has l.body m.header ≡ true) ⊎ (has m.body l.header ≡ true)
      by (inl b) = inl (tests_in l i m.header b)
      by (inr b) = inr (tests_in m j l.header b)

  within : (l : Level) → Among (nest_of G root inner) l → (x : ℕ) → has l.body x ≡ true → has root.body x ≡ true
  within l i x h = nested_in l root i (inl refl) (body_in root (inl refl) l.header (in_nest l i).inside) x h

  -- a loop round the header of another that lies round a word
  round_in : (k x y : ℕ) → InNest G root.header x → InNest G root.header k → InBody G x k → InBody G k y → InBody G x y
  round_in k x y nx nk b c =
      let lx = level_of x nx in
      let lk = level_of k nk in
      by lx.0 lx.1 lx.2 lk.0 lk.1 lk.2
    where
      by : (l : Level) → Among (nest_of G root inner) l → l.header ≡ x → (m : Level) → Among (nest_of G root inner) m → m.header ≡ k → InBody G x y
      by l i p m j q =
          subst (λ z. InBody G z y) p
          (in_body l i y (nested_in m l j i (body_in l i m.header (subst (λ z. InBody G l.header z) (sym q) (subst (λ z. InBody G z k) (sym p) b))) y (body_in m j y (subst (λ z. InBody G z y) (sym q) c))))

  not_both : (k x : ℕ) → InNest G root.header x → InNest G root.header k → InBody G x k → InBody G k x → x ≡ k
  not_both k x nx nk b c =
      let lx = level_of x nx in
      let lk = level_of k nk in
      by lx.0 lx.1 lx.2 lk.0 lk.1 lk.2
    where
      by : (l : Level) → Among (nest_of G root inner) l → l.header ≡ x → (m : Level) → Among (nest_of G root inner) m → m.header ≡ k → x ≡ k
      by l i p m j q =
          sym p
          ∙ ap (λ (z : Level). z.header) (apart_in_nest l m i j (body_in m j l.header (subst (λ z. InBody G m.header z) (sym p) (subst (λ z. InBody G z x) (sym q) c))) (body_in l i m.header (subst (λ z. InBody G l.header z) (sym q) (subst (λ z. InBody G z k) (sym p) b))))
          ∙ q

  -- a loop inside another is deeper
  deeper_by : (l m : Level) → Among (nest_of G root inner) l → Among (nest_of G root inner) m → l.header ≢ m.header → has l.body m.header ≡ true → l.depth < m.depth
  deeper_by l m i j ne h =
      fewer (IsRound G root.header l.header) (IsRound G root.header m.header) l.depth m.depth (loop_of l i).depth (loop_of m j).depth sub l.header (record { nest = in_nest l i; other = ne; holds = in_body l i m.header h }) (λ r. r.other refl)
    where
      sub : (x : ℕ) → IsRound G root.header l.header x → IsRound G root.header m.header x
      sub x r =
          record {
            nest = r.nest;
            other = λ e. ne (sym (not_both l.header m.header (in_nest m j) (in_nest l i) (subst (λ z. InBody G z l.header) e r.holds) (in_body l i m.header h)));
            holds = round_in l.header x m.header r.nest (in_nest l i) r.holds (in_body l i m.header h);
          }

  enter : (l : Level) → Among (nest_of G root inner) l → (u v : ℕ) → Edge (nest_of G root inner) root.body u v → has l.body u ≡ false → has l.body v ≡ true → v ≡ l.header
  enter l i u v d hu hv = by (cases_eq v l.header)
    where
      by : (v ≡ l.header) ⊎ (v ≢ l.header) → v ≡ l.header
      by (inl e) = e
      by (inr ne) = absurd (yes_no _ (tests_in l i u (before (tests G) l.header l.back u v d.leads ne (in_tests l i v hv))) hu)

  alone : (l m : Level) → Among (nest_of G root inner) l → Among (nest_of G root inner) m → l.depth ≡ m.depth → (x : ℕ) → has l.body x ≡ true → has m.body x ≡ true → l ≡ m
  alone l m i j e x hx hy = by (cases_eq l.header m.header)
    where
      by : (l.header ≡ m.header) ⊎ (l.header ≢ m.header) → l ≡ m
      by (inl q) = unique l m i j q
      by (inr ne) = go (met_in l m i j ne x hx hy)
        where
          go : (has l.body m.header ≡ true) ⊎ (has m.body l.header ≡ true) → l ≡ m
          go (inl h) = let d = deeper_by l m i j ne h in absurd (omega arith)
          go (inr h) = let d = deeper_by m l j i (λ q. ne (sym q)) h in absurd (omega arith)

  deeper : (l m : Level) → Among (nest_of G root inner) l → Among (nest_of G root inner) m → l.depth < m.depth → (x : ℕ) → has l.body x ≡ true → has m.body x ≡ true → has l.body m.header ≡ true
  deeper l m i j lt x hx hy = by (cases_eq l.header m.header)
    where
      by : (l.header ≡ m.header) ⊎ (l.header ≢ m.header) → has l.body m.header ≡ true
      by (inl q) = let e = ap (λ (z : Level). z.depth) (unique l m i j q) in absurd (omega arith)
      by (inr ne) = go (met_in l m i j ne x hx hy)
        where
          go : (has l.body m.header ≡ true) ⊎ (has m.body l.header ≡ true) → has l.body m.header ≡ true
          go (inl h) = h
          go (inr h) = let d = deeper_by m l j i (λ q. ne (sym q)) h in absurd (omega arith)

  outermost : root.depth ≡ 0
  outermost = none (IsRound G root.header root.header) root.depth (loop_of root (inl refl)).depth (λ x r. r.other (not_both root.header x r.nest (in_nest root (inl refl)) r.holds r.nest.inside))

  between : (m : Level) → Among (nest_of G root inner) m → m.depth ≡ 2 → (l : Level) × Among (nest_of G root inner) l × (l.depth ≡ 1) × (has l.body m.header ≡ true)
  between m j e = by (level_of s.other s.holds.nest)
    where
      not_root : root.header ≢ m.header
      not_root q = let d = ap (λ (z : Level). z.depth) (unique root m (inl refl) j q) in let o = outermost in absurd (omega arith)

      s : Second (IsRound G root.header m.header) root.header
      s = second (IsRound G root.header m.header) root.header (subst (HasCount (IsRound G root.header m.header)) e (loop_of m j).depth) (record { nest = in_nest root (inl refl); other = not_root; holds = (in_nest m j).inside })

      by : (l : Level) × Among (nest_of G root inner) l × (l.header ≡ s.other) → (l : Level) × Among (nest_of G root inner) l × (l.depth ≡ 1) × (has l.body m.header ≡ true)
      by l = (l.0, l.1, one l.0 l.1 l.2, body_in l.0 l.1 m.header (subst (λ z. InBody G z m.header) (sym l.2) s.holds.holds))
        where
          one : (l : Level) → Among (nest_of G root inner) l → l.header ≡ s.other → l.depth ≡ 1
          one l i q =
              just_one (IsRound G root.header l.header) l.depth root.header (loop_of l i).depth (record { nest = in_nest root (inl refl); other = λ r. s.differs (sym (r ∙ q)); holds = (in_nest l i).inside }) only
            where
              holds : InBody G l.header m.header
              holds = subst (λ z. InBody G z m.header) (sym q) s.holds.holds

              only : (x : ℕ) → IsRound G root.header l.header x → x ≡ root.header
              only x r =
                  go (s.only x
                  (record {
                    nest = r.nest;
                    other = λ f. s.holds.other (sym q ∙ sym (not_both l.header m.header (in_nest m j) (in_nest l i) (subst (λ z. InBody G z l.header) f r.holds) holds));
                    holds = round_in l.header x m.header r.nest (in_nest l i) r.holds holds;
                  }))
                where
                  go : (x ≡ root.header) ⊎ (x ≡ s.other) → x ≡ root.header
                  go (inl f) = f
                  go (inr f) = absurd (r.other (f ∙ sym q))

  -- an edge to a header from its body is the back edge
  back_is : (l : Level) (i : Among (nest_of G root inner) l) (y : ℕ) → Edge (nest_of G root inner) l.body y l.header → y ≡ l.back
  back_is l i y d =
      (loop_of l i).shape.one_back.only y
      (record {
        edge = is_leads G y l.header d.leads;
        word = (closed l i).word;
        small = record { members = (closed l i).small.members; bound = (closed l i).small.bound; all = λ x p. (closed l i).small.all x (sub x p) };
        entry = λ x p. (closed l i).entry x (sub x p);
      })
    where
      sub : (x : ℕ) → InPart G l.header y x → InPart G l.header l.back x
      sub x (inl e) = inl e
      sub x (inr r) = by (part_of l i y (in_body l i y d.from))
        where
          by : InPart G l.header l.back y → InPart G l.header l.back x
          by (inl e) = absurd (ends_in x y r e)
          by (inr t) = inr (join y l.back x t r)

  way_past : (l : Level) (e : ℕ) (ys : List ℕ) (x : ℕ) → IsPassTo (nest_of G root inner) l ys x → has (x ∷ ys) e ≡ false → ReachesPast G e l.header x
  way_past l e [] x w f = subst (λ z. ReachesPast G e z x) w (stop (Leads G) (λ y. y ≢ e) x (go (x == e) refl f))
    where
      go : (b : Bool) → (x == e) ≡ b → (if b then true else false) ≡ false → x ≢ e
      go true q f = absurd (cc)
      go false q f = ne_of x e q
  way_past l e (y ∷ ys) x w f = go (x == e) refl f (way_past l e ys y w.2)
    where
      go : (b : Bool) → (x == e) ≡ b → (if b then true else has (y ∷ ys) e) ≡ false → (has (y ∷ ys) e ≡ false → ReachesPast G e l.header y) → ReachesPast G e l.header x
      go true q f later = absurd (cc)
      go false q f later = let r = later f in further l.header y x r (is_leads G y x (w.0).leads) (ends_in l.header y r) (ne_of x e q)

  -- the exit branch lies on each pass
  exits_lie : (l : Level) → Among (nest_of G root inner) l → (ys : List ℕ) → IsPass (nest_of G root inner) l ys → has ys l.exit ≡ true
  exits_lie l i [] p = absurd p
  exits_lie l i (y ∷ ys) p = by (true_or_false (has (y ∷ ys) l.exit))
    where
      by : (has (y ∷ ys) l.exit ≡ true) ⊎ (has (y ∷ ys) l.exit ≡ false) → has (y ∷ ys) l.exit ≡ true
      by (inl e) = e
      by (inr e) = absurd ((loop_of l i).shape.branch.passed (subst (ReachesPast G l.exit l.header) (back_is l i y p.0) (way_past l l.exit ys y p.1 e)))

  -- one forward step or more
  record Onward (u v : ℕ) : Type 0 where
    pub next : ℕ
    pub step : IsForward G root.header u next
    pub rest : Reaches (IsForward G root.header) (InBody G root.header) next v

  forward_step : (u v : ℕ) → is_forward (nest_of G root inner) u v ≡ true → IsForward G root.header u v
  forward_step u v e =
      let a = is_forward_edge (nest_of G root inner) u v e in
      record {
        edge = is_leads G u v (a.0).leads;
        from_inside = in_body root (inl refl) u (a.0).from;
        to_inside = in_body root (inl refl) v (a.0).to;
        open_edge = λ c. no_close a.1 c (level_of v (record { header = record { source = u; closed = c }; inside = in_body root (inl refl) v (a.0).to }));
      }
    where
      no_close : ClosesNone (nest_of G root inner) u v → IsClosed G v u → (l : Level) × Among (nest_of G root inner) l × (l.header ≡ v) → ⊥
      no_close f c l = f l.0 l.1 (body_in l.0 l.1 u (subst (λ z. InBody G z u) (sym l.2) (record { source = u; closed = c; part = part (cases_eq u v) }))) (sym l.2)
        where
          part : (u ≡ v) ⊎ (u ≢ v) → InPart G v u u
          part (inl q) = inl q
          part (inr ne) = inr (stop (Leads G) (λ y. y ≢ v) u ne)

  -- there is a rank, as there is no cycle of forward steps
  ranked : IsRank (nest_of G root inner) (longest (nest_of G root inner) (length root.body)) (length root.body)
  ranked =
      rank_is (nest_of G root inner) Onward
      (λ u v e. let s = forward_step u v e in record { next = v; step = s; rest = stop (IsForward G root.header) (InBody G root.header) v s.to_inside })
      (λ u v w q e. let s = forward_step v w e in record { next = q.next; step = q.step; rest = further q.next v w q.rest s s.from_inside s.to_inside })
      (λ x q. (loop_of root (inl refl)).shape.branch.acyclic x (record { next = q.next; step = q.step; rest = q.rest }))

  -- a word of a body that is not its exit branch leads to words of the body alone
  stays_in : (l : Level) → Among (nest_of G root inner) l → (u v : ℕ) → has l.body u ≡ true → u ≢ l.exit → leads_in G.words u v ≡ true → has l.body v ≡ true
  stays_in l i u v h ne e = by (true_or_false (has l.body v))
    where
      by : (has l.body v ≡ true) ⊎ (has l.body v ≡ false) → has l.body v ≡ true
      by (inl f) = f
      by (inr f) =
          absurd (ne ((loop_of l i).shape.one_exit.only u v (record { edge = is_leads G u v e; inside = in_body l i u h; outside = λ b. yes_no _ (body_in l i v b) f })).0)

  -- the exit branch has one side in the body and one outside
  sides : (l : Level) → Among (nest_of G root inner) l → HasSides (nest_of G root inner) l
  sides l i =
      let s = (loop_of l i).shape in
      record {
        inside = body_in l i l.exit s.one_exit.leaves.inside;
        on = s.branch.stays.side;
        leads_on = leads_is G l.exit s.branch.stays.side s.branch.stays.step;
        stays = body_in l i s.branch.stays.side s.branch.stays.inside;
        out = s.target;
        leads_out = leads_is G l.exit s.target s.one_exit.leaves.edge;
        leaves = not_in (true_or_false (has l.body s.target));
      }
    where
      not_in : (has l.body (loop_of l i).shape.target ≡ true) ⊎ (has l.body (loop_of l i).shape.target ≡ false) → has l.body (loop_of l i).shape.target ≡ false
      not_in (inl e) = absurd ((loop_of l i).shape.one_exit.leaves.outside (in_body l i (loop_of l i).shape.target e))
      not_in (inr e) = e

  -- inner loops have other headers
  inner_header : (m : Level) → IsListedIn inner m → m.header ≢ root.header
  inner_header m i e = by (subst (λ (xs : List ℕ). In xs m.header) (ap tail_of heads) (header_in inner m i))
    where
      tail_of : List ℕ → List ℕ
      tail_of [] = []
      tail_of (x ∷ xs) = xs

      by : In g.are.inner m.header → ⊥
      by j = (each_in (IsInner G root.header) g.are.inner g.are.are_inner m.header j).other e

  -- the root's exit branch lies in no inner loop
  exit_outermost : (m : Level) → IsListedIn inner m → has m.body root.exit ≡ true → ⊥
  exit_outermost m i h = (loop_of root (inl refl)).shape.branch.outermost m.header (record { header = (in_nest m (inr i)).header; inside = (in_nest m (inr i)).inside; other = inner_header m i }) (in_body m (inr i) root.exit h)

  -- each word of the root's body but its header is led to from the body, and an inner header from outside its loop
  entered : (v : ℕ) → has root.body v ≡ true → v ≢ root.header → IsEntered (nest_of G root inner) v
  entered v h ne = by (first_hit (tests G) r.words r.start v r.path (λ e. ne (starts_alone e)))
    where
      closed_root : IsClosedPath (tests G) root.header root.back
      closed_root = tested_closed root (inl refl)

      r : IsFromStart (tests G) v
      r = to_reached G v (g.starts v (word_in G root.header root.back v (closed root (inl refl)) (part_of root (inl refl) v (in_body root (inl refl) v h))))

      -- no start word but the header is in the body
      starts_alone : r.start ≡ v → v ≡ root.header
      starts_alone e = closed_root.starts v (in_tests root (inl refl) v h) (subst (λ x. has G.starts x ≡ true) e r.starts)

      by : (u : ℕ) × (ys : List ℕ) × IsPath (tests G) ys r.start u × (has (r.start ∷ ys) v ≡ false) × (leads_in G.words u v ≡ true) → IsEntered (nest_of G root inner) v
      by p =
          record {
            from = p.0;
            edge = record { from = tests_in root (inl refl) p.0 (before (tests G) root.header root.back p.0 v p.4 ne (in_tests root (inl refl) v h)); to = h; leads = p.4 };
            outside = λ l i q. out l i q (true_or_false (has l.body p.0));
          }
        where
          out : (l : Level) → Among (nest_of G root inner) l → v ≡ l.header → (has l.body p.0 ≡ true) ⊎ (has l.body p.0 ≡ false) → has l.body p.0 ≡ false
          out l i q (inr e) = e
          out l i q (inl e) =
              let b = backwards (tests G) l.header l.back p.1 r.start p.0 p.2 (subst (λ x. has (r.start ∷ p.1) x ≡ false) q p.3) (in_tests l i p.0 e) in
              absurd (ne (starts_alone ((tested_closed l i).starts r.start b r.starts ∙ sym q)))

  -- no inner loop is listed twice, and none is of depth 0
  distinct_inner : (ls : List Level) → Apart (map (λ (l : Level). l.header) ls) → AreDistinct ls
  distinct_inner [] a = tt
  distinct_inner (l ∷ ls) a = ((λ i. a.0 (header_in ls l i)), distinct_inner ls a.1)

  are_distinct : AreDistinct inner
  are_distinct = distinct_inner inner (subst Apart (sym (ap tails heads)) (apart_in (IsInner G root.header) g.are.inner g.are.are_inner))

  inner_deep : (l : Level) → IsListedIn inner l → l.depth ≢ 0
  inner_deep l i e =
      inner_header l i (sym (ap (λ (z : Level). z.header) (alone root l (inl refl) (inr i) (outermost ∙ sym e) l.header (within l (inr i) l.header (own_header l (inr i))) (own_header l (inr i)))))

  -- the back edge stands
  closes : (l : Level) → Among (nest_of G root inner) l → Edge (nest_of G root inner) l.body l.back l.header
  closes l i = record { from = tests_in l i l.back (source_in (cases_eq l.back l.header)); to = own_header l i; leads = leads_is G l.back l.header (closed l i).edge }
    where
      source_in : (l.back ≡ l.header) ⊎ (l.back ≢ l.header) → InPathBody (tests G) l.header l.back l.back
      source_in (inl e) = inl e
      source_in (inr ne) = to_body G l.header l.back l.back (inr (stop (Leads G) (λ y. y ≢ l.header) l.back ne))

  bodies : AreNested (nest_of G root inner)
  bodies =
      record {
        header = own_header;
        within = within;
        enter = enter;
        nested = nested_in;
        apart = apart_in_nest;
        alone = alone;
        deeper = deeper;
        outermost = outermost;
        inner_deep = inner_deep;
        depth = λ l i. let a = at_most (IsRound G root.header l.header) l.depth 2 (loop_of l i).depth (g.small.levels l.header (in_nest l i)) in omega arith;
        between = between;
        distinct = are_distinct;
        inner_header = inner_header;
      }

  shapes : HasShapes (nest_of G root inner)
  shapes =
      record {
        closes = closes;
        back = back_is;
        sides = sides;
        stays_in = stays_in;
        exits_lie = exits_lie;
        exit_outermost = λ l i. not_true (has l.body root.exit) (exit_outermost l i);
        ranked = record { rank = longest (nest_of G root inner) (length root.body); bound = length root.body; is = ranked };
        entered = entered;
      }

  pub is_nest : IsNest (nest_of G root inner)
  is_nest = record { bodies = bodies; shapes = shapes }

  pub few : length inner ≤ 3
  few =
      let n = length-map (root ∷ inner) (λ (l : Level). l.header) in
      let a : length (map (λ (l : Level). l.header) (root ∷ inner)) ≤ length g.small.loops.members = pigeons (map (λ (l : Level). l.header) (root ∷ inner)) g.small.loops.members apart_heads (λ x i. to_in g.small.loops.members x (g.small.loops.all x (nest_at x i))) in
      let b = g.small.loops.bound in
      let c : length (root ∷ inner) ≡ suc (length inner) = refl in
      omega arith
    where
      nest_at : (x : ℕ) → In (map (λ (l : Level). l.header) (root ∷ inner)) x → InNest G root.header x
      nest_at x i = let l = level_at (root ∷ inner) x i in subst (InNest G root.header) l.2 (in_nest l.0 l.1)

-- what the levels of a loop without an early verdict promise
from_levels : (elf : Elf) (G : Graph) (h : ℕ) (ls : List Level) → IsGraph elf G → IsPlain G h → IsSmallNest G h → AreLevels G h ls → AreNestAt G h ls
from_levels elf G h [] graph plain small a = absurd (let e = a.headers in cc)
from_levels elf G h (root ∷ inner) graph plain small a = record { nest = nest; root_header = same }
  where
    same : root.header ≡ h
    same = let e = a.headers in cc

    p : IsPlain G root.header
    p = subst (IsPlain G) (sym same) plain

    g : Given G root inner
    g = record { starts = from_starts elf G graph; are = subst (λ x. AreLevels G x (root ∷ inner)) (sym same) a; small = subst (IsSmallNest G) (sym same) small }

    rest : map (λ (l : Level). l.header) inner ≡ a.inner
    rest = let e = a.headers in cc

    nest : AreNest G (root ∷ inner)
    nest =
        record {
          root = root;
          inner = inner;
          are = refl;
          few = few G root inner g;
          inner_ordered = subst IsStrictlyIncreasing (sym rest) a.are_inner.ordered;
          nest = is_nest G root inner g;
          ordered = λ l i. (loop_of G root inner g l i).body.ordered;
          short = at_most (InBody G root.header) (length root.body) 256 (record { members = root.body; are = (loop_of G root inner g root (inl refl)).body; count = refl }) p.short;
          words = λ u i. loop_word elf G graph root.header u p (in_body G root inner g root (inl refl) u i);
          branches = λ l i. (loop_of G root inner g l i).shape.branch.branch;
        }

pub nest_law : NestLaw
nest_law elf G s graph loop none =
    let early : IsEarly G s.header None = subst (IsEarly G s.header) none loop.early in
    let levels : AreLevels G s.header s.levels = subst (λ (o : Option Verdict). HasLevels G s.header o s.levels) none loop.levels in
    from_levels elf G s.header s.levels graph early.0 early.2 levels
