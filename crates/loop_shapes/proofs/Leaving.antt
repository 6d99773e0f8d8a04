-- The one back edge and the one exit of a loop, by places.
use Rattle.std.proofs.Common.{◌≡◌, ◌≢◌, ℕ, ◌+◌, ◌<◌, ◌≤◌, ◌⊎◌, ◌↔◌, inl, inr, Bool, true, false, not, List, [], ◌∷◌, length, get_or, map, refl, ap, sym, ◌∙◌, subst, arith}
use Rattle.std.specs.List.{Contains}
use Rattle.std.proofs.lemmas.Bool.{cases_eq, cases_lt, false≢true}
use Rattle.std.proofs.lemmas.List.{get_or_default, length-map}
use Rattle.std.proofs.lemmas.List.Elements.{Contains-get_or}
use Rattle.strong_components.specs.declared.graph.Successors.{Successors}
use Rattle.strong_components.specs.Graph.{IsEdge, LeadsTo}
use Rattle.loop_data.specs.declared.graph.Graph.{Graph}
use Rattle.loop_data.specs.Paths.{addresses, IsInOrder, Leads}
use Rattle.loop_data.specs.Sets.{HasAtMost}
use Rattle.loop_data.specs.Bodies.{IsClosed, InBody, InPart, ReachesPast}
use Rattle.loop_data.specs.Shape.{IsOneBack, IsOneExit, IsSide, LeavesBy}
use Rattle.loop_data.proofs.Lists.{In, to_in, pigeons}
use Rattle.loop_data.proofs.Ways.{stop, step, backward, starts_in, ends_in}
use Rattle.loop_shapes.specs.Astray.{LeadsAstray}
use Rattle.loop_shapes.specs.Gains.{IsOnly}
use Rattle.loop_shapes.specs.LoopBody.{LeadsIn, LeadsOut, IsLeftFrom, IsLeftOnlyFrom}
use Rattle.loop_shapes.specs.Net.{AreAt, HasPart, IsAmong, IsPart}
use Rattle.loop_shapes.specs.Numbers.{AreNodes}
use Rattle.loop_shapes.specs.Places.{count_of, at}
use Rattle.loop_shapes.specs.Sets.{AreDifferent}
use Rattle.loop_shapes.proofs.Cutting.{node_at}
use Rattle.loop_shapes.proofs.Parts.{HasPlace, place_of_source, place_of_word, contains_map}
use Rattle.loop_shapes.proofs.Programs.{word_of_body}
use Rattle.loop_shapes.proofs.Rounds.{decide}
use Rattle.loop_shapes.proofs.Rows.{same_place}
use Rattle.loop_shapes.specs.Lines.{IsRowOf}

-- the place of the only closed edge's source
pub back_by : (G : Graph) (place h : ℕ) (xs : List ℕ) (source : ℕ) → at G place ≡ h → IsRowOf G (IsClosed G) place xs → IsOnly xs source → IsOneBack G h (at G source)
back_by G place h xs source is c o = record { closed = subst (λ (q : ℕ). IsClosed G q (at G source)) is (c.each source o.among).1; only = only }
  where
    only : (u : ℕ) → IsClosed G h u → u ≡ at G source
    only u k =
        let p = place_of_source G u h k.edge in
        let m = c.every p.place p.within (subst (λ (q : ℕ). IsClosed G q (at G p.place)) (sym is) (subst (IsClosed G h) (sym p.is) k)) in
        sym p.is ∙ ap (at G) (o.same p.place m)

pub no_back_by : (G : Graph) (place h : ℕ) (xs : List ℕ) (inside : (i : ℕ) → Contains xs i → i < count_of G) → ((i j : ℕ) → i < count_of G → j < count_of G → at G i ≡ at G j → i ≡ j) → at G place ≡ h → IsRowOf G (IsClosed G) place xs → ((source : ℕ) → ¬ IsOnly xs source) → (u : ℕ) → ¬ IsOneBack G h u
no_back_by G place h xs inside same_at is c none u b = none p.place (record { among = among; same = same })
  where
    p : HasPlace G u
    p = place_of_source G u h b.closed.edge

    among : Contains xs p.place
    among = c.every p.place p.within (subst (λ (q : ℕ). IsClosed G q (at G p.place)) (sym is) (subst (IsClosed G h) (sym p.is) b.closed))

    same : (f : ℕ) → Contains xs f → f ≡ p.place
    same f m = same_at f p.place (inside f m) p.within (b.only (at G f) (subst (λ (q : ℕ). IsClosed G q (at G f)) is (c.each f m).1) ∙ sym p.is)

-- the flag that was read at a place
pub read_flag : (flags : List Bool) (i n : ℕ) (r b : Bool) → i < n → length flags ≡ n → r ≡ get_or flags i r → r ≡ b → get_or flags i false ≡ b
read_flag flags i n r b l c e f = sym (get_or_default flags i r false (omega arith)) ∙ sym e ∙ f

-- no edge leaves a loop from its places between these two
pub record NoneLeft (G : Graph) (h : ℕ) (places : List ℕ) (from i : ℕ) : Type 0 where
  pub from_on : from ≤ i
  pub within : i ≤ length places
  pub none : (k : ℕ) → from ≤ k → k < i → ¬ IsLeftFrom G h (at G (get_or places k 0))

pub none_more : (G : Graph) (h : ℕ) (places : List ℕ) (from i : ℕ) → i < length places → ¬ IsLeftFrom G h (at G (get_or places i 0)) → NoneLeft G h places from i → NoneLeft G h places from (i + 1)
none_more G h places from i l here n =
    let a = n.from_on in
    record { from_on = omega arith; within = omega arith; none = λ k m q. by k m (cases_lt k i) q }
  where
    by : (k : ℕ) → from ≤ k → (k < i) ⊎ (i ≤ k) → k < i + 1 → ¬ IsLeftFrom G h (at G (get_or places k 0))
    by k m (inl q) r = n.none k m q
    by k m (inr q) r = let e : i ≡ k = omega arith in subst (λ (z : ℕ). ¬ IsLeftFrom G h (at G (get_or places z 0))) e here

-- the words of a loop by their places
module _ (G : Graph) (up : IsInOrder G) (h : ℕ) (places : List ℕ) (a : AreAt G (InBody G h) places) where
  pub place_in : (i : ℕ) → i < count_of G → InBody G h (at G i) → Contains places i
  place_in i l b = let m = a.every (at G i) b in subst (Contains places) (same_place (addresses G) up m.place i (a.each m.place m.among).0 l m.is) m.among

  pub left_astray : (place : ℕ) → Contains places place → LeadsAstray G (at G place) → IsLeftFrom G h (at G place)
  left_astray place c s = record { to = s.to; leaves = record { edge = s.edge; inside = (a.each place c).1; outside = λ b. s.no_word (word_of_body G h s.to b) } }

  module _ (nodes : List Successors) (n : AreNodes G nodes) (place : ℕ) (c : Contains places place) (v : Successors) (is : v ≡ get_or nodes place v) where
    node : (b : ℕ) → LeadsTo v b ↔ IsEdge nodes place b
    node b = let l = (a.each place c).0 in let m = n.count in node_at nodes place b v (omega arith) is

    pub target_within : (b : ℕ) → LeadsTo v b → b < count_of G
    target_within b e = (n.each place b ((node b).0 e)).1

    out_by : (to : ℕ) → LeadsTo v to → ¬ Contains places to → IsLeftFrom G h (at G place)
    out_by to e absent =
        let q = n.each place to ((node to).0 e) in
        record { to = at G to; leaves = record { edge = q.2; inside = (a.each place c).1; outside = λ b. absent (place_in to q.1 b) } }

    pub left_first : LeadsOut places v.first → IsLeftFrom G h (at G place)
    left_first o = out_by o.to (inl o.is) o.absent

    pub left_second : LeadsOut places v.second → IsLeftFrom G h (at G place)
    left_second o = out_by o.to (inr o.is) o.absent

    pub left_back : ¬ LeadsAstray G (at G place) → ¬ LeadsOut places v.first → IsLeftFrom G h (at G place) → LeadsOut places v.second
    left_back stray first x = by (decide (addresses G) x.to)
      where
        edge : (p : HasPlace G x.to) → LeadsTo v p.place → LeadsOut places v.second
        edge p (inl e) = absurd (first (record { to = p.place; is = e; absent = λ m. x.leaves.outside (subst (InBody G h) p.is (a.each p.place m).1) }))
        edge p (inr e) = record { to = p.place; is = e; absent = λ m. x.leaves.outside (subst (InBody G h) p.is (a.each p.place m).1) }

        by : Contains (addresses G) x.to ⊎ ¬ Contains (addresses G) x.to → LeadsOut places v.second
        by (inl w) =
            let p = place_of_word G x.to w in
            edge p ((node p.place).1 (n.every place p.place (a.each place c).0 p.within (subst (Leads G (at G place)) (sym p.is) x.leaves.edge)))
        by (inr w) = absurd (stray (record { to = x.to; edge = x.leaves.edge; no_word = w }))

    in_by : (to : ℕ) → LeadsTo v to → Contains places to → IsSide G h (at G place)
    in_by to e among =
        let q = n.each place to ((node to).0 e) in
        record { side = at G to; step = q.2; inside = (a.each to among).1 }

    pub side_first : LeadsIn places v.first → IsSide G h (at G place)
    side_first o = in_by o.to (inl o.is) o.among

    pub side_second : LeadsIn places v.second → IsSide G h (at G place)
    side_second o = in_by o.to (inr o.is) o.among

    pub side_back : ¬ LeadsIn places v.first → IsSide G h (at G place) → LeadsIn places v.second
    side_back first s = by ((node m.place).1 (n.every place m.place (a.each place c).0 (a.each m.place m.among).0 (subst (Leads G (at G place)) (sym m.is) s.step)))
      where
        m : IsAmong G places s.side
        m = a.every s.side s.inside

        by : LeadsTo v m.place → LeadsIn places v.second
        by (inl e) = absurd (first (record { to = m.place; is = e; among = m.among }))
        by (inr e) = record { to = m.place; is = e; among = m.among }

  -- of the only two places from which edges leave, one is no such place
  pub two_exits : AreDifferent places → (i j : ℕ) → i < j → j < length places → IsLeftFrom G h (at G (get_or places i 0)) → IsLeftFrom G h (at G (get_or places j 0)) → (x : ℕ) → ¬ IsLeftOnlyFrom G h x
  two_exits apart i j l m p q x o =
      let c = Contains-get_or places i 0 (omega arith) in
      let d = Contains-get_or places j 0 m in
      apart i j l m (same_place (addresses G) up (get_or places i 0) (get_or places j 0) (a.each (get_or places i 0) c).0 (a.each (get_or places j 0) d).0 (o.only (at G (get_or places i 0)) p ∙ sym (o.only (at G (get_or places j 0)) q)))

  -- the place of the word that a leaving edge starts from
  left_place : (x : ℕ) → IsLeftFrom G h x → (k : ℕ) × (k < length places) × (at G (get_or places k 0) ≡ x)
  left_place x l =
      let m = a.every x l.leaves.inside in
      let c = m.among in
      (c.0, c.1, ap (at G) (get_or_default places c.0 0 m.place c.1 ∙ c.2) ∙ m.is)

  pub no_exit : ((k : ℕ) → k < length places → ¬ IsLeftFrom G h (at G (get_or places k 0))) → (x : ℕ) → ¬ IsLeftOnlyFrom G h x
  no_exit none x o =
      let p = left_place x o.left in
      none p.0 p.1 (subst (IsLeftFrom G h) (sym p.2) o.left)

  pub one_exit : (i : ℕ) → IsLeftFrom G h (at G (get_or places i 0)) → ((k : ℕ) → k < i → ¬ IsLeftFrom G h (at G (get_or places k 0))) → ((k : ℕ) → i + 1 ≤ k → k < length places → ¬ IsLeftFrom G h (at G (get_or places k 0))) → IsLeftOnlyFrom G h (at G (get_or places i 0))
  one_exit i l before behind = record { left = l; only = λ y m. by y m (left_place y m) }
    where
      by : (y : ℕ) → IsLeftFrom G h y → (k : ℕ) × (k < length places) × (at G (get_or places k 0) ≡ y) → y ≡ at G (get_or places i 0)
      by y m p = at_place (cases_eq p.0 i)
        where
          other : p.0 ≢ i → (p.0 < i) ⊎ (i ≤ p.0) → ⊥
          other ne (inl q) = before p.0 q (subst (IsLeftFrom G h) (sym p.2) m)
          other ne (inr q) = behind p.0 (omega arith) p.1 (subst (IsLeftFrom G h) (sym p.2) m)

          at_place : (p.0 ≡ i) ⊎ (p.0 ≢ i) → y ≡ at G (get_or places i 0)
          at_place (inl e) = sym p.2 ∙ ap (λ k. at G (get_or places k 0)) e
          at_place (inr ne) = absurd (other ne (cases_lt p.0 i))

-- a word of at most two edges, of which one stays, is left by one edge
pub one_edge : (G : Graph) (h x : ℕ) (steps : List ℕ) → length steps ≤ 2 → ((y : ℕ) → Contains steps y ↔ Leads G x y) → IsLeftOnlyFrom G h x → IsSide G h x → (to : ℕ) × IsOneExit G h (x, to)
one_edge G h x steps few exact l s = (l.left.to, record { leaves = l.left.leaves; only = λ from to m. (l.only from (record { to = to; leaves = m }), same to (subst (λ (z : ℕ). LeavesBy G h z to) (l.only from (record { to = to; leaves = m })) m) (cases_eq to l.left.to)) })
  where
    stays : (y : ℕ) → LeavesBy G h x y → y ≢ s.side
    stays y m e = m.outside (subst (InBody G h) (sym e) s.inside)

    same : (to : ℕ) → LeavesBy G h x to → (to ≡ l.left.to) ⊎ (to ≢ l.left.to) → to ≡ l.left.to
    same to m (inl e) = e
    same to m (inr ne) =
        let more : length (to ∷ l.left.to ∷ s.side ∷ []) ≤ length steps = pigeons (to ∷ l.left.to ∷ s.side ∷ []) steps (first, (second, ((λ i. i), tt))) inside in
        absurd (omega arith)
      where
        first : In (l.left.to ∷ s.side ∷ []) to → ⊥
        first (inl e) = ne (sym e)
        first (inr (inl e)) = stays to m (sym e)
        first (inr (inr i)) = i

        second : In (s.side ∷ []) l.left.to → ⊥
        second (inl e) = stays l.left.to l.left.leaves (sym e)
        second (inr i) = i

        inside : (y : ℕ) → In (to ∷ l.left.to ∷ s.side ∷ []) y → In steps y
        inside y (inl e) = to_in steps y (subst (Contains steps) e ((exact to).1 m.edge))
        inside y (inr (inl e)) = to_in steps y (subst (Contains steps) e ((exact l.left.to).1 l.left.leaves.edge))
        inside y (inr (inr (inl e))) = to_in steps y (subst (Contains steps) e ((exact s.side).1 s.step))
        inside y (inr (inr (inr i))) = absurd i

pub part_large : (G : Graph) (h u : ℕ) (found : List ℕ) (small : Bool) → small ≡ false → HasPart small G h u found → ¬ HasAtMost 256 (InPart G (at G h) (at G u))
part_large G h u found true e p = absurd (false≢true (sym e))
part_large G h u found false e p = p

-- the header is found round the exit where a way leads from it to the back edge
pub passed_by : (G : Graph) → IsInOrder G → (header back exit : ℕ) (found : List ℕ) (b : Bool) → IsPart G exit back found → header < count_of G → exit < count_of G → exit ≢ header → (b ≡ true) ↔ Contains found header → (not b ≡ true) ↔ (¬ ReachesPast G (at G exit) (at G header) (at G back))
passed_by G up header back exit found b p lh le ne says = (λ t r. no b t (says.1 (there r)), λ none. yes b (λ t. none (back_way (p.1.each header (says.0 t)).1)))
  where
    there : ReachesPast G (at G exit) (at G header) (at G back) → Contains found header
    there r =
        let m = p.1.every (at G header) (inr r) in
        subst (Contains found) (same_place (addresses G) up m.place header (p.1.each m.place m.among).0 lh m.is) m.among

    back_way : InPart G (at G exit) (at G back) (at G header) → ReachesPast G (at G exit) (at G header) (at G back)
    back_way (inl e) = absurd (ne (same_place (addresses G) up exit header le lh (sym e)))
    back_way (inr r) = r

    no : (b : Bool) → not b ≡ true → b ≡ true → ⊥
    no true t e = false≢true t
    no false t e = false≢true e

    yes : (b : Bool) → (b ≡ true → ⊥) → not b ≡ true
    yes true f = absurd (f refl)
    yes false f = refl

-- where there is none, what leads to the back edge round the exit is in the loop
pub few_past : (G : Graph) (h back exit : ℕ) (places : List ℕ) → AreAt G (InBody G h) places → length places ≤ 256 → IsClosed G h back → InBody G h exit → ¬ ReachesPast G exit h back → HasAtMost 256 (InPart G exit back)
few_past G h back exit places a short closed inside none = record { members = map (at G) places; bound = subst (λ n. n ≤ 256) (sym (length-map places (at G))) short; all = λ x p. let m = a.every x (by x p) in contains_map (at G) places m.place x m.among m.is }
  where
    Round : ℕ → Type 0
    Round x = ReachesPast G exit x back × ReachesPast G h x back

    at_header : (x : ℕ) → ReachesPast G exit x back → x ≢ h
    at_header x r e = none (subst (λ (z : ℕ). ReachesPast G exit z back) e r)

    round : (x : ℕ) → ReachesPast G exit x back → Round x
    round x r = backward (Leads G) (λ z. z ≢ exit) Round back base prior x r
      where
        base : Round back
        base =
            let e = stop (Leads G) (λ z. z ≢ exit) back (ends_in x back r) in
            (e, stop (Leads G) (λ z. z ≢ h) back (at_header back e))

        prior : (y z : ℕ) → y ≢ exit → Leads G y z → z ≢ exit → Round z → Round y
        prior y z ny lead nz t =
            let e = step (Leads G) (λ z. z ≢ exit) y z back ny lead t.0 in
            (e, step (Leads G) (λ z. z ≢ h) y z back (at_header y e) lead t.1)

    by : (x : ℕ) → InPart G exit back x → InBody G h x
    by x (inl e) = subst (InBody G h) (sym e) inside
    by x (inr r) = record { source = back; closed = closed; part = inr (round x r).1 }

-- no way round the exit starts at the exit
pub passed_at_header : (G : Graph) (h back : ℕ) → ¬ ReachesPast G h h back
passed_at_header G h back r = starts_in h back r refl
