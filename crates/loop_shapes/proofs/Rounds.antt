-- The innermost and the outermost loop round each word, one closed edge after another.
use Rattle.std.proofs.Common.{◌≡◌, ◌≢◌, ℕ, ◌+◌, ◌<◌, ◌≤◌, ◌⊎◌, ◌↔◌, ◌==◌, inl, inr, Bool, true, false, Option, Some, None, List, [], ◌∷◌, length, get_or, replicate, refl, ap, sym, ◌∙◌, subst, arith}
use Rattle.std.specs.List.{Contains}
use Rattle.std.proofs.lemmas.Bool.{cases_eq, cases_lt}
use Rattle.std.proofs.lemmas.Bool.Decides.{nat_tests}
use Rattle.std.proofs.lemmas.List.{get_or-replicate, length-replicate, get_or_past, get_or_default}
use Rattle.loop_data.specs.declared.graph.Graph.{Graph}
use Rattle.loop_data.specs.Paths.{IsInOrder, addresses}
use Rattle.loop_shapes.specs.Places.{count_of, at}
use Rattle.loop_data.specs.Bodies.{IsClosed, InPart, InBody}
use Rattle.loop_shapes.specs.Net.{IsPart}
use Rattle.loop_data.specs.Shape.{IsInner}
use Rattle.loop_data.specs.Starts.{AreFromStarts}
use Rattle.loop_shapes.specs.Around.{entry_at, GivesWay, IsSettled, IsDone, IsMade, LiesRight, IsExtremalSoFar, AreExtremalSoFar, IsExtremalLoop, AreExtremalLoops}
use Rattle.loop_data.proofs.Lists.{In, to_in, from_in}
use Rattle.loop_shapes.proofs.Rows.{none_in, same_place}
use Rattle.loop_shapes.proofs.Parts.{word_at, place_of_source, place_of_word}
use Rattle.loop_shapes.proofs.Nesting.{meet, nested, within, same_loop, one_within}
use Rattle.loop_shapes.specs.Lines.{IsRowOf}

pub no_rounds : (G : Graph) (inner : Bool) (entries : List (Option ℕ)) → entries ≡ replicate (count_of G) None → AreExtremalSoFar G inner 0 [] entries
no_rounds G inner entries e = record { count = ap length e ∙ length-replicate (count_of G) None; none = λ i h u l q d p. nothing h u d; some = λ i m l q. absurd (empty i m l q) }
  where
    nothing : (h u : ℕ) → IsDone G 0 [] h u → ⊥
    nothing h u (inl d) = let l = d.0 in omega arith
    nothing h u (inr d) = none_in u d.1

    empty : (i m : ℕ) → i < count_of G → entry_at entries i ≡ Some m → ⊥
    empty i m l q =
        let f : None ≡ Some m = sym (ap (λ (xs : List (Option ℕ)). entry_at xs i) e ∙ get_or-replicate (count_of G) i None None l) ∙ q in
        absurd (cc)

-- what stands there at a place, or nothing
data Standing (o : Option ℕ) : Type 0 where
  nobody : o ≡ None → Standing o
  somebody : (m : ℕ) → o ≡ Some m → Standing o

standing : (o : Option ℕ) → Standing o
standing None = nobody refl
standing (Some m) = somebody m refl

-- a number is among others or not
pub decide : (xs : List ℕ) (x : ℕ) → Contains xs x ⊎ ¬ Contains xs x
decide xs x = by (go xs)
  where
    go : (ys : List ℕ) → In ys x ⊎ ¬ In ys x
    go [] = inr (λ i. i)
    go (y ∷ ys) = both (cases_eq y x) (go ys)
      where
        both : (y ≡ x) ⊎ (y ≢ x) → In ys x ⊎ ¬ In ys x → (((y ≡ x) ⊎ In ys x)) ⊎ ¬ ((y ≡ x) ⊎ In ys x)
        both (inl e) r = inl (inl e)
        both (inr n) (inl i) = inl (inr i)
        both (inr n) (inr f) = inr (λ q. neither q)
          where
            neither : (y ≡ x) ⊎ In ys x → ⊥
            neither (inl e) = n e
            neither (inr i) = f i

    by : In xs x ⊎ ¬ In xs x → Contains xs x ⊎ ¬ Contains xs x
    by (inl i) = inl (from_in xs x i)
    by (inr n) = inr (λ c. n (to_in xs x c))

module _ (G : Graph) (all : AreFromStarts G) (up : IsInOrder G) where
  -- a place found holds the word
  found_at : (h u : ℕ) (found : List ℕ) → IsPart G h u found → (i : ℕ) → i < count_of G → InPart G (at G h) (at G u) (at G i) → Contains found i
  found_at h u found p i l q =
      let a = p.1.every (at G i) q in
      subst (Contains found) (same_place (addresses G) up a.place i (p.1.each a.place a.among).0 l a.is) a.among

  module _ (header u : ℕ) (found row row' : List ℕ) (old new : List (Option ℕ)) (lh : header < count_of G) (c : IsClosed G (at G header) (at G u)) (p : IsPart G header u found) (grown : (v : ℕ) → Contains row' v → Contains row v ⊎ (v ≡ u)) (more : (v : ℕ) → Contains row v → Contains row' v) (last : Contains row' u) where
    -- an edge that is done was done before or is the new one
    split : (h v : ℕ) → IsDone G header row' h v → IsDone G header row h v ⊎ ((h ≡ header) × (v ≡ u))
    split h v (inl d) = inl (inl d)
    split h v (inr d) = by (grown v d.1)
      where
        by : Contains row v ⊎ (v ≡ u) → IsDone G header row h v ⊎ ((h ≡ header) × (v ≡ u))
        by (inl m) = inl (inr (d.0, m))
        by (inr e) = inr (d.0, e)

    -- and what was done before is done
    keep : (h v : ℕ) → IsDone G header row h v → IsDone G header row' h v
    keep h v (inl d) = inl d
    keep h v (inr d) = inr (d.0, more v d.1)

    made_still : (i m : ℕ) → IsMade G header row i m → IsMade G header row' i m
    made_still i m k = record { source = k.source; done = keep m k.source k.done; closed = k.closed; part = k.part }

    own : InBody G (at G header) (at G header)
    own = record { source = at G u; closed = c; part = inl refl }

    in_body : (i : ℕ) → Contains found i → InBody G (at G header) (at G i)
    in_body i m = record { source = at G u; closed = c; part = (p.1.each i m).1 }

    -- of two loops round a word one lies in the other
    one_in : (i m : ℕ) → m < count_of G → Contains found i → InBody G (at G m) (at G i) → Contains found m ⊎ InBody G (at G m) (at G header)
    one_in i m lm f b = by (meet G all (at G header) (at G u) (at G m) b.source (at G i) c b.closed (word_at G i (p.1.each i f).0) (p.1.each i f).1 b.part)
      where
        by : InPart G (at G header) (at G u) (at G m) ⊎ InPart G (at G m) b.source (at G header) → Contains found m ⊎ InBody G (at G m) (at G header)
        by (inl q) = inl (found_at header u found p m lm q)
        by (inr q) = inr (record { source = b.source; closed = b.closed; part = q })

    -- the new loop lies right of what it takes the place of, and so of all of that one's
    right_of_all : (inner : Bool) → (i m h : ℕ) → m < count_of G → Contains found i → InBody G (at G m) (at G i) → GivesWay inner found (Some m) → LiesRight G inner (at G m) (at G h) → LiesRight G inner (at G header) (at G h)
    right_of_all true i m h lm f b g o = by (one_in i m lm f b)
      where
        by : Contains found m ⊎ InBody G (at G m) (at G header) → InBody G (at G h) (at G header)
        by (inl q) = absurd (g q)
        by (inr q) = within G all (at G m) (at G h) (at G header) o q
    right_of_all false i m h lm f b g o = within G all (at G m) (at G header) (at G h) (in_body m g) o

    right_of_new : (inner : Bool) → (i m : ℕ) → m < count_of G → Contains found i → InBody G (at G m) (at G i) → ¬ GivesWay inner found (Some m) → LiesRight G inner (at G m) (at G header)
    right_of_new true i m lm f b g = by (decide found m)
      where
        by : Contains found m ⊎ ¬ Contains found m → InBody G (at G header) (at G m)
        by (inl q) = in_body m q
        by (inr q) = absurd (g q)
    right_of_new false i m lm f b g = by (one_in i m lm f b)
      where
        by : Contains found m ⊎ InBody G (at G m) (at G header) → InBody G (at G m) (at G header)
        by (inl q) = absurd (g q)
        by (inr q) = q

    right_of_own : (inner : Bool) → LiesRight G inner (at G header) (at G header)
    right_of_own true = own
    right_of_own false = own

    module _ (inner : Bool) (a : AreExtremalSoFar G inner header row old) (s : IsSettled inner found found header old new) where
      absent : (i h v : ℕ) → i < count_of G → ¬ Contains found i → (h ≡ header) × (v ≡ u) → InPart G (at G h) (at G v) (at G i) → ⊥
      absent i h v l n e q = n (found_at header u found p i l (subst (λ (z : ℕ). InPart G (at G header) (at G z) (at G i)) e.1 (subst (λ (z : ℕ). InPart G (at G z) (at G v) (at G i)) e.0 q)))

      moved : (m h : ℕ) → h ≡ header → LiesRight G inner (at G m) (at G header) → LiesRight G inner (at G m) (at G h)
      moved m h e o = subst (λ (z : ℕ). LiesRight G inner (at G m) (at G z)) (sym e) o

      -- what stood there before stays
      stays : (i m : ℕ) → i < count_of G → entry_at old i ≡ Some m → ((h v : ℕ) → (h ≡ header) × (v ≡ u) → InPart G (at G h) (at G v) (at G i) → LiesRight G inner (at G m) (at G header)) → IsExtremalSoFar G inner header row' i m
      stays i m l e new_edge = record { place = r.place; holds = r.holds; made = made_still i m r.made; order = λ h v d q. by h v q (split h v d) }
        where
          r : IsExtremalSoFar G inner header row i m
          r = a.some i m l e

          by : (h v : ℕ) → InPart G (at G h) (at G v) (at G i) → IsDone G header row h v ⊎ ((h ≡ header) × (v ≡ u)) → LiesRight G inner (at G m) (at G h)
          by h v q (inl d) = r.order h v d q
          by h v q (inr e) = moved m h e.0 (new_edge h v e q)

      -- the new loop takes its place
      taken : (i : ℕ) → i < count_of G → Contains found i → GivesWay inner found (entry_at old i) → IsExtremalSoFar G inner header row' i header
      taken i l f g = record { place = lh; holds = in_body i f; made = record { source = u; done = inr (refl, last); closed = c; part = (p.1.each i f).1 }; order = λ h v d q. by h v q (split h v d) (standing (entry_at old i)) }
        where
          by : (h v : ℕ) → InPart G (at G h) (at G v) (at G i) → IsDone G header row h v ⊎ ((h ≡ header) × (v ≡ u)) → Standing (entry_at old i) → LiesRight G inner (at G header) (at G h)
          by h v q (inr e) o = moved header h e.0 (right_of_own inner)
          by h v q (inl d) (nobody e) = absurd (a.none i h v l e d q)
          by h v q (inl d) (somebody m e) =
              let r = a.some i m l e in
              right_of_all inner i m h r.place f r.holds (subst (GivesWay inner found) e g) (r.order h v d q)

      some_at : (i m : ℕ) → i < count_of G → entry_at new i ≡ Some m → Contains found i ⊎ ¬ Contains found i → IsExtremalSoFar G inner header row' i m
      some_at i m l e (inr n) = stays i m l (sym (s.other i n) ∙ e) (λ h v q w. absurd (absent i h v l n q w))
      some_at i m l e (inl f) = by (gives inner (entry_at old i))
        where
          by : GivesWay inner found (entry_at old i) ⊎ ¬ GivesWay inner found (entry_at old i) → IsExtremalSoFar G inner header row' i m
          by (inl g) =
              let q : Some header ≡ Some m = sym (s.taken i f g) ∙ e in
              let same : header ≡ m = cc in
              subst (IsExtremalSoFar G inner header row' i) same (taken i l f g)
          by (inr n) =
              let q = sym (s.kept i f n) ∙ e in
              let r = a.some i m l q in
              stays i m l q (λ h v w z. right_of_new inner i m r.place f r.holds (λ g. n (subst (GivesWay inner found) (sym q) g)))

          gives : (inner : Bool) (o : Option ℕ) → GivesWay inner found o ⊎ ¬ GivesWay inner found o
          gives inner None = inl tt
          gives inner (Some k) = of_bool inner (decide found k)
            where
              of_bool : (inner : Bool) → Contains found k ⊎ ¬ Contains found k → GivesWay inner found (Some k) ⊎ ¬ GivesWay inner found (Some k)
              of_bool true (inl y) = inr (λ n. n y)
              of_bool true (inr n) = inl n
              of_bool false (inl y) = inl y
              of_bool false (inr n) = inr n

      none_at : (i h v : ℕ) → i < count_of G → entry_at new i ≡ None → IsDone G header row' h v → InPart G (at G h) (at G v) (at G i) → Contains found i ⊎ ¬ Contains found i → ⊥
      none_at i h v l e d q (inr n) = by (split h v d)
        where
          by : IsDone G header row h v ⊎ ((h ≡ header) × (v ≡ u)) → ⊥
          by (inl b) = a.none i h v l (sym (s.other i n) ∙ e) b q
          by (inr b) = absent i h v l n b q
      none_at i h v l e d q (inl f) = by (standing (entry_at old i))
        where
          by : Standing (entry_at old i) → ⊥
          by (nobody b) =
              let r : Some header ≡ None = sym (s.taken i f (subst (GivesWay inner found) (sym b) tt)) ∙ e in
              absurd (cc)
          by (somebody m b) = ways (none_or_some (entry_at old i) m b)
            where
              none_or_some : (o : Option ℕ) (m : ℕ) → o ≡ Some m → o ≡ None → ⊥
              none_or_some o m x y = absurd (cc)

              -- either it was taken by the new loop, or it stays
              ways : (entry_at old i ≡ None → ⊥) → ⊥
              ways held = not_taken (λ g. let r : Some header ≡ None = sym (s.taken i f g) ∙ e in absurd (cc))
                where
                  not_taken : ¬ GivesWay inner found (entry_at old i) → ⊥
                  not_taken n = held (sym (s.kept i f n) ∙ e)

      pub rounds_more : AreExtremalSoFar G inner header row' new
      rounds_more = record { count = s.count ∙ a.count; none = λ i h v l e d q. none_at i h v l e d q (decide found i); some = λ i m l e. some_at i m l e (decide found i) }

    -- where the outermost loop round the header stays, it stays round each word: that loop has them all
    module _ (a : AreExtremalSoFar G false header row old) where
      moved_part : (i h v : ℕ) → (h ≡ header) × (v ≡ u) → InPart G (at G h) (at G v) (at G i) → InPart G (at G header) (at G u) (at G i)
      moved_part i h v e q = subst (λ (z : ℕ). InPart G (at G header) (at G z) (at G i)) e.1 (subst (λ (z : ℕ). InPart G (at G z) (at G v) (at G i)) e.0 q)

      wider : (m : ℕ) → entry_at old header ≡ Some m → ¬ Contains found m → AreExtremalSoFar G false header row' old
      wider m q n = record { count = a.count; none = λ i h v l e d x. none_at i h v l e x (split h v d); some = some_at }
        where
          r : IsExtremalSoFar G false header row header m
          r = a.some header m lh q

          other : at G header ≢ at G m
          other f = n (subst (Contains found) (same_place (addresses G) up header m lh r.place f) (found_at header u found p header lh (inl refl)))

          inside : (i : ℕ) → InPart G (at G header) (at G u) (at G i) → InPart G (at G m) (at G r.made.source) (at G i)
          inside i x = nested G all (at G header) (at G u) (at G m) (at G r.made.source) (at G i) c r.made.closed other r.made.part x

          none_at : (i h v : ℕ) → i < count_of G → entry_at old i ≡ None → InPart G (at G h) (at G v) (at G i) → IsDone G header row h v ⊎ ((h ≡ header) × (v ≡ u)) → ⊥
          none_at i h v l e x (inl d) = a.none i h v l e d x
          none_at i h v l e x (inr d) = a.none i m r.made.source l e r.made.done (inside i (moved_part i h v d x))

          some_at : (i k : ℕ) → i < count_of G → entry_at old i ≡ Some k → IsExtremalSoFar G false header row' i k
          some_at i k l e = record { place = s.place; holds = s.holds; made = made_still i k s.made; order = λ h v d x. by h v x (split h v d) }
            where
              s : IsExtremalSoFar G false header row i k
              s = a.some i k l e

              by : (h v : ℕ) → InPart G (at G h) (at G v) (at G i) → IsDone G header row h v ⊎ ((h ≡ header) × (v ≡ u)) → InBody G (at G k) (at G h)
              by h v x (inl d) = s.order h v d x
              by h v x (inr d) = subst (λ (z : ℕ). InBody G (at G k) (at G z)) (sym d.0) (within G all (at G m) (at G k) (at G header) (s.order m r.made.source r.made.done (inside i (moved_part i h v d x))) r.holds)

      pub rounds_wider : ¬ GivesWay false found (entry_at old header) → AreExtremalSoFar G false header row' old
      rounds_wider g = by (standing (entry_at old header))
        where
          by : Standing (entry_at old header) → AreExtremalSoFar G false header row' old
          by (nobody e) = absurd (g (subst (GivesWay false found) (sym e) tt))
          by (somebody m e) = wider m e (λ f. g (subst (GivesWay false found) (sym e) f))

  -- all edges to a word are done
  pub rounds_next : (inner : Bool) (header : ℕ) (row : List ℕ) (entries : List (Option ℕ)) → IsRowOf G (IsClosed G) header row → AreExtremalSoFar G inner header row entries → AreExtremalSoFar G inner (header + 1) [] entries
  rounds_next inner header row entries c a = record { count = a.count; none = λ i h u l e d. a.none i h u l e (before h u d); some = λ i m l e. let r = a.some i m l e in record { place = r.place; holds = r.holds; made = record { source = r.made.source; done = after m r.made.source r.made.done; closed = r.made.closed; part = r.made.part }; order = λ h u d. r.order h u (before h u d) } }
    where
      after : (h u : ℕ) → IsDone G header row h u → IsDone G (header + 1) [] h u
      after h u (inl d) = let l = d.0 in inl (omega arith, d.1, d.2)
      after h u (inr d) =
          let k = d.0 in
          let s = c.each u d.1 in
          inl (omega arith, s.0, subst (λ (z : ℕ). IsClosed G (at G z) (at G u)) (sym d.0) s.1)

      before : (h u : ℕ) → IsDone G (header + 1) [] h u → IsDone G header row h u
      before h u (inr d) = none_in u d.1
      before h u (inl d) = by (cases_lt h header)
        where
          by : (h < header) ⊎ (header ≤ h) → IsDone G header row h u
          by (inl l) = inl (l, d.1, d.2)
          by (inr l) =
              let k = d.0 in
              let e : h ≡ header = omega arith in
              inr (e, c.every u d.1 (subst (λ (z : ℕ). IsClosed G (at G z) (at G u)) e d.2))

  -- all edges are done
  pub rounds_all : (inner : Bool) (n : ℕ) (entries : List (Option ℕ)) → count_of G ≤ n → AreExtremalSoFar G inner n [] entries → AreExtremalLoops G inner entries
  rounds_all inner n entries le a = record { count = a.count; none = none; some = λ i m l e. let r = a.some i m l e in record { place = r.place; holds = r.holds; order = λ k b. order i m r k b } }
    where
      none : (i k : ℕ) → i < count_of G → entry_at entries i ≡ None → InBody G k (at G i) → ⊥
      none i k l e b =
          let h = place_of_word G k b.closed.word in
          let u = place_of_source G b.source k b.closed.edge in
          let lh = h.within in
          let closed = subst (λ (z : ℕ). IsClosed G z (at G u.place)) (sym h.is) (subst (IsClosed G k) (sym u.is) b.closed) in
          a.none i h.place u.place l e (inl (omega arith, u.within, closed)) (subst (λ (z : ℕ). InPart G z (at G u.place) (at G i)) (sym h.is) (subst (λ (z : ℕ). InPart G k z (at G i)) (sym u.is) b.part))

      order : (i m : ℕ) → IsExtremalSoFar G inner n [] i m → (k : ℕ) → InBody G k (at G i) → LiesRight G inner (at G m) k
      order i m r k b =
          let h = place_of_word G k b.closed.word in
          let u = place_of_source G b.source k b.closed.edge in
          let lh = h.within in
          let closed = subst (λ (z : ℕ). IsClosed G z (at G u.place)) (sym h.is) (subst (IsClosed G k) (sym u.is) b.closed) in
          subst (LiesRight G inner (at G m)) h.is (r.order h.place u.place (inl (omega arith, u.within, closed)) (subst (λ (z : ℕ). InPart G z (at G u.place) (at G i)) (sym h.is) (subst (λ (z : ℕ). InPart G k z (at G i)) (sym u.is) b.part)))

pub entries_within : (G : Graph) (inner : Bool) (header : ℕ) (row : List ℕ) (entries : List (Option ℕ)) → AreExtremalSoFar G inner header row entries → (i m : ℕ) → entry_at entries i ≡ Some m → m < count_of G
entries_within G inner header row entries a i m e = by (cases_lt i (count_of G))
  where
    by : (i < count_of G) ⊎ (count_of G ≤ i) → m < count_of G
    by (inl l) = (a.some i m l e).place
    by (inr l) =
        let n = a.count in
        let q : None ≡ Some m = sym (get_or_past entries i None (omega arith)) ∙ e in
        absurd (cc)

-- a word that the innermost loop round it shares with another loop lies in no inner loop of that one
pub outermost_by : (G : Graph) (all : AreFromStarts G) (entries : List (Option ℕ)) → AreExtremalLoops G true entries → (i m h : ℕ) → i < count_of G → entry_at entries i ≡ Some m → InBody G h (at G i) → (at G m ≡ h) ↔ ((k : ℕ) → IsInner G h k → ¬ InBody G k (at G i))
outermost_by G all entries a i m h l e b = (there, back)
  where
    r : IsExtremalLoop G true i m
    r = a.some i m l e

    there : at G m ≡ h → (k : ℕ) → IsInner G h k → InBody G k (at G i) → ⊥
    there q k n c = n.other (sym (same_loop G all h k (subst (InBody G k) q (r.order k c)) n.inside))

    back : ((k : ℕ) → IsInner G h k → ¬ InBody G k (at G i)) → at G m ≡ h
    back f = by (cases_eq (at G m) h)
      where
        by : (at G m ≡ h) ⊎ (at G m ≢ h) → at G m ≡ h
        by (inl q) = q
        by (inr ne) = absurd (f (at G m) (record { header = record { source = r.holds.source; closed = r.holds.closed }; inside = r.order h b; other = ne }) r.holds)

-- two words are in one loop where the outermost loop round each is the same
pub one_loop : (G : Graph) (all : AreFromStarts G) → IsInOrder G → (entries : List (Option ℕ)) → AreExtremalLoops G false entries → (i j m n : ℕ) → i < count_of G → j < count_of G → entry_at entries i ≡ Some m → entry_at entries j ≡ Some n → (k : ℕ) → InBody G k (at G i) → InBody G k (at G j) → m ≡ n
one_loop G all up entries a i j m n li lj e f k b c = same_place (addresses G) up m n r.place s.place (by (one_within G all (at G m) (at G n) k b.closed.word (r.order k b) (s.order k c)))
  where
    r : IsExtremalLoop G false i m
    r = a.some i m li e

    s : IsExtremalLoop G false j n
    s = a.some j n lj f

    by : InBody G (at G m) (at G n) ⊎ InBody G (at G n) (at G m) → at G m ≡ at G n
    by (inl q) = same_loop G all (at G m) (at G n) (s.order (at G m) (within G all (at G n) (at G m) (at G j) q s.holds)) q
    by (inr q) = same_loop G all (at G m) (at G n) q (r.order (at G n) (within G all (at G m) (at G n) (at G i) q r.holds))

-- what was read at a place
pub read_entry : (entries : List (Option ℕ)) (i n : ℕ) (r o : Option ℕ) → i < n → length entries ≡ n → r ≡ get_or entries i r → r ≡ o → entry_at entries i ≡ o
read_entry entries i n r o l c e f = sym (get_or_default entries i r None (omega arith)) ∙ sym e ∙ f

-- whether two numbers are the same
pub same_test : (x y : ℕ) → ((x == y) ≡ true) ↔ (x ≡ y)
same_test x y = (λ t. there t, λ e. back e)
  where
    there : (x == y) ≡ true → x ≡ y
    there t = grind (arith, nat_tests)

    back : x ≡ y → (x == y) ≡ true
    back e = grind (arith, nat_tests)
