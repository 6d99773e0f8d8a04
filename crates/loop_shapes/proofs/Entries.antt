-- The entries of a cycle that closes into no loop.
use Rattle.std.proofs.Common.{◌≡◌, ◌≢◌, ℕ, ◌⊎◌, inl, inr, true, List, [], ◌∷◌, length, refl, sym, subst, arith}
use Rattle.std.specs.List.{Contains}
use Rattle.std.specs.Bool.{⊤}
use Rattle.std.proofs.lemmas.Bool.{cases_eq}
use Rattle.loop_data.specs.declared.graph.Graph.{Graph}
use Rattle.loop_data.specs.Paths.{Leads, Reaches, IsWord, IsWay}
use Rattle.loop_data.specs.Sets.{IsListOf, IsLeast, HasAtMost}
use Rattle.loop_data.specs.Bodies.{InPart, ReachesPast, IsHeader}
use Rattle.loop_shapes.specs.Gains.{HasAll}
use Rattle.loop_shapes.specs.Edges.{IsEdgeBetween}
use Rattle.loop_shapes.specs.Difference.{InDifference}
use Rattle.loop_shapes.specs.Entry.{IsLeastEdge, IsStartAmong}
use Rattle.loop_data.specs.Listed.{InCore, Enters, StartsIn, IsLeastEntrance, IsLeastStart}
use Rattle.loop_data.proofs.Ways.{stop, step, backward, forward, along, wider, starts_in, ends_in}
use Rattle.loop_data.proofs.Lists.{In, to_in, from_in}
use Rattle.loop_shapes.proofs.Rows.{alone}
use Rattle.loop_shapes.proofs.Programs.{word_of_source}

-- a way to a word, from the last time that it stands at g
module _ (G : Graph) (g u : ℕ) where
  from_past : (y : ℕ) → ReachesPast G g y u → Reaches (Leads G) (InPart G g u) y u
  from_past y r = wider (InPart G g u) (λ z l. inr l.1) y u (along y u r)

  pub home : Reaches (Leads G) (λ _. ⊤) g u → Reaches (Leads G) (InPart G g u) g u
  home r = end (backward (Leads G) (λ _. ⊤) (λ y. ReachesPast G g y u ⊎ Reaches (Leads G) (InPart G g u) g u) u (base (cases_eq u g)) prior g r)
    where
      base : (u ≡ g) ⊎ (u ≢ g) → ReachesPast G g u u ⊎ Reaches (Leads G) (InPart G g u) g u
      base (inl e) = inr (subst (λ (q : ℕ). Reaches (Leads G) (InPart G g u) q u) e (stop (Leads G) (InPart G g u) u (inl e)))
      base (inr ne) = inl (stop (Leads G) (λ y. y ≢ g) u ne)

      at : (x y : ℕ) → Leads G x y → ReachesPast G g y u → (x ≡ g) ⊎ (x ≢ g) → ReachesPast G g x u ⊎ Reaches (Leads G) (InPart G g u) g u
      at x y lead w (inl e) = inr (subst (λ (q : ℕ). Reaches (Leads G) (InPart G g u) q u) e (step (Leads G) (InPart G g u) x y u (inl e) lead (from_past y w)))
      at x y lead w (inr ne) = inl (step (Leads G) (λ z. z ≢ g) x y u ne lead w)

      prior : (x y : ℕ) → ⊤ → Leads G x y → ⊤ → ReachesPast G g y u ⊎ Reaches (Leads G) (InPart G g u) g u → ReachesPast G g x u ⊎ Reaches (Leads G) (InPart G g u) g u
      prior x y tx lead ty (inl w) = at x y lead w (cases_eq x g)
      prior x y tx lead ty (inr w) = inr w

      end : ReachesPast G g g u ⊎ Reaches (Leads G) (InPart G g u) g u → Reaches (Leads G) (InPart G g u) g u
      end (inl w) = absurd (starts_in g u w refl)
      end (inr w) = w

  word_in_part : Leads G u g → (x : ℕ) → x ≢ g → InPart G g u x → IsWord G x
  word_in_part edge x ne (inl e) = absurd (ne e)
  word_in_part edge x ne (inr r) = by r.words r.way
    where
      by : (ws : List ℕ) → IsWay (Leads G) (λ y. y ≢ g) ws x u → IsWord G x
      by [] w = subst (IsWord G) (sym w.1) (word_of_source G u g edge)
      by (z ∷ zs) w = word_of_source G x z w.1

-- a word on a cycle
pub word_on_cycle : (G : Graph) (g u : ℕ) → Leads G u g → Reaches (Leads G) (λ _. ⊤) g u → IsWord G g
word_on_cycle G g u edge r = by r.words r.way
  where
    by : (ws : List ℕ) → IsWay (Leads G) (λ _. ⊤) ws g u → IsWord G g
    by [] w = subst (IsWord G) (sym w.1) (word_of_source G u g edge)
    by (z ∷ zs) w = word_of_source G g z w.1

-- whether a number is in a list
is_in : (xs : List ℕ) (x : ℕ) → Contains xs x ⊎ ¬ Contains xs x
is_in xs x = by (find xs)
  where
    find : (ys : List ℕ) → In ys x ⊎ (In ys x → ⊥)
    find [] = inr (λ i. i)
    find (y ∷ ys) = head (cases_eq y x) (find ys)
      where
        head : (y ≡ x) ⊎ (y ≢ x) → In ys x ⊎ (In ys x → ⊥) → In (y ∷ ys) x ⊎ (In (y ∷ ys) x → ⊥)
        head (inl e) s = inl (inl e)
        head (inr ne) (inl i) = inl (inr i)
        head (inr ne) (inr no_more) = inr both
          where
            both : In (y ∷ ys) x → ⊥
            both (inl e) = ne e
            both (inr i) = no_more i

    by : In xs x ⊎ (In xs x → ⊥) → Contains xs x ⊎ ¬ Contains xs x
    by (inl i) = inl (from_in xs x i)
    by (inr f) = inr (λ c. f (to_in xs x c))

module _ (G : Graph) (g u : ℕ) (words core others inner : List ℕ) (entering : List (ℕ × ℕ)) (edge : Leads G u g)
    (w : IsListOf (InPart G g u) words) (co : HasAll (Reaches (Leads G) (Contains words) g) core)
    (ot : IsListOf (InDifference words core) others) (inn : IsListOf (InDifference core (g ∷ [])) inner)
    (en : HasAll (IsEdgeBetween G others inner true) entering) where
  to_core : (x : ℕ) → Contains core x → InCore G g u x
  to_core x c = wider (InPart G g u) w.each g x (co.each x c)

  from_core : (x : ℕ) → InCore G g u x → Contains core x
  from_core x r = co.every x (wider (Contains words) w.every g x r)

  entered : (e : ℕ × ℕ) → Contains entering e → Enters G g u e.0 e.1
  entered e c =
      let b = en.each e c in
      let o = ot.each e.0 b.source in
      let i = inn.each e.1 b.chosen in
      record { edge = b.edge; part = w.each e.0 o.among; outside = λ r. o.absent (from_core e.0 r); core = to_core e.1 i.among; beside = λ q. i.absent (from_in (g ∷ []) e.1 (inl (sym q))) }

  enters : (x y : ℕ) → Enters G g u x y → Contains entering (x, y)
  enters x y n = en.every (x, y) (record { source = ot.every x (record { among = w.every x n.part; absent = λ c. n.outside (to_core x c) }); edge = n.edge; chosen = inn.every y (record { among = from_core y n.core; absent = λ c. n.beside (sym (alone g y c)) }) })

  started : (x : ℕ) → IsStartAmong G inner x → StartsIn G g u x
  started x s =
      let i = inn.each x s.among in
      record { start = s.start.start; core = to_core x i.among; beside = λ q. i.absent (from_in (g ∷ []) x (inl (sym q))) }

  starts : (x : ℕ) → StartsIn G g u x → IsStartAmong G inner x
  starts x s = record { among = inn.every x (record { among = from_core x s.core; absent = λ c. s.beside (sym (alone g x c)) }); start = record { word = word_in_part G g u edge x s.beside (ends_in g x s.core); start = s.start } }

  pub entrance : (e : ℕ × ℕ) → IsLeastEdge entering e → IsLeastEntrance G g u e.0 e.1
  entrance e l = record { enters = entered e l.among; least = λ x y n. l.least (x, y) (enters x y n) }

  no_entrance : length entering ≡ 0 → (x y : ℕ) → Enters G g u x y → ⊥
  no_entrance z x y n = let c = enters x y n in let l = c.1 in omega arith

  pub start_entry : length entering ≡ 0 → (s : ℕ) → IsLeast (IsStartAmong G inner) s → IsLeastStart G g u s s
  start_entry z s l = record { none = no_entrance z; least = record { holds = started s l.holds; least = λ y q. l.least y (starts y q) }; same = refl }

  -- without an entry the edge would be closed
  pub some_entry : length entering ≡ 0 → ((x : ℕ) → ¬ IsStartAmong G inner x) → IsWord G g → HasAtMost 256 (InPart G g u) → Reaches (Leads G) (λ _. ⊤) g u → ¬ IsHeader G g → ⊥
  some_entry z none word small returns no_loop = no_loop (record { source = u; closed = record { edge = edge; word = word; small = small; entry = entry } })
    where
      last : Contains core u
      last = from_core u (home G g u returns)

      -- from outside the core a way to the source enters it
      outside : (x : ℕ) → InPart G g u x → x ≢ g → ¬ Contains core x → ⊥
      outside x (inl e) ne absent = ne e
      outside x (inr r) ne absent = forward (Leads G) (λ y. y ≢ g) (λ y. (ReachesPast G g y u → ¬ Contains core y)) x (λ _. absent) on u r (stop (Leads G) (λ y. y ≢ g) u (ends_in x u r)) last
        where
          on : (y v : ℕ) → y ≢ g → Leads G y v → v ≢ g → (ReachesPast G g y u → ¬ Contains core y) → ReachesPast G g v u → ¬ Contains core v
          on y v ny lead nv f way c =
              let before = step (Leads G) (λ q. q ≢ g) y v u ny lead way in
              no_entrance z y v (record { edge = lead; part = inr before; outside = λ q. f before (from_core y q); core = to_core v c; beside = nv })

      entry : (x : ℕ) → InPart G g u x → Contains G.starts x → x ≡ g
      entry x p start = by (cases_eq x g) (is_in core x)
        where
          by : (x ≡ g) ⊎ (x ≢ g) → Contains core x ⊎ ¬ Contains core x → x ≡ g
          by (inl e) s = e
          by (inr ne) (inl c) = absurd (none x (starts x (record { start = start; core = to_core x c; beside = ne })))
          by (inr ne) (inr absent) = absurd (outside x p ne absent)
