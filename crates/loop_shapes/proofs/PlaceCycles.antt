-- The cycles of a loop, by places and by addresses.
use Rattle.std.proofs.Common.{◌≡◌, ℕ, ◌≤◌, List, length, refl, sym, subst, arith}
use Rattle.std.specs.List.{Contains}
use Rattle.strong_components.specs.declared.graph.Successors.{Successors}
use Rattle.loop_data.specs.declared.graph.Graph.{Graph}
use Rattle.loop_data.specs.Bodies.{InBody}
use Rattle.loop_data.specs.Paths.{Reaches}
use Rattle.loop_data.specs.Shape.{IsForward, IsOnCycle}
use Rattle.loop_data.proofs.Lists.{no_longer, apart_from_places}
use Rattle.loop_data.proofs.Ways.{stop, step, backward}
use Rattle.loop_shapes.specs.Cycles.{AreGone}
use Rattle.loop_shapes.specs.Net.{AreAt}
use Rattle.loop_shapes.specs.Open.{AreOpen}
use Rattle.loop_shapes.specs.Places.{at}
use Rattle.loop_shapes.specs.Sets.{AreDifferent}
use Rattle.loop_shapes.proofs.Gone.{IsInnerEdge, TakingOut, none_left, all_gone, nothing_left, all_tried, no_more_gone}

module _ (G : Graph) (h : ℕ) (nodes : List Successors) (o : AreOpen G nodes) (places : List ℕ) (a : AreAt G (InBody G h) places) where
  edge_to : (i j : ℕ) → IsInnerEdge nodes places i j → IsForward G h (at G i) (at G j)
  edge_to i j e =
      let s = ((o.each i j).0 e.edge).2 in
      record { edge = s.edge; from_inside = (a.each i e.from).1; to_inside = (a.each j e.to).1; open_edge = s.open_edge }

  edge_from : (i j : ℕ) → Contains places i → Contains places j → IsForward G h (at G i) (at G j) → IsInnerEdge nodes places i j
  edge_from i j c d f = record { edge = (o.each i j).1 ((a.each i c).0, (a.each j d).0, record { edge = f.edge; open_edge = f.open_edge }); from = c; to = d }

  way_to : (i j : ℕ) → Reaches (IsInnerEdge nodes places) (Contains places) i j → Contains places j → Reaches (IsForward G h) (InBody G h) (at G i) (at G j)
  way_to i j w d = backward (IsInnerEdge nodes places) (Contains places) (λ z. Reaches (IsForward G h) (InBody G h) (at G z) (at G j)) j (stop (IsForward G h) (InBody G h) (at G j) (a.each j d).1) (λ x y p r q t. step (IsForward G h) (InBody G h) (at G x) (at G y) (at G j) (a.each x p).1 (edge_to x y r) t) i w

  abbrev pub Here : ℕ → ℕ → Type 0
  Here j y = (i : ℕ) × Contains places i × (at G i ≡ y) × Reaches (IsInnerEdge nodes places) (Contains places) i j

  way_from : (y j : ℕ) → Contains places j → Reaches (IsForward G h) (InBody G h) y (at G j) → Here j y
  way_from y j d w = backward (IsForward G h) (InBody G h) (Here j) (at G j) (j, d, refl, stop (IsInnerEdge nodes places) (Contains places) j d) prior y w
    where
      prior : (x z : ℕ) → InBody G h x → IsForward G h x z → InBody G h z → Here j z → Here j x
      prior x z p r q t =
          let m = a.every x p in
          let f = subst (λ (u : ℕ). IsForward G h u (at G t.0)) (sym m.is) (subst (IsForward G h x) (sym t.2) r) in
          (m.place, m.among, m.is, step (IsInnerEdge nodes places) (Contains places) m.place t.0 j m.among (edge_from m.place t.0 m.among t.1 f) t.3)

  cycle_to : (i : ℕ) → IsOnCycle (IsInnerEdge nodes places) (Contains places) i → IsOnCycle (IsForward G h) (InBody G h) (at G i)
  cycle_to i c =
      let e : IsInnerEdge nodes places i c.next = c.step in
      record { next = at G c.next; step = edge_to i c.next c.step; rest = way_to c.next i c.rest e.from }

  no_cycle_from : ((i : ℕ) → IsOnCycle (IsInnerEdge nodes places) (Contains places) i → ⊥) → (x : ℕ) → IsOnCycle (IsForward G h) (InBody G h) x → ⊥
  no_cycle_from none x c =
      let s : IsForward G h x c.next = c.step in
      let m = a.every x s.from_inside in
      let t = way_from c.next m.place m.among (subst (Reaches (IsForward G h) (InBody G h) c.next) (sym m.is) c.rest) in
      let f = subst (λ (u : ℕ). IsForward G h u (at G t.0)) (sym m.is) (subst (IsForward G h x) (sym t.2) s) in
      none m.place (record { next = t.0; step = edge_from m.place t.0 m.among t.1 f; rest = t.3 })

  -- where all words are gone there is no cycle
  pub acyclic_by : (gone : List ℕ) → AreGone nodes places gone → AreDifferent gone → length places ≤ length gone → (x : ℕ) → IsOnCycle (IsForward G h) (InBody G h) x → ⊥
  acyclic_by gone g apart l = no_cycle_from (none_left nodes places gone g (all_gone nodes places gone g apart l))

  -- and where there is none they all are in the end
  all_gone_by : (next : ℕ) (gone : List ℕ) → length gone ≤ next → TakingOut nodes places next gone → ((x : ℕ) → IsOnCycle (IsForward G h) (InBody G h) x → ⊥) → (i : ℕ) → Contains places i → Contains gone i
  all_gone_by next gone l t none = nothing_left nodes places gone t.are (all_tried nodes places next gone l t) (λ i c. none (at G i) (cycle_to i c))

  -- so that as many are gone as there are
  pub as_many_gone : (next : ℕ) (gone : List ℕ) → AreDifferent places → AreDifferent gone → length gone ≤ next → TakingOut nodes places next gone → ((x : ℕ) → IsOnCycle (IsForward G h) (InBody G h) x → ⊥) → length gone ≡ length places
  as_many_gone next gone apart differ l t none =
      let m = no_more_gone nodes places gone t.are differ in
      let n = no_longer places gone (apart_from_places places apart) (all_gone_by next gone l t none) in
      omega arith
