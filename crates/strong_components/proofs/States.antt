-- States of a search, and what each step makes of them.
use Rattle.std.proofs.Common.{ℕ, ◌≡◌, ◌+◌, ◌-◌, ◌<◌, ◌≤◌, inl, inr, List, [], ◌∷◌, ◌++◌, length, set, take, map, get_or, Option, Some, None, refl, sym, ap, subst, ◌∙◌, arith}
use Rattle.std.specs.List.{slice_get, Contains}
use Rattle.std.proofs.lemmas.Bool.{cases_eq, cases_lt}
use Rattle.std.proofs.lemmas.Option.{none-some, same_Some, slice_get_within, slice_get-get_or, get_or_from_slice_get}
use Rattle.std.proofs.lemmas.List.{length_push, length-set, length-map, length-take-le}
use Rattle.std.proofs.lemmas.List.Sums.{sum_by-set}
use Rattle.std.proofs.lemmas.List.Elements.{Contains-push, Contains-push_cases, Contains-append_left}
use Rattle.strong_components.specs.declared.graph.Successors.{Successors}
use Rattle.strong_components.specs.declared.search.Search.{Search}
use Rattle.strong_components.specs.declared.search.Mark.{Mark}
use Rattle.strong_components.specs.declared.search.Mark.TheVariants.{Unseen, Open, Closed}
use Rattle.strong_components.specs.Graph.{IsEdge, LeadsTo, LeadsInside, HasPath}
use Rattle.strong_components.specs.Search.{IsLast, IsCut, unseen_count, closed_from, IsDone, IsClosedBy, IsUsed, IsEntered, IsMerged, IsReady, IsSound, KeepsSeen, work_left, IsState}
use Rattle.strong_components.proofs.Lists.{get_push_same, get_push_old, get_push_cases, get_set_same, get_set_other, get_set_cases, get_take, get_take_some, contains_from_get, Rises_push, Rises_pop, last_greatest}
use Rattle.strong_components.proofs.Paths.{edge_from, reaches_self, reaches_through, reaches_next}
use Rattle.strong_components.proofs.Closing.{after_low, after_high, after_closed, before_unseen, before_open, before_closed, weight_of, unseen_count-closed}

-- one node fewer is unseen
pub unseen_count-open : (marks : List Mark) (w k : ℕ) → slice_get marks w ≡ Some Unseen → unseen_count (set marks w (Open k)) + 1 ≡ unseen_count marks
unseen_count-open marks w k unseen =
    let changed = sum_by-set weight_of marks w (Open k) Unseen (slice_get_within marks w Unseen unseen) in
    let was = ap weight_of (get_or_from_slice_get marks w Unseen Unseen unseen) in
    omega arith

-- every open node reaches what the last one of the path leads to
pub led_by : (nodes : List Successors) (marks : List Mark) (stack bounds path : List ℕ) (count t u w : ℕ) → IsState nodes marks stack bounds path count → IsLast path t → slice_get stack t ≡ Some u → IsEdge nodes u w → (i v : ℕ) → slice_get stack i ≡ Some v → HasPath nodes v w
led_by nodes marks stack bounds path count t u w s is_last at edge i v here =
    reaches_through nodes v u w
    (s.joined i t v u here at (λ b has low. last_greatest path t b s.path_rises is_last (s.bounds_on_path b has)))
    (reaches_next nodes u w edge)

-- an unseen node is opened, which all open nodes reach
pub state_enter : (nodes : List Successors) (marks : List Mark) (stack bounds path : List ℕ) (count w : ℕ) → IsState nodes marks stack bounds path count → slice_get marks w ≡ Some Unseen → ((i u : ℕ) → slice_get stack i ≡ Some u → HasPath nodes u w)
    → IsState nodes (set marks w (Open (length stack))) (stack ++ w ∷ []) (bounds ++ length stack ∷ []) (path ++ length stack ∷ []) count
state_enter nodes marks stack bounds path count w s unseen led =
    let k = length stack in
    let inside = slice_get_within marks w Unseen unseen in
    let more = length_push stack w in
    let at_w : slice_get (set marks w (Open k)) w ≡ Some (Open k) = get_set_same marks w (Open k) inside in
    let at_k : slice_get (stack ++ w ∷ []) k ≡ Some w = get_push_same stack w in
    record {
      all_marked = length-set marks w (Open k) ∙ s.all_marked;
      placed = record {
        marked = λ i v e. elim (get_push_cases stack w v i e) [
          | inl h ↦
              (let was = s.placed.marked i v h in
              get_set_other marks w v (Open k) (λ (same : v ≡ w). absurd (let there : slice_get marks w ≡ Some (Open i) = subst (λ x. slice_get marks x ≡ Some (Open i)) same was in cc)) ∙ was)
          | inr h ↦ (let a = h.0 in let b = h.1 in cc)
        ];
        stacked = λ i v e. elim (get_set_cases marks w v (Open k) (Open i) inside e) [
          | inl h ↦ (let a = h.0 in let b = h.1 in cc)
          | inr h ↦ get_push_old stack w v i (s.placed.stacked i v h.1)
        ];
      };
      path_rises = Rises_push path k s.path_rises s.path_on_stack;
      path_on_stack = λ t has. elim (Contains-push_cases path k t has) [ inl h ↦ (let l = s.path_on_stack t h in omega arith) | inr e ↦ omega arith ];
      bounds_rise = Rises_push bounds k s.bounds_rise (λ x h. s.path_on_stack x (s.bounds_on_path x h));
      bounds_on_path = λ b has. elim (Contains-push_cases bounds k b has) [
        | inl h ↦ Contains-append_left path (k ∷ []) b (s.bounds_on_path b h)
        | inr e ↦ subst (Contains (path ++ k ∷ [])) e (Contains-push path k)
      ];
      first_bound = λ _. elim (cases_eq k 0) [
        | inl none ↦ subst (Contains (bounds ++ k ∷ [])) none (Contains-push bounds k)
        | inr some ↦ Contains-append_left bounds (k ∷ []) 0 (s.first_bound (omega arith))
      ];
      joined = λ i j u v a b above. elim (get_push_cases stack w u i a) [
        | inl old_i ↦ elim (get_push_cases stack w v j b) [
          | inl old_j ↦ s.joined i j u v old_i old_j (λ x has low. above x (Contains-append_left bounds (k ∷ []) x has) low)
          | inr new_j ↦ subst (HasPath nodes u) new_j.1 (led i u old_i)
        ]
        | inr new_i ↦ elim (get_push_cases stack w v j b) [
          | inl old_j ↦ absurd (let low = above k (Contains-push bounds k) (let a = new_i.0 in omega arith) in let l = slice_get_within stack j v old_j in omega arith)
          | inr new_j ↦ subst (λ x. HasPath nodes x v) new_i.1 (subst (HasPath nodes w) new_j.1 (reaches_self nodes w))
        ]
      ];
      done = λ i u x a off edge. elim (get_push_cases stack w u i a) [
        | inl old_i ↦
            (let d = s.done i u x old_i (λ on. off (Contains-append_left path (k ∷ []) i on)) edge in
            record {
              seen = λ e. elim (get_set_cases marks w x (Open k) Unseen inside e) [ inl h ↦ (let b = h.1 in cc) | inr h ↦ d.seen h.1 ];
              joined = λ p e. elim (get_set_cases marks w x (Open k) (Open p) inside e) [
                | inl h ↦ absurd (d.seen (subst (λ y. slice_get marks y ≡ Some Unseen) (sym h.0) unseen))
                | inr h ↦ (λ b has low. elim (Contains-push_cases bounds k b has) [
                  | inl in_old ↦ d.joined p h.1 b in_old low
                  | inr is_new ↦ absurd (let l = slice_get_within stack i u old_i in omega arith)
                ])
              ];
            })
        | inr new_i ↦ absurd (off (subst (Contains (path ++ k ∷ [])) (sym new_i.0) (Contains-push path k)))
      ];
      closed_edges = λ u x c e edge. elim (get_set_cases marks w u (Open k) (Closed c) inside e) [
        | inl h ↦ absurd (let b = h.1 in cc)
        | inr h ↦
            (let d = s.closed_edges u x c h.1 edge in
            record {
              number = d.number;
              is = get_set_other marks w x (Open k) (λ (same : x ≡ w). absurd (let there : slice_get marks w ≡ Some (Closed d.number) = subst (λ y. slice_get marks y ≡ Some (Closed d.number)) same d.is in cc)) ∙ d.is;
              below = d.below;
            })
      ];
      closed_below = λ u c e. elim (get_set_cases marks w u (Open k) (Closed c) inside e) [ inl h ↦ absurd (let b = h.1 in cc) | inr h ↦ s.closed_below u c h.1 ];
      closed_used = λ c h.
          let old = s.closed_used c h in
          record {
            node = old.node;
            is = get_set_other marks w old.node (Open k) (λ (same : old.node ≡ w). absurd (let there : slice_get marks w ≡ Some (Closed c) = subst (λ y. slice_get marks y ≡ Some (Closed c)) same old.is in cc)) ∙ old.is;
          };
      closed_joined = λ u v c e f. elim (get_set_cases marks w u (Open k) (Closed c) inside e) [
        | inl h ↦ absurd (let b = h.1 in cc)
        | inr h ↦ elim (get_set_cases marks w v (Open k) (Closed c) inside f) [ inl g ↦ absurd (let b = g.1 in cc) | inr g ↦ s.closed_joined u v c h.1 g.1 ]
      ];
      counted = let a = s.counted in let b = unseen_count-open marks w k unseen in let c = length_push bounds k in omega arith;
      stacked = let a = s.stacked in let b = unseen_count-open marks w k unseen in omega arith;
    }

-- the segments from that of an open successor on become one
pub state_merge : (nodes : List Successors) (marks : List Mark) (stack bounds path : List ℕ) (count t u w p : ℕ) (fewer : List ℕ) → IsState nodes marks stack bounds path count → IsLast path t → slice_get stack t ≡ Some u → IsEdge nodes u w → slice_get marks w ≡ Some (Open p) → IsCut bounds fewer p
    → IsState nodes marks stack fewer path count
state_merge nodes marks stack bounds path count t u w p fewer s is_last at edge is_open cut =
    record {
      all_marked = s.all_marked;
      placed = s.placed;
      path_rises = s.path_rises;
      path_on_stack = s.path_on_stack;
      bounds_rise = cut.rises;
      bounds_on_path = λ b has. s.bounds_on_path b (cut.old_ones b has);
      first_bound = λ some. cut.kept 0 (s.first_bound some) (omega arith);
      joined = λ i j v x here there above. elim (cases_lt i p) [
        | inl low ↦ s.joined i j v x here there (λ b has up. above b (cut.kept b has (omega arith)) up)
        | inr high ↦
            reaches_through nodes v w x (led_by nodes marks stack bounds path count t u w s is_last at edge i v here)
            (s.joined p j w x (s.placed.stacked p w is_open) there (λ b has up. above b (cut.kept b has up) (omega arith)))
      ];
      done = λ i v x here off e.
          let d = s.done i v x here off e in
          record { seen = d.seen; joined = λ q is b has up. d.joined q is b (cut.old_ones b has) up };
      closed_edges = s.closed_edges;
      closed_below = s.closed_below;
      closed_used = s.closed_used;
      closed_joined = s.closed_joined;
      counted = let a = s.counted in let b = cut.no_more in omega arith;
      stacked = s.stacked;
    }

-- the last node of the path is left, where it is not the first of its segment
pub state_leave : (nodes : List Successors) (marks : List Mark) (stack bounds path : List ℕ) (count t u : ℕ) → IsState nodes marks stack bounds (path ++ t ∷ []) count → slice_get stack t ≡ Some u → ((w : ℕ) → IsEdge nodes u w → IsDone marks bounds t w) → (Contains bounds t → ⊥)
    → IsState nodes marks stack bounds path count
state_leave nodes marks stack bounds path count t u s at all_done no_bound =
    record {
      all_marked = s.all_marked;
      placed = s.placed;
      path_rises = (Rises_pop path t s.path_rises).0;
      path_on_stack = λ x has. s.path_on_stack x (Contains-append_left path (t ∷ []) x has);
      bounds_rise = s.bounds_rise;
      bounds_on_path = λ b has. elim (Contains-push_cases path t b (s.bounds_on_path b has)) [ inl h ↦ h | inr e ↦ absurd (no_bound (subst (Contains bounds) (sym e) has)) ];
      first_bound = s.first_bound;
      joined = s.joined;
      done = λ i v w here off edge. elim (cases_eq i t) [
        | inl same ↦
            (let there : slice_get stack t ≡ Some v = subst (λ x. slice_get stack x ≡ Some v) same here in
            let is : v ≡ u = same_Some v u (sym there ∙ at) in
            subst (λ x. IsDone marks bounds x w) (sym same) (all_done w (subst (λ x. IsEdge nodes x w) is edge)))
        | inr other ↦ s.done i v w here (λ on. elim (Contains-push_cases path t i on) [ inl h ↦ off h | inr e ↦ other (sym e) ]) edge
      ];
      closed_edges = s.closed_edges;
      closed_below = s.closed_below;
      closed_used = s.closed_used;
      closed_joined = s.closed_joined;
      counted = s.counted;
      stacked = s.stacked;
    }

-- a node within the list is unseen, open or closed
pub mark_cases : (o : Option Mark) (P : Type 0) → (o ≡ None → P) → (o ≡ Some Unseen → P) → ((p : ℕ) → o ≡ Some (Open p) → P) → ((d : ℕ) → o ≡ Some (Closed d) → P) → P
mark_cases None P none unseen is_open closed = none refl
mark_cases (Some Unseen) P none unseen is_open closed = unseen refl
mark_cases (Some (Open p)) P none unseen is_open closed = is_open p refl
mark_cases (Some (Closed d)) P none unseen is_open closed = closed d refl

-- what an open node of the last segment leads to is closed with it, or was before
pub done_closed : (marks : List Mark) (bounds : List ℕ) (count t p w : ℕ) → w < length marks → ((v c : ℕ) → slice_get marks v ≡ Some (Closed c) → c < count) → Contains bounds t → t ≤ p → IsDone marks bounds p w → IsClosedBy (map (closed_from t count) marks) w count
done_closed marks bounds count t p w inside below is_bound high done =
    mark_cases (slice_get marks w) (IsClosedBy (map (closed_from t count) marks) w count)
    (λ e. absurd (none-some (get_or marks w Unseen) (sym e ∙ slice_get-get_or marks w Unseen inside)))
    (λ e. absurd (done.seen e))
    (λ q e. record { number = count; is = after_high marks t count w q e (done.joined q e t is_bound high); below = omega arith })
    (λ d e. record { number = d; is = after_closed marks t count w d e; below = let l = below w d e in omega arith })

-- the last segment is closed, with its first node, the last of the path
pub state_close : (nodes : List Successors) (marks : List Mark) (stack bounds path : List ℕ) (count t u : ℕ) → LeadsInside nodes → IsState nodes marks stack (bounds ++ t ∷ []) (path ++ t ∷ []) count → slice_get stack t ≡ Some u → ((w : ℕ) → IsEdge nodes u w → IsDone marks (bounds ++ t ∷ []) t w)
    → IsState nodes (map (closed_from t count) marks) (take t stack) bounds path (count + 1)
state_close nodes marks stack bounds path count t u inside s at all_done =
    let all = bounds ++ t ∷ [] in
    let within = slice_get_within stack t u at in
    let cut = length-take-le t stack (omega arith) in
    let path_below = (Rises_pop path t s.path_rises).1 in
    let bounds_below = (Rises_pop bounds t s.bounds_rise).1 in
    let bound_at_t = Contains-push bounds t in
    let low_bounds : (b : ℕ) → Contains all b → b ≤ t = λ b has. elim (Contains-push_cases bounds t b has) [ inl h ↦ (let l = bounds_below b h in omega arith) | inr e ↦ omega arith ] in
    let off_path : (i : ℕ) → (i ≡ t → ⊥) → (Contains path i → ⊥) → Contains (path ++ t ∷ []) i → ⊥ = λ i other off on. elim (Contains-push_cases path t i on) [ inl h ↦ off h | inr e ↦ other (sym e) ] in
    record {
      all_marked = length-map marks (closed_from t count) ∙ s.all_marked;
      placed = record {
        marked = λ i v e. let h = get_take_some t stack i v e in after_low marks t count v i (s.placed.marked i v h.1) h.0;
        stacked = λ i v e. let h = before_open marks t count v i e in get_take t stack i v h.1 (s.placed.stacked i v h.0);
      };
      path_rises = (Rises_pop path t s.path_rises).0;
      path_on_stack = λ x has. let l = path_below x has in omega arith;
      bounds_rise = (Rises_pop bounds t s.bounds_rise).0;
      bounds_on_path = λ b has. elim (Contains-push_cases path t b (s.bounds_on_path b (Contains-append_left bounds (t ∷ []) b has))) [
        | inl h ↦ h
        | inr e ↦ absurd (let l = bounds_below b has in omega arith)
      ];
      first_bound = λ some. elim (Contains-push_cases bounds t 0 (s.first_bound (omega arith))) [ inl h ↦ h | inr e ↦ absurd (omega arith) ];
      joined = λ i j v x here there above.
          let a = get_take_some t stack i v here in let b = get_take_some t stack j x there in let low_i = a.0 in
          s.joined i j v x a.1 b.1 (λ y has low. elim (Contains-push_cases bounds t y has) [ inl h ↦ above y h low | inr e ↦ absurd (omega arith) ]);
      done = λ i v w here off edge.
          let a = get_take_some t stack i v here in let low_i = a.0 in
          let d = s.done i v w a.1 (off_path i (λ same. omega arith) off) edge in
          record {
            seen = λ e. d.seen (before_unseen marks t count w e);
            joined = λ p e b has low. d.joined p (before_open marks t count w p e).0 b (Contains-append_left bounds (t ∷ []) b has) low;
          };
      closed_edges = λ v w c e edge. elim (before_closed marks t count v c e) [
        | inl old ↦ (let d = s.closed_edges v w c old edge in record { number = d.number; is = after_closed marks t count w d.number d.is; below = d.below })
        | inr fresh ↦
            (let there = s.placed.stacked fresh.at v fresh.was in
            let in_marks : w < length marks = let l = inside.inside v w edge in let m = s.all_marked in omega arith in
            let d : IsDone marks all fresh.at w = elim (cases_eq fresh.at t) [
              | inl same ↦
                  (let here : slice_get stack t ≡ Some v = subst (λ x. slice_get stack x ≡ Some v) same there in
                  let is : v ≡ u = same_Some v u (sym here ∙ at) in
                  subst (λ x. IsDone marks all x w) (sym same) (all_done w (subst (λ x. IsEdge nodes x w) is edge)))
              | inr other ↦ s.done fresh.at v w there (off_path fresh.at other (λ on. let l = path_below fresh.at on in let h = fresh.high in omega arith)) edge
            ] in
            subst (IsClosedBy (map (closed_from t count) marks) w) (sym fresh.is) (done_closed marks all count t fresh.at w in_marks s.closed_below bound_at_t fresh.high d))
      ];
      closed_below = λ v c e. elim (before_closed marks t count v c e) [ inl old ↦ (let l = s.closed_below v c old in omega arith) | inr fresh ↦ (let l = fresh.is in omega arith) ];
      closed_used = λ c h. elim (cases_eq c count) [
        | inl same ↦ subst (IsUsed (map (closed_from t count) marks)) (sym same) (record { node = u; is = after_high marks t count u t (s.placed.marked t u at) (omega arith) })
        | inr other ↦ (let old = s.closed_used c (omega arith) in record { node = old.node; is = after_closed marks t count old.node c old.is })
      ];
      closed_joined = λ v x c e f. elim (before_closed marks t count v c e) [
        | inl old ↦ elim (before_closed marks t count x c f) [
          | inl old_x ↦ s.closed_joined v x c old old_x
          | inr fresh_x ↦ absurd (let l = s.closed_below v c old in let m = fresh_x.is in omega arith)
        ]
        | inr fresh ↦ elim (before_closed marks t count x c f) [
          | inl old_x ↦ absurd (let l = s.closed_below x c old_x in let m = fresh.is in omega arith)
          | inr fresh_x ↦ s.joined fresh.at fresh_x.at v x (s.placed.stacked fresh.at v fresh.was) (s.placed.stacked fresh_x.at x fresh_x.was) (λ b has low. let l = low_bounds b has in let m = fresh_x.high in omega arith)
        ]
      ];
      counted = let a = s.counted in let b = unseen_count-closed t count marks in let c = length_push bounds t in omega arith;
      stacked = let a = s.stacked in let b = unseen_count-closed t count marks in omega arith;
    }

-- a successor is open, or it is not
merge_cases : (successor : Option ℕ) (marks : List Mark) (P : Type 0) → ((w p : ℕ) → successor ≡ Some w → slice_get marks w ≡ Some (Open p) → P) → (((w p : ℕ) → successor ≡ Some w → slice_get marks w ≡ Some (Open p) → ⊥) → P) → P
merge_cases None marks P at_open at_other = at_other (λ w p e _. none-some w e)
merge_cases (Some v) marks P at_open at_other =
    let other : ((p : ℕ) → slice_get marks v ≡ Some (Open p) → ⊥) → P = λ never. at_other (λ w p e f. never p (subst (λ x. slice_get marks x ≡ Some (Open p)) (sym (same_Some v w e)) f)) in
    mark_cases (slice_get marks v) P
    (λ e. other (λ p f. none-some (Open p) (sym e ∙ f)))
    (λ e. other (λ p f. let g : Some Unseen ≡ Some (Open p) = sym e ∙ f in cc))
    (λ p e. at_open v p refl e)
    (λ d e. other (λ p f. let g : Some (Closed d) ≡ Some (Open p) = sym e ∙ f in cc))

-- after a successor's segments are joined
pub record IsAfterMerge (nodes : List Successors) (successor : Option ℕ) (marks : List Mark) (stack bounds path : List ℕ) (count : ℕ) (fewer : List ℕ) : Type 0 where
  pub state : IsState nodes marks stack fewer path count
  pub old_ones : (b : ℕ) → Contains fewer b → Contains bounds b
  pub low : (w p b : ℕ) → successor ≡ Some w → slice_get marks w ≡ Some (Open p) → Contains fewer b → b ≤ p

pub state_merged : (nodes : List Successors) (marks : List Mark) (stack bounds path : List ℕ) (count t u : ℕ) (successor : Option ℕ) (fewer : List ℕ) → IsState nodes marks stack bounds path count → IsLast path t → slice_get stack t ≡ Some u → ((w : ℕ) → successor ≡ Some w → IsEdge nodes u w) → IsMerged successor marks bounds fewer
    → IsAfterMerge nodes successor marks stack bounds path count fewer
state_merged nodes marks stack bounds path count t u successor fewer s is_last at edges merged =
    merge_cases successor marks (IsAfterMerge nodes successor marks stack bounds path count fewer)
    (λ w p is is_open.
    let cut = merged.cut w p is is_open in
    record {
      state = state_merge nodes marks stack bounds path count t u w p fewer s is_last at (edges w is) is_open cut;
      old_ones = cut.old_ones;
      low = λ v q b e f has. (merged.cut v q e f).not_above b has;
    })
    (λ never.
    let same = merged.kept never in
    record {
      state = subst (λ l. IsState nodes marks stack l path count) (sym same) s;
      old_ones = λ b has. subst (λ l. Contains l b) same has;
      low = λ v q b e f has. absurd (never v q e f);
    })

-- both successors of the last node of the path are joined, so all its edges are done with
pub state_ready : (nodes : List Successors) (marks : List Mark) (stack bounds path : List ℕ) (count t u : ℕ) (node : Successors) (fewer fewest : List ℕ) → IsState nodes marks stack bounds path count → IsLast path t → slice_get stack t ≡ Some u → slice_get nodes u ≡ Some node
    → ((w : ℕ) → LeadsTo node w → slice_get marks w ≡ Some Unseen → ⊥) → IsMerged node.first marks bounds fewer → IsMerged node.second marks fewer fewest
    → IsState nodes marks stack fewest path count × ((w : ℕ) → IsEdge nodes u w → IsDone marks fewest t w)
state_ready nodes marks stack bounds path count t u node fewer fewest s is_last at is none one two =
    let first = state_merged nodes marks stack bounds path count t u node.first fewer s is_last at (λ w e. record { node = node; is = is; leads = inl e }) one in
    let second = state_merged nodes marks stack fewer path count t u node.second fewest first.state is_last at (λ w e. record { node = node; is = is; leads = inr e }) two in (
      second.state,
      λ w edge.
          let same : edge.node ≡ node = same_Some edge.node node (sym edge.is ∙ is) in
          let leads : LeadsTo node w = subst (λ n. LeadsTo n w) same edge.leads in
          record {
            seen = none w leads;
            joined = λ p is_open b has _. elim leads [
              | inl e ↦ first.low w p b e is_open (second.old_ones b has)
              | inr e ↦ second.low w p b e is_open has
            ];
          },
    )

-- an unseen node was opened
pub entered_state : (nodes : List Successors) (s n : Search) (w : ℕ) → IsSound nodes s → slice_get s.marks.items w ≡ Some Unseen → ((i u : ℕ) → slice_get s.stack.items i ≡ Some u → HasPath nodes u w) → IsEntered s n w → IsSound nodes n
entered_state nodes s n w state unseen led e =
    rw (e.marks, e.stack, e.bounds, e.path, e.count) (state_enter nodes s.marks.items s.stack.items s.bounds.items s.path.items s.count w state unseen led)

pub entered_seen : (s n : Search) (w : ℕ) → w < length s.marks.items → IsEntered s n w → KeepsSeen s.marks.items n.marks.items
entered_seen s n w inside e v unseen =
    let there = subst (λ l. slice_get l v ≡ Some Unseen) e.marks unseen in
    elim (get_set_cases s.marks.items w v (Open (length s.stack.items)) Unseen inside there) [ inl h ↦ absurd (let b = h.1 in cc) | inr h ↦ h.1 ]

pub entered_root : (s n : Search) (w : ℕ) → w < length s.marks.items → IsEntered s n w → slice_get n.marks.items w ≡ Some Unseen → ⊥
entered_root s n w inside e unseen =
    let is : slice_get (set s.marks.items w (Open (length s.stack.items))) w ≡ Some (Open (length s.stack.items)) = get_set_same s.marks.items w (Open (length s.stack.items)) inside in
    let there = subst (λ l. slice_get l w ≡ Some Unseen) e.marks unseen in cc

pub entered_less : (s n : Search) (w : ℕ) → slice_get s.marks.items w ≡ Some Unseen → IsEntered s n w → work_left n < work_left s
entered_less s n w unseen e =
    let fewer = unseen_count-open s.marks.items w (length s.stack.items) unseen in
    let marks = ap unseen_count e.marks in
    let path = ap length e.path in
    let longer = length_push s.path.items (length s.stack.items) in
    omega arith

-- where the last node of the path is, and where its edges lead
pub top_within : (nodes : List Successors) (s : Search) (t : ℕ) → IsSound nodes s → IsLast s.path.items t → t < length s.stack.items
top_within nodes s t state is_last = state.path_on_stack t (contains_from_get s.path.items (length s.path.items - 1) t is_last)

pub record IsStanding (nodes : List Successors) (s : Search) (t u : ℕ) : Type 0 where
  pub at : slice_get s.stack.items t ≡ Some u
  pub inside : u < length nodes

pub standing : (nodes : List Successors) (s : Search) (t u : ℕ) → IsSound nodes s → IsLast s.path.items t → u ≡ get_or s.stack.items t u → IsStanding nodes s t u
standing nodes s t u state is_last is =
    let within = top_within nodes s t state is_last in
    let at : slice_get s.stack.items t ≡ Some u = slice_get-get_or s.stack.items t u within ∙ ap Some (sym is) in
    let marked = slice_get_within s.marks.items u (Open t) (state.placed.marked t u at) in
    record { at = at; inside = let m = state.all_marked in omega arith }

pub edge_marked : (nodes : List Successors) (s : Search) (u w : ℕ) (d : Successors) → LeadsInside nodes → IsSound nodes s → u < length nodes → LeadsTo (get_or nodes u d) w → w < length s.marks.items
edge_marked nodes s u w d leads_inside state inside leads =
    let l = leads_inside.inside u w (edge_from nodes u w d inside leads) in let m = state.all_marked in omega arith

-- after both successors are merged, and nothing else was changed
pub merged_ready : (nodes : List Successors) (s m n : Search) (t u : ℕ) (d : Successors) → IsSound nodes s → IsLast s.path.items t → slice_get s.stack.items t ≡ Some u → u < length nodes
    → ((w : ℕ) → LeadsTo (get_or nodes u d) w → slice_get s.marks.items w ≡ Some Unseen → ⊥)
    → m ≡ record s { bounds = m.bounds } → IsMerged (get_or nodes u d).first s.marks.items s.bounds.items m.bounds.items
    → n ≡ record m { bounds = n.bounds } → IsMerged (get_or nodes u d).second m.marks.items m.bounds.items n.bounds.items
    → (n ≡ record s { bounds = n.bounds }) × IsReady nodes (record s { bounds = n.bounds }) t u
merged_ready nodes s m n t u d state is_last at inside none same_m one same_n two =
    let marks : m.marks.items ≡ s.marks.items = ap (λ (x : Search). x.marks.items) same_m in
    let two' = subst (λ l. IsMerged (get_or nodes u d).second l m.bounds.items n.bounds.items) marks two in
    let ready = state_ready nodes s.marks.items s.stack.items s.bounds.items s.path.items s.count t u (get_or nodes u d) m.bounds.items n.bounds.items state is_last at (slice_get-get_or nodes u d inside) none one two' in
    (same_n ∙ ap (λ (x : Search). record x { bounds = n.bounds }) same_m, record { state = ready.0; last = is_last; at = at; done = ready.1 })

-- between two visits no node is open
pub idle_empty : (nodes : List Successors) (s : Search) (i u : ℕ) → IsSound nodes s → s.path.items ≡ [] → slice_get s.stack.items i ≡ Some u → ⊥
idle_empty nodes s i u state idle at =
    let within = slice_get_within s.stack.items i u at in
    let on_path : Contains [] 0 = subst (λ l. Contains l 0) idle (state.bounds_on_path 0 (state.first_bound (omega arith))) in
    omega (arith, on_path.1)
