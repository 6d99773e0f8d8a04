-- Words of a loop that are taken out, and its cycles, by places.
use Rattle.std.proofs.Common.{◌≡◌, ℕ, zero, suc, ◌+◌, ◌<◌, ◌≤◌, ◌⊎◌, inl, inr, List, [], ◌∷◌, ◌++◌, length, get_or, take, refl, ap, sym, ◌∙◌, subst, arith}
use Rattle.std.specs.List.{Contains}
use Rattle.std.proofs.lemmas.Bool.{cases_lt}
use Rattle.std.proofs.lemmas.List.{get_or_append_left, get_or_push, length_push, get_or_default, take-append-le, take_all, get_or-take, length-take-le}
use Rattle.std.proofs.lemmas.List.Elements.{Contains-push, Contains-push_cases, Contains-get_or}
use Rattle.strong_components.specs.declared.graph.Successors.{Successors}
use Rattle.strong_components.specs.Graph.{IsEdge}
use Rattle.loop_data.specs.Paths.{IsWay, Reaches}
use Rattle.loop_data.specs.Shape.{IsOnCycle}
use Rattle.loop_data.proofs.Ways.{stop, further, ends_in}
use Rattle.loop_data.proofs.Lists.{In, to_in, from_in, Apart, pigeons, no_longer, apart_from_places}
use Rattle.loop_shapes.specs.Cycles.{AreGone, HasGone}
use Rattle.loop_shapes.specs.LoopBody.{LeadsOnFrom}
use Rattle.loop_shapes.specs.Sets.{AreDifferent}
use Rattle.loop_shapes.proofs.Rows.{none_in, contains_more}
use Rattle.loop_shapes.proofs.Rounds.{decide}

-- the first numbers of a list
in_first : (xs : List ℕ) (k y : ℕ) → k ≤ length xs → Contains (take k xs) y → (j : ℕ) × (j < k) × (get_or xs j 0 ≡ y)
in_first xs k y l c =
    let n = length-take-le k xs l in
    let m = c.1 in
    let q : c.0 < k = omega arith in
    (c.0, q, sym (get_or_default xs c.0 y 0 (omega arith)) ∙ sym (get_or-take k xs c.0 y q) ∙ c.2)

among_first : (xs : List ℕ) (k j : ℕ) → j < k → k ≤ length xs → Contains (take k xs) (get_or xs j 0)
among_first xs k j q l =
    let n = length-take-le k xs l in
    subst (Contains (take k xs)) (get_or-take k xs j 0 q) (Contains-get_or (take k xs) j 0 (omega arith))

from_first : (xs : List ℕ) (k y : ℕ) → k ≤ length xs → Contains (take k xs) y → Contains xs y
from_first xs k y l c =
    let t = in_first xs k y l c in
    let q = t.1 in
    subst (Contains xs) t.2 (Contains-get_or xs t.0 0 (omega arith))

module _ (nodes : List Successors) (places : List ℕ) where
  pub gone_none : (gone : List ℕ) → gone ≡ [] → AreGone nodes places gone
  gone_none gone e = subst (AreGone nodes places) (sym e) (record { among = λ i c. none_in i c; order = λ k i l. absurd (omega arith) })

  -- a word from which no edge leads on may go
  gone_push : (old : List ℕ) (x : ℕ) → Contains places x → ¬ LeadsOnFrom nodes places old x → AreGone nodes places old → AreGone nodes places (old ++ x ∷ [])
  gone_push old x here ends a = record { among = λ i c. by i (Contains-push_cases old x i c); order = order }
    where
      by : (i : ℕ) → Contains old i ⊎ (x ≡ i) → Contains places i
      by i (inl c) = a.among i c
      by i (inr e) = subst (Contains places) e here

      order : (k i : ℕ) → k < length (old ++ x ∷ []) → IsEdge nodes (get_or (old ++ x ∷ []) k 0) i → Contains places i → Contains (take k (old ++ x ∷ [])) i
      order k i m s c = at (cases_lt k (length old))
        where
          last : length old ≡ k → Contains old i ⊎ ¬ Contains old i → Contains (take k (old ++ x ∷ [])) i
          last q (inl d) = subst (λ (ys : List ℕ). Contains ys i) (sym (take-append-le k old (x ∷ []) (omega arith) ∙ take_all k old (omega arith))) d
          last q (inr n) = absurd (ends (record { to = i; edge = subst (λ (z : ℕ). IsEdge nodes z i) (get_or_push old x 0 k q) s; among = c; left = n }))

          at : (k < length old) ⊎ (length old ≤ k) → Contains (take k (old ++ x ∷ [])) i
          at (inl q) = subst (λ (ys : List ℕ). Contains ys i) (sym (take-append-le k old (x ∷ []) (omega arith))) (a.order k i q (subst (λ (z : ℕ). IsEdge nodes z i) (get_or_append_left old (x ∷ []) 0 k q) s) c)
          at (inr q) =
              let n = length_push old x in
              last (omega arith) (decide old i)

  -- none more
  pub gone_same : (Tried : ℕ → Type 0) (old : List ℕ) → ((i : ℕ) → Tried i → Contains places i → Contains old i ⊎ LeadsOnFrom nodes places old i) → HasGone nodes places Tried old old
  gone_same Tried old f = record { longer = omega arith; same = λ k l. refl; gone = λ a. a; tried = f }

  -- one more
  pub gone_one : (old new : List ℕ) (x : ℕ) → Contains places x → ¬ LeadsOnFrom nodes places old x → new ≡ old ++ x ∷ [] → HasGone nodes places (λ i. i ≡ x) old new
  gone_one old new x here ends e =
      let n = length_push old x in
      subst (HasGone nodes places (λ i. i ≡ x) old) (sym e) (record { longer = omega arith; same = λ k l. get_or_append_left old (x ∷ []) 0 k l; gone = gone_push old x here ends; tried = λ i q c. inl (subst (Contains (old ++ x ∷ [])) (sym q) (Contains-push old x)) })

  kept : (Tried : ℕ → Type 0) (old new : List ℕ) → HasGone nodes places Tried old new → (y : ℕ) → Contains old y → Contains new y
  kept Tried old new g y c =
      let l = c.1 in
      let m = g.longer in
      let e : get_or new c.0 0 ≡ y = g.same c.0 c.1 ∙ get_or_default old c.0 0 y c.1 ∙ c.2 in
      subst (Contains new) e (Contains-get_or new c.0 0 (omega arith))

  -- one after another
  pub gone_more : (xs : List ℕ) (k : ℕ) (old mid new : List ℕ) → k < length xs → HasGone nodes places (Contains (take k xs)) old mid → HasGone nodes places (λ i. i ≡ get_or xs k 0) mid new → HasGone nodes places (Contains (take (k + 1) xs)) old new
  gone_more xs k old mid new l a b =
      let al = a.longer in
      let bl = b.longer in
      record { longer = omega arith; same = λ j q. b.same j (omega arith) ∙ a.same j q; gone = λ g. b.gone (a.gone g); tried = λ i t c. by i c ((contains_more xs k l i).0 t) }
    where
      before : (i : ℕ) → Contains mid i ⊎ LeadsOnFrom nodes places old i → Contains new i ⊎ LeadsOnFrom nodes places old i
      before i (inl c) = inl (kept (λ j. j ≡ get_or xs k 0) mid new b i c)
      before i (inr s) = inr s

      now : (i : ℕ) → Contains new i ⊎ LeadsOnFrom nodes places mid i → Contains new i ⊎ LeadsOnFrom nodes places old i
      now i (inl c) = inl c
      now i (inr s) = inr (record { to = s.to; edge = s.edge; among = s.among; left = λ c. s.left (kept (Contains (take k xs)) old mid a s.to c) })

      by : (i : ℕ) → Contains places i → Contains (take k xs) i ⊎ (i ≡ get_or xs k 0) → Contains new i ⊎ LeadsOnFrom nodes places old i
      by i c (inl t) = before i (a.tried i t c)
      by i c (inr e) = now i (b.tried i e c)

  pub gone_whole : (xs : List ℕ) (k : ℕ) (old new : List ℕ) → length xs ≤ k → HasGone nodes places (Contains (take k xs)) old new → HasGone nodes places (Contains xs) old new
  gone_whole xs k old new l g = subst (λ (ys : List ℕ). HasGone nodes places (Contains ys) old new) (take_all k xs l) g

  -- what holds when what leads to the words gone before next was tried
  pub record TakingOut (next : ℕ) (gone : List ℕ) : Type 0 where
    pub to : next ≤ length gone
    pub are : AreGone nodes places gone
    pub left : (i : ℕ) → Contains places i → Contains gone i ⊎ LeadsOnFrom nodes places (take next gone) i

  pub taking_started : (old new : List ℕ) → old ≡ [] → HasGone nodes places (Contains places) old new → TakingOut 0 new
  taking_started old new e g = record { to = omega arith; are = g.gone (gone_none old e); left = λ i c. by i (g.tried i c c) }
    where
      by : (i : ℕ) → Contains new i ⊎ LeadsOnFrom nodes places old i → Contains new i ⊎ LeadsOnFrom nodes places (take 0 new) i
      by i (inl c) = inl c
      by i (inr s) = inr (record { to = s.to; edge = s.edge; among = s.among; left = λ c. none_in s.to c })

  pub taking_more : (Tried : ℕ → Type 0) (next : ℕ) (old new : List ℕ) → next < length old → ((i : ℕ) → Contains places i → IsEdge nodes i (get_or old next 0) → Tried i) → TakingOut next old → HasGone nodes places Tried old new → TakingOut (next + 1) new
  taking_more Tried next old new l leading t g =
      let m = g.longer in
      record { to = omega arith; are = g.gone t.are; left = λ i c. first i c (t.left i c) }
    where
      -- the first numbers are as they were
      prior : (y : ℕ) → Contains (take (next + 1) new) y → Contains (take (next + 1) old) y
      prior y c =
          let m = g.longer in
          let p = in_first new (next + 1) y (omega arith) c in
          let q = p.1 in
          subst (Contains (take (next + 1) old)) (sym (g.same p.0 (omega arith)) ∙ p.2) (among_first old (next + 1) p.0 p.1 (omega arith))

      last : (i : ℕ) → Contains new i ⊎ LeadsOnFrom nodes places old i → Contains new i ⊎ LeadsOnFrom nodes places (take (next + 1) new) i
      last i (inl c) = inl c
      last i (inr s) = inr (record { to = s.to; edge = s.edge; among = s.among; left = λ c. s.left (from_first old (next + 1) s.to (omega arith) (prior s.to c)) })

      on : (i : ℕ) → Contains places i → (s : LeadsOnFrom nodes places (take next old) i) → Contains (take next old) s.to ⊎ (s.to ≡ get_or old next 0) → Contains new i ⊎ LeadsOnFrom nodes places (take (next + 1) new) i
      on i c s (inl m) = absurd (s.left m)
      on i c s (inr e) = last i (g.tried i (leading i c (subst (IsEdge nodes i) e s.edge)) c)

      second : (i : ℕ) → Contains places i → (s : LeadsOnFrom nodes places (take next old) i) → Contains (take (next + 1) new) s.to ⊎ ¬ Contains (take (next + 1) new) s.to → Contains new i ⊎ LeadsOnFrom nodes places (take (next + 1) new) i
      second i c s (inl m) = on i c s ((contains_more old next l s.to).0 (prior s.to m))
      second i c s (inr n) = inr (record { to = s.to; edge = s.edge; among = s.among; left = n })

      first : (i : ℕ) → Contains places i → Contains old i ⊎ LeadsOnFrom nodes places (take next old) i → Contains new i ⊎ LeadsOnFrom nodes places (take (next + 1) new) i
      first i c (inl m) = inl (kept Tried old new g i m)
      first i c (inr s) = second i c s (decide (take (next + 1) new) s.to)

  -- an edge between two of the places
  pub record IsInnerEdge (i j : ℕ) : Type 0 where
    pub edge : IsEdge nodes i j
    pub from : Contains places i
    pub to : Contains places j

  module _ (gone : List ℕ) (a : AreGone nodes places gone) where
    -- a word of a cycle leads to none that went before
    none_before : (k : ℕ) → k ≤ length gone → (x : ℕ) → Contains (take k gone) x → IsOnCycle IsInnerEdge (Contains places) x → ⊥
    none_before zero l x c y = none_in x c
    none_before (suc k) l x c y = by (cases (subst (λ (n : ℕ). Contains (take n gone) x) e c)) (none_before k (omega arith))
      where
        e : suc k ≡ k + 1
        e = omega arith

        cases : Contains (take (k + 1) gone) x → Contains (take k gone) x ⊎ (x ≡ get_or gone k 0)
        cases d = (contains_more gone k (omega arith) x).0 d

        by : Contains (take k gone) x ⊎ (x ≡ get_or gone k 0) → ((z : ℕ) → Contains (take k gone) z → IsOnCycle IsInnerEdge (Contains places) z → ⊥) → ⊥
        by (inl d) f = f x d y
        by (inr q) f =
            let s : IsInnerEdge x y.next = y.step in
            f y.next (a.order k y.next (omega arith) (subst (λ (z : ℕ). IsEdge nodes z y.next) q s.edge) s.to) (rotated y)
          where
            rotated : (c : IsOnCycle IsInnerEdge (Contains places) x) → IsOnCycle IsInnerEdge (Contains places) c.next
            rotated c = go c.rest.words c.rest.way
              where
                go : (ws : List ℕ) → IsWay IsInnerEdge (Contains places) ws c.next x → IsOnCycle IsInnerEdge (Contains places) c.next
                go [] w = subst (IsOnCycle IsInnerEdge (Contains places)) (sym w.1) c
                go (z ∷ zs) w =
                    let end : Reaches IsInnerEdge (Contains places) z x = record { words = zs; way = w.2 } in
                    record { next = z; step = w.1; rest = further z x c.next end c.step (ends_in z x end) w.0 }

    pub none_left : ((i : ℕ) → Contains places i → Contains gone i) → (x : ℕ) → IsOnCycle IsInnerEdge (Contains places) x → ⊥
    none_left all x y =
        let s : IsInnerEdge x y.next = y.step in
        none_before (length gone) (omega arith) x (subst (λ (ys : List ℕ). Contains ys x) (sym (take_all (length gone) gone (omega arith))) (all x s.from)) y

    -- as many are gone as there are places
    pub all_gone : AreDifferent gone → length places ≤ length gone → (i : ℕ) → Contains places i → Contains gone i
    all_gone apart l i c = by (decide gone i)
      where
        inside : (x : ℕ) → In (i ∷ gone) x → In places x
        inside x (inl e) = to_in places x (subst (Contains places) e c)
        inside x (inr m) = to_in places x (a.among x (from_in gone x m))

        by : Contains gone i ⊎ ¬ Contains gone i → Contains gone i
        by (inl m) = m
        by (inr n) =
            let less : length (i ∷ gone) ≤ length places = pigeons (i ∷ gone) places (λ m. n (from_in gone i m), apart_from_places gone apart) inside in
            absurd (omega arith)

    pub no_more_gone : AreDifferent gone → length gone ≤ length places
    no_more_gone apart = no_longer gone places (apart_from_places gone apart) a.among

    module _ (on : (i : ℕ) → Contains places i → Contains gone i ⊎ LeadsOnFrom nodes places gone i) (none : (x : ℕ) → IsOnCycle IsInnerEdge (Contains places) x → ⊥) where
      -- different words that are left, each of which leads to the first
      record Walk (n : ℕ) : Type 0 where
        pub head : ℕ
        pub members : List ℕ
        pub count : length members ≡ suc n
        pub apart : Apart members
        pub inside : (z : ℕ) → In members z → Contains places z
        pub left : ¬ Contains gone head
        pub last : In members head
        pub reach : (z : ℕ) → In members z → Reaches IsInnerEdge (Contains places) z head

      start : (x : ℕ) → Contains places x → ¬ Contains gone x → Walk 0
      start x c n = record { head = x; members = x ∷ []; count = refl; apart = (λ i. i, tt); inside = here; left = n; last = inl refl; reach = there }
        where
          here : (z : ℕ) → In (x ∷ []) z → Contains places z
          here z (inl e) = subst (Contains places) e c
          here z (inr i) = absurd i

          there : (z : ℕ) → In (x ∷ []) z → Reaches IsInnerEdge (Contains places) z x
          there z (inl e) = subst (λ (q : ℕ). Reaches IsInnerEdge (Contains places) q x) e (stop IsInnerEdge (Contains places) x c)
          there z (inr i) = absurd i

      longer : (n : ℕ) → Walk n → Walk (suc n)
      longer n w = by (on w.head (w.inside w.head w.last))
        where
          more : LeadsOnFrom nodes places gone w.head → Walk (suc n)
          more o = record { head = o.to; members = o.to ∷ w.members; count = ap suc w.count; apart = (fresh, w.apart); inside = here; left = o.left; last = inl refl; reach = there }
            where
              edge : IsInnerEdge w.head o.to
              edge = record { edge = o.edge; from = w.inside w.head w.last; to = o.among }

              fresh : In w.members o.to → ⊥
              fresh i = none w.head (record { next = o.to; step = edge; rest = w.reach o.to i })

              here : (z : ℕ) → In (o.to ∷ w.members) z → Contains places z
              here z (inl e) = subst (Contains places) e o.among
              here z (inr i) = w.inside z i

              there : (z : ℕ) → In (o.to ∷ w.members) z → Reaches IsInnerEdge (Contains places) z o.to
              there z (inl e) = subst (λ (q : ℕ). Reaches IsInnerEdge (Contains places) q o.to) e (stop IsInnerEdge (Contains places) o.to o.among)
              there z (inr i) = further z w.head o.to (w.reach z i) edge (w.inside w.head w.last) o.among

          by : Contains gone w.head ⊎ LeadsOnFrom nodes places gone w.head → Walk (suc n)
          by (inl c) = absurd (w.left c)
          by (inr o) = more o

      walk : (x : ℕ) → Contains places x → ¬ Contains gone x → (n : ℕ) → Walk n
      walk x c m zero = start x c m
      walk x c m (suc n) = longer n (walk x c m n)

      -- so that none is left
      pub nothing_left : (i : ℕ) → Contains places i → Contains gone i
      nothing_left i c = by (decide gone i)
        where
          too_long : Walk (length places) → ⊥
          too_long w =
              let a = w.count in
              let b : length w.members ≤ length places = pigeons w.members places w.apart (λ z m. to_in places z (w.inside z m)) in
              omega arith

          by : Contains gone i ⊎ ¬ Contains gone i → Contains gone i
          by (inl m) = m
          by (inr n) = absurd (too_long (walk i c n (length places)))

  pub all_tried : (next : ℕ) (gone : List ℕ) → length gone ≤ next → TakingOut next gone → (i : ℕ) → Contains places i → Contains gone i ⊎ LeadsOnFrom nodes places gone i
  all_tried next gone l t i c = subst (λ (ys : List ℕ). Contains gone i ⊎ LeadsOnFrom nodes places ys i) (take_all next gone l) (t.left i c)
