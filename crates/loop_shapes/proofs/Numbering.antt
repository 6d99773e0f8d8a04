-- The step edges between words as a graph over places.
use Rattle.std.proofs.Common.{◌≡◌, ◌≢◌, ℕ, zero, suc, ◌+◌, ◌<◌, ◌≤◌, ◌⊎◌, ◌↔◌, inl, inr, Option, Some, None, List, [], ◌∷◌, ◌++◌, length, get_or, refl, ap, sym, ◌∙◌, subst, arith}
use Rattle.std.specs.Bool.{⊤}
use Rattle.std.specs.List.{Contains, slice_get, slice_index}
use Rattle.std.specs.Option.{IfSome, IfNone}
use Rattle.std.proofs.lemmas.Bool.{cases_lt, cases_eq}
use Rattle.std.proofs.lemmas.List.{get_or_default, length_push}
use Rattle.std.proofs.lemmas.List.Elements.{Contains-get_or}
use Rattle.strong_components.specs.Graph as graphs
use Rattle.strong_components.specs.declared.graph.Successors.{Successors}
use Rattle.loop_data.specs.declared.graph.Graph.{Graph}
use Rattle.loop_data.specs.Paths.{addresses, IsInOrder, IsWord, Leads, LeadsFar}
use Rattle.loop_shapes.specs.Places.{count_of, at}
use Rattle.loop_shapes.specs.Numbers.{AreNodes, AreNumbers}
use Rattle.loop_data.proofs.Ways.{stop, step, backward}
use Rattle.loop_shapes.proofs.Rows.{same_place}
use Rattle.loop_shapes.proofs.Parts.{place_of_source, word_at}

-- what one of at most two steps leads to
abbrev pub IsStepAt : Graph → List ℕ → ℕ → Option ℕ → Type 0
IsStepAt G steps k o = IfSome o (λ j. (j < count_of G) × (k < length steps) × (at G j ≡ get_or steps k 0)) × IfNone o (k < length steps → ¬ IsWord G (get_or steps k 0))

module _ (G : Graph) (up : IsInOrder G) (steps : List ℕ) where
  there : (k j : ℕ) (o : Option ℕ) → IsStepAt G steps k o → o ≡ Some j → (j < count_of G) × Contains steps (at G j)
  there k j None s e = absurd (cc)
  there k j (Some i) s e =
      let same : i ≡ j = cc in
      (subst (λ (q : ℕ). q < count_of G) same s.0.0, subst (λ (q : ℕ). Contains steps (at G q)) same (subst (Contains steps) (sym s.0.2) (Contains-get_or steps k 0 s.0.1)))

  back : (k j : ℕ) (o : Option ℕ) → IsStepAt G steps k o → j < count_of G → k < length steps → get_or steps k 0 ≡ at G j → o ≡ Some j
  back k j None s l m e = absurd (s.1 m (subst (IsWord G) (sym e) (word_at G j l)))
  back k j (Some i) s l m e = ap (λ (q : ℕ). Some q) (same_place (addresses G) up i j s.0.0 l (s.0.2 ∙ e))

  pub leads_to : (node : Successors) → length steps ≤ 2 → IsStepAt G steps 0 node.first → IsStepAt G steps 1 node.second → (j : ℕ) → graphs.LeadsTo node j ↔ ((j < count_of G) × Contains steps (at G j))
  leads_to node few a b j = (forth, λ p. by p.0 p.1)
    where
      forth : graphs.LeadsTo node j → (j < count_of G) × Contains steps (at G j)
      forth (inl e) = there 0 j node.first a e
      forth (inr e) = there 1 j node.second b e

      by : j < count_of G → Contains steps (at G j) → graphs.LeadsTo node j
      by l c = first (cases_eq c.0 0)
        where
          value : get_or steps c.0 0 ≡ at G j
          value = get_or_default steps c.0 0 (at G j) c.1 ∙ c.2

          first : (c.0 ≡ 0) ⊎ (c.0 ≢ 0) → graphs.LeadsTo node j
          first (inl e) = inl (back 0 j node.first a l (subst (λ (q : ℕ). q < length steps) e c.1) (ap (λ q. get_or steps q 0) (sym e) ∙ value))
          first (inr ne) =
              let m = c.1 in
              let e : c.0 ≡ 1 = omega arith in
              inr (back 1 j node.second b l (subst (λ (q : ℕ). q < length steps) e c.1) (ap (λ q. get_or steps q 0) (sym e) ∙ value))

module _ (G : Graph) (up : IsInOrder G) (nodes : List Successors) (n : AreNodes G nodes) where
  pub inside : graphs.LeadsInside nodes
  inside = record { inside = λ a b e. let l = (n.each a b e).1 in let c = n.count in omega arith }

  pub reached_from : (xs : List ℕ) (a b : ℕ) → graphs.IsPath nodes xs a b → LeadsFar G (at G a) (at G b)
  reached_from [] a b p = subst (λ (q : ℕ). LeadsFar G (at G a) (at G q)) p (stop (Leads G) (λ _. ⊤) (at G a) tt)
  reached_from (x ∷ xs) a b p = step (Leads G) (λ _. ⊤) (at G a) (at G x) (at G b) tt (n.each a x p.0).2 (reached_from xs x b p.1)

  pub reached_to : (a b : ℕ) → a < count_of G → b < count_of G → LeadsFar G (at G a) (at G b) → graphs.HasPath nodes a b
  reached_to a b la lb r =
      let t = backward (Leads G) (λ _. ⊤) Here (at G b) (b, lb, refl, record { through = []; path = refl }) prior (at G a) r in
      subst (λ (q : ℕ). graphs.HasPath nodes q b) (same_place (addresses G) up t.0 a t.1 la t.2) t.3
    where
      Here : ℕ → Type 0
      Here y = (i : ℕ) × (i < count_of G) × (at G i ≡ y) × graphs.HasPath nodes i b

      prior : (x y : ℕ) → ⊤ → Leads G x y → ⊤ → Here y → Here x
      prior x y tx lead ty t =
          let p = place_of_source G x y lead in
          let edge = subst (λ (q : ℕ). Leads G q (at G t.0)) (sym p.is) (subst (Leads G x) (sym t.2) lead) in
          (p.place, p.within, p.is, record { through = t.0 ∷ t.3.through; path = (n.every p.place t.0 p.within t.1 edge, t.3.path) })

  pub same_number : (a b : ℕ) → a < count_of G → b < count_of G → (graphs.HasPath nodes a b × graphs.HasPath nodes b a) ↔ (LeadsFar G (at G a) (at G b) × LeadsFar G (at G b) (at G a))
  same_number a b la lb = (λ p. (reached_from p.0.through a b p.0.path, reached_from p.1.through b a p.1.path), λ p. (reached_to a b la lb p.0, reached_to b a lb la p.1))

get_left : (xs : List Successors) (v : Successors) (i : ℕ) → i < length xs → slice_get (xs ++ v ∷ []) i ≡ slice_get xs i
get_left [] v i l = absurd (omega arith)
get_left (x ∷ xs) v zero l = refl
get_left (x ∷ xs) v (suc i) l = get_left xs v i (omega arith)

get_last : (xs : List Successors) (v : Successors) → slice_get (xs ++ v ∷ []) (length xs) ≡ Some v
get_last [] v = refl
get_last (x ∷ xs) v = get_last xs v

get_past : (xs : List Successors) (i : ℕ) → length xs ≤ i → slice_get xs i ≡ None
get_past [] i l = refl
get_past (x ∷ xs) zero l = absurd (omega arith)
get_past (x ∷ xs) (suc i) l = get_past xs i (omega arith)

-- the edges of the nodes before a place
abbrev pub HasEdgesBelow : Graph → ℕ → List Successors → Type 0
HasEdgesBelow G n nodes = (length nodes ≡ n) × ((a b : ℕ) → graphs.IsEdge nodes a b ↔ ((a < n) × (b < count_of G) × Leads G (at G a) (at G b)))

pub nodes_push : (G : Graph) (n : ℕ) (old new : List Successors) (v : Successors) → new ≡ old ++ v ∷ [] → ((j : ℕ) → graphs.LeadsTo v j ↔ ((j < count_of G) × Leads G (at G n) (at G j))) → HasEdgesBelow G n old → HasEdgesBelow G (n + 1) new
nodes_push G n old new v e says h = subst (HasEdgesBelow G (n + 1)) (sym e) (length_push old v ∙ ap (λ k. k + 1) h.0, λ a b. (there a b, back a b))
  where
    last : slice_get (old ++ v ∷ []) n ≡ Some v
    last = ap (slice_get (old ++ v ∷ [])) (sym h.0) ∙ get_last old v

    there : (a b : ℕ) → graphs.IsEdge (old ++ v ∷ []) a b → (a < n + 1) × (b < count_of G) × Leads G (at G a) (at G b)
    there a b x = by (cases_lt a n)
      where
        at_last : (a ≡ n) ⊎ (a ≢ n) → n ≤ a → (a < n + 1) × (b < count_of G) × Leads G (at G a) (at G b)
        at_last (inl q) l =
            let f : Some x.node ≡ Some v = sym x.is ∙ ap (slice_get (old ++ v ∷ [])) q ∙ last in
            let same : x.node ≡ v = cc in
            let p = (says b).0 (subst (λ (w : Successors). graphs.LeadsTo w b) same x.leads) in
            (omega arith, p.0, subst (λ (k : ℕ). Leads G (at G k) (at G b)) (sym q) p.1)
        at_last (inr ne) l =
            let m = length_push old v in
            let c = h.0 in
            let f : Some x.node ≡ None = sym x.is ∙ get_past (old ++ v ∷ []) a (omega arith) in
            absurd (cc)

        by : (a < n) ⊎ (n ≤ a) → (a < n + 1) × (b < count_of G) × Leads G (at G a) (at G b)
        by (inl l) =
            let c = h.0 in
            let p = (h.1 a b).0 (record { node = x.node; is = sym (get_left old v a (omega arith)) ∙ x.is; leads = x.leads }) in
            (omega arith, p.1, p.2)
        by (inr l) = at_last (cases_eq a n) l

    back : (a b : ℕ) → (a < n + 1) × (b < count_of G) × Leads G (at G a) (at G b) → graphs.IsEdge (old ++ v ∷ []) a b
    back a b p = by (cases_lt a n)
      where
        by : (a < n) ⊎ (n ≤ a) → graphs.IsEdge (old ++ v ∷ []) a b
        by (inl l) =
            let c = h.0 in
            let x = (h.1 a b).1 (l, p.1, p.2) in
            record { node = x.node; is = get_left old v a (omega arith) ∙ x.is; leads = x.leads }
        by (inr l) =
            let m = p.0 in
            let q : n ≡ a = omega arith in
            record { node = v; is = ap (slice_get (old ++ v ∷ [])) (sym q) ∙ last; leads = (says b).1 (p.1, subst (λ (k : ℕ). Leads G (at G k) (at G b)) (sym q) p.2) }

pub nodes_none : (G : Graph) → HasEdgesBelow G 0 []
nodes_none G = (refl, λ a b. (λ x. none x.node x.is, λ p. let l = p.0 in absurd (omega arith)))
  where
    none : {A : Type 0} (v : Successors) → None ≡ Some v → A
    none v e = absurd (cc)

pub nodes_all : (G : Graph) (n : ℕ) (nodes : List Successors) → n ≡ count_of G → HasEdgesBelow G n nodes → AreNodes G nodes
nodes_all G n nodes e h = record { count = h.0 ∙ e; each = λ a b x. let p = (h.1 a b).0 x in (subst (λ (k : ℕ). a < k) e p.0, p.1, p.2); every = λ a b la lb lead. (h.1 a b).1 (subst (λ (k : ℕ). a < k) (sym e) la, lb, lead) }

pub numbers_by : (G : Graph) → IsInOrder G → (nodes : List Successors) → AreNodes G nodes → (given : List Successors) (numbers : List ℕ) → given ≡ nodes → length numbers ≡ count_of G → ((a b : ℕ) → a < length given → b < length given → (slice_index numbers a ≡ slice_index numbers b) ↔ (graphs.HasPath given a b × graphs.HasPath given b a)) → AreNumbers G numbers
numbers_by G up nodes n given numbers e count same = record { count = count; same = one }
  where
    one : (a b : ℕ) → a < count_of G → b < count_of G → (slice_index numbers a ≡ slice_index numbers b) ↔ (LeadsFar G (at G a) (at G b) × LeadsFar G (at G b) (at G a))
    one a b la lb =
        let c = ap length e ∙ n.count in
        let s = same a b (omega arith) (omega arith) in
        let t = same_number G up nodes n a b la lb in
        (λ q. t.0 (subst (λ (gs : List Successors). graphs.HasPath gs a b × graphs.HasPath gs b a) e (s.0 q)), λ p. s.1 (subst (λ (gs : List Successors). graphs.HasPath gs a b × graphs.HasPath gs b a) (sym e) (t.1 p)))
