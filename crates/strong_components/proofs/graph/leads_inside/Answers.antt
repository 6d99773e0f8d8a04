use Rattle.std.proofs.Common.{◌≡◌, subst, sym, ◌∙◌, refl, arith, Some, inl, inr}
use Rattle.std.proofs.lemmas.Bool.{cases_lt, iff_false, false≢true}
use Rattle.std.proofs.lemmas.Option.{same_Some, slice_get_within, slice_get-get_or}
use Rattle.std.specs.List.{slice_get}
use Rattle.strong_components.specs.Graph.{LeadsTo}
use Rattle.strong_components.proofs.Paths.{edge_from}
use Rattle.strong_components.proofs.graph.leads_inside.Goals as goal

pub returns-then-not-lead_below : goal.returns-then-not-lead_below
returns-then-not-lead_below c =
    let nodes = c.args.nodes.now in let k = c.loop-node.node-index in (
      λ yes. absurd (false≢true yes),
      λ all. absurd (iff_false c.lead_below.ensures c.if-not-lead_below.true (λ b leads. all.inside k b (edge_from nodes k b _ c.loop-node-test.true leads))),
    )

pub loop-node-preserved : goal.loop-node-preserved
loop-node-preserved c = λ a b node h is leads.
    let nodes = c.args.nodes.now in let k = c.loop-node.node-index in
    elim (cases_lt a k) [
      | inl low ↦ c.loop-node.invariant a b node low is leads
      | inr high ↦
          (let e : a ≡ k = omega arith in
          let at : slice_get nodes k ≡ Some node = subst (λ i. slice_get nodes i ≡ Some node) e is in
          let same = same_Some node _ (sym at ∙ slice_get-get_or nodes k _ c.loop-node-test.true) in
          c.lead_below.ensures.0 c.if-not-lead_below.false b (subst (λ n. LeadsTo n b) same leads))
    ]

pub returns : goal.returns
returns c =
    let nodes = c.args.nodes.now in
    (λ _. record { inside = λ a b edge. c.loop-node.invariant a b edge.node (let l = slice_get_within nodes a edge.node edge.is in omega arith) edge.is edge.leads }, λ _. refl)
