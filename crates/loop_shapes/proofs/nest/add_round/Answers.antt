use Rattle.std.proofs.Common.{◌≡◌, ◌≢◌, ℕ, List, refl, sym, subst}
use Rattle.std.specs.List.{Contains}
use Rattle.std.proofs.lemmas.Bool.{false≢true}
use Rattle.loop_data.specs.declared.graph.Graph.{Graph}
use Rattle.loop_data.specs.Bodies.{InBody}
use Rattle.loop_shapes.specs.Gains.{Gained}
use Rattle.loop_shapes.specs.Program.{program_graph}
use Rattle.loop_shapes.proofs.Gains.{gained_same, gained_push}
use Rattle.loop_shapes.proofs.nest.add_round.Goals as goal

abbrev Chosen : Graph → ℕ → ℕ → ℕ → Type 0
Chosen G x k z = (z ≡ k) × ((k ≢ x) × InBody G k x)

pub returns-then-not-is_among : goal.returns-then-not-is_among
returns-then-not-is_among c =
    let x = c.args.x in
    gained_same (Chosen (program_graph c.args.program.now) x c.args.round) c.args.all.now.items (λ z p. false≢true (c.if-not-is_among.ensures.1 (subst (λ (ys : List ℕ). Contains ys x) (sym c.as_slice.ensures.value) (c.in_ok-body.ensures.every x p.1.1))))

pub returns : goal.returns
returns c =
    let G = program_graph c.args.program.now in
    let x = c.args.x in
    let here = c.in_ok-body.ensures.each x (subst (λ (ys : List ℕ). Contains ys x) c.as_slice.ensures.value (c.if-not-is_among.ensures.0 refl)) in
    subst (Gained (Chosen G x c.args.round) c.args.all.now.items) (sym c.in_ok-push.ensures.items) (gained_push (Chosen G x c.args.round) c.args.all.now.items c.args.round (refl, (c.if-round-x.false, here)) (λ f p. p.0))
