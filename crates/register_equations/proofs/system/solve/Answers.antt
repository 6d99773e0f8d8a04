use Rattle.std.proofs.Common.{◌∙◌, List, length, sym, subst}
use Rattle.loop_data.specs.declared.equations.Equations.{Equations}
use Rattle.loop_data.specs.Points.{Point}
use Rattle.loop_data.specs.declared.equations.Duty.{Duty}
use Rattle.loop_data.specs.declared.shape.Level.{Level}
use Rattle.loop_data.specs.LoopWords.{AreNest}
use Rattle.loop_data.specs.Lookups.{cell_map}
use Rattle.loop_data.specs.Results.{AreEquations}
use Rattle.loop_data.proofs.ValuePlaces.{few_of}
use Rattle.register_equations.specs.Astray.{IsLeastAstray}
use Rattle.register_equations.specs.States.{AreSolvedPoints, AreDutiesTo}
use Rattle.register_equations.proofs.Equated.{bodies, deep, held, rising, flow_of_root, instrs_fit, uses_fit, equations_right}
use Rattle.register_equations.proofs.system.solve.Goals as goal

pub duties_of-requires-clause-bodies : goal.duties_of-requires-clause-bodies
duties_of-requires-clause-bodies c =
    let G = c.args.graph.now in
    let nest = subst (λ (ls : List Level). AreNest G ls) (sym c.as_slice-levels.ensures) c.requires.nest in
    bodies G c.as_slice-levels.result.now nest

pub unconfirmed-unconfirmed-requires-clause-bodies : goal.unconfirmed-unconfirmed-requires-clause-bodies
unconfirmed-unconfirmed-requires-clause-bodies c =
    let G = c.args.graph.now in
    let nest = subst (λ (ls : List Level). AreNest G ls) (sym c.as_slice-levels.ensures) c.requires.nest in
    bodies G c.as_slice-levels.result.now nest

pub duties_of-requires-clause-depths : goal.duties_of-requires-clause-depths
duties_of-requires-clause-depths c =
    let G = c.args.graph.now in
    let nest = subst (λ (ls : List Level). AreNest G ls) (sym c.as_slice-levels.ensures) c.requires.nest in
    deep G c.as_slice-levels.result.now nest

pub duties_of-requires-clause-held : goal.duties_of-requires-clause-held
duties_of-requires-clause-held c =
    let G = c.args.graph.now in
    let C = cell_map c.args.cells.now in
    let ls = c.as_slice-levels.result.now in
    let nest = subst (λ (xs : List Level). AreNest G xs) (sym c.as_slice-levels.ensures) c.requires.nest in
    held G ls nest C c.args.classes.now c.in_ok-points.points c.in_ok-points.ensures

pub duties_of-requires-clause-ordered : goal.duties_of-requires-clause-ordered
duties_of-requires-clause-ordered c =
    let G = c.args.graph.now in
    let C = cell_map c.args.cells.now in
    let ls = c.as_slice-levels.result.now in
    let nest = subst (λ (xs : List Level). AreNest G xs) (sym c.as_slice-levels.ensures) c.requires.nest in
    rising G ls nest C c.args.classes.now c.in_ok-points.points c.in_ok-points.ensures

pub duties_of-requires-clause-count : goal.duties_of-requires-clause-count
duties_of-requires-clause-count c =
    let G = c.args.graph.now in
    let C = cell_map c.args.cells.now in
    let ls = c.as_slice-levels.result.now in
    let nest = subst (λ (xs : List Level). AreNest G xs) (sym c.as_slice-levels.ensures) c.requires.nest in
    instrs_fit G ls nest C c.args.classes.now c.in_ok-points.points c.in_ok-points.ensures c.in_ok-flow.flow (flow_of_root G ls nest C c.in_ok-flow.flow c.in_ok-flow.ensures)

pub duties_of-requires-clause-uses : goal.duties_of-requires-clause-uses
duties_of-requires-clause-uses c =
    let G = c.args.graph.now in
    let C = cell_map c.args.cells.now in
    let ls = c.as_slice-levels.result.now in
    let nest = subst (λ (xs : List Level). AreNest G xs) (sym c.as_slice-levels.ensures) c.requires.nest in
    uses_fit G ls nest C c.args.classes.now c.in_ok-points.points c.in_ok-points.ensures c.in_ok-flow.flow (flow_of_root G ls nest C c.in_ok-flow.flow c.in_ok-flow.ensures)

pub unconfirmed-unconfirmed-requires-clause-count : goal.unconfirmed-unconfirmed-requires-clause-count
unconfirmed-unconfirmed-requires-clause-count c =
    let G = c.args.graph.now in
    let C = cell_map c.args.cells.now in
    let ls = c.as_slice-levels.result.now in
    let nest = subst (λ (xs : List Level). AreNest G xs) (sym c.as_slice-levels.ensures) c.requires.nest in
    instrs_fit G ls nest C c.args.classes.now c.in_ok-points.points c.in_ok-points.ensures c.in_ok-flow.flow (flow_of_root G ls nest C c.in_ok-flow.flow c.in_ok-flow.ensures)

pub unconfirmed-unconfirmed-requires-clause-uses : goal.unconfirmed-unconfirmed-requires-clause-uses
unconfirmed-unconfirmed-requires-clause-uses c =
    let G = c.args.graph.now in
    let C = cell_map c.args.cells.now in
    let ls = c.as_slice-levels.result.now in
    let nest = subst (λ (xs : List Level). AreNest G xs) (sym c.as_slice-levels.ensures) c.requires.nest in
    uses_fit G ls nest C c.args.classes.now c.in_ok-points.points c.in_ok-points.ensures c.in_ok-flow.flow (flow_of_root G ls nest C c.in_ok-flow.flow c.in_ok-flow.ensures)

pub returns : goal.returns
returns c =
    let G = c.args.graph.now in
    let C = cell_map c.args.cells.now in
    let ls = c.as_slice-levels.result.now in
    let classes = c.args.classes.now in
    let nest = subst (λ (xs : List Level). AreNest G xs) (sym c.as_slice-levels.ensures) c.requires.nest in
    let points = c.in_ok-points.points in
    let duties = subst (λ (ds : List Duty). AreDutiesTo c.in_ok-flow.flow ls points (length points) ds) (sym c.new.ensures) c.in_ok-duties.ensures in
    let e : Equations = record { points = points; duties = c.new.result; unconfirmed = c.unconfirmed-unconfirmed.result } in
    subst (λ (xs : List Level). AreEquations G xs C classes e) c.as_slice-levels.ensures
    (equations_right G C (few_of c.args.cells.now c.requires.cells) ls nest classes c.in_ok-flow.flow (flow_of_root G ls nest C c.in_ok-flow.flow c.in_ok-flow.ensures) e c.in_ok-points.ensures duties c.unconfirmed-unconfirmed.ensures)
