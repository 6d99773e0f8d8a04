use Rattle.std.proofs.lemmas.Result.{on_ok_weaker}
use Rattle.loop_data.specs.LoopCode.{code_of}
use Rattle.loop_data.specs.Lookups.{cell_map}
use Rattle.register_equations.specs.States.{IsMet}
use Rattle.register_equations.proofs.Setting.{headed_set}
use Rattle.register_equations.proofs.passes.set_inner.Goals as goal

pub returns : goal.returns
returns c =
    let B = code_of c.args.graph.now (cell_map c.args.cells.now) in
    on_ok_weaker c.set_headed.result
    (λ s. headed_set B c.args.levels.now c.args.classes.now c.args.level.now (IsMet c.args.inner.now c.args.flow.now c.args.points.now c.args.sources.now c.args.v) c.args.p c.args.points.now c.set_met.new.points c.set_headed.new.points c.requires.place c.in_ok-set_met.ensures s)
    c.set_headed.ensures
