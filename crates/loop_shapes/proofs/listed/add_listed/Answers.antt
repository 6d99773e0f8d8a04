use Rattle.std.proofs.Common.{refl, sym, subst}
use Rattle.loop_shapes.specs.Gains.{Gained}
use Rattle.loop_shapes.specs.Program.{program_graph}
use Rattle.loop_shapes.proofs.Answered.{failed}
use Rattle.loop_shapes.proofs.Gains.{gained_push}
use Rattle.loop_shapes.proofs.ListedRows.{Chosen}
use Rattle.loop_shapes.proofs.listed.add_listed.Goals as goal

pub returns : goal.returns
returns c =
    let P = Chosen (program_graph c.args.program.now) c.args.numbers.now c.args.to c.args.from in
    subst (Gained P c.args.row.now.items) (sym c.in_ok-push.ensures.items) (gained_push P c.args.row.now.items c.args.from (refl, (c.if-from-to.false, (c.if-numbers-to.false, failed c.is_shared.result c.is_shared.ensures c.if-is_shared.false))) (λ f p. p.0))
