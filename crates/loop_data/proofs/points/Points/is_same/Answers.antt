use Rattle.loop_data.proofs.Pooling.{read_form}
use Rattle.loop_data.proofs.points.Points.is_same.Goals as goal

pub returns-else-number-second : goal.returns-else-number-second
returns-else-number-second c =
    let a = read_form c.self.inside.pool.items c.self.inside.rows.items c.args.place c.args.location c.index.result.now c.index-else-number-second.result.now c.args.self.now c.self.invariant c.self.view_is c.requires.place c.requires.location c.index.ensures c.index-else-number-second.ensures in
    let b = read_form c.self.inside.pool.items c.self.inside.rows.items c.args.other c.args.location c.index-2.result.now c.index-else-number-second-2.result.now c.args.self.now c.self.invariant c.self.view_is c.requires.other c.requires.location c.index-2.ensures c.index-else-number-second-2.ensures in
    rw (a, b) c.are_same.ensures
