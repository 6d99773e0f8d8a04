use Rattle.loop_data.proofs.Pooling.{copied_row}
use Rattle.loop_data.proofs.points.Points.copy_forms.Goals as goal

pub returns : goal.returns
returns c =
    copied_row c.self.inside.pool.items c.self.inside.rows.items c.args.place c.args.from c.index_mut.result.now c.index.result.now c.args.self.now c.self.view_is c.requires.place c.requires.from c.index_mut.ensures.value c.index.ensures
