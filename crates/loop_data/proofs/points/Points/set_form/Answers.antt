use Rattle.loop_data.proofs.Pooling.{form_set}
use Rattle.loop_data.proofs.points.Points.set_form.Goals as goal

pub returns : goal.returns
returns c =
    form_set c.self.inside.pool.items c.number_of.new.pool.items c.self.inside.rows.items c.args.place c.args.location c.in_ok-number.number c.index_mut.result.now c.args.form c.args.self.now c.self.invariant (record { kept = c.number_of.ensures.kept; count = c.number_of.ensures.count }) c.self.view_is c.requires.place c.index_mut.ensures.value c.in_ok-number.ensures.is
