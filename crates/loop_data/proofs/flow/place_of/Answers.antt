use Rattle.loop_data.proofs.Searched.{none_found}
use Rattle.loop_data.proofs.flow.place_of.Goals as goal

pub returns-in-Err-clause-none : goal.returns-in-Err-clause-none
returns-in-Err-clause-none c = none_found c.args.body.now c.args.x c.in-Err.field-0 c.requires c.in-Err.ensures.position
