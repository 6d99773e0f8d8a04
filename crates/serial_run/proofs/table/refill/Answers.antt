use Rattle.std.proofs.lemmas.List.Elements.{All-set}
use Rattle.serial_run.specs.Table.{IsEntryOf}
use Rattle.serial_run.proofs.table.refill.Goals as goal

pub returns-in-Ok-clause-table : goal.returns-in-Ok-clause-table
returns-in-Ok-clause-table c =
    All-set (IsEntryOf c.args.memory.now) c.args.table.now c.place_of.result _ (record { is = c.in-Ok.ensures.instr }) c.requires.table
