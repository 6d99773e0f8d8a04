use Rattle.std.proofs.Common.{◌∙◌, ◌||◌, ap}
use Rattle.loop_data.specs.Lookups.{cell_map}
use Rattle.loop_data.specs.LoopCode.{any_writes, code_of}
use Rattle.register_equations.proofs.Coming.{none_set}
use Rattle.register_equations.proofs.passes.written_flags.Goals as goal

pub returns : goal.returns
returns c r l =
    c.mark_body.ensures r l ∙ ap (λ b. b || any_writes (code_of c.args.graph.now (cell_map c.args.cells.now)) c.args.body.now r) (none_set 48 r)
