use Rattle.std.proofs.Common.{ap, sym, ◌∙◌, arith}
use Rattle.loop_data.specs.declared.shape.Level.{Level}
use Rattle.loop_data.specs.LoopCode.{code_of}
use Rattle.loop_data.specs.Lookups.{cell_map}
use Rattle.loop_tests.proofs.Listed.{few_accesses}
use Rattle.loop_tests.proofs.tests.access_rows.accesses_in.Goals as goal

pub accesses-requires-clause-few : goal.accesses-requires-clause-few
accesses-requires-clause-few c =
    few_accesses c.args.found.now.graph c.args.found.now.shape.levels c.as_slice-levels.result.now c.index-levels-0.result c.as_slice-body.result.now (code_of c.args.found.now.graph (cell_map c.no_cells.result))
    c.as_slice-levels.ensures c.index-levels-0.is (c.as_slice-body.ensures ∙ ap (λ (l : Level). l.body) (sym c.index-levels-0.is)) (omega arith)
