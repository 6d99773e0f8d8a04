use Rattle.std.proofs.Common.{◌≡◌, ◌∙◌, None, Option, false, if◌then◌else◌, get_or, ap, arith}
use Rattle.loop_data.specs.Facts.{Fact}
use Rattle.loop_data.specs.Lookups.{fact_in}
use Rattle.loop_data.proofs.ValueFills.{filled_set, fact_read_at}
use Rattle.loop_data.proofs.value_places.forget.Goals as goal

pub loop-r-preserved : goal.loop-r-preserved
loop-r-preserved c =
    let r = c.loop-r.r in
    let f = c.loop-r.invariant in
    let n = f.count in
    let first = c.args.of.now in
    let flags = c.args.flags.now in
    filled_set (λ q fact. fact ≡ (if get_or flags q false then None else fact_in first q)) first c.loop-r.of r c.kept.result c.loop-r-test.true f
    (c.kept.ensures ∙ ap (λ (o : Option Fact). if get_or flags r false then None else o) (fact_read_at c.loop-r.of r _ (omega arith) c.loop-r-test.true ∙ f.above r (omega arith)))
