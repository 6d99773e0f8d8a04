use Rattle.std.proofs.Common.{◌≡◌, ◌∙◌, ◌↔◌, Some, sym, arith}
use Rattle.loop_data.specs.Facts.{Fact}
use Rattle.loop_data.specs.Lookups.{fact_in}
use Rattle.loop_data.proofs.ValueFills.{filled_set, fact_read_at}
use Rattle.loop_data.proofs.value_places.meet.Goals as goal

pub loop-r-preserved : goal.loop-r-preserved
loop-r-preserved c =
    let r = c.loop-r.r in
    let f = c.loop-r.invariant in
    let n = f.count in
    let first = c.args.of.now in
    let others = c.args.others.now in
    let m = c.told-others in
    let low = c.loop-r-test.true in
    let a = fact_read_at c.loop-r.of r _ (omega arith) low ∙ f.above r (omega arith) in
    let b = fact_read_at others r _ (rw m low) low in
    filled_set (λ q fact. (x : Fact) → (fact ≡ Some x) ↔ ((fact_in first q ≡ Some x) × (fact_in others q ≡ Some x))) first c.loop-r.of r c.met.result low f
    (λ x. (λ q. let p = (c.met.ensures x).0 q in (sym a ∙ p.0, sym b ∙ p.1), λ q. (c.met.ensures x).1 (a ∙ q.0, b ∙ q.1)))

pub returns : goal.returns
returns c q l = c.loop-r.invariant.below q (omega arith)
