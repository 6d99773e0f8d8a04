use Rattle.std.proofs.Common.{◌≡◌, ℕ, Some, get_or, length, arith}
use Rattle.loop_data.specs.Facts.{Fact}
use Rattle.loop_data.specs.Lookups.{fact_in}
use Rattle.loop_data.specs.ValueStates.{past}
use Rattle.loop_data.proofs.ValueFills.{agreed_more, agreed_all}
use Rattle.loop_data.proofs.value_places.set_met.Goals as goal

pub loop-i-preserved : goal.loop-i-preserved
loop-i-preserved c r l =
    let ks = c.args.sources.now in
    let P = λ (k : ℕ) (x : Fact). past c.args.flow.now c.args.points.now k r ≡ Some x in
    agreed_more P ks c.loop-i.i (fact_in c.loop-i.of r) (fact_in c.meet_past.new.of r) (past c.args.flow.now c.args.points.now (get_or ks c.loop-i.i 0) r) (λ (x : Fact). P (get_or ks 0 0) x) c.loop-i-test.true (c.loop-i.invariant r l) (c.meet_past.ensures r l) (λ x. (λ q. q, λ q. q))

pub returns : goal.returns
returns c r l =
    let ks = c.args.sources.now in
    let P = λ (k : ℕ) (x : Fact). past c.args.flow.now c.args.points.now k r ≡ Some x in
    let within = c.loop-i.auto.i-end c.requires.some in
    let last : c.loop-i.i ≡ length ks = omega arith in
    agreed_all P ks c.loop-i.i (fact_in c.loop-i.of r) last c.requires.some (c.loop-i.invariant r l)
