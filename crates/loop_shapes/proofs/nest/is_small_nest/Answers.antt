use Rattle.std.proofs.Common.{◌≡◌, ◌<◌, ◌≤◌, ◌⊎◌, ℕ, inl, inr, length, get_or, refl, subst, arith}
use Rattle.std.proofs.lemmas.Bool.{cases_lt, false≢true}
use Rattle.loop_data.specs.Early.{IsRound}
use Rattle.loop_shapes.specs.Program.{program_graph}
use Rattle.loop_data.specs.Sets.{HasAtMost}
use Rattle.loop_shapes.proofs.Leasts.{most_by}
use Rattle.loop_shapes.proofs.Nests.{many_loops, deep_loop, small_nest}
use Rattle.loop_shapes.proofs.nest.is_small_nest.Goals as goal

pub returns-then-nest-gt-LOOPS : goal.returns-then-nest-gt-LOOPS
returns-then-nest-gt-LOOPS c h is = (λ t. absurd (false≢true t), λ s. absurd (many_loops (program_graph c.args.program.now) h c.args.nest.now is c.if-nest-gt-LOOPS.true s))

pub returns-then-len-gt-ROUND : goal.returns-then-len-gt-ROUND
returns-then-len-gt-ROUND c h is =
    let round = c.in_ok-round_of.field-0 in
    let t = c.if-len-gt-ROUND.true in
    let more : 2 < length round.items = omega (arith, c.len.ensures, round.ok.0) in
    (λ q. absurd (false≢true q), λ s. absurd (deep_loop (program_graph c.args.program.now) h c.args.nest.now round.items c.loop-x.x-index is c.loop-x-test.true (c.in_ok-round_of.ensures h is) more s))

pub loop-x-preserved : goal.loop-x-preserved
loop-x-preserved c h k is l = by (cases_lt k c.loop-x.x-index)
  where
    by : (k < c.loop-x.x-index) ⊎ (c.loop-x.x-index ≤ k) → HasAtMost 2 (IsRound (program_graph c.args.program.now) h (get_or c.args.nest.now k 0))
    by (inl m) = c.loop-x.invariant h k is m
    by (inr m) =
        let G = program_graph c.args.program.now in
        let round = c.in_ok-round_of.field-0 in
        let t = c.if-len-gt-ROUND.false in
        let few : length round.items ≤ 2 = omega (arith, c.len.ensures, round.ok.0) in
        let e : c.loop-x.x-index ≡ k = omega arith in
        subst (λ (i : ℕ). HasAtMost 2 (IsRound G h (get_or c.args.nest.now i 0))) e ((most_by (IsRound G h (get_or c.args.nest.now c.loop-x.x-index 0)) round.items 2 (c.in_ok-round_of.ensures h is)).0 few)

pub returns : goal.returns
returns c h is = (λ t. small_nest (program_graph c.args.program.now) h c.args.nest.now c.loop-x.x-index is c.if-nest-gt-LOOPS.false c.loop-x-test.false (λ k l. c.loop-x.invariant h k is l), λ s. refl)
