use Rattle.std.proofs.Common.{refl, arith}
use Rattle.loop_data.proofs.Innermost.{inner_found, not_deep, inner_root}
use Rattle.loop_data.proofs.nesting.innermost.Goals as goal

pub returns-in-Some : goal.returns-in-Some
returns-in-Some c = inner_found c.args.levels.now c.args.u c.in-Some.i 2 c.in-Some.ensures (λ l k h. let d = c.requires.depths l k in omega arith)

pub returns-in-Some-around : goal.returns-in-Some-around
returns-in-Some-around c =
    inner_found c.args.levels.now c.args.u c.in-Some-around.i 1 c.in-Some-around.ensures
    (not_deep c.args.levels.now c.args.u 1 2 refl c.in-None.ensures (λ l k h. let d = c.requires.depths l k in omega arith))

pub returns-in-None-around : goal.returns-in-None-around
returns-in-None-around c =
    inner_root c.args.levels.now c.args.u c.place_in.result c.place_in.ensures
    (not_deep c.args.levels.now c.args.u 0 1 refl c.in-None-around.ensures
    (not_deep c.args.levels.now c.args.u 1 2 refl c.in-None.ensures (λ l k h. let d = c.requires.depths l k in omega arith)))
    c.requires.held
