use Rattle.std.proofs.Common.{◌∙◌, ap, sym, if◌then◌else◌}
use Rattle.turn_copies.specs.Copies.{place_in, end_in}
use Rattle.outliner.specs.Sizes.{loop_code}
use Rattle.outliner.proofs.Spread.{end_by}
use Rattle.outliner.proofs.places.arrival.Goals as goal

pub returns-then-at-level : goal.returns-then-at-level
returns-then-at-level c = λ G C p e.
    let l = c.args.level.now in
    end_by l (loop_code G C) p c.args.places.now c.as_slice.result.now e c.as_slice.ensures
    ∙ ap (λ b. if b then end_in l (loop_code G C) l.body p else place_in l (loop_code G C) l.body p c.args.at) (sym (Rattle.loop_data.proofs.Tests.is_eq c.args.at l.header c.if-at-level.true))
