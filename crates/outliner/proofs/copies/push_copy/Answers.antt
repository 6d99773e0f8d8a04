use Rattle.std.proofs.Common.{◌≡◌, ◌+◌, ap, arith}
use Rattle.turn_copies.specs.Copies.{kind_by, word_size}
use Rattle.outliner.proofs.Appends.{near_places}
use Rattle.outliner.proofs.Copied.{back_words}
use Rattle.outliner.proofs.copies.push_copy.Goals as goal

pub push_back-requires : goal.push_back-requires
push_back-requires c =
    let e = c.requires.end in
    let f = c.word_size.ensures.few in
    near_places c.args.end (c.args.p + c.word_size.result) (omega (arith, e.0, e.1, f)) (omega (arith, e.0, e.1, f))

pub returns : goal.returns
returns c =
    let kind = kind_by c.args.leaving c.args.uses in
    let e : c.args.p + c.word_size.result ≡ c.args.p + word_size kind c.args.i.now = ap (λ n. c.args.p + n) c.word_size.ensures.value in
    back_words _ _ _ c.args.level.now c.args.at c.args.p c.args.to c.args.end _ kind c.args.i.now e c.in_ok-push_word.ensures c.in_ok-push_back.ensures
