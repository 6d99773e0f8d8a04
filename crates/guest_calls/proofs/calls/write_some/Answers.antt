use Rattle.std.proofs.Common.{ℕ, ◌++◌, List, length, min, Some, ap, ◌∙◌, arith}
use Rattle.guest_calls.proofs.Spans.{take_piece, take_piece_most}
use Rattle.guest_calls.proofs.calls.write_some.Goals as goal

pub returns-in_default-clause-prefix : goal.returns-in_default-clause-prefix
returns-in_default-clause-prefix g c = λ ys h.
    let p = c.in_default.ensures.prefix ys h in
    let piece = c.piece.result.now in
    let within = c.piece.ensures.within in (
      min p.0 (length piece),
      omega arith,
      p.1 ∙ ap (λ (bytes : List ℕ). Some (ys ++ bytes)) (take_piece_most p.0 piece c.args.mem.now c.args.addr c.piece.ensures.bytes),
    )

pub returns-clause-appended : goal.returns-clause-appended
returns-clause-appended g c = λ ys h.
    c.in-Ok.ensures.appended ys h
    ∙ ap (λ (bytes : List ℕ). Some (ys ++ bytes)) (take_piece c.in-Ok.count c.piece.result.now c.args.mem.now c.args.addr c.piece.ensures.bytes c.in-Ok.ensures.count)
