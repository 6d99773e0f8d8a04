use Rattle.std.proofs.Common.{ℕ, ◌+◌, ◌-◌, ◌++◌, List, Some, length, take, drop, ap, ◌∙◌, arith}
use Rattle.std.proofs.lemmas.List.{length-drop, length-take}
use Rattle.rewrite_cli.proofs.Parts.{written_more}
use Rattle.rewrite_cli.proofs.report.write_all.Goals as goal

pub loop-done-preserved : goal.loop-done-preserved
loop-done-preserved g c =
    let d = length-drop c.loop-done.done c.args.bytes.now in
    let t = length-take (length c.args.bytes.now - c.loop-done.done) (drop c.loop-done.done c.args.bytes.now) in
    record {
      within = omega (arith, c.in-Ok.ensures.count);
      written = λ zs h.
          c.in-Ok.ensures.appended (zs ++ take c.loop-done.done c.args.bytes.now) (c.loop-done.invariant.written zs h)
          ∙ ap (λ (ys : List ℕ). Some ys) (written_more c.loop-done.done c.in-Ok.count zs c.args.bytes.now);
      faults = omega (arith, c.in-Ok.ensures.never_falls);
    }

pub returns-in-Err-clause-prefix : goal.returns-in-Err-clause-prefix
returns-in-Err-clause-prefix g c = λ zs h.
    let p = c.in-Err.ensures.prefix (zs ++ take c.loop-done.done c.args.bytes.now)
    (c.loop-done.invariant.written zs h) in (
      c.loop-done.done + p.0,
      p.1 ∙ ap (λ (ys : List ℕ). Some ys)
          (written_more c.loop-done.done p.0 zs c.args.bytes.now),
    )
