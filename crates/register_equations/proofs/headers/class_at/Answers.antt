use Rattle.std.proofs.Common.{◌≡◌, ◌∙◌, ◌∷◌, ℕ, suc, ◌+◌, sym, ap, get_or, drop, None, List, Option, arith}
use Rattle.loop_data.specs.declared.classes.Class.{Class}
use Rattle.loop_data.specs.Lookups.{classes_of}
use Rattle.loop_data.specs.declared.shape.Level.{Level}
use Rattle.register_equations.proofs.ClassRows.{class_passed, class_found}
use Rattle.register_equations.proofs.headers.class_at.Goals as goal

pub returns-then-levels-i : goal.returns-then-levels-i
returns-then-levels-i c l e =
    let rows = c.args.classes.now.root ∷ c.args.classes.now.inner in
    let m = c.index-levels-i.result in
    let q : m.header ≡ l.header = ap (λ (z : Level). z.header) c.index-levels-i.is ∙ c.if-levels-i.true ∙ sym e in
    c.class_in.ensures ∙ ap (λ (row : List (Option Class)). get_or row c.args.r None) (sym (c.loop-i.invariant l e ∙ class_found c.args.levels.now rows c.loop-i.i l m c.loop-i-test.true c.index-levels-i.is q))

pub loop-i-preserved : goal.loop-i-preserved
loop-i-preserved c l e =
    let rows = c.args.classes.now.root ∷ c.args.classes.now.inner in
    let m = c.index-levels-i.result in
    let s : suc c.loop-i.i ≡ c.loop-i.i + 1 = omega arith in
    c.loop-i.invariant l e ∙ class_passed c.args.levels.now rows c.loop-i.i l m c.loop-i-test.true c.index-levels-i.is (λ q. c.if-levels-i.false (sym (ap (λ (z : Level). z.header) c.index-levels-i.is) ∙ q ∙ e))
    ∙ ap (λ (j : ℕ). classes_of (drop j c.args.levels.now) (drop j rows) l) s
