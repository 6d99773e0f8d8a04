use Rattle.std.proofs.Common.{ℕ, List, ◌+◌, None, sym, subst, arith}
use Rattle.loop_data.specs.Points.{Point}
use Rattle.register_equations.specs.States.{IsLeft}
use Rattle.register_equations.proofs.Setting.{AreSet, one_set, one_kept, all_set, left_kept, left_none}
use Rattle.register_equations.proofs.passes.meet.Goals.{then-not-is_met+in_ok-set_form, else-not-is_met}
use Rattle.register_equations.proofs.passes.meet.Goals as goal

pub loop-r-preserved : goal.loop-r-preserved
loop-r-preserved c =
    let P = IsLeft c.args.inner.now c.args.flow.now c.args.points.now c.args.sources.now c.args.p c.args.v in
    let n = c.loop-r.r in
    let p = c.args.p in
    elim c.if-not-is_met.branch [
      | then-not-is_met+in_ok-set_form w ↦
          subst (λ (ps : List Point). AreSet P (n + 1) p c.args.points.now ps) (sym w.points-is)
          (one_set P n p None c.args.points.now c.loop-r.points w.set_form.new.self c.requires.place c.loop-r-test.true c.loop-r.invariant
          (left_none c.args.inner.now c.args.flow.now c.args.points.now c.loop-r.points c.args.sources.now p c.args.v n c.requires.place c.requires.apart c.loop-r.invariant (c.is_met.ensures.no w.if-not-is_met.true))
          w.in_ok-set_form.ensures)
      | else-not-is_met w ↦
          subst (λ (ps : List Point). AreSet P (n + 1) p c.args.points.now ps) (sym w.points-is)
          (one_kept P n p c.args.points.now c.loop-r.points c.requires.place c.loop-r.invariant
          (left_kept c.args.inner.now c.args.flow.now c.args.points.now c.loop-r.points c.args.sources.now p c.args.v n c.requires.place c.requires.apart c.loop-r.invariant (c.is_met.ensures.yes w.if-not-is_met.false)))
    ]

pub returns : goal.returns
returns c =
    let t = c.loop-r-test.false in
    all_set (IsLeft c.args.inner.now c.args.flow.now c.args.points.now c.args.sources.now c.args.p c.args.v) c.loop-r.r c.args.p c.args.points.now c.loop-r.points (omega arith) c.loop-r.invariant
