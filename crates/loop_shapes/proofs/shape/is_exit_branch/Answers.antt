use Rattle.std.proofs.Common.{◌↔◌, ℕ, refl, subst}
use Rattle.std.specs.Bool.{IsTrue}
use Rattle.std.proofs.lemmas.Result.{IfOk-weaker}
use Rattle.loop_data.specs.Bodies.{InBody}
use Rattle.loop_data.specs.Instructions.{IsBranch}
use Rattle.loop_data.specs.Shape.{IsExitBranch, IsForward, IsOnCycle}
use Rattle.loop_shapes.specs.LoopBody.{body_graph, header_of}
use Rattle.loop_shapes.specs.Places.{at}
use Rattle.loop_shapes.proofs.Answered.{passed}
use Rattle.loop_shapes.proofs.shape.is_exit_branch.Goals as goal

pub returns-clause-branch : goal.returns-clause-branch
returns-clause-branch c =
    let G = body_graph c.args.body.now in
    let h = header_of c.args.body.now in
    IfOk-weaker c.is_acyclic.result (λ b. IsTrue b ↔ ((x : ℕ) → ¬ IsOnCycle (IsForward G h) (InBody G h) x)) (λ b. IsTrue b ↔ IsExitBranch G h (at G c.args.back) (at G c.args.exit))
    (λ b says. (
      λ t. record { branch = subst (IsBranch G) c.address_of.ensures (c.if-not-has_kind.ensures.0 refl); stays = c.if-not-stays.ensures.stays.0 refl; outermost = c.if-not-is_outermost.ensures.0 refl; passed = passed c.in_ok-is_passed.field-0 c.in_ok-is_passed.ensures c.if-not-branch.false; acyclic = says.0 t },
      λ e. says.1 e.acyclic,
    ))
    c.is_acyclic.ensures
