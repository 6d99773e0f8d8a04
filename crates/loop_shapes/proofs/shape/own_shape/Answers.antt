use Rattle.loop_shapes.specs.LoopBody.{body_graph, header_of}
use Rattle.loop_shapes.specs.Places.{at}
use Rattle.loop_shapes.proofs.Answered.{passed, failed}
use Rattle.loop_shapes.proofs.Shapes.{no_shape_back, no_shape_exit, no_shape_branch, shape_by}
use Rattle.loop_shapes.proofs.shape.own_shape.Goals as goal

pub returns-in_default : goal.returns-in_default
returns-in_default c = no_shape_back (body_graph c.args.body.now) (header_of c.args.body.now) c.in_default.ensures.none

pub returns-in_default-exit_of : goal.returns-in_default-exit_of
returns-in_default-exit_of c = no_shape_exit (body_graph c.args.body.now) (header_of c.args.body.now) c.in_default-exit_of.ensures.none

pub returns-then-not-branch : goal.returns-then-not-branch
returns-then-not-branch c =
    let G = body_graph c.args.body.now in
    no_shape_branch G (header_of c.args.body.now) (at G c.in-Some.back) (at G c.in-Some-exit_of.exit) c.in-Some.ensures.some c.in-Some-exit_of.ensures.some (failed c.in_ok-is_exit_branch.field-0 c.in_ok-is_exit_branch.ensures.branch c.if-not-branch.true)

pub returns : goal.returns
returns c =
    let G = body_graph c.args.body.now in
    record {
      back = c.in-Some.ensures.within;
      exit = (c.requires.body.words.each c.in-Some-exit_of.exit c.in-Some-exit_of.ensures.among).0;
      shape = shape_by G (header_of c.args.body.now) (at G c.in-Some.back) (at G c.in-Some-exit_of.exit) c.in-Some.ensures.some c.in-Some-exit_of.ensures.some (passed c.in_ok-is_exit_branch.field-0 c.in_ok-is_exit_branch.ensures.branch c.if-not-branch.false) c.in_ok-is_exit_branch.ensures.one;
    }
