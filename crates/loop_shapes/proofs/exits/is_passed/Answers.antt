use Rattle.std.proofs.Common.{ℕ, refl, sym, subst}
use Rattle.std.proofs.lemmas.Bool.{false≢true}
use Rattle.loop_data.specs.Bodies.{ReachesPast}
use Rattle.loop_shapes.specs.LoopBody.{body_graph, header_of}
use Rattle.loop_shapes.specs.Places.{at}
use Rattle.loop_shapes.proofs.Leaving.{few_past, part_large, passed_at_header, passed_by}
use Rattle.loop_shapes.proofs.Parts.{part_small}
use Rattle.loop_shapes.proofs.exits.is_passed.Goals as goal

pub returns-then-exit-body : goal.returns-then-exit-body
returns-then-exit-body c =
    let G = body_graph c.args.body.now in
    let h = header_of c.args.body.now in
    (λ _. subst (λ (e : ℕ). ¬ ReachesPast G (at G e) h (at G c.args.back)) (sym c.if-exit-body.true) (passed_at_header G h (at G c.args.back)), λ _. refl)

pub part-requires-clause-header : goal.part-requires-clause-header
part-requires-clause-header c = (c.requires.body.words.each c.args.exit c.requires.among).0

pub returns-then-not-branch : goal.returns-then-not-branch
returns-then-not-branch c =
    let b = c.requires.body in
    let G = body_graph c.args.body.now in
    let h = header_of c.args.body.now in
    let large = part_large G c.args.exit c.args.back c.part.new.set.found.items c.in_ok-part.field-0 c.if-not-branch.true c.in_ok-part.ensures.part in
    (λ t. absurd (false≢true t), λ none. absurd (large (few_past G h (at G c.args.back) (at G c.args.exit) c.args.body.now.places.now b.words b.short c.requires.closed (b.words.each c.args.exit c.requires.among).1 none)))

pub returns : goal.returns
returns c =
    let b = c.requires.body in
    let G = body_graph c.args.body.now in
    let p = part_small G c.args.exit c.args.back c.part.new.set.found.items c.in_ok-part.field-0 c.if-not-branch.false c.in_ok-part.ensures.part in
    passed_by G b.program.net.ordered c.args.body.now.header c.args.back c.args.exit c.part.new.set.found.items c.has.result p b.header (b.words.each c.args.exit c.requires.among).0 c.if-exit-body.false c.has.ensures
