use Rattle.std.proofs.Common.{ℕ, List, refl, sym, ◌∙◌, subst}
use Rattle.std.specs.List.{Contains}
use Rattle.std.proofs.lemmas.Bool.{false≢true}
use Rattle.loop_shapes.specs.Marks.{ArePlacesShaped}
use Rattle.loop_shapes.specs.Places.{at}
use Rattle.loop_shapes.specs.Program.{program_graph}
use Rattle.loop_shapes.proofs.Unsound.{shaped_small, body_there, body_large, unsound_by}
use Rattle.loop_shapes.proofs.marks.is_unsound.Goals as goal

pub returns-then-not-shaped-place : goal.returns-then-not-shaped-place
returns-then-not-shaped-place c =
    let f = c.requires.flags.each c.args.place c.requires.within in
    (λ t. record { header = c.if-not-is_header_at.ensures.0 refl; shape = λ s. false≢true (sym c.if-not-shaped-place.true ∙ f.1 s.own) }, λ u. refl)

pub returns-then-not-branch : goal.returns-then-not-branch
returns-then-not-branch c =
    let G = program_graph c.args.program.now in
    let x = at G c.args.place in
    let f = c.requires.flags.each c.args.place c.requires.within in
    let large = body_large c.in_ok-find_body.field-0 G x c.find_body.new.set.found.items c.if-not-branch.true c.in_ok-find_body.ensures.body in
    absurd (large (shaped_small G x (f.0 c.if-not-shaped-place.false)))

pub has_unshaped-requires-clause-each : goal.has_unshaped-requires-clause-each
has_unshaped-requires-clause-each c i m =
    let G = program_graph c.args.program.now in
    let b = body_there c.in_ok-find_body.field-0 G (at G c.args.place) c.find_body.new.set.found.items c.if-not-branch.false c.in_ok-find_body.ensures.body in
    (b.1.each i (subst (λ (xs : List ℕ). Contains xs i) c.deref.ensures.value m)).0

pub returns : goal.returns
returns c =
    let G = program_graph c.args.program.now in
    let f = c.requires.flags.each c.args.place c.requires.within in
    let found = c.find_body.new.set.found.items in
    let b = body_there c.in_ok-find_body.field-0 G (at G c.args.place) found c.if-not-branch.false c.in_ok-find_body.ensures.body in
    unsound_by G (at G c.args.place) found c.has_unshaped.result (c.if-not-is_header_at.ensures.0 refl) (f.0 c.if-not-shaped-place.false) b.1 (subst (λ (xs : List ℕ). ArePlacesShaped c.has_unshaped.result G xs) c.deref.ensures.value c.has_unshaped.ensures)
