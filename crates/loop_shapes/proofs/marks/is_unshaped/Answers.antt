use Rattle.std.proofs.Common.{sym, ◌∙◌}
use Rattle.std.proofs.lemmas.Bool.{false≢true}
use Rattle.loop_shapes.proofs.marks.is_unshaped.Goals as goal

pub returns-then-shaped-place : goal.returns-then-shaped-place
returns-then-shaped-place c = (λ t. absurd (false≢true t), λ p. absurd (p.1 ((c.requires.flags.each c.args.place c.requires.within).0 c.if-shaped-place.true)))

pub returns : goal.returns
returns c = (λ t. (c.is_header_at.ensures.0 t, λ s. false≢true (sym c.if-shaped-place.false ∙ (c.requires.flags.each c.args.place c.requires.within).1 s)), λ p. c.is_header_at.ensures.1 p.0)
