use Rattle.std.proofs.Common.{◌++◌, ◌∷◌, [], ℕ, inl, inr, refl, ap, ◌∙◌}
use Rattle.std.proofs.lemmas.Bool.{false≢true}
use Rattle.loop_shapes.proofs.nest.add_header.Goals as goal

pub returns-then-not-is_header_at : goal.returns-then-not-is_header_at
returns-then-not-is_header_at c = inr (λ h. false≢true (c.if-not-is_header_at.ensures.1 h), refl)

pub returns : goal.returns
returns c = inl (c.if-not-is_header_at.ensures.0 refl, c.in_ok-push.ensures.items ∙ ap (λ (x : ℕ). c.args.all.now.items ++ x ∷ []) c.address_of.ensures)
