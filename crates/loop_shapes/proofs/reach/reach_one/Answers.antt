use Rattle.std.proofs.Common.{List, ℕ, refl, sym, subst}
use Rattle.std.specs.List.{Contains}
use Rattle.std.proofs.lemmas.Bool.{false≢true}
use Rattle.loop_shapes.proofs.Reaching.{extended_push}
use Rattle.loop_shapes.proofs.reach.reach_one.Goals as goal

pub returns : goal.returns
returns c = extended_push c.args.set.now c.args.reached.now.items c.push.new.self.items c.args.y (c.if-not-is_among.ensures.0 refl) (λ m. false≢true (c.if-has.ensures.1 (subst (λ (xs : List ℕ). Contains xs c.args.y) (sym c.deref.ensures.value) m))) c.in_ok-push.ensures.items
