use Rattle.std.proofs.Common.{◌≡◌, ◌⊎◌, inl, inr, ℕ, refl, sym, subst}
use Rattle.std.specs.List.{Contains}
use Rattle.std.proofs.lemmas.Bool.{false≢true}
use Rattle.loop_shapes.specs.LoopBody.{LeadsOnFrom}
use Rattle.loop_shapes.proofs.Gone.{gone_same, gone_one}
use Rattle.loop_shapes.proofs.Rounds.{decide}
use Rattle.loop_shapes.proofs.cycles.take_out.Goals as goal

pub returns-then-not-is_left-clause-more : goal.returns-then-not-is_left-clause-more
returns-then-not-is_left-clause-more c = gone_same c.args.body.now.program.now.open_next.items c.args.body.now.places.now (λ i. i ≡ c.args.place) c.args.gone.now.found.items (λ i e m. by i e m (decide c.args.gone.now.found.items i))
  where
    by : (i : ℕ) → i ≡ c.args.place → Contains c.args.body.now.places.now i → Contains c.args.gone.now.found.items i ⊎ ¬ Contains c.args.gone.now.found.items i → Contains c.args.gone.now.found.items i ⊎ LeadsOnFrom c.args.body.now.program.now.open_next.items c.args.body.now.places.now c.args.gone.now.found.items i
    by i e m (inl g) = inl g
    by i e m (inr n) = absurd (false≢true (c.if-not-is_left.ensures.1 (subst (Contains c.args.body.now.places.now) e m, λ g. n (subst (Contains c.args.gone.now.found.items) (sym e) g))))

pub returns-then-leads_on-clause-more : goal.returns-then-leads_on-clause-more
returns-then-leads_on-clause-more c =
    let nodes = c.args.body.now.program.now.open_next.items in
    let places = c.args.body.now.places.now in
    let gone = c.args.gone.now.found.items in
    gone_same nodes places (λ i. i ≡ c.args.place) gone (λ i e m. inr (subst (LeadsOnFrom nodes places gone) (sym e) (c.if-leads_on.ensures.0 refl)))

pub returns-clause-more : goal.returns-clause-more
returns-clause-more c = gone_one c.args.body.now.program.now.open_next.items c.args.body.now.places.now c.args.gone.now.found.items c.add.new.self.found.items c.args.place (c.if-not-is_left.ensures.0 refl).0 (λ o. false≢true (c.if-leads_on.ensures.1 o)) c.in_ok-add.ensures.items
