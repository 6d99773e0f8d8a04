use Rattle.std.proofs.Common.{◌≡◌, ◌≢◌, ◌⊎◌, inl, inr, Some}
use Rattle.strong_components.specs.Graph.{LeadsTo}
use Rattle.loop_shapes.proofs.open.cut.Goals as goal

pub returns : goal.returns
returns c b = (there, back)
  where
    there : (c.past.result ≡ Some b) ⊎ (c.past-2.result ≡ Some b) → LeadsTo c.args.node b × (b ≢ c.args.place)
    there (inl e) = let p = (c.past.ensures b).0 e in (inl p.0, p.1)
    there (inr e) = let p = (c.past-2.ensures b).0 e in (inr p.0, p.1)

    either : (c.args.node.first ≡ Some b) ⊎ (c.args.node.second ≡ Some b) → b ≢ c.args.place → (c.past.result ≡ Some b) ⊎ (c.past-2.result ≡ Some b)
    either (inl e) ne = inl ((c.past.ensures b).1 (e, ne))
    either (inr e) ne = inr ((c.past-2.ensures b).1 (e, ne))

    back : LeadsTo c.args.node b × (b ≢ c.args.place) → (c.past.result ≡ Some b) ⊎ (c.past-2.result ≡ Some b)
    back p = either p.0 p.1
