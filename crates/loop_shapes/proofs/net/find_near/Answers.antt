use Rattle.std.proofs.Common.{◌≡◌, ◌<◌, List, ℕ, length, get_or, ◌∙◌, subst}
use Rattle.std.specs.List.{Contains}
use Rattle.std.specs.Option.{IfSome, IfNone}
use Rattle.loop_shapes.proofs.net.find_near.Goals as goal

pub returns : goal.returns
returns c =
    let same = c.as_slice.ensures.value ∙ c.requires.addresses_are in
    let here = c.place_near.ensures in
    subst (λ (xs : List ℕ). record { found : IfSome c.place_near.result (λ i. (i < length xs) × (get_or xs i 0 ≡ c.args.x)); none : IfNone c.place_near.result (¬ Contains xs c.args.x) }) same here
