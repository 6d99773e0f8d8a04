use Rattle.std.proofs.Common.{◌≡◌, ◌<◌, ◌∙◌, ap, subst, get_or, length}
use Rattle.std.specs.List.{Contains}
use Rattle.std.proofs.lemmas.List.Kept.{AllPairs-from_increasing}
use Rattle.outliner.specs.Sizes.{places_from, loop_code}
use Rattle.outliner.proofs.Spread.{place_found, place_missing}
use Rattle.outliner.proofs.places.place_at.Goals as goal

pub returns-in-Some : goal.returns-in-Some
returns-in-Some c = λ G C p e.
    let l = c.args.level.now in
    let f = c.in-Some.ensures.found in
    let s = c.as_slice-body.ensures in
    let k = c.in-Some.k in
    ap (λ xs. get_or xs k 0) e
    ∙ place_found l (loop_code G C) l.body p k c.args.at (AllPairs-from_increasing l.body c.requires.1) (subst (λ q. k < length q) s f.0) (subst (λ q. get_or q k 0 ≡ c.args.at) s f.1)

pub returns-in-None : goal.returns-in-None
returns-in-None c = λ G C p e.
    let l = c.args.level.now in
    let s = c.as_slice-body.ensures in
    let body = c.as_slice-body.result.now in
    ap (λ xs. get_or xs (length body) 0) e ∙ ap (λ q. get_or (places_from l (loop_code G C) p l.body) (length q) 0) s
    ∙ place_missing l (loop_code G C) l.body p c.args.at (subst (λ q. Contains q c.args.at → ⊥) s c.in-None.ensures.none)
