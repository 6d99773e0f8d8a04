use Rattle.std.proofs.Common.{◌≡◌, ◌<◌, List, ℕ, None, Some, length, get_or, [], ◌∷◌, ◌∙◌, subst, arith}
use Rattle.std.specs.List.{Contains}
use Rattle.std.proofs.lemmas.List.{length-map}
use Rattle.std.proofs.lemmas.Result.{IfOk-weaker}
use Rattle.loop_data.proofs.FlowRows.{row_read}
use Rattle.loop_shapes.specs.Search.{HasTried}
use Rattle.loop_shapes.proofs.PairRows.{first_in, second_in}
use Rattle.loop_shapes.proofs.Searches.{tried_as}
use Rattle.loop_shapes.proofs.search.add_row.Goals as goal
use Rattle.loop_data.specs.Flows.{items_of, row_at, rows}

pub add_pair-requires-clause-first : goal.add_pair-requires-clause-first
add_pair-requires-clause-first c =
    let n = length-map c.args.before.now items_of in
    let m = c.requires.pairs.count in
    let l = c.requires.at in
    let in_pairs : c.args.at < length c.args.pairs.now = omega arith in
    let p = c.in-Some.pair in
    let is : get_or c.args.pairs.now c.args.at None ≡ Some p = c.in-Some.is in
    let w = c.requires.within c.args.at p.0 (first_in (row_at (rows c.args.before.now) c.args.at) p.0 p.1 (c.requires.pairs.each c.args.at in_pairs p is)) in
    omega arith

pub add_pair-requires-clause-second : goal.add_pair-requires-clause-second
add_pair-requires-clause-second c =
    let n = length-map c.args.before.now items_of in
    let m = c.requires.pairs.count in
    let l = c.requires.at in
    let in_pairs : c.args.at < length c.args.pairs.now = omega arith in
    let p = c.in-Some.pair in
    let is : get_or c.args.pairs.now c.args.at None ≡ Some p = c.in-Some.is in
    let w = c.requires.within c.args.at p.1 (second_in (row_at (rows c.args.before.now) c.args.at) p.0 p.1 (c.requires.pairs.each c.args.at in_pairs p is)) in
    omega arith

pub returns-in-Some : goal.returns-in-Some
returns-in-Some c =
    let n = length-map c.args.before.now items_of in
    let m = c.requires.pairs.count in
    let l = c.requires.at in
    let in_pairs : c.args.at < length c.args.pairs.now = omega arith in
    let p = c.in-Some.pair in
    let is : get_or c.args.pairs.now c.args.at None ≡ Some p = c.in-Some.is in
    let old = c.args.found.now.items in
    let new = c.add_pair.new.found.items in
    let slots = c.add_pair.new.slots in
    let row = row_at (rows c.args.before.now) c.args.at in
    IfOk-weaker c.add_pair.result (λ room. HasTried room old (p.0 ∷ p.1 ∷ []) new slots) (λ room. HasTried room old row new slots) (λ room a. tried_as room old (p.0 ∷ p.1 ∷ []) row new slots (c.requires.pairs.each c.args.at in_pairs p is) a) c.add_pair.ensures

pub add_all-requires-clause-within : goal.add_all-requires-clause-within
add_all-requires-clause-within c x m =
    let n = length-map c.args.before.now items_of in
    let same = c.as_slice.ensures.value ∙ row_read c.args.before.now c.args.at c.index-before-at.result c.requires.at c.index-before-at.is in
    let l = c.requires.within c.args.at x (subst (λ (xs : List ℕ). Contains xs x) same m) in
    omega arith
