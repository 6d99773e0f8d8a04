use Rattle.std.proofs.Common.{[], ◌∷◌}
use Rattle.std.proofs.lemmas.Result.{IfOk-weaker}
use Rattle.loop_shapes.specs.Search.{HasTried}
use Rattle.loop_shapes.proofs.Searches.{tried_room, tried_full, tried_two, full_first}
use Rattle.loop_shapes.proofs.search.add_pair.Goals as goal

pub add_new-requires-2-clause-indexed : goal.add_new-requires-2-clause-indexed
add_new-requires-2-clause-indexed c = (tried_room c.args.found.now.items (c.args.first ∷ []) c.add_new.new.found.items c.add_new.new.slots c.in_ok-add_new.field-0 c.if-not-branch.false c.in_ok-add_new.ensures).indexed

pub add_new-requires-2-clause-bound : goal.add_new-requires-2-clause-bound
add_new-requires-2-clause-bound c = (tried_room c.args.found.now.items (c.args.first ∷ []) c.add_new.new.found.items c.add_new.new.slots c.in_ok-add_new.field-0 c.if-not-branch.false c.in_ok-add_new.ensures).bound

pub returns-then-not-branch : goal.returns-then-not-branch
returns-then-not-branch c = full_first c.args.found.now.items c.add_new.new.found.items c.add_new.new.slots c.args.first c.args.second (tried_full _ _ _ _ c.in_ok-add_new.field-0 c.if-not-branch.true c.in_ok-add_new.ensures)

pub returns : goal.returns
returns c =
    let old = c.args.found.now.items in
    let mid = c.add_new.new.found.items in
    let new = c.add_new-2.new.found.items in
    let slots = c.add_new-2.new.slots in
    let first = tried_room old (c.args.first ∷ []) mid c.add_new.new.slots c.in_ok-add_new.field-0 c.if-not-branch.false c.in_ok-add_new.ensures in
    IfOk-weaker c.add_new-2.result (λ room. HasTried room mid (c.args.second ∷ []) new slots) (λ room. HasTried room old (c.args.first ∷ c.args.second ∷ []) new slots) (λ room a. tried_two room old mid new c.add_new.new.slots slots c.args.first c.args.second first a) c.add_new-2.ensures
