use Rattle.std.proofs.Common.{IfOk, ◌++◌, ◌∷◌, [], List, ℕ, Bool, length, ap, ◌∙◌, subst, arith}
use Rattle.loop_shapes.specs.Search.{HasTried}
use Rattle.loop_shapes.proofs.search.start.Goals as goal

pub add_all-requires-clause-within : goal.add_all-requires-clause-within
add_all-requires-clause-within c x m = let l = c.requires.sources x m in omega arith

pub add_all-requires-clause-bound : goal.add_all-requires-clause-bound
add_all-requires-clause-bound c =
    let e = ap length (c.in_ok-push_new.ensures.items ∙ ap (λ (xs : List ℕ). xs ++ c.args.header ∷ []) c.clear.ensures.items) in
    omega arith

pub returns : goal.returns
returns c =
    let e = c.in_ok-push_new.ensures.items ∙ ap (λ (xs : List ℕ). xs ++ c.args.header ∷ []) c.clear.ensures.items in
    subst (λ (xs : List ℕ). IfOk c.add_all.result (λ (room : Bool). HasTried room xs c.args.sources.now c.add_all.new.found.items c.add_all.new.slots)) e c.add_all.ensures
