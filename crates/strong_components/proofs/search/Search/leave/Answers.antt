use Rattle.std.proofs.Common.{ℕ, ◌≡◌, ◌++◌, ◌∷◌, [], subst, arith}
use Rattle.std.specs.List.{slice_get}
use Rattle.std.proofs.lemmas.Bool.{iff_false}
use Rattle.std.specs.declared.option.Option.TheVariants.{Some}
use Rattle.strong_components.specs.declared.search.Mark.TheVariants.{Unseen}
use Rattle.strong_components.specs.Search.{IsLast, IsState, IsDone}
use Rattle.strong_components.specs.Graph.{IsEdge}
use Rattle.strong_components.proofs.Lists.{take_front, last_greatest, greatest_last}
use Rattle.strong_components.proofs.Closing.{before_unseen}
use Rattle.strong_components.proofs.States.{state_leave, state_close}
use Rattle.strong_components.proofs.search.Search.leave.Goals as goal

pub returns-then-not-is_last_bound-clause-state : goal.returns-then-not-is_last_bound-clause-state
returns-then-not-is_last_bound-clause-state c = λ nodes u inside ready.
    let s = c.args.self.now in let top = c.args.top in let path = c.pop.new.self.items in
    let split = take_front s.path.items top _ path c.requires.last (omega (arith, s.path.ok.0)) c.pop.ensures.rest in
    let state = subst (λ l. IsState nodes s.marks.items s.stack.items s.bounds.items l s.count) split ready.state in
    state_leave nodes s.marks.items s.stack.items s.bounds.items path s.count top u state ready.at ready.done
    (λ has. iff_false c.is_last_bound.ensures c.if-not-is_last_bound.true
    (greatest_last s.bounds.items top ready.state.bounds_rise has
    (λ b there. last_greatest s.path.items top b ready.state.path_rises c.requires.last (ready.state.bounds_on_path b there))))

pub returns-clause-state : goal.returns-clause-state
returns-clause-state c = λ nodes u inside ready.
    let s = c.args.self.now in let top = c.args.top in let path = c.pop.new.self.items in let bounds = c.pop-2.new.self.items in let is = c.close.ensures in
    let split = take_front s.path.items top _ path c.requires.last (omega (arith, s.path.ok.0)) c.pop.ensures.rest in
    let is_bound : IsLast s.bounds.items top = c.is_last_bound.ensures.0 c.if-not-is_last_bound.false in
    let split_bounds = take_front s.bounds.items top _ bounds is_bound (omega (arith, s.bounds.ok.0)) c.pop-2.ensures.rest in
    let state = subst (λ l. IsState nodes s.marks.items s.stack.items s.bounds.items l s.count) split ready.state in
    let state' = subst (λ l. IsState nodes s.marks.items s.stack.items l (path ++ top ∷ []) s.count) split_bounds state in
    let done : (w : ℕ) → IsEdge nodes u w → IsDone s.marks.items (bounds ++ top ∷ []) top w = λ w e. subst (λ l. IsDone s.marks.items l top w) split_bounds (ready.done w e) in
    rw (is.marks, is.stack, is.bounds, is.path, is.count)
    (state_close nodes s.marks.items s.stack.items bounds path s.count top u inside state' ready.at done)

pub returns-clause-seen : goal.returns-clause-seen
returns-clause-seen c = λ v e.
    let s = c.args.self.now in
    before_unseen s.marks.items c.args.top s.count v (subst (λ l. slice_get l v ≡ Some Unseen) c.close.ensures.marks e)
