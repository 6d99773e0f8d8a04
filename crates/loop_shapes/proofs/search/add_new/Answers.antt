use Rattle.std.proofs.Common.{◌≢◌, ap, ◌∙◌, sym, subst, List, ℕ, length}
use Rattle.std.specs.List.{Contains}
use Rattle.std.proofs.lemmas.Bool.{false≢true}
use Rattle.loop_shapes.proofs.Searches.{room_pushed, full_at}
use Rattle.loop_shapes.proofs.search.add_new.Goals as goal

pub returns-then-len-eq-LIMIT : goal.returns-then-len-eq-LIMIT
returns-then-len-eq-LIMIT c =
    full_at c.args.found.now.items c.args.slots.now c.args.x (sym (ap length c.deref.ensures.value) ∙ c.deref.ensures.len ∙ sym c.len.ensures ∙ c.if-len-eq-LIMIT.true) (λ m. absurd (false≢true (c.if-is_found.ensures.1 (subst (λ (xs : List ℕ). Contains xs c.args.x) (sym c.deref.ensures.value) m)))) c.requires.indexed

pub returns : goal.returns
returns c =
    let ne : length c.args.found.now.items ≢ 256 = λ e. c.if-len-eq-LIMIT.false (c.len.ensures ∙ sym c.deref.ensures.len ∙ ap length c.deref.ensures.value ∙ e) in
    room_pushed c.args.found.now.items c.push_new.new.found.items c.push_new.new.slots c.args.x c.requires.bound ne c.in_ok-push_new.ensures.items c.in_ok-push_new.ensures.indexed
