use Rattle.std.proofs.Common.{ℕ, sym, rules}
use Rattle.std.proofs.lemmas.List.Sorted.{answers_always}
use Rattle.loop_data.proofs.Searched.{found_by_key, none_by_key, use_found, no_use}
use Rattle.loop_data.proofs.cells.use_at.Goals as goal

pub returns-in-Ok : goal.returns-in-Ok
returns-in-Ok c =
    let e = c.in-Ok.ensures in
    let f = found_by_key (λ (u : ℕ × ℕ). u.0) (0, 0) c.args.uses.now c.args.at c.in-Ok.i e.bound (e.position (λ (u : ℕ × ℕ). u.0) (answers_always _ _ _ (λ f a r g called. search rules))) in
    sym (use_found c.args.uses.now c.args.at c.in-Ok.i (0, 0) c.requires f.0 f.1)

pub returns-in-Err : goal.returns-in-Err
returns-in-Err c =
    let e = c.in-Err.ensures in
    sym (no_use c.args.uses.now c.args.at (none_by_key (λ (u : ℕ × ℕ). u.0) (0, 0) c.args.uses.now c.args.at c.in-Err.field-0 c.requires e.bound (e.position (λ (u : ℕ × ℕ). u.0) (answers_always _ _ _ (λ f a r g called. search rules)))))
