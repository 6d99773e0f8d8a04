use Rattle.std.proofs.Common.{[], None, rules}
use Rattle.std.proofs.lemmas.List.Sorted.{answers_always}
use Rattle.loop_data.specs.declared.verdict.Verdict.TheVariants.{Parallel}
use Rattle.loop_data.proofs.Searched.{found_by_key, none_by_key}
use Rattle.loop_choice.specs.declared.judged.Judged.{Judged}
use Rattle.loop_choice.proofs.Flags.{found, contained}
use Rattle.loop_choice.proofs.choice.place_of.Goals as goal

abbrev some_loop : Judged
some_loop = record { header = 0; body = []; verdict = Parallel; plan = None }

pub returns-in-Ok-clause-some : goal.returns-in-Ok-clause-some
returns-in-Ok-clause-some c =
    let e = c.in-Ok.ensures in
    found c.args.all.now c.args.header c.in-Ok.place
    (found_by_key (λ (j : Judged). j.header) some_loop c.args.all.now c.args.header c.in-Ok.place e.bound
    (e.position (λ (j : Judged). j.header) (answers_always _ _ _ (λ f a r g called. search rules))))

pub returns-in-Err-clause-none : goal.returns-in-Err-clause-none
returns-in-Err-clause-none c =
    let e = c.in-Err.ensures in
    λ p h.
    none_by_key (λ (j : Judged). j.header) some_loop c.args.all.now c.args.header c.in-Err.field-0 c.requires e.bound
    (e.position (λ (j : Judged). j.header) (answers_always _ _ _ (λ f a r g called. search rules)))
    (contained c.args.all.now c.args.header p h)
