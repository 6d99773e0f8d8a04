use Rattle.std.proofs.Common.{refl}
use Rattle.std.proofs.lemmas.Option.{slice_get_read}
use Rattle.loop_choice.proofs.Choices.{is_chosen, not_chosen, not_parallel, negated, not_negated}
use Rattle.loop_choice.proofs.choice.is_chosen.Goals as goal

pub returns-then-not-is_parallel-clause-not : goal.returns-then-not-is_parallel-clause-not
returns-then-not-is_parallel-clause-not c = λ e.
    not_parallel c.args.all.now c.args.place c.index-all-place.result
    (slice_get_read c.args.all.now _ c.args.place c.index-all-place.result refl c.requires.within c.index-all-place.is)
    (λ p. let t = c.is_parallel.ensures.1 p in let u = c.if-not-is_parallel.true in absurd (cc))

pub returns-clause-yes : goal.returns-clause-yes
returns-clause-yes c = λ e.
    is_chosen c.args.all.now c.args.flags.now c.args.place c.index-all-place.result c.requires.flags
    (slice_get_read c.args.all.now _ c.args.place c.index-all-place.result refl c.requires.within c.index-all-place.is)
    (c.is_parallel.ensures.0 c.if-not-is_parallel.false)
    (λ s. let t = negated _ e in absurd (cc))

pub returns-clause-not : goal.returns-clause-not
returns-clause-not c = λ e.
    not_chosen c.args.all.now c.args.flags.now c.args.place c.requires.flags (not_negated _ e)
