use Rattle.std.proofs.Common.{◌+◌, sym, subst}
use Rattle.loop_choice.specs.Choosing.{AreChosenBelow}
use Rattle.loop_choice.proofs.Choices.{one_more, no_more}
use Rattle.loop_choice.proofs.choice.add_chosen.Goals as goal

pub returns-then-is_chosen : goal.returns-then-is_chosen
returns-then-is_chosen c =
    subst (AreChosenBelow c.args.all.now (c.args.place + 1)) (sym c.in_ok-push.ensures.items)
    (one_more c.args.all.now c.args.place c.args.places.now.items c.requires.places
    (c.is_chosen.ensures.yes c.if-is_chosen.true))

pub returns : goal.returns
returns c =
    no_more c.args.all.now c.args.place c.args.places.now.items c.requires.places
    (c.is_chosen.ensures.not c.if-is_chosen.false)
