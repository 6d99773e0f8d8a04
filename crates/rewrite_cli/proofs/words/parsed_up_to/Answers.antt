use Rattle.rewrite_cli.proofs.Numbers.{read_within, read_none}
use Rattle.rewrite_cli.proofs.words.parsed_up_to.Goals as goal

pub returns-in_default : goal.returns-in_default
returns-in_default c =
    read_none c.args.word.now c.args.limit c.in_default.field-0 c.from_str_radix.result c.requires c.ranges.limit.fits
    c.from_str_radix.ensures.value c.in_default.is

pub returns-then-number-limit : goal.returns-then-number-limit
returns-then-number-limit c =
    read_within c.args.word.now c.args.limit c.in-Ok.number c.from_str_radix.result c.requires
    c.from_str_radix.ensures.value c.in-Ok.is c.if-number-limit.true
