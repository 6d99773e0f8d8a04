use Rattle.std.proofs.Common.{sym, arith}
use Rattle.elf_image.proofs.Passed.{headers_passed, total-le}
use Rattle.elf_image.proofs.placing.refusal_of_program.Goals as goal

pub refusal_of_memory-requires-clause-fits : goal.refusal_of_memory-requires-clause-fits
refusal_of_memory-requires-clause-fits c =
    let hs = c.args.headers.now in
    let rules = headers_passed c.args.size hs (sym c.in_default.ensures) in
    let most = total-le c.args.size hs rules.below in
    let few = c.requires in
    omega arith
