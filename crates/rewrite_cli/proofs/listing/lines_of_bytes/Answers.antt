use Rattle.rewrite_cli.proofs.Commands.{refused_list}
use Rattle.rewrite_cli.proofs.listing.lines_of_bytes.Goals as goal

pub returns-clause-refused : goal.returns-clause-refused
returns-clause-refused c = λ f xs.
    let why = c.in-Err-lines_in.ensures.refused f in
    refused_list _ _ _ why.0 xs c.in-Ok.ensures.answer why.1 (why.2 xs)
