use Rattle.rewrite_cli.proofs.Listings.{found_among, missed_among}
use Rattle.rewrite_cli.proofs.listing.is_among.Goals as goal
use Rattle.std.proofs.Common.{sym}

pub returns-in-Ok : goal.returns-in-Ok
returns-in-Ok c = sym (found_among c.args.places.now c.args.place c.in-Ok.field-0 c.requires c.in-Ok.ensures.position)

pub returns-in-Err : goal.returns-in-Err
returns-in-Err c = sym
    (missed_among c.args.places.now c.args.place c.in-Err.field-0 c.requires c.in-Err.ensures.position)
