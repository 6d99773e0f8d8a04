use Rattle.alias_checks.proofs.Rows.{stores_at-nth}
use Rattle.alias_checks.proofs.listing.stores_at.Goals as goal

pub returns : goal.returns
returns c = stores_at-nth c.args.accesses.now c.args.i c.index-accesses-i.result c.requires
