use Rattle.alias_checks.specs.Listing.{places_in}
use Rattle.alias_checks.proofs.Rows.{rows_more}
use Rattle.alias_checks.proofs.listing.pairs_of.Goals as goal

pub loop-i-preserved : goal.loop-i-preserved
loop-i-preserved c =
    record {
      places =
          rows_more c.loop-i.i c.args.accesses.now (places_in c.loop-i.pairs.items)
          (places_in c.push_row.new.pairs.items) _ c.loop-i-test.true c.in_ok-push_row.ensures.places
          c.loop-i.invariant.places;
      each = c.in_ok-push_row.ensures.each c.loop-i.invariant.each;
    }
