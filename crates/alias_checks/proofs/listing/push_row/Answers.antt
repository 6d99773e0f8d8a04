use Rattle.alias_checks.specs.Listing.{places_in, stores_at}
use Rattle.alias_checks.proofs.Rows.{row_more}
use Rattle.alias_checks.proofs.listing.push_row.Goals as goal

pub loop-j-preserved : goal.loop-j-preserved
loop-j-preserved c =
    record {
      places =
          row_more (stores_at c.args.accesses.now c.args.i) c.args.i c.loop-j.j c.args.accesses.now
          (places_in c.loop-j.pairs.items) (places_in c.push_pair.new.pairs.items) _ c.loop-j-test.true
          c.in_ok-push_pair.ensures.places c.loop-j.invariant.places;
      each = λ h. c.in_ok-push_pair.ensures.each (c.loop-j.invariant.each h);
    }
