use Rattle.std.proofs.Common.{◌+◌, length}
use Rattle.linear_forms.specs.Forms.{merged}
use Rattle.linear_forms.specs.Locations.{terms_of, AreFormTerms}
use Rattle.linear_forms.specs.Merging.{IsBuilt}
use Rattle.linear_forms.proofs.terms.merge.Given as goal

abbrev pub invariant-loop-first : goal.invariant-loop-first
invariant-loop-first l =
    record {
      first : AreFormTerms l.first;
      second : AreFormTerms l.second;
      built : IsBuilt l.list.items (merged (terms_of l.first) (terms_of l.second)) (merged (terms_of l.fn.first) (terms_of l.fn.second));
    }

abbrev pub decreases-loop-first : goal.decreases-loop-first
decreases-loop-first l = length l.first + length l.second
