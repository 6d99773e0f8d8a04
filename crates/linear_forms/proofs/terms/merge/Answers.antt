use Rattle.std.proofs.Common.{w64}
use Rattle.std.proofs.lemmas.Int.{to_z-of_z}
use Rattle.linear_forms.proofs.Built.{drop_terms, next_built, merge_whole, merged_ordered}
use Rattle.linear_forms.proofs.terms.merge.Goals as goal

pub loop-first-preserved : goal.loop-first-preserved
loop-first-preserved c =
    let i = c.loop-first.invariant in
    let n = c.next_term-next.ensures in
    let z = to_z-of_z w64 c.next_term-next.result.term.1 n.fits in
    let b = rw z at (c.push_term.ensures.built c.if-not-push_term.false) in
    record {
      first = rw c.rest-first.ensures (drop_terms _ _ i.first);
      second = rw c.rest-second.ensures (drop_terms _ _ i.second);
      built = rw (c.rest-first.ensures, c.rest-second.ensures) (b _ _ (next_built _ _ _ c.next_term-next.result _ n i.built));
    }

pub returns : goal.returns
returns c = merge_whole _ _ _ _ c.loop-first-test.false c.loop-first.invariant.built (merged_ordered _ _ c.requires.first c.requires.second)
