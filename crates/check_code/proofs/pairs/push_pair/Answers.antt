use Rattle.check_code.proofs.Joins.{same_pair}
use Rattle.check_code.proofs.PairTests.{divisors_small}
use Rattle.check_code.proofs.pairs.push_pair.Goals as goal

pub push_four-requires-clause-lanes : goal.push_four-requires-clause-lanes
push_four-requires-clause-lanes c =
    (divisors_small c.args.a.now c.args.b.now c.args.term.now _ _ _ _ _ _ c.in-Same.is c.requires.term c.requires.sized).0

pub push_four-requires-clause-residue : goal.push_four-requires-clause-residue
push_four-requires-clause-residue c =
    (divisors_small c.args.a.now c.args.b.now c.args.term.now _ _ _ _ _ _ c.in-Same.is c.requires.term c.requires.sized).1

pub returns-in_ok-push_four-in-Same : goal.returns-in_ok-push_four-in-Same
returns-in_ok-push_four-in-Same c =
    same_pair _ _ _ c.args.a.now c.args.b.now c.args.term.now _ _ _ _ _ _ c.in-Same.is c.in_ok-push_front-in-Same.ensures
    c.in_ok-push_four-in-Same.ensures
