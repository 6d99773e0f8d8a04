use Rattle.stub_laws.proofs.Appends.{joined}
use Rattle.check_code.proofs.cells.push_both.Goals as goal

pub returns : goal.returns
returns c = joined _ _ _ _ _ c.in_ok-push_site.ensures (joined _ _ _ _ _ c.in_ok-push_site-2.ensures c.in_ok-push_apart.ensures)
