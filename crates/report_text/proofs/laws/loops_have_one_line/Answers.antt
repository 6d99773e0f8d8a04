use Rattle.report_text.proofs.Feeds.{one_line}
use Rattle.report_text.proofs.laws.loops_have_one_line.Goals as goal

pub returns : goal.returns
returns c = one_line
