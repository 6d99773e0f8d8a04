use Rattle.std.proofs.Common.{append_assoc}
use Rattle.sample_maker.specs.Sample.{program_header}
use Rattle.sample_maker.proofs.file.push_program_header.Goals as goal

pub returns : goal.returns
unfolding program_header
returns c =
    rw (c.in_ok-push64-6.ensures, c.in_ok-push64-5.ensures, c.in_ok-push64-4.ensures, c.in_ok-push64-3.ensures, c.in_ok-push64-2.ensures, c.in_ok-push64.ensures, c.in_ok-push32-2.ensures, c.in_ok-push32.ensures)
    (simp append_assoc)
