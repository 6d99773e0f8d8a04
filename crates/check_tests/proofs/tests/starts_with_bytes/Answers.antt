use Rattle.std.proofs.Common.{[], subst, arith}
use Rattle.serial_run.specs.Sound.{HaveBytes}
use Rattle.check_tests.proofs.tests.starts_with_bytes.Goals as goal

pub returns : goal.returns
returns c =
    (c.states_are_sound.ensures c.args.elf.now [] 0 c.requires (subst HaveBytes c.as_slice.ensures c.have_bytes.ensures)
    (λ k d h. absurd (omega arith))).bytes
