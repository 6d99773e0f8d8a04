use Rattle.std.proofs.Common.{append_assoc}
use Rattle.image_writer.specs.Image.{mark_bytes}
use Rattle.image_writer.proofs.writing.push_mark.Goals as goal

pub returns : goal.returns
unfolding mark_bytes
returns c =
    rw (c.in_ok-push64-6.ensures, c.in_ok-push64-5.ensures, c.in_ok-push64-4.ensures, c.in_ok-push64-3.ensures, c.in_ok-push64-2.ensures, c.in_ok-push64.ensures, c.in_ok-push32-2.ensures, c.in_ok-push32.ensures)
    (simp append_assoc)
