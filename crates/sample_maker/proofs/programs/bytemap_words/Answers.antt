use Rattle.std.proofs.Common.{refl}
use Rattle.sample_maker.specs.Programs.{bytemap_words}
use Rattle.sample_maker.proofs.programs.bytemap_words.Goals as goal

pub returns : goal.returns
unfolding bytemap_words
returns c =
    rw (c.in_ok-push_sum_of_bytes.ensures, c.in_ok-extend_from_slice.ensures.items, c.in_ok-push_number-2.ensures, c.in_ok-push_number.ensures, c.in_ok-push.ensures.items, c.in_ok-words.ensures.items)
    refl
