use Rattle.std.proofs.Common.{refl}
use Rattle.sample_maker.specs.Programs.{stencil_words}
use Rattle.sample_maker.proofs.programs.stencil_words.Goals as goal

pub returns : goal.returns
unfolding stencil_words
returns c =
    rw (c.in_ok-push_sum_of_numbers.ensures, c.in_ok-extend_from_slice-2.ensures.items, c.in_ok-push_number-3.ensures, c.in_ok-extend_from_slice.ensures.items, c.in_ok-push_number-2.ensures, c.in_ok-push_number.ensures, c.in_ok-push.ensures.items, c.in_ok-words.ensures.items)
    refl
