use Rattle.std.proofs.Common.{sym, arith, append_assoc}
use Rattle.std.proofs.lemmas.List.{length-take-le, take_rest}
use Rattle.image_writer.specs.Image.{with_headers}
use Rattle.image_writer.proofs.writing.push_with_headers.Goals as goal

pub slice_bounds-front-end : goal.slice_bounds-front-end
slice_bounds-front-end c = sym (length-take-le 32 c.args.file.now (omega arith))

pub returns : goal.returns
unfolding with_headers
returns c =
    rw (c.in_ok-extend_from_slice-3.ensures.items, c.in_ok-push16.ensures, c.in_ok-extend_from_slice-2.ensures.items, c.in_ok-push64.ensures, c.in_ok-extend_from_slice.ensures.items, take_rest c.args.file.now 58)
    (simp append_assoc)
