use Rattle.std.proofs.Common.{◌∙◌, sym}
use Rattle.rv64_decode.specs.Area.{bytes_of}
use Rattle.distance_vectors.proofs.Sums.{test_is, share_tests, some_bytes, few_bytes}
use Rattle.distance_vectors.proofs.meeting.share_byte.Goals as goal

pub returns-then-one-other : goal.returns-then-one-other
returns-then-one-other c =
    let first = test_is c.args.one c.args.other c.size_of.result (bytes_of c.args.other_width) c.ranges.one
    c.requires.other c.size_of.ensures (few_bytes c.args.other_width) in
    let second = test_is c.args.other c.args.one c.size_of-then-one-other.result (bytes_of c.args.width) c.ranges.other
    c.requires.one c.size_of-then-one-other.ensures (few_bytes c.args.width) in
    share_tests c.args.one (bytes_of c.args.width) c.args.other (bytes_of c.args.other_width) _ (some_bytes c.args.width)
    (some_bytes c.args.other_width) (sym first ∙ c.if-one-other.true) second
