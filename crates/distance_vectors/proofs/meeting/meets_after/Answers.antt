use Rattle.std.proofs.Common.{◌∙◌, w64}
use Rattle.std.proofs.lemmas.Int.{to_z-of_z}
use Rattle.distance_vectors.proofs.Sums.{address_bits, shared_at}
use Rattle.distance_vectors.proofs.meeting.meets_after.Goals as goal

pub returns : goal.returns
returns c =
    let r = to_z-of_z w64 c.args.root c.ranges.root in
    let s = to_z-of_z w64 c.args.second c.ranges.second in
    let u = to_z-of_z w64 c.args.third c.ranges.third in
    let v = rw (r, s, u) at c.address_at-address.ensures.value in
    shared_at _ _ _ _ _ _ _ (address_bits _ c.start_of-start.ensures.range ∙ c.start_of-start.ensures.value)
    (address_bits _ c.address_at-address.ensures.range ∙ v) c.share_byte.ensures
