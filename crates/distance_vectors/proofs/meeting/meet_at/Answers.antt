use Rattle.std.proofs.Common.{w64}
use Rattle.std.proofs.lemmas.Int.{to_z-of_z}
use Rattle.distance_vectors.proofs.Sums.{second_alone}
use Rattle.distance_vectors.proofs.meeting.meet_at.Goals as goal

pub returns-else-meets_after : goal.returns-else-meets_after
returns-else-meets_after c =
    let r = to_z-of_z w64 c.args.root c.ranges.root in
    let s = to_z-of_z w64 c.args.second c.ranges.second in
    let u = to_z-of_z w64 c.args.third c.ranges.third in
    let h = rw (r, s, u) at c.if-meets_after.ensures in
    let i = rw (r, s, u) at c.meets_after-else-meets_after.ensures in
    second_alone _ _ _ h.1 i
