use Rattle.std.proofs.Common.{◌≡◌, length, ap, ◌∙◌, arith}
use Rattle.guest_memory.proofs.Loaded.{length-zeros}
use Rattle.guest_memory.proofs.start.zero_area.Goals as goal

pub new-requires : goal.new-requires
new-requires c =
    let size : length c.in_ok-bytes.bytes.items ≡ c.args.size = ap length c.in_ok-bytes.ensures ∙ length-zeros c.args.size in
    omega arith
