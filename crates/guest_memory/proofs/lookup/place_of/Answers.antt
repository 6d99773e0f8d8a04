use Rattle.std.proofs.Common.{◌≡◌, ◌%◌}
use Rattle.rv64_decode.specs.Area.{bytes_of}
use Rattle.guest_memory.proofs.Areas.{is_place}
use Rattle.guest_memory.proofs.lookup.place_of.Goals as goal

pub returns-in-Some-clause-placed : goal.returns-in-Some-clause-placed
returns-in-Some-clause-placed c =
    let e : c.args.addr % bytes_of c.args.width ≡ 0 = rw (← c.bytes.ensures) c.if-addr-bytes-ne0.false in
    is_place c.args.areas.now c.in-Some.i c.args.addr c.args.width c.requires e c.in-Some.ensures.found
