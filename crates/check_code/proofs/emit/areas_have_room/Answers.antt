use Rattle.check_code.proofs.Rooms.{rooms}
use Rattle.check_code.proofs.emit.areas_have_room.Goals as goal

pub returns : goal.returns
returns c = rooms
