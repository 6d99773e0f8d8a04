-- The modes and places of the code, by those of the machine.
use Rattle.std.specs.Prelude.{ℕ}
use Rattle.hart_core.specs.Machine.{Mode, Free, Stub, Passing, Waiting, Idle, Place, Arrived, Forked, Elsewhere}
use Rattle.hart_core.specs.declared.seat.Mode.{Mode as Activity}
use Rattle.hart_core.specs.declared.seat.Mode.TheVariants.{Free as IsFree, Stub as IsStub, Passing as IsPassing, Waiting as IsWaiting, Idle as IsIdle}
use Rattle.hart_core.specs.declared.counts.Place.{Place as Spot}
use Rattle.hart_core.specs.declared.counts.Place.TheVariants.{Arrived as HasArrived, Forked as HasForked, Other}

abbrev pub mode_of : Activity → Mode
mode_of IsFree = Free
mode_of IsStub = Stub
mode_of IsPassing = Passing
mode_of IsWaiting = Waiting
mode_of IsIdle = Idle

abbrev pub place_of : Spot → Place
place_of (HasArrived entry) = Arrived entry
place_of HasForked = Forked
place_of Other = Elsewhere
