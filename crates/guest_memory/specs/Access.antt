-- The permission that an access wants.
use Rattle.std.specs.Prelude.{Bool}
use Rattle.rv64_decode.specs.Area.{Area, readable_of, writable_of}
use Rattle.guest_memory.specs.declared.area.Access.{Access}
use Rattle.guest_memory.specs.declared.area.Access.TheVariants.{Read, Write}

abbrev pub permission_of : Access → Area → Bool
permission_of Read = readable_of
permission_of Write = writable_of
