-- Which instructions of added code have a word.
use Rattle.std.specs.Prelude.{◌<◌}
use Rattle.rv64_decode.specs.Form.{InForm}
use Rattle.rv64_decode.specs.declared.xinstr.XInstr.{XInstr}
use Rattle.rv64_decode.specs.declared.xinstr.XInstr.TheVariants.{Base, Put, Get, Par, Join, Back, Id, Harts}

-- its slot, if it has one, is among the 32
abbrev pub HasSlot : XInstr → Type 0
HasSlot (Base i) = Unit {0}
HasSlot (Put slot rs1) = slot < 32
HasSlot (Get rd slot) = slot < 32
HasSlot Par = Unit {0}
HasSlot Join = Unit {0}
HasSlot Back = Unit {0}
HasSlot (Id rd) = Unit {0}
HasSlot (Harts rd) = Unit {0}

-- its immediate is in its form, and its slot among the 32
abbrev pub InFormX : XInstr → Type 0
InFormX (Base i) = InForm i
InFormX (Put slot rs1) = slot < 32
InFormX (Get rd slot) = slot < 32
InFormX Par = Unit {0}
InFormX Join = Unit {0}
InFormX Back = Unit {0}
InFormX (Id rd) = Unit {0}
InFormX (Harts rd) = Unit {0}
