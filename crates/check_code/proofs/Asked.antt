-- What a decoded instruction is executed under, on a memory of which each access may be asked.
use Rattle.rv64_decode.specs.Ask.{Ask, Nothing, Loads, Stores, IsAllowed}
use Rattle.rv64_decode.specs.XForm.{InFormX, HasSlot}
use Rattle.rv64_decode.specs.declared.xinstr.XInstr.{XInstr}
use Rattle.rv64_decode.specs.declared.xinstr.XInstr.TheVariants.{Base, Put, Get, Par, Join, Back, Id, Harts}

pub allowed_all : (allows : Ask → Type 0) → ((a : Ask) → allows a) → (a : Ask) → IsAllowed allows a
allowed_all allows all Nothing = tt
allowed_all allows all (Loads addr width) = all (Loads addr width)
allowed_all allows all (Stores addr width value) = all (Stores addr width value)

pub slot_of_form : (i : XInstr) → InFormX i → HasSlot i
slot_of_form (Base i) h = tt
slot_of_form (Put slot rs1) h = h
slot_of_form (Get rd slot) h = h
slot_of_form Par h = tt
slot_of_form Join h = tt
slot_of_form Back h = tt
slot_of_form (Id rd) h = tt
slot_of_form (Harts rd) h = tt
