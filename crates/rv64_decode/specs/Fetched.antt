-- The instruction that stands at an address of memory.
use Rattle.std.specs.Prelude.{ℕ, List, Option, None, Result, Ok, Err}
use Rattle.rv64_decode.specs.Area.{Area, fetch_of}
use Rattle.rv64_decode.specs.Table.{decoded}
use Rattle.rv64_decode.specs.declared.memory.MemFault.{MemFault}
use Rattle.rv64_decode.specs.declared.instr.Instr.{Instr}

-- the instruction in what a fetch gives
abbrev pub instr_in : Result ℕ MemFault → Option Instr
instr_in (Ok word) = decoded word
instr_in (Err why) = None

-- the instruction that is executed at an address, if there is one
abbrev pub instr_at : List Area → ℕ → Option Instr
instr_at m addr = instr_in (fetch_of m addr)
