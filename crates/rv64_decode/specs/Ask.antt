-- What an instruction asks of memory, one access at most, and what memory answers.
use Rattle.std.specs.Prelude.{ℕ, List, Result, Ok, Err}
use Rattle.rv64_decode.specs.declared.memory.Width.{Width}
use Rattle.rv64_decode.specs.declared.memory.MemFault.{MemFault}
use Rattle.rv64_decode.specs.Area.{Area, load_of, store_of, after_store}

-- no access; so many bytes at an address; these bytes set to the low bytes of a value
pub data Ask : Type 0 where
  Nothing : Ask
  Loads : (addr : ℕ) (width : Width) → Ask
  Stores : (addr : ℕ) (width : Width) (value : ℕ) → Ask

-- the answer to a store, as that to a load of 0
abbrev pub without_number : Result (Unit {0}) MemFault → Result ℕ MemFault
without_number (Ok _) = Ok 0
without_number (Err fault) = Err fault

-- memory's answer: the loaded number, 0 where nothing is loaded, or why the access is refused
abbrev pub answer : List Area → Ask → Result ℕ MemFault
answer m Nothing = Ok 0
answer m (Loads addr width) = load_of m addr width
answer m (Stores addr width value) = without_number (store_of m addr width)

-- the memory afterwards
abbrev pub after : List Area → Ask → List Area
after m Nothing = m
after m (Loads addr width) = m
after m (Stores addr width value) = after_store m addr width value

-- an access is allowed; where nothing is asked, nothing is wanted
abbrev pub IsAllowed : (Ask → Type 0) → Ask → Type 0
IsAllowed allows Nothing = Unit {0}
IsAllowed allows (Loads addr width) = allows (Loads addr width)
IsAllowed allows (Stores addr width value) = allows (Stores addr width value)
