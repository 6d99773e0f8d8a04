-- A memory of which each access may be asked.
use Rattle.rv64_decode.specs.Ask.{Ask, Nothing, Loads, Stores, IsAllowed}

pub allowed_all : (allows : Ask → Type 0) → ((a : Ask) → allows a) → (a : Ask) → IsAllowed allows a
allowed_all allows all Nothing = tt
allowed_all allows all (Loads addr width) = all (Loads addr width)
allowed_all allows all (Stores addr width value) = all (Stores addr width value)
