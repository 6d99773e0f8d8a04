-- The aligned 8-byte words of memory, whatever the permissions.
use Rattle.std.specs.Prelude.{ℕ, zero, suc, ◌+◌, ◌/◌, ◌%◌, ◌==◌, if◌then◌else◌, List, [], ◌∷◌, ◌++◌, length, Option, Some, None}
use Rattle.rv64_decode.specs.Area.{Area, area_at, number_at}

abbrev pub if_in_area : Option Area → ℕ → Option ℕ
if_in_area None n = None
if_in_area (Some a) n = Some n

-- the word at an address: none where that is no multiple of 8 or lies in no area
abbrev pub word_of : List Area → ℕ → Option ℕ
word_of m addr = if addr % 8 == 0 then if_in_area (area_at m addr) (number_at 8 m addr) else None

-- the n words from the address on, each with its address
abbrev pub words_from : ℕ → List Area → ℕ → List (ℕ × ℕ)
words_from zero m addr = []
words_from (suc n) m addr = (addr, number_at 8 m addr) ∷ words_from n m (addr + 8)

-- all words of one area of m, and of areas of m, in address order
abbrev pub words_in : List Area → Area → List (ℕ × ℕ)
words_in m a = words_from (length a.bytes / 8) m a.low

abbrev pub words_of_all : List Area → List Area → List (ℕ × ℕ)
words_of_all m [] = []
words_of_all m (a ∷ rest) = words_in m a ++ words_of_all m rest

-- all words of all areas
abbrev pub words_of : List Area → List (ℕ × ℕ)
words_of m = words_of_all m m
