-- What samples of loops are made of: words and numbers in memory, and registers.
use Rattle.std.specs.Prelude.{ℕ, zero, suc, ◌+◌, ◌/◌, ◌%◌, true, false, List, [], ◌∷◌, ◌++◌}
use Rattle.rv64_decode.specs.Area.{Area}
use Rattle.loop_data.specs.declared.shape.Level.{Level}

-- a number in so many bytes, the lowest first
abbrev pub bytes_in : ℕ → ℕ → List ℕ
bytes_in zero n = []
bytes_in (suc k) n = n % 256 ∷ bytes_in k (n / 256)

-- the bytes of words, which have 4 each, and of numbers, which have 8 each
abbrev pub word_bytes : List ℕ → List ℕ
word_bytes [] = []
word_bytes (w ∷ ws) = bytes_in 4 w ++ word_bytes ws

abbrev pub number_bytes : List ℕ → List ℕ
number_bytes [] = []
number_bytes (n ∷ ns) = bytes_in 8 n ++ number_bytes ns

-- from the first on each number is a step more
abbrev pub series : ℕ → ℕ → ℕ → List ℕ
series zero first step = []
series (suc count) first step = first ∷ series count (first + step) step

-- an area that holds code, and one that holds data
abbrev pub code_area : ℕ → List ℕ → Area
code_area low words =
    record { low = low; readable = true; writable = false; executable = true; bytes = word_bytes words }

abbrev pub data_area : ℕ → List ℕ → Area
data_area low numbers =
    record { low = low; readable = true; writable = true; executable = false; bytes = number_bytes numbers }

-- a loop of four words, left at its last
abbrev pub short_loop : Level
short_loop =
    record {
      header = 0x1_0000;
      body = 0x1_0000 ∷ 0x1_0004 ∷ 0x1_0008 ∷ 0x1_000C ∷ [];
      back = 0x1_000C;
      exit = 0x1_000C;
      depth = 0;
    }
