-- How many words a check has at most, and how far jumps reach over them.
use Rattle.std.specs.Prelude.{ℕ, ◌<◌, ◌≤◌, ◌+◌, ◌^◌, List, length}
use Rattle.rv64_decode.specs.Aim.{IsNear}

-- of 16 cells, 4 loops, 256 duties, 32 accesses and 128 areas there are less
abbrev pub most_words : ℕ
most_words = 200000

-- from each of the words a jump reaches all of them and 2 ^ 15 places behind
abbrev pub CanBeAimed : List ℕ → Type 0
CanBeAimed words = (to k : ℕ) → k < length words → to ≤ length words + 2 ^ 15 → IsNear to k
