-- When an executable has too many reached words.
use Rattle.std.specs.Prelude.{ℕ, ◌≡◌, ◌+◌, List, length, All, nat_eq}
use Rattle.std.specs.List.{IsDistinct}
use Rattle.elf_image.specs.declared.image.Elf.{Elf}
use Rattle.loop_data.specs.Reaching.{Reached}
use Rattle.flow_recovery.specs.declared.refusal.FlowErr.{FlowErr}
use Rattle.flow_recovery.specs.declared.refusal.FlowErr.TheVariants.{TooManyWords, OutOfMemory}

-- the largest number of reached words
abbrev pub word_limit : ℕ
word_limit = 262144

-- at least n words are reached
abbrev pub ReachesAtLeast : Elf → ℕ → Type 0
ReachesAtLeast elf n = (xs : List ℕ) × (length xs ≡ n) × IsDistinct nat_eq xs × All (Reached elf) xs

-- what an error says of the executable
abbrev pub IsRefused : Elf → FlowErr → Type 0
IsRefused elf (TooManyWords count) = (count ≡ word_limit + 1) × ReachesAtLeast elf (word_limit + 1)
IsRefused elf OutOfMemory = Unit {0}
