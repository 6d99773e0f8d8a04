use Rattle.std.proofs.Common.{◌≡◌, ◌++◌, drop}
use Rattle.guest_memory.specs.Words.{words_of, words_of_all}
use Rattle.guest_memory.proofs.spans.words_from.Given as goal

abbrev pub invariant-loop-i : goal.invariant-loop-i
invariant-loop-i l = l.words.items ++ words_of_all l.areas (drop l.i l.areas) ≡ words_of l.areas
