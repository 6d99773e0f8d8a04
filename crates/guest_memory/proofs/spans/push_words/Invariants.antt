use Rattle.std.proofs.Common.{◌≡◌, ◌++◌, ◌-◌, ◌/◌, ◌%◌, ◌≤◌}
use Rattle.guest_memory.specs.Layout.{end_of, nth_area}
use Rattle.guest_memory.specs.Words.{words_from, words_in}
use Rattle.guest_memory.proofs.spans.push_words.Given as goal

abbrev pub invariant-loop-at : goal.invariant-loop-at
invariant-loop-at l =
    let a = nth_area l.areas l.i in
    record {
      low : a.low ≤ l.at;
      end : l.at ≤ end_of a;
      even : l.at % 8 ≡ 0;
      items : l.words.items ++ words_from ((end_of a - l.at) / 8) l.areas l.at ≡ l.initial.words.items ++ words_in l.areas a;
    }

abbrev pub decreases-loop-at : goal.decreases-loop-at
decreases-loop-at l = end_of (nth_area l.areas l.i) - l.at
