use Rattle.std.proofs.Common.{◌≤◌, ◌≡◌, vec_len}
use Rattle.strong_components.proofs.Closing.{IsClosing}
use Rattle.strong_components.proofs.search.Search.close.Given as goal

abbrev pub invariant-loop-self : goal.invariant-loop-self
invariant-loop-self l =
    record {
      closing : IsClosing l.fn.self.marks.items l.fn.self.stack.items l.self.marks.items l.self.stack.items l.self.count;
      within : l.place ≤ vec_len l.self.stack;
      bounds : l.self.bounds.items ≡ l.fn.self.bounds.items;
      path : l.self.path.items ≡ l.fn.self.path.items;
      count : l.self.count ≡ l.fn.self.count;
    }

abbrev pub decreases-loop-self : goal.decreases-loop-self
decreases-loop-self l = vec_len l.self.stack
