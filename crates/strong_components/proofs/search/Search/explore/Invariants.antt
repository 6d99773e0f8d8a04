use Rattle.std.proofs.Common.{◌≡◌, Some}
use Rattle.std.specs.List.{slice_get}
use Rattle.strong_components.specs.declared.search.Mark.TheVariants.{Unseen}
use Rattle.strong_components.specs.Search.{IsSound, KeepsSeen, work_left}
use Rattle.strong_components.proofs.search.Search.explore.Given as goal

abbrev pub invariant-loop-top : goal.invariant-loop-top
invariant-loop-top l =
    record {
      state : IsSound l.nodes l.self;
      seen : KeepsSeen l.fn.self.marks.items l.self.marks.items;
      root : slice_get l.self.marks.items l.root ≡ Some Unseen → ⊥;
    }

abbrev pub decreases-loop-top : goal.decreases-loop-top
decreases-loop-top l = work_left l.self
