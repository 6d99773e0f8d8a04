use Rattle.std.proofs.Common.{ℕ, ◌≡◌, ◌<◌, [], Some}
use Rattle.std.specs.List.{slice_get}
use Rattle.strong_components.specs.declared.search.Mark.TheVariants.{Unseen}
use Rattle.strong_components.specs.Search.{IsSound}
use Rattle.strong_components.proofs.components.Given as goal

abbrev pub invariant-loop-root : goal.invariant-loop-root
invariant-loop-root l =
    record {
      state : IsSound l.nodes l.search;
      idle : l.search.path.items ≡ [];
      seen : (v : ℕ) → v < l.root → slice_get l.search.marks.items v ≡ Some Unseen → ⊥;
    }
