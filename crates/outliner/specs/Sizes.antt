-- The places of copies that stand one behind the other, as a list.
use Rattle.std.specs.Prelude.{ℕ, ◌≡◌, ◌≤◌, ◌<◌, ◌^◌, ◌+◌, List, [], ◌∷◌, length}
use Rattle.std.specs.List.Sorted.{IsStrictlyIncreasing}
use Rattle.loop_data.specs.declared.cells.Cells.{Cells}
use Rattle.loop_data.specs.declared.graph.Graph.{Graph}
use Rattle.loop_data.specs.declared.shape.Level.{Level}
use Rattle.loop_data.specs.LoopCode.{LoopCode, code_of}
use Rattle.loop_data.specs.Lookups.{AreNumbered, cell_map}
use Rattle.loop_data.specs.Paths.{IsInOrder}
use Rattle.turn_copies.specs.Copies.{copy_size}

-- where the copies of these words begin, if the first stands at place p, and where the last ends
abbrev pub places_from : Level → LoopCode → ℕ → List ℕ → List ℕ
places_from l B p [] = p ∷ []
places_from l B p (u ∷ us) = p ∷ places_from l B (p + copy_size l B u) us

-- what copies of a loop ask: the reached words, the words that use a cell and the loop's own words each stand in
-- address order, and the loop has at most 256. A word of it that is not reached has no copy
pub record IsCopied (G : Graph) (C : Cells) (l : Level) : Type 0 where
  pub words : IsInOrder G
  pub cells : AreNumbered C
  pub ordered : IsStrictlyIncreasing l.body
  pub few : length l.body ≤ 256

-- the words of a loop, with its cells
abbrev pub loop_code : Graph → Cells → LoopCode
loop_code G C = code_of G (cell_map C)

-- these are the places of a loop's copies and the one behind them, the first at place p, which is below 2 ^ 30
pub record ArePlaces (G : Graph) (C : Cells) (l : Level) (p : ℕ) (places : List ℕ) : Type 0 where
  pub are : places ≡ places_from l (loop_code G C) p l.body
  pub small : p < 2 ^ 30
