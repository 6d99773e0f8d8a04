-- The cells of a loop, over the facts of the pass that knows no cells.
use Rattle.std.specs.Prelude.{ℕ, ◌≡◌, ◌≢◌, true, List, [], map, filter, filter_map, Option, None}
use Rattle.std.specs.List.{Contains}
use Rattle.loop_data.specs.declared.cells.Cells.{Cells}
use Rattle.loop_data.specs.declared.graph.Graph.{Graph}
use Rattle.loop_data.specs.declared.shape.Level.{Level}
use Rattle.loop_data.specs.declared.verdict.Cell.{Cell}
use Rattle.loop_data.specs.Facts.{Fact}
use Rattle.loop_data.specs.FactPass.{AreFacts}
use Rattle.loop_data.specs.LoopCode.{code_of}
use Rattle.loop_data.specs.Locations.{cell_at, no_cells}
use Rattle.loop_data.specs.Nests.{Nest}
use Rattle.loop_data.specs.Results.{IsNestOf}
use Rattle.stack_slots.specs.declared.words.BodyWord.{BodyWord}
use Rattle.stack_slots.specs.Touches.{words_of}
use Rattle.stack_slots.specs.CellRules.{uses_cell, first_uses, cell_of, fault_of}

-- the word of a use accesses the cell of its number
pub record IsUse (words : List BodyWord) (list : List Cell) (use_at : ℕ × ℕ) : Type 0 where
  pub word : BodyWord
  pub among : Contains words word
  pub at : word.at ≡ use_at.0
  pub uses : uses_cell word ≡ true
  pub cell : cell_at list use_at.1 ≡ cell_of words word

-- the uses of cells by words, in order, each with the number of its cell
pub record AreUses (words : List BodyWord) (list : List Cell) (uses : List (ℕ × ℕ)) : Type 0 where
  pub words_are : map (λ (u : ℕ × ℕ). u.0) uses ≡ map (λ (w : BodyWord). w.at) (filter uses_cell words)
  pub each : (u : ℕ × ℕ) → Contains uses u → IsUse words list u

-- the cells of the words of a body, numbered by their first uses, or why there are none: nothing is listed beside
-- a fault
pub record HasCells (words : List BodyWord) (c : Cells) : Type 0 where
  pub fault : c.fault ≡ fault_of words
  pub none : c.fault ≢ None → (c.list.items ≡ []) × (c.uses.items ≡ [])
  pub list : c.fault ≡ None → c.list.items ≡ filter_map (cell_of words) (first_uses words)
  pub uses : c.fault ≡ None → AreUses words c.list.items c.uses.items

-- the cells of a loop, by the facts of its own pass without cells
abbrev pub AreCellsOf : Graph → List Level → Cells → Type 0
AreCellsOf G levels c = (N : Nest) (V : ℕ → ℕ → Option Fact) → IsNestOf G levels N
    → AreFacts N (code_of G no_cells) N.root V
    → HasCells (words_of (code_of G no_cells) N.root.body V) c
