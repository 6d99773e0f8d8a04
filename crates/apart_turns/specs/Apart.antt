-- What a held check says of the bytes that turns touch.
use Rattle.std.specs.Prelude.{ℕ, suc, ◌≡◌, ◌≤◌, ◌<◌, List, length, Option, slice_index, slice_index_or}
use Rattle.linear_forms.specs.Forms.{LinearForm}
use Rattle.loop_data.specs.declared.graph.Graph.{Graph}
use Rattle.loop_data.specs.declared.shape.Level.{Level}
use Rattle.loop_data.specs.Nests.{Holds, nest_of}
use Rattle.loop_data.specs.LoopWords.{AreNest}
use Rattle.loop_data.specs.Runs.{State, run, walk, instr}
use Rattle.loop_data.specs.Turns.{turn}
use Rattle.loop_data.specs.Passes.{pass}
use Rattle.loop_data.specs.Locations.{CellMap}
use Rattle.loop_data.specs.LoopCode.{code_of}
use Rattle.loop_data.specs.Holds.{HoldsAt}
use Rattle.loop_data.specs.Executing.{AreProgramWords, AreCellWords}
use Rattle.loop_data.specs.Accesses.{AreAccesses}
use Rattle.loop_data.specs.Independent.{AreCells, AreApart}
use Rattle.alias_checks.specs.declared.lists.Check.{Check}
use Rattle.alias_checks.specs.declared.lists.Turns.{Turns}
use Rattle.alias_checks.specs.TurnTests.{last_of}
use Rattle.alias_checks.specs.Listing.{ArePairs}
use Rattle.alias_checks.specs.Holds.{Holds as CheckHolds}

-- visit n is one of a word of the loop, which is executed as it stands in the program; the forms hold there; and no
-- inner loop round the word has made more passes than these, the last by place
pub record IsAsTold (G : Graph) (root : Level) (inner : List Level) (C : CellMap) (at : ℕ → ℕ → Option LinearForm)
    (last : List ℕ) (s : State) (n : ℕ) : Type 0 where
  pub inside : Holds root (walk s n)
  pub word : instr (run s n) ≡ (code_of G C).instr (walk s n)
  pub forms : HoldsAt (nest_of G root inner) C at s n
  pub within : (k : ℕ) (l : Level) → k < length inner → slice_index_or inner k l ≡ l → Holds l (walk s n)
      → pass l (walk s) n ≤ slice_index last (suc k)

-- where the check of a loop, with its accesses and each two of them of which one stores, holds and tells its turns,
-- and the visits of the first p turns go as told and keep to their cells, no byte outside the cells that one of these
-- turns writes is read or written by another
abbrev pub ApartLaw : Type 0
ApartLaw = (G : Graph) (levels : List Level) (nest : AreNest G levels) → AreProgramWords G → (C : CellMap)
    (at : ℕ → ℕ → Option LinearForm) (c : Check) (t : Turns) (s : State) (p : ℕ)
    → AreAccesses levels nest.root.body (code_of G C) at c.accesses.list.items
    → ArePairs c.accesses.list.items c.pairs → C.cells ≡ c.cells.list.items → AreCellWords nest.root (code_of G C)
    → CheckHolds c s.regs s.memory t → p ≤ t.root
    → ((n : ℕ) → turn nest.root s n < p → IsAsTold G nest.root nest.inner C at (last_of t) s n)
    → AreCells nest.root C s p → AreApart nest.root C s p
