-- Flags of the locations that the words of a body write.
use Rattle.std.proofs.Common.{◌≡◌, ℕ, ◌<◌, Bool, true, false, not, ◌&&◌, ◌||◌, if◌then◌else◌, List, get_or, replicate, refl, ap, ◌∙◌, arith}
use mathlib.Core.Path.{fun_ext}
use Rattle.std.specs.Prelude.{nat_le, nat_lt}
use Rattle.std.proofs.lemmas.Bool.{ltb-true}
use Rattle.loop_data.specs.declared.cells.Cells.{Cells}
use Rattle.loop_data.specs.declared.graph.Graph.{Graph}
use Rattle.loop_data.specs.LoopCode.{code_of, any_writes}
use Rattle.loop_data.specs.Locations.{CellMap, no_cells, first_cell}
use Rattle.loop_data.specs.Lookups.{cell_map}
use Rattle.loop_data.proofs.Tests.{and_true}
use Rattle.loop_data.proofs.ValueFills.{none_set}
use Rattle.stack_slots.specs.Touches.{is_kept, is_unset}

pub kept_is : (flags : List Bool) (none : Cells) (G : Graph) (body : List ℕ)
    → ((r : ℕ) → r < 48 → get_or flags r false ≡ (get_or (replicate 48 false) r false || any_writes (code_of G (cell_map none)) body r))
    → cell_map none ≡ no_cells → is_unset flags ≡ is_kept (code_of G no_cells) body
kept_is flags none G body marked empty = fun_ext (λ q. go q (nat_le 1 q && nat_lt q first_cell) refl)
  where
    go : (q : ℕ) (b : Bool) → (nat_le 1 q && nat_lt q first_cell) ≡ b
        → (if b then not (get_or flags q false) else false) ≡ (if b then not (any_writes (code_of G no_cells) body q) else false)
    go q false e = refl
    go q true e =
        let l = ltb-true q first_cell (and_true (nat_le 1 q) (nat_lt q first_cell) e).1 in
        ap not (marked q (omega arith) ∙ ap (λ b. b || any_writes (code_of G (cell_map none)) body q) (none_set 48 q)
        ∙ ap (λ (C : CellMap). any_writes (code_of G C) body q) empty)
