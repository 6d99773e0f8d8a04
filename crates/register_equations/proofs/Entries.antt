-- The form of a cell's entry value, and of a number that is no cell's.
use Rattle.std.proofs.Common.{◌≡◌, ℕ, ◌+◌, ◌-◌, ◌<◌, ◌≤◌, ◌==◌, Bool, false, if◌then◌else◌, nat_lt, length, Option, Some, None, is_some, refl, ap, sym, ◌∙◌, arith, pos}
use Rattle.std.proofs.lemmas.Bool.Decides.{nat_tests}
use Rattle.linear_forms.specs.Forms.{LinearForm, limited, moving}
use Rattle.loop_data.specs.declared.cells.Cells.{Cells}
use Rattle.loop_data.specs.Locations.{cell_at}
use Rattle.loop_data.specs.Equations.{entry_form}
use Rattle.loop_data.specs.Lookups.{cell_map}
use Rattle.loop_data.proofs.Tests.{is_ne}
use Rattle.loop_data.proofs.ValueFills.{some_cell, no_cell_at}

abbrev by_cell : Bool → ℕ → Option LinearForm
by_cell b r = if b then Some (moving r (pos 0)) else None

entry_by : (c : Cells) (r : ℕ) → 32 ≤ r → entry_form (record { instr = λ u. None; cells = cell_map c }) r ≡ by_cell (is_some (cell_at c.list.items (r - 32))) r
entry_by c r h =
    let a : (r == 0) ≡ false = is_ne r 0 (λ e. omega arith) in
    let b : nat_lt r 32 ≡ false = grind (arith, nat_tests) in
    rw a (rw b refl)

pub entry_of_cell : (c : Cells) (r : ℕ) → 32 ≤ r → r - 32 < length c.list.items → limited (moving (32 + (r - 32)) (pos 0)) ≡ entry_form (record { instr = λ u. None; cells = cell_map c }) r
entry_of_cell c r h l =
    let e : 32 + (r - 32) ≡ r = omega arith in
    ap (λ q. Some (moving q (pos 0))) e ∙ sym (entry_by c r h ∙ ap (λ b. by_cell b r) (some_cell c.list.items (r - 32) l))

pub entry_of_none : (c : Cells) (r : ℕ) → 32 ≤ r → length c.list.items ≤ r - 32 → None ≡ entry_form (record { instr = λ u. None; cells = cell_map c }) r
entry_of_none c r h l = sym (entry_by c r h ∙ ap (λ b. by_cell b r) (no_cell_at c.list.items (r - 32) l))
