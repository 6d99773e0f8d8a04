-- The header's own values, by the names of locations.
use Rattle.std.proofs.Common.{◌≡◌, ℕ, ◌+◌, ◌-◌, ◌<◌, ◌≤◌, Bool, true, false, if◌then◌else◌, nat_lt, pos, length, Some, None, refl, ap, sym, ◌∙◌, arith}
use Rattle.std.proofs.lemmas.Bool.Decides.{nat_tests}
use Rattle.linear_forms.specs.declared.location.Loc.TheVariants.{Cell}
use Rattle.loop_data.specs.declared.cells.Cells.{Cells}
use Rattle.loop_data.specs.Facts.{Fact, Offset}
use Rattle.loop_data.specs.FactPass.{header_fact}
use Rattle.loop_data.specs.Lookups.{offset_from, cell_map}
use Rattle.loop_data.proofs.ValueFills.{some_cell, by_cell, header_by}

below : (a b : ℕ) → a < b → nat_lt a b ≡ true
below a b h = grind (arith, nat_tests)

from_name : (t : Bool) (x : Fact) → t ≡ true → (if t then Some x else None) ≡ Some x
from_name true x e = refl
from_name false x e = absurd (cc)

pub header_of_cell : (c : Cells) (r : ℕ) → 32 ≤ r → r < 48 → r - 32 < length c.list.items → offset_from (Cell (r - 32)) (pos 0) ≡ header_fact (record { instr = λ u. None; cells = cell_map c }) r
header_of_cell c r h k l =
    let e : 32 + (r - 32) ≡ r = omega arith in
    from_name (nat_lt (r - 32) 16) (Offset (32 + (r - 32)) (pos 0)) (below (r - 32) 16 (omega arith)) ∙ ap (λ q. Some (Offset q (pos 0))) e ∙ sym (header_by c r h ∙ ap (λ b. by_cell b r) (some_cell c.list.items (r - 32) l))
