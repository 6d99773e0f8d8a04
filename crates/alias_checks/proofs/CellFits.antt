-- What is known of a cell that fits.
use Rattle.std.proofs.Common.{◌≡◌, ℕ, ◌%◌, ◌<◌, ◌^◌, ◌==◌, List, Bool, true, nat_lt, arith}
use Rattle.std.proofs.lemmas.Bool.{and_parts}
use Rattle.std.proofs.lemmas.Bool.Decides.{nat_tests}
use Rattle.std.specs.List.{All, list_all}
use Rattle.loop_data.specs.declared.verdict.Cell.{Cell}
use Rattle.loop_data.specs.Locations.{address}
use Rattle.alias_checks.specs.declared.areas.Permission.{Permission}
use Rattle.alias_checks.specs.Areas.{Range}
use Rattle.alias_checks.specs.CellTests.{cell_size, cell_range, cell_permission, cell_fits, HasRegister, IsLow}
use Rattle.alias_checks.proofs.Elements.{each_passes}

-- the three tests of a cell
pub record Fits (inside : Permission → Range → Bool) (regs : List ℕ) (c : Cell) : Type 0 where
  pub aligned : (address regs c % cell_size c) ≡ 0
  pub below : address regs c < 2 ^ 31
  pub lies : inside (cell_permission c) (cell_range regs c) ≡ true

pub fits : (inside : Permission → Range → Bool) (regs : List ℕ) (c : Cell) → cell_fits inside regs c ≡ true → Fits inside regs c
unfolding cell_fits
fits inside regs c e =
    let a = and_parts _ _ e in
    let b = and_parts _ _ a.1 in
    record { aligned = zero_is _ a.0; below = below_is _ b.0; lies = b.1 }
  where
    zero_is : (n : ℕ) → (n == 0) ≡ true → n ≡ 0
    zero_is n h = grind (arith, nat_tests)

    below_is : (n : ℕ) → nat_lt n (2 ^ 31) ≡ true → n < 2 ^ 31
    below_is n h = grind (arith, nat_tests)

pub all_low : (inside : Permission → Range → Bool) (regs : List ℕ) (cells : List Cell) → list_all (cell_fits inside regs) cells ≡ true
    → All (λ (c : Cell). HasRegister c.base) cells → All (IsLow regs) cells
all_low inside regs cells e r k d h =
    record {
      register = r k d h;
      below = (fits inside regs _ (each_passes (cell_fits inside regs) cells k d e h)).below;
    }
