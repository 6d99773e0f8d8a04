-- The loop that copies each number onto the next: what one turn stores the next one loads.
use Rattle.std.proofs.Common.{◌≡◌, ℕ, ◌≤◌, true, false, refl, arith, ◌==◌}
use Rattle.std.proofs.lemmas.Bool.Decides.{nat_tests}
use Rattle.loop_data.specs.Runs.{step}
use Rattle.loop_data.specs.Turns.{Reads, Writes}
use Rattle.loop_data.specs.Locations.{no_cells}
use Rattle.loop_data.specs.Independent.{Keeps, AreTurns, AreApart, HaveRoles}
use Rattle.loop_samples.specs.ShiftLoop.{shift_loop, shifting, shift_roles}
use Rattle.loop_samples.proofs.Visits.{visit, all_visits}
use Rattle.loop_samples.proofs.Tests.{turn_test, IsTested, roles_from_test, no_cells_same}
use Rattle.loop_samples.proofs.Short as short

all_regular : all_visits short.regular shift_loop 8 0 (visit shift_loop shifting 0) ≡ true
unfolding step
all_regular = refl

all_tested : all_visits (turn_test shift_loop no_cells 32 shift_roles shifting 2) shift_loop 8 0 (visit shift_loop shifting 0) ≡ true
unfolding step
all_tested = refl

high : (r : ℕ) → 32 ≤ r → shift_roles r ≡ Keeps
high r h = let a : (r == 10) ≡ false = grind (arith, nat_tests) in let b : (r == 14) ≡ false = grind (arith, nat_tests) in rw (a, b) refl

tested : IsTested shift_loop no_cells 32 shift_roles shifting 2 8
tested = record { tested = all_tested; last = short.last_turn shifting all_regular; high = high; same = no_cells_same shifting.regs shifting }

pub turns : AreTurns shift_loop shifting 2
turns = short.turns shifting all_regular

pub locations : HaveRoles shift_loop no_cells shift_roles shifting 2
locations = roles_from_test shift_loop no_cells 32 shift_roles shifting 2 8 tested

loaded : Reads shift_loop shifting 0 0x2_0008
unfolding step
loaded = record { at = 0; turn = refl; loads = refl }

stored : Writes shift_loop shifting 1 0x2_0008
unfolding step
stored = record { at = 5; turn = refl; stores = refl }

pub not_apart : AreApart shift_loop no_cells shifting 2 → ⊥
not_apart a = a.reads 1 0 0x2_0008 (omega arith) (omega arith) (λ e. omega arith) stored (λ k c e. absurd (cc e)) loaded
