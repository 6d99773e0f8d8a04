-- The loop that copies each number onto the next: what one turn stores the next one loads.
use Rattle.std.proofs.Common.{◌≡◌, ℕ, ◌≤◌, true, false, refl, arith, ◌==◌}
use Rattle.std.proofs.lemmas.Bool.Decides.{nat_tests}
use Rattle.loop_data.specs.Runs.{step}
use Rattle.loop_data.specs.Turns.{Reads, Writes}
use Rattle.loop_data.specs.Locations.{no_cells}
use Rattle.loop_data.specs.Independent.{Keeps, AreTurns, AreApart, HaveRoles}
use Rattle.loop_samples.specs.ChainLoop.{chain_loop, numbers, chain_roles}
use Rattle.loop_samples.proofs.Visits.{visit, all_visits}
use Rattle.loop_samples.proofs.Tests.{turn_test, IsTested, roles_from_test, no_cells_same}
use Rattle.loop_samples.proofs.Short as short

all_regular : all_visits short.regular chain_loop 8 0 (visit chain_loop numbers 0) ≡ true
unfolding step
all_regular = refl

all_tested : all_visits (turn_test chain_loop no_cells 32 chain_roles numbers 2) chain_loop 8 0 (visit chain_loop numbers 0) ≡ true
unfolding step
all_tested = refl

high : (r : ℕ) → 32 ≤ r → chain_roles r ≡ Keeps
high r h = let a : (r == 10) ≡ false = grind (arith, nat_tests) in let b : (r == 14) ≡ false = grind (arith, nat_tests) in rw (a, b) refl

tested : IsTested chain_loop no_cells 32 chain_roles numbers 2 8
tested = record { tested = all_tested; last = short.last_turn numbers all_regular; high = high; same = no_cells_same numbers.regs numbers }

pub turns : AreTurns chain_loop numbers 2
turns = short.turns numbers all_regular

pub locations : HaveRoles chain_loop no_cells chain_roles numbers 2
locations = roles_from_test chain_loop no_cells 32 chain_roles numbers 2 8 tested

stored : Writes chain_loop numbers 0 0x2_0008
unfolding step
stored = record { at = 1; turn = refl; stores = refl }

loaded : Reads chain_loop numbers 1 0x2_0008
unfolding step
loaded = record { at = 4; turn = refl; loads = refl }

pub not_apart : AreApart chain_loop no_cells numbers 2 → ⊥
not_apart a = a.reads 0 1 0x2_0008 (omega arith) (omega arith) (λ e. omega arith) stored (λ k c e. absurd (cc e)) loaded
