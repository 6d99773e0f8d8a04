-- The loop that stores at one address: its turns are apart but for their stores.
use Rattle.std.proofs.Common.{◌≡◌, ℕ, ◌≤◌, true, false, refl, arith, ◌==◌}
use Rattle.std.proofs.lemmas.Bool.Decides.{nat_tests}
use Rattle.loop_data.specs.Runs.{step}
use Rattle.loop_data.specs.Turns.{Writes}
use Rattle.loop_data.specs.Locations.{no_cells}
use Rattle.loop_data.specs.Independent.{Keeps, AreTurns, AreApart, HaveRoles}
use Rattle.loop_samples.specs.StoreLoop.{store_loop, storing, store_roles}
use Rattle.loop_samples.proofs.Visits.{visit, all_visits}
use Rattle.loop_samples.proofs.Tests.{turn_test, roles_from_test, no_cells_same}
use Rattle.loop_samples.proofs.Short as short

all_regular : all_visits short.regular store_loop 8 0 (visit store_loop storing 0) ≡ true
unfolding step
all_regular = refl

all_tested : all_visits (turn_test store_loop no_cells 32 store_roles storing 2) store_loop 8 0 (visit store_loop storing 0) ≡ true
unfolding step
all_tested = refl

high : (r : ℕ) → 32 ≤ r → store_roles r ≡ Keeps
high r h = let a : (r == 11) ≡ false = grind (arith, nat_tests) in rw a refl

pub turns : AreTurns store_loop storing 2
turns = short.turns storing all_regular

pub locations : HaveRoles store_loop no_cells store_roles storing 2
locations =
    roles_from_test store_loop no_cells 32 store_roles storing 2 8
    (record { tested = all_tested; last = short.last_turn storing all_regular; high = high; same = no_cells_same storing.regs storing })

pub first : Writes store_loop storing 0 0x2_0000
unfolding step
first = record { at = 0; turn = refl; stores = refl }

pub second : Writes store_loop storing 1 0x2_0000
unfolding step
second = record { at = 4; turn = refl; stores = refl }

pub not_apart : AreApart store_loop no_cells storing 2 → ⊥
not_apart a = a.writes 0 1 0x2_0000 (omega arith) (omega arith) (λ e. omega arith) first (λ k c e. absurd (cc e)) second
