-- What does not fit the loops of the samples.
use Rattle.std.proofs.Common.{◌≡◌, ℕ, zero, suc, ◌+◌, ◌<◌, ◌≤◌, ◌↔◌, Bool, true, false, Option, Some, None, [], ◌∷◌, refl, ap, sym, ◌∙◌, subst, arith, pos, nat_le, nat_lt}
use Rattle.std.proofs.lemmas.Bool.Decides.{nat_tests}
use Rattle.rv64_decode.specs.declared.memory.Width.TheVariants.{Eight}
use native.Mathlib.Decide.{dec_le}
use Rattle.loop_data.specs.Nests.{has}
use Rattle.loop_data.specs.declared.verdict.Cell.{Cell}
use Rattle.loop_data.specs.Runs.{step, run, walk, pc_in, goes_at, instr, access}
use Rattle.loop_data.specs.Turns.{AtLoop, turn, seen, covers, loads_byte, Leaves, Stays}
use Rattle.loop_data.specs.Locations.{no_cells, cell_at, value_of, word_reads}
use Rattle.loop_data.specs.Independent.{Keeps, in_cell, IsAccess, AreCells, AreApart, HaveRoles}
use Rattle.loop_samples.specs.Samples.{code_area}
use Rattle.loop_samples.specs.AddLoop.{add_loop, arrays, words}
use Rattle.loop_samples.specs.ChainLoop.{chain_loop, numbers}
use Rattle.loop_samples.specs.StoreLoop.{store_loop, storing as storing_state}
use Rattle.loop_samples.specs.NestLoop.{outer, two_cells, counter, counting}
use Rattle.loop_samples.specs.Refused.{gap_loop}
use Rattle.loop_samples.specs.Misfits.{cells_without_load, moving_cell, cell_beside, fast_roles, private_counter, array_area, areas_with}
use Rattle.loop_samples.proofs.Visits.{and_true, turns_from}
use Rattle.loop_samples.proofs.Adding as adding
use Rattle.loop_samples.proofs.Storing as store

-- cells
loads_counter : loads_byte (access counting) 0x2_0000 ≡ true
unfolding step
loads_counter = refl

no_use : cells_without_load.uses (walk counting 0) ≡ None
unfolding step
no_use = refl

pub not_unloaded : AreCells outer cells_without_load counting 1 → ⊥
not_unloaded a =
    let f = a.touched 0 0 0x2_0000 counter (omega arith) refl refl (λ u. let k = sym no_use ∙ u in absurd (cc)) refl in
    let g = f.0 in let k = loads_counter in absurd (cc)

fourth_turn : turn chain_loop numbers 4 ≡ 1
unfolding step
fourth_turn = refl

not_there : IsAccess (access (run numbers 4)) 0x2_0000 Eight → ⊥
unfolding step
not_there a = let e : ◌≡◌ {A = ℕ} 0x2_0008 0x2_0000 = a.0 in absurd (omega arith)

use_there : moving_cell.uses (walk numbers 4) ≡ moving_cell.uses 0x1_0000
unfolding step
use_there = refl

pub not_moving : AreCells chain_loop moving_cell numbers 2 → ⊥
not_moving a = let e = fourth_turn in not_there (a.own 4 0 _ (omega arith) use_there refl)

abbrev beside_holds : Option Cell → Bool
beside_holds None = false
beside_holds (Some c) = in_cell storing_state c 0x2_0000

none_holds : (k : ℕ) → beside_holds (cell_at cell_beside.cells k) ≡ false
none_holds zero = refl
none_holds (suc k) = refl

pub not_beside : AreApart store_loop cell_beside storing_state 2 → ⊥
not_beside a = a.writes 0 1 0x2_0000 (omega arith) (omega arith) (λ e. omega arith) store.first (λ k c e. subst (λ o. beside_holds o ≡ false) e (none_holds k)) store.second

-- roles
tenth : value_of no_cells arrays.regs (run arrays 8) 10 ≡ 0x2_0148
unfolding step
tenth = refl

pub not_all_kept : HaveRoles add_loop no_cells (λ r. Keeps) arrays 1 → ⊥
not_all_kept h = let e = sym tenth ∙ h.kept 1 8 10 (omega arith) (adding.arrival 1 (omega arith)) refl in let f : ◌≡◌ {A = ℕ} 0x2_0148 0x2_0140 = e in absurd (omega arith)

pub not_fast : HaveRoles add_loop no_cells fast_roles arrays 1 → ⊥
not_fast h = let e = sym tenth ∙ h.moved 1 8 10 (pos 16) (omega arith) (adding.arrival 1 (omega arith)) refl in let f : ◌≡◌ {A = ℕ} 0x2_0148 0x2_0150 = e in absurd (omega arith)

reads_first : word_reads two_cells (walk counting 0) (instr (run counting 0)) 32 ≡ true
unfolding step
reads_first = refl

pub not_private : HaveRoles outer two_cells private_counter counting 1 → ⊥
not_private h = let e : ◌≡◌ {A = Bool} false true = h.before 0 32 (omega arith) refl reads_first in absurd (cc)

-- the words of a turn
pub seen_are : seen add_loop arrays 10 ≡ 0x1_00F4 ∷ 0x1_00F0 ∷ []
unfolding step
seen_are = refl

-- areas
pub not_low : AtLoop (areas_with (record array_area { low = 0x3_0000 })) add_loop arrays → ⊥
not_low h = let e : ◌≡◌ {A = ℕ} 0x2_0000 0x3_0000 = h.areas.1.0.low in absurd (omega arith)

pub not_short : AtLoop (areas_with (record array_area { bytes = [] })) add_loop arrays → ⊥
not_short h = let e : ◌≡◌ {A = ℕ} 480 0 = h.areas.1.0.length in absurd (omega arith)

pub not_readable : AtLoop (areas_with (record array_area { readable = false })) add_loop arrays → ⊥
not_readable h = let e : ◌≡◌ {A = Bool} true false = h.areas.1.0.readable in absurd (cc)

pub not_writable : AtLoop (areas_with (record array_area { writable = false })) add_loop arrays → ⊥
not_writable h = let e : ◌≡◌ {A = Bool} true false = h.areas.1.0.writable in absurd (cc)

pub not_executable : AtLoop (areas_with (record array_area { executable = true })) add_loop arrays → ⊥
not_executable h = let e : ◌≡◌ {A = Bool} false true = h.areas.1.0.executable in absurd (cc)

pub not_alone : AtLoop (code_area 0x1_00F0 words ∷ []) add_loop arrays → ⊥
not_alone h = h.areas.1

-- the bytes of an access, by their addresses
from_covers : (low n b : ℕ) → covers low n b ≡ true → (low ≤ b) × (b < low + n)
from_covers low n b e =
    let p = and_true (nat_le low b) (nat_lt b (low + n)) e in
    let c : nat_le low b ≡ true = p.0 in let d : nat_lt b (low + n) ≡ true = p.1 in
    (grind (arith, nat_tests), grind (arith, nat_tests))

to_covers : (low n b : ℕ) → low ≤ b → b < low + n → covers low n b ≡ true
to_covers low n b h k =
    let c : nat_le low b ≡ true = grind (arith, nat_tests) in let d : nat_lt b (low + n) ≡ true = grind (arith, nat_tests) in rw (c, d) refl

pub covers_is : (low n b : ℕ) → (covers low n b ≡ true) ↔ ((low ≤ b) × (b < low + n))
covers_is low n b = (from_covers low n b, λ h. to_covers low n b h.0 h.1)

-- the word that is left out leads to no exit
back_there : goes_at (has gap_loop.body) (run arrays 8).next ≡ true
unfolding step
back_there = refl

second_arrival : turn gap_loop arrays 8 ≡ 1
unfolding step
second_arrival = refl

no_leave : (n : ℕ) → n < 8 → Leaves gap_loop arrays n → ⊥
unfolding step
no_leave zero h x = let e : ◌≡◌ {A = ℕ} 0x1_00F0 0x1_010C = ap pc_in x.exit in absurd (omega arith)
no_leave (suc zero) h x = let e : ◌≡◌ {A = ℕ} 0x1_00F4 0x1_010C = ap pc_in x.exit in absurd (omega arith)
no_leave (suc (suc zero)) h x = let e : ◌≡◌ {A = ℕ} 0x1_00F8 0x1_010C = ap pc_in x.exit in absurd (omega arith)
no_leave (suc (suc (suc zero))) h x = let e : ◌≡◌ {A = ℕ} 0x1_00FC 0x1_010C = ap pc_in x.exit in absurd (omega arith)
no_leave (suc (suc (suc (suc zero)))) h x = let e : ◌≡◌ {A = ℕ} 0x1_0100 0x1_010C = ap pc_in x.exit in absurd (omega arith)
no_leave (suc (suc (suc (suc (suc zero))))) h x = let e : ◌≡◌ {A = ℕ} 0x1_0104 0x1_010C = ap pc_in x.exit in absurd (omega arith)
no_leave (suc (suc (suc (suc (suc (suc zero)))))) h x = let e : ◌≡◌ {A = ℕ} 0x1_0108 0x1_010C = ap pc_in x.exit in absurd (omega arith)
no_leave (suc (suc (suc (suc (suc (suc (suc zero))))))) h x = let e = x.out in let f = back_there in absurd (cc)
no_leave (suc (suc (suc (suc (suc (suc (suc (suc n)))))))) h x = absurd (omega arith)

pub not_left : Stays gap_loop arrays 0 → ⊥
not_left y = no_leave y.at early y.leaves
  where
    early : y.at < 8
    early = go (dec_le 8 y.at)
      where
        go : Dec (8 ≤ y.at) → y.at < 8
        go (yes a) = let b = turns_from gap_loop arrays 8 y.at a in let c = second_arrival in let d = y.number in absurd (omega arith)
        go (no a) = omega arith
