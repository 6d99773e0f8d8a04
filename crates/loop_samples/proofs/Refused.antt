-- What does not fit the loops of the samples: each part of a definition that refuses something.
use Rattle.std.proofs.Common.{◌≡◌, ℕ, suc, ◌≤◌, true, false, None, ◌∷◌, refl, sym, ◌∙◌, arith, pos}
use Rattle.std.proofs.lemmas.Int.{ints}
use Rattle.rv64_decode.specs.Fetched.{instr_at}
use Rattle.rv64_decode.specs.declared.memory.Width.TheVariants.{Four}
use Rattle.linear_forms.specs.Forms.{Alike}
use native.Mathlib.Decide.{dec_le}
use Rattle.loop_data.specs.declared.shape.Level.{Level}
use Rattle.loop_data.specs.Nests.{has}
use Rattle.loop_data.specs.Runs.{State, step, run, walk, goes_at, access}
use Rattle.loop_data.specs.Turns.{arrives, turn, seen, stores_byte, Stays}
use Rattle.loop_data.specs.Locations.{no_cells, some_writes}
use Rattle.loop_data.specs.Independent.{Private, IsAccess, AreTurns, AreCells, HaveRoles}
use Rattle.loop_data.specs.Holds.{FormsHold}
use Rattle.loop_samples.specs.AddLoop.{add_loop, arrays}
use Rattle.loop_samples.specs.NestLoop.{outer, nest, two_cells, counter, counting}
use Rattle.loop_samples.specs.Refused.{cells_with, cells_without_store, unwritten_roles, fast_forms, gap_loop}
use Rattle.loop_samples.proofs.Visits.{turn_elsewhere}
use Rattle.loop_samples.proofs.Adding as adding

-- the first turn that leaves is the only one
pub one_number : (l : Level) (s : State) (a b : ℕ) → Stays l s a → Stays l s b → a ≡ b
one_number l s a b p q = go (dec_le (suc a) b) (dec_le (suc b) a)
  where
    go : Dec (suc a ≤ b) → Dec (suc b ≤ a) → a ≡ b
    go (yes h) d = let e = p.number in absurd (q.first p.at (omega arith) p.leaves)
    go (no h) (yes k) = let e = q.number in absurd (p.first q.at (omega arith) q.leaves)
    go (no h) (no k) = omega arith

-- visit 160 is behind the loop, and still of turn 19
gone : arrives add_loop arrays 160 ≡ false
unfolding step
gone = refl

gone_turn : turn add_loop arrays 160 ≡ 19
gone_turn = turn_elsewhere add_loop arrays 159 gone ∙ (adding.regular_at 159 (omega arith)).turn

pub not_twenty : AreTurns add_loop arrays 20 → ⊥
not_twenty a = let e = gone_turn in let f = a.inside 160 (omega arith) in let g = adding.left in absurd (cc)

-- the first turn of the nest stores the counter
stores_counter : stores_byte (access (run counting 3)) 0x2_0000 ≡ true
unfolding step
stores_counter = refl

third_turn : turn outer counting 3 ≡ 0
unfolding step
third_turn = refl

pub not_kept : AreCells outer (cells_with true false) counting 1 → ⊥
not_kept a =
    let e = third_turn in
    let f = a.written 3 0 0x2_0000 (record counter { stored = false }) (omega arith) refl refl refl in
    let g = stores_counter in absurd (cc)

no_use : cells_without_store.uses (walk counting 3) ≡ None
unfolding step
no_use = refl

pub not_untouched : AreCells outer cells_without_store counting 1 → ⊥
not_untouched a =
    let e = third_turn in
    let f = a.touched 3 0 0x2_0000 counter (omega arith) refl refl (λ u. let k = sym no_use ∙ u in absurd (cc)) refl in
    let g = f.1 in let k = stores_counter in absurd (cc)

not_four : IsAccess (access counting) 0x2_0000 Four → ⊥
unfolding step
not_four a = let e = a.1 in absurd (cc)

pub not_narrow : AreCells outer (cells_with false true) counting 1 → ⊥
not_narrow a = not_four (a.own 0 0 (record counter { wide = false }) (omega arith) refl refl)

-- no word of the first turn writes x0, nor x20
eighth : turn add_loop arrays 7 ≡ 0
eighth = (adding.regular_at 7 (omega arith)).turn

comes : arrives add_loop arrays 8 ≡ true
unfolding step
comes = refl

no_zero : some_writes no_cells (instr_at arrays.memory) (walk arrays 7 ∷ seen add_loop arrays 7) 0 ≡ false
unfolding step
no_zero = refl

no_twenty : some_writes no_cells (instr_at arrays.memory) (walk arrays 7 ∷ seen add_loop arrays 7) 20 ≡ false
unfolding step
no_twenty = refl

pub not_all_private : HaveRoles add_loop no_cells (λ r. Private) arrays 1 → ⊥
not_all_private h =
    let e = eighth in let f = h.written 7 0 (omega arith) comes refl in let g = no_zero in absurd (cc)

pub not_unwritten : HaveRoles add_loop no_cells unwritten_roles arrays 1 → ⊥
not_unwritten h =
    let e = eighth in let f = h.written 7 20 (omega arith) comes refl in let g = no_twenty in absurd (cc)

-- x5 is 1 in the second turn
pub record IsSecond : Type 0 where
  pub turn : turn outer counting 13 ≡ 1
  pub inside : goes_at (has outer.body) (run counting 13).next ≡ true

second : IsSecond
unfolding step
second = record { turn = refl; inside = refl }

one_is_two : FormsHold nest two_cells fast_forms counting 2 → Alike (pos 1) (pos 2)
unfolding step
one_is_two h = h 13 (omega arith) refl 5 _ refl

pub not_fast : FormsHold nest two_cells fast_forms counting 2 → ⊥
not_fast h = let a = one_is_two h in let e = a.is in absurd (omega (arith, ints))

-- visit 4 is at the word that is left out
in_gap : goes_at (has gap_loop.body) (run arrays 4).next ≡ false
unfolding step
in_gap = refl

gap_turn : turn gap_loop arrays 4 ≡ 0
unfolding step
gap_turn = refl

pub not_round : AreTurns gap_loop arrays 1 → ⊥
not_round a = let e = gap_turn in let f = a.inside 4 (omega arith) in let g = in_gap in absurd (cc)
