-- The loop that sums up: no register that it writes has a role.
use Rattle.std.proofs.Common.{◌≡◌, ℕ, ◌<◌, Bool, true, false, refl, sym, ◌∙◌, subst, arith, pos, ℤ, ◌+ℤ◌, ◌*ℤ◌}
use Rattle.std.proofs.lemmas.Int.{ints}
use Rattle.linear_forms.specs.Forms.{Alike, word_of}
use Rattle.linear_forms.proofs.Sums.{word_alike}
use Rattle.rv64_decode.specs.Fetched.{instr_at}
use Rattle.rv64_decode.specs.Ask.{Ask, Nothing, Loads, Stores}
use Rattle.loop_data.specs.Runs.{step, run, walk, instr, access}
use Rattle.loop_data.specs.Turns.{turn, seen, IsArrival, stores_byte, Writes}
use Rattle.loop_data.specs.Locations.{no_cells, value_of, word_reads, some_writes}
use Rattle.loop_data.specs.Independent.{Role, Keeps, Moves, Private, AreTurns, AreApart, HaveRoles}
use Rattle.loop_samples.specs.SumLoop.{sum_loop, powers}
use Rattle.loop_samples.proofs.Visits.{visit, all_visits, passes_test}
use Rattle.loop_samples.proofs.Short as short

all_regular : all_visits short.regular sum_loop 8 0 (visit sum_loop powers 0) ≡ true
unfolding step
all_regular = refl

pub turns : AreTurns sum_loop powers 2
turns = short.turns powers all_regular

first_arrival : IsArrival sum_loop powers 1 4
first_arrival = short.arrival powers all_regular 1 (omega arith)

second_arrival : IsArrival sum_loop powers 2 8
second_arrival = short.arrival powers all_regular 2 (omega arith)

-- nothing is stored
abbrev stores_nothing : Ask → Bool
stores_nothing Nothing = true
stores_nothing (Loads addr width) = true
stores_nothing (Stores addr width value) = false

all_stores : all_visits (λ n v. stores_nothing (access v.state)) sum_loop 8 0 (visit sum_loop powers 0) ≡ true
unfolding step
all_stores = refl

no_byte : (a : Ask) (b : ℕ) → stores_nothing a ≡ true → stores_byte a b ≡ false
no_byte Nothing b e = refl
no_byte (Loads addr width) b e = refl
no_byte (Stores addr width value) b e = absurd (cc)

no_writes : (i b : ℕ) → i < 2 → Writes sum_loop powers i b → ⊥
no_writes i b h w =
    let t = w.turn in
    let l = short.early powers all_regular w.at (omega arith) in
    let e = no_byte (access (run powers w.at)) b (passes_test (λ n v. stores_nothing (access v.state)) sum_loop powers 8 w.at all_stores (omega arith)) in
    let f = w.stores in absurd (cc)

pub apart : AreApart sum_loop no_cells powers 2
apart = record { reads = λ i j b hi hj n w o r. no_writes i b hi w; writes = λ i j b hi hj n w o v. no_writes i b hi w }

-- the sum is 0, 1 and 3
at_first : value_of no_cells powers.regs (run powers 4) 7 ≡ 1
unfolding step
at_first = refl

at_second : value_of no_cells powers.regs (run powers 8) 7 ≡ 3
unfolding step
at_second = refl

-- and is read before it is written
read_first : word_reads no_cells (walk powers 1) (instr (run powers 1)) 7 ≡ true
unfolding step
read_first = refl

not_written : some_writes no_cells (instr_at powers.memory) (seen sum_loop powers 1) 7 ≡ false
unfolding step
not_written = refl

early : turn sum_loop powers 1 < 2
unfolding step
early = omega arith

no_step : (z : ℤ) → 1 ≡ word_of (pos 0 +ℤ z *ℤ pos 1) → 3 ≡ word_of (pos 0 +ℤ z *ℤ pos 2) → ⊥
no_step z e f =
    let a = subst (λ n. Alike (pos n) (pos 0 +ℤ z *ℤ pos 1)) (sym e) (word_alike (pos 0 +ℤ z *ℤ pos 1)) in
    let b = subst (λ n. Alike (pos n) (pos 0 +ℤ z *ℤ pos 2)) (sym f) (word_alike (pos 0 +ℤ z *ℤ pos 2)) in
    let c = a.is in let d = b.is in
    absurd (omega (arith, ints))

pub no_roles : (roles : ℕ → Role) → HaveRoles sum_loop no_cells roles powers 2 → ⊥
no_roles roles h = go (roles 7) refl
  where
    go : (o : Role) → roles 7 ≡ o → ⊥
    go Keeps e = let k = sym at_first ∙ h.kept 1 4 7 (omega arith) first_arrival e in absurd (omega arith)
    go (Moves z) e = no_step z (sym at_first ∙ h.moved 1 4 7 z (omega arith) first_arrival e) (sym at_second ∙ h.moved 2 8 7 z (omega arith) second_arrival e)
    go Private e = let k = sym not_written ∙ h.before 1 7 early e read_first in absurd (cc)
