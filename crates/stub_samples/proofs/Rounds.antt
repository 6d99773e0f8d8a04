-- Nineteen turns of the nest with two cells are independent, by computation.
use Rattle.std.proofs.Common.{◌≡◌, ℕ, zero, suc, ◌-◌, ◌*◌, ◌/◌, ◌%◌, ◌<◌, ◌≤◌, Bool, true, false, ◌&&◌, None, refl, ap, sym, ◌∙◌, arith, if◌then◌else◌, ◌==◌, nat_lt}
use Rattle.std.proofs.lemmas.Bool.Decides.{nat_tests}
use native.Mathlib.Decide.{dec_le}
use Rattle.rv64_decode.specs.Area.{bytes_of}
use Rattle.rv64_decode.specs.Ask.{Ask, Nothing, Loads, Stores}
use Rattle.loop_data.specs.Runs.{State, step, run, goes_at, access}
use Rattle.loop_data.specs.Turns.{turn, IsArrival, covers, stores_byte, Writes}
use Rattle.loop_data.specs.Locations.{value_of, cell_at}
use Rattle.loop_data.specs.Independent.{Keeps, IsOutside, Independent}
use Rattle.loop_samples.specs.NestLoop.{outer, two_cells, counter, nest_roles}
use Rattle.loop_samples.proofs.Visits.{Visit, visit, all_visits, and_true, passes_test, turns_from}
use Rattle.loop_samples.proofs.Tests.{goes_is, eq_from, turn_test, IsTested, turns_from_test, roles_from_test, cells_test, cells_from_test}
use Rattle.stub_samples.specs.NestStub.{rounds}

-- the turn at each visit
abbrev turn_is : ℕ → Visit → Bool
turn_is n v = v.turn == n / 13

all_turns : all_visits turn_is outer 247 0 (visit outer rounds 0) ≡ true
unfolding step
all_turns = refl

turn_at : (n : ℕ) → n ≤ 247 → turn outer rounds n ≡ n / 13
turn_at n h = eq_from _ _ (passes_test turn_is outer rounds 247 n all_turns h)

last_turn : turn outer rounds 247 ≡ 19
last_turn = turn_at 247 (omega arith)

early_visit : (n : ℕ) → turn outer rounds n < 19 → n ≤ 247
early_visit n h = go (dec_le n 247)
  where
    go : Dec (n ≤ 247) → n ≤ 247
    go (yes a) = a
    go (no a) = let b = turns_from outer rounds 247 n (omega arith) in let c = last_turn in absurd (omega arith)

-- independence, with cells
all_tested : all_visits (turn_test outer two_cells 34 nest_roles rounds 19) outer 247 0 (visit outer rounds 0) ≡ true
unfolding step
all_tested = refl

all_cells : all_visits (cells_test two_cells rounds) outer 247 0 (visit outer rounds 0) ≡ true
unfolding step
all_cells = refl

abbrev arrives_test : ℕ → Visit → Bool
arrives_test n v = if n % 13 == 0 then goes_at (λ pc. pc == 0x1_0000) v.state.next else true

all_arrive : all_visits arrives_test outer 247 0 (visit outer rounds 0) ≡ true
unfolding step
all_arrive = refl

pub arrival : (t : ℕ) → t ≤ 19 → IsArrival outer rounds t (13 * t)
arrival t h =
    let e = passes_test arrives_test outer rounds 247 (13 * t) all_arrive (omega arith) in
    let a : (13 * t % 13 == 0) ≡ true = (let b : 13 * t % 13 ≡ 0 = omega arith in rw b refl) in
    let c : goes_at (λ pc. pc == 0x1_0000) (run rounds (13 * t)).next ≡ true = (rw a at e) in
    let d : 13 * t / 13 ≡ t = omega arith in
    record { at = goes_is _ _ c; turn = turn_at (13 * t) (omega arith) ∙ d }

high : (r : ℕ) → 34 ≤ r → nest_roles r ≡ Keeps
high r h =
    let a : (r == 5) ≡ false = grind (arith, nat_tests) in let b : (r == 32) ≡ false = grind (arith, nat_tests) in
    let c : (r == 6) ≡ false = grind (arith, nat_tests) in let d : (r == 7) ≡ false = grind (arith, nat_tests) in
    let e : (r == 10) ≡ false = grind (arith, nat_tests) in
    rw (a, b, c, d, e) refl

no_cell : (k : ℕ) → 2 ≤ k → cell_at two_cells.cells k ≡ None
no_cell zero h = absurd (omega arith)
no_cell (suc zero) h = absurd (omega arith)
no_cell (suc (suc k)) h = refl

same_value : (x : State) (r : ℕ) → 34 ≤ r → value_of two_cells rounds.regs x r ≡ value_of two_cells rounds.regs rounds r
same_value x r h =
    let a : nat_lt r 32 ≡ false = grind (arith, nat_tests) in
    let b = no_cell (r - 32) (omega arith) in
    rw (a, b) refl

tested : IsTested outer two_cells 34 nest_roles rounds 19 247
tested = record { tested = all_tested; last = last_turn; high = high; same = same_value }

-- each store is one of the counter
abbrev stores_counter : Ask → Bool
stores_counter Nothing = true
stores_counter (Loads a w) = true
stores_counter (Stores a w x) = (a == 0x2_0000) && (bytes_of w == 8)

abbrev store_test : ℕ → Visit → Bool
store_test n v = stores_counter (access v.state)

all_stores : all_visits store_test outer 247 0 (visit outer rounds 0) ≡ true
unfolding step
all_stores = refl

counted_byte : (a : Ask) (b : ℕ) → stores_counter a ≡ true → stores_byte a b ≡ true → covers 0x2_0000 8 b ≡ true
counted_byte Nothing b e h = absurd (cc)
counted_byte (Loads a w) b e h = absurd (cc)
counted_byte (Stores a w x) b e h =
    let q = and_true (a == 0x2_0000) (bytes_of w == 8) e in
    let c = eq_from a 0x2_0000 q.0 in let d = eq_from (bytes_of w) 8 q.1 in
    sym (ap (λ y. covers y (bytes_of w) b) c ∙ ap (λ y. covers 0x2_0000 y b) d) ∙ h

no_writes : (i b : ℕ) → i < 19 → Writes outer rounds i b → IsOutside two_cells rounds b → ⊥
no_writes i b h w o =
    let t = w.turn in
    let e = passes_test store_test outer rounds 247 w.at all_stores (early_visit w.at (omega arith)) in
    let c = counted_byte (access (run rounds w.at)) b e w.stores in
    let d : covers 0x2_0000 8 b ≡ false = o 0 counter refl in
    cc

pub independent : Independent outer two_cells nest_roles rounds 19
independent =
    record {
      turns = turns_from_test outer two_cells 34 nest_roles rounds 19 247 tested (λ t h. (13 * t, arrival t h));
      cells = cells_from_test outer two_cells rounds 19 247 all_cells early_visit;
      apart = record { reads = λ i j b hi hj n w o r. no_writes i b hi w o; writes = λ i j b hi hj n w o v. no_writes i b hi w o };
      locations = roles_from_test outer two_cells 34 nest_roles rounds 19 247 tested;
    }
