-- The nest with two cells: each of its visits, tested.
use Rattle.std.proofs.Common.{◌≡◌, ℕ, zero, suc, ◌+◌, ◌-◌, ◌*◌, ◌/◌, ◌%◌, ◌<◌, ◌≤◌, Bool, true, false, ◌&&◌, Option, Some, None, refl, ap, sym, ◌∙◌, subst, arith, if◌then◌else◌, ◌==◌, nat_lt, pos, ℤ}
use Rattle.std.proofs.lemmas.Bool.Decides.{nat_tests}
use native.Mathlib.Decide.{dec_le}
use Rattle.rv64_decode.specs.Area.{bytes_of}
use Rattle.rv64_decode.specs.Ask.{Ask, Nothing, Loads, Stores}
use Rattle.linear_forms.specs.Forms.{Alike, LinearForm, exact, word_of}
use Rattle.linear_forms.proofs.Sums.{word_alike}
use Rattle.loop_data.specs.declared.shape.Level.{Level}
use Rattle.loop_data.specs.Nests.{has}
use Rattle.loop_data.specs.Runs.{State, step, run, walk, pc_in, goes_at, access}
use Rattle.loop_data.specs.Turns.{turn, IsArrival, covers, stores_byte, Writes}
use Rattle.loop_data.specs.Passes.{pass, pass_in, passes}
use Rattle.loop_data.specs.Locations.{value_of, cell_at}
use Rattle.loop_data.specs.Independent.{Keeps, IsOutside, Independent}
use Rattle.loop_data.specs.Holds.{entry_of, times, FormsHold}
use Rattle.loop_samples.specs.NestLoop.{outer, inner, nest, two_cells, counter, counting, nest_roles, inner_pass, NestPasses, NestPassed, nest_forms}
use Rattle.loop_samples.proofs.Visits.{Visit, visit, next_visit, all_visits, and_true, passes_test, turns_from}
use Rattle.loop_samples.proofs.Tests.{below, below_is, goes_is, eq_from, turn_test, IsTested, turns_from_test, roles_from_test, cells_test, cells_from_test}

-- a visit with the passes of the two loops
pub record Passing : Type 0 where
  pub visit : Visit
  pub out : ℕ
  pub deep : ℕ

abbrev next_pass : Level → ℕ → ℕ → ℕ → ℕ
next_pass l u w q = if w == l.header then (if has l.body u then suc q else 0) else q

abbrev passing : ℕ → Passing
passing n = record { visit = visit outer counting n; out = pass outer (walk counting) n; deep = pass inner (walk counting) n }

abbrev next_passing : Passing → Passing
next_passing v =
    let w = next_visit outer v.visit in
    let u = pc_in v.visit.state.next in
    let x = pc_in w.state.next in
    record { visit = w; out = next_pass outer u x v.out; deep = next_pass inner u x v.deep }

abbrev all_passings : (ℕ → Passing → Bool) → ℕ → ℕ → Passing → Bool
all_passings p zero m v = p m v
all_passings p (suc k) m v = p m v && all_passings p k (suc m) (next_passing v)

later : (p : ℕ → Passing → Bool) (k m n : ℕ) → all_passings p k m (passing m) ≡ true → m ≤ n → n ≤ m + k → p n (passing n) ≡ true
later p zero m n e h g = subst (λ x. p x (passing x) ≡ true) (omega arith) e
later p (suc k) m n e h g =
    let q = and_true (p m (passing m)) (all_passings p k (suc m) (passing (suc m))) e in
    go (dec_le (suc m) n) q.0 (λ h2. later p k (suc m) n q.1 h2 (omega arith))
  where
    go : Dec (suc m ≤ n) → p m (passing m) ≡ true → (suc m ≤ n → p n (passing n) ≡ true) → p n (passing n) ≡ true
    go (yes h2) a b = b h2
    go (no h2) a b = subst (λ x. p x (passing x) ≡ true) (omega arith) a

-- turn, word and passes at a visit
abbrev out_pass : ℕ → ℕ → ℕ
out_pass x q = if has outer.body x then q else 0

abbrev deep_pass : ℕ → ℕ → ℕ
deep_pass x q = if has inner.body x then q else 0

abbrev regular : ℕ → Passing → Bool
regular n v =
    (v.visit.turn == n / 13)
    && ((out_pass (pc_in v.visit.state.next) v.out == n / 13) && (deep_pass (pc_in v.visit.state.next) v.deep == inner_pass (n % 13)))

all_regular : all_passings regular 51 0 (passing 0) ≡ true
unfolding step
all_regular = refl

passes_0 : (n : ℕ) → passes nest (walk counting) n 0 ≡ out_pass (walk counting n) (pass outer (walk counting) n)
passes_0 n = go (has outer.body (walk counting n))
  where
    go : (b : Bool) → pass_in (if b then Some outer else None) (walk counting) n ≡ (if b then pass outer (walk counting) n else 0)
    go true = refl
    go false = refl

passes_1 : (n : ℕ) → passes nest (walk counting) n 1 ≡ deep_pass (walk counting n) (pass inner (walk counting) n)
passes_1 n = go (has inner.body (walk counting n))
  where
    go : (b : Bool) → pass_in (if b then Some inner else None) (walk counting) n ≡ (if b then pass inner (walk counting) n else 0)
    go true = refl
    go false = refl

pub record IsRegular (n : ℕ) : Type 0 where
  pub turn : turn outer counting n ≡ n / 13
  pub out : passes nest (walk counting) n 0 ≡ n / 13
  pub deep : passes nest (walk counting) n 1 ≡ inner_pass (n % 13)

regular_at : (n : ℕ) → n < 52 → IsRegular n
regular_at n h =
    let e = later regular 51 0 n all_regular (omega arith) (omega arith) in
    let p = and_true (turn outer counting n == n / 13) ((out_pass (walk counting n) (pass outer (walk counting) n) == n / 13) && (deep_pass (walk counting n) (pass inner (walk counting) n) == inner_pass (n % 13))) e in
    let q = and_true (out_pass (walk counting n) (pass outer (walk counting) n) == n / 13) (deep_pass (walk counting n) (pass inner (walk counting) n) == inner_pass (n % 13)) p.1 in
    record { turn = eq_from _ _ p.0; out = passes_0 n ∙ eq_from _ _ q.0; deep = passes_1 n ∙ eq_from _ _ q.1 }

pub passes_are : NestPasses
passes_are n h = let r = regular_at n h in (r.out, r.deep, refl)

pub passed_are : NestPassed
unfolding step
passed_are = record { deep = refl; out = refl }

-- forms: their values at each visit
abbrev three : ℕ → ℕ → ℕ → ℕ
three a b zero = a
three a b (suc zero) = b
three a b (suc (suc k)) = 0

abbrev form_fits : Option LinearForm → ℕ → (ℕ → ℕ) → Bool
form_fits None v t = true
form_fits (Some f) v t = v == word_of (exact f (entry_of two_cells counting) t)

abbrev forms_test : ℕ → Passing → Bool
forms_test n v =
    below 34 (λ r. form_fits (nest_forms (pc_in v.visit.state.next) r) (value_of two_cells counting.regs v.visit.state r) (three v.visit.turn (deep_pass (pc_in v.visit.state.next) v.deep)))

all_forms : all_passings forms_test 39 0 (passing 0) ≡ true
unfolding step
all_forms = refl

same_times : (f : LinearForm) (e : ℕ → ℤ) (t u : ℕ → ℕ) → t 0 ≡ u 0 → t 1 ≡ u 1 → t 2 ≡ u 2 → exact f e t ≡ exact f e u
same_times f e t u a b c = rw (a, b, c) refl

last_turn : turn outer counting 39 ≡ 3
last_turn = (regular_at 39 (omega arith)).turn

early_visit : (n : ℕ) → turn outer counting n < 3 → n ≤ 39
early_visit n h = go (dec_le n 39)
  where
    go : Dec (n ≤ 39) → n ≤ 39
    go (yes a) = a
    go (no a) = let b = turns_from outer counting 39 n (omega arith) in let c = last_turn in absurd (omega arith)

no_form : (u r : ℕ) → 34 ≤ r → nest_forms u r ≡ None
no_form u r h =
    let a : (r == 0) ≡ false = grind (arith, nat_tests) in let b : (r == 5) ≡ false = grind (arith, nat_tests) in
    let c : (r == 6) ≡ false = grind (arith, nat_tests) in let d : (r == 7) ≡ false = grind (arith, nat_tests) in
    let e : (r == 10) ≡ false = grind (arith, nat_tests) in let f : (r == 32) ≡ false = grind (arith, nat_tests) in
    let g : nat_lt r 34 ≡ false = grind (arith, nat_tests) in
    rw (a, b, c, d, e, f, g) refl

pub forms_hold : FormsHold nest two_cells nest_forms counting 3
forms_hold n h i r f e = go (dec_le 34 r)
  where
    go : Dec (34 ≤ r) → Alike (pos (value_of two_cells counting.regs (run counting n) r)) (exact f (entry_of two_cells counting) (times nest counting n))
    go (yes a) = absurd (let k = sym (no_form (walk counting n) r a) ∙ e in cc)
    go (no a) = right (early_visit n h) (omega arith)
      where
        right : n ≤ 39 → r < 34 → Alike (pos (value_of two_cells counting.regs (run counting n) r)) (exact f (entry_of two_cells counting) (times nest counting n))
        right b c =
            let t = three (turn outer counting n) (deep_pass (walk counting n) (pass inner (walk counting) n)) in
            let x = below_is 34 (λ q. form_fits (nest_forms (walk counting n) q) (value_of two_cells counting.regs (run counting n) q) t) r (later forms_test 39 0 n all_forms (omega arith) (omega arith)) c in
            let y = subst (λ o. form_fits o (value_of two_cells counting.regs (run counting n) r) t ≡ true) e x in
            let z = eq_from _ _ y in
            let w : exact f (entry_of two_cells counting) t ≡ exact f (entry_of two_cells counting) (times nest counting n) = same_times f (entry_of two_cells counting) t (times nest counting n) refl (sym (passes_1 n)) refl in
            subst (λ v. Alike (pos (value_of two_cells counting.regs (run counting n) r)) v) w
            (subst (λ m. Alike (pos m) (exact f (entry_of two_cells counting) t)) (sym z) (word_alike (exact f (entry_of two_cells counting) t)))

-- independence, with cells
all_tested : all_visits (turn_test outer two_cells 34 nest_roles counting 3) outer 39 0 (visit outer counting 0) ≡ true
unfolding step
all_tested = refl

all_cells : all_visits (cells_test two_cells counting) outer 39 0 (visit outer counting 0) ≡ true
unfolding step
all_cells = refl

abbrev arrives_test : ℕ → Visit → Bool
arrives_test n v = if n % 13 == 0 then goes_at (λ pc. pc == 0x1_0000) v.state.next else true

all_arrive : all_visits arrives_test outer 39 0 (visit outer counting 0) ≡ true
unfolding step
all_arrive = refl

arrival : (t : ℕ) → t ≤ 3 → IsArrival outer counting t (13 * t)
arrival t h =
    let e = passes_test arrives_test outer counting 39 (13 * t) all_arrive (omega arith) in
    let a : (13 * t % 13 == 0) ≡ true = (let b : 13 * t % 13 ≡ 0 = omega arith in rw b refl) in
    let c : goes_at (λ pc. pc == 0x1_0000) (run counting (13 * t)).next ≡ true = (rw a at e) in
    let d : 13 * t / 13 ≡ t = omega arith in
    record { at = goes_is _ _ c; turn = (regular_at (13 * t) (omega arith)).turn ∙ d }

high : (r : ℕ) → 34 ≤ r → nest_roles r ≡ Keeps
high r h =
    let a : (r == 5) ≡ false = grind (arith, nat_tests) in let b : (r == 32) ≡ false = grind (arith, nat_tests) in
    let c : (r == 6) ≡ false = grind (arith, nat_tests) in let d : (r == 7) ≡ false = grind (arith, nat_tests) in
    let e : (r == 10) ≡ false = grind (arith, nat_tests) in
    rw (a, b, c, d, e) refl

no_cell : (k : ℕ) → 2 ≤ k → cell_at two_cells.cells k ≡ None
no_cell zero h = absurd (omega arith)
no_cell (suc zero) h = absurd (omega arith)
no_cell (suc (suc k)) h = refl

same_value : (x : State) (r : ℕ) → 34 ≤ r → value_of two_cells counting.regs x r ≡ value_of two_cells counting.regs counting r
same_value x r h =
    let a : nat_lt r 32 ≡ false = grind (arith, nat_tests) in
    let b = no_cell (r - 32) (omega arith) in
    rw (a, b) refl

tested : IsTested outer two_cells 34 nest_roles counting 3 39
tested = record { tested = all_tested; last = last_turn; high = high; same = same_value }

-- each store is one of the counter
abbrev stores_counter : Ask → Bool
stores_counter Nothing = true
stores_counter (Loads a w) = true
stores_counter (Stores a w x) = (a == 0x2_0000) && (bytes_of w == 8)

abbrev store_test : ℕ → Visit → Bool
store_test n v = stores_counter (access v.state)

all_stores : all_visits store_test outer 39 0 (visit outer counting 0) ≡ true
unfolding step
all_stores = refl

counted_byte : (a : Ask) (b : ℕ) → stores_counter a ≡ true → stores_byte a b ≡ true → covers 0x2_0000 8 b ≡ true
counted_byte Nothing b e h = absurd (cc)
counted_byte (Loads a w) b e h = absurd (cc)
counted_byte (Stores a w x) b e h =
    let q = and_true (a == 0x2_0000) (bytes_of w == 8) e in
    let c = eq_from a 0x2_0000 q.0 in let d = eq_from (bytes_of w) 8 q.1 in
    sym (ap (λ y. covers y (bytes_of w) b) c ∙ ap (λ y. covers 0x2_0000 y b) d) ∙ h

no_writes : (i b : ℕ) → i < 3 → Writes outer counting i b → IsOutside two_cells counting b → ⊥
no_writes i b h w o =
    let t = w.turn in
    let e = passes_test store_test outer counting 39 w.at all_stores (early_visit w.at (omega arith)) in
    let c = counted_byte (access (run counting w.at)) b e w.stores in
    let d : covers 0x2_0000 8 b ≡ false = o 0 counter refl in
    cc

pub independent : Independent outer two_cells nest_roles counting 3
independent =
    record {
      turns = turns_from_test outer two_cells 34 nest_roles counting 3 39 tested (λ t h. (13 * t, arrival t h));
      cells = cells_from_test outer two_cells counting 3 39 all_cells early_visit;
      apart = record { reads = λ i j b hi hj n w o r. no_writes i b hi w o; writes = λ i j b hi hj n w o v. no_writes i b hi w o };
      locations = roles_from_test outer two_cells 34 nest_roles counting 3 39 tested;
    }
