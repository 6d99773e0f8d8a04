-- The loop that adds arrays: each of its visits, tested.
use Rattle.std.proofs.Common.{◌≡◌, ℕ, zero, suc, ◌+◌, ◌*◌, ◌/◌, ◌%◌, ◌<◌, ◌≤◌, ◌⊎◌, inl, inr, List, get_or, Bool, true, false, ◌&&◌, refl, ap, sym, ◌∙◌, subst, arith, ◌==◌, nat_lt, nat_le}
use Rattle.std.proofs.lemmas.Bool.Decides.{nat_tests}
use native.Mathlib.Decide.{dec_le}
use Rattle.rv64_decode.specs.Ask.{Ask, Nothing, Loads, Stores}
use Rattle.rv64_decode.specs.declared.memory.Width.TheVariants.{Eight}
use Rattle.rv64_decode.specs.declared.outcome.Next.TheVariants.{At}
use Rattle.loop_data.specs.Nests.{has}
use Rattle.loop_data.specs.Runs.{step, run, walk, pc_in, goes_at, access}
use Rattle.rv64_decode.specs.Area.{Area, number_at}
use Rattle.loop_data.specs.Turns.{IsSameArea, AtLoop, turn, IsArrival, covers, loads_byte, stores_byte, Reads, Writes, Stays}
use Rattle.loop_data.specs.Locations.{no_cells}
use Rattle.loop_data.specs.Independent.{Keeps, AreApart, Independent}
use Rattle.loop_samples.specs.AddLoop.{add_loop, areas, arrays, add_roles}
use Rattle.loop_samples.specs.Refused.{other_areas}
use Rattle.loop_samples.proofs.Visits.{Visit, visit, all_visits, and_true, passes_test, turns_from}
use Rattle.loop_samples.proofs.Tests.{same_access, same_loads, same_stores, goes_is, eq_from, turn_test, IsTested, turns_from_test, roles_from_test, no_cells_kept, no_cells_same}

-- the access of each word in turn t
abbrev expected : ℕ → ℕ → Ask
expected zero t = Loads (0x2_0000 + 8 * t) Eight
expected (suc zero) t = Loads (0x2_00A0 + 8 * t) Eight
expected (suc (suc zero)) t = Nothing
expected (suc (suc (suc zero))) t = Stores (0x2_0140 + 8 * t) Eight 0
expected (suc (suc (suc (suc i)))) t = Nothing

abbrev regular : ℕ → Visit → Bool
regular n v =
    (v.turn == n / 8) && (goes_at (λ pc. pc == 0x1_00F0 + 4 * (n % 8)) v.state.next && same_access (access v.state) (expected (n % 8) (n / 8)))

all_regular : all_visits regular add_loop 159 0 (visit add_loop arrays 0) ≡ true
unfolding step
all_regular = refl

all_tested : all_visits (turn_test add_loop no_cells 32 add_roles arrays 19) add_loop 152 0 (visit add_loop arrays 0) ≡ true
unfolding step
all_tested = refl

pub record IsRegular (n : ℕ) : Type 0 where
  pub turn : turn add_loop arrays n ≡ n / 8
  pub next : (run arrays n).next ≡ At (0x1_00F0 + 4 * (n % 8))
  pub access : same_access (access (run arrays n)) (expected (n % 8) (n / 8)) ≡ true

pub regular_at : (n : ℕ) → n < 160 → IsRegular n
regular_at n h =
    let e = passes_test regular add_loop arrays 159 n all_regular (omega arith) in
    let p = and_true (turn add_loop arrays n == n / 8) (goes_at (λ pc. pc == 0x1_00F0 + 4 * (n % 8)) (run arrays n).next && same_access (access (run arrays n)) (expected (n % 8) (n / 8))) e in
    let q = and_true _ _ p.1 in
    record { turn = eq_from _ _ p.0; next = goes_is _ _ q.0; access = q.1 }

last_turn : turn add_loop arrays 152 ≡ 19
last_turn = (regular_at 152 (omega arith)).turn

early : (n : ℕ) → turn add_loop arrays n < 19 → n < 152
early n h = go (dec_le 152 n)
  where
    go : Dec (152 ≤ n) → n < 152
    go (yes a) = let b = turns_from add_loop arrays 152 n a in let c = last_turn in absurd (omega arith)
    go (no a) = omega arith

pub arrival : (t : ℕ) → t ≤ 19 → IsArrival add_loop arrays t (8 * t)
arrival t h =
    let r = regular_at (8 * t) (omega arith) in
    let e : 0x1_00F0 + 4 * (8 * t % 8) ≡ 0x1_00F0 = omega arith in
    let f : 8 * t / 8 ≡ t = omega arith in
    record { at = r.next ∙ ap At e; turn = r.turn ∙ f }

-- the accesses of a visit, by the place of its word
loads_at : (n b : ℕ) → n < 160 → loads_byte (access (run arrays n)) b ≡ loads_byte (expected (n % 8) (n / 8)) b
loads_at n b h = same_loads (access (run arrays n)) (expected (n % 8) (n / 8)) (regular_at n h).access b

stores_at : (n b : ℕ) → n < 160 → stores_byte (access (run arrays n)) b ≡ stores_byte (expected (n % 8) (n / 8)) b
stores_at n b h = same_stores (access (run arrays n)) (expected (n % 8) (n / 8)) (regular_at n h).access b

expected_loads : (i t b : ℕ) → loads_byte (expected i t) b ≡ true → (covers (0x2_0000 + 8 * t) 8 b ≡ true) ⊎ (covers (0x2_00A0 + 8 * t) 8 b ≡ true)
expected_loads zero t b e = inl e
expected_loads (suc zero) t b e = inr e
expected_loads (suc (suc zero)) t b e = absurd (cc)
expected_loads (suc (suc (suc zero))) t b e = absurd (cc)
expected_loads (suc (suc (suc (suc i)))) t b e = absurd (cc)

expected_stores : (i t b : ℕ) → stores_byte (expected i t) b ≡ true → covers (0x2_0140 + 8 * t) 8 b ≡ true
expected_stores zero t b e = absurd (cc)
expected_stores (suc zero) t b e = absurd (cc)
expected_stores (suc (suc zero)) t b e = absurd (cc)
expected_stores (suc (suc (suc zero))) t b e = e
expected_stores (suc (suc (suc (suc i)))) t b e = absurd (cc)

pub reads_are : (t b : ℕ) → t < 19 → Reads add_loop arrays t b → (covers (0x2_0000 + 8 * t) 8 b ≡ true) ⊎ (covers (0x2_00A0 + 8 * t) 8 b ≡ true)
reads_are t b h r =
    let tn = r.turn in
    let l = early r.at (omega arith) in
    let g = regular_at r.at (omega arith) in
    let e : r.at / 8 ≡ t = sym g.turn ∙ r.turn in
    subst (λ x. (covers (0x2_0000 + 8 * x) 8 b ≡ true) ⊎ (covers (0x2_00A0 + 8 * x) 8 b ≡ true)) e
    (expected_loads (r.at % 8) (r.at / 8) b (sym (loads_at r.at b (omega arith)) ∙ r.loads))

pub writes_are : (t b : ℕ) → t < 19 → Writes add_loop arrays t b → covers (0x2_0140 + 8 * t) 8 b ≡ true
writes_are t b h r =
    let tn = r.turn in
    let l = early r.at (omega arith) in
    let g = regular_at r.at (omega arith) in
    let e : r.at / 8 ≡ t = sym g.turn ∙ r.turn in
    subst (λ x. covers (0x2_0140 + 8 * x) 8 b ≡ true) e
    (expected_stores (r.at % 8) (r.at / 8) b (sym (stores_at r.at b (omega arith)) ∙ r.stores))

-- word i of turn t
place : (t i : ℕ) → i < 8 → ((8 * t + i) % 8 ≡ i) × ((8 * t + i) / 8 ≡ t)
place t i h = (omega arith, omega arith)

turn_of : (t i : ℕ) → t < 20 → i < 8 → turn add_loop arrays (8 * t + i) ≡ t
turn_of t i h k = (regular_at (8 * t + i) (omega arith)).turn ∙ (place t i k).1

loads_of : (t i b : ℕ) → t < 20 → i < 8 → loads_byte (access (run arrays (8 * t + i))) b ≡ loads_byte (expected i t) b
loads_of t i b h k =
    let p = place t i k in
    loads_at (8 * t + i) b (omega arith) ∙ ap (λ x. loads_byte (expected x ((8 * t + i) / 8)) b) p.0 ∙ ap (λ x. loads_byte (expected i x) b) p.1

stores_of : (t i b : ℕ) → t < 20 → i < 8 → stores_byte (access (run arrays (8 * t + i))) b ≡ stores_byte (expected i t) b
stores_of t i b h k =
    let p = place t i k in
    stores_at (8 * t + i) b (omega arith) ∙ ap (λ x. stores_byte (expected x ((8 * t + i) / 8)) b) p.0 ∙ ap (λ x. stores_byte (expected i x) b) p.1

pub are_reads : (t b : ℕ) → t < 20 → (covers (0x2_0000 + 8 * t) 8 b ≡ true) ⊎ (covers (0x2_00A0 + 8 * t) 8 b ≡ true) → Reads add_loop arrays t b
are_reads t b h (inl e) = record { at = 8 * t + 0; turn = turn_of t 0 h (omega arith); loads = loads_of t 0 b h (omega arith) ∙ e }
are_reads t b h (inr e) = record { at = 8 * t + 1; turn = turn_of t 1 h (omega arith); loads = loads_of t 1 b h (omega arith) ∙ e }

pub are_writes : (t b : ℕ) → t < 20 → covers (0x2_0140 + 8 * t) 8 b ≡ true → Writes add_loop arrays t b
are_writes t b h e = record { at = 8 * t + 3; turn = turn_of t 3 h (omega arith); stores = stores_of t 3 b h (omega arith) ∙ e }

-- the bytes of two turns are apart
within : (a n b : ℕ) → covers a n b ≡ true → (a ≤ b) × (b < a + n)
within a n b e =
    let p = and_true (nat_le a b) (nat_lt b (a + n)) e in
    let c : nat_le a b ≡ true = p.0 in let d : nat_lt b (a + n) ≡ true = p.1 in
    (grind (arith, nat_tests), grind (arith, nat_tests))

pub apart : AreApart add_loop no_cells arrays 19
apart =
    record {
      reads = λ i j b hi hj n w o r. no_read i j b hi hj (writes_are i b hi w) (reads_are j b hj r);
      writes = λ i j b hi hj n w o v.
          let p = within _ _ b (writes_are i b hi w) in let q = within _ _ b (writes_are j b hj v) in
          let a = p.0 in let c = p.1 in let d = q.0 in let f = q.1 in n (omega arith);
    }
  where
    no_read : (i j b : ℕ) → i < 19 → j < 19 → covers (0x2_0140 + 8 * i) 8 b ≡ true → (covers (0x2_0000 + 8 * j) 8 b ≡ true) ⊎ (covers (0x2_00A0 + 8 * j) 8 b ≡ true) → ⊥
    no_read i j b hi hj w (inl r) =
        let p = within (0x2_0140 + 8 * i) 8 b w in let q = within (0x2_0000 + 8 * j) 8 b r in
        let a = p.0 in let c = q.1 in absurd (omega arith)
    no_read i j b hi hj w (inr r) =
        let p = within (0x2_0140 + 8 * i) 8 b w in let q = within (0x2_00A0 + 8 * j) 8 b r in
        let a = p.0 in let c = q.1 in absurd (omega arith)

high : (r : ℕ) → 32 ≤ r → add_roles r ≡ Keeps
high r h =
    let a : (r == 10) ≡ false = grind (arith, nat_tests) in let b : (r == 11) ≡ false = grind (arith, nat_tests) in
    let c : (r == 12) ≡ false = grind (arith, nat_tests) in let d : (r == 14) ≡ false = grind (arith, nat_tests) in
    let e : (r == 15) ≡ false = grind (arith, nat_tests) in
    rw (a, b, c, d, e) refl

tested : IsTested add_loop no_cells 32 add_roles arrays 19 152
tested = record { tested = all_tested; last = last_turn; high = high; same = no_cells_same arrays.regs arrays }

pub independent : Independent add_loop no_cells add_roles arrays 19
independent =
    record {
      turns = turns_from_test add_loop no_cells 32 add_roles arrays 19 152 tested (λ t h. (8 * t, arrival t h));
      cells = no_cells_kept add_loop arrays 19;
      apart = apart;
      locations = roles_from_test add_loop no_cells 32 add_roles arrays 19 152 tested;
    }

-- the branch of turn 19 leaves, and no other before it does
pub left : goes_at (has add_loop.body) (run arrays 160).next ≡ false
unfolding step
left = refl

stays_until : (n : ℕ) → n < 159 → goes_at (has add_loop.body) (run arrays (suc n)).next ≡ true
stays_until n h =
    let r = regular_at (suc n) (omega arith) in
    rw r.next (body_at (suc n % 8) (omega arith))
  where
    body_at : (i : ℕ) → i < 8 → has add_loop.body (0x1_00F0 + 4 * i) ≡ true
    body_at zero h = refl
    body_at (suc zero) h = refl
    body_at (suc (suc zero)) h = refl
    body_at (suc (suc (suc zero))) h = refl
    body_at (suc (suc (suc (suc zero)))) h = refl
    body_at (suc (suc (suc (suc (suc zero))))) h = refl
    body_at (suc (suc (suc (suc (suc (suc zero)))))) h = refl
    body_at (suc (suc (suc (suc (suc (suc (suc zero))))))) h = refl
    body_at (suc (suc (suc (suc (suc (suc (suc (suc i)))))))) h = absurd (omega arith)

pub stays : Stays add_loop arrays 19
stays =
    let r = regular_at 159 (omega arith) in
    record {
      at = 159;
      number = r.turn;
      leaves = record { exit = r.next; out = left };
      first = λ n h x. let e = stays_until n (let k = early n h in omega arith) in let f = x.out in absurd (cc);
    }

pub turns_are : (n : ℕ) → n < 160 → (turn add_loop arrays n ≡ n / 8) × (walk arrays n ≡ 0x1_00F0 + 4 * (n % 8))
turns_are n h = let r = regular_at n h in (r.turn, ap pc_in r.next)

same_area : (a : Area) → IsSameArea a a
same_area a = record { low = refl; length = refl; readable = refl; writable = refl; executable = refl; code = λ e. refl }

pub at_loop : AtLoop areas add_loop arrays
at_loop = record { at = refl; areas = (same_area _, (same_area _, tt)) }

-- two turns have stored sums, and the code is as it was
pub at_loop_again : AtLoop areas add_loop (run arrays 16)
unfolding step
at_loop_again =
    record {
      at = refl;
      areas = (
        record { low = refl; length = refl; readable = refl; writable = refl; executable = refl; code = λ e. refl },
        (record { low = refl; length = refl; readable = refl; writable = refl; executable = refl; code = λ e. absurd (cc e) }, tt),
      );
    }

pub stored_sum : number_at 8 (run arrays 16).memory 0x2_0148 ≡ 3
unfolding step
stored_sum = refl

pub not_there : AtLoop other_areas add_loop arrays → ⊥
not_there h =
    let e = ap (λ (bytes : List ℕ). get_or bytes 0 0) (h.areas.0.code refl) in
    let f : ◌≡◌ {A = ℕ} 3 131 = e in absurd (omega arith)

second_word : (run arrays 1).next ≡ At 0x1_00F4
unfolding step
second_word = refl

pub not_yet : AtLoop areas add_loop (run arrays 1) → ⊥
not_yet h = let e = ap pc_in (h.at) in let f = ap pc_in second_word in absurd (omega arith)
