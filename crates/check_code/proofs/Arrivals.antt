-- What the locations hold while the words of a check run: their entry values, and behind the cells the last turn and the
-- last passes that the trips tell.
use Rattle.std.proofs.Common.{◌≡◌, ℕ, zero, suc, ◌-◌, ◌^◌, ◌<◌, ◌≤◌, refl, sym, ap, ◌∙◌, arith, ℤ, pos, ◌+ℤ◌, ◌*ℤ◌, Option, Some, None, Bool, true, false, cond, List, [], ◌∷◌, length}
use Rattle.std.specs.Prelude.{◌&&◌, nat_lt, nat_le, is_some, if◌then◌else◌, slice_index, slice_index_or, slice_get}
use Rattle.std.specs.List.{All, list_all}
use Rattle.std.proofs.lemmas.Bool.Decides.{nat_tests}
use Rattle.std.proofs.lemmas.Int.{ints}
use Rattle.rv64_decode.specs.Area.{Area, number_at}
use Rattle.rv64_decode.specs.Range.{AreWords, AreBytes}
use Rattle.rv64_decode.specs.Registers.{register}
use Rattle.rv64_decode.specs.Row.{extended32}
use Rattle.rv64_decode.proofs.Sound.{number_4, register_below}
use Rattle.linear_forms.specs.Forms.{EntryTerm, LinearForm, weight, word_of}
use Rattle.loop_data.specs.declared.trips.Trip.{Trip}
use Rattle.loop_data.specs.declared.verdict.Cell.{Cell}
use Rattle.loop_data.specs.Locations.{cell_at, held, address, content}
use Rattle.loop_data.specs.Trips.{number_of_stays}
use Rattle.alias_checks.specs.declared.lists.Check.{Check}
use Rattle.alias_checks.specs.declared.lists.Turns.{Turns}
use Rattle.alias_checks.specs.Entry.{entry, entry_value, start_value}
use Rattle.alias_checks.specs.TurnTests.{up_to, few_stays, root_turns, passes_of, root_by, passes_by, turns_with, turns_of, last_of}
use Rattle.check_code.specs.Rounds.{last_from}
use Rattle.check_code.specs.TurnLaws.{as_integers}

abbrev pub one_less : Option ℕ → ℕ
one_less (Some n) = n - 1
one_less None = 0

abbrev pub last_values : List Trip → (ℕ → ℤ) → List ℕ
last_values trips z = one_less (root_by (slice_get trips 0) z) ∷ one_less (passes_by (slice_get trips 1) z) ∷ one_less
    (passes_by (slice_get trips 2) z) ∷ one_less (passes_by (slice_get trips 3) z) ∷ []

-- from these entry values on
abbrev pub values_by : (ℕ → ℕ) → List ℕ → ℕ → ℕ
values_by entries last loc = if nat_lt loc 48 then entries loc else slice_index last (loc - 55)

abbrev pub values_of : Check → List ℕ → List Area → ℕ → ℕ
values_of c regs m = values_by (entry_value c.cells.list.items regs m) (last_values c.trips (entry c.cells.list.items regs m))

-- numbers of turns are small
up_few : (most : ℕ) (o : Option ℕ) (n : ℕ) → up_to most o ≡ Some n → n ≤ most
up_few most None n e = absurd (cc)
up_few most (Some k) n e = by_test (nat_le k most) refl e
  where
    by_test : (t : Bool) → nat_le k most ≡ t → cond t (Some k) None ≡ Some n → n ≤ most
    by_test true h e = let s : k ≡ n = cc in let l : k ≤ most = grind (arith, nat_tests) in omega (arith, s, l)
    by_test false h e = absurd (cc)

few : (t : Trip) (z : ℕ → ℤ) (n : ℕ) → few_stays t z ≡ Some n → n ≤ 2 ^ 31
unfolding few_stays
few t z n e = up_few (2 ^ 31) (number_of_stays t z) n e

root_less : (o : Option ℕ) → ((n : ℕ) → o ≡ Some n → n ≤ 2 ^ 31) → one_less (root_turns o) < 2 ^ 31
root_less None h = omega arith
root_less (Some p) h = let l = h p refl in by_test (nat_le 16 p) l
  where
    by_test : (t : Bool) → p ≤ 2 ^ 31 → one_less (cond t (Some p) None) < 2 ^ 31
    by_test true l = omega (arith, l)
    by_test false l = omega arith

root_small : (o : Option Trip) (z : ℕ → ℤ) → one_less (root_by o z) < 2 ^ 31
root_small None z = omega arith
root_small (Some t) z = root_less (few_stays t z) (few t z)

passes_less : (o : Option ℕ) → one_less (passes_of o) < 2 ^ 31
passes_less None = omega arith
passes_less (Some n) = by_test (nat_lt n (2 ^ 31)) refl
  where
    by_test : (t : Bool) → nat_lt n (2 ^ 31) ≡ t → one_less (cond t (Some (suc n)) None) < 2 ^ 31
    by_test true h = grind (arith, nat_tests)
    by_test false h = omega arith

passes_small : (o : Option Trip) (z : ℕ → ℤ) → one_less (passes_by o z) < 2 ^ 31
passes_small None z = omega arith
passes_small (Some t) z = passes_less (few_stays t z)

past_four : (a b c d k n : ℕ) → a < 2 ^ 31 → b < 2 ^ 31 → c < 2 ^ 31 → d < 2 ^ 31 → n < 2 ^ 31 → slice_index_or (a ∷ b ∷ c ∷ d ∷ []) k n <
    2 ^ 31
past_four a b c d zero n h i j l r = h
past_four a b c d (suc zero) n h i j l r = i
past_four a b c d (suc (suc zero)) n h i j l r = j
past_four a b c d (suc (suc (suc zero))) n h i j l r = l
past_four a b c d (suc (suc (suc (suc k)))) n h i j l r = r

pub last_small : (trips : List Trip) (z : ℕ → ℤ) (k n : ℕ) → n < 2 ^ 31 → slice_index_or (last_values trips z) k n < 2 ^ 31
last_small trips z k n r =
    past_four _ _ _ _ k n (root_small (slice_get trips 0) z) (passes_small (slice_get trips 1) z) (passes_small (slice_get trips 2) z)
    (passes_small (slice_get trips 3) z) r

pub last_below : (trips : List Trip) (z : ℕ → ℤ) → All (λ n. n < 2 ^ 31) (last_values trips z)
last_below trips z k d h = in_four k h
  where
    in_four : (k : ℕ) → k < 4 → slice_index_or (last_values trips z) k d < 2 ^ 31
    in_four zero h = root_small (slice_get trips 0) z
    in_four (suc zero) h = passes_small (slice_get trips 1) z
    in_four (suc (suc zero)) h = passes_small (slice_get trips 2) z
    in_four (suc (suc (suc zero))) h = passes_small (slice_get trips 3) z
    in_four (suc (suc (suc (suc k)))) h = absurd (omega (arith, h))

-- entry values are words
number_8 : (m : List Area) (x : ℕ) → AreBytes m → number_at 8 m x < 2 ^ 64
number_8 m x k = let a = number_4 m x k in let b = number_4 m (suc (suc (suc (suc x)))) k in omega arith

extended_below : (n : ℕ) → n < 2 ^ 32 → extended32 n < 2 ^ 64
extended_below n h = omega (arith, ints)

content_below : (wide : Bool) (m : List Area) (x : ℕ) → AreBytes m → content wide m x < 2 ^ 64
content_below true m x k = number_8 m x k
content_below false m x k = extended_below (number_at 4 m x) (number_4 m x k)

held_below : (regs : List ℕ) (o : Option Cell) (m : List Area) → AreBytes m → held regs o m < 2 ^ 64
held_below regs None m k = omega arith
held_below regs (Some c) m k = content_below c.wide m (address regs c) k

entry_below : (cells : List Cell) (regs : List ℕ) (m : List Area) (loc : ℕ) → AreWords regs → AreBytes m → entry_value cells regs m loc <
    2 ^ 64
entry_below cells regs m loc a b = by_test (nat_lt loc 32)
  where
    by_test : (t : Bool) → cond t (register regs loc) (held regs (cell_at cells (loc - 32)) m) < 2 ^ 64
    by_test true = register_below regs loc a
    by_test false = held_below regs (cell_at cells (loc - 32)) m b

pub values_below : (c : Check) (regs : List ℕ) (m : List Area) (loc : ℕ) → AreWords regs → AreBytes m → values_of c regs m loc < 2 ^ 64
values_below c regs m loc a b = by_test (nat_lt loc 48)
  where
    by_test : (t : Bool) → cond t (entry_value c.cells.list.items regs m loc)
        (slice_index (last_values c.trips (entry c.cells.list.items regs m)) (loc - 55)) < 2 ^ 64
    by_test true = entry_below c.cells.list.items regs m loc a b
    by_test false = let s = last_small c.trips (entry c.cells.list.items regs m) (loc - 55) 0 (omega arith) in omega (arith, s)

pub last_is : (c : Check) (regs : List ℕ) (m : List Area) → last_from (values_of c regs m) ≡ last_values c.trips
    (entry c.cells.list.items regs m)
last_is c regs m = refl

-- below 48 they are the entry values
pub values_are : (c : Check) (regs : List ℕ) (m : List Area) (loc : ℕ) → loc < 48 → as_integers (values_of c regs m) loc ≡ entry
    c.cells.list.items regs m loc
unfolding entry
values_are c regs m loc h =
    let t : nat_lt loc 48 ≡ true = grind (arith, nat_tests) in
    ap (λ b. pos (cond b (entry_value c.cells.list.items regs m loc)
    (slice_index (last_values c.trips (λ r. pos (entry_value c.cells.list.items regs m r))) (loc - 55)))) t

-- a form's value at turn numbers 0 is told by these
abbrev pub AreLocated : List EntryTerm → Type 0
AreLocated [] = Unit {0}
AreLocated (t ∷ ts) = (t.loc < 48) × AreLocated ts

same_weight : (y z : ℕ → ℤ) (ts : List EntryTerm) → ((loc : ℕ) → loc < 48 → y loc ≡ z loc) → AreLocated ts → weight y ts ≡ weight z ts
same_weight y z [] h k = refl
same_weight y z (t ∷ ts) h k = ap (λ v. t.by *ℤ v +ℤ weight y ts) (h t.loc k.0) ∙ ap (λ v. t.by *ℤ z t.loc +ℤ v) (same_weight y z ts h k.1)

pub same_start : (y z : ℕ → ℤ) (f : LinearForm) → ((loc : ℕ) → loc < 48 → y loc ≡ z loc) → AreLocated f.terms → start_value f y ≡
    start_value f z
unfolding start_value
same_start y z f h k =
    ap (λ v. word_of (f.constant +ℤ v +ℤ (f.first *ℤ pos 0 +ℤ (f.second *ℤ pos 0 +ℤ f.third *ℤ pos 0)))) (same_weight y z f.terms h k)

-- the turns that trips tell
abbrev pub are_told : Option Turns → Bool
are_told (Some t) = true
are_told None = false

told_with : (p i j k : Option ℕ) → are_told (turns_with p i j k) ≡ (is_some p && (is_some i && (is_some j && is_some k)))
told_with None i j k = refl
told_with (Some p) None j k = refl
told_with (Some p) (Some i) None k = refl
told_with (Some p) (Some i) (Some j) None = refl
told_with (Some p) (Some i) (Some j) (Some k) = refl

-- the root's turns, and the passes of the inner loops
abbrev pub trips_tell : List Trip → (ℕ → ℤ) → Bool
trips_tell [] z = false
trips_tell (t ∷ ts) z = is_some (root_by (Some t) z) && list_all (λ (u : Trip). is_some (passes_by (Some u) z)) ts

pub told_is : (trips : List Trip) (z : ℕ → ℤ) → length trips ≤ 4 → are_told (turns_of trips z) ≡ trips_tell trips z
unfolding turns_of
told_is [] z h = told_with (root_by None z) (passes_by None z) (passes_by None z) (passes_by None z)
told_is (t ∷ []) z h = told_with (root_by (Some t) z) (Some 1) (Some 1) (Some 1)
told_is (t ∷ u ∷ []) z h = told_with (root_by (Some t) z) (passes_by (Some u) z) (Some 1) (Some 1)
told_is (t ∷ u ∷ v ∷ []) z h = told_with (root_by (Some t) z) (passes_by (Some u) z) (passes_by (Some v) z) (Some 1)
told_is (t ∷ u ∷ v ∷ x ∷ []) z h = told_with (root_by (Some t) z) (passes_by (Some u) z) (passes_by (Some v) z) (passes_by (Some x) z) ∙
    ap (λ b. is_some (root_by (Some t) z) && (is_some (passes_by (Some u) z) && (is_some (passes_by (Some v) z) && b)))
    (and_true (is_some (passes_by (Some x) z)))
  where
    and_true : (b : Bool) → b ≡ (b && true)
    and_true true = refl
    and_true false = refl
told_is (t ∷ u ∷ v ∷ x ∷ y ∷ ts) z h = absurd (omega arith)

last_with : (p i j k : Option ℕ) (t : Turns) → turns_with p i j k ≡ Some t → last_of t ≡ one_less p ∷ one_less i ∷ one_less j ∷ one_less k
    ∷ []
last_with None i j k t e = absurd (cc)
last_with (Some p) None j k t e = absurd (cc)
last_with (Some p) (Some i) None k t e = absurd (cc)
last_with (Some p) (Some i) (Some j) None t e = absurd (cc)
last_with (Some p) (Some i) (Some j) (Some k) t e = ap last_of (sym (some_turns _ t e))
  where
    some_turns : (a b : Turns) → Some a ≡ Some b → a ≡ b
    some_turns a b e = cc

pub last_told : (trips : List Trip) (z : ℕ → ℤ) (t : Turns) → turns_of trips z ≡ Some t → last_of t ≡ last_values trips z
unfolding turns_of
last_told trips z t e = last_with (root_by (slice_get trips 0) z) (passes_by (slice_get trips 1) z) (passes_by (slice_get trips 2) z)
    (passes_by (slice_get trips 3) z) t e
