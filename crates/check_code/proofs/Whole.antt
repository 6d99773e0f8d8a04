-- The words of a whole check: from the tests of its parts to what it answers.
use Rattle.std.proofs.Common.{◌≡◌, ℕ, zero, suc, ◌+◌, ◌-◌, ◌%◌, ◌^◌, ◌<◌, ◌≤◌, ◌⊎◌, inl, inr, refl, sym, subst, ap, ◌∙◌, ⊎_elim, arith, ℤ, pos, Option, Some, None, Ok, Bool, true, false, cond, List, [], ◌∷◌, length, map}
use Rattle.std.specs.Prelude.{◌==◌, ◌&&◌, ◌||◌, nat_lt, is_some, flat_map, slice_index, slice_get, slice_index_or}
use Rattle.std.specs.List.{All, list_all}
use Rattle.std.proofs.lemmas.Bool.{cases_lt}
use Rattle.std.proofs.lemmas.Bool.Decides.{nat_tests}
use Rattle.std.proofs.lemmas.Option.{slice_get_within}
use Rattle.rv64_decode.specs.Area.{Area, number_at, load_of, or_refusal, bytes_of}
use Rattle.rv64_decode.specs.Registers.{register}
use Rattle.rv64_decode.specs.Row.{plus_offset, signed64}
use Rattle.rv64_decode.specs.declared.memory.Width.TheVariants.{One}
use Rattle.rv64_decode.specs.declared.xinstr.XInstr.{XInstr}
use Rattle.dependence_tests.specs.Overlaps.{whole_range}
use Rattle.dependence_tests.specs.PairTests.{pair_test}
use Rattle.guest_memory.specs.Layout.{AreasLieFrom}
use Rattle.linear_forms.specs.Forms.{EntryTerm, LinearForm, pure}
use Rattle.loop_data.specs.declared.accesses.Access.{Access}
use Rattle.loop_data.specs.declared.equations.Duty.{Duty}
use Rattle.loop_data.specs.declared.trips.Trip.{Trip}
use Rattle.loop_data.specs.declared.verdict.Cell.{Cell}
use Rattle.loop_data.specs.Locations.{cell_at, held, address as cell_address, address_by, content, width_of}
use Rattle.loop_data.specs.Trips.{first_value, number, reading}
use Rattle.alias_checks.specs.declared.areas.Permission.{Permission}
use Rattle.alias_checks.specs.declared.lists.Check.{Check}
use Rattle.alias_checks.specs.declared.lists.Place.{Place}
use Rattle.alias_checks.specs.Areas.{Bounds, Range, in_bounds, in_memory, AreBoundsOf}
use Rattle.alias_checks.specs.Entry.{entry, entry_value, start_value}
use Rattle.alias_checks.specs.CellTests.{HasRegister, cell_size, cell_fits}
use Rattle.alias_checks.specs.TurnTests.{few_stays, up_to, root_turns, passes_of, root_by, passes_by}
use Rattle.alias_checks.specs.AccessTests.{duty_fits, access_fits, place_of, keeps_off, all_keep_off, place_at, pair_passes, are_short, extent, last_at, access_permission, box_of}
use Rattle.alias_checks.specs.Listing.{Pair, IsPair}
use Rattle.alias_checks.proofs.Bounded.{bounds_are, all_readable}
use Rattle.stub_laws.specs.Locations.{slot_of}
use Rattle.stub_laws.proofs.Steps.{World}
use Rattle.stub_laws.proofs.Known.{Knows, Slot, also, same_number}
use Rattle.stub_laws.proofs.Tests.{State, IsTest, both, Known, Each, same_test}
use Rattle.stub_laws.proofs.Logs.{less_known}
use Rattle.check_code.specs.Laws.{HasOffset, AreLow}
use Rattle.check_code.specs.Rounds.{last_from, is_inner, AreKnown, AreRoundsKnown}
use Rattle.check_code.specs.TurnCode.{root_code, inner_code}
use Rattle.check_code.specs.TurnLaws.{as_integers, root_holds, inner_holds, IsTripKnown}
use Rattle.check_code.specs.DutyCode.{duty_code}
use Rattle.check_code.specs.AccessCode.{access_code}
use Rattle.check_code.specs.MeetCode.{keep_off_code}
use Rattle.check_code.specs.PairCode.{pair_code}
use Rattle.check_code.specs.CheckCode.{inners_code, trips_code, all_keep_off_code, pair_of_code, pair_at_code}
use Rattle.check_code.specs.Checkable.{AreAmong, HasRoom}
use Rattle.check_code.proofs.Fitting.{FormFits, TripFits, DutyFits, AccessFits}
use Rattle.check_code.proofs.CellTests.{SiteOk, no_test}
use Rattle.check_code.proofs.Joined.{all_law, cells_known, AreCellsOk}
use Rattle.check_code.proofs.Arrivals.{one_less, last_values, values_of, AreLocated, same_start, trips_tell}
use Rattle.check_code.proofs.Values.{bits_word}
use Rattle.check_code.proofs.States.{address_word, AddressOk}
use Rattle.check_code.proofs.TripTruths.{root_law, inner_law}
use Rattle.check_code.proofs.DutyRuns.{duty_law}
use Rattle.check_code.proofs.AccessTests.{access_law}
use Rattle.check_code.proofs.MeetTests.{BaseOk, keep_off_law}
use Rattle.check_code.proofs.PairTests.{pair_law}

-- registers are known from the start
abbrev pub first_known : ℕ → Bool
first_known loc = nat_lt loc 32

-- after the inner loops whose slots are numbered from this one on
abbrev pub inners_known : (ℕ → Bool) → ℕ → List Trip → ℕ → Bool
inners_known known slot [] = known
inners_known known slot (t ∷ ts) = inners_known (also known (32 + slot)) (suc slot) ts

abbrev pub trips_known : (ℕ → Bool) → List Trip → ℕ → Bool
trips_known known [] = known
trips_known known (t ∷ ts) = inners_known (also known 55) 24 ts

-- what is known where a check has passed
abbrev pub all_known : Check → ℕ → Bool
all_known c = trips_known (cells_known first_known 0 c.cells.list.items) c.trips

or_first : (t u : Bool) → t ≡ true → (t || u) ≡ true
or_first true u h = refl
or_first false u h = absurd (cc)

or_second : (t u : Bool) → u ≡ true → (t || u) ≡ true
or_second true u h = refl
or_second false u h = h

equal_test : (a b : ℕ) → a ≡ b → (a == b) ≡ true
equal_test a b h = grind (arith, nat_tests)

-- known, or among so many locations from this one on
abbrev KnownOr : (ℕ → Bool) → ℕ → ℕ → ℕ → Type 0
KnownOr known from n loc = (known loc ≡ true) ⊎ ((from ≤ loc) × (loc < from + n))

also_or : (known : ℕ → Bool) (from next n loc : ℕ) → next ≡ suc from → KnownOr known from (suc n) loc → KnownOr (also known from) next n
    loc
also_or known from next n loc q (inl h) = inl (or_first (known loc) (loc == from) h)
also_or known from next n loc q (inr h) =
    ⊎_elim (λ lt. let u = h.1 in inr (omega (arith, lt, q), omega (arith, u, q)))
    (λ le. let l = h.0 in inl (or_second (known loc) (loc == from) (equal_test loc from (omega (arith, l, le))))) (cases_lt from loc)

pub cells_reach : (known : ℕ → Bool) (slot : ℕ) (cs : List Cell) (loc : ℕ) → KnownOr known (32 + slot) (length cs) loc → cells_known known
    slot cs loc ≡ true
cells_reach known slot [] loc (inl h) = h
cells_reach known slot [] loc (inr h) = let a = h.0 in let b = h.1 in absurd (omega (arith, a, b))
cells_reach known slot (c ∷ cs) loc h = cells_reach (also known (32 + slot)) (suc slot) cs loc
    (also_or known (32 + slot) (32 + suc slot) (length cs) loc (omega arith) h)

pub inners_reach : (known : ℕ → Bool) (slot : ℕ) (ts : List Trip) (loc : ℕ) → KnownOr known (32 + slot) (length ts) loc → inners_known
    known slot ts loc ≡ true
inners_reach known slot [] loc (inl h) = h
inners_reach known slot [] loc (inr h) = let a = h.0 in let b = h.1 in absurd (omega (arith, a, b))
inners_reach known slot (t ∷ ts) loc h = inners_reach (also known (32 + slot)) (suc slot) ts loc
    (also_or known (32 + slot) (32 + suc slot) (length ts) loc (omega arith) h)

also_bound : (known : ℕ → Bool) (new : ℕ) → ((loc : ℕ) → known loc ≡ true → loc < 64) → new < 64 → (loc : ℕ) → also known new loc ≡ true →
    loc < 64
also_bound known new h below loc = by_tests (known loc) (loc == new) refl refl
  where
    by_tests : (t u : Bool) → known loc ≡ t → (loc == new) ≡ u → (t || u) ≡ true → loc < 64
    by_tests true u a b c = h loc a
    by_tests false true a b c = let e = same_number loc new b in omega (arith, e, below)
    by_tests false false a b c = absurd (cc)

cells_bound : (known : ℕ → Bool) (slot : ℕ) (cs : List Cell) → ((loc : ℕ) → known loc ≡ true → loc < 64) → slot + length cs ≤ 32 →
    (loc : ℕ) → cells_known known slot cs loc ≡ true → loc < 64
cells_bound known slot [] h few loc k = h loc k
cells_bound known slot (c ∷ cs) h few loc k = cells_bound (also known (32 + slot)) (suc slot) cs
    (also_bound known (32 + slot) h (omega (arith, few))) (omega (arith, few)) loc k

inners_bound : (known : ℕ → Bool) (slot : ℕ) (ts : List Trip) → ((loc : ℕ) → known loc ≡ true → loc < 64) → slot + length ts ≤ 32 →
    (loc : ℕ) → inners_known known slot ts loc ≡ true → loc < 64
inners_bound known slot [] h few loc k = h loc k
inners_bound known slot (t ∷ ts) h few loc k = inners_bound (also known (32 + slot)) (suc slot) ts
    (also_bound known (32 + slot) h (omega (arith, few))) (omega (arith, few)) loc k

trips_bound : (known : ℕ → Bool) (ts : List Trip) → ((loc : ℕ) → known loc ≡ true → loc < 64) → length ts ≤ 4 → (loc : ℕ) → trips_known
    known ts loc ≡ true → loc < 64
trips_bound known [] h few loc k = h loc k
trips_bound known (t ∷ ts) h few loc k = inners_bound (also known 55) 24 ts (also_bound known 55 h (omega arith)) (omega (arith, few)) loc
    k

first_bound : (loc : ℕ) → first_known loc ≡ true → loc < 64
first_bound loc h = grind (arith, nat_tests)

pub known_bound : (c : Check) → HasRoom c → length c.cells.list.items ≤ 16 → (loc : ℕ) → all_known c loc ≡ true → loc < 64
known_bound c ok few loc k =
    trips_bound (cells_known first_known 0 c.cells.list.items) c.trips
    (cells_bound first_known 0 c.cells.list.items first_bound (omega (arith, few))) ok.few_trips loc k

pub first_test : (loc : ℕ) → loc < 32 → first_known loc ≡ true
first_test loc h = grind (arith, nat_tests)

-- registers and cells are known
pub cells_are_known : (cs : List Cell) (loc : ℕ) → loc < 32 + length cs → cells_known first_known 0 cs loc ≡ true
cells_are_known cs loc h = cells_reach first_known 0 cs loc
    (⊎_elim (λ lt. inl (first_test loc lt)) (λ le. inr (omega arith, omega (arith, h))) (cases_lt loc 32))

pub trips_still : (known : ℕ → Bool) (ts : List Trip) (loc : ℕ) → known loc ≡ true → trips_known known ts loc ≡ true
trips_still known [] loc h = h
trips_still known (t ∷ ts) loc h = inners_reach (also known 55) 24 ts loc (inl (or_first (known loc) (loc == 55) h))

pub root_known : (known : ℕ → Bool) (ts : List Trip) → 0 < length ts → trips_known known ts 55 ≡ true
root_known known [] h = absurd (omega (arith, h))
root_known known (t ∷ ts) h = inners_reach (also known 55) 24 ts 55 (inl (or_second (known 55) true refl))

pub pass_known : (known : ℕ → Bool) (ts : List Trip) (place : ℕ) → 0 < place → place < length ts → trips_known known ts (55 + place) ≡ true
pass_known known [] place some h = absurd (omega (arith, h))
pass_known known (t ∷ ts) place some h = inners_reach (also known 55) 24 ts (55 + place) (inr (omega (arith, some), omega (arith, h)))

inner_some : (place : ℕ) → is_inner place ≡ true → 0 < place
inner_some place h = grind (arith, nat_tests)

-- lists
pub each_of : {X : Type 0} (P : X → Type 0) (xs : List X) → All P xs → Each P xs
each_of P [] h = tt
each_of P (x ∷ xs) h = (h 0 x (omega arith), each_of P xs (λ k d l. h (suc k) d (omega (arith, l))))

pub each_both : {X : Type 0} (P Q : X → Type 0) (xs : List X) → Each P xs → Each Q xs → Each (λ x. P x × Q x) xs
each_both P Q [] p q = tt
each_both P Q (x ∷ xs) p q = ((p.0, q.0), each_both P Q xs p.1 q.1)

pub each_more : {X : Type 0} (P Q : X → Type 0) → ((x : X) → P x → Q x) → (xs : List X) → Each P xs → Each Q xs
each_more P Q f [] p = tt
each_more P Q f (x ∷ xs) p = (f x p.0, each_more P Q f xs p.1)

first_of : (t u : Bool) → (t && u) ≡ true → t ≡ true
first_of true u h = refl
first_of false u h = h

second_of : (t u : Bool) → (t && u) ≡ true → u ≡ true
second_of true u h = h
second_of false u h = absurd (cc)

-- each element passes a test of all
pub each_tested : {X : Type 0} (test : X → Bool) (xs : List X) → list_all test xs ≡ true → Each (λ x. test x ≡ true) xs
each_tested test [] h = tt
each_tested test (x ∷ xs) h = (first_of (test x) (list_all test xs) h, each_tested test xs (second_of (test x) (list_all test xs) h))

same_all : {X : Type 0} (s t : X → Bool) (P : X → Type 0) → ((x : X) → P x → s x ≡ t x) → (xs : List X) → Each P xs → list_all s xs ≡
    list_all t xs
same_all s t P one [] p = refl
same_all s t P one (x ∷ xs) p = ap (λ b. b && list_all s xs) (one x p.0) ∙ ap (λ b. t x && b) (same_all s t P one xs p.1)

all_mapped : {X Y : Type 0} (f : X → Y) (test : Y → Bool) (xs : List X) → list_all test (map f xs) ≡ list_all (λ x. test (f x)) xs
all_mapped f test [] = refl
all_mapped f test (x ∷ xs) = ap (λ b. test (f x) && b) (all_mapped f test xs)

known_each : (known : ℕ → Bool) (n : ℕ) (ts : List EntryTerm) → ((loc : ℕ) → loc < n → known loc ≡ true) → Each
    (λ (t : EntryTerm). t.loc < n) ts → AreKnown known ts
known_each known n [] h p = tt
known_each known n (t ∷ ts) h p = (h t.loc p.0, known_each known n ts h p.1)

located_each : (n : ℕ) (ts : List EntryTerm) → n ≤ 48 → Each (λ (t : EntryTerm). t.loc < n) ts → AreLocated ts
located_each n [] h p = tt
located_each n (t ∷ ts) h p = (let l = p.0 in omega (arith, l, h), located_each n ts h p.1)

-- cells
pub slot_is : (slot : ℕ) → slot < 16 → slot_of (32 + slot) ≡ Some slot
slot_is slot h = grind (arith, nat_tests)

slot_back : (slot loc : ℕ) → slot < 16 → slot_of loc ≡ Some slot → loc ≡ 32 + slot
slot_back slot loc h e = grind (arith, nat_tests)

cell_slot : (slot : ℕ) → slot < 16 → Slot (32 + slot) slot
cell_slot slot h = record { is = slot_is slot h; back = λ loc e. slot_back slot loc h e }

inner_is : (slot : ℕ) → 23 < slot → slot < 27 → slot_of (32 + slot) ≡ Some slot
inner_is slot a b = grind (arith, nat_tests)

inner_back : (slot loc : ℕ) → 23 < slot → slot < 27 → slot_of loc ≡ Some slot → loc ≡ 32 + slot
inner_back slot loc a b e = grind (arith, nat_tests)

inner_slot : (slot : ℕ) → 23 < slot → slot < 27 → Slot (32 + slot) slot
inner_slot slot a b = record { is = inner_is slot a b; back = λ loc e. inner_back slot loc a b e }

base_address : (known : ℕ → Bool) (e : ℕ → ℕ) (regs : List ℕ) (base : Option ℕ) (offset : ℤ) → BaseOk known e regs base offset → AddressOk
    known base offset
base_address known e regs None offset h = h
base_address known e regs (Some base) offset h = h.0

base_word : (known : ℕ → Bool) (e : ℕ → ℕ) (regs : List ℕ) (base : Option ℕ) (offset : ℤ) → BaseOk known e regs base offset → address_word
    e base offset ≡ address_by regs base offset
base_word known e regs None offset h = bits_word offset h
base_word known e regs (Some base) offset h = ap (λ x. plus_offset x offset) h.1

pub site_of : (known : ℕ → Bool) (e : ℕ → ℕ) (regs : List ℕ) (c : Cell) → BaseOk known e regs c.base c.offset → SiteOk known e regs c
site_of known e regs c h = record { address = base_address known e regs c.base c.offset h; is = base_word known e regs c.base c.offset h }

pub base_of : (known : ℕ → Bool) (e : ℕ → ℕ) (regs : List ℕ) (base : Option ℕ) (offset : ℤ) → ((r : ℕ) → r < 32 → known r ≡ true) →
    ((r : ℕ) → r < 32 → e r ≡ register regs r) → HasOffset base offset → BaseOk known e regs base offset
base_of known e regs None offset k v h = h
base_of known e regs (Some base) offset k v h = (k base h.0, v base h.0)

register_of : (base : Option ℕ) (offset : ℤ) → HasOffset base offset → HasRegister base
register_of None offset h = tt
register_of (Some base) offset h = h.0

pub cell_within : (cs : List Cell) (j : ℕ) (d : Cell) → cell_at cs j ≡ Some d → j < length cs
cell_within [] j d e = cc
cell_within (c ∷ cs) zero d e = omega arith
cell_within (c ∷ cs) (suc j) d e = let h = cell_within cs j d e in omega (arith, h)

-- the values of registers and cells
pub register_value : (c : Check) (regs : List ℕ) (m : List Area) (r : ℕ) → r < 32 → values_of c regs m r ≡ register regs r
register_value c regs m r h =
    let a : nat_lt r 48 ≡ true = grind (arith, nat_tests) in
    let b : nat_lt r 32 ≡ true = grind (arith, nat_tests) in
    ap (λ t. cond t (entry_value c.cells.list.items regs m r)
    (slice_index (last_values c.trips (entry c.cells.list.items regs m)) (r - 55))) a
    ∙ ap (λ t. cond t (register regs r) (held regs (cell_at c.cells.list.items (r - 32)) m)) b

pub slot_value : (c : Check) (regs : List ℕ) (m : List Area) (k : ℕ) → k < 16 → values_of c regs m (32 + k) ≡ held regs
    (cell_at c.cells.list.items k) m
slot_value c regs m k h =
    let a : nat_lt (32 + k) 48 ≡ true = grind (arith, nat_tests) in
    let b : nat_lt (32 + k) 32 ≡ false = grind (arith, nat_tests) in
    let d : 32 + k - 32 ≡ k = omega arith in
    ap (λ t. cond t (entry_value c.cells.list.items regs m (32 + k))
    (slice_index (last_values c.trips (entry c.cells.list.items regs m)) (32 + k - 55))) a
    ∙ ap (λ t. cond t (register regs (32 + k)) (held regs (cell_at c.cells.list.items (32 + k - 32)) m)) b
    ∙ ap (λ n. held regs (cell_at c.cells.list.items n) m) d

pub cell_value : (c : Check) (regs : List ℕ) (m : List Area) (k : ℕ) (d : Cell) → k < 16 → cell_at c.cells.list.items k ≡ Some d →
    values_of c regs m (32 + k) ≡ content d.wide m (cell_address regs d)
cell_value c regs m k d h e = slot_value c regs m k h ∙ ap (λ o. held regs o m) e

-- a cell that fits may be loaded
loaded_if : (regs : List ℕ) (areas : List Bounds) (m : List Area) (d : Cell) → AreasLieFrom 0 m → AreBoundsOf areas m → HasRegister d.base
    → cell_fits (in_bounds areas) regs d ≡ true
    → load_of m (cell_address regs d) (width_of d) ≡ Ok (number_at (cell_size d) m (cell_address regs d))
loaded_if regs areas m d lie bounds reg fits =
    let t : list_all (cell_fits (in_memory m) regs) (d ∷ []) ≡ true = rw
    (ap (λ inside. cell_fits inside regs d) (sym (bounds_are areas m bounds)) ∙ fits) refl in
    let r = all_readable m regs (d ∷ []) lie t (one reg) 0 d (omega arith) in
    ap (λ y. or_refusal y (number_at (cell_size d) m (cell_address regs d))) r.readable
  where
    one : HasRegister d.base → All (λ (c : Cell). HasRegister c.base) (d ∷ [])
    one h zero x l = h
    one h (suc k) x l = absurd (omega (arith, l))

pub cells_ok : (w : World) (e : ℕ → ℕ) (regs : List ℕ) (areas : List Bounds) (known : ℕ → Bool) (slot : ℕ) (cs : List Cell) → AreasLieFrom
    0 w.memory → AreBoundsOf areas w.memory → length areas < 2 ^ 16 → AreLow areas
    → slot + length cs ≤ 16 → ((r : ℕ) → r < 32 → known r ≡ true) → ((r : ℕ) → r < 32 → e r ≡ register regs r)
    → ((j : ℕ) (d : Cell) → cell_at cs j ≡ Some d → e (32 + (slot + j)) ≡ content d.wide w.memory (cell_address regs d))
    → Each (λ (d : Cell). HasOffset d.base d.offset) cs → AreCellsOk w known e regs areas slot cs
cells_ok w e regs areas known slot [] lie bounds few low room k v values offsets = tt
cells_ok w e regs areas known slot (c ∷ cs) lie bounds few low room k v values offsets =
    let here : slot + 0 ≡ slot = omega arith in (
      record {
        site = site_of known e regs c (base_of known e regs c.base c.offset k v offsets.0);
        few = few;
        low = low;
        is_slot = cell_slot slot (omega (arith, room));
        answered = loaded_if regs areas w.memory c lie bounds (register_of c.base c.offset offsets.0);
        value = subst (λ n. e (32 + n) ≡ content c.wide w.memory (cell_address regs c)) here (values 0 c refl);
      },
      cells_ok w e regs areas (also known (32 + slot)) (suc slot) cs lie bounds few low (omega (arith, room))
          (λ r l. or_first (known r) (r == (32 + slot)) (k r l)) v (later values) offsets.1,
    )
  where
    later : ((j : ℕ) (d : Cell) → cell_at (c ∷ cs) j ≡ Some d → e (32 + (slot + j)) ≡ content d.wide w.memory (cell_address regs d)) →
        (j : ℕ) (d : Cell) → cell_at cs j ≡ Some d → e (32 + (suc slot + j)) ≡ content d.wide w.memory (cell_address regs d)
    later h j d q = let n : slot + suc j ≡ suc slot + j = omega arith in subst
        (λ n. e (32 + n) ≡ content d.wide w.memory (cell_address regs d)) n (h (suc j) d q)

pub below_if : (regs : List ℕ) (areas : List Bounds) (c : Cell) → cell_fits (in_bounds areas) regs c ≡ true → cell_address regs c < 2 ^ 31
unfolding cell_fits
below_if regs areas c h = let t : nat_lt (cell_address regs c) (2 ^ 31) ≡ true = first_of (nat_lt (cell_address regs c) (2 ^ 31)) _
    (second_of (cell_address regs c % cell_size c == 0) _ h) in grind (arith, nat_tests)

-- turns and passes by other entry values
same_stays : (y z : ℕ → ℤ) (t : Trip) → ((loc : ℕ) → loc < 48 → y loc ≡ z loc) → AreLocated t.start.terms → AreLocated t.bound.terms →
    few_stays t y ≡ few_stays t z
unfolding few_stays start_value
same_stays y z t h a b =
    ap (λ v. up_to (2 ^ 31) (number t.relation t.signed (reading t.signed v) t.step (first_value t.signed t.bound y)))
    (same_start y z t.start h a)
    ∙ ap (λ v. up_to (2 ^ 31) (number t.relation t.signed (first_value t.signed t.start z) t.step (reading t.signed v)))
    (same_start y z t.bound h b)

weaker_test : (w : World) (z z' b c : State) (is : List XInstr) (t : Bool) → ((f g : ℕ → ℕ) → z f g → z' f g) → IsTest w z b c is t →
    IsTest w z' b c is t
weaker_test w z z' b c is t h k = record { by = λ p f g x has on off. k.by p f g x has on (λ y f' g' v. off y f' g' (h f' g' v)) }

inners_still : (known : ℕ → Bool) (e f g : ℕ → ℕ) (slot : ℕ) (ts : List Trip) → Knows (inners_known known slot ts) e f g → Knows known e f
    g
inners_still known e f g slot [] k = k
inners_still known e f g slot (t ∷ ts) k = less_known known e f g (32 + slot) (inners_still (also known (32 + slot)) e f g (suc slot) ts k)

pub trips_weaker : (known : ℕ → Bool) (e f g : ℕ → ℕ) (ts : List Trip) → Knows (trips_known known ts) e f g → Knows known e f g
trips_weaker known e f g [] k = k
trips_weaker known e f g (t ∷ ts) k = less_known known e f g 55 (inners_still (also known 55) e f g 24 ts k)

form_known : (known : ℕ → Bool) (n : ℕ) (f : LinearForm) → ((loc : ℕ) → loc < 32 + n → known loc ≡ true) → FormFits n f → AreKnown known
    f.terms
form_known known n f k h = known_each known (32 + n) f.terms k (each_of _ f.terms h.located)

form_located : (n : ℕ) (f : LinearForm) → n ≤ 16 → FormFits n f → AreLocated f.terms
form_located n f few h = located_each (32 + n) f.terms (omega (arith, few)) (each_of _ f.terms h.located)

trip_known : (known : ℕ → Bool) (n : ℕ) (t : Trip) → ((loc : ℕ) → loc < 32 + n → known loc ≡ true) → TripFits n t → IsTripKnown known t
trip_known known n t k h = record { start = form_known known n t.start k h.start; bound = form_known known n t.bound k h.bound }

rounds_known : (known : ℕ → Bool) (n levels : ℕ) (f : LinearForm) (around : List ℕ) → ((loc : ℕ) → loc < 32 + n → known loc ≡ true) →
    known 55 ≡ true → ((place : ℕ) → 0 < place → place < levels → known (55 + place) ≡ true)
    → FormFits n f → AreAmong levels around → AreRoundsKnown known f around
rounds_known known n levels f around k root passes h a = record {
  terms = form_known known n f k h;
  root = root;
  second = λ i. passes (slice_index around 1) (inner_some (slice_index around 1) i) a.second;
  third = λ i. passes (slice_index around 2) (inner_some (slice_index around 2) i) a.third;
}

-- the tests of the trips
module _ (w : World) (e : ℕ → ℕ) (z : ℕ → ℤ) (same : (loc : ℕ) → loc < 48 → as_integers e loc ≡ z loc) (n : ℕ) (few : n ≤ 16) where
  stays_same : (t : Trip) → TripFits n t → few_stays t (as_integers e) ≡ few_stays t z
  stays_same t h = same_stays (as_integers e) z t same (form_located n t.start few h.start) (form_located n t.bound few h.bound)

  inners_law : (known : ℕ → Bool) (slot : ℕ) (ts : List Trip) → ((loc : ℕ) → loc < 32 + n → known loc ≡ true) → 23 < slot → slot + length
      ts ≤ 27 → Each (TripFits n) ts
      → ((j : ℕ) (t : Trip) (k : ℕ) → slice_get ts j ≡ Some t → passes_by (Some t) z ≡ Some k → e (32 + (slot + j)) ≡ k - 1)
      → IsTest w (Known known e) (Known known e) (Known (inners_known known slot ts) e) (inners_code slot ts)
      (list_all (λ (t : Trip). is_some (passes_by (Some t) z)) ts)
  inners_law known slot [] k above room over values = no_test w (Known known e) (Known known e)
  inners_law known slot (t ∷ ts) k above room over values =
      let next = also known (32 + slot) in
      let end = Known (inners_known next (suc slot) ts) e in
      let here : slot + 0 ≡ slot = omega arith in
      let q = stays_same t over.0 in
      both w (Known known e) (Known known e) (Known next e) end (inner_code slot t) (inners_code (suc slot) ts)
      (is_some (passes_by (Some t) z)) (list_all (λ (t : Trip). is_some (passes_by (Some t) z)) ts)
      (same_test w (Known known e) (Known known e) (Known next e) (inner_code slot t) (inner_holds t e) (is_some (passes_by (Some t) z))
      (ap (λ o. is_some (passes_of o)) q)
      (inner_law w known e (32 + slot) slot t (inner_slot slot above (omega (arith, room))) over.0.trip (trip_known known n t k over.0)
      (λ m r. subst (λ x. e (32 + x) ≡ m - 1) here (values 0 t m refl (ap passes_of (sym q) ∙ r)))))
      (λ h. weaker_test w (Known next e) (Known known e) (Known next e) end (inners_code (suc slot) ts)
      (list_all (λ (t : Trip). is_some (passes_by (Some t) z)) ts) (λ f g x. less_known known e f g (32 + slot) x)
      (inners_law next (suc slot) ts (λ loc l. or_first (known loc) (loc == (32 + slot)) (k loc l)) (omega (arith, above))
      (omega (arith, room)) over.1 (later values)))
    where
      later : ((j : ℕ) (u : Trip) (k : ℕ) → slice_get (t ∷ ts) j ≡ Some u → passes_by (Some u) z ≡ Some k → e (32 + (slot + j)) ≡ k - 1) →
          (j : ℕ) (u : Trip) (k : ℕ) → slice_get ts j ≡ Some u → passes_by (Some u) z ≡ Some k → e (32 + (suc slot + j)) ≡ k - 1
      later h j u k a b = let p : slot + suc j ≡ suc slot + j = omega arith in subst (λ x. e (32 + x) ≡ k - 1) p (h (suc j) u k a b)

  pub trips_law : (known : ℕ → Bool) (ts : List Trip) → 0 < length ts → length ts ≤ 4 → ((loc : ℕ) → loc < 32 + n → known loc ≡ true) →
      Each (TripFits n) ts → last_from e ≡ last_values ts z
      → IsTest w (Known known e) (Known known e) (Known (trips_known known ts) e) (trips_code ts) (trips_tell ts z)
  trips_law known [] some few4 k over last = absurd (omega (arith, some))
  trips_law known (t ∷ ts) some few4 k over last =
      let next = also known 55 in
      let end = Known (inners_known next 24 ts) e in
      let q = stays_same t over.0 in
      both w (Known known e) (Known known e) (Known next e) end (root_code t) (inners_code 24 ts) (is_some (root_by (Some t) z))
      (list_all (λ (u : Trip). is_some (passes_by (Some u) z)) ts)
      (same_test w (Known known e) (Known known e) (Known next e) (root_code t) (root_holds t e) (is_some (root_by (Some t) z))
      (ap (λ o. is_some (root_turns o)) q)
      (root_law w known e t over.0.trip (trip_known known n t k over.0)
      (λ p r. ap (λ l. slice_index l 0) last ∙ ap one_less (ap root_turns (sym q) ∙ r))))
      (λ h. weaker_test w (Known next e) (Known known e) (Known next e) end (inners_code 24 ts)
      (list_all (λ (u : Trip). is_some (passes_by (Some u) z)) ts) (λ f g x. less_known known e f g 55 x)
      (inners_law next 24 ts (λ loc l. or_first (known loc) (loc == 55) (k loc l)) (omega arith) (omega (arith, few4)) over.1
      (values ts few4 last)))
    where
      values : (us : List Trip) → length (t ∷ us) ≤ 4 → last_from e ≡ last_values (t ∷ us) z → (j : ℕ) (u : Trip) (k : ℕ) → slice_get us j
          ≡ Some u → passes_by (Some u) z ≡ Some k → e (32 + (24 + j)) ≡ k - 1
      values us f l zero u k a b = ap (λ x. slice_index x 1) l ∙ ap (λ o. one_less (passes_by o z)) a ∙ ap one_less b
      values us f l (suc zero) u k a b = ap (λ x. slice_index x 2) l ∙ ap (λ o. one_less (passes_by o z)) a ∙ ap one_less b
      values us f l (suc (suc zero)) u k a b = ap (λ x. slice_index x 3) l ∙ ap (λ o. one_less (passes_by o z)) a ∙ ap one_less b
      values us f l (suc (suc (suc j))) u k a b = let r = slice_get_within us (suc (suc (suc j))) u a in absurd (omega (arith, r, f))

-- duties and accesses by other entry values
same_duty : (y z : ℕ → ℤ) (last : List ℕ) (d : Duty) → start_value d.form y ≡ start_value d.form z → duty_fits y last d ≡ duty_fits z last
    d
unfolding duty_fits
same_duty y z last d h = ap (λ v. are_short (extent d.form (signed64 v) (last_at d.around last))) h

pub same_place : (y z : ℕ → ℤ) (last : List ℕ) (a : Access) → start_value a.form y ≡ start_value a.form z → place_of y last a ≡ place_of z
    last a
unfolding place_of
same_place y z last a h = ap (λ v. record { address = v; range = whole_range a (pos v) last; store = a.store }) h

same_access : (inside : Permission → Range → Bool) (y z : ℕ → ℤ) (last : List ℕ) (a : Access) → start_value a.form y ≡ start_value a.form
    z → access_fits inside y last a ≡ access_fits inside z last a
unfolding access_fits
same_access inside y z last a h =
    ap (λ (p : Place). nat_lt p.address (2 ^ 31) && ((p.address % bytes_of a.width == 0) && inside (access_permission a) p.range))
    (same_place y z last a h)

pub low_access : (inside : Permission → Range → Bool) (z : ℕ → ℤ) (last : List ℕ) (a : Access) → access_fits inside z last a ≡ true →
    start_value a.form z < 2 ^ 31
unfolding access_fits place_of
low_access inside z last a h = let t : nat_lt (start_value a.form z) (2 ^ 31) ≡ true = first_of (nat_lt (start_value a.form z) (2 ^ 31)) _
    h in grind (arith, nat_tests)

pub pair_taken : (accesses : List Access) (i : ℕ) (d : Access) → i < length accesses → slice_get accesses i ≡ Some
    (slice_index_or accesses i d)
pair_taken [] i d h = absurd (omega (arith, h))
pair_taken (a ∷ as') zero d h = refl
pair_taken (a ∷ as') (suc i) d h = pair_taken as' i d (omega (arith, h))

place_taken : (f : Access → Place) (accesses : List Access) (i : ℕ) (d : Access) → i < length accesses → place_at (map f accesses) i ≡ f
    (slice_index_or accesses i d)
place_taken f [] i d h = absurd (omega (arith, h))
place_taken f (a ∷ as') zero d h = refl
place_taken f (a ∷ as') (suc i) d h = place_taken f as' i d (omega (arith, h))

each_at : {X : Type 0} (P : X → Type 0) (xs : List X) (i : ℕ) (d : X) → i < length xs → Each P xs → P (slice_index_or xs i d)
each_at P [] i d h p = absurd (omega (arith, h))
each_at P (x ∷ xs) zero d h p = p.0
each_at P (x ∷ xs) (suc i) d h p = each_at P xs i d (omega (arith, h)) p.1

-- an access, whose address at turn numbers 0 is low
pub record LowAccess (n levels : ℕ) (z : ℕ → ℤ) (a : Access) : Type 0 where
  pub over : AccessFits n levels a
  pub below : start_value a.form z < 2 ^ 31

-- a cell, whose address is low
pub record LowCell (known : ℕ → Bool) (e : ℕ → ℕ) (regs : List ℕ) (c : Cell) : Type 0 where
  pub base : BaseOk known e regs c.base c.offset
  pub below : cell_address regs c < 2 ^ 31

-- the tests behind the trips
module _ (w : World) (known : ℕ → Bool) (e : ℕ → ℕ) (z : ℕ → ℤ) (same : (loc : ℕ) → loc < 48 → as_integers e loc ≡ z loc) (last : List ℕ)
    (lasts : last_from e ≡ last) (low : All (λ x. x < 2 ^ 31) (last_from e)) (n levels : ℕ) (few : n ≤ 16)
    (k : (loc : ℕ) → loc < 32 + n → known loc ≡ true) (root : known 55 ≡ true)
    (passes : (place : ℕ) → 0 < place → place < levels → known (55 + place) ≡ true) where
  start_same : (f : LinearForm) → FormFits n f → start_value f (as_integers e) ≡ start_value f z
  start_same f h = same_start (as_integers e) z f same (form_located n f few h)

  rounds : (f : LinearForm) (around : List ℕ) → FormFits n f → AreAmong levels around → AreRoundsKnown known f around
  rounds f around h a = rounds_known known n levels f around k root passes h a

  one_duty : (d : Duty) → DutyFits n levels d → IsTest w (Known known e) (Known known e) (Known known e) (duty_code d) (duty_fits z last d)
  one_duty d h =
      same_test w (Known known e) (Known known e) (Known known e) (duty_code d) (duty_fits (as_integers e) (last_from e) d)
      (duty_fits z last d)
      (ap (λ l. duty_fits (as_integers e) l d) lasts ∙ same_duty (as_integers e) z last d (start_same d.form h.form))
      (duty_law w known e d h.form.form (rounds d.form d.around h.form h.around) low)

  pub duties_law : (ds : List Duty) → Each (DutyFits n levels) ds → IsTest w (Known known e) (Known known e) (Known known e)
      (flat_map duty_code ds) (list_all (duty_fits z last) ds)
  duties_law ds ok = all_law w (Known known e) (Known known e) duty_code (duty_fits z last) (DutyFits n levels) one_duty ds ok

  one_access : (areas : List Bounds) → length areas < 2 ^ 16 → AreLow areas → (a : Access) → AccessFits n levels a → IsTest w
      (Known known e) (Known known e) (Known known e) (access_code areas a) (access_fits (in_bounds areas) z last a)
  one_access areas few_areas low_areas a h =
      same_test w (Known known e) (Known known e) (Known known e) (access_code areas a)
      (access_fits (in_bounds areas) (as_integers e) (last_from e) a) (access_fits (in_bounds areas) z last a)
      (ap (λ l. access_fits (in_bounds areas) (as_integers e) l a) lasts ∙ same_access (in_bounds areas) (as_integers e) z last a
      (start_same a.form h.form))
      (access_law w known e areas a h.form.form (rounds a.form a.around h.form h.around) few_areas low_areas low)

  pub accesses_law : (areas : List Bounds) → length areas < 2 ^ 16 → AreLow areas → (xs : List Access) → Each (AccessFits n levels) xs →
      IsTest w (Known known e) (Known known e) (Known known e) (flat_map (access_code areas) xs)
      (list_all (access_fits (in_bounds areas) z last) xs)
  accesses_law areas few_areas low_areas xs ok = all_law w (Known known e) (Known known e) (access_code areas)
      (access_fits (in_bounds areas) z last) (AccessFits n levels) (one_access areas few_areas low_areas) xs ok

  begins : (a : Access) → LowAccess n levels z a → start_value a.form (as_integers e) < 2 ^ 31
  begins a h = subst (λ v. v < 2 ^ 31) (sym (start_same a.form h.over.form)) h.below

  one_meeting : (regs : List ℕ) (c : Cell) → LowCell known e regs c → (a : Access) → LowAccess n levels z a → IsTest w (Known known e)
      (Known known e) (Known known e) (keep_off_code c a) (keeps_off regs c (place_of z last a))
  one_meeting regs c h a o =
      same_test w (Known known e) (Known known e) (Known known e) (keep_off_code c a)
      (keeps_off regs c (place_of (as_integers e) (last_from e) a)) (keeps_off regs c (place_of z last a))
      (ap (λ l. keeps_off regs c (place_of (as_integers e) l a)) lasts ∙ ap (keeps_off regs c)
      (same_place (as_integers e) z last a (start_same a.form o.over.form)))
      (keep_off_law w known e regs c a h.base o.over.form.form (rounds a.form a.around o.over.form o.over.around) low h.below (begins a o))

  one_row : (regs : List ℕ) (xs : List Access) → Each (LowAccess n levels z) xs → (c : Cell) → LowCell known e regs c → IsTest w
      (Known known e) (Known known e) (Known known e) (flat_map (keep_off_code c) xs)
      (list_all (keeps_off regs c) (map (place_of z last) xs))
  one_row regs xs ok c h =
      same_test w (Known known e) (Known known e) (Known known e) (flat_map (keep_off_code c) xs) _ _
      (sym (all_mapped (place_of z last) (keeps_off regs c) xs))
      (all_law w (Known known e) (Known known e) (keep_off_code c) (λ a. keeps_off regs c (place_of z last a)) (LowAccess n levels z)
      (one_meeting regs c h) xs ok)

  pub meetings_law : (regs : List ℕ) (cs : List Cell) (xs : List Access) → Each (LowCell known e regs) cs → Each (LowAccess n levels z) xs
      → IsTest w (Known known e) (Known known e) (Known known e) (all_keep_off_code cs xs)
      (all_keep_off regs cs (map (place_of z last) xs))
  meetings_law regs cs xs cells ok = all_law w (Known known e) (Known known e) (λ (c : Cell). flat_map (keep_off_code c) xs)
      (λ (c : Cell). list_all (keeps_off regs c) (map (place_of z last) xs)) (LowCell known e regs) (one_row regs xs ok) cs cells

  one_pair : (xs : List Access) → Each (LowAccess n levels z) xs → (t : Pair) → IsPair xs t → IsTest w (Known known e) (Known known e)
      (Known known e) (pair_at_code xs t) (pair_passes (map (place_of z last) xs) last t)
  unfolding pair_passes
  one_pair xs ok t h =
      let a = slice_index_or xs t.0 first in
      let b = slice_index_or xs t.1 first in
      let oa = each_at (LowAccess n levels z) xs t.0 first h.first ok in
      let ob = each_at (LowAccess n levels z) xs t.1 first h.second ok in
      let codes : pair_at_code xs t ≡ pair_code a b t.2 = ap (λ o. pair_of_code o (slice_get xs t.1) t.2)
      (pair_taken xs t.0 first h.first) ∙ ap (λ o. pair_of_code (Some a) o t.2) (pair_taken xs t.1 first h.second) in
      subst (λ is. IsTest w (Known known e) (Known known e) (Known known e) is
      (pair_test t.2 (box_of last (place_at (map (place_of z last) xs) t.0) (place_at (map (place_of z last) xs) t.1)))) (sym codes)
      (same_test w (Known known e) (Known known e) (Known known e) (pair_code a b t.2)
      (pair_test t.2 (box_of (last_from e) (place_of (as_integers e) (last_from e) a) (place_of (as_integers e) (last_from e) b))) _
      (ap (λ l. pair_test t.2 (box_of l (place_of (as_integers e) l a) (place_of (as_integers e) l b))) lasts
      ∙ ap (λ p. pair_test t.2 (box_of last p (place_of (as_integers e) last b)))
      (same_place (as_integers e) z last a (start_same a.form oa.over.form) ∙ sym (place_taken (place_of z last) xs t.0 first h.first))
      ∙ ap (λ p. pair_test t.2 (box_of last (place_at (map (place_of z last) xs) t.0) p))
      (same_place (as_integers e) z last b (start_same b.form ob.over.form) ∙ sym
      (place_taken (place_of z last) xs t.1 first h.second)))
      (pair_law w known e a b t.2 oa.over.form.form ob.over.form.form (rounds a.form a.around oa.over.form oa.over.around)
      (rounds b.form b.around ob.over.form ob.over.around) (h.term first) h.sized low (begins a oa) (begins b ob)))
    where
      first : Access
      first = record { at = 0; level = 0; around = []; form = pure (pos 0); width = One; store = false }

  pub pairs_law : (xs : List Access) → Each (LowAccess n levels z) xs → (ts : List Pair) → Each (IsPair xs) ts → IsTest w (Known known e)
      (Known known e) (Known known e) (flat_map (pair_at_code xs) ts) (list_all (pair_passes (map (place_of z last) xs) last) ts)
  pairs_law xs ok ts pairs = all_law w (Known known e) (Known known e) (pair_at_code xs) (pair_passes (map (place_of z last) xs) last)
      (IsPair xs) (one_pair xs ok) ts pairs
