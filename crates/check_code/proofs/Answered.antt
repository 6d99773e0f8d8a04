-- What a hart has at the end of a check's words.
use Rattle.std.proofs.Common.{◌≡◌, ℕ, zero, suc, ◌+◌, ◌-◌, ◌^◌, ◌<◌, ◌≤◌, refl, sym, subst, ap, ◌∙◌, arith, ℤ, Option, Some, None, Bool, true, false, cond, List, [], ◌∷◌, ◌++◌, length, map}
use Rattle.std.specs.Prelude.{◌&&◌, flat_map, slice_index}
use Rattle.std.specs.List.{list_all}
use Rattle.rv64_decode.specs.Area.{Area}
use Rattle.rv64_decode.specs.Hart.{Hart, address as place_address, run}
use Rattle.rv64_decode.specs.Registers.{register}
use Rattle.guest_memory.specs.Layout.{AreasLieFrom}
use Rattle.loop_data.specs.declared.verdict.Cell.{Cell}
use Rattle.loop_data.specs.Locations.{cell_at, held as content_of, content, address as cell_address}
use Rattle.alias_checks.specs.declared.areas.Permission.{Permission}
use Rattle.alias_checks.specs.declared.lists.Check.{Check}
use Rattle.alias_checks.specs.declared.lists.Turns.{Turns}
use Rattle.alias_checks.specs.Areas.{Bounds, Range, in_bounds, in_memory, AreBoundsOf}
use Rattle.alias_checks.specs.Entry.{entry}
use Rattle.alias_checks.specs.CellTests.{cell_fits, all_clear}
use Rattle.alias_checks.specs.TurnTests.{turns_of, last_of}
use Rattle.alias_checks.specs.AccessTests.{duty_fits, access_fits, place_of, all_keep_off, pair_passes}
use Rattle.alias_checks.specs.Listing.{IsPair}
use Rattle.alias_checks.specs.Answers.{cells_pass, all_pass, if_all_pass, answer_by, answer}
use Rattle.alias_checks.proofs.Bounded.{bounds_are}
use Rattle.stub_laws.specs.Code.{readings, somes}
use Rattle.stub_laws.specs.Harts.{Checked, Reached, Failed}
use Rattle.stub_laws.specs.Locations.{held, held_by, Keeps}
use Rattle.stub_laws.specs.Places.{WordsAt}
use Rattle.stub_laws.proofs.Steps.{World}
use Rattle.stub_laws.proofs.Tests.{Known, Each}
use Rattle.stub_laws.proofs.Logs.{at, IsLoading}
use Rattle.stub_laws.proofs.Ends.{checked, exactly_checked}
use Rattle.check_code.specs.Laws.{HasOffset, AreLow}
use Rattle.std.proofs.lemmas.Bool.Decides.{nat_tests}
use Rattle.check_code.specs.TurnLaws.{as_integers}
use Rattle.check_code.specs.DutyCode.{duty_code}
use Rattle.check_code.specs.AccessCode.{access_code}
use Rattle.check_code.specs.CheckCode.{cells_code, all_clear_code, trips_code, all_keep_off_code, pair_at_code, check_code}
use Rattle.check_code.specs.Checkable.{IsLowArea, HasRoom, IsCheckable, KeepsLimits}
use Rattle.check_code.proofs.Fitting.{TripFits, DutyFits, AccessFits, trips_fit, duties_fit, accesses_fit}
use Rattle.check_code.specs.CheckLaws.{IsArrival, Arrives, cell_loads, HasPassed, ComesBy, TellsTests, TellsCheck}
use Rattle.check_code.proofs.Joined.{cells_known, cells_law, cells_still, LowOk, all_clear_law, parts_law}
use Rattle.check_code.proofs.Arrivals.{last_values, values_of, values_are, last_below, values_below, are_told, trips_tell, told_is, last_told}
use Rattle.check_code.proofs.Whole.{first_known, all_known, known_bound, first_test, cells_are_known, trips_still, root_known, pass_known, each_of, each_both, each_more, each_tested, cells_ok, base_of, site_of, register_value, slot_value, cell_value, cell_within, below_if, low_access, slot_is, trips_law, trips_weaker, duties_law, accesses_law, LowAccess, LowCell, meetings_law, pairs_law}

-- the answer, test by test
told_if : (t : Bool) (o : Option Turns) → are_told (cond t o None) ≡ (t && are_told o)
told_if true o = refl
told_if false o = refl

told_all : (c : Check) (inside : Permission → Range → Bool) (regs : List ℕ) (z : ℕ → ℤ) (last : List ℕ) (o : Option Turns) →
    ((t : Turns) → o ≡ Some t → last_of t ≡ last) → are_told (if_all_pass c inside regs z o) ≡
    (are_told o && all_pass c inside regs z last)
told_all c inside regs z last None h = refl
told_all c inside regs z last (Some t) h = ap (λ l. are_told (cond (all_pass c inside regs z l) (Some t) None)) (h t refl) ∙ told_one
    (all_pass c inside regs z last)
  where
    told_one : (b : Bool) → are_told (cond b (Some t) None) ≡ b
    told_one true = refl
    told_one false = refl

regroup : (a b c : Bool) → ((a && b) && c) ≡ (a && (b && c))
regroup true b c = refl
regroup false b c = refl

answer_is : (c : Check) (regs : List ℕ) (m : List Area) → AreBoundsOf c.areas m → length c.trips ≤ 4
    → (let z = entry c.cells.list.items regs m in let last = last_values c.trips z in
    are_told (answer c regs m) ≡ (list_all (cell_fits (in_bounds c.areas) regs) c.cells.list.items &&
    (all_clear regs c.cells.list.items && (trips_tell c.trips z && all_pass c (in_bounds c.areas) regs z last))))
answer_is c regs m bounds few =
    let z = entry c.cells.list.items regs m in
    let last = last_values c.trips z in
    let inside = in_bounds c.areas in
    let b1 = list_all (cell_fits inside regs) c.cells.list.items in
    let b2 = all_clear regs c.cells.list.items in
    ap (λ (f : Permission → Range → Bool). are_told (answer_by c f regs z)) (sym (bounds_are c.areas m bounds))
    ∙ told_if (b1 && b2) (if_all_pass c inside regs z (turns_of c.trips z))
    ∙ ap (λ b. (b1 && b2) && b) (told_all c inside regs z last (turns_of c.trips z) (λ t e. last_told c.trips z t e) ∙ ap
    (λ b. b && all_pass c inside regs z last) (told_is c.trips z few))
    ∙ regroup b1 b2 (trips_tell c.trips z && all_pass c inside regs z last)

turns_if : (c : Check) (inside : Permission → Range → Bool) (regs : List ℕ) (z : ℕ → ℤ) (o : Option Turns) (t : Turns) → if_all_pass c
    inside regs z o ≡ Some t → o ≡ Some t
turns_if c inside regs z None t e = absurd (cc)
turns_if c inside regs z (Some u) t e = by_test (all_pass c inside regs z (last_of u)) e
  where
    by_test : (b : Bool) → cond b (Some u) None ≡ Some t → Some u ≡ Some t
    by_test true e = e
    by_test false e = absurd (cc)

turns_told : (c : Check) (regs : List ℕ) (m : List Area) (t : Turns) → answer c regs m ≡ Some t → turns_of c.trips
    (entry c.cells.list.items regs m) ≡ Some t
turns_told c regs m t e = by_test (cells_pass c (in_memory m) regs) e
  where
    by_test : (b : Bool) → cond b (if_all_pass c (in_memory m) regs (entry c.cells.list.items regs m)
        (turns_of c.trips (entry c.cells.list.items regs m))) None ≡ Some t → turns_of c.trips (entry c.cells.list.items regs m) ≡ Some t
    by_test true e = turns_if c (in_memory m) regs (entry c.cells.list.items regs m) (turns_of c.trips (entry c.cells.list.items regs m))
        t e
    by_test false e = absurd (cc)

areas_low : (bs : List Bounds) → Each IsLowArea bs → AreLow bs
areas_low [] h = tt
areas_low (b ∷ bs) h = (h.0.0, h.0.1, areas_low bs h.1)

-- the words of a check, as tests
module _ (c : Check) (regs : List ℕ) (m : List Area) (ok : HasRoom c) (own : IsCheckable c) (forms : KeepsLimits c)
    (arrival : IsArrival c regs m) where
  pub check_test : (w : World) → w.memory ≡ m → IsLoading w (Known first_known (values_of c regs m))
      (Known first_known (values_of c regs m)) (Known (all_known c) (values_of c regs m)) (check_code c) (are_told (answer c regs m))
      (cell_loads regs c.cells.list.items)
  check_test w mem =
      let cells = c.cells.list.items in
      let accesses = c.accesses.list.items in
      let n = length cells in
      let levels = length c.trips in
      let e = values_of c regs m in
      let z = entry cells regs m in
      let last = last_values c.trips z in
      let inside = in_bounds c.areas in
      let k1 = cells_known first_known 0 cells in
      let k2 = all_known c in
      let places = map (place_of z last) accesses in
      let few = forms.few_cells in
      let few_areas : length c.areas < 2 ^ 16 = let h = ok.few_areas in omega (arith, h) in
      let low_areas = areas_low c.areas (each_of IsLowArea c.areas ok.low_areas) in
      let same : (loc : ℕ) → loc < 48 → as_integers e loc ≡ z loc = λ loc h. values_are c regs m loc h in
      let trips = each_of (TripFits n) c.trips (trips_fit c own forms) in
      let over = each_of (AccessFits n levels) accesses (accesses_fit c own forms) in
      let offsets = each_of (λ (d : Cell). HasOffset d.base d.offset) cells ok.offsets in
      let known1 : (loc : ℕ) → loc < 32 + n → k1 loc ≡ true = λ loc h. cells_are_known cells loc h in
      let known2 : (loc : ℕ) → loc < 32 + n → k2 loc ≡ true = λ loc h. trips_still k1 c.trips loc (cells_are_known cells loc h) in
      let root = root_known k1 c.trips ok.some_trips in
      let passes : (place : ℕ) → 0 < place → place < levels → k2 (55 + place) ≡ true = λ place a b. pass_known k1 c.trips place a b in
      let below = last_below c.trips z in
      let values : (r : ℕ) → r < 32 → e r ≡ register regs r = λ r h. register_value c regs m r h in
      let lows : list_all (access_fits inside z last) accesses ≡ true → Each (LowAccess n levels z) accesses = λ h.
      each_more _ (LowAccess n levels z) (λ a p. record { over = p.0; below = low_access inside z last a p.1 }) accesses
      (each_both (AccessFits n levels) (λ a. access_fits inside z last a ≡ true) accesses over
      (each_tested (access_fits inside z last) accesses h)) in
      let bases : (known : ℕ → Bool) → ((r : ℕ) → r < 32 → known r ≡ true) → list_all (cell_fits inside regs) cells ≡ true → Each
      (LowCell known e regs) cells = λ known k h.
      each_more _ (LowCell known e regs) (λ d p. record
      { base = base_of known e regs d.base d.offset k values p.0; below = below_if regs c.areas d p.1 }) cells
      (each_both (λ (d : Cell). HasOffset d.base d.offset) (λ d. cell_fits inside regs d ≡ true) cells offsets
      (each_tested (cell_fits inside regs) cells h)) in
      subst (λ b. IsLoading w (Known first_known e) (Known first_known e) (Known k2 e) (check_code c) b (cell_loads regs cells))
      (sym (answer_is c regs m arrival.areas ok.few_trips))
      (parts_law w (Known first_known e) (Known k1 e) (Known k2 e) (λ f g x. cells_still first_known e f g 0 cells x)
      (λ f g x. cells_still first_known e f g 0 cells (trips_weaker k1 e f g c.trips x))
      (cells_code c.areas 0 cells) (all_clear_code cells) (trips_code c.trips) (flat_map duty_code c.duties)
      (flat_map (access_code c.areas) accesses) (all_keep_off_code cells accesses) (flat_map (pair_at_code accesses) c.pairs)
      (list_all (cell_fits inside regs) cells) (all_clear regs cells) (trips_tell c.trips z) (list_all (duty_fits z last) c.duties)
      (list_all (access_fits inside z last) accesses) (all_keep_off regs cells places) (list_all (pair_passes places last) c.pairs)
      (cell_loads regs cells)
      (cells_law w e regs c.areas first_known 0 cells
      (cells_ok w e regs c.areas first_known 0 cells (subst (AreasLieFrom 0) (sym mem) arrival.lie)
      (subst (AreBoundsOf c.areas) (sym mem) arrival.areas) few_areas low_areas (omega (arith, few)) first_test values
      (cell_values w mem few) offsets))
      (λ h1 l. all_clear_law (at w l) k1 e regs cells
      (each_more (LowCell k1 e regs) (LowOk k1 e regs) (λ d p. record { site = site_of k1 e regs d p.base; below = p.below }) cells
      (bases k1 (λ r h. known1 r (omega (arith, h))) h1)))
      (λ l. trips_law (at w l) e z same n few k1 c.trips ok.some_trips ok.few_trips known1 trips refl)
      (λ h3 l. duties_law (at w l) k2 e z same last refl below n levels few known2 root passes c.duties
      (each_of (DutyFits n levels) c.duties (duties_fit c own forms)))
      (λ h3 l. accesses_law (at w l) k2 e z same last refl below n levels few known2 root passes c.areas few_areas low_areas accesses over)
      (λ h1 h3 h5 l. meetings_law (at w l) k2 e z same last refl below n levels few known2 root passes regs cells accesses
      (bases k2 (λ r h. known2 r (omega (arith, h))) h1) (lows h5))
      (λ h3 h5 l. pairs_law (at w l) k2 e z same last refl below n levels few known2 root passes accesses (lows h5) c.pairs
      (each_of (IsPair accesses) c.pairs ok.pairs.each)))
    where
      cell_values : (w : World) → w.memory ≡ m → length c.cells.list.items ≤ 16 → (j : ℕ) (d : Cell) → cell_at c.cells.list.items j ≡ Some
          d → values_of c regs m (32 + (0 + j)) ≡ content d.wide w.memory (cell_address regs d)
      cell_values w mem few j d h =
          let l = cell_within c.cells.list.items j d h in
          let z : 0 + j ≡ j = omega arith in
          ap (λ k. values_of c regs m (32 + k)) z ∙ cell_value c regs m j d (omega (arith, l, few)) h ∙ ap
          (λ n. content d.wide n (cell_address regs d)) (sym mem)

  -- from a hart that arrives
  keeps : (p : ℕ) (h : Hart) → Arrives regs m p h → Keeps first_known (values_of c regs m) h
  keeps p h is = record {
    registers = is.registers;
    slots = is.slots;
    each = λ loc k. let l = first_below loc k in is.each loc l ∙ sym (register_value c regs m loc l);
    bound = λ loc k. let l = first_below loc k in omega (arith, l);
    small = λ loc. values_below c regs m loc arrival.registers arrival.bytes;
  }
    where
      first_below : (loc : ℕ) → first_known loc ≡ true → loc < 32
      first_below loc h = grind (arith, nat_tests)

  -- to one of which this is known
  kept : (known : ℕ → Bool) (q : ℕ) (now : Hart) → ((r : ℕ) → r < 32 → known r ≡ true) → now.pc ≡ place_address q → now.memory ≡ m → Keeps
      known (values_of c regs m) now → Arrives regs m q now
  kept known q now k at mem keep = record {
    at = at;
    memory = mem;
    registers = keep.registers;
    slots = keep.slots;
    each = λ r l. keep.each
        r (k r l) ∙ register_value c regs m r l;
  }

  words_checked : (words : List ℕ) → readings words ≡ somes (check_code c) → Checked m first_known (all_known c) (values_of c regs m)
      words (are_told (answer c regs m)) (cell_loads regs c.cells.list.items)
  words_checked words is = checked m first_known (all_known c) (values_of c regs m) words (check_code c) (are_told (answer c regs m))
      (cell_loads regs c.cells.list.items) is (known_bound c ok forms.few_cells) (λ w mem. check_test w mem)

  registers_known : (r : ℕ) → r < 32 → all_known c r ≡ true
  registers_known r h = trips_still (cells_known first_known 0 c.cells.list.items) c.trips r
      (cells_are_known c.cells.list.items r (omega (arith, h)))

  passed : (h now : Hart) (q : ℕ) (t : Turns) → h.memory ≡ m → answer c regs m ≡ Some t → Reached (all_known c) (values_of c regs m)
      h.memory (h.log ++ cell_loads regs c.cells.list.items) q now → HasPassed c regs m h q t now
  passed h now q t mem e is =
      let k1 = cells_known first_known 0 c.cells.list.items in
      let lasts = last_told c.trips (entry c.cells.list.items regs m) t (turns_told c regs m t e) in
      record {
        arrived = kept (all_known c) q now registers_known is.at (is.memory ∙ mem) is.keeps;
        log = is.log;
        turns = is.keeps.each 55 (root_known k1 c.trips ok.some_trips) ∙ ap (λ l. slice_index l 0) (sym lasts);
        passes = λ k l. pass_slot k l (is.keeps.each (55 + suc k) (pass_known k1 c.trips (suc k) (omega arith) l)) lasts;
        cells = λ k l. cell_slot k l (is.keeps.each (32 + k)
            (trips_still k1 c.trips (32 + k) (cells_are_known c.cells.list.items (32 + k) (omega (arith, l)))));
      }
    where
      pass_slot : (k : ℕ) → suc k < length c.trips → held now (55 + suc k) ≡ values_of c regs m (55 + suc k) → last_of t ≡ last_values
          c.trips (entry c.cells.list.items regs m) → slice_index now.slots (24 + k) ≡ slice_index t.inner k - 1
      pass_slot zero l is lasts = is ∙ ap (λ l. slice_index l 1) (sym lasts)
      pass_slot (suc zero) l is lasts = is ∙ ap (λ l. slice_index l 2) (sym lasts)
      pass_slot (suc (suc zero)) l is lasts = is ∙ ap (λ l. slice_index l 3) (sym lasts)
      pass_slot (suc (suc (suc k))) l is lasts = let f = ok.few_trips in absurd (omega (arith, l, f))

      cell_slot : (k : ℕ) → k < length c.cells.list.items → held now (32 + k) ≡ values_of c regs m (32 + k) → slice_index now.slots k ≡
          content_of regs (cell_at c.cells.list.items k) m
      cell_slot k l is =
          let f = forms.few_cells in
          let small : k < 16 = omega (arith, l, f) in
          sym (ap (held_by now (32 + k)) (slot_is k small)) ∙ is ∙ slot_value c regs m k small

  comes_by : (words code : List ℕ) (p out to k : ℕ) (h : Hart) → readings words ≡ somes (check_code c) → length code ≤ 2 ^ 32 → out ≤ 2 ^
      32 → out + k ≡ to + p → WordsAt code p to k words → Arrives regs m p h
      → ComesBy c regs m code h (p + length words) out (answer c regs m)
  comes_by words code p out to k h is short near place stand arrives =
      let law = (words_checked words is).by code p out to k h short near place stand arrives.at arrives.memory (keeps p h arrives) in
      by_answer (answer c regs m) refl law.0 law.1
    where
      by_answer : (o : Option Turns) → answer c regs m ≡ o
          → (are_told (answer c regs m) ≡ true → (n : ℕ) × Reached (all_known c) (values_of c regs m) h.memory
          (h.log ++ cell_loads regs c.cells.list.items) (p + length words) (run code n h))
          → (are_told (answer c regs m) ≡ false → (n : ℕ) × Failed first_known (values_of c regs m) h.memory out (run code n h))
          → ComesBy c regs m code h (p + length words) out o
      by_answer (Some t) e on off = let r = on (ap are_told e) in
          (r.0, passed h (run code r.0 h) (p + length words) t arrives.memory e r.1)
      by_answer None e on off = let r = off (ap are_told e) in
          (r.0, kept first_known out (run code r.0 h) first_test r.1.at (r.1.memory ∙ arrives.memory) r.1.keeps)

  tells : (words code : List ℕ) (out : ℕ) (h : Hart) → readings words ≡ somes (check_code c) → length code ≡ length words → length code <
      out → out ≤ 2 ^ 32 → WordsAt code 0 out 0 words → Arrives regs m 0 h → TellsTests c regs m code h (length words) out
  tells words code out h is size near far stand arrives =
      let exact = exactly_checked m first_known (all_known c) (values_of c regs m) words code (are_told (answer c regs m))
      (cell_loads regs c.cells.list.items) out h (words_checked words is) size near far stand arrives.at arrives.memory
      (keeps 0 h arrives) in
      let comes = comes_by words code 0 out out 0 h is (omega (arith, near, far)) far (omega arith) stand arrives in
      record {
        passes = (
          λ x. some_turns (answer c regs m) (exact.0 x.0 x.1),
          λ x. end_of x.0
              (subst (ComesBy c regs m code h (0 + length words) out) x.1 comes),
        );
        fails = (
          λ x. no_turns (answer c regs m) (exact.1 x.0 x.1),
          λ x. let r = subst (ComesBy c regs m code h (0 + length words) out) x
              comes in (r.0, r.1.at),
        );
      }
    where
      some_turns : (o : Option Turns) → are_told o ≡ true → (t : Turns) × (o ≡ Some t)
      some_turns (Some t) e = (t, refl)
      some_turns None e = absurd (cc)

      no_turns : (o : Option Turns) → are_told o ≡ false → o ≡ None
      no_turns None e = refl
      no_turns (Some t) e = absurd (cc)

      end_of : (t : Turns) → ComesBy c regs m code h (0 + length words) out (Some t) → (n : ℕ) ×
          ((run code n h).pc ≡ place_address (length words))
      end_of t r = let z : 0 + length words ≡ length words = omega arith in (r.0, r.1.arrived.at ∙ ap place_address z)

pub tells_check : (c : Check) (words : List ℕ) → HasRoom c → KeepsLimits c → IsCheckable c → readings words ≡ somes (check_code c) →
    TellsCheck c words
tells_check c words ok forms own is = record {
  by = λ regs m code p out to k h arrival short near place stand arrives. comes_by c regs m ok own forms arrival words code p out to k h
      is short near place stand arrives;
  exactly = λ regs m code out h arrival size near far stand arrives. tells c regs m ok own forms arrival words code out h is size near far
      stand arrives;
}
