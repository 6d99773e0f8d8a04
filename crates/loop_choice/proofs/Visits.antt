-- One visit of a turn below the check's: what it accesses is not refused, and the run goes on in the loop.
use Rattle.std.proofs.Common.{◌≡◌, ◌≢◌, ℕ, zero, suc, ◌+◌, ◌%◌, ◌<◌, ◌≤◌, ◌==◌, ◌⊎◌, inl, inr, Bool, true, false, if◌then◌else◌, List, [], ◌∷◌, length, map, get_or, Option, Some, None, refl, ap, sym, ◌∙◌, subst, arith, slice_index, ℤ, pos, ◌+ℤ◌, ◌≤ℤ◌}
use Rattle.std.specs.List.{All, Contains}
use Rattle.std.proofs.lemmas.Bool.{cases_lt, cases_eq}
use Rattle.std.proofs.lemmas.List.{get_or_default}
use Rattle.rv64_decode.specs.Area.{Area, bytes_of, why, readable_of, writable_of}
use Rattle.rv64_decode.specs.Ask.{Ask, Nothing, Loads, Stores, answer}
use Rattle.rv64_decode.specs.Row.{row, asks}
use Rattle.rv64_decode.specs.declared.instr.Instr.{Instr}
use Rattle.rv64_decode.specs.declared.instr.Instr.TheVariants.{Alu, AluImm, Upper, Load, Store, Branch, Jal, Jalr, Fence, Ecall, Ebreak}
use Rattle.rv64_decode.specs.declared.memory.Width.{Width}
use Rattle.rv64_decode.specs.declared.outcome.Next.TheVariants.{At}
use Rattle.guest_memory.specs.Layout.{KeepAreas}
use Rattle.linear_forms.specs.Forms.{exact, value}
use Rattle.loop_data.specs.declared.accesses.Access.{Access}
use Rattle.loop_data.specs.declared.equations.Duty.{Duty}
use Rattle.loop_data.specs.declared.shape.Level.{Level}
use Rattle.loop_data.specs.declared.verdict.Cell.{Cell}
use Rattle.loop_data.specs.Accesses.{Motion, motion_of, IsAccessOf}
use Rattle.loop_data.specs.Executing.{Executes, IsOf32Bits}
use Rattle.loop_data.specs.Holds.{times, HoldsAt}
use Rattle.loop_data.specs.Independent.{IsAccess, in_cell}
use Rattle.loop_data.specs.Locations.{cell_at, address, width_of}
use Rattle.loop_data.specs.LoopWords.{IsLoopWord, next_words}
use Rattle.loop_data.specs.Lookups.{cell_map, use_of}
use Rattle.loop_data.specs.Nests.{has, In, levels, around, Edge}
use Rattle.loop_data.specs.Passes.{pass, pass_in, passes}
use Rattle.loop_data.specs.Results.{IsAround, IsDuty}
use Rattle.loop_data.specs.Runs.{State, run, walk, goes_at, instr, instr_of, access, asks_of, granted}
use Rattle.loop_data.specs.Turns.{turn, loads_byte, stores_byte}
use Rattle.loop_data.proofs.Arounds.{around_is, time_at}
use Rattle.loop_data.proofs.FlowEdges.{listed_in}
use Rattle.loop_data.proofs.NestVisits.{AreGiven, IsGiven, are_given, found_instr, here, holds_word, step_is, leads_there, walks_inside, edge_of}
use Rattle.loop_data.proofs.Steps.{has_contains}
use Rattle.loop_data.proofs.Tests.{eq_of, ne_of, yes_no}
use Rattle.register_equations.specs.FormLaws.{MeetsListed}
use Rattle.trip_counts.specs.TripLaws.{IsAtExit}
use Rattle.affine_addresses.specs.AddressLaws.{AsksFor}
use Rattle.dependence_tests.specs.Overlaps.{address_in, last_pass, last_round, whole_range}
use Rattle.dependence_tests.specs.Separation.{AreDisjoint}
use Rattle.alias_checks.specs.declared.areas.Permission.TheVariants.{Read, Write, ReadAndWrite}
use Rattle.alias_checks.specs.AccessTests.{last_at, access_permission}
use Rattle.alias_checks.specs.Areas.{permits}
use Rattle.alias_checks.specs.CellTests.{cell_permission, cell_range}
use Rattle.alias_checks.specs.Holds.{CellHolds, CellsHold, AccessHolds, DutyHolds, KeepsOff, first_address}
use Rattle.alias_checks.specs.Values.{AreUpTo}
use Rattle.loop_choice.proofs.Addresses.{duty_bounded, access_bounded, aligned_in, in_range}
use Rattle.loop_choice.proofs.Bounded.{Bounded, bounded_step}
use Rattle.loop_choice.proofs.Bytes.{TouchesNone, access_apart, nothing_touched, load_stores_none, asks_access, disjoint_apart, disjoint_cells, cells_apart, base_or, of_32_bits}
use Rattle.loop_choice.proofs.Going.{IsAllowed, is_granted, is_answered, goes_on}
use Rattle.loop_choice.proofs.Passing.{ways_at}
use Rattle.loop_choice.proofs.RunAreas.{kept_run, readable_flags, writable_flags, same_refusals, allowed_in, whole_areas}
use Rattle.loop_choice.proofs.Tasks.{Task, net, code_in, forms_in, entry_in, last_in, in_place, all_at, cell_among, last_pass_in, last_at_place, root_tells, pass_tells, last_few}

-- the run up to visit n
pub record Fine (k : Task) (n : ℕ) : Type 0 where
  pub executes : Executes k.nest.root (code_in k) k.state n
  pub others : (m j b : ℕ) (c : Cell) → m < n → cell_at k.cells.list.items j ≡ Some c → use_of k.cells.uses.items (walk k.state m) ≢ Some j → in_cell k.state c b ≡ true
      → stores_byte (access (run k.state m)) b ≡ false
  pub met : (m : ℕ) (d : Duty) → m < n → Contains k.equations.duties d → walk k.state m ≡ d.at → IsOf32Bits (exact d.form (entry_in k) (times (net k) k.state m))
  pub bounded : Bounded (net k) (last_pass_in k) (walk k.state) n

-- a word that asks for a store is one
store_motion : (o : Option Instr) (regs : List ℕ) (x : ℕ) (w : Width) (v : ℕ) → asks_of o regs ≡ Stores x w v → (m : Motion) × (motion_of o ≡ Some m) × (m.store ≡ true)
store_motion None regs x w v e = absurd (cc)
store_motion (Some (Store op rs1 rs2 imm)) regs x w v e = (record { base = rs1; offset = imm; width = Rattle.rv64_decode.specs.Row.store_width op; store = true }, refl, refl)
store_motion (Some (Load op rd rs1 imm)) regs x w v e = absurd (cc)
store_motion (Some (Alu op rd rs1 rs2)) regs x w v e = absurd (cc)
store_motion (Some (AluImm op rd rs1 imm)) regs x w v e = absurd (cc)
store_motion (Some (Upper op rd imm)) regs x w v e = absurd (cc)
store_motion (Some (Branch op rs1 rs2 imm)) regs x w v e = absurd (cc)
store_motion (Some (Jal rd imm)) regs x w v e = absurd (cc)
store_motion (Some (Jalr rd rs1 imm)) regs x w v e = absurd (cc)
store_motion (Some (Fence rd rs1 imm)) regs x w v e = absurd (cc)
store_motion (Some Ecall) regs x w v e = absurd (cc)
store_motion (Some Ebreak) regs x w v e = absurd (cc)

-- what permissions permit
read_permits : (b : Bool) (a : Area) → permits (if b then ReadAndWrite else Read) a ≡ true → readable_of a ≡ true
read_permits true a e = (Rattle.loop_data.proofs.Tests.and_true a.readable a.writable e).0
read_permits false a e = e

pub write_permits : (b : Bool) (a : Area) → b ≡ true → permits (if b then ReadAndWrite else Read) a ≡ true → writable_of a ≡ true
write_permits true a q e = (Rattle.loop_data.proofs.Tests.and_true a.readable a.writable e).1
write_permits false a q e = absurd (cc)

none_or_some : (o : Option ℕ) → (o ≡ None) ⊎ ((k : ℕ) × (o ≡ Some k))
none_or_some None = inl refl
none_or_some (Some k) = inr (k, refl)

is_nothing : (a : Ask) → (a ≡ Nothing) ⊎ (a ≢ Nothing)
is_nothing Nothing = inl refl
is_nothing (Loads x w) = inr (λ e. absurd (cc))
is_nothing (Stores x w v) = inr (λ e. absurd (cc))

-- the access with an address, among those of a list
access_at : (list : List Access) (u i : ℕ) → i < length (map (λ (a : Access). a.at) list) → get_or (map (λ (a : Access). a.at) list) i u ≡ u → (a : Access) × Contains list a × (a.at ≡ u)
access_at [] u i l e = absurd (omega arith)
access_at (a ∷ list) u zero l e = (a, (0, omega arith, refl), e)
access_at (a ∷ list) u (suc i) l e = let r = access_at list u i (omega arith) e in (r.0, (suc r.1.0, (let m = r.1.1 in omega arith), r.1.2), r.2)

-- disjoint ranges, in the other order
turned : (r q : ℤ × ℤ) → AreDisjoint r q → AreDisjoint q r
turned r q (inl l) = inr l
turned r q (inr l) = inl l

-- where the run has come
module _ (k : Task) (n : ℕ) (f : Fine k n) where
  given_all : AreGiven (net k) (code_in k)
  given_all = are_given k.G k.levels k.nest (cell_map k.cells) k.words

  meets : MeetsListed (net k) (code_in k) k.equations.duties k.state n
  meets = record { executes = f.executes; leaves = record { others = f.others; areas = λ j c e. whole_areas 0 k.state.memory k.lie }; met = f.met }

  pub holds_at : HoldsAt (net k) (cell_map k.cells) (forms_in k) k.state n
  holds_at = (k.laws.results k.G k.levels k.nest k.words k.cells k.classes k.equations k.state n k.results meets).0

  pub at_visit : (run k.state n).next ≡ At (walk k.state n)
  at_visit = here (net k) (code_in k) given_all k.state n f.executes n (omega arith)

  pub in_loop : has k.nest.root.body (walk k.state n) ≡ true
  in_loop = holds_word (net k) (code_in k) given_all k.state n f.executes n (omega arith)

module _ (k : Task) (n : ℕ) (f : Fine k n) (lt : turn k.nest.root k.state n < k.turns.root) where
  -- what the word asks of memory
  abbrev ask : Ask
  ask = asks_of (instr (run k.state n)) (run k.state n).regs

  here_now : (run k.state n).next ≡ At (walk k.state n)
  here_now = at_visit k n f

  in_body : has k.nest.root.body (walk k.state n) ≡ true
  in_body = in_loop k n f

  holds : HoldsAt (net k) (cell_map k.cells) (forms_in k) k.state n
  holds = holds_at k n f

  given : IsGiven (net k) (code_in k) (walk k.state n)
  given = given_all k n f (walk k.state n) in_body

  loop_word : IsLoopWord k.G (walk k.state n)
  loop_word = k.nest.words (walk k.state n) in_body

  pub word : instr (run k.state n) ≡ (code_in k).instr (walk k.state n)
  word =
      ap (λ x. instr_of x (run k.state n).memory) here_now ∙ k.code (walk k.state n) n (Some loop_word.instr) loop_word.means
      ∙ sym (found_instr k.G (walk k.state n) (Some loop_word.instr) k.words.ordered loop_word.means)

  does : instr (run k.state n) ≡ Some given.does
  does = word ∙ given.is

  -- ---- turn numbers and passes

  root_time : times (net k) k.state n 0 ≤ slice_index (last_in k) 0
  root_time = omega arith

  pub pass_up_to : (j : ℕ) (l : Level) → j < length k.nest.inner → get_or k.nest.inner j l ≡ l → has l.body (walk k.state n) ≡ true → pass l (walk k.state) n ≤ slice_index (last_in k) (suc j)
  pass_up_to j l within e h = let b = f.bounded.passes l (listed_in k.nest.inner j l within e) h in let q = last_at_place k j l within e in omega arith

  inner_time : (d place : ℕ) → IsAround k.levels (walk k.state n) (suc d) place → times (net k) k.state n (suc d) ≤ last_pass (last_in k) place
  inner_time d place (inl (l, within, e, h, de)) = by place (subst (λ (ls : List Level). place < length ls) k.nest.are within) (subst (λ (ls : List Level). get_or ls place l ≡ l) k.nest.are e)
    where
      by : (place : ℕ) → place < suc (length k.nest.inner) → get_or (k.nest.root ∷ k.nest.inner) place l ≡ l → times (net k) k.state n (suc d) ≤ last_pass (last_in k) place
      by zero lp q = let a : k.nest.root.depth ≡ l.depth = ap (λ (x : Level). x.depth) q in let z = k.nest.nest.bodies.outermost in absurd (omega arith)
      by (suc j) lp q =
          let i = listed_in k.nest.inner j l (omega arith) q in
          let p = pass_up_to j l (omega arith) q h in
          let time = subst (λ z. passes (net k) (walk k.state) n z ≡ pass l (walk k.state) n) de (time_at (net k) l (walk k.state) n k.nest.nest (inr i) h) in
          omega arith
  inner_time d place (inr (none, e)) = go (around (levels (net k)) (suc d) (walk k.state n)) refl
    where
      go : (o : Option Level) → around (levels (net k)) (suc d) (walk k.state n) ≡ o → times (net k) k.state n (suc d) ≤ last_pass (last_in k) place
      go None q = let z : times (net k) k.state n (suc d) ≡ 0 = ap (λ (o : Option Level). pass_in o (walk k.state) n) q in omega arith
      go (Some l) q =
          let r = around_is (levels (net k)) (suc d) (walk k.state n) l q in
          let c = in_place (k.nest.root ∷ k.nest.inner) l r.0 in
          absurd (none l (subst (λ (ls : List Level). Contains ls l) (sym k.nest.are) (c.0, c.1, c.2)) r.1 r.2)

  -- the turn numbers of what stands at the word
  up_to : (rows : List ℕ) (v : ℕ) → ((d : ℕ) → d < 3 → IsAround k.levels v d (slice_index rows d)) → v ≡ walk k.state n → AreUpTo (last_at rows (last_in k)) (times (net k) k.state n)
  up_to rows v are e =
      record {
        root = root_time;
        second = inner_time 0 (slice_index rows 1) (subst (λ z. IsAround k.levels z 1 (slice_index rows 1)) e (are 1 (omega arith)));
        third = inner_time 1 (slice_index rows 2) (subst (λ z. IsAround k.levels z 2 (slice_index rows 2)) e (are 2 (omega arith)));
      }

  -- ---- listed accesses

  record Asked : Type 0 where
    pub item : Access
    pub listed : Contains k.list item
    pub at : item.at ≡ walk k.state n
    pub address : ℕ
    pub asks : AsksFor ask address item.width item.store
    pub is : pos address ≡ address_in item.form (pos (first_address (entry_in k) item)) (times (net k) k.state n)
    pub aligned : address % bytes_of item.width ≡ 0
    pub low : (whole_range item (pos (first_address (entry_in k) item)) (last_in k)).0 ≤ℤ pos address
    pub high : (pos address +ℤ pos (bytes_of item.width)) ≤ℤ (whole_range item (pos (first_address (entry_in k) item)) (last_in k)).1

  access_holds : (a : Access) → Contains k.list a → AccessHolds k.state.memory (entry_in k) (last_in k) a
  access_holds a c = all_at (AccessHolds k.state.memory (entry_in k) (last_in k)) k.list a k.tested.accesses_hold c

  asked_of : (a : Access) → Contains k.list a → a.at ≡ walk k.state n → Asked
  asked_of a c e =
      let own : IsAccessOf k.levels (code_in k) (forms_in k) a = (k.accesses.each a c).1 in
      let bounded = access_bounded (forms_in k a.at) own.motion a.form own.form in
      let up = up_to a.around a.at own.around e in
      let turns : AreUpTo (last_round a (last_in k)) (times (net k) k.state n) = record { root = up.root; second = up.second; third = up.third } in
      let h = access_holds a c in
      let v = value a.form (entry_in k) (times (net k) k.state n) in
      let is = k.laws.values k.state.memory (entry_in k) (last_in k) a bounded.0 (last_few k) h (times (net k) k.state n) turns in
      let range = in_range a (pos (first_address (entry_in k) a)) (last_in k) (times (net k) k.state n) turns in
      record {
        item = a;
        listed = c;
        at = e;
        address = v;
        asks = k.laws.addresses k.G k.levels k.nest k.words (cell_map k.cells) (forms_in k) k.list a k.state n k.accesses c (sym e) word holds;
        is = is;
        aligned = aligned_in a.width a.form v (first_address (entry_in k) a) (times (net k) k.state n) (subst (λ w. Rattle.loop_data.specs.Accesses.is_regular w a.form ≡ true) (sym own.width) bounded.1) h.aligned is;
        low = subst (λ z. (whole_range a (pos (first_address (entry_in k) a)) (last_in k)).0 ≤ℤ z) (sym is) range.0;
        high = subst (λ z. (z +ℤ pos (bytes_of a.width)) ≤ℤ (whole_range a (pos (first_address (entry_in k) a)) (last_in k)).1) (sym is) range.1;
      }

  -- a word that uses no cell asks for nothing, or for the bytes of its access
  asked_or : use_of k.cells.uses.items (walk k.state n) ≡ None → (ask ≡ Nothing) ⊎ Asked
  asked_or e = go (is_nothing (asks_of ((code_in k).instr (walk k.state n)) (run k.state n).regs))
    where
      go : (asks_of ((code_in k).instr (walk k.state n)) (run k.state n).regs ≡ Nothing) ⊎ (asks_of ((code_in k).instr (walk k.state n)) (run k.state n).regs ≢ Nothing) → (ask ≡ Nothing) ⊎ Asked
      go (inl q) = inl (ap (λ o. asks_of o (run k.state n).regs) word ∙ q)
      go (inr ne) =
          let c = k.laws.listed k.levels k.nest.root.body (code_in k) (forms_in k) k.list (walk k.state n) (run k.state n).regs k.accesses (has_contains k.nest.root.body (walk k.state n) in_body) e ne in
          let a = access_at k.list (walk k.state n) c.0 c.1 c.2 in
          inr (asked_of a.0 a.1 a.2)

  -- ---- cells

  record Uses (j : ℕ) : Type 0 where
    pub uses : use_of k.cells.uses.items (walk k.state n) ≡ Some j
    pub cell : Cell
    pub at : cell_at k.cells.list.items j ≡ Some cell
    pub asks : IsAccess ask (address k.state.regs cell) (width_of cell)

  uses_of : (j : ℕ) → use_of k.cells.uses.items (walk k.state n) ≡ Some j → Uses j
  uses_of j e =
      let found = k.results.found (walk k.state n) j in_body e in
      record {
        uses = e;
        cell = found.cell;
        at = found.at;
        asks = k.laws.asked k.G k.levels k.nest k.words k.cells k.classes k.equations k.state n j found.cell k.results in_body word holds e found.at;
      }

  cell_holds : (j : ℕ) (c : Cell) → cell_at k.cells.list.items j ≡ Some c → CellHolds k.state.regs k.state.memory c
  cell_holds j c e =
      let r = cell_among k.cells.list.items j c e in
      subst (CellHolds k.state.regs k.state.memory) r.1 (k.tested.cells_hold j c r.0)

  -- a store to a cell finds it marked
  marked : (i : ℕ) (x : Uses i) (a : ℕ) (w : Width) (v : ℕ) → ask ≡ Stores a w v → x.cell.stored ≡ true
  marked i x a w v e =
      let m = store_motion (instr (run k.state n)) (run k.state n).regs a w v e in
      k.known.stored (walk k.state n) i x.cell m.0 x.uses x.at (sym (ap motion_of word) ∙ m.1) m.2

  -- two cells have no byte in common where one of them is stored
  apart_cells : (i j : ℕ) (c d : Cell) → cell_at k.cells.list.items i ≡ Some c → cell_at k.cells.list.items j ≡ Some d → i ≢ j → (c.stored ≡ true) ⊎ (d.stored ≡ true)
      → (address k.state.regs c + bytes_of (width_of c) ≤ address k.state.regs d) ⊎ (address k.state.regs d + bytes_of (width_of d) ≤ address k.state.regs c)
  apart_cells i j c d p q ne stored = go (base_or c.base d.base)
    where
      first : (i < length k.cells.list.items) × (get_or k.cells.list.items i c ≡ c)
      first = cell_among k.cells.list.items i c p

      second : (j < length k.cells.list.items) × (get_or k.cells.list.items j d ≡ d)
      second = cell_among k.cells.list.items j d q

      first_is : get_or k.cells.list.items i d ≡ c
      first_is = get_or_default k.cells.list.items i d c first.0 ∙ first.1

      swapped : (d.stored ≡ true) ⊎ (c.stored ≡ true)
      swapped = swap stored
        where
          swap : (c.stored ≡ true) ⊎ (d.stored ≡ true) → (d.stored ≡ true) ⊎ (c.stored ≡ true)
          swap (inl e) = inr e
          swap (inr e) = inl e

      go : (c.base ≡ d.base) ⊎ ((c.base ≡ d.base) → ⊥) → (address k.state.regs c + bytes_of (width_of c) ≤ address k.state.regs d) ⊎ (address k.state.regs d + bytes_of (width_of d) ≤ address k.state.regs c)
      go (inl e) =
          cells_apart k.state.regs c d e (k.known.near i c p) (k.known.near j d q) (cell_holds i c p).below (cell_holds j d q).below (k.known.unmixed i j c d p q ne e)
      go (inr other) = disjoint_cells (address k.state.regs c) (bytes_of (width_of c)) (address k.state.regs d) (bytes_of (width_of d)) (by (cases_lt i j))
        where
          by : (i < j) ⊎ (j ≤ i) → AreDisjoint (cell_range k.state.regs c) (cell_range k.state.regs d)
          by (inl l) = subst (λ (x : Cell). CellsHold k.state.regs x d) first_is (subst (λ (x : Cell). CellsHold k.state.regs (get_or k.cells.list.items i d) x) second.1 (k.tested.cells_apart i j d l second.0)) other stored
          by (inr l) = turned (cell_range k.state.regs d) (cell_range k.state.regs c) (subst (λ (x : Cell). CellsHold k.state.regs d x) first_is (subst (λ (x : Cell). CellsHold k.state.regs x (get_or k.cells.list.items i d)) second.1 (k.tested.cells_apart j i d (omega arith) first.0)) (λ e. other (sym e)) swapped)

  -- ---- what is asked is not refused

  same_areas : KeepAreas k.state.memory (run k.state n).memory
  same_areas = kept_run k.state n k.lie

  allowed_cell : (j : ℕ) (x : Uses j) → IsAllowed (run k.state n).memory ask
  allowed_cell j x = go ask refl x.asks
    where
      h : CellHolds k.state.regs k.state.memory x.cell
      h = cell_holds j x.cell x.at

      reads : why readable_of k.state.memory (address k.state.regs x.cell) (width_of x.cell) ≡ None
      reads = allowed_in readable_of (cell_permission x.cell) k.state.memory (cell_range k.state.regs x.cell) (address k.state.regs x.cell) (width_of x.cell) (read_permits x.cell.stored) k.lie h.lies h.aligned (omega (arith, Rattle.std.proofs.lemmas.Int.ints)) (omega (arith, Rattle.std.proofs.lemmas.Int.ints))

      writes : x.cell.stored ≡ true → why writable_of k.state.memory (address k.state.regs x.cell) (width_of x.cell) ≡ None
      writes e = allowed_in writable_of (cell_permission x.cell) k.state.memory (cell_range k.state.regs x.cell) (address k.state.regs x.cell) (width_of x.cell) (λ a p. write_permits x.cell.stored a e p) k.lie h.lies h.aligned (omega (arith, Rattle.std.proofs.lemmas.Int.ints)) (omega (arith, Rattle.std.proofs.lemmas.Int.ints))

      go : (a : Ask) → ask ≡ a → IsAccess a (address k.state.regs x.cell) (width_of x.cell) → IsAllowed (run k.state n).memory a
      go Nothing e i = tt
      go (Loads y w) e i =
          same_refusals readable_of k.state.memory (run k.state n).memory y w readable_flags same_areas ∙ ap (λ z. why readable_of k.state.memory z w) i.0 ∙ ap (λ z. why readable_of k.state.memory (address k.state.regs x.cell) z) i.1 ∙ reads
      go (Stores y w v) e i =
          same_refusals writable_of k.state.memory (run k.state n).memory y w writable_flags same_areas ∙ ap (λ z. why writable_of k.state.memory z w) i.0 ∙ ap (λ z. why writable_of k.state.memory (address k.state.regs x.cell) z) i.1 ∙ writes (marked j x y w v e)

  allowed_access : (a : Asked) → IsAllowed (run k.state n).memory ask
  allowed_access a = go ask a.asks
    where
      h : AccessHolds k.state.memory (entry_in k) (last_in k) a.item
      h = access_holds a.item a.listed

      reads : a.item.store ≡ false → why readable_of k.state.memory a.address a.item.width ≡ None
      reads e = allowed_in readable_of (access_permission a.item) k.state.memory (whole_range a.item (pos (first_address (entry_in k) a.item)) (last_in k)) a.address a.item.width (λ (x : Area) p. subst (λ b. permits (if b then Write else Read) x ≡ true) e p) k.lie h.lies a.aligned a.low a.high

      writes : a.item.store ≡ true → why writable_of k.state.memory a.address a.item.width ≡ None
      writes e = allowed_in writable_of (access_permission a.item) k.state.memory (whole_range a.item (pos (first_address (entry_in k) a.item)) (last_in k)) a.address a.item.width (λ (x : Area) p. subst (λ b. permits (if b then Write else Read) x ≡ true) e p) k.lie h.lies a.aligned a.low a.high

      go : (x : Ask) → AsksFor x a.address a.item.width a.item.store → IsAllowed (run k.state n).memory x
      go Nothing i = tt
      go (Loads y w) i =
          same_refusals readable_of k.state.memory (run k.state n).memory y w readable_flags same_areas ∙ ap (λ z. why readable_of k.state.memory z w) i.0 ∙ ap (λ z. why readable_of k.state.memory a.address z) i.1 ∙ reads i.2
      go (Stores y w v) i =
          same_refusals writable_of k.state.memory (run k.state n).memory y w writable_flags same_areas ∙ ap (λ z. why writable_of k.state.memory z w) i.0 ∙ ap (λ z. why writable_of k.state.memory a.address z) i.1 ∙ writes i.2

  allowed : IsAllowed (run k.state n).memory ask
  allowed = go (none_or_some (use_of k.cells.uses.items (walk k.state n)))
    where
      by : (ask ≡ Nothing) ⊎ Asked → IsAllowed (run k.state n).memory ask
      by (inl e) = subst (IsAllowed (run k.state n).memory) (sym e) tt
      by (inr a) = allowed_access a

      go : (use_of k.cells.uses.items (walk k.state n) ≡ None) ⊎ ((j : ℕ) × (use_of k.cells.uses.items (walk k.state n) ≡ Some j)) → IsAllowed (run k.state n).memory ask
      go (inl e) = by (asked_or e)
      go (inr x) = allowed_cell x.0 (uses_of x.0 x.1)

  pub granted_is : access (run k.state n) ≡ asks_of (instr (run k.state n)) (run k.state n).regs
  granted_is = is_granted (run k.state n).memory ask allowed

  -- ---- the cells' bytes

  pub own_access : (j : ℕ) (c : Cell) → use_of k.cells.uses.items (walk k.state n) ≡ Some j → cell_at k.cells.list.items j ≡ Some c → IsAccess (access (run k.state n)) (address k.state.regs c) (width_of c)
  own_access j c e q =
      let x = uses_of j e in
      let same : x.cell ≡ c = (let p : Some x.cell ≡ Some c = sym x.at ∙ q in cc) in
      subst (λ a. IsAccess a (address k.state.regs c) (width_of c)) (sym granted_is) (subst (λ (d : Cell). IsAccess ask (address k.state.regs d) (width_of d)) same x.asks)

  -- what is asked stores to no byte of a cell that the word does not use, and of a stored cell it loads none
  pub off_cell : (j b : ℕ) (d : Cell) → cell_at k.cells.list.items j ≡ Some d → use_of k.cells.uses.items (walk k.state n) ≢ Some j → in_cell k.state d b ≡ true
      → (stores_byte ask b ≡ false) × (d.stored ≡ true → loads_byte ask b ≡ false)
  off_cell j b d q ne inside = go (none_or_some (use_of k.cells.uses.items (walk k.state n)))
    where
      from_cell : (i : ℕ) (x : Uses i) → (stores_byte ask b ≡ false) × (d.stored ≡ true → loads_byte ask b ≡ false)
      from_cell i x = (stores ask refl, λ e. (both (inr e)).0)
        where
          other : i ≢ j
          other e = ne (x.uses ∙ ap Some e)

          both : (x.cell.stored ≡ true) ⊎ (d.stored ≡ true) → TouchesNone ask b
          both e = access_apart ask (address k.state.regs x.cell) (width_of x.cell) (address k.state.regs d) (bytes_of (width_of d)) b x.asks inside (apart_cells i j x.cell d x.at q other e)

          stores : (a : Ask) → ask ≡ a → stores_byte ask b ≡ false
          stores Nothing e = ap (λ y. stores_byte y b) e
          stores (Loads y w) e = ap (λ y. stores_byte y b) e
          stores (Stores y w v) e = (both (inl (marked i x y w v e))).1

      keeps_off : (a : Asked) → KeepsOff k.state.regs (entry_in k) (last_in k) d a.item
      keeps_off a =
          let r = cell_among k.cells.list.items j d q in
          let row = subst (λ (x : Cell). All (KeepsOff k.state.regs (entry_in k) (last_in k) x) k.list) r.1 (k.tested.off j d r.0) in
          all_at (KeepsOff k.state.regs (entry_in k) (last_in k) d) k.list a.item row a.listed

      from_access : (a : Asked) → (stores_byte ask b ≡ false) × (d.stored ≡ true → loads_byte ask b ≡ false)
      from_access a = (stores a.item.store refl, λ e. (both (inl e)).0)
        where
          both : (d.stored ≡ true) ⊎ (a.item.store ≡ true) → TouchesNone ask b
          both e =
              access_apart ask a.address a.item.width (address k.state.regs d) (bytes_of (width_of d)) b (asks_access ask a.address a.item.width a.item.store a.asks) inside
              (disjoint_apart a.address (bytes_of a.item.width) (address k.state.regs d) (bytes_of (width_of d)) _ _ a.low a.high (keeps_off a e))

          stores : (c : Bool) → a.item.store ≡ c → stores_byte ask b ≡ false
          stores true e = (both (inr e)).1
          stores false e = load_stores_none ask a.address a.item.width b (subst (AsksFor ask a.address a.item.width) e a.asks)

      by : (ask ≡ Nothing) ⊎ Asked → (stores_byte ask b ≡ false) × (d.stored ≡ true → loads_byte ask b ≡ false)
      by (inl e) = let z = nothing_touched ask b e in (z.1, λ s. z.0)
      by (inr a) = from_access a

      go : (use_of k.cells.uses.items (walk k.state n) ≡ None) ⊎ ((i : ℕ) × (use_of k.cells.uses.items (walk k.state n) ≡ Some i)) → (stores_byte ask b ≡ false) × (d.stored ≡ true → loads_byte ask b ≡ false)
      go (inl e) = by (asked_or e)
      go (inr x) = from_cell x.0 (uses_of x.0 x.1)

  -- and what is never stored is not written by its own accesses either
  pub unwritten_cell : (j b : ℕ) (d : Cell) → cell_at k.cells.list.items j ≡ Some d → d.stored ≡ false → in_cell k.state d b ≡ true → stores_byte ask b ≡ false
  unwritten_cell j b d q never inside = go (use_of k.cells.uses.items (walk k.state n)) refl
    where
      by : (a : Ask) → ask ≡ a → use_of k.cells.uses.items (walk k.state n) ≡ Some j → stores_byte ask b ≡ false
      by Nothing e h = ap (λ y. stores_byte y b) e
      by (Loads y w) e h = ap (λ y. stores_byte y b) e
      by (Stores y w v) e h =
          let x = uses_of j h in
          let same : x.cell ≡ d = (let p : Some x.cell ≡ Some d = sym x.at ∙ q in cc) in
          absurd (yes_no d.stored (subst (λ (c : Cell). c.stored ≡ true) same (marked j x y w v e)) never)

      other : (i : ℕ) → use_of k.cells.uses.items (walk k.state n) ≡ Some i → (i ≡ j) ⊎ (i ≢ j) → stores_byte ask b ≡ false
      other i e (inl h) = by ask refl (e ∙ ap Some h)
      other i e (inr ne) = (off_cell j b d q (λ h. ne (let p : Some i ≡ Some j = sym e ∙ h in cc)) inside).0

      go : (o : Option ℕ) → use_of k.cells.uses.items (walk k.state n) ≡ o → stores_byte ask b ≡ false
      go None e = (off_cell j b d q (λ h. let p : None ≡ Some j = sym e ∙ h in absurd (cc)) inside).0
      go (Some i) e = other i e (cases_eq i j)

  -- ---- duties

  met_now : (d : Duty) → Contains k.equations.duties d → walk k.state n ≡ d.at → IsOf32Bits (exact d.form (entry_in k) (times (net k) k.state n))
  met_now d c e =
      let own : IsDuty k.levels (code_in k) (forms_in k) d = ((k.results.equations.duties (net k) (record { root = k.nest.root; inner = k.nest.inner; are = k.nest.are; is = refl })).each d c).1 in
      let h = all_at (DutyHolds (entry_in k) (last_in k)) k.equations.duties d k.tested.duties_hold c in
      of_32_bits (exact d.form (entry_in k) (times (net k) k.state n))
      ((k.laws.duties (entry_in k) (last_in k) d (duty_bounded (code_in k) d.at (forms_in k d.at) d.form own.form) (last_few k)).0 h (times (net k) k.state n) (up_to d.around d.at own.around (sym e)))

  -- ---- the next visit

  at_exit : (l : Level) → walk k.state n ≡ l.exit → IsAtExit (net k) (code_in k) (forms_in k) l k.state n
  at_exit l e = record { executes = f.executes; word = word; exit = e; holds = holds }

  next_is : run k.state (suc n) ≡ Rattle.loop_data.specs.Runs.performed given.does (walk k.state n) (run k.state n).regs (run k.state n).memory
  next_is = step_is (run k.state n) (walk k.state n) given.does here_now does

  pub inside_next : goes_at (has k.nest.root.body) (run k.state (suc n)).next ≡ true
  inside_next = go (walk k.state n == k.nest.root.exit) refl
    where
      go : (b : Bool) → (walk k.state n == k.nest.root.exit) ≡ b → goes_at (has k.nest.root.body) (run k.state (suc n)).next ≡ true
      go true e =
          (k.laws.turns k.G k.levels k.nest k.words (cell_map k.cells) (forms_in k) k.state n k.turns.root (root_tells k) (at_exit k.nest.root (eq_of _ _ e))).stays lt
      go false e =
          let ne = ne_of (walk k.state n) k.nest.root.exit e in
          let stays : (v : ℕ) → has (next_words given.does (walk k.state n)) v ≡ true → has k.nest.root.body v ≡ true =
          λ v h. k.nest.nest.shapes.stays_in k.nest.root (inl refl) (walk k.state n) v in_body ne (given.leads v h) in
          let told = answer (run k.state n).memory (asks given.does (run k.state n).regs) in
          let answered = is_answered (run k.state n).memory (asks given.does (run k.state n).regs) (subst (λ o. IsAllowed (run k.state n).memory (asks_of o (run k.state n).regs)) does allowed) in
          let o = goes_on given.does (walk k.state n) (run k.state n).regs told given.plain answered (λ v h. (k.nest.words v (stays v h)).aligned) in
          let at : (run k.state (suc n)).next ≡ At o.0 = ap (λ (x : State). x.next) next_is ∙ o.1 in
          subst (λ x. goes_at (has k.nest.root.body) x ≡ true) (sym at) (stays o.0 (leads_there given.does (walk k.state n) o.0 (run k.state n).regs told given.plain o.1))

  executes_next : Executes k.nest.root (code_in k) k.state (suc n)
  executes_next =
      record {
        start = f.executes.start;
        registers = f.executes.registers;
        bytes = f.executes.bytes;
        inside = λ m le. inside m le (cases_lt m (suc n));
        words = λ m l. words m l (cases_lt m n);
      }
    where
      inside : (m : ℕ) → m ≤ suc n → (m < suc n) ⊎ (suc n ≤ m) → goes_at (has k.nest.root.body) (run k.state m).next ≡ true
      inside m le (inl l) = f.executes.inside m (omega arith)
      inside m le (inr l) = let e : suc n ≡ m = omega arith in subst (λ i. goes_at (has k.nest.root.body) (run k.state i).next ≡ true) e inside_next

      words : (m : ℕ) → m < suc n → (m < n) ⊎ (n ≤ m) → instr (run k.state m) ≡ (code_in k).instr (walk k.state m)
      words m l (inl x) = f.executes.words m x
      words m l (inr x) = let e : n ≡ m = omega arith in subst (λ i. instr (run k.state i) ≡ (code_in k).instr (walk k.state i)) e word

  pub fine_next : Fine k (suc n)
  fine_next =
      record {
        executes = executes_next;
        others = λ m j b c l. others m j b c l (cases_lt m n);
        met = λ m d l. met m d l (cases_lt m n);
        bounded = bounded_step (net k) (last_pass_in k) (walk k.state) n k.nest.nest edge (ways_at (net k) (walk k.state) n k.nest.nest (walks_inside (net k) (code_in k) (given_all k n f) k.state n f.executes)) leaves f.bounded;
      }
    where
      edge : Edge (net k) k.nest.root.body (walk k.state n) (walk k.state (suc n))
      edge = edge_of (net k) (walk k.state) n (walks_inside (net k) (code_in k) (given_all k n f) k.state (suc n) executes_next)

      others : (m j b : ℕ) (c : Cell) → m < suc n → (m < n) ⊎ (n ≤ m) → cell_at k.cells.list.items j ≡ Some c → use_of k.cells.uses.items (walk k.state m) ≢ Some j → in_cell k.state c b ≡ true
          → stores_byte (access (run k.state m)) b ≡ false
      others m j b c l (inl x) = f.others m j b c x
      others m j b c l (inr x) =
          let e : n ≡ m = omega arith in
          subst (λ i. cell_at k.cells.list.items j ≡ Some c → use_of k.cells.uses.items (walk k.state i) ≢ Some j → in_cell k.state c b ≡ true → stores_byte (access (run k.state i)) b ≡ false) e
          (λ q ne h. ap (λ a. stores_byte a b) granted_is ∙ (off_cell j b c q ne h).0)

      met : (m : ℕ) (d : Duty) → m < suc n → (m < n) ⊎ (n ≤ m) → Contains k.equations.duties d → walk k.state m ≡ d.at → IsOf32Bits (exact d.form (entry_in k) (times (net k) k.state m))
      met m d l (inl x) = f.met m d x
      met m d l (inr x) =
          let e : n ≡ m = omega arith in
          subst (λ i. Contains k.equations.duties d → walk k.state i ≡ d.at → IsOf32Bits (exact d.form (entry_in k) (times (net k) k.state i))) e (met_now d)

      leaves : (l : Level) → In k.nest.inner l → walk k.state n ≡ l.exit → has l.body (walk k.state n) ≡ true → pass l (walk k.state) n ≡ last_pass_in k l → has l.body (walk k.state (suc n)) ≡ false
      leaves l i e h q =
          let out = (k.laws.passes k.G k.levels k.nest k.words (cell_map k.cells) (forms_in k) l k.state n (last_pass_in k l) i (pass_tells k l i) (at_exit l e)).leaves q in
          let at = here (net k) (code_in k) (given_all k n f) k.state (suc n) executes_next (suc n) (omega arith) in
          subst (λ x. goes_at (has l.body) x ≡ false) at out
