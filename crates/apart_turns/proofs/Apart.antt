-- No byte outside the cells that one turn writes is read or written by another.
use Rattle.std.proofs.Common.{◌≡◌, ◌≢◌, ℕ, zero, suc, ◌+◌, ◌-◌, ◌^◌, ◌<◌, ◌≤◌, ◌⊎◌, inl, inr, List, [], ◌∷◌, length, map, get_or, Bool, true, false, if◌then◌else◌, Option, Some, None, Result, Ok, Err, refl, ap, sym, ◌∙◌, subst, arith, slice_index, slice_index_or, slice_get, ℤ, pos, ◌+ℤ◌, ◌-ℤ◌, ◌≤ℤ◌, ◌<ℤ◌}
use Rattle.std.proofs.lemmas.Int.{ints}
use Rattle.std.proofs.lemmas.Bool.{and_parts, cases_lt}
use Rattle.std.proofs.lemmas.Bool.Decides.{nat_tests}
use Rattle.std.proofs.lemmas.List.{get_or_default}
use Rattle.std.specs.List.{All, Contains}
use Rattle.rv64_decode.specs.Area.{bytes_of}
use Rattle.rv64_decode.specs.Ask.{Ask, Nothing, Loads, Stores, answer}
use Rattle.rv64_decode.specs.declared.memory.MemFault.{MemFault}
use Rattle.rv64_decode.specs.declared.memory.Width.{Width}
use Rattle.linear_forms.specs.Forms.{LinearForm, value, is_limited, pure, IsBounded}
use Rattle.loop_data.specs.declared.accesses.Access.{Access}
use Rattle.loop_data.specs.declared.graph.Graph.{Graph}
use Rattle.loop_data.specs.declared.plans.Term.TheVariants.{Apart}
use Rattle.loop_data.specs.declared.shape.Level.{Level}
use Rattle.loop_data.specs.declared.trips.Trip.{Trip}
use Rattle.loop_data.specs.declared.verdict.Cell.{Cell}
use Rattle.loop_data.specs.Nests.{In, Holds, around, nest_of, IsNest}
use Rattle.loop_data.specs.LoopWords.{AreNest}
use Rattle.loop_data.specs.Runs.{State, run, walk, instr, asks_of, unless_denied, access}
use Rattle.loop_data.specs.Turns.{turn, covers, loads_byte, stores_byte}
use Rattle.loop_data.specs.Passes.{pass, pass_in, passes}
use Rattle.loop_data.specs.Locations.{CellMap, address, width_of}
use Rattle.loop_data.specs.LoopCode.{code_of}
use Rattle.loop_data.specs.Results.{IsAround}
use Rattle.loop_data.specs.FormRows.{form_read, form_sum, form_limited}
use Rattle.loop_data.specs.Accesses.{Motion, is_regular, if_regular, accessed_form, AreAccesses}
use Rattle.loop_data.specs.Holds.{entry_of, times}
use Rattle.loop_data.specs.Executing.{AreProgramWords, AreCellWords}
use Rattle.loop_data.specs.Independent.{IsAccess, AreCells, IsOutside, AreApart}
use Rattle.loop_data.proofs.Arounds.{around_is}
use Rattle.loop_data.proofs.Steps.{has_contains}
use Rattle.dependence_tests.specs.declared.pairs.PairBox.{PairBox}
use Rattle.dependence_tests.specs.Terms.{IsTermOf}
use Rattle.dependence_tests.specs.Overlaps.{last_pass, last_round, address_in, whole_range, Touches, Overlap, IsPlaced, IsBoxOf, PairLaw, PlacedLaw}
use Rattle.dependence_tests.specs.Separation.{PassTest, TestLaw}
use Rattle.affine_addresses.specs.AddressLaws.{AsksFor, EachLaw, AddressLaw as ValueLaw}
use Rattle.alias_checks.specs.declared.lists.Check.{Check}
use Rattle.alias_checks.specs.declared.lists.Turns.{Turns}
use Rattle.alias_checks.specs.Entry.{entry}
use Rattle.alias_checks.specs.BoundsLaws.{EntryLaw}
use Rattle.alias_checks.specs.TurnTests.{last_of}
use Rattle.alias_checks.specs.Listing.{Pair, IsPair, ArePairs}
use Rattle.alias_checks.specs.Holds.{Holds as CheckHolds, RootHolds, PassesHold, AccessHolds, PairHolds, first_address}
use Rattle.alias_checks.specs.Values.{AreUpTo, AddressLaw as NoWrapLaw}
use Rattle.alias_checks.proofs.Paired.{listed}
use Rattle.apart_turns.specs.Apart.{IsAsTold}

-- the level at a place among levels
in_at : (ls : List Level) (l : Level) (k : ℕ) → k < length ls → slice_index_or ls k l ≡ l → In ls l
in_at [] l k h e = absurd (omega arith)
in_at (m ∷ ms) l zero h e = inl e
in_at (m ∷ ms) l (suc k) h e = inr (in_at ms l k (omega arith) e)

contains_of : (ls : List Level) (l : Level) → In ls l → Contains ls l
contains_of [] l i = absurd i
contains_of (m ∷ ms) l (inl e) = (0, omega arith, e)
contains_of (m ∷ ms) l (inr i) = let c = contains_of ms l i in (suc c.0, omega arith, c.2)

-- at a visit the pass of the loop of an inner depth is at most the last one by its place
module _ (G : Graph) (root : Level) (inner : List Level) (last : List ℕ) (s : State) (n d place : ℕ) (nest : IsNest (nest_of G root inner))
    (bound : (k : ℕ) (l : Level) → k < length inner → slice_index_or inner k l ≡ l → Holds l (walk s n) → pass l (walk s) n ≤ slice_index last (suc k)) where
  placed_pass : (l : Level) (place : ℕ) → place < length (root ∷ inner) → slice_index_or (root ∷ inner) place l ≡ l → Holds l (walk s n) → l.depth ≡ suc d → pass l (walk s) n ≤ last_pass last place
  placed_pass l zero h e i f =
      let o = nest.bodies.outermost in
      let r : root.depth ≡ l.depth = ap (λ (m : Level). m.depth) e in
      absurd (omega arith)
  placed_pass l (suc k) h e i f = bound k l (omega arith) e i

  pass_within : IsAround (root ∷ inner) (walk s n) (suc d) place → passes (nest_of G root inner) (walk s) n (suc d) ≤ last_pass last place
  pass_within is = go (around (root ∷ inner) (suc d) (walk s n)) refl is
    where
      go : (o : Option Level) → around (root ∷ inner) (suc d) (walk s n) ≡ o → IsAround (root ∷ inner) (walk s n) (suc d) place → pass_in o (walk s) n ≤ last_pass last place
      go None e is = omega arith
      go (Some m) e (inr r) = let i = around_is (root ∷ inner) (suc d) (walk s n) m e in absurd (r.0 m (contains_of (root ∷ inner) m i.0) i.1 i.2)
      go (Some m) e (inl r) =
          let i = around_is (root ∷ inner) (suc d) (walk s n) m e in
          let same : r.0 ≡ m = nest.bodies.alone r.0 m (in_at (root ∷ inner) r.0 place r.1 r.2) i.0 (r.4 ∙ sym i.1) (walk s n) r.3 i.2 in
          subst (λ (l : Level). pass l (walk s) n ≤ last_pass last place) same (placed_pass r.0 place r.1 r.2 r.3 r.4)

-- all last turns and passes are below 2 ^ 31
pass_small : (o : Option Trip) (e : ℕ → ℤ) (n : ℕ) → PassesHold o e n → n - 1 < 2 ^ 31
pass_small (Some x) e n h = let a = h.0.some in let b = h.0.few in omega arith
pass_small None e n h = omega arith

last_small : (t : Turns) (trips : List Trip) (e : ℕ → ℤ) → RootHolds trips e t.root
    → ((k : ℕ) → k < 3 → PassesHold (slice_get trips (suc k)) e (slice_index t.inner k)) → All (λ n. n < 2 ^ 31) (last_of t)
last_small t trips e root inner zero d h = let a = root.limits.some in let b = root.limits.few in omega arith
last_small t trips e root inner (suc zero) d h = pass_small (slice_get trips 1) e (slice_index t.inner 0) (inner 0 (omega arith))
last_small t trips e root inner (suc (suc zero)) d h = pass_small (slice_get trips 2) e (slice_index t.inner 1) (inner 1 (omega arith))
last_small t trips e root inner (suc (suc (suc zero))) d h = pass_small (slice_get trips 3) e (slice_index t.inner 2) (inner 2 (omega arith))
last_small t trips e root inner (suc (suc (suc (suc k)))) d h = absurd (omega arith)

-- the form of an access keeps to the limits
limited_is : (f : LinearForm) → is_limited f ≡ true → IsBounded f
limited_is f e =
    let a = and_parts _ _ e in
    let b = and_parts _ _ a.1 in
    let c = and_parts _ _ b.1 in
    let d = and_parts _ _ c.1 in
    record { constant = a.0; first = c.0; second = d.0; third = d.1 }

form_bounded : (width : Width) (o : Option LinearForm) (f : LinearForm) → if_regular width (form_limited o) ≡ Some f → IsBounded f
form_bounded width None f e = absurd (cc)
form_bounded width (Some g) f e = go (is_limited g) refl e
  where
    by : (b : Bool) → is_limited g ≡ true → (if b then Some g else None) ≡ Some f → IsBounded f
    by true l e = let q : g ≡ f = cc in subst IsBounded q (limited_is g l)
    by false l e = absurd (cc)

    go : (b : Bool) → is_limited g ≡ b → if_regular width (if b then Some g else None) ≡ Some f → IsBounded f
    go true l e = by (is_regular width g) l e
    go false l e = absurd (cc)

accessed_bounded : (F : ℕ → Option LinearForm) (m : Motion) (f : LinearForm) → accessed_form F m ≡ Some f → IsBounded f
accessed_bounded F m f e = form_bounded m.width (form_sum (form_read F m.base) (Some (pure m.offset))) f e

-- the access at a word
access_at : (list : List Access) (k u : ℕ) → k < length (map (λ (a : Access). a.at) list) → get_or (map (λ (a : Access). a.at) list) k u ≡ u → (a : Access) × Contains list a × (a.at ≡ u)
access_at [] k u h e = absurd (omega arith)
access_at (a ∷ list) zero u h e = (a, (0, omega arith, refl), e)
access_at (a ∷ list) (suc k) u h e = let r = access_at list k u (omega arith) e in (r.0, (suc r.1.0, omega arith, r.1.2), r.2)

-- what is asked of memory loads or stores a byte
abbrev pub Touched : Ask → ℕ → Type 0
Touched ask b = (loads_byte ask b ≡ true) ⊎ (stores_byte ask b ≡ true)

granted_touched : (r : Result ℕ MemFault) (ask : Ask) (b : ℕ) → Touched (unless_denied r ask) b → Touched ask b
granted_touched (Ok n) ask b h = h
granted_touched (Err why) ask b (inl h) = absurd (cc)
granted_touched (Err why) ask b (inr h) = absurd (cc)

granted_stores : (r : Result ℕ MemFault) (ask : Ask) (b : ℕ) → stores_byte (unless_denied r ask) b ≡ true → stores_byte ask b ≡ true
granted_stores (Ok n) ask b h = h
granted_stores (Err why) ask b h = absurd (cc)

touched_some : (ask : Ask) (b : ℕ) → Touched ask b → ask ≢ Nothing
touched_some Nothing b (inl h) e = absurd (cc)
touched_some Nothing b (inr h) e = absurd (cc)
touched_some (Loads a w) b h e = absurd (cc)
touched_some (Stores a w v) b h e = absurd (cc)

covers_same : (x y : ℕ) (v w : Width) (b : ℕ) → x ≡ y → v ≡ w → covers x (bytes_of v) b ≡ true → covers y (bytes_of w) b ≡ true
covers_same x y v w b e f h = ap (λ z. covers z (bytes_of w) b) (sym e) ∙ ap (λ z. covers x (bytes_of z) b) (sym f) ∙ h

-- so it is of an access of a cell
own_bytes : (ask : Ask) (addr : ℕ) (width : Width) (b : ℕ) → IsAccess ask addr width → Touched ask b → covers addr (bytes_of width) b ≡ true
own_bytes Nothing addr width b i h = absurd i
own_bytes (Loads a w) addr width b i (inl h) = covers_same a addr w width b i.0 i.1 h
own_bytes (Loads a w) addr width b i (inr h) = absurd (cc)
own_bytes (Stores a w v) addr width b i (inl h) = absurd (cc)
own_bytes (Stores a w v) addr width b i (inr h) = covers_same a addr w width b i.0 i.1 h

-- and of any other
asked_bytes : (ask : Ask) (addr : ℕ) (width : Width) (store : Bool) (b : ℕ) → AsksFor ask addr width store → Touched ask b → covers addr (bytes_of width) b ≡ true
asked_bytes Nothing addr width store b i h = absurd i
asked_bytes (Loads a w) addr width store b i (inl h) = covers_same a addr w width b i.0 i.1 h
asked_bytes (Loads a w) addr width store b i (inr h) = absurd (cc)
asked_bytes (Stores a w v) addr width store b i (inl h) = absurd (cc)
asked_bytes (Stores a w v) addr width store b i (inr h) = covers_same a addr w width b i.0 i.1 h

asked_stores : (ask : Ask) (addr : ℕ) (width : Width) (store : Bool) (b : ℕ) → AsksFor ask addr width store → stores_byte ask b ≡ true → store ≡ true
asked_stores Nothing addr width store b i h = absurd i
asked_stores (Loads a w) addr width store b i h = absurd (cc)
asked_stores (Stores a w v) addr width store b i h = i.2

covers_is : (x w b : ℕ) → covers x w b ≡ true → (x ≤ b) × (b < x + w)
covers_is x w b e = (grind (arith, nat_tests), grind (arith, nat_tests))

-- an access of the list, in the turn of visit n at this byte; where the visit stores it, it is a store
record Found (list : List Access) (e : ℕ → ℤ) (last : List ℕ) (root : Level) (s : State) (n b : ℕ) : Type 0 where
  pub is : Access
  pub listed : Contains list is
  pub touches : Touches is (pos (first_address e is)) last (turn root s n) (pos b)
  pub store : stores_byte (access (run s n)) b ≡ true → is.store ≡ true

-- a listed access holds where all do
holds_of : (P : Access → Type 0) (list : List Access) (a : Access) → All P list → Contains list a → P a
holds_of P list a all c = subst P c.2 (all c.0 a c.1)

-- it stands at its place
same_at : (list : List Access) (a d : Access) (c : Contains list a) → slice_index_or list c.0 d ≡ a
same_at list a d c = get_or_default list c.0 d a c.1 ∙ c.2

module _ (list : List Access) (pairs : List Pair) (e : ℕ → ℤ) (last : List ℕ) (are : ArePairs list pairs) (pair_law : PairLaw) (test_law : TestLaw) (placed : (a : Access) → Contains list a → IsPlaced a)
    (pass : (i j : ℕ) (d : Access) → i ≤ j → j < length list → PairHolds e last (slice_index_or list i d) (slice_index_or list j d)) where
  none : Pair
  none = (0, 0, Apart)

  -- a pair in the order of the list
  in_order : (a b : Access) (x : Contains list a) (y : Contains list b) → x.0 ≤ y.0 → (a.store ≡ true) ⊎ (b.store ≡ true)
      → (i j : ℕ) → i ≤ slice_index last 0 → j ≤ slice_index last 0 → i ≢ j → ¬ Overlap a b (pos (first_address e a)) (pos (first_address e b)) last i j
  in_order a b x y le st i j il jl ne =
      let p : slice_index_or list x.0 a ≡ a = x.2 in
      let q : slice_index_or list y.0 a ≡ b = same_at list b a y in
      let st_at : ((slice_index_or list x.0 a).store ≡ true) ⊎ ((slice_index_or list y.0 a).store ≡ true) = stores_at st in
      let f = listed pairs list x.0 y.0 a are.places le y.1 st_at in
      let t = slice_index_or pairs f.place none in
      let is : IsPair list t = are.each f.place none f.within in
      let term : IsTermOf a b t.2 =
      subst (λ (c : Access). IsTermOf c b t.2) p (subst (λ (c : Access). IsTermOf (slice_index_or list x.0 a) c t.2) q
      (subst (λ (n : ℕ). IsTermOf (slice_index_or list x.0 a) (slice_index_or list n a) t.2) (f.second none)
      (subst (λ (n : ℕ). IsTermOf (slice_index_or list n a) (slice_index_or list t.1 a) t.2) (f.first none) (is.term a)))) in
      let held : PassTest a b (pos (first_address e a)) (pos (first_address e b)) last =
      subst (λ (c : Access). PairHolds e last c b) p (subst (λ (c : Access). PairHolds e last (slice_index_or list x.0 a) c) q (pass x.0 y.0 a le y.1)) st in
      let at : PairBox =
      record {
        difference = pos (first_address e b) -ℤ pos (first_address e a);
        last = last;
        first = whole_range a (pos (first_address e a)) last;
        second = whole_range b (pos (first_address e b)) last;
      } in
      let box : IsBoxOf a b (pos (first_address e a)) (pos (first_address e b)) at = record { difference = refl; first = refl; second = refl } in
      pair_law a b t.2 at (pos (first_address e a)) (pos (first_address e b)) (placed a x) (placed b y) term box
      ((test_law a b t.2 at (pos (first_address e a)) (pos (first_address e b)) term box).1 held) i j il jl ne
    where
      stores_at : (a.store ≡ true) ⊎ (b.store ≡ true) → ((slice_index_or list x.0 a).store ≡ true) ⊎ ((slice_index_or list y.0 a).store ≡ true)
      stores_at (inl h) = inl (subst (λ (c : Access). c.store ≡ true) (sym x.2) h)
      stores_at (inr h) = inr (subst (λ (c : Access). c.store ≡ true) (sym (same_at list b a y)) h)

  -- and in either
  no_overlap : (a b : Access) → Contains list a → Contains list b → (a.store ≡ true) ⊎ (b.store ≡ true)
      → (i j : ℕ) → i ≤ slice_index last 0 → j ≤ slice_index last 0 → i ≢ j → ¬ Overlap a b (pos (first_address e a)) (pos (first_address e b)) last i j
  no_overlap a b x y st i j il jl ne o = go (either x.0 y.0)
    where
      either : (m n : ℕ) → (m ≤ n) ⊎ (n ≤ m)
      either m n = by (cases_lt m n)
        where
          by : (m < n) ⊎ (n ≤ m) → (m ≤ n) ⊎ (n ≤ m)
          by (inl h) = inl (omega arith)
          by (inr h) = inr h

      swapped : (a.store ≡ true) ⊎ (b.store ≡ true) → (b.store ≡ true) ⊎ (a.store ≡ true)
      swapped (inl h) = inr h
      swapped (inr h) = inl h

      go : (x.0 ≤ y.0) ⊎ (y.0 ≤ x.0) → ⊥
      go (inl le) = in_order a b x y le st i j il jl ne o
      go (inr le) = in_order b a y x le (swapped st) j i jl il (λ q. ne (sym q)) (record { byte = o.byte; of_first = o.of_second; of_second = o.of_first })

bytes_at : (x w b : ℕ) (y : ℤ) → pos x ≡ y → x ≤ b → b < x + w → (y ≤ℤ pos b) × (pos b <ℤ (y +ℤ pos w))
bytes_at x w b y e l h = (omega (arith, ints), omega (arith, ints))

-- the access that a visit makes outside the cells is listed, and at the address that its form and the check tell
module _ (G : Graph) (levels : List Level) (nest : AreNest G levels) (words : AreProgramWords G) (C : CellMap) (at : ℕ → ℕ → Option LinearForm) (c : Check) (t : Turns) (s : State) (p : ℕ)
    (are : AreAccesses levels nest.root.body (code_of G C) at c.accesses.list.items) (same : C.cells ≡ c.cells.list.items) (used : AreCellWords nest.root (code_of G C))
    (held : CheckHolds c s.regs s.memory t) (le : p ≤ t.root) (told : (n : ℕ) → turn nest.root s n < p → IsAsTold G nest.root nest.inner C at (last_of t) s n) (cells : AreCells nest.root C s p)
    (entry_law : EntryLaw) (value_law : ValueLaw) (each_law : EachLaw) (wrap_law : NoWrapLaw) where
  entry_is : entry c.cells.list.items s.regs s.memory ≡ entry_of C s
  entry_is = ap (λ (cs : List Cell). entry cs s.regs s.memory) (sym same) ∙ entry_law C s

  small : All (λ n. n < 2 ^ 31) (last_of t)
  small = last_small t c.trips (entry c.cells.list.items s.regs s.memory) held.root held.inner

  access_holds : (a : Access) → Contains c.accesses.list.items a → AccessHolds s.memory (entry_of C s) (last_of t) a
  access_holds a i = subst (λ (e : ℕ → ℤ). AccessHolds s.memory e (last_of t) a) entry_is
      (holds_of (AccessHolds s.memory (entry c.cells.list.items s.regs s.memory) (last_of t)) c.accesses.list.items a held.accesses i)

  up_to : (n : ℕ) (a : Access) → turn nest.root s n < p → Contains c.accesses.list.items a → a.at ≡ walk s n → AreUpTo (last_round a (last_of t)) (times (nest_of G nest.root nest.inner) s n)
  up_to n a lt i here =
      let v = told n lt in
      let own = (are.each a i).1 in
      record {
        root = omega arith;
        second = pass_within G nest.root nest.inner (last_of t) s n 0 (slice_index a.around 1) nest.nest v.within (around 1 (own.around 1 (omega arith)));
        third = pass_within G nest.root nest.inner (last_of t) s n 1 (slice_index a.around 2) nest.nest v.within (around 2 (own.around 2 (omega arith)));
      }
    where
      around : (d : ℕ) → IsAround levels a.at d (slice_index a.around d) → IsAround (nest.root ∷ nest.inner) (walk s n) d (slice_index a.around d)
      around d h = subst (λ (u : ℕ). IsAround (nest.root ∷ nest.inner) u d (slice_index a.around d)) here (subst (λ (ls : List Level). IsAround ls a.at d (slice_index a.around d)) nest.are h)

  found : (n b : ℕ) → turn nest.root s n < p → Touched (access (run s n)) b → IsOutside C s b → Found c.accesses.list.items (entry_of C s) (last_of t) nest.root s n b
  found n b lt touched outside = go (C.uses (walk s n)) refl
    where
      u : ℕ
      u = walk s n

      v : IsAsTold G nest.root nest.inner C at (last_of t) s n
      v = told n lt

      asked : Touched (asks_of (instr (run s n)) (run s n).regs) b
      asked = granted_touched (answer (run s n).memory (asks_of (instr (run s n)) (run s n).regs)) (asks_of (instr (run s n)) (run s n).regs) b touched

      in_list : C.uses (walk s n) ≡ None → Contains (map (λ (a : Access). a.at) c.accesses.list.items) (walk s n)
      in_list e =
          each_law levels nest.root.body (code_of G C) at c.accesses.list.items (walk s n) (run s n).regs are (has_contains nest.root.body (walk s n) v.inside) e
          (λ q. touched_some (asks_of (instr (run s n)) (run s n).regs) b asked (ap (λ i. asks_of i (run s n).regs) v.word ∙ q))

      listed_at : (a : Access) → Contains c.accesses.list.items a → a.at ≡ walk s n → Found c.accesses.list.items (entry_of C s) (last_of t) nest.root s n b
      listed_at a i here =
          let asks = value_law G levels nest words C at c.accesses.list.items a s n are i (sym here) v.word v.forms in
          let times_at = times (nest_of G nest.root nest.inner) s n in
          let up = up_to n a lt i here in
          let own = (are.each a i).1 in
          let bounded = accessed_bounded (at a.at) own.motion a.form own.form in
          let addr = value a.form (entry_of C s) times_at in
          let is = wrap_law s.memory (entry_of C s) (last_of t) a bounded small (access_holds a i) times_at up in
          let k = covers_is addr (bytes_of a.width) b (asked_bytes (asks_of (instr (run s n)) (run s n).regs) addr a.width a.store b asks asked) in
          let bytes = bytes_at addr (bytes_of a.width) b (address_in a.form (pos (first_address (entry_of C s) a)) times_at) is k.0 k.1 in
          record {
            is = a;
            listed = i;
            touches = record { turns = times_at; are = record { root = refl; second = up.second; third = up.third }; low = bytes.0; high = bytes.1 };
            store = λ h. asked_stores (asks_of (instr (run s n)) (run s n).regs) addr a.width a.store b asks
                (granted_stores (answer (run s n).memory (asks_of (instr (run s n)) (run s n).regs)) (asks_of (instr (run s n)) (run s n).regs) b h);
          }

      go : (k : Option ℕ) → C.uses (walk s n) ≡ k → Found c.accesses.list.items (entry_of C s) (last_of t) nest.root s n b
      go None e =
          let i = in_list e in
          let a = access_at c.accesses.list.items i.0 (walk s n) i.1 i.2 in
          listed_at a.0 a.1 a.2
      go (Some k) e =
          let w = used.uses (walk s n) k v.inside e in
          let o = cells.own n k w.0 lt e w.1 in
          let i = own_bytes (access (run s n)) (address s.regs w.0) (width_of w.0) b o touched in
          let out = outside k w.0 w.1 in
          absurd (cc)

  module _ (pairs : ArePairs c.accesses.list.items c.pairs) (pair_law : PairLaw) (test_law : TestLaw) (placed_law : PlacedLaw) where
    placed : (a : Access) → Contains c.accesses.list.items a → IsPlaced a
    placed a i = placed_law levels (code_of G C) at a few (are.each a i).1
      where
        few : length levels ≤ 4
        few = let f = nest.few in let q : length levels ≡ suc (length nest.inner) = ap (λ (ls : List Level). length ls) nest.are in omega arith

    tested : (i j : ℕ) (d : Access) → i ≤ j → j < length c.accesses.list.items → PairHolds (entry_of C s) (last_of t) (slice_index_or c.accesses.list.items i d) (slice_index_or c.accesses.list.items j d)
    tested i j d h l = subst (λ (e : ℕ → ℤ). PairHolds e (last_of t) (slice_index_or c.accesses.list.items i d) (slice_index_or c.accesses.list.items j d)) entry_is (held.pairs i j d h l)

    -- two visits of different turns, of which the first writes the byte and the second touches it
    clash : (v w i j b : ℕ) → turn nest.root s v ≡ i → turn nest.root s w ≡ j → i < p → j < p → i ≢ j → stores_byte (access (run s v)) b ≡ true → IsOutside C s b → Touched (access (run s w)) b → ⊥
    clash v w i j b vi wj ip jp ne stores out touched =
        let f = found v b (omega arith) (inr stores) out in
        let g = found w b (omega arith) touched out in
        let first : Touches f.is (pos (first_address (entry_of C s) f.is)) (last_of t) i (pos b) = subst (λ (n : ℕ). Touches f.is (pos (first_address (entry_of C s) f.is)) (last_of t) n (pos b)) vi f.touches in
        let second : Touches g.is (pos (first_address (entry_of C s) g.is)) (last_of t) j (pos b) = subst (λ (n : ℕ). Touches g.is (pos (first_address (entry_of C s) g.is)) (last_of t) n (pos b)) wj g.touches in
        no_overlap c.accesses.list.items c.pairs (entry_of C s) (last_of t) pairs pair_law test_law placed tested f.is g.is f.listed g.listed (inl (f.store stores)) i j (omega arith) (omega arith) ne
        (record { byte = pos b; of_first = first; of_second = second })

    pub turns_apart : AreApart nest.root C s p
    turns_apart =
        record {
          reads = λ i j b ip jp ne w out r. clash w.at r.at i j b w.turn r.turn ip jp ne w.stores out (inl r.loads);
          writes = λ i j b ip jp ne w out r. clash w.at r.at i j b w.turn r.turn ip jp ne w.stores out (inr r.stores);
        }
