-- What the first turns of a loop are tested for, and what the tests give.
use Rattle.std.proofs.Common.{◌≡◌, ◌≢◌, ℕ, zero, suc, ◌+◌, ◌<◌, ◌≤◌, List, [], ◌∷◌, Bool, true, false, ◌&&◌, ◌||◌, not, length, Option, Some, None, refl, ap, ◌∙◌, subst, arith, ◌==◌, nat_lt, nat_le, pos, ℤ, ◌+ℤ◌, ◌*ℤ◌}
use Rattle.std.proofs.lemmas.Bool.Decides.{nat_tests}
use native.Mathlib.Decide.{dec_le}
use Rattle.rv64_decode.specs.Fetched.{instr_at}
use Rattle.rv64_decode.specs.Area.{bytes_of}
use Rattle.rv64_decode.specs.Ask.{Ask, Nothing, Loads, Stores}
use Rattle.rv64_decode.specs.declared.outcome.Next.{Next}
use Rattle.rv64_decode.specs.declared.outcome.Next.TheVariants.{At, Call, Fault as Faulting}
use Rattle.rv64_decode.specs.declared.memory.Width.{Width}
use Rattle.rv64_decode.specs.declared.memory.Width.TheVariants.{One, Two, Four, Eight}
use Rattle.loop_data.specs.declared.verdict.Cell.{Cell}
use Rattle.linear_forms.specs.Forms.{word_of}
use Rattle.loop_data.specs.declared.shape.Level.{Level}
use Rattle.loop_data.specs.Nests.{has}
use Rattle.loop_data.specs.Runs.{State, step, run, walk, pc_in, goes_at, instr, access}
use Rattle.loop_data.specs.Turns.{arrives, turn, seen, IsArrival, covers, loads_byte, stores_byte}
use Rattle.loop_data.specs.Locations.{CellMap, no_cells, cell_at, address, width_of, value_of, word_reads, some_writes}
use Rattle.loop_data.specs.Independent.{Role, Keeps, Moves, Private, IsAccess, in_cell, AreTurns, AreCells, HaveRoles}
use Rattle.loop_samples.proofs.Visits.{Visit, visit, all_visits, and_true, passes_test, turns_from, later_arrival}

-- the test holds of all numbers below
abbrev pub below : ℕ → (ℕ → Bool) → Bool
below zero p = true
below (suc n) p = p n && below n p

pub below_is : (n : ℕ) (p : ℕ → Bool) (r : ℕ) → below n p ≡ true → r < n → p r ≡ true
below_is zero p r e h = absurd (omega arith)
below_is (suc n) p r e h =
    let q = and_true (p n) (below n p) e in
    go (dec_le (suc r) n) q.0 (λ l. below_is n p r q.1 l)
  where
    go : Dec (suc r ≤ n) → p n ≡ true → (suc r ≤ n → p r ≡ true) → p r ≡ true
    go (yes l) a b = b l
    go (no l) a b = subst (λ x. p x ≡ true) (omega arith) a

abbrev pub implies : Bool → Bool → Bool
implies true b = b
implies false b = true

pub implied : (a b : Bool) → implies a b ≡ true → a ≡ true → b ≡ true
implied true b e h = e
implied false b e h = absurd (cc)

pub goes_is : (h : ℕ) (x : Next) → goes_at (λ pc. pc == h) x ≡ true → x ≡ At h
goes_is h (At pc) e = let k : pc ≡ h = grind (arith, nat_tests) in ap At k
goes_is h Call e = absurd (cc)
goes_is h (Faulting kind addr) e = absurd (cc)

pub goes_from : (h : ℕ) (x : Next) → x ≡ At h → goes_at (λ pc. pc == h) x ≡ true
goes_from h x e = rw e (let k : (h == h) ≡ true = grind (arith, nat_tests) in k)

-- accesses of the same bytes
abbrev pub same_access : Ask → Ask → Bool
same_access Nothing Nothing = true
same_access (Loads a v) (Loads b w) = (a == b) && (bytes_of v == bytes_of w)
same_access (Stores a v x) (Stores b w y) = (a == b) && (bytes_of v == bytes_of w)
same_access _ _ = false

same_bytes : (a b v w : ℕ) → ((a == b) && (v == w)) ≡ true → (x : ℕ) → covers a v x ≡ covers b w x
same_bytes a b v w e x =
    let q = and_true (a == b) (v == w) e in
    let c : (a == b) ≡ true = q.0 in let d : (v == w) ≡ true = q.1 in
    let f : a ≡ b = grind (arith, nat_tests) in let g : v ≡ w = grind (arith, nat_tests) in
    ap (λ y. covers y v x) f ∙ ap (λ y. covers b y x) g

pub same_loads : (a b : Ask) → same_access a b ≡ true → (x : ℕ) → loads_byte a x ≡ loads_byte b x
same_loads Nothing Nothing e x = refl
same_loads Nothing (Loads b w) e x = absurd (cc)
same_loads Nothing (Stores b w y) e x = absurd (cc)
same_loads (Loads a v) Nothing e x = absurd (cc)
same_loads (Loads a v) (Loads b w) e x = same_bytes a b (bytes_of v) (bytes_of w) e x
same_loads (Loads a v) (Stores b w y) e x = absurd (cc)
same_loads (Stores a v z) Nothing e x = absurd (cc)
same_loads (Stores a v z) (Loads b w) e x = absurd (cc)
same_loads (Stores a v z) (Stores b w y) e x = refl

pub same_stores : (a b : Ask) → same_access a b ≡ true → (x : ℕ) → stores_byte a x ≡ stores_byte b x
same_stores Nothing Nothing e x = refl
same_stores Nothing (Loads b w) e x = absurd (cc)
same_stores Nothing (Stores b w y) e x = absurd (cc)
same_stores (Loads a v) Nothing e x = absurd (cc)
same_stores (Loads a v) (Loads b w) e x = refl
same_stores (Loads a v) (Stores b w y) e x = absurd (cc)
same_stores (Stores a v z) Nothing e x = absurd (cc)
same_stores (Stores a v z) (Loads b w) e x = absurd (cc)
same_stores (Stores a v z) (Stores b w y) e x = same_bytes a b (bytes_of v) (bytes_of w) e x

-- the value of a location with a role at arrival t
abbrev pub value_fits : Role → ℕ → ℕ → ℕ → Bool
value_fits Keeps e v t = v == e
value_fits (Moves z) e v t = v == word_of (pos e +ℤ z *ℤ pos t)
value_fits Private e v t = true

abbrev pub is_private : Role → Bool
is_private Keeps = false
is_private (Moves z) = false
is_private Private = true

-- the tests of a visit of a loop with these cells, for the locations below `top`
abbrev pub arrival_test : Level → CellMap → ℕ → (ℕ → Role) → State → Visit → Bool
arrival_test l C top roles s v =
    implies (goes_at (λ pc. pc == l.header) v.state.next) (below top (λ r. value_fits (roles r) (value_of C s.regs s r) (value_of C s.regs v.state r) v.turn))

abbrev pub written_test : Level → CellMap → ℕ → (ℕ → Role) → State → Visit → Bool
written_test l C top roles s v =
    implies (goes_at (λ pc. pc == l.header) (step v.state).next)
    (below top (λ r. implies (is_private (roles r)) (some_writes C (instr_at s.memory) (pc_in v.state.next ∷ v.seen) r)))

abbrev pub before_test : CellMap → ℕ → (ℕ → Role) → State → Visit → Bool
before_test C top roles s v =
    below top (λ r. implies (is_private (roles r)) (implies (word_reads C (pc_in v.state.next) (instr v.state) r) (some_writes C (instr_at s.memory) v.seen r)))

abbrev pub path_test : Level → Visit → Bool
path_test l v = goes_at (has l.body) v.state.next && goes_at (λ pc. true) (step v.state).next

-- those of a visit of the first p turns
abbrev pub turn_test : Level → CellMap → ℕ → (ℕ → Role) → State → ℕ → ℕ → Visit → Bool
turn_test l C top roles s p n v =
    arrival_test l C top roles s v && implies (nat_lt v.turn p) (path_test l v && (written_test l C top roles s v && before_test C top roles s v))

pub eq_from : (a b : ℕ) → (a == b) ≡ true → a ≡ b
eq_from a b e = grind (arith, nat_tests)

-- up to visit k, of turn p, each visit is tested; locations from `top` on keep their values
pub record IsTested (l : Level) (C : CellMap) (top : ℕ) (roles : ℕ → Role) (s : State) (p k : ℕ) : Type 0 where
  pub tested : all_visits (turn_test l C top roles s p) l k 0 (visit l s 0) ≡ true
  pub last : turn l s k ≡ p
  pub high : (r : ℕ) → top ≤ r → roles r ≡ Keeps
  pub same : (x : State) (r : ℕ) → top ≤ r → value_of C s.regs x r ≡ value_of C s.regs s r

module _ (l : Level) (C : CellMap) (top : ℕ) (roles : ℕ → Role) (s : State) (p k : ℕ) (T : IsTested l C top roles s p k) where
  pub early : (n : ℕ) → turn l s n < p → n ≤ k
  early n h = go (dec_le n k)
    where
      go : Dec (n ≤ k) → n ≤ k
      go (yes a) = a
      go (no a) = let b = turns_from l s k n (omega arith) in let c = T.last in absurd (omega arith)

  arrival_early : (t n : ℕ) → t ≤ p → IsArrival l s t n → n ≤ k
  arrival_early t n h a = go (dec_le n k)
    where
      go : Dec (n ≤ k) → n ≤ k
      go (yes b) = b
      go (no b) =
          let c = later_arrival l s k n (omega arith) (goes_from l.header (run s n).next a.at) in
          let d = a.turn in let e = T.last in absurd (omega arith)

  parts : (n : ℕ) → n ≤ k → (arrival_test l C top roles s (visit l s n) ≡ true)
      × (implies (nat_lt (turn l s n) p) (path_test l (visit l s n) && (written_test l C top roles s (visit l s n) && before_test C top roles s (visit l s n))) ≡ true)
  parts n h = and_true _ _ (passes_test (turn_test l C top roles s p) l s k n T.tested h)

  in_turn : (n : ℕ) → turn l s n < p → (path_test l (visit l s n) && (written_test l C top roles s (visit l s n) && before_test C top roles s (visit l s n))) ≡ true
  in_turn n h = implied _ _ (parts n (early n h)).1 (let e : nat_lt (turn l s n) p ≡ true = grind (arith, nat_tests) in e)

  path_part : (n : ℕ) → turn l s n < p → path_test l (visit l s n) ≡ true
  path_part n h = (and_true _ _ (in_turn n h)).0

  written_part : (n : ℕ) → turn l s n < p → written_test l C top roles s (visit l s n) ≡ true
  written_part n h = (and_true _ _ (and_true _ _ (in_turn n h)).1).0

  before_part : (n : ℕ) → turn l s n < p → before_test C top roles s (visit l s n) ≡ true
  before_part n h = (and_true _ _ (and_true _ _ (in_turn n h)).1).1

  pub turns_from_test : ((t : ℕ) → t ≤ p → (n : ℕ) × IsArrival l s t n) → AreTurns l s p
  turns_from_test exist =
      record { exist = exist; inside = λ n h. (and_true _ _ (path_part n h)).0; onward = λ n h. (and_true _ _ (path_part n h)).1 }

  low : (r : ℕ) → roles r ≢ Keeps → r < top
  low r h = go (dec_le top r)
    where
      go : Dec (top ≤ r) → r < top
      go (yes a) = absurd (h (T.high r a))
      go (no a) = omega arith

  arrival_values : (t n r : ℕ) → t ≤ p → IsArrival l s t n → r < top → value_fits (roles r) (value_of C s.regs s r) (value_of C s.regs (run s n) r) t ≡ true
  arrival_values t n r h a b =
      let e = implied _ _ (parts n (arrival_early t n h a)).0 (goes_from l.header (run s n).next a.at) in
      subst (λ x. value_fits (roles r) (value_of C s.regs s r) (value_of C s.regs (run s n) r) x ≡ true) a.turn (below_is top (λ q. value_fits (roles q) (value_of C s.regs s q) (value_of C s.regs (run s n) q) (turn l s n)) r e b)

  moved_at : (t n r : ℕ) (z : ℤ) → t ≤ p → IsArrival l s t n → roles r ≡ Moves z → r < top → value_of C s.regs (run s n) r ≡ word_of (pos (value_of C s.regs s r) +ℤ z *ℤ pos t)
  moved_at t n r z h a e b = eq_from _ _ (subst (λ x. value_fits x (value_of C s.regs s r) (value_of C s.regs (run s n) r) t ≡ true) e (arrival_values t n r h a b))

  kept_at : (t n r : ℕ) → t ≤ p → IsArrival l s t n → roles r ≡ Keeps → r < top → value_of C s.regs (run s n) r ≡ value_of C s.regs s r
  kept_at t n r h a e b = eq_from _ _ (subst (λ x. value_fits x (value_of C s.regs s r) (value_of C s.regs (run s n) r) t ≡ true) e (arrival_values t n r h a b))

  written_at : (n r : ℕ) → turn l s n < p → arrives l s (suc n) ≡ true → roles r ≡ Private → r < top → some_writes C (instr_at s.memory) (walk s n ∷ seen l s n) r ≡ true
  written_at n r h a e b =
      let d = below_is top (λ q. implies (is_private (roles q)) (some_writes C (instr_at s.memory) (walk s n ∷ seen l s n) q)) r (implied _ _ (written_part n h) a) b in
      implied _ _ d (ap is_private e)

  before_at : (n r : ℕ) → turn l s n < p → roles r ≡ Private → r < top → word_reads C (walk s n) (instr (run s n)) r ≡ true → some_writes C (instr_at s.memory) (seen l s n) r ≡ true
  before_at n r h e b a =
      let d = below_is top (λ q. implies (is_private (roles q)) (implies (word_reads C (walk s n) (instr (run s n)) q) (some_writes C (instr_at s.memory) (seen l s n) q))) r (before_part n h) b in
      implied _ _ (implied _ _ d (ap is_private e)) a

  pub roles_from_test : HaveRoles l C roles s p
  roles_from_test =
      record {
        moved = λ t n r z h a e. moved_at t n r z h a e (low r (λ f. absurd (cc (e, f))));
        kept = kept;
        written = λ n r h a e. written_at n r h a e (low r (λ f. absurd (cc (e, f))));
        before = λ n r h e a. before_at n r h e (low r (λ f. absurd (cc (e, f)))) a;
      }
    where
      kept : (t n r : ℕ) → t ≤ p → IsArrival l s t n → roles r ≡ Keeps → value_of C s.regs (run s n) r ≡ value_of C s.regs s r
      kept t n r h a e = go (dec_le top r)
        where
          go : Dec (top ≤ r) → value_of C s.regs (run s n) r ≡ value_of C s.regs s r
          go (yes b) = T.same (run s n) r b
          go (no b) = kept_at t n r h a e (omega arith)

-- a loop without cells
pub no_cells_kept : (l : Level) (s : State) (p : ℕ) → AreCells l no_cells s p
no_cells_kept l s p =
    record {
      own = λ n k c h e. absurd (cc e);
      touched = λ n k b c h e. absurd (cc e);
      written = λ n k b c h e. absurd (cc e);
    }

pub no_cells_same : (regs : List ℕ) (s x : State) (r : ℕ) → 32 ≤ r → value_of no_cells regs x r ≡ value_of no_cells regs s r
no_cells_same regs s x r h = let f : nat_lt r 32 ≡ false = grind (arith, nat_tests) in rw f refl

-- widths by their bytes
same_width : (v w : Width) → (bytes_of v == bytes_of w) ≡ true → v ≡ w
same_width One One e = refl
same_width One Two e = absurd (cc)
same_width One Four e = absurd (cc)
same_width One Eight e = absurd (cc)
same_width Two One e = absurd (cc)
same_width Two Two e = refl
same_width Two Four e = absurd (cc)
same_width Two Eight e = absurd (cc)
same_width Four One e = absurd (cc)
same_width Four Two e = absurd (cc)
same_width Four Four e = refl
same_width Four Eight e = absurd (cc)
same_width Eight One e = absurd (cc)
same_width Eight Two e = absurd (cc)
same_width Eight Four e = absurd (cc)
same_width Eight Eight e = refl

abbrev pub is_access : Ask → ℕ → Width → Bool
is_access Nothing addr width = false
is_access (Loads a w) addr width = (a == addr) && (bytes_of w == bytes_of width)
is_access (Stores a w x) addr width = (a == addr) && (bytes_of w == bytes_of width)

access_is : (a : Ask) (addr : ℕ) (width : Width) → is_access a addr width ≡ true → IsAccess a addr width
access_is Nothing addr width e = absurd (cc)
access_is (Loads a w) addr width e = let q = and_true (a == addr) (bytes_of w == bytes_of width) e in (eq_from a addr q.0, same_width w width q.1)
access_is (Stores a w x) addr width e = let q = and_true (a == addr) (bytes_of w == bytes_of width) e in (eq_from a addr q.0, same_width w width q.1)

-- two ranges of bytes are apart
abbrev pub apart : ℕ → ℕ → ℕ → ℕ → Bool
apart a n b m = nat_le (a + n) b || nat_le (b + m) a

apart_is : (a n b m x : ℕ) → apart a n b m ≡ true → covers b m x ≡ true → covers a n x ≡ false
apart_is a n b m x e h = go (nat_le a x) (nat_lt x (a + n)) refl refl
  where
    go : (c d : Bool) → nat_le a x ≡ c → nat_lt x (a + n) ≡ d → (c && d) ≡ false
    go false d p q = refl
    go true false p q = refl
    go true true p q =
        let r = and_true (nat_le b x) (nat_lt x (b + m)) h in
        let s : nat_le b x ≡ true = r.0 in let t : nat_lt x (b + m) ≡ true = r.1 in
        by (nat_le (a + n) b) (nat_le (b + m) a) refl refl e (grind (arith, nat_tests)) (grind (arith, nat_tests)) (grind (arith, nat_tests)) (grind (arith, nat_tests))
      where
        by : (u v : Bool) → nat_le (a + n) b ≡ u → nat_le (b + m) a ≡ v → (u || v) ≡ true → a ≤ x → x < a + n → b ≤ x → x < b + m → true ≡ false
        by true v f g k la ha lb hb = let z : a + n ≤ b = grind (arith, nat_tests) in absurd (omega arith)
        by false true f g k la ha lb hb = let z : b + m ≤ a = grind (arith, nat_tests) in absurd (omega arith)
        by false false f g k la ha lb hb = absurd (cc)

abbrev pub loads_apart : Ask → ℕ → ℕ → Bool
loads_apart Nothing b m = true
loads_apart (Loads a w) b m = apart a (bytes_of w) b m
loads_apart (Stores a w x) b m = true

abbrev pub stores_apart : Ask → ℕ → ℕ → Bool
stores_apart Nothing b m = true
stores_apart (Loads a w) b m = true
stores_apart (Stores a w x) b m = apart a (bytes_of w) b m

no_load : (a : Ask) (b m x : ℕ) → loads_apart a b m ≡ true → covers b m x ≡ true → loads_byte a x ≡ false
no_load Nothing b m x e h = refl
no_load (Loads a w) b m x e h = apart_is a (bytes_of w) b m x e h
no_load (Stores a w y) b m x e h = refl

no_store : (a : Ask) (b m x : ℕ) → stores_apart a b m ≡ true → covers b m x ≡ true → stores_byte a x ≡ false
no_store Nothing b m x e h = refl
no_store (Loads a w) b m x e h = refl
no_store (Stores a w y) b m x e h = apart_is a (bytes_of w) b m x e h

-- the tests of a visit for the cells: its own cell, and each cell by number
abbrev pub own_cell : State → Ask → Option Cell → Bool
own_cell s a None = true
own_cell s a (Some c) = is_access a (address s.regs c) (width_of c)

abbrev pub own_use : CellMap → State → Ask → Option ℕ → Bool
own_use C s a None = true
own_use C s a (Some k) = own_cell s a (cell_at C.cells k)

abbrev pub is_use : Option ℕ → ℕ → Bool
is_use None k = false
is_use (Some j) k = j == k

abbrev pub cell_test : State → Ask → Option ℕ → ℕ → Option Cell → Bool
cell_test s a own k None = true
cell_test s a own k (Some c) =
    implies (c.stored && not (is_use own k)) (loads_apart a (address s.regs c) (bytes_of (width_of c)) && stores_apart a (address s.regs c) (bytes_of (width_of c)))
    && implies (not c.stored) (stores_apart a (address s.regs c) (bytes_of (width_of c)))

abbrev pub cells_test : CellMap → State → ℕ → Visit → Bool
cells_test C s n v =
    own_use C s (access v.state) (C.uses (pc_in v.state.next))
    && below (length C.cells) (λ k. cell_test s (access v.state) (C.uses (pc_in v.state.next)) k (cell_at C.cells k))

cell_below : (cs : List Cell) (k : ℕ) (c : Cell) → cell_at cs k ≡ Some c → k < length cs
cell_below [] k c e = absurd (cc)
cell_below (d ∷ cs) zero c e = omega arith
cell_below (d ∷ cs) (suc k) c e = let h = cell_below cs k c e in omega arith

not_use : (o : Option ℕ) (k : ℕ) → o ≢ Some k → is_use o k ≡ false
not_use None k h = refl
not_use (Some j) k h = go (j == k) refl
  where
    go : (b : Bool) → (j == k) ≡ b → b ≡ false
    go true e = absurd (h (ap Some (eq_from j k e)))
    go false e = refl

module _ (l : Level) (C : CellMap) (s : State) (p k : ℕ) (tested : all_visits (cells_test C s) l k 0 (visit l s 0) ≡ true) (early : (n : ℕ) → turn l s n < p → n ≤ k) where
  cells_at : (n : ℕ) → turn l s n < p → cells_test C s n (visit l s n) ≡ true
  cells_at n h = passes_test (cells_test C s) l s k n tested (early n h)

  own_part : (n : ℕ) → turn l s n < p → own_use C s (access (run s n)) (C.uses (walk s n)) ≡ true
  own_part n h = (and_true _ _ (cells_at n h)).0

  cell_part : (n j : ℕ) (c : Cell) → turn l s n < p → cell_at C.cells j ≡ Some c → cell_test s (access (run s n)) (C.uses (walk s n)) j (Some c) ≡ true
  cell_part n j c h e =
      let b = below_is (length C.cells) (λ i. cell_test s (access (run s n)) (C.uses (walk s n)) i (cell_at C.cells i)) j (and_true _ _ (cells_at n h)).1 (cell_below C.cells j c e) in
      subst (λ o. cell_test s (access (run s n)) (C.uses (walk s n)) j o ≡ true) e b

  own_at : (n j : ℕ) (c : Cell) → turn l s n < p → C.uses (walk s n) ≡ Some j → cell_at C.cells j ≡ Some c → is_access (access (run s n)) (address s.regs c) (width_of c) ≡ true
  own_at n j c h e f =
      let a = subst (λ o. own_use C s (access (run s n)) o ≡ true) e (own_part n h) in
      subst (λ o. own_cell s (access (run s n)) o ≡ true) f a

  touched_at : (n j b : ℕ) (c : Cell) → turn l s n < p → cell_at C.cells j ≡ Some c → c.stored ≡ true → C.uses (walk s n) ≢ Some j → in_cell s c b ≡ true
      → (loads_byte (access (run s n)) b ≡ false) × (stores_byte (access (run s n)) b ≡ false)
  touched_at n j b c h e f u i =
      let x = and_true _ _ (cell_part n j c h e) in
      let y : (c.stored && not (is_use (C.uses (walk s n)) j)) ≡ true = rw (f, not_use (C.uses (walk s n)) j u) refl in
      let z = and_true _ _ (implied _ _ x.0 y) in
      (no_load (access (run s n)) (address s.regs c) (bytes_of (width_of c)) b z.0 i, no_store (access (run s n)) (address s.regs c) (bytes_of (width_of c)) b z.1 i)

  written_cell : (n j b : ℕ) (c : Cell) → turn l s n < p → cell_at C.cells j ≡ Some c → c.stored ≡ false → in_cell s c b ≡ true → stores_byte (access (run s n)) b ≡ false
  written_cell n j b c h e f i =
      let x = and_true _ _ (cell_part n j c h e) in
      let y : not c.stored ≡ true = rw f refl in
      no_store (access (run s n)) (address s.regs c) (bytes_of (width_of c)) b (implied _ _ x.1 y) i

  pub cells_from_test : AreCells l C s p
  cells_from_test =
      record {
        own = λ n j c h e f. access_is _ _ _ (own_at n j c h e f);
        touched = touched_at;
        written = written_cell;
      }
