-- What becomes of each location from turn to turn.
use Rattle.std.proofs.Common.{◌≡◌, ◌≢◌, ℕ, zero, suc, ◌+◌, ◌-◌, ◌*◌, ◌^◌, ◌<◌, ◌≤◌, ◌==◌, ◌⊎◌, inl, inr, Bool, true, false, ◌||◌, if◌then◌else◌, nat_lt, List, [], ◌∷◌, get_or, Option, Some, None, is_some, refl, ap, sym, ◌∙◌, subst, arith, ℤ, pos, ◌+ℤ◌, ◌*ℤ◌}
use Rattle.std.proofs.lemmas.Int.{ints}
use Rattle.std.proofs.lemmas.Bool.{cases_eq}
use Rattle.rv64_decode.specs.Area.{Area, holds, byte_at, number_at}
use Rattle.rv64_decode.specs.Fetched.{instr_at}
use Rattle.rv64_decode.specs.Range.{AreWords, AreBytes}
use Rattle.rv64_decode.specs.Registers.{register}
use Rattle.rv64_decode.specs.Row.{extended32}
use Rattle.rv64_decode.specs.declared.instr.Instr.{Instr}
use Rattle.rv64_decode.specs.declared.instr.Instr.TheVariants.{Alu, AluImm, Upper, Load, Store, Branch, Jal, Jalr, Fence, Ecall, Ebreak}
use Rattle.rv64_decode.specs.declared.outcome.Next.TheVariants.{At}
use Rattle.rv64_decode.proofs.Sound.{register_below, number_4}
use Rattle.linear_forms.specs.Forms.{LinearForm, exact, moving, pure, word_of}
use Rattle.linear_forms.proofs.Sums.{word_is, exact-moving}
use Rattle.loop_data.specs.declared.shape.Level.{Level}
use Rattle.loop_data.specs.declared.verdict.Cell.{Cell}
use Rattle.loop_data.specs.Classes.{IsPrivate, HasRole}
use Rattle.loop_data.specs.Equations.{entry_form, header_form, with_step}
use Rattle.loop_data.specs.Facts.{Fact}
use Rattle.loop_data.specs.Holds.{times}
use Rattle.loop_data.specs.Independent.{Role, Keeps, Moves, Private, HaveRoles}
use Rattle.loop_data.specs.Locations.{CellMap, cell_at, address, content, held, first_cell, value_of, writes_register, writes_cell, instr_writes, word_writes, word_reads, some_writes}
use Rattle.loop_data.specs.LoopCode.{LoopCode, writes, any_writes, is_location}
use Rattle.loop_data.specs.Lookups.{cell_map, classes_of, role_by, roles_by}
use Rattle.loop_data.specs.Nests.{Nest, has, Edge, IsPassTo, IsPass}
use Rattle.loop_data.specs.Passes.{passed}
use Rattle.loop_data.specs.Results.{IsNestOf, class_in}
use Rattle.loop_data.specs.Runs.{State, run, walk, instr, pc_in}
use Rattle.loop_data.specs.Turns.{arrives, turn, seen, IsArrival}
use Rattle.loop_data.proofs.FactsExist.{facts_exist}
use Rattle.loop_data.proofs.FactWalks.{arrives_is}
use Rattle.loop_data.proofs.NestVisits.{are_given, here, sound, found_instr, walks_inside}
use Rattle.loop_data.proofs.Tests.{eq_of, is_eq, is_ne, yes_no}
use Rattle.loop_choice.proofs.Passing.{ways_at}
use Rattle.loop_choice.proofs.Tasks.{Task, net, code_in, forms_in, entry_in}
use Rattle.loop_choice.proofs.TurnsEnd.{fine_below, fine_arrival, edge_next}
use Rattle.loop_choice.proofs.Visits.{Fine, fine_next, holds_at, at_visit, in_loop, word}

-- ---- values are words

byte_below : (m : List Area) (x : ℕ) → AreBytes m → byte_at m x < 256
byte_below [] x b = omega arith
byte_below (a ∷ m) x b = go (holds a x) (byte_below m x b.1)
  where
    go : (c : Bool) → byte_at m x < 256 → (if c then get_or a.bytes (x - a.low) 0 else byte_at m x) < 256
    go true h = b.0 (x - a.low)
    go false h = h

number_8 : (m : List Area) (x : ℕ) → AreBytes m → number_at 8 m x < 2 ^ 64
number_8 m x b =
    let b0 = byte_below m x b in
    let b1 = byte_below m (suc x) b in
    let b2 = byte_below m (suc (suc x)) b in
    let b3 = byte_below m (suc (suc (suc x))) b in
    sum (byte_at m x) (byte_at m (suc x)) (byte_at m (suc (suc x))) (byte_at m (suc (suc (suc x)))) (number_at 4 m (suc (suc (suc (suc x))))) b0 b1 b2 b3 (number_4 m (suc (suc (suc (suc x)))) b)
  where
    sum : (p q r s n : ℕ) → p < 256 → q < 256 → r < 256 → s < 256 → n < 2 ^ 32 → p + 256 * (q + 256 * (r + 256 * (s + 256 * n))) < 2 ^ 64
    sum p q r s n a b c d e = omega arith

extended_below : (n : ℕ) → extended32 n < 2 ^ 64
extended_below n = omega (arith, ints)

content_below : (wide : Bool) (m : List Area) (x : ℕ) → AreBytes m → content wide m x < 2 ^ 64
content_below true m x b = number_8 m x b
content_below false m x b = extended_below (number_at 4 m x)

held_below : (first : List ℕ) (o : Option Cell) (m : List Area) → AreBytes m → held first o m < 2 ^ 64
held_below first None m b = omega arith
held_below first (Some c) m b = content_below c.wide m (address first c) b

value_below : (C : CellMap) (first : List ℕ) (s : State) (r : ℕ) → AreWords s.regs → AreBytes s.memory → value_of C first s r < 2 ^ 64
value_below C first s r w b = go (nat_lt r first_cell)
  where
    go : (c : Bool) → (if c then register s.regs r else held first (cell_at C.cells (r - first_cell)) s.memory) < 2 ^ 64
    go true = register_below s.regs r w
    go false = held_below first (cell_at C.cells (r - first_cell)) s.memory b

-- ---- locations

-- x0, a location, or the number of no cell
location_or : (B : LoopCode) (r : ℕ) → (r ≡ 0) ⊎ ((r ≢ 0) × (is_location B r ≡ true) ⊎ ((nat_lt r first_cell ≡ false) × (cell_at B.cells.cells (r - first_cell) ≡ None)))
location_or B r = by (cases_eq r 0)
  where
    by : (r ≡ 0) ⊎ (r ≢ 0) → (r ≡ 0) ⊎ ((r ≢ 0) × (is_location B r ≡ true) ⊎ ((nat_lt r first_cell ≡ false) × (cell_at B.cells.cells (r - first_cell) ≡ None)))
    by (inl e) = inl e
    by (inr ne) = inr (go (nat_lt r first_cell) (cell_at B.cells.cells (r - first_cell)) refl refl)
      where
        go : (b : Bool) (o : Option Cell) → nat_lt r first_cell ≡ b → cell_at B.cells.cells (r - first_cell) ≡ o
            → (r ≢ 0) × (is_location B r ≡ true) ⊎ ((nat_lt r first_cell ≡ false) × (cell_at B.cells.cells (r - first_cell) ≡ None))
        go true o e f = inl (ne, ap (λ c. if c then false else if nat_lt r first_cell then true else is_some (cell_at B.cells.cells (r - first_cell))) (is_ne r 0 ne) ∙ ap (λ c. if c then true else is_some (cell_at B.cells.cells (r - first_cell))) e)
        go false (Some x) e f = inl (ne, ap (λ c. if c then false else if nat_lt r first_cell then true else is_some (cell_at B.cells.cells (r - first_cell))) (is_ne r 0 ne) ∙ ap (λ c. if c then true else is_some (cell_at B.cells.cells (r - first_cell))) e ∙ ap is_some f)
        go false None e f = inr (e, f)

entry_of_location : (B : LoopCode) (r : ℕ) → r ≢ 0 → is_location B r ≡ true → entry_form B r ≡ Some (moving r (pos 0))
entry_of_location B r ne h =
    ap (λ b. if b then Some (pure (pos 0)) else if is_location B r then Some (moving r (pos 0)) else None) (is_ne r 0 ne) ∙ ap (λ b. if b then Some (moving r (pos 0)) else None) h

-- what writes a number that no cell has stores to a cell of that number
used_by : (i : Option Instr) (uses : Option ℕ) (r : ℕ) → nat_lt r first_cell ≡ false → instr_writes i uses r ≡ true → uses ≡ Some (r - first_cell)
used_by None uses r low e = absurd (cc)
used_by (Some i) uses r low e = go i uses (sym (ap (λ b. if b then writes_register i r else writes_cell i uses r) low) ∙ e)
  where
    go : (i : Instr) (uses : Option ℕ) → writes_cell i uses r ≡ true → uses ≡ Some (r - first_cell)
    go (Store op rs1 rs2 imm) (Some k) h = let q = eq_of (first_cell + k) r h in ap Some (omega arith)
    go (Store op rs1 rs2 imm) None h = absurd (cc)
    go (Alu op rd rs1 rs2) uses h = absurd (cc)
    go (AluImm op rd rs1 imm) uses h = absurd (cc)
    go (Upper op rd imm) uses h = absurd (cc)
    go (Load op rd rs1 imm) uses h = absurd (cc)
    go (Branch op rs1 rs2 imm) uses h = absurd (cc)
    go (Jal rd imm) uses h = absurd (cc)
    go (Jalr rd rs1 imm) uses h = absurd (cc)
    go (Fence rd rs1 imm) uses h = absurd (cc)
    go Ecall uses h = absurd (cc)
    go Ebreak uses h = absurd (cc)

never_zero : (i : Option Instr) (uses : Option ℕ) → instr_writes i uses 0 ≡ false
never_zero None uses = refl
never_zero (Some i) uses = refl

-- ---- the words of a pass

same_writes : (C : CellMap) (p q : ℕ → Option Instr) (us : List ℕ) (r : ℕ) → ((u : ℕ) → has us u ≡ true → p u ≡ q u) → some_writes C p us r ≡ some_writes C q us r
same_writes C p q [] r h = refl
same_writes C p q (u ∷ us) r h =
    let e : p u ≡ q u = h u (ap (λ b. if b then true else has us u) (is_eq u u refl)) in
    ap (λ i. word_writes C u i r || some_writes C p us r) e ∙ ap (λ b. word_writes C u (q u) r || b) (same_writes C p q us r (λ v k. h v (later v k)))
  where
    later : (v : ℕ) → has us v ≡ true → (if u == v then true else has us v) ≡ true
    later v k = go (u == v)
      where
        go : (b : Bool) → (if b then true else has us v) ≡ true
        go true = refl
        go false = k

-- they are words of the loop
pass_inside : (N : Nest) (l : Level) (us : List ℕ) (x : ℕ) → IsPassTo N l us x → (u : ℕ) → has us u ≡ true → has l.body u ≡ true
pass_inside N l [] x w u h = absurd (cc)
pass_inside N l (y ∷ ys) x w u h = go (y == u) refl h (pass_inside N l ys y w.2 u)
  where
    go : (b : Bool) → (y == u) ≡ b → (if b then true else has ys u) ≡ true → (has ys u ≡ true → has l.body u ≡ true) → has l.body u ≡ true
    go true e k later = subst (λ z. has l.body z ≡ true) (eq_of y u e) w.0.from
    go false e k later = later k

-- ---- values at arrivals

moved_value : (r : ℕ) (step : ℤ) (e : ℕ → ℤ) (t : ℕ → ℕ) → exact (with_step (moving r (pos 0)) 0 step) e t ≡ e r +ℤ step *ℤ pos (t 0)
moved_value r step e t =
    let z : pos 0 +ℤ step ≡ step = omega (arith, ints) in
    ap (λ x. exact (moving r x) e t) z ∙ exact-moving r step e t

kept_value : (r : ℕ) (e : ℕ → ℤ) (t : ℕ → ℕ) → exact (moving r (pos 0)) e t ≡ e r
kept_value r e t = exact-moving r (pos 0) e t ∙ omega (arith, ints)

module _ (k : Task) where
  abbrev pub roles : ℕ → Role
  roles = roles_by (code_in k) k.levels k.classes k.nest.root

  of : IsNestOf k.G k.levels (net k)
  of = record { root = k.nest.root; inner = k.nest.inner; are = k.nest.are; is = refl }

  root_classes : classes_of k.levels (k.classes.root ∷ k.classes.inner) k.nest.root ≡ k.classes.root
  root_classes =
      ap (λ (xs : List Level). classes_of xs (k.classes.root ∷ k.classes.inner) k.nest.root) k.nest.are
      ∙ ap (λ b. if b then k.classes.root else classes_of k.nest.inner k.classes.inner k.nest.root) (is_eq k.nest.root.header k.nest.root.header refl)

  role_is : (r : ℕ) → roles r ≡ role_by (any_writes (code_in k) k.nest.root.body r) (class_in k.classes.root r)
  role_is r = ap (λ (row : List (Option _)). role_by (any_writes (code_in k) k.nest.root.body r) (get_or row r None)) root_classes

  pub has_role : (r : ℕ) → (V : ℕ → ℕ → Option Fact) × HasRole (net k) (code_in k) V r (roles r)
  has_role r =
      let facts = facts_exist (net k) (code_in k) k.nest.root k.nest.nest (inl refl) in
      (facts.0, subst (HasRole (net k) (code_in k) facts.0 r) (sym (role_is r)) (k.results.classes.root (net k) facts.0 r of facts.1))

  root_form : (r : ℕ) → forms_in k k.nest.root.header r ≡ header_form 0 (roles r) (entry_form (code_in k) r)
  root_form r = (k.results.equations.forms (net k) of).root r

  sound_at : (n : ℕ) → Fine k n → AreWords (run k.state n).regs × AreBytes (run k.state n).memory
  sound_at n f = sound (net k) (code_in k) (are_given k.G k.levels k.nest (cell_map k.cells) k.words) k.nest.root (λ x h. h) k.state n f.executes n (omega arith)

  below_at : (n r : ℕ) → Fine k n → value_of (cell_map k.cells) k.state.regs (run k.state n) r < 2 ^ 64
  below_at n r f = let a = sound_at n f in value_below (cell_map k.cells) k.state.regs (run k.state n) r a.0 a.1

  -- the value of a location with a form at the header
  at_header : (t n r : ℕ) (g : LinearForm) → (f : Fine k n) → IsArrival k.nest.root k.state t n → forms_in k k.nest.root.header r ≡ Some g
      → value_of (cell_map k.cells) k.state.regs (run k.state n) r ≡ word_of (exact g (entry_in k) (times (net k) k.state n))
  at_header t n r g f a e =
      let w : walk k.state n ≡ k.nest.root.header = ap pc_in a.at in
      word_is (value_of (cell_map k.cells) k.state.regs (run k.state n) r) (exact g (entry_in k) (times (net k) k.state n)) (below_at n r f) (holds_at k n f r g (ap (λ x. forms_in k x r) w ∙ e))

  -- a location that the root moves on is one
  moving_location : (r : ℕ) (step : ℤ) → roles r ≡ Moves step → (r ≢ 0) × (is_location (code_in k) r ≡ true)
  moving_location r step e = go (location_or (code_in k) r)
    where
      h : (V : ℕ → ℕ → Option Fact) × HasRole (net k) (code_in k) V r (Moves step)
      h = let a = has_role r in (a.0, subst (HasRole (net k) (code_in k) a.0 r) e a.1)

      go : (r ≡ 0) ⊎ ((r ≢ 0) × (is_location (code_in k) r ≡ true) ⊎ ((nat_lt r first_cell ≡ false) × (cell_at k.cells.list.items (r - first_cell) ≡ None))) → (r ≢ 0) × (is_location (code_in k) r ≡ true)
      go (inl z) =
          let i = h.1 in
          absurd (yes_no (writes (code_in k) i.word 0) (subst (λ q. writes (code_in k) i.word q ≡ true) z i.does) (never_zero ((code_in k).instr i.word) ((code_in k).cells.uses i.word)))
      go (inr (inl l)) = l
      go (inr (inr n)) =
          let i = h.1 in
          let u = used_by ((code_in k).instr i.word) ((code_in k).cells.uses i.word) r n.0 i.does in
          let found = k.results.found i.word (r - first_cell) i.inside u in
          let q : None ≡ Some found.cell = sym n.1 ∙ found.at in
          absurd (cc)

  moved_in : (t n r : ℕ) (step : ℤ) → t ≤ k.turns.root → IsArrival k.nest.root k.state t n → roles r ≡ Moves step
      → value_of (cell_map k.cells) k.state.regs (run k.state n) r ≡ word_of (pos (value_of (cell_map k.cells) k.state.regs k.state r) +ℤ step *ℤ pos t)
  moved_in t n r step le a e =
      let f = fine_arrival k t n le a in
      let l = moving_location r step e in
      let form : forms_in k k.nest.root.header r ≡ Some (with_step (moving r (pos 0)) 0 step) =
      root_form r ∙ ap (λ q. header_form 0 q (entry_form (code_in k) r)) e ∙ ap (header_form 0 (Moves step)) (entry_of_location (code_in k) r l.0 l.1) in
      at_header t n r (with_step (moving r (pos 0)) 0 step) f a form ∙ ap word_of (moved_value r step (entry_in k) (times (net k) k.state n) ∙ ap (λ m. entry_in k r +ℤ step *ℤ pos m) a.turn)

  word_of_small : (n : ℕ) → n < 2 ^ 64 → word_of (pos n) ≡ n
  word_of_small n lt = omega arith

  kept_in : (t n r : ℕ) → t ≤ k.turns.root → IsArrival k.nest.root k.state t n → roles r ≡ Keeps
      → value_of (cell_map k.cells) k.state.regs (run k.state n) r ≡ value_of (cell_map k.cells) k.state.regs k.state r
  kept_in t n r le a e = go (location_or (code_in k) r)
    where
      f : Fine k n
      f = fine_arrival k t n le a

      form : forms_in k k.nest.root.header r ≡ entry_form (code_in k) r
      form = root_form r ∙ ap (λ q. header_form 0 q (entry_form (code_in k) r)) e

      low : value_of (cell_map k.cells) k.state.regs k.state r < 2 ^ 64
      low = value_below (cell_map k.cells) k.state.regs k.state r k.registers k.bytes

      go : (r ≡ 0) ⊎ ((r ≢ 0) × (is_location (code_in k) r ≡ true) ⊎ ((nat_lt r first_cell ≡ false) × (cell_at k.cells.list.items (r - first_cell) ≡ None)))
          → value_of (cell_map k.cells) k.state.regs (run k.state n) r ≡ value_of (cell_map k.cells) k.state.regs k.state r
      go (inl z) = subst (λ q. value_of (cell_map k.cells) k.state.regs (run k.state n) q ≡ value_of (cell_map k.cells) k.state.regs k.state q) (sym z) refl
      go (inr (inl l)) =
          at_header t n r (moving r (pos 0)) f a (form ∙ entry_of_location (code_in k) r l.0 l.1) ∙ ap word_of (kept_value r (entry_in k) (times (net k) k.state n))
          ∙ word_of_small (value_of (cell_map k.cells) k.state.regs k.state r) low
      go (inr (inr none)) =
          none_held (run k.state n) ∙ sym (none_held k.state)
        where
          none_held : (x : State) → value_of (cell_map k.cells) k.state.regs x r ≡ 0
          none_held x = ap (λ b. if b then register x.regs r else held k.state.regs (cell_at k.cells.list.items (r - first_cell)) x.memory) none.0 ∙ ap (λ o. held k.state.regs o x.memory) none.1

  -- ---- private locations

  -- the words that the turn has executed are those of its pass
  seen_is : (n : ℕ) → ((m : ℕ) → m ≤ n → (run k.state m).next ≡ At (walk k.state m)) → seen k.nest.root k.state n ≡ passed k.nest.root (walk k.state) n
  seen_is zero at = refl
  seen_is (suc n) at =
      ap (λ b. if b then [] else walk k.state n ∷ seen k.nest.root k.state n) (arrives_is k.nest.root k.state (suc n) (at (suc n) (omega arith)))
      ∙ ap (λ us. if walk k.state (suc n) == k.nest.root.header then [] else walk k.state n ∷ us) (seen_is n (λ m le. at m (omega arith)))

  seen_at : (n : ℕ) → Fine k n → seen k.nest.root k.state n ≡ passed k.nest.root (walk k.state) n
  seen_at n f = seen_is n (here (net k) (code_in k) (are_given k.G k.levels k.nest (cell_map k.cells) k.words) k.state n f.executes)

  way_to : (n : ℕ) → Fine k n → IsPassTo (net k) k.nest.root (passed k.nest.root (walk k.state) n) (walk k.state n)
  way_to n f =
      ways_at (net k) (walk k.state) n k.nest.nest (walks_inside (net k) (code_in k) (are_given k.G k.levels k.nest (cell_map k.cells) k.words) k.state n f.executes) k.nest.root (inl refl) (in_loop k n f)

  -- a word of the loop stands in the first memory
  stands : (u : ℕ) → has k.nest.root.body u ≡ true → instr_at k.state.memory u ≡ (code_in k).instr u
  stands u h =
      let w = k.nest.words u h in
      k.code u 0 (Some w.instr) w.means ∙ sym (found_instr k.G u (Some w.instr) k.words.ordered w.means)

  private : (r : ℕ) → roles r ≡ Private → IsPrivate (net k) (code_in k) r
  private r e = let a = has_role r in (subst (HasRole (net k) (code_in k) a.0 r) e a.1).2

  before_in : (n r : ℕ) → turn k.nest.root k.state n < k.turns.root → roles r ≡ Private → word_reads (cell_map k.cells) (walk k.state n) (instr (run k.state n)) r ≡ true
      → some_writes (cell_map k.cells) (instr_at k.state.memory) (seen k.nest.root k.state n) r ≡ true
  before_in n r lt e reads =
      let f = fine_below k n lt in
      let us = passed k.nest.root (walk k.state) n in
      let way = way_to n f in
      let told = (private r e).before us (walk k.state n) way (in_loop k n f) (sym (ap (λ i. word_reads (cell_map k.cells) (walk k.state n) i r) (word k n f lt)) ∙ reads) in
      ap (λ vs. some_writes (cell_map k.cells) (instr_at k.state.memory) vs r) (seen_at n f)
      ∙ same_writes (cell_map k.cells) (instr_at k.state.memory) (code_in k).instr us r (λ u h. stands u (pass_inside (net k) k.nest.root us (walk k.state n) way u h)) ∙ told

  written_in : (n r : ℕ) → turn k.nest.root k.state n < k.turns.root → arrives k.nest.root k.state (suc n) ≡ true → roles r ≡ Private
      → some_writes (cell_map k.cells) (instr_at k.state.memory) (walk k.state n ∷ seen k.nest.root k.state n) r ≡ true
  written_in n r lt arrived e =
      let f = fine_below k n lt in
      let g = fine_next k n f lt in
      let us = passed k.nest.root (walk k.state) n in
      let way = way_to n f in
      let at : walk k.state (suc n) ≡ k.nest.root.header = eq_of _ _ (sym (arrives_is k.nest.root k.state (suc n) (at_visit k (suc n) g)) ∙ arrived) in
      let whole : IsPass (net k) k.nest.root (walk k.state n ∷ us) = (subst (λ v. Edge (net k) k.nest.root.body (walk k.state n) v) at (edge_next k n g), way) in
      let told = (private r e).written (walk k.state n ∷ us) whole in
      ap (λ vs. some_writes (cell_map k.cells) (instr_at k.state.memory) (walk k.state n ∷ vs) r) (seen_at n f)
      ∙ same_writes (cell_map k.cells) (instr_at k.state.memory) (code_in k).instr (walk k.state n ∷ us) r (λ u h. stands u (inside us way u h)) ∙ told
    where
      inside : (us : List ℕ) → IsPassTo (net k) k.nest.root us (walk k.state n) → (u : ℕ) → has (walk k.state n ∷ us) u ≡ true → has k.nest.root.body u ≡ true
      inside us way u h = go (walk k.state n == u) refl h
        where
          go : (b : Bool) → (walk k.state n == u) ≡ b → (if b then true else has us u) ≡ true → has k.nest.root.body u ≡ true
          go true q j = subst (λ z. has k.nest.root.body z ≡ true) (eq_of _ _ q) (in_loop k n (fine_below k n lt))
          go false q j = pass_inside (net k) k.nest.root us (walk k.state n) way u j

  pub have_roles : HaveRoles k.nest.root (cell_map k.cells) roles k.state k.turns.root
  have_roles = record { moved = moved_in; kept = kept_in; written = written_in; before = before_in }
