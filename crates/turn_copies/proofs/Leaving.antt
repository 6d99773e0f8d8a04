-- Cells are written back.
use Rattle.std.proofs.Common.{◌≡◌, ◌≢◌, ℕ, zero, suc, ◌+◌, ◌-◌, ◌*◌, ◌/◌, ◌%◌, ◌^◌, ◌<◌, ◌≤◌, refl, sym, subst, ap, ◌∙◌, arith, ℤ, pos, Option, Some, None, Ok, Bool, true, false, cond, List, [], ◌∷◌, ◌++◌, get_or, ◌⊎◌, inl, inr, if◌then◌else◌, Err, Result}
use Rattle.std.specs.Prelude.{◌==◌, nat_lt, slice_index}
use Rattle.std.specs.Int.{w64, cast_unsigned}
use Rattle.std.proofs.lemmas.Bool.{cases_lt, cases_eq}
use Rattle.std.proofs.lemmas.Bool.Decides.{nat_tests}
use Rattle.std.proofs.lemmas.List.{append_assoc, append-nil}
use Rattle.rv64_decode.specs.Area.{Area, holds, byte_at, number_at, with_byte, with_number, bytes_of, why, writable_of, or_refusal, unless_refused, fetch_of}
use Rattle.rv64_decode.specs.Ask.{Ask, Stores, answer, after, without_number}
use Rattle.rv64_decode.specs.Fields.{signed_by}
use Rattle.rv64_decode.specs.Hart.{Hart, address, logged}
use Rattle.rv64_decode.specs.Range.{AreBytes}
use Rattle.rv64_decode.specs.Registers.{register}
use Rattle.rv64_decode.specs.Row.{plus_offset, store_width, asks}
use Rattle.rv64_decode.specs.Table.{decoded}
use Rattle.rv64_decode.specs.declared.memory.Width.{Width}
use Rattle.rv64_decode.specs.declared.memory.MemFault.{MemFault}
use Rattle.rv64_decode.specs.declared.instr.Instr.{Instr}
use Rattle.rv64_decode.specs.declared.instr.Instr.TheVariants.{Store}
use Rattle.rv64_decode.specs.declared.instr.StoreOp.{StoreOp}
use Rattle.rv64_decode.specs.declared.outcome.Next.{Next}
use Rattle.rv64_decode.specs.declared.outcome.Next.TheVariants.{At, Call, Fault as Faulting}
use Rattle.rv64_decode.specs.declared.xinstr.XInstr.TheVariants.{Back}
use Rattle.linear_forms.specs.Forms.{word_of}
use Rattle.loop_data.specs.declared.shape.Level.{Level}
use Rattle.loop_data.specs.declared.verdict.Cell.{Cell}
use Rattle.loop_data.specs.Independent.{Role, in_cell}
use Rattle.loop_data.specs.Locations.{cell_at, address as cell_address, address_by, width_of, width_by, held, value_of}
use Rattle.loop_data.specs.LoopCode.{LoopCode}
use Rattle.loop_data.specs.Runs.{State, run, step, stepped, fetched, executed}
use Rattle.loop_data.specs.Turns.{IsArrival, covers}
use Rattle.loop_data.proofs.CellBytes.{maps, mapped_bytes, cut, cut4, cut8}
use Rattle.loop_data.proofs.CellVisits.{whole_run}
use Rattle.loop_data.proofs.Tests.{eq_of, ne_of, is_ne, yes_no}
use Rattle.stub_laws.specs.Places.{behind}
use Rattle.stub_laws.specs.Straight.{read, put}
use Rattle.stub_laws.proofs.Ends.{from_hart, here, world_of}
use Rattle.stub_laws.proofs.Steps.{World, Wins, behind-append, put_law, get_law, lui_law, alike}
use Rattle.check_numbers.specs.Parts.{bits, low_part, high_part}
use Rattle.turn_copies.specs.Memories.{SameAreas, Agree}
use Rattle.turn_copies.specs.Copies.{Placed}
use Rattle.turn_copies.specs.StubCode.{cell_store, carrier, based_code, known_code, write_by, write_back_code}
use Rattle.turn_copies.specs.Bodies.{IsBody, IsDivided}
use Rattle.turn_copies.specs.Passages.{in_slot}
use Rattle.turn_copies.specs.Edges.{stores_back, CanWriteBack, Left, LeaveLaw}
use Rattle.turn_copies.proofs.Bytes.{areas_refl, areas_sym, areas_trans, with_byte-areas, with_byte-same, with_number-areas, byte_at-with_number}
use Rattle.turn_copies.proofs.Agreeing.{maps_same, writable_same, after_areas}
use Rattle.turn_copies.proofs.PlainWords.{plain_law, asked}
use Rattle.turn_copies.proofs.Visits.{covers_is, covers_in, sound_run}
use Rattle.turn_copies.proofs.Following.{Past, in_memory, placed_front, placed_back, read_put, cell_same}
use Rattle.turn_copies.proofs.Turns.{zero_near, twice}
use Rattle.turn_copies.proofs.Regions.{cell_16}
use Rattle.stub_laws.proofs.Small.{fetched_small}

-- ---- a run keeps its areas

areas_executed : (word : ℕ) (o : Option Instr) (pc : ℕ) (regs : List ℕ) (m : List Area) → SameAreas m (executed word o pc regs m).memory
areas_executed word (Some i) pc regs m = after_areas m (asks i regs)
areas_executed word None pc regs m = areas_refl m

areas_fetched : (o : Result ℕ MemFault) (pc : ℕ) (regs : List ℕ) (m : List Area) → SameAreas m (fetched o pc regs m).memory
areas_fetched (Ok word) pc regs m = areas_executed word (decoded word) pc regs m
areas_fetched (Err why) pc regs m = areas_refl m

areas_stepped : (n : Next) (regs : List ℕ) (m : List Area) → SameAreas m (stepped n regs m).memory
areas_stepped (At pc) regs m = areas_fetched (fetch_of m pc) pc regs m
areas_stepped Call regs m = areas_refl m
areas_stepped (Faulting kind addr) regs m = areas_refl m

areas_step : (s : State) → SameAreas s.memory (step s).memory
unfolding step
areas_step s = areas_stepped s.next s.regs s.memory

areas_run : (s : State) (n : ℕ) → SameAreas s.memory (run s n).memory
areas_run s zero = areas_refl s.memory
areas_run s (suc n) = areas_trans s.memory (run s n).memory (step (run s n)).memory (areas_run s n) (areas_step (run s n))

byte_below : (m : List Area) (x : ℕ) → AreBytes m → byte_at m x < 256
byte_below [] x b = omega arith
byte_below (a ∷ m) x b = go (holds a x) (byte_below m x b.1)
  where
    go : (c : Bool) → byte_at m x < 256 → (if c then get_or a.bytes (x - a.low) 0 else byte_at m x) < 256
    go true h = b.0 (x - a.low)
    go false h = h

-- ---- a number that is stored

low_byte : (v a c n : ℕ) → v % 256 + 256 * c ≡ a + 256 * n → a < 256 → v % 256 ≡ a
low_byte v a c n e h = omega arith

high_bytes : (v a c n : ℕ) → v % 256 + 256 * c ≡ a + 256 * n → a < 256 → c ≡ n
high_bytes v a c n e h = omega arith

-- its bytes are those of a memory in which it stands
written_byte : (n : ℕ) (m m' : List Area) (x v z : ℕ) → cut n v ≡ number_at n m' x → ((y : ℕ) → byte_at m' y < 256) → ((y : ℕ) → x ≤ y → y < x + n → maps m y ≡ true) → x ≤ z → z < x + n → byte_at (with_number n m x v) z ≡ byte_at m' z
written_byte zero m m' x v z e small mapped lo hi = absurd (omega arith)
written_byte (suc n) m m' x v z e small mapped lo hi = by (cases_eq z x) (λ lo' hi'. written_byte n m1 m' (suc x) (v / 256) z (high_bytes v (byte_at m' x) (cut n (v / 256)) (number_at n m' (suc x)) e (small x)) small later lo' hi')
  where
    m1 : List Area
    m1 = with_byte m x (v % 256)

    later : (y : ℕ) → suc x ≤ y → y < suc x + n → maps (with_byte m x (v % 256)) y ≡ true
    later y a b = sym (maps_same m (with_byte m x (v % 256)) y (with_byte-areas m x (v % 256))) ∙ mapped y (omega arith) (omega arith)

    by : (z ≡ x) ⊎ (z ≢ x) → (suc x ≤ z → z < suc x + n → byte_at (with_number n (with_byte m x (v % 256)) (suc x) (v / 256)) z ≡ byte_at m' z) → byte_at (with_number n (with_byte m x (v % 256)) (suc x) (v / 256)) z ≡ byte_at m' z
    by (inl same) k =
        subst (λ y. byte_at (with_number n (with_byte m x (v % 256)) (suc x) (v / 256)) y ≡ byte_at m' y) (sym same)
        (byte_at-with_number n (with_byte m x (v % 256)) (suc x) (v / 256) x (inl (omega arith)) ∙ with_byte-same m x (v % 256) (mapped x (omega arith) (omega arith)) ∙ low_byte v (byte_at m' x) (cut n (v / 256)) (number_at n m' (suc x)) e (small x))
    by (inr other) k = k (omega arith) (omega arith)

-- ---- the address of a cell in two instructions

signed_bits : (half n : ℕ) → half ≤ 2 ^ 31 → n < 2 * half → cast_unsigned w64 (signed_by half n) ≡ cond (nat_lt n half) n (n + 2 ^ 64 - 2 * half)
signed_bits half n a b = grind (arith, nat_tests)

sum_is : (n : ℕ) → n < 2 ^ 31 - 2 ^ 11
    → (cond (nat_lt ((n + 2 ^ 11) / 2 ^ 12 * 2 ^ 12 % 2 ^ 32) (2 ^ 31)) ((n + 2 ^ 11) / 2 ^ 12 * 2 ^ 12 % 2 ^ 32) ((n + 2 ^ 11) / 2 ^ 12 * 2 ^ 12 % 2 ^ 32 + 2 ^ 64 - 2 * 2 ^ 31) + cond (nat_lt (n % 2 ^ 12) (2 ^ 11)) (n % 2 ^ 12) (n % 2 ^ 12 + 2 ^ 64 - 2 * 2 ^ 11)) % 2 ^ 64 ≡ n
sum_is n h = grind (arith, nat_tests)

known_place : (n : ℕ) → n < 2 ^ 31 - 2 ^ 11 → plus_offset (bits (high_part (pos n))) (low_part (pos n)) ≡ n
known_place n h =
    let m = (n + 2 ^ 11) / 2 ^ 12 * 2 ^ 12 % 2 ^ 32 in
    let is : bits (pos n) ≡ n = omega arith in
    let a : bits (high_part (pos n)) ≡ cond (nat_lt m (2 ^ 31)) m (m + 2 ^ 64 - 2 * 2 ^ 31) = ap (λ x. cast_unsigned w64 (signed_by (2 ^ 31) ((x + 2 ^ 11) / 2 ^ 12 * 2 ^ 12 % 2 ^ 32))) is ∙ signed_bits (2 ^ 31) m (omega arith) (omega arith) in
    let b : cast_unsigned w64 (low_part (pos n)) ≡ cond (nat_lt (n % 2 ^ 12) (2 ^ 11)) (n % 2 ^ 12) (n % 2 ^ 12 + 2 ^ 64 - 2 * 2 ^ 11) = ap (λ x. cast_unsigned w64 (signed_by (2 ^ 11) (x % 2 ^ 12))) is ∙ signed_bits (2 ^ 11) (n % 2 ^ 12) (omega arith) (omega arith) in
    ap (λ x. (x + cast_unsigned w64 (low_part (pos n))) % 2 ^ 64) a ∙ ap (λ x. (cond (nat_lt m (2 ^ 31)) m (m + 2 ^ 64 - 2 * 2 ^ 31) + x) % 2 ^ 64) b ∙ sum_is n h

-- ---- the words of one cell

-- slots as they are, but for the two that are free
abbrev FreeOnly : (ℕ → ℕ) → (ℕ → ℕ) → Type 0
FreeOnly g g' = (q : ℕ) → (q == 29) ≡ false → (q == 30) ≡ false → g' q ≡ g q

abbrev stored_to : Past → Ask → Past
stored_to m ask = record { memory = after m.memory ask; log = logged m.log ask }

zero_twice : (t : Bool) (y : ℕ) → cond t 0 (cond t 0 y) ≡ cond t 0 y
zero_twice true y = refl
zero_twice false y = refl

swap : (f : ℕ → ℕ) (s v q : ℕ) (t : Bool) → (q == s) ≡ t → (s == 0) ≡ false → read (put (put (put f s v) 0 0) s (read f s)) q ≡ read f q
swap f s v q true e z = ap (λ x. if q == 0 then 0 else x) (rw (e, z) (ap f (sym (eq_of q s e))))
swap f s v q false e z = rw e (zero_twice (q == 0) (f q))

based_law : (w : World) (m : Past) (p q r s n : ℕ) (op : StoreOp) (offset : ℤ) (x : ℕ) (f g : ℕ → ℕ) → (s == 0) ≡ false → (r == s) ≡ false → (q == 29) ≡ false → Placed w.code p (based_code q op r offset s) → plus_offset (read f r) offset ≡ x
    → answer m.memory (Stores x (store_width op) (g q)) ≡ Ok n → ((g' : ℕ → ℕ) → FreeOnly g g' → Wins (in_memory w (stored_to m (Stores x (store_width op) (g q)))) (suc (suc (suc (suc p)))) f g') → Wins (in_memory w m) p f g
based_law w m p q r s n op offset x f g nonzero other free has at told next =
    let g1 = put g 29 (read f s) in
    let v = g1 q in
    let f1 = put f s v in
    let v_is : v ≡ g q = rw free refl in
    let base : read f1 r ≡ read f r = rw other refl in
    let carried : read f1 s ≡ v = read_put f s v (ne_of s 0 nonzero) in
    let made = Stores x (store_width op) (g q) in
    let ask : asked (Store op r s offset) f1 ≡ made = ap (λ y. Stores (plus_offset y offset) (store_width op) (read f1 s)) base ∙ ap (λ y. Stores y (store_width op) (read f1 s)) at ∙ ap (λ y. Stores x (store_width op) y) (carried ∙ v_is) in
    let p3 = suc (suc (suc p)) in
    put_law (in_memory w m) p f g 29 s has.0
    (get_law (in_memory w m) (suc p) f g1 s q has.1.0
    (plain_law (in_memory w m) (suc (suc p)) n f1 g1 (Store op r s offset) tt has.1.1.0 (ap (answer m.memory) ask ∙ told)
    (subst (λ k. Wins (in_memory w (stored_to m k)) p3 (put f1 0 0) g1) (sym ask)
    (get_law (in_memory w (stored_to m made)) p3 (put f1 0 0) g1 s 29 has.1.1.1.0
    (alike (in_memory w (stored_to m made)) (suc p3) (put (put f1 0 0) s (read f s)) f g1 g1 (λ y l. swap f s v y (y == s) refl nonzero) (λ y l. refl)
    (next g1 (λ y a b. rw a refl)))))))

unchanged : (f : ℕ → ℕ) (a b q : ℕ) (t u : Bool) → (q == 5) ≡ t → (q == 6) ≡ u → read (put (put (put (put (put f 5 a) 6 b) 0 0) 5 (read f 5)) 6 (read f 6)) q ≡ read f q
unchanged f a b q t true d e = ap (λ x. if q == 0 then 0 else x) (rw e (ap f (sym (eq_of q 6 e))))
unchanged f a b q true false d e = ap (λ x. if q == 0 then 0 else x) (rw (e, d) (ap f (sym (eq_of q 5 d))))
unchanged f a b q false false d e = rw (e, d) (zero_twice (q == 0) (f q))

known_law : (w : World) (m : Past) (p q n : ℕ) (op : StoreOp) (v : ℤ) (x : ℕ) (f g : ℕ → ℕ) → (q == 29) ≡ false → (q == 30) ≡ false → Placed w.code p (known_code q op v) → plus_offset (bits (high_part v)) (low_part v) ≡ x
    → answer m.memory (Stores x (store_width op) (g q)) ≡ Ok n → ((g' : ℕ → ℕ) → FreeOnly g g' → Wins (in_memory w (stored_to m (Stores x (store_width op) (g q)))) (suc (suc (suc (suc (suc (suc (suc p))))))) f g') → Wins (in_memory w m) p f g
known_law w m p q n op v x f g free free' has at told next =
    let g1 = put g 29 (read f 5) in
    let g2 = put g1 30 (read f 6) in
    let f1 = put f 5 (g2 q) in
    let high = bits (high_part v) in
    let f2 = put f1 6 high in
    let v_is : g2 q ≡ g q = rw (free', free) refl in
    let made = Stores x (store_width op) (g q) in
    let ask : asked (Store op 6 5 (low_part v)) f2 ≡ made = ap (λ y. Stores y (store_width op) (g2 q)) at ∙ ap (λ y. Stores x (store_width op) y) v_is in
    let p5 = suc (suc (suc (suc (suc p)))) in
    put_law (in_memory w m) p f g 29 5 has.0
    (put_law (in_memory w m) (suc p) f g1 30 6 has.1.0
    (get_law (in_memory w m) (suc (suc p)) f g2 5 q has.1.1.0
    (lui_law (in_memory w m) (suc (suc (suc p))) f1 g2 6 (high_part v) has.1.1.1.0
    (plain_law (in_memory w m) (suc (suc (suc (suc p)))) n f2 g2 (Store op 6 5 (low_part v)) tt has.1.1.1.1.0 (ap (answer m.memory) ask ∙ told)
    (subst (λ k. Wins (in_memory w (stored_to m k)) p5 (put f2 0 0) g2) (sym ask)
    (get_law (in_memory w (stored_to m made)) p5 (put f2 0 0) g2 5 29 has.1.1.1.1.1.0
    (get_law (in_memory w (stored_to m made)) (suc p5) (put (put f2 0 0) 5 (read f 5)) g2 6 30 has.1.1.1.1.1.1.0
    (alike (in_memory w (stored_to m made)) (suc (suc p5)) (put (put (put f2 0 0) 5 (read f 5)) 6 (read f 6)) f g2 g2 (λ y l. unchanged f (g2 q) high y (y == 5) (y == 6) refl refl) (λ y l. refl)
    (next g2 (λ y a b. rw (b, a) refl))))))))))

-- ---- all of them

stored_width : (wide : Bool) → store_width (cell_store wide) ≡ width_by wide
stored_width true = refl
stored_width false = refl

-- what a slot holds is what the memory of an arrival has in the cell
slot_bytes : (wide : Bool) (v n8 : ℕ) → v < 2 ^ 64 → in_slot wide v ≡ n8 → cut (bytes_of (width_by wide)) v ≡ n8
slot_bytes true v n lt e = cut8 v ∙ (let h : v % 2 ^ 64 ≡ v = omega arith in h) ∙ e
slot_bytes false v n lt e = cut4 v ∙ e

allowed_answer : (m : List Area) (x v : ℕ) (u : Width) → why writable_of m x u ≡ None → answer m (Stores x u v) ≡ Ok 0
allowed_answer m x v u e = ap (λ o. without_number (or_refusal o tt)) e

allowed_after : (m : List Area) (x v : ℕ) (u : Width) → why writable_of m x u ≡ None → after m (Stores x u v) ≡ with_number (bytes_of u) m x v
allowed_after m x v u e = ap (λ o. unless_refused o m (with_number (bytes_of u) m x v)) e

carrier_nonzero : (r : ℕ) → (carrier r == 0) ≡ false
carrier_nonzero r = go (r == 5)
  where
    go : (b : Bool) → ((if b then 6 else 5) == 0) ≡ false
    go true = refl
    go false = refl

carrier_other : (r : ℕ) → (r == carrier r) ≡ false
carrier_other r = go (r == 5) refl
  where
    go : (b : Bool) → (r == 5) ≡ b → (r == (if b then 6 else 5)) ≡ false
    go true e = let z = eq_of r 5 e in is_ne r 6 (λ y. absurd (omega arith))
    go false e = e

low_29 : (k : ℕ) → k < 16 → (k == 29) ≡ false
low_29 k h = is_ne k 29 (λ e. absurd (omega arith))

low_30 : (k : ℕ) → k < 16 → (k == 30) ≡ false
low_30 k h = is_ne k 30 (λ e. absurd (omega arith))

module _ (w : World) (l : Level) (B : LoopCode) (roles : ℕ → Role) (s : State) (p t b : ℕ) (body : IsBody l B) (d : IsDivided l B roles s p) (can : CanWriteBack B.cells roles s) (le : t ≤ p) (there : IsArrival l s t b)
    (f g0 : ℕ → ℕ) (small : (k : ℕ) → g0 k < 2 ^ 64) (bases : (r : ℕ) → r < 32 → read f r ≡ register (run s b).regs r)
    (slots : (k : ℕ) (c : Cell) → cell_at B.cells.cells k ≡ Some c → in_slot c.wide (g0 k) ≡ number_at (bytes_of (width_of c)) (run s b).memory (cell_address s.regs c)) where
  abbrev last : List Area
  last = (run s b).memory

  -- bytes of no stored cell from number k on
  abbrev Later : ℕ → ℕ → Type 0
  Later k z = (j : ℕ) (c : Cell) → k ≤ j → cell_at B.cells.cells j ≡ Some c → c.stored ≡ true → in_cell s c z ≡ false

  allowed_here : (m : List Area) (k : ℕ) (c : Cell) → SameAreas m last → cell_at B.cells.cells k ≡ Some c → c.stored ≡ true → why writable_of m (cell_address s.regs c) (width_of c) ≡ None
  allowed_here m k c same e st =
      writable_same m last (cell_address s.regs c) (width_of c) same ∙ sym (writable_same s.memory last (cell_address s.regs c) (width_of c) (areas_run s b)) ∙ can.allowed k c e st

  -- memory after one cell
  one_back : (m : List Area) (k : ℕ) (c : Cell) → Agree (Later k) m last → cell_at B.cells.cells k ≡ Some c → c.stored ≡ true → Agree (Later (suc k)) (after m (Stores (cell_address s.regs c) (width_of c) (g0 k))) last
  one_back m k c h e st =
      let x = cell_address s.regs c in
      let n = bytes_of (width_of c) in
      let allowed = allowed_here m k c h.areas e st in
      let is = allowed_after m x (g0 k) (width_of c) allowed in
      let same : SameAreas (with_number n m x (g0 k)) last = areas_trans (with_number n m x (g0 k)) m last (areas_sym m (with_number n m x (g0 k)) (with_number-areas n m x (g0 k))) h.areas in
      subst (λ y. Agree (Later (suc k)) y last) (sym is)
      (record { areas = same; bytes = λ z later. go z later (in_cell s c z) refl })
    where
      mapped : (y : ℕ) → cell_address s.regs c ≤ y → y < cell_address s.regs c + bytes_of (width_of c) → maps m y ≡ true
      mapped y lo hi =
          maps_same m last y h.areas ∙ mapped_bytes writable_of last (cell_address s.regs c) (width_of c) (whole_run s b d.whole) (sym (writable_same s.memory last (cell_address s.regs c) (width_of c) (areas_run s b)) ∙ can.allowed k c e st) y lo hi

      outside : (z : ℕ) → covers (cell_address s.regs c) (bytes_of (width_of c)) z ≡ false → (z < cell_address s.regs c) ⊎ (cell_address s.regs c + bytes_of (width_of c) ≤ z)
      outside z no' = by (cases_lt z (cell_address s.regs c)) (cases_lt z (cell_address s.regs c + bytes_of (width_of c)))
        where
          by : (z < cell_address s.regs c) ⊎ (cell_address s.regs c ≤ z) → (z < cell_address s.regs c + bytes_of (width_of c)) ⊎ (cell_address s.regs c + bytes_of (width_of c) ≤ z) → (z < cell_address s.regs c) ⊎ (cell_address s.regs c + bytes_of (width_of c) ≤ z)
          by (inl a) q = inl a
          by (inr a) (inr q) = inr q
          by (inr a) (inl q) = absurd (yes_no _ (covers_is (cell_address s.regs c) (bytes_of (width_of c)) z a q) no')

      go : (z : ℕ) → Later (suc k) z → (i : Bool) → in_cell s c z ≡ i → byte_at (with_number (bytes_of (width_of c)) m (cell_address s.regs c) (g0 k)) z ≡ byte_at last z
      go z later true i =
          let r = covers_in (cell_address s.regs c) (bytes_of (width_of c)) z i in
          written_byte (bytes_of (width_of c)) m last (cell_address s.regs c) (g0 k) z (slot_bytes c.wide (g0 k) (number_at (bytes_of (width_of c)) last (cell_address s.regs c)) (small k) (slots k c e)) (λ y. byte_below last y (sound_run s b d.registers d.bytes).1) mapped r.0 r.1
      go z later false i =
          byte_at-with_number (bytes_of (width_of c)) m (cell_address s.regs c) (g0 k) z (outside z i) ∙ h.bytes z (λ j q up is st'. by_number j q up is st' (cases_eq j k))
        where
          by_number : (j : ℕ) (q : Cell) → k ≤ j → cell_at B.cells.cells j ≡ Some q → q.stored ≡ true → (j ≡ k) ⊎ (j ≢ k) → in_cell s q z ≡ false
          by_number j q up is st' (inl same) = let z0 : Some c ≡ Some q = sym e ∙ ap (cell_at B.cells.cells) (sym same) ∙ is in subst (λ y. in_cell s y z ≡ false) (cell_same c q z0) i
          by_number j q up is st' (inr other) = later j q (omega arith) is st'

  -- the place of the register that a cell is at
  place_of : (k r : ℕ) (c : Cell) → r < 32 → cell_at B.cells.cells k ≡ Some c → c.stored ≡ true → c.base ≡ Some r → plus_offset (read f r) c.offset ≡ cell_address s.regs c
  place_of k r c low e st base =
      let kept = can.base k r c e st base in
      let value : register (run s b).regs r ≡ register s.regs r = sym (register_value' (run s b)) ∙ d.independent.locations.kept t b r le there kept ∙ register_value' s in
      ap (λ v. plus_offset v c.offset) (bases r low ∙ value) ∙ sym (ap (λ o. address_by s.regs o c.offset) base)
    where
      register_value' : (x : State) → value_of B.cells s.regs x r ≡ register x.regs r
      register_value' x = let q : nat_lt r 32 ≡ true = grind (arith, nat_tests) in ap (λ a. if a then register x.regs r else held s.regs (cell_at B.cells.cells (r - 32)) x.memory) q

  -- the words of one stored cell
  cell_back : (k q : ℕ) (c : Cell) (g : ℕ → ℕ) (m : Past) → Agree (Later k) m.memory last → cell_at B.cells.cells k ≡ Some c → c.stored ≡ true → g k ≡ g0 k → Placed w.code q (write_by k (cell_store c.wide) c.base c.offset)
      → ((g' : ℕ → ℕ) → FreeOnly g g' → Wins (in_memory w (stored_to m (Stores (cell_address s.regs c) (width_of c) (g0 k)))) (behind q (write_by k (cell_store c.wide) c.base c.offset)) f g') → Wins (in_memory w m) q f g
  cell_back k q c g m h e st same placed next = go c.base refl placed next
    where
      low : k < 16
      low = cell_16 (cell_at B.cells.cells k) c k (body.few.cells k) e

      made : Stores (cell_address s.regs c) (store_width (cell_store c.wide)) (g k) ≡ Stores (cell_address s.regs c) (width_of c) (g0 k)
      made = ap (λ u. Stores (cell_address s.regs c) u (g k)) (stored_width c.wide) ∙ ap (Stores (cell_address s.regs c) (width_of c)) same

      told : answer m.memory (Stores (cell_address s.regs c) (store_width (cell_store c.wide)) (g k)) ≡ Ok 0
      told = ap (answer m.memory) made ∙ allowed_answer m.memory (cell_address s.regs c) (g0 k) (width_of c) (allowed_here m.memory k c h.areas e st)

      go : (o : Option ℕ) → c.base ≡ o → Placed w.code q (write_by k (cell_store c.wide) o c.offset) → ((g' : ℕ → ℕ) → FreeOnly g g' → Wins (in_memory w (stored_to m (Stores (cell_address s.regs c) (width_of c) (g0 k)))) (behind q (write_by k (cell_store c.wide) o c.offset)) f g') → Wins (in_memory w m) q f g
      go (Some r) base has on =
          let small_r = fetched_small w.code (address (suc (suc q))) _ has.1.1.0 in
          based_law w m q k r (carrier r) 0 (cell_store c.wide) c.offset (cell_address s.regs c) f g (carrier_nonzero r) (carrier_other r) (low_29 k low) has (place_of k r c small_r.0 e st base) told
          (λ g' only. subst (λ a. Wins (in_memory w (stored_to m a)) (suc (suc (suc (suc q)))) f g') (sym made) (on g' only))
      go None base has on =
          let n = can.near k c e st base in
          let at : plus_offset (bits (high_part c.offset)) (low_part c.offset) ≡ cell_address s.regs c =
          ap (λ v. plus_offset (bits (high_part v)) (low_part v)) n.1 ∙ known_place n.0 n.2 ∙ word_small n.0 n.2 ∙ sym (ap word_of n.1) ∙ sym (ap (λ o. address_by s.regs o c.offset) base) in
          known_law w m q k 0 (cell_store c.wide) c.offset (cell_address s.regs c) f g (low_29 k low) (low_30 k low) has at told
          (λ g' only. subst (λ a. Wins (in_memory w (stored_to m a)) (suc (suc (suc (suc (suc (suc (suc q))))))) f g') (sym made) (on g' only))
        where
          word_small : (n : ℕ) → n < 2 ^ 31 - 2 ^ 11 → n ≡ word_of (pos n)
          word_small n lt = omega arith

  -- these are the cells from number k on
  abbrev Rest : ℕ → List Cell → Type 0
  Rest k cs = (j : ℕ) → cell_at B.cells.cells (k + j) ≡ cell_at cs j

  rest_head : (k : ℕ) (c : Cell) (cs : List Cell) → Rest k (c ∷ cs) → cell_at B.cells.cells k ≡ Some c
  rest_head k c cs h = let e : k + 0 ≡ k = omega arith in subst (λ n. cell_at B.cells.cells n ≡ Some c) e (h 0)

  rest_tail : (k : ℕ) (c : Cell) (cs : List Cell) → Rest k (c ∷ cs) → Rest (suc k) cs
  rest_tail k c cs h j = let e : k + suc j ≡ suc k + j = omega arith in subst (λ n. cell_at B.cells.cells n ≡ cell_at cs j) e (h (suc j))

  skipped : (m : List Area) (k : ℕ) (c : Cell) → cell_at B.cells.cells k ≡ Some c → c.stored ≡ false → Agree (Later k) m last → Agree (Later (suc k)) m last
  skipped m k c e st h = record { areas = h.areas; bytes = λ z later. h.bytes z (λ j q up is st'. by z later j q up is st' (cases_eq j k)) }
    where
      by : (z : ℕ) → Later (suc k) z → (j : ℕ) (q : Cell) → k ≤ j → cell_at B.cells.cells j ≡ Some q → q.stored ≡ true → (j ≡ k) ⊎ (j ≢ k) → in_cell s q z ≡ false
      by z later j q up is st' (inl same) =
          let z0 : Some c ≡ Some q = sym e ∙ ap (cell_at B.cells.cells) (sym same) ∙ is in
          let y = ap (λ (v : Cell). v.stored) (cell_same c q z0) in
          absurd (yes_no _ st' (sym y ∙ st))
      by z later j q up is st' (inr other) = later j q (omega arith) is st'

  pub cells_back : (cs : List Cell) (k q : ℕ) (g : ℕ → ℕ) (m : Past) → Rest k cs → ((j : ℕ) → j < 16 → g j ≡ g0 j) → Agree (Later k) m.memory last → Placed w.code q (write_back_code k cs)
      → ((g' : ℕ → ℕ) (m' : Past) → Agree (λ z. Unit {0}) m'.memory last → m'.log ≡ m.log ++ stores_back s.regs g0 k cs → Wins (in_memory w m') (behind q (write_back_code k cs)) f g') → Wins (in_memory w m) q f g
  cells_back [] k q g m rest same h placed next = next g m (record { areas = h.areas; bytes = λ z u. h.bytes z (none z) }) (sym (append-nil m.log))
    where
      none : (z : ℕ) → Later k z
      none z j c up is st = let e : k + (j - k) ≡ j = omega arith in let x : None ≡ Some c = sym (rest (j - k)) ∙ ap (cell_at B.cells.cells) e ∙ is in absurd (cc)
  cells_back (c ∷ cs) k q g m rest same h placed next = go c.stored refl placed next (λ q' g' m' same' h' placed' next'. cells_back cs (suc k) q' g' m' (rest_tail k c cs rest) same' h' placed' next')
    where
      here_is : cell_at B.cells.cells k ≡ Some c
      here_is = rest_head k c cs rest

      low : k < 16
      low = cell_16 (cell_at B.cells.cells k) c k (body.few.cells k) here_is

      go : (o : Bool) → c.stored ≡ o → Placed w.code q ((if o then write_by k (cell_store c.wide) c.base c.offset else []) ++ write_back_code (suc k) cs)
          → ((g' : ℕ → ℕ) (m' : Past) → Agree (λ z. Unit {0}) m'.memory last → m'.log ≡ m.log ++ ((if o then Stores (cell_address s.regs c) (width_of c) (g0 k) ∷ [] else []) ++ stores_back s.regs g0 (suc k) cs) → Wins (in_memory w m') (behind q ((if o then write_by k (cell_store c.wide) c.base c.offset else []) ++ write_back_code (suc k) cs)) f g')
          → ((q' : ℕ) (g' : ℕ → ℕ) (m' : Past) → ((j : ℕ) → j < 16 → g' j ≡ g0 j) → Agree (Later (suc k)) m'.memory last → Placed w.code q' (write_back_code (suc k) cs)
          → ((g'' : ℕ → ℕ) (m'' : Past) → Agree (λ z. Unit {0}) m''.memory last → m''.log ≡ m'.log ++ stores_back s.regs g0 (suc k) cs → Wins (in_memory w m'') (behind q' (write_back_code (suc k) cs)) f g'') → Wins (in_memory w m') q' f g')
          → Wins (in_memory w m) q f g
      go false st has on later = later q g m same (skipped m.memory k c here_is st h) has on
      go true st has on later =
          let code = write_by k (cell_store c.wide) c.base c.offset in
          let ask = Stores (cell_address s.regs c) (width_of c) (g0 k) in
          cell_back k q c g m h here_is st (same k low) (placed_front w.code q code (write_back_code (suc k) cs) has)
          (λ g' only. later (behind q code) g' (stored_to m ask) (λ j lt. only j (low_29 j lt) (low_30 j lt) ∙ same j lt) (one_back m.memory k c h here_is st) (placed_back w.code q code (write_back_code (suc k) cs) has)
          (λ g'' m'' all log. subst (λ n. Wins (in_memory w m'') n f g'') (behind-append q code (write_back_code (suc k) cs)) (on g'' m'' all (log ∙ append_assoc m.log (ask ∷ []) (stores_back s.regs g0 (suc k) cs)))))

pub leave_law : LeaveLaw
leave_law code l B roles s p t b q h body d can short stands le there begins holds agree =
    let words = write_back_code 0 B.cells.cells in
    let place = behind q words in
    let goal : Hart → Type 0 = Left code B.cells s b h place in
    let w = world_of code short 0 zero_near h goal in
    let m : Past = record { memory = h.memory; log = h.log } in
    let f = register h.regs in
    let g = slice_index h.slots in
    let front = placed_front code q words (Back ∷ []) stands in
    let back = placed_back code q words (Back ∷ []) stands in
    let bases : (r : ℕ) → r < 32 → read f r ≡ register (run s b).regs r = λ r low. sym (twice (r == 0) (slice_index h.regs r)) ∙ holds.registers r low tt in
    from_hart code short 0 zero_near goal q h begins
    (cells_back w l B roles s p t b body d can le there f g begins.slots.below bases (λ k c e. holds.cells k c e tt) B.cells.cells 0 q g m (λ j. let e : 0 + j ≡ j = omega arith in ap (cell_at B.cells.cells) e) (λ j lt. refl)
    (record { areas = agree.areas; bytes = λ z later. agree.bytes z (λ k c e st. later k c (omega arith) e st) }) front
    (λ g' m' all log. here (in_memory w m') place f g' (λ regs slots x y.
    record {
      at = refl;
      leaves = back.0;
      registers = λ r low. x.each r low ∙ bases r low;
      memory = all;
      log = log;
    })))
