-- Several turns of one hart, one after the other.
use Rattle.std.proofs.Common.{◌≡◌, ◌≢◌, ℕ, zero, suc, ◌+◌, ◌-◌, ◌%◌, ◌^◌, ◌<◌, ◌≤◌, refl, sym, subst, ap, ◌∙◌, arith, negsuc, Option, Some, None, Bool, true, false, cond, List, ◌++◌, ◌⊎◌, inl, inr, if◌then◌else◌}
use Rattle.std.specs.Prelude.{◌==◌, ◌||◌, slice_index}
use Rattle.std.specs.Int.{w64, cast_unsigned}
use Rattle.std.proofs.lemmas.Bool.{cases_lt, eqb-true}
use Rattle.std.proofs.lemmas.Bool.Decides.{nat_tests}
use Rattle.std.proofs.lemmas.List.{append-nil, append_assoc}
use Rattle.rv64_decode.specs.Area.{Area, why, writable_of, unless_refused, bytes_of, or_refusal, with_number}
use Rattle.rv64_decode.specs.Ask.{Ask, Nothing, Loads, Stores, after, without_number}
use Rattle.rv64_decode.specs.Hart.{Hart, logged}
use Rattle.rv64_decode.specs.Registers.{register}
use Rattle.rv64_decode.specs.Row.{asks}
use Rattle.rv64_decode.specs.declared.memory.MemFault.{MemFault}
use Rattle.rv64_decode.specs.declared.instr.BranchOp.TheVariants.{Beq}
use Rattle.rv64_decode.specs.declared.instr.ImmOp.TheVariants.{Addi}
use Rattle.loop_data.specs.declared.shape.Level.{Level}
use Rattle.loop_data.specs.declared.verdict.Cell.{Cell}
use Rattle.loop_data.specs.Independent.{Role, Private, in_cell, IsOutside}
use Rattle.loop_data.specs.Locations.{cell_at}
use Rattle.loop_data.specs.LoopCode.{LoopCode}
use Rattle.loop_data.specs.Runs.{State, run, walk, access, granted, unless_denied}
use Rattle.loop_data.specs.Turns.{turn, IsArrival, stores_byte}
use Rattle.loop_data.proofs.Tests.{eq_of, yes_no}
use Rattle.stub_laws.specs.Straight.{read, put}
use Rattle.stub_laws.proofs.Steps.{World, Wins, alike, put_law, get_law, imm_law, branch_law, jal_law}
use Rattle.stub_laws.proofs.Ends.{from_hart, here, world_of}
use Rattle.turn_copies.specs.Memories.{Agree, replayed}
use Rattle.turn_copies.specs.Copies.{Placed, Placing, Copies}
use Rattle.turn_copies.specs.StubCode.{next_code, join_place}
use Rattle.turn_copies.specs.Bodies.{IsBody, IsDivided}
use Rattle.turn_copies.specs.Passages.{in_slot, unless_of_cell, outside_access, accesses_from, accesses_between, ReadsUnstored, counting_slot, Passed, TurnsLaw}
use Rattle.turn_copies.proofs.Agreeing.{agree_hidden, agree_written, agree_refl, agree_trans, agree_sym, replayed-append}
use Rattle.turn_copies.proofs.Visits.{turn_up, turn_next, arrived, covers_is, visited}
use Rattle.turn_copies.proofs.Following.{Past, in_memory, logged_append, replayed_logged}
use Rattle.turn_copies.proofs.Turns.{Ended, Holding, held_by, one_turn, zero_near, below_32}

-- ---- accesses of several turns

pub accesses_join : (B : LoopCode) (s : State) (a n k : ℕ) → accesses_from B.cells s a (n + k) ≡ accesses_from B.cells s a n ++ accesses_from B.cells s (a + n) k
accesses_join B s a n zero = let e : n + 0 ≡ n = omega arith in ap (accesses_from B.cells s a) e ∙ sym (append-nil (accesses_from B.cells s a n))
accesses_join B s a n (suc k) =
    let e : n + suc k ≡ suc (n + k) = omega arith in
    let d : a + (n + k) ≡ a + n + k = omega arith in
    ap (accesses_from B.cells s a) e ∙ ap (λ x. logged (accesses_from B.cells s a (n + k)) (outside_access B.cells s x)) d
    ∙ ap (λ xs. logged xs (outside_access B.cells s (a + n + k))) (accesses_join B s a n k) ∙ logged_append (accesses_from B.cells s a n) (accesses_from B.cells s (a + n) k) (outside_access B.cells s (a + n + k))

pub between_join : (B : LoopCode) (s : State) (a b c : ℕ) → a ≤ b → b ≤ c → accesses_between B.cells s a b ++ accesses_between B.cells s b c ≡ accesses_between B.cells s a c
between_join B s a b c h k =
    let e : b - a + (c - b) ≡ c - a = omega arith in
    let d : a + (b - a) ≡ b = omega arith in
    sym (sym (ap (accesses_from B.cells s a) e) ∙ accesses_join B s a (b - a) (c - b) ∙ ap (λ x. accesses_from B.cells s a (b - a) ++ accesses_from B.cells s x (c - b)) d)

-- ---- bytes that are left

-- an access that stores to none of these bytes
quiet_ask : (at : ℕ → Type 0) (m : List Area) (ask : Ask) → ((z : ℕ) → stores_byte ask z ≡ true → at z → ⊥) → Agree at (after m ask) m
quiet_ask at m Nothing h = agree_refl at m
quiet_ask at m (Loads x w) h = agree_refl at m
quiet_ask at m (Stores x w v) h = agree_hidden at m m x v w (λ z lo hi k. h z (covers_is x (bytes_of w) z lo hi) k) (agree_refl at m)

-- one that is granted
quiet_granted : (at : ℕ → Type 0) (m : List Area) (ask : Ask) → ((z : ℕ) → stores_byte (granted m ask) z ≡ true → at z → ⊥) → Agree at (after m ask) m
quiet_granted at m Nothing h = agree_refl at m
quiet_granted at m (Loads x w) h = agree_refl at m
quiet_granted at m (Stores x w v) h = go (why writable_of m x w) h
  where
    go : (o : Option MemFault) → ((z : ℕ) → stores_byte (unless_denied (without_number (or_refusal o tt)) (Stores x w v)) z ≡ true → at z → ⊥) → Agree at (unless_refused o m (with_number (bytes_of w) m x v)) m
    go (Some f) k = agree_refl at m
    go None k = agree_written at m (bytes_of w) x v (λ z lo hi y. k z (covers_is x (bytes_of w) z lo hi) y)

quiet_accesses : (B : LoopCode) (s : State) (a : ℕ) (at : ℕ → Type 0) (m : List Area) (n : ℕ) → ((j : ℕ) → j < n → (z : ℕ) → stores_byte (outside_access B.cells s (a + j)) z ≡ true → at z → ⊥) → Agree at (replayed m (accesses_from B.cells s a n)) m
quiet_accesses B s a at m zero h = agree_refl at m
quiet_accesses B s a at m (suc n) h =
    let before = quiet_accesses B s a at m n (λ j lt. h j (omega arith)) in
    let ask = outside_access B.cells s (a + n) in
    let m1 = replayed m (accesses_from B.cells s a n) in
    subst (λ x. Agree at x m) (sym (replayed_logged m (accesses_from B.cells s a n) ask)) (agree_trans at (after m1 ask) m1 m (quiet_ask at m1 ask (h n (omega arith))) before)

module _ (l : Level) (B : LoopCode) (roles : ℕ → Role) (s : State) (p : ℕ) (body : IsBody l B) (d : IsDivided l B roles s p) where
  -- a byte that turn t reads and that is in no stored cell is written in no other turn
  unwritten_elsewhere : (t n z : ℕ) → t < p → turn l s n < p → turn l s n ≢ t → ReadsUnstored l B.cells s t z → stores_byte (access (run s n)) z ≡ true → ⊥
  unwritten_elsewhere t n z lt early other reads stores = d.independent.apart.reads (turn l s n) t z early lt other (record { at = n; turn = refl; stores = stores }) outside reads.0
    where
      outside : IsOutside B.cells s z
      outside k c q = go (in_cell s c z) c.stored refl refl
        where
          go : (i st : Bool) → in_cell s c z ≡ i → c.stored ≡ st → in_cell s c z ≡ false
          go false st e f = e
          go true true e f = reads.1 k c q f
          go true false e f = absurd (yes_no _ stores (d.independent.cells.written n k z c early q f e))

  -- the original's bytes that turn t reads are at its arrival those of the first memory
  original_left : (t n : ℕ) → t < p → ((m : ℕ) → m < n → turn l s m < t) → Agree (ReadsUnstored l B.cells s t) (run s n).memory s.memory
  original_left t zero lt before = agree_refl (ReadsUnstored l B.cells s t) s.memory
  original_left t (suc n) lt before =
      let at = ReadsUnstored l B.cells s t in
      let early = before n (omega arith) in
      let v = visited l B roles s p body d n (omega arith) in
      let i = v.0 in
      let quiet = quiet_granted at (run s n).memory (asks i (run s n).regs) (λ z stores reads. unwritten_elsewhere t n z lt (omega arith) (λ e. absurd (omega arith)) reads (ap (λ y. stores_byte y z) (v.1).access_is ∙ stores)) in
      agree_trans at (run s (suc n)).memory (run s n).memory s.memory (subst (λ m. Agree at m (run s n).memory) (sym (v.1).memory_next) quiet) (original_left t n lt (λ m k. before m (omega arith)))

  outside_stores : (n z : ℕ) → stores_byte (outside_access B.cells s n) z ≡ true → stores_byte (access (run s n)) z ≡ true
  outside_stores n z e = go (B.cells.uses (walk s n)) e
    where
      go : (o : Option ℕ) → stores_byte (unless_of_cell o (access (run s n))) z ≡ true → stores_byte (access (run s n)) z ≡ true
      go None h = h
      go (Some k) h = absurd (cc)

  -- and those of a memory after accesses of other turns those before
  hart_left : (t a n : ℕ) (m : List Area) → t < p → ((j : ℕ) → j < n → turn l s (a + j) < t) → Agree (ReadsUnstored l B.cells s t) (replayed m (accesses_from B.cells s a n)) m
  hart_left t a n m lt before =
      quiet_accesses B s a (ReadsUnstored l B.cells s t) m n
      (λ j k z stores reads. let early = before j k in unwritten_elsewhere t (a + j) z lt (omega arith) (λ e. absurd (omega arith)) reads (outside_stores (a + j) z stores))

  -- visits before an arrival are of lower turns
  pub before_arrival : (t b m : ℕ) → IsArrival l s t b → m < b → turn l s m < t
  before_arrival t zero m a h = absurd (omega arith)
  before_arrival t (suc b) m a h =
      let up = turn_up l s m b (omega arith) in
      let next = turn_next l s b true (arrived l s t (suc b) a) in
      let is = a.turn in
      omega arith

-- ---- the words between two turns

abbrev counted : (ℕ → ℕ) → ℕ → ℕ → ℕ → ℕ
counted g x k = put (put g 29 x) 28 k

restored : (f : ℕ → ℕ) (a b q : ℕ) (t : Bool) → (q == 5) ≡ t → cond (q == 5) (read f 5) (cond (q == 5) a (cond (q == 5) b (f q))) ≡ f q
restored f a b q true e = rw e (ap f (sym (eqb-true q 5 e)))
restored f a b q false e = rw e refl

next_law : (w : World) (p body k : ℕ) (f g : ℕ → ℕ) → Placed w.code p (next_code p body) → body ≤ 2 ^ 32 → g 28 ≡ suc k → k < 2 ^ 32
    → (k ≡ 0 → Wins w (join_place p) f (counted g (read f 5) k)) → (k ≢ 0 → Wins w body f (counted g (read f 5) k)) → Wins w p f g
next_law w p body k f g at near is small done more =
    let g1 = put g 29 (read f 5) in
    let f1 = put f 5 (g 28) in
    let less = (g 28 + cast_unsigned w64 (negsuc 0)) % 2 ^ 64 in
    let f2 = put f1 5 less in
    let g2 = put g1 28 less in
    let f3 = put f2 5 (read f 5) in
    let value : less ≡ k = ap (λ x. (x + cast_unsigned w64 (negsuc 0)) % 2 ^ 64) is ∙ minus k small in
    let slots : (q : ℕ) → Wins w q f (counted g (read f 5) k) → Wins w q f3 g2 = λ q x.
    alike w q f3 f g2 (counted g (read f 5) k) (λ y l. ap (λ z. if y == 0 then 0 else z) (restored f less (g 28) y (y == 5) refl)) (λ y l. ap (λ z. put g1 28 z y) value) x in
    put_law w p f g 29 5 at.0
    (get_law w (suc p) f g1 5 28 at.1.0
    (imm_law w (suc (suc p)) f1 g1 Addi 5 5 (negsuc 0) at.1.1.0
    (put_law w (suc (suc (suc p))) f2 g1 28 5 at.1.1.1.0
    (branch_law w (suc (suc (suc (suc p)))) f2 g2 Beq 5 0 3 at.1.1.1.1.0 (omega arith)
    (λ t. get_law w (suc (suc (suc (suc (suc (suc (suc p))))))) f2 g2 5 29 at.1.1.1.1.1.1.1.0 (slots (join_place p) (done (sym value ∙ eqb-true less 0 t))))
    (λ t. get_law w (suc (suc (suc (suc (suc p))))) f2 g2 5 29 at.1.1.1.1.1.0
    (jal_law w (suc (suc (suc (suc (suc (suc p)))))) body f3 g2 at.1.1.1.1.1.1.0 near (slots body (more (λ z. clash less (value ∙ z) t)))))))))
  where
    minus : (k : ℕ) → k < 2 ^ 32 → (suc k + cast_unsigned w64 (negsuc 0)) % 2 ^ 64 ≡ k
    minus k h = omega arith

    clash : (n : ℕ) → n ≡ 0 → (n == 0) ≡ false → ⊥
    clash n e t = absurd (grind (arith, nat_tests))

counted_same : (g : ℕ → ℕ) (x k q : ℕ) → counting_slot q ≡ false → counted g x k q ≡ g q
counted_same g x k q e = go (q == 28) (q == 29) refl refl e
  where
    go : (a b : Bool) → (q == 28) ≡ a → (q == 29) ≡ b → (a || b) ≡ false → (if q == 28 then k else (if q == 29 then x else g q)) ≡ g q
    go true b y z h = absurd (cc)
    go false true y z h = absurd (cc)
    go false false y z h = rw (y, z) refl

low_slot : (q : ℕ) → q < 16 → counting_slot q ≡ false
low_slot q h = go (q == 28) (q == 29) refl refl
  where
    go : (a b : Bool) → (q == 28) ≡ a → (q == 29) ≡ b → (a || b) ≡ false
    go true b y z = let e = eq_of q 28 y in absurd (omega arith)
    go false true y z = let e = eq_of q 29 z in absurd (omega arith)
    go false false y z = refl

cell_low : (o : Option Cell) (c : Cell) (k : ℕ) → (16 ≤ k → o ≡ None) → o ≡ Some c → k < 16
cell_low o c k few e = go (cases_lt k 16)
  where
    go : (k < 16) ⊎ (16 ≤ k) → k < 16
    go (inl h) = h
    go (inr h) = let x = few h in absurd (cc)

-- ---- the turns of a block

-- a hart that has executed the turns from visit a on, and is at arrival visit n
pub record Own (B : LoopCode) (s : State) (a n : ℕ) (k : ℕ → ℕ) (start : Past) (f g : ℕ → ℕ) (m : Past) : Type 0 where
  pub holds : Holding B s n (λ r. Unit {0}) f g
  pub others : (j : ℕ) → cell_at B.cells.cells j ≡ None → counting_slot j ≡ false → g j ≡ k j
  pub log : m.log ≡ start.log ++ accesses_between B.cells s a n
  pub memory : m.memory ≡ replayed start.memory (accesses_between B.cells s a n)

module _ (w : World) (l : Level) (B : LoopCode) (roles : ℕ → Role) (s : State) (p : ℕ) (body : IsBody l B) (d : IsDivided l B roles s p) (c : Placing) (copies : Copies w.code l B c)
    (next_at : Placed w.code c.next (next_code c.next (c.place l.header))) (a i : ℕ) (starts : IsArrival l s i a) (k : ℕ → ℕ) (start : Past) (fork : start.memory ≡ s.memory) where
  -- what the turn reads is in the hart's memory as in the original's
  agrees : (t n : ℕ) (m : Past) → i ≤ t → t < p → IsArrival l s t n → m.memory ≡ replayed start.memory (accesses_between B.cells s a n) → a ≤ n → Agree (ReadsUnstored l B.cells s t) (run s n).memory m.memory
  agrees t n m le lt here is up =
      let at = ReadsUnstored l B.cells s t in
      let left = original_left l B roles s p body d t n lt (λ j h. before_arrival l B roles s p body d t n j here h) in
      let right = hart_left l B roles s p body d t a (n - a) start.memory lt (λ j h. before_arrival l B roles s p body d t n (a + j) here (omega arith)) in
      agree_trans at (run s n).memory s.memory m.memory left (agree_sym at m.memory s.memory (subst (λ x. Agree at m.memory x) fork (subst (λ x. Agree at x start.memory) (sym is) right)))

  counts : (n x y : ℕ) (f g : ℕ → ℕ) (m : Past) → Own B s a n k start f g m → Own B s a n k start f (counted g x y) m
  counts n x y f g m h =
      record {
        holds = record { same = h.holds.same; cells = λ j e q kn. ap (in_slot e.wide) (counted_same g x y j (low_slot j (cell_low (cell_at B.cells.cells j) e j (body.few.cells j) q))) ∙ h.holds.cells j e q kn };
        others = λ j q free. counted_same g x y j free ∙ h.others j q free;
        log = h.log;
        memory = h.memory;
      }

  -- one more turn
  further : (t n b : ℕ) (f g f' g' : ℕ → ℕ) (m m' : Past) → a ≤ n → n ≤ b → ((j : ℕ) → cell_at B.cells.cells j ≡ None → counting_slot j ≡ false → g j ≡ k j) → m.log ≡ start.log ++ accesses_between B.cells s a n → m.memory ≡ replayed start.memory (accesses_between B.cells s a n)
      → Ended B s n b g m f' g' m' → Own B s a b k start f' g' m'
  further t n b f g f' g' m m' low high others log memory e =
      let joined = between_join B s a n b low high in
      record {
        holds = record { same = λ r x kn. e.same r x; cells = λ j q is kn. e.cells j q is };
        others = λ j q free. e.others j q ∙ others j q free;
        log = e.log ∙ ap (λ x. x ++ accesses_between B.cells s n b) log ∙ append_assoc start.log (accesses_between B.cells s a n) (accesses_between B.cells s n b) ∙ ap (λ x. start.log ++ x) joined;
        memory = e.memory ∙ ap (λ x. replayed x (accesses_between B.cells s n b)) memory ∙ sym (replayed-append start.memory (accesses_between B.cells s a n) (accesses_between B.cells s n b)) ∙ ap (replayed start.memory) joined;
      }

  rises : (t n b : ℕ) → IsArrival l s t n → IsArrival l s (suc t) b → n ≤ b
  rises t n b x y = go (cases_lt b n)
    where
      go : (b < n) ⊎ (n ≤ b) → n ≤ b
      go (inr h) = h
      go (inl h) = let u = turn_up l s b n (omega arith) in let e = x.turn in let f = y.turn in absurd (omega arith)

  -- a hart at arrival t, whose next turn it is, with y + 1 turns left
  pub turns_law : (y t n b : ℕ) (f g : ℕ → ℕ) (m : Past) → i ≤ t → t + suc y ≤ p → y < 2 ^ 32 → a ≤ n → IsArrival l s t n → IsArrival l s (t + suc y) b → g 28 ≡ suc y → Holding B s n (λ r. roles r ≢ Private) f g
      → ((j : ℕ) → cell_at B.cells.cells j ≡ None → counting_slot j ≡ false → g j ≡ k j) → m.log ≡ start.log ++ accesses_between B.cells s a n → m.memory ≡ replayed start.memory (accesses_between B.cells s a n)
      → ((f' g' : ℕ → ℕ) (m' : Past) → Own B s a b k start f' g' m' → Wins (in_memory w m') (join_place c.next) f' g') → Wins (in_memory w m) (c.place l.header) f g
  turns_law zero t n b f g m le room small up here ends left holds others log memory end =
      let ends' : IsArrival l s (suc t) b = subst (λ x. IsArrival l s x b) (omega arith) ends in
      one_turn w l B roles s p t n b c f g m body d copies (omega arith) here ends' holds (agrees t n m le (omega arith) here memory up)
      (λ f' g' m' e.
      let own = further t n b f g f' g' m m' up (rises t n b here ends') others log memory e in
      next_law (in_memory w m') c.next (c.place l.header) 0 f' g' next_at (copies.near l.header) (e.others 28 (body.few.cells 28 (omega arith)) ∙ left) small
      (λ none. end f' (counted g' (read f' 5) 0) m' (counts b (read f' 5) 0 f' g' m' own))
      (λ some. absurd (some refl)))
  turns_law (suc y) t n b f g m le room small up here ends left holds others log memory end =
      let next = d.independent.turns.exist (suc t) (omega arith) in
      let rise = rises t n next.0 here next.1 in
      one_turn w l B roles s p t n next.0 c f g m body d copies (omega arith) here next.1 holds (agrees t n m le (omega arith) here memory up)
      (λ f' g' m' e.
      let own = further t n next.0 f g f' g' m m' up rise others log memory e in
      let g2 = counted g' (read f' 5) (suc y) in
      let own' = counts next.0 (read f' 5) (suc y) f' g' m' own in
      next_law (in_memory w m') c.next (c.place l.header) (suc y) f' g' next_at (copies.near l.header) (e.others 28 (body.few.cells 28 (omega arith)) ∙ left) small
      (λ none. absurd (cc))
      (λ some. turns_law y (suc t) next.0 b f' g2 m' (omega arith) (omega arith) (omega arith) (omega arith) next.1 (subst (λ x. IsArrival l s x b) (omega arith) ends) refl
      (record { same = λ r x kn. own'.holds.same r x tt; cells = λ j q is kn. own'.holds.cells j q is tt }) own'.others own'.log own'.memory end))

pub block_turns : TurnsLaw
block_turns code l B roles s p i n a b c h body d short copies at room small starts ends begins holds fork left =
    let goal : Hart → Type 0 = Passed B.cells s a b counting_slot h (join_place c.next) in
    let w = world_of code short 0 zero_near h goal in
    let m : Past = record { memory = h.memory; log = h.log } in
    let none : a - a ≡ 0 = omega arith in
    from_hart code short 0 zero_near goal (c.place l.header) h begins
    (turns_law w l B roles s p body d c copies at a i starts (slice_index h.slots) m fork n i a b (register h.regs) (slice_index h.slots) m (omega arith) room small (omega arith) starts ends left (held_by B s a (λ r. roles r ≢ Private) h holds)
    (λ j q free. refl) (sym (ap (λ x. h.log ++ accesses_from B.cells s a x) none ∙ append-nil h.log)) (sym (ap (λ x. replayed h.memory (accesses_from B.cells s a x)) none))
    (λ f g m' o. here (in_memory w m') (join_place c.next) f g (λ regs slots x y.
    record {
      at = refl;
      holds = record {
        registers = λ r low kn. x.each r low ∙ sym (o.holds.same r low tt);
        cells = λ j q is kn. ap (in_slot q.wide) (y.each j (below_32 (cell_at B.cells.cells j) q j (body.few.cells j) is)) ∙ o.holds.cells j q is tt;
      };
      slots = λ j low q free. y.each j low ∙ o.others j q free;
      log = o.log;
      memory = o.memory;
    })))
