-- A passage through the copies is a turn.
use Rattle.std.proofs.Common.{◌≡◌, ◌≢◌, ℕ, zero, suc, ◌+◌, ◌-◌, ◌^◌, ◌<◌, ◌≤◌, refl, sym, subst, ap, ◌∙◌, arith, Option, Some, None, Bool, true, false, cond, List, [], ◌∷◌, ◌++◌, ◌⊎◌, inl, inr, if◌then◌else◌}
use Rattle.std.specs.Prelude.{◌==◌, slice_index}
use Rattle.std.proofs.lemmas.Bool.{cases_lt}
use Rattle.std.proofs.lemmas.List.{append-nil}
use Rattle.rv64_decode.specs.Area.{number_at, bytes_of}
use Rattle.rv64_decode.specs.Hart.{Hart}
use Rattle.rv64_decode.specs.Registers.{register}
use Rattle.rv64_decode.specs.declared.outcome.Next.TheVariants.{At}
use Rattle.loop_data.specs.declared.shape.Level.{Level}
use Rattle.loop_data.specs.declared.verdict.Cell.{Cell}
use Rattle.loop_data.specs.Independent.{Role, Private}
use Rattle.loop_data.specs.Locations.{cell_at, address as cell_address, width_of, first_cell}
use Rattle.loop_data.specs.LoopCode.{LoopCode}
use Rattle.loop_data.specs.Nests.{has, Holds}
use Rattle.loop_data.specs.Runs.{State, run, walk, pc_in}
use Rattle.loop_data.specs.Turns.{turn, seen, arrives, IsArrival}
use Rattle.loop_data.proofs.FactWalks.{arrives_is}
use Rattle.loop_data.proofs.NestVisits.{goes_here, goes_to}
use Rattle.loop_data.proofs.Tests.{eq_of}
use Rattle.stub_laws.specs.Straight.{read}
use Rattle.stub_laws.proofs.Steps.{World, Wins}
use Rattle.stub_laws.proofs.Ends.{from_hart, here, world_of}
use Rattle.turn_copies.specs.Memories.{Agree, replayed}
use Rattle.turn_copies.specs.Copies.{Placing, Copies}
use Rattle.turn_copies.specs.Bodies.{IsBody, IsDivided}
use Rattle.turn_copies.specs.Passages.{VisitsLaw, in_slot, accesses_from, accesses_between, HasLocations, ReadsUnstored, no_slot, Passed, PassageLaw}
use Rattle.turn_copies.proofs.Visits.{turn_up, turn_next, seen_next, arrived, Known, known_at_end}
use Rattle.turn_copies.proofs.Following.{Past, in_memory, Follows}
use Rattle.turn_copies.proofs.Passing.{step_law}

-- at an arrival the turn has executed no word
seen_none : (l : Level) (s : State) (n : ℕ) → arrives l s n ≡ true → seen l s n ≡ []
seen_none l s zero e = refl
seen_none l s (suc n) e = seen_next l s n true e

-- the next arrival is the one of the next turn
next_arrival : (l : Level) (s : State) (t n b : ℕ) → turn l s (suc n) ≡ suc t → suc n ≤ b → IsArrival l s (suc t) b → suc n ≡ b
next_arrival l s t n zero tn le a = absurd (omega arith)
next_arrival l s t n (suc b) tn le a = go (cases_lt n b)
  where
    go : (n < b) ⊎ (b ≤ n) → suc n ≡ suc b
    go (inr h) = omega arith
    go (inl h) =
        let up = turn_up l s (suc n) b (omega arith) in
        let last = turn_next l s b true (arrived l s (suc t) (suc b) a) in
        let is = a.turn in
        absurd (omega arith)

-- the hart at the end of a turn
pub record Ended (B : LoopCode) (s : State) (a b : ℕ) (k : ℕ → ℕ) (start : Past) (f g : ℕ → ℕ) (m : Past) : Type 0 where
  pub same : (r : ℕ) → r < 32 → register (run s b).regs r ≡ read f r
  pub cells : (j : ℕ) (c : Cell) → cell_at B.cells.cells j ≡ Some c → in_slot c.wide (g j) ≡ number_at (bytes_of (width_of c)) (run s b).memory (cell_address s.regs c)
  pub others : (j : ℕ) → cell_at B.cells.cells j ≡ None → g j ≡ k j
  pub log : m.log ≡ start.log ++ accesses_between B.cells s a b
  pub memory : m.memory ≡ replayed start.memory (accesses_between B.cells s a b)

module _ (w : World) (l : Level) (B : LoopCode) (roles : ℕ → Role) (s : State) (p : ℕ) (body : IsBody l B) (d : IsDivided l B roles s p) (c : Placing) (copies : Copies w.code l B c)
    (t a b : ℕ) (k : ℕ → ℕ) (start : Past) (lt : t < p) (ends : IsArrival l s (suc t) b) where
  abbrev At_visit : ℕ → ℕ → List ℕ → (ℕ → ℕ) → (ℕ → ℕ) → Past → Type 0
  At_visit count n us f g m = Follows l B roles s t a count n us k start f g m

  abbrev End : Type 0
  End = (f g : ℕ → ℕ) (m : Past) → Ended B s a b k start f g m → Wins (in_memory w m) c.next f g

  next_at : (n : ℕ) → turn l s n ≡ t → (run s (suc n)).next ≡ At (walk s (suc n))
  next_at n tn = goes_here (λ pc. true) (run s (suc n)).next (d.independent.turns.onward n (omega arith))

  ended : (count n : ℕ) (f g : ℕ → ℕ) (m : Past) → a + count ≡ n → turn l s n ≡ t → arrives l s (suc n) ≡ true → suc n ≡ b → At_visit (suc count) (suc n) (walk s n ∷ seen l s n) f g m → Ended B s a b k start f g m
  ended count n f g m at tn arrives_there is h =
      let known : (r : ℕ) → Known B roles (walk s n ∷ seen l s n) r = λ r. known_at_end l B roles s p body d n r (omega arith) arrives_there in
      let many : b - a ≡ suc count = omega arith in
      record {
        same = λ r low. subst (λ x. register (run s x).regs r ≡ read f r) is (h.same.each r low (known r));
        cells = λ j e q. subst (λ x. in_slot e.wide (g j) ≡ number_at (bytes_of (width_of e)) (run s x).memory (cell_address s.regs e)) is (h.cells j e q (known (first_cell + j)));
        others = h.others;
        log = h.log ∙ ap (λ x. start.log ++ accesses_from B.cells s a x) (sym many);
        memory = h.memory ∙ ap (λ x. replayed start.memory (accesses_from B.cells s a x)) (sym many);
      }

  -- the word that ends the turn
  last_word : (count n : ℕ) (f g : ℕ → ℕ) (m : Past) → a + count ≡ n → n < b → turn l s n ≡ t → arrives l s (suc n) ≡ true → At_visit count n (seen l s n) f g m → End → Wins (in_memory w m) (c.place (walk s n)) f g
  last_word count n f g m at before tn there h end =
      let counted : turn l s (suc n) ≡ suc t = turn_next l s n true there ∙ ap suc tn in
      let is : suc n ≡ b = next_arrival l s t n b counted (omega arith) ends in
      let same : (walk s (suc n) == l.header) ≡ true = sym (arrives_is l s (suc n) (next_at n tn)) ∙ there in
      let inside : Holds l (walk s (suc n)) = subst (λ x. has l.body x ≡ true) (sym (eq_of (walk s (suc n)) l.header same)) body.header in
      step_law w l B roles s p body d c copies t a k start count n f g m at tn lt inside h
      (λ f' g' m' h'. subst (λ x. Wins (in_memory w m') x f' g') (sym (ap (λ e. if e then c.next else c.place (walk s (suc n))) same)) (end f' g' m' (ended count n f' g' m' at tn there is h')))

  -- any other
  inner_word : (count n : ℕ) (f g : ℕ → ℕ) (m : Past) → a + count ≡ n → turn l s n ≡ t → arrives l s (suc n) ≡ false → At_visit count n (seen l s n) f g m
      → ((f' g' : ℕ → ℕ) (m' : Past) → At_visit (suc count) (suc n) (seen l s (suc n)) f' g' m' → Wins (in_memory w m') (c.place (walk s (suc n))) f' g') → Wins (in_memory w m) (c.place (walk s n)) f g
  inner_word count n f g m at tn there h later =
      let counted : turn l s (suc n) ≡ t = turn_next l s n false there ∙ tn in
      let same : (walk s (suc n) == l.header) ≡ false = sym (arrives_is l s (suc n) (next_at n tn)) ∙ there in
      let inside : Holds l (walk s (suc n)) = goes_to (has l.body) (run s (suc n)).next (d.independent.turns.inside (suc n) (omega arith)) in
      step_law w l B roles s p body d c copies t a k start count n f g m at tn lt inside h
      (λ f' g' m' h'. subst (λ x. Wins (in_memory w m') x f' g') (sym (ap (λ e. if e then c.next else c.place (walk s (suc n))) same))
      (later f' g' m' (subst (λ us. At_visit (suc count) (suc n) us f' g' m') (sym (seen_next l s n false there)) h')))

  pub turn_law : (rest count n : ℕ) (f g : ℕ → ℕ) (m : Past) → a + count ≡ n → b ≡ n + suc rest → turn l s n ≡ t → At_visit count n (seen l s n) f g m → End → Wins (in_memory w m) (c.place (walk s n)) f g
  turn_law zero count n f g m at far tn h end =
      let is : suc n ≡ b = omega arith in
      last_word count n f g m at (omega arith) tn (subst (λ x. arrives l s x ≡ true) (sym is) (arrived l s (suc t) b ends)) h end
  turn_law (suc rest) count n f g m at far tn h end =
      go (arrives l s (suc n)) refl (λ there f' g' m' h'. turn_law rest (suc count) (suc n) f' g' m' (omega arith) (omega arith) (turn_next l s n false there ∙ tn) h' end)
    where
      go : (e : Bool) → arrives l s (suc n) ≡ e
          → (arrives l s (suc n) ≡ false → (f' g' : ℕ → ℕ) (m' : Past) → At_visit (suc count) (suc n) (seen l s (suc n)) f' g' m' → Wins (in_memory w m') (c.place (walk s (suc n))) f' g')
          → Wins (in_memory w m) (c.place (walk s n)) f g
      go true there later = last_word count n f g m at (omega arith) tn there h end
      go false there later = inner_word count n f g m at tn there h (later there)

pub twice : (t : Bool) (x : ℕ) → cond t 0 x ≡ cond t 0 (cond t 0 x)
twice true x = refl
twice false x = refl

pub below_32 : (o : Option Cell) (c : Cell) (k : ℕ) → (16 ≤ k → o ≡ None) → o ≡ Some c → k < 32
below_32 o c k few e = go (cases_lt k 16)
  where
    go : (k < 16) ⊎ (16 ≤ k) → k < 32
    go (inl h) = omega arith
    go (inr h) = let x = few h in absurd (cc)

pub zero_near : 0 ≤ 2 ^ 32
zero_near = omega arith

-- registers and slots of an arrival, as far as locations are known
pub record Holding (B : LoopCode) (s : State) (n : ℕ) (known : ℕ → Type 0) (f g : ℕ → ℕ) : Type 0 where
  pub same : (r : ℕ) → r < 32 → known r → register (run s n).regs r ≡ read f r
  pub cells : (j : ℕ) (c : Cell) → cell_at B.cells.cells j ≡ Some c → known (first_cell + j) → in_slot c.wide (g j) ≡ number_at (bytes_of (width_of c)) (run s n).memory (cell_address s.regs c)

pub held_by : (B : LoopCode) (s : State) (n : ℕ) (known : ℕ → Type 0) (h : Hart) → HasLocations B.cells s n known h → Holding B s n known (register h.regs) (slice_index h.slots)
held_by B s n known h x = record { same = λ r low kn. sym (x.registers r low kn) ∙ twice (r == 0) (slice_index h.regs r); cells = x.cells }

-- a whole turn, from arrival to arrival
pub one_turn : (w : World) (l : Level) (B : LoopCode) (roles : ℕ → Role) (s : State) (p t a b : ℕ) (c : Placing) (f g : ℕ → ℕ) (m : Past) → IsBody l B → IsDivided l B roles s p → Copies w.code l B c → t < p → IsArrival l s t a → IsArrival l s (suc t) b
    → Holding B s a (λ r. roles r ≢ Private) f g → Agree (ReadsUnstored l B.cells s t) (run s a).memory m.memory
    → ((f' g' : ℕ → ℕ) (m' : Past) → Ended B s a b g m f' g' m' → Wins (in_memory w m') c.next f' g') → Wins (in_memory w m) (c.place l.header) f g
one_turn w l B roles s p t a b c f g m body d copies lt starts ends holding agree next =
    let at : walk s a ≡ l.header = ap pc_in starts.at in
    let none : seen l s a ≡ [] = seen_none l s a (arrived l s t a starts) in
    let first : Follows l B roles s t a 0 a [] g m f g m =
    record {
      same = record { each = λ r low kn. holding.same r low (open_role r kn) };
      cells = λ j e q kn. holding.cells j e q (open_role (first_cell + j) kn);
      others = λ j q. refl;
      agree = agree;
      log = sym (append-nil m.log);
      memory = refl;
    } in
    let before : a < b = ordered (cases_lt a b) in
    subst (λ x. Wins (in_memory w m) x f g) (ap c.place at)
    (turn_law w l B roles s p body d c copies t a b g m lt ends (b - suc a) 0 a f g m (omega arith) (omega arith) starts.turn
    (subst (λ us. Follows l B roles s t a 0 a us g m f g m) (sym none) first) next)
  where
    open_role : (r : ℕ) → Known B roles [] r → roles r ≢ Private
    open_role r (inl h) = h
    open_role r (inr h) = absurd (cc)

    ordered : (a < b) ⊎ (b ≤ a) → a < b
    ordered (inl h) = h
    ordered (inr h) =
        let up = turn_up l s b a h in
        let x = starts.turn in
        let y = ends.turn in
        absurd (omega arith)

pub passage_law : PassageLaw
passage_law code l B roles s p t a b c h body d short copies lt starts ends begins =
    let goal : Hart → Type 0 = Passed B.cells s a b no_slot h c.next in
    let w = world_of code short 0 zero_near h goal in
    let m : Past = record { memory = h.memory; log = h.log } in
    from_hart code short 0 zero_near goal (c.place l.header) h begins.at
    (one_turn w l B roles s p t a b c (register h.regs) (slice_index h.slots) m body d copies lt starts ends (held_by B s a (λ r. roles r ≢ Private) h begins.holds) begins.memory
    (λ f g m' e. here (in_memory w m') c.next f g (λ regs slots x y.
    record {
      at = refl;
      holds = record {
        registers = λ r low kn. x.each r low ∙ sym (e.same r low);
        cells = λ j q is kn. ap (in_slot q.wide) (y.each j (below_32 (cell_at B.cells.cells j) q j (body.few.cells j) is)) ∙ e.cells j q is;
      };
      slots = λ j low q free. y.each j low ∙ e.others j q;
      log = e.log;
      memory = e.memory;
    })))

-- an arrival's visits have its number
pub visits_law : VisitsLaw
visits_law l s t a b n first next low high = go n low high (cases_lt (turn l s n) (suc t))
  where
    go : (n : ℕ) → a ≤ n → n < b → (turn l s n < suc t) ⊎ (suc t ≤ turn l s n) → turn l s n ≡ t
    go n low high (inl k) =
        let up = turn_up l s a n low in
        let is = first.turn in
        omega (arith, up, is, k)
    go zero low high (inr k) =
        absurd (omega arith)
    go (suc n) low high (inr k) =
        let up = turn_up l s (suc n) b (omega arith) in
        let is = next.turn in
        let same : turn l s (suc n) ≡ suc t = omega (arith, up, is, k) in
        let there = next_arrival l s t n b same (omega arith) next in
        absurd (omega (arith, there, high))
