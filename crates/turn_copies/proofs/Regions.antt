-- From the fork to the join: a hart executes the turns of its block.
use Rattle.std.proofs.Common.{◌≡◌, ◌≢◌, ℕ, zero, suc, ◌+◌, ◌-◌, ◌*◌, ◌%◌, ◌^◌, ◌<◌, ◌≤◌, refl, sym, subst, ap, ◌∙◌, arith, ℤ, pos, ◌+ℤ◌, ◌*ℤ◌, Option, Some, None, Bool, true, false, [], ◌∷◌, ◌++◌, ◌⊎◌, inl, inr, if◌then◌else◌}
use Rattle.std.specs.Prelude.{◌==◌, nat_lt, slice_index}
use Rattle.std.proofs.lemmas.Bool.{cases_lt}
use Rattle.std.proofs.lemmas.Bool.Decides.{nat_tests}
use Rattle.std.proofs.lemmas.Int.{ints}
use Rattle.std.proofs.lemmas.List.{append-nil}
use Rattle.rv64_decode.specs.Area.{number_at, bytes_of}
use Rattle.rv64_decode.specs.Hart.{Hart}
use Rattle.rv64_decode.specs.Range.{AreBytes}
use Rattle.rv64_decode.specs.Registers.{register}
use Rattle.rv64_decode.specs.Row.{extended32}
use Rattle.rv64_decode.proofs.Sound.{register_below, number_4}
use Rattle.linear_forms.specs.Forms.{word_of}
use Rattle.linear_forms.proofs.Sums.{alike_from, word_is}
use Rattle.linear_forms.proofs.Values.{sum_alike}
use Rattle.loop_data.specs.declared.shape.Level.{Level}
use Rattle.loop_data.specs.declared.verdict.Cell.{Cell}
use Rattle.loop_data.specs.Independent.{Role, Keeps, Moves, Private}
use Rattle.loop_data.specs.Locations.{cell_at, address as cell_address, width_of, content, held as held_in, value_of, width_by}
use Rattle.loop_data.specs.LoopCode.{LoopCode}
use Rattle.loop_data.specs.Runs.{State, run}
use Rattle.loop_data.specs.Turns.{IsArrival}
use Rattle.stub_laws.specs.Harts.{IsHartAt}
use Rattle.stub_laws.specs.Locations.{slot_of, held_by}
use Rattle.stub_laws.specs.Places.{behind}
use Rattle.stub_laws.specs.Straight.{AreSimple}
use Rattle.stub_laws.proofs.Ends.{from_hart, here, world_of}
use Rattle.stub_laws.proofs.Known.{seen, Knows}
use Rattle.stub_laws.proofs.Steps.{Wins, behind-append, jal_law}
use Rattle.stub_laws.proofs.Straight.{straight_law}
use Rattle.check_numbers.specs.Parts.{bits}
use Rattle.check_numbers.specs.Sums.{IsShort}
use Rattle.check_numbers.proofs.Sums.{product_alike}
use Rattle.turn_copies.specs.Memories.{replayed}
use Rattle.turn_copies.specs.Copies.{jump_to}
use Rattle.turn_copies.specs.StubCode.{fork_code, movings, advances_code, restore_code, join_place}
use Rattle.turn_copies.specs.Bodies.{IsBody, IsDivided}
use Rattle.turn_copies.specs.Passages.{in_slot, accesses_from}
use Rattle.turn_copies.specs.Regions.{rank, block_first, block_end, CanMove, HasEntry, Joined, RegionLaw}
use Rattle.turn_copies.proofs.Visits.{turn_up, turn_next, arrived, sound_run}
use Rattle.turn_copies.proofs.Following.{Past, in_memory, placed_front, placed_back}
use Rattle.turn_copies.proofs.Turns.{Holding, zero_near, below_32, twice}
use Rattle.turn_copies.proofs.Blocks.{turns_law}
use Rattle.turn_copies.proofs.BlockWords.{bound_within, rank_small}
use Rattle.turn_copies.proofs.Forks.{fork_law, placed_stands}
use Rattle.turn_copies.proofs.Advances.{stepped, advanced, is_low, moved_on, advances_law, moved_all, fits_all, back_again, restored, forked_knows}

-- ---- numbers

stepped_is : (v t : ℕ) (step : ℤ) → IsShort step → v < 2 ^ 64 → stepped v step t ≡ word_of (pos v +ℤ step *ℤ pos t)
stepped_is v t step short lt =
    let swap : bits step * t ≡ t * bits step = omega arith in
    let m = t * bits step % 2 ^ 64 in
    let small : (v + m) % 2 ^ 64 < 2 ^ 64 = omega arith in
    ap (λ x. (v + x % 2 ^ 64) % 2 ^ 64) swap ∙ word_is ((v + m) % 2 ^ 64) (pos v +ℤ step *ℤ pos t) small (sum_alike v m (pos v) (step *ℤ pos t) (alike_from (pos v) (pos v) refl) (product_alike step t short))

-- the low 32 bits of a sum
low_sum : (m v x : ℕ) → v % 2 ^ 32 ≡ x % 2 ^ 32 → (v + m) % 2 ^ 64 % 2 ^ 32 ≡ (x + m) % 2 ^ 64 % 2 ^ 32
low_sum m v x h = omega arith

extended_back : (n : ℕ) → n < 2 ^ 32 → extended32 n % 2 ^ 32 ≡ n
extended_back n h = grind (arith, ints)

extended_below : (n : ℕ) → extended32 n < 2 ^ 64
extended_below n = omega (arith, ints)

-- ---- one arrival of a turn

same_arrival : (l : Level) (s : State) (t a b : ℕ) → IsArrival l s t a → IsArrival l s t b → b ≤ a → a ≤ b
same_arrival l s t zero b x y h = omega arith
same_arrival l s t (suc a) b x y h = go (cases_lt b (suc a))
  where
    go : (b < suc a) ⊎ (suc a ≤ b) → suc a ≤ b
    go (inr k) = k
    go (inl k) =
        let up = turn_up l s b a (omega arith) in
        let next = turn_next l s a true (arrived l s t (suc a) x) in
        let p = x.turn in
        let q = y.turn in
        absurd (omega arith)

one_arrival : (l : Level) (s : State) (t a b : ℕ) → IsArrival l s t a → IsArrival l s t b → a ≡ b
one_arrival l s t a b x y = go (cases_lt a b)
  where
    go : (a < b) ⊎ (b ≤ a) → a ≡ b
    go (inr k) = let h = same_arrival l s t a b x y k in omega arith
    go (inl k) = let h = same_arrival l s t b a y x (omega arith) in omega arith

slot_cell : (k : ℕ) → k < 16 → slot_of (32 + k) ≡ Some k
slot_cell k h = grind (arith, nat_tests)

held_seen : (h : Hart) (loc : ℕ) (o : Option ℕ) → seen (register h.regs) (slice_index h.slots) loc o ≡ held_by h loc o
held_seen h loc None = sym (twice (loc == 0) (slice_index h.regs loc))
held_seen h loc (Some s) = refl

pub cell_16 : (o : Option Cell) (c : Cell) (k : ℕ) → (16 ≤ k → o ≡ None) → o ≡ Some c → k < 16
cell_16 o c k few e = go (cases_lt k 16)
  where
    go : (k < 16) ⊎ (16 ≤ k) → k < 16
    go (inl h) = h
    go (inr h) = let x = few h in absurd (cc)

-- ---- what the locations are at an arrival

module _ (l : Level) (B : LoopCode) (roles : ℕ → Role) (s : State) (p : ℕ) (d : IsDivided l B roles s p) (can : CanMove roles) where
  register_value : (x : State) (r : ℕ) → r < 32 → value_of B.cells s.regs x r ≡ register x.regs r
  register_value x r h = let low : nat_lt r 32 ≡ true = grind (arith, nat_tests) in ap (λ b. if b then register x.regs r else held_in s.regs (cell_at B.cells.cells (r - 32)) x.memory) low

  cell_value : (x : State) (k : ℕ) (c : Cell) → cell_at B.cells.cells k ≡ Some c → value_of B.cells s.regs x (32 + k) ≡ content c.wide x.memory (cell_address s.regs c)
  cell_value x k c e =
      let high : nat_lt (32 + k) 32 ≡ false = grind (arith, nat_tests) in
      let back : 32 + k - 32 ≡ k = omega arith in
      ap (λ b. if b then register x.regs (32 + k) else held_in s.regs (cell_at B.cells.cells (32 + k - 32)) x.memory) high ∙ ap (λ j. held_in s.regs (cell_at B.cells.cells j) x.memory) back ∙ ap (λ o. held_in s.regs o x.memory) e

  register_at : (t a r : ℕ) → t ≤ p → IsArrival l s t a → r < 32 → roles r ≢ Private → moved_on (roles r) (register s.regs r) t ≡ register (run s a).regs r
  register_at t a r le at low open_role = go (roles r) refl
    where
      go : (x : Role) → roles r ≡ x → moved_on x (register s.regs r) t ≡ register (run s a).regs r
      go Keeps q = sym (sym (register_value (run s a) r low) ∙ d.independent.locations.kept t a r le at q ∙ register_value s r low)
      go (Moves step) q =
          let can_r = can.each r step q in
          stepped_is (register s.regs r) t step can_r.2 (register_below s.regs r d.registers)
          ∙ sym (sym (register_value (run s a) r low) ∙ d.independent.locations.moved t a r step le at q ∙ ap (λ v. word_of (pos v +ℤ step *ℤ pos t)) (register_value s r low))
      go Private q = absurd (open_role q)

  -- the content of a cell moves on
  content_at : (t a k : ℕ) (c : Cell) (step : ℤ) → t ≤ p → IsArrival l s t a → cell_at B.cells.cells k ≡ Some c → roles (32 + k) ≡ Moves step → content c.wide s.memory (cell_address s.regs c) < 2 ^ 64
      → content c.wide (run s a).memory (cell_address s.regs c) ≡ stepped (content c.wide s.memory (cell_address s.regs c)) step t
  content_at t a k c step le at e q lt =
      sym (cell_value (run s a) k c e) ∙ d.independent.locations.moved t a (32 + k) step le at q ∙ ap (λ v. word_of (pos v +ℤ step *ℤ pos t)) (cell_value s k c e)
      ∙ sym (stepped_is (content c.wide s.memory (cell_address s.regs c)) t step (can.each (32 + k) step q).2 lt)

  content_kept : (t a k : ℕ) (c : Cell) → t ≤ p → IsArrival l s t a → cell_at B.cells.cells k ≡ Some c → roles (32 + k) ≡ Keeps → content c.wide (run s a).memory (cell_address s.regs c) ≡ content c.wide s.memory (cell_address s.regs c)
  content_kept t a k c le at e q = sym (cell_value (run s a) k c e) ∙ d.independent.locations.kept t a (32 + k) le at q ∙ cell_value s k c e

  cell_at_arrival : (t a k v : ℕ) (c : Cell) → t ≤ p → IsArrival l s t a → cell_at B.cells.cells k ≡ Some c → roles (32 + k) ≢ Private → v < 2 ^ 64
      → in_slot c.wide v ≡ number_at (bytes_of (width_of c)) s.memory (cell_address s.regs c) → in_slot c.wide (moved_on (roles (32 + k)) v t) ≡ number_at (bytes_of (width_of c)) (run s a).memory (cell_address s.regs c)
  cell_at_arrival t a k v c le at e open_role lt holds = go c.wide refl (roles (32 + k)) refl holds
    where
      x : ℕ
      x = cell_address s.regs c

      bytes_there : AreBytes (run s a).memory
      bytes_there = (sound_run s a d.registers d.bytes).1

      go : (wide : Bool) → c.wide ≡ wide → (r : Role) → roles (32 + k) ≡ r → in_slot wide v ≡ number_at (bytes_of (width_by wide)) s.memory x
          → in_slot wide (moved_on r v t) ≡ number_at (bytes_of (width_by wide)) (run s a).memory x
      go wide w Private q h = absurd (open_role q)
      go true w Keeps q h = h ∙ sym (sym (ap (λ b. content b (run s a).memory x) w) ∙ content_kept t a k c le at e q ∙ ap (λ b. content b s.memory x) w)
      go false w Keeps q h =
          let same : extended32 (number_at 4 (run s a).memory x) ≡ extended32 (number_at 4 s.memory x) = sym (ap (λ b. content b (run s a).memory x) w) ∙ content_kept t a k c le at e q ∙ ap (λ b. content b s.memory x) w in
          h ∙ sym (extended_back (number_at 4 s.memory x) (number_4 s.memory x d.bytes)) ∙ ap (λ n. n % 2 ^ 32) (sym same) ∙ extended_back (number_at 4 (run s a).memory x) (number_4 (run s a).memory x bytes_there)
      go true w (Moves step) q h =
          let small : content c.wide s.memory x < 2 ^ 64 = subst (λ b. content b s.memory x < 2 ^ 64) (sym w) (subst (λ n. n < 2 ^ 64) h lt) in
          ap (λ n. stepped n step t) h ∙ sym (sym (ap (λ b. content b (run s a).memory x) w) ∙ content_at t a k c step le at e q small ∙ ap (λ b. stepped (content b s.memory x) step t) w)
      go false w (Moves step) q h =
          let n0 = number_at 4 s.memory x in
          let na = number_at 4 (run s a).memory x in
          let small : content c.wide s.memory x < 2 ^ 64 = subst (λ b. content b s.memory x < 2 ^ 64) (sym w) (extended_below n0) in
          let is : extended32 na ≡ stepped (extended32 n0) step t = sym (ap (λ b. content b (run s a).memory x) w) ∙ content_at t a k c step le at e q small ∙ ap (λ b. stepped (content b s.memory x) step t) w in
          low_sum (bits step * t % 2 ^ 64) v (extended32 n0) (h ∙ sym (extended_back n0 (number_4 s.memory x d.bytes)))
          ∙ ap (λ n. n % 2 ^ 32) (sym is) ∙ extended_back na (number_4 (run s a).memory x bytes_there)

-- ---- a hart at the fork

-- what it has of each location
abbrev entry_of : Hart → ℕ → ℕ
entry_of h loc = seen (register h.regs) (slice_index h.slots) loc (slot_of loc)

small_by : (q : ℕ) (h : Hart) (loc : ℕ) (o : Option ℕ) → IsHartAt q h → seen (register h.regs) (slice_index h.slots) loc o < 2 ^ 64
small_by q h loc None begins = subst (λ v. v < 2 ^ 64) (twice (loc == 0) (slice_index h.regs loc)) (register_below h.regs loc begins.registers)
small_by q h loc (Some k) begins = begins.slots.below k

known_first : (q : ℕ) (h : Hart) → IsHartAt q h → Knows is_low (entry_of h) (register h.regs) (slice_index h.slots)
known_first q h begins = record { each = λ loc k. refl; small = λ loc. small_by q h loc (slot_of loc) begins }

low_is : (loc : ℕ) → loc < 48 → is_low loc ≡ true
low_is loc h = grind (arith, nat_tests)

holding : (l : Level) (B : LoopCode) (roles : ℕ → Role) (s : State) (p t a q : ℕ) (h : Hart) (f g : ℕ → ℕ) → IsBody l B → IsDivided l B roles s p → CanMove roles → IsHartAt q h → HasEntry B.cells s (λ r. roles r ≢ Private) h → t ≤ p → IsArrival l s t a
    → Knows is_low (advanced (entry_of h) (movings roles) t) f g → Holding B s a (λ r. roles r ≢ Private) (back_again f g) g
holding l B roles s p t a q h f g body d can begins entry le at k =
    record {
      same = λ r low open_role.
          let first : entry_of h r ≡ register s.regs r = held_seen h r (slot_of r) ∙ entry.registers r low open_role in
          sym (restored f g r low ∙ k.each r (low_is r (omega arith)) ∙ moved_all roles t r (entry_of h) (omega arith) ∙ ap (λ v. moved_on (roles r) v t) first ∙ register_at l B roles s p d can t a r le at low open_role);
      cells = λ j c e open_role.
          let low = cell_16 (cell_at B.cells.cells j) c j (body.few.cells j) e in
          let slot = slot_cell j low in
          let first : entry_of h (32 + j) ≡ slice_index h.slots j = ap (seen (register h.regs) (slice_index h.slots) (32 + j)) slot in
          let now : g j ≡ moved_on (roles (32 + j)) (slice_index h.slots j) t = sym (ap (seen f g (32 + j)) slot) ∙ k.each (32 + j) (low_is (32 + j) (omega arith)) ∙ moved_all roles t (32 + j) (entry_of h) (omega arith) ∙ ap (λ v. moved_on (roles (32 + j)) v t) first in
          ap (in_slot c.wide) now ∙ cell_at_arrival l B roles s p d can t a j (slice_index h.slots j) c le at e open_role (begins.slots.below j) (entry.cells j c e open_role);
    }

no_accesses : (l : Level) (B : LoopCode) (s : State) (t u a b : ℕ) → t ≡ u → IsArrival l s t a → IsArrival l s u b → b - a ≡ 0
no_accesses l B s t u a b e x y = let same = one_arrival l s u a b (subst (λ z. IsArrival l s z a) e x) y in omega (arith, same)

-- ---- the whole region

pub region_law : RegionLaw
region_law code l B roles s p a b q c h body d can short stands number few some small starts ends begins entry fork left =
    let first = block_first h.number p h.harts in
    let end = block_end h.number p h.harts in
    let join = join_place c.next in
    let goal : Hart → Type 0 = Joined B.cells s a b first end h join in
    let w = world_of code short 0 zero_near h goal in
    let m : Past = record { memory = h.memory; log = h.log } in
    let below = rank_small h.number h.harts (omega arith) in
    let within : end ≤ p = bound_within (suc (rank h.number h.harts)) p h.harts (omega arith) (omega arith) in
    let ms = movings roles in
    let r = behind q (fork_code q join) in
    let words = advances_code ms ++ restore_code in
    let back = jump_to (c.place l.header) (behind r words) ∷ [] in
    let front = placed_front code r words back stands.begin in
    let steps = placed_front code r (advances_code ms) restore_code front in
    let restore = placed_back code r (advances_code ms) restore_code front in
    let jump = placed_back code r words back stands.begin in
    let p2 = behind r (advances_code ms) in
    let e = entry_of h in
    let nothing : a - a ≡ 0 = omega arith in
    let simple : AreSimple restore_code = (tt, (tt, (tt, (tt, (tt, (tt, (tt, tt))))))) in
    from_hart code short 0 zero_near goal q h begins
    (fork_law w q join p (register h.regs) (slice_index h.slots) stands.fork stands.near number few some small left
    (λ f g none forked.
    let zero_long = no_accesses l B s first end a b none starts ends in
    here w join f g (λ regs slots x y.
    record {
      at = refl;
      holds = λ full. absurd (omega (arith, none, full));
      log = sym (ap (λ z. h.log ++ accesses_from B.cells s a z) zero_long ∙ append-nil h.log);
      memory = sym (ap (λ z. replayed h.memory (accesses_from B.cells s a z)) zero_long);
    }))
    (λ f1 g1 more forked.
    let y = end - first - 1 in
    let all : first + suc y ≡ end = omega arith in
    let much : end - first ≡ suc y = omega arith in
    advances_law w ms r first e f1 g1 (forked_knows p h.number h.harts e (register h.regs) (slice_index h.slots) f1 g1 (known_first q h begins) forked) (fits_all roles can) forked.first steps
    (λ f2 g2 k2 same.
    straight_law w restore_code p2 f2 g2 simple (placed_stands code 0 p2 restore_code simple restore)
    (subst (λ z. Wins w z (back_again f2 g2) g2) (behind-append r (advances_code ms) restore_code)
    (jal_law w (behind r words) (c.place l.header) (back_again f2 g2) g2 jump.0 (stands.copies.near l.header)
    (turns_law w l B roles s p body d c stands.copies stands.next a first starts g2 m fork y first a b (back_again f2 g2) g2 m (omega arith) (omega arith) (omega arith) (omega arith) starts (subst (λ z. IsArrival l s z b) (sym all) ends) (same ∙ forked.left ∙ much)
    (holding l B roles s p first a q h f2 g2 body d can begins entry (omega arith) starts k2)
    (λ j z free. refl) (sym (ap (λ z. h.log ++ accesses_from B.cells s a z) nothing ∙ append-nil h.log)) (sym (ap (λ z. replayed h.memory (accesses_from B.cells s a z)) nothing))
    (λ f g m' o. here (in_memory w m') join f g (λ regs slots x z.
    record {
      at = refl;
      holds = λ full. record {
        registers = λ j low kn. x.each j low ∙ sym (o.holds.same j low tt);
        cells = λ j k is kn. ap (in_slot k.wide) (z.each j (below_32 (cell_at B.cells.cells j) k j (body.few.cells j) is)) ∙ o.holds.cells j k is tt;
      };
      log = o.log;
      memory = o.memory;
    }))))))))
