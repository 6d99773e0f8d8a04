-- The added code of a loop on the only hart, part by part.
use Rattle.std.proofs.Common.{◌≡◌, ◌≢◌, ℕ, zero, suc, ◌+◌, ◌-◌, ◌%◌, ◌^◌, ◌<◌, ◌≤◌, refl, sym, subst, ap, ◌∙◌, arith, Option, Some, None, Bool, true, false, List, [], ◌∷◌, ◌++◌, length, ◌⊎◌, inl, inr, if◌then◌else◌}
use Rattle.std.specs.Prelude.{slice_index, ◌==◌}
use Rattle.std.proofs.lemmas.Bool.{cases_lt}
use Rattle.std.proofs.lemmas.Bool.Decides.{nat_tests}
use Rattle.std.proofs.lemmas.Grind.{same_number_lists}
use Rattle.std.proofs.lemmas.List.{append_assoc}
use Rattle.std.proofs.lemmas.Int.{ints}
use Rattle.rv64_decode.specs.Area.{Area, number_at, bytes_of}
use Rattle.rv64_decode.specs.Ask.{Ask}
use Rattle.rv64_decode.specs.Hart.{Hart, address, fetched, run}
use Rattle.rv64_decode.specs.Range.{AreWords, AreBytes}
use Rattle.rv64_decode.specs.Registers.{register}
use Rattle.rv64_decode.specs.Row.{extended32, next_pc}
use Rattle.rv64_decode.specs.declared.xinstr.XInstr.TheVariants.{Back}
use Rattle.rv64_decode.proofs.Sound.{number_4}
use Rattle.guest_memory.proofs.Kept.{keep-lie}
use Rattle.loop_data.specs.declared.shape.Level.{Level}
use Rattle.loop_data.specs.declared.verdict.Cell.{Cell}
use Rattle.loop_data.specs.Independent.{Role, Private}
use Rattle.loop_data.specs.Locations.{cell_at, address as cell_address, width_of, width_by, content, held as content_of}
use Rattle.loop_data.specs.LoopCode.{LoopCode}
use Rattle.loop_data.specs.Runs.{State, run as run_state}
use Rattle.loop_data.specs.Turns.{IsArrival}
use Rattle.alias_checks.specs.declared.lists.Check.{Check}
use Rattle.alias_checks.specs.declared.lists.Turns.{Turns}
use Rattle.alias_checks.specs.Answers.{answer}
use Rattle.stub_laws.specs.Harts.{IsHartAt}
use Rattle.stub_laws.specs.Places.{behind}
use Rattle.stub_laws.specs.Sound.{IsSound, StaysSound, SoundLaw}
use Rattle.stub_laws.proofs.Steps.{next_address}
use Rattle.loop_choice.proofs.RunAreas.{kept_run}
use Rattle.check_code.specs.CheckLaws.{Arrives, HasPassed, ComesBy, cell_loads}
use Rattle.turn_copies.specs.Bodies.{IsDivided}
use Rattle.turn_copies.specs.Edges.{Saved, SaveLaw, Restored, RefuseLaw, CanWriteBack, Left, LeaveLaw, stores_back}
use Rattle.turn_copies.specs.Listing.{SizeLaw}
use Rattle.turn_copies.specs.Memories.{Agree, replayed}
use Rattle.turn_copies.specs.Passages.{in_slot, IsUnstored, HasLocations, accesses_between}
use Rattle.turn_copies.specs.Regions.{block_first, block_end, HasEntry, Joined, RegionLaw}
use Rattle.turn_copies.specs.Sharing.{ReplayLaw}
use Rattle.turn_copies.specs.StubCode.{restore_code, write_back_code}
use Rattle.turn_copies.specs.Stubs.{copies_place, joined_at, refused_at, AreInPlace, PlacesLaw}
use Rattle.turn_copies.specs.StubWords.{check_place, fork_place, EndsInside, EndLaw}
use Rattle.turn_copies.specs.Copies.{in_order}
use Rattle.turn_copies.proofs.Visits.{sound_run}
use Rattle.divided_loops.specs.Alone.{behind_it, MeetsNoFault}
use Rattle.divided_loops.specs.Forks.{turns_told, LeavesFirst}
use Rattle.divided_loops.specs.Added.{IsAdded, IsAskedOf, Enters, LeavesAs, HasAccessed, DoesTurns, AddedLaw}
use Rattle.divided_loops.proofs.Memories.{memories_are}
use Rattle.divided_loops.proofs.Lone.{Gets, joined, alone, over_par, over_join, leaves_first, no_fault}
use Rattle.divided_loops.proofs.Numbers.{answer_few, first_is, end_is, check_before, fork_before}

-- the laws of the parts
pub record Laws : Type 0 where
  pub sounds : SoundLaw
  pub saves : SaveLaw
  pub refuses : RefuseLaw
  pub sizes : SizeLaw
  pub places : PlacesLaw
  pub ends : EndLaw
  pub regions : RegionLaw
  pub replays : ReplayLaw
  pub leaves : LeaveLaw

hart_at : (q : ℕ) (h : Hart) → IsSound h → h.pc ≡ address q → IsHartAt q h
hart_at q h s e = record { at = e; registers = s.registers; slots = s.slots }

next_place_is : (q : ℕ) (h : Hart) → q ≤ 2 ^ 32 → h.pc ≡ address q → (behind_it h).pc ≡ address (suc q)
next_place_is q h near e = ap next_pc e ∙ next_address q near

sound_behind : (h : Hart) → IsSound h → IsSound (behind_it h)
sound_behind h s = record { registers = s.registers; slots = s.slots; bytes = s.bytes; number = s.number; harts = s.harts }

then_sound : (h mid now : Hart) → StaysSound h mid → StaysSound mid now → StaysSound h now
then_sound h mid now a b = record { sound = b.sound; number = b.number ∙ a.number; harts = b.harts ∙ a.harts }

passes_by : (h x : Hart) → StaysSound h x → StaysSound h (behind_it x)
passes_by h x a = record { sound = sound_behind x a.sound; number = a.number; harts = a.harts }

-- 32 registers, each read as another
same_registers : (xs ys : List ℕ) → AreWords xs → AreWords ys → ((r : ℕ) → r < 32 → register xs r ≡ register ys r) → xs ≡ ys
same_registers xs ys a b same = same_number_lists xs ys (a.count ∙ sym b.count) (λ k l. each k (cases_lt 0 k) l)
  where
    each : (k : ℕ) → (0 < k) ⊎ (k ≤ 0) → k < length xs → slice_index xs k ≡ slice_index ys k
    each k (inr z) l = let e : 0 ≡ k = omega (arith, z) in subst (λ j. slice_index xs j ≡ slice_index ys j) e (a.zero ∙ sym b.zero)
    each k (inl z) l =
        let f : (k == 0) ≡ false = grind (arith, nat_tests, z) in
        let n = a.count in
        sym (ap (λ t. if t then 0 else slice_index xs k) f) ∙ same k (omega (arith, l, n)) ∙ ap (λ t. if t then 0 else slice_index ys k) f

-- what a slot has of a cell whose content it holds
low_back : (n : ℕ) → n < 2 ^ 32 → extended32 n % 2 ^ 32 ≡ n
low_back n h = grind (arith, ints)

in_its_slot : (wide : Bool) (m : List Area) (x : ℕ) → AreBytes m → in_slot wide (content wide m x) ≡ number_at (bytes_of (width_by wide)) m x
in_its_slot true m x b = refl
in_its_slot false m x b = low_back (number_at 4 m x) (number_4 m x b)

cell_within : (cells : List Cell) (k : ℕ) (c : Cell) → cell_at cells k ≡ Some c → k < length cells
cell_within [] k c e = absurd (cc)
cell_within (d ∷ ds) zero c e = omega arith
cell_within (d ∷ ds) (suc k) c e = let h = cell_within ds k c e in omega (arith, h)

-- the last turn's number tells how many turns there are
turns_back : (last turns : ℕ) → 0 < turns → turns < 2 ^ 32 → last ≡ turns - 1 → (last + 1) % 2 ^ 64 ≡ turns
turns_back last turns some few e = omega (arith, some, few, e)

three_joined : (a b c d : List Ask) → ((a ++ b) ++ c) ++ d ≡ a ++ (b ++ (c ++ d))
three_joined a b c d = append_assoc (a ++ b) c d ∙ append_assoc a b (c ++ d)

module _ (laws : Laws) (code : List ℕ) (l : Level) (B : LoopCode) (roles : ℕ → Role) (c : Check) (p : ℕ) (words : List ℕ) (s : State) (h : Hart)
    (added : IsAdded code l B roles c p words) (ask : IsAskedOf l B roles c s) (enters : Enters s p h) where
  abbrev fork : ℕ
  fork = fork_place p words

  abbrev out : ℕ
  out = refused_at l B roles fork

  abbrev join : ℕ
  join = joined_at l B roles fork

  inside : EndsInside code l B roles p words
  inside = laws.ends code l B roles p words added.stub

  out_near : out ≤ 2 ^ 32
  out_near = let a = inside.inside in let b = added.size in omega (arith, a, b)

  join_near : join ≤ 2 ^ 32
  join_near = let a = inside.refused in let b = out_near in omega (arith, a, b)

  in_place : AreInPlace code l B roles fork
  in_place = laws.places code l B roles fork added.body added.ordered join_near added.stub.divides

  check_near : check_place p ≤ out
  check_near =
      let a = check_before p words in
      let b = fork_before laws.sizes l B roles fork in
      let d = inside.refused in
      omega (arith, a, b, d)

  fork_near : fork ≤ 2 ^ 32
  fork_near = let b = fork_before laws.sizes l B roles fork in let d = join_near in omega (arith, b, d)

  stays : (n : ℕ) (x : Hart) → IsSound x → StaysSound x (run code n x)
  stays n x sound = laws.sounds code n x added.bits sound

  -- ---- registers are saved, and the check is asked

  saved : (n : ℕ) × Saved h (check_place p) (run code n h)
  saved = laws.saves code p h added.size added.stub.saves (hart_at p h enters.sound enters.at)

  abbrev asked : Hart
  asked = run code saved.0 h

  asked_sound : StaysSound h asked
  asked_sound = stays saved.0 h enters.sound

  arrives : Arrives s.regs s.memory (check_place p) asked
  arrives = record {
    at = saved.1.at;
    memory = saved.1.memory ∙ enters.memory;
    registers = asked_sound.sound.registers.count;
    slots = asked_sound.sound.slots.count;
    each = λ r low. saved.1.registers r low ∙ enters.registers r low;
  }

  target : out + 0 ≡ (out - check_place p) + check_place p
  target = let a = check_near in omega (arith, a)

  comes : ComesBy c s.regs s.memory code asked fork out (answer c s.regs s.memory)
  comes = added.tells.by s.regs s.memory code (check_place p) out (out - check_place p) 0 asked ask.asked added.size out_near target added.stub.checks arrives

  -- ---- where it tells no turns

  module _ (n : ℕ) (no : Arrives s.regs s.memory out (run code n asked)) where
    abbrev refused : Hart
    refused = run code n asked

    refused_sound : IsSound refused
    refused_sound = (stays n asked asked_sound.sound).sound

    restored : (k : ℕ) × Restored code refused (behind out restore_code) (run code k refused)
    restored = laws.refuses code out refused added.size in_place.refuses (hart_at out refused refused_sound no.at)

    abbrev left_again : Hart
    left_again = run code restored.0 refused

    gets_again : Gets code h left_again []
    gets_again =
        joined code h asked left_again [] [] (alone code saved.0 h)
        (joined code asked refused left_again [] [] (alone code n asked) (alone code restored.0 refused))

    leaves_again : fetched code left_again.pc ≡ Some Back
    leaves_again = ap (fetched code) restored.1.at ∙ restored.1.leaves

    again_stays : StaysSound refused left_again
    again_stays = stays restored.0 refused refused_sound

    as_it_came : LeavesAs code s h left_again
    as_it_came = record {
      leaves = leaves_again;
      registers = same_registers left_again.regs s.regs again_stays.sound.registers ask.asked.registers (λ r low. restored.1.registers r low ∙ no.each r low);
      memory = restored.1.memory ∙ no.memory;
      stays = then_sound h refused left_again (then_sound h asked refused asked_sound (stays n asked asked_sound.sound)) again_stays;
    }

    does_nothing : DoesTurns code l B.cells s h None × MeetsNoFault code h
    does_nothing = (
      (
        gets_again.steps,
        subst (LeavesAs code s h) (sym gets_again.is) as_it_came,
        leaves_first code h left_again [] gets_again leaves_again,
      ),
      no_fault code h left_again [] gets_again leaves_again,
    )

  -- ---- where it tells turns

  module _ (t : Turns) (is : answer c s.regs s.memory ≡ Some t) (n : ℕ) (yes_ : HasPassed c s.regs s.memory asked fork t (run code n asked)) where
    abbrev before : Hart
    before = run code n asked

    before_sound : StaysSound asked before
    before_sound = stays n asked asked_sound.sound

    -- over the fork
    abbrev forked : Hart
    forked = behind_it before

    forked_sound : IsSound forked
    forked_sound = sound_behind before before_sound.sound

    number : forked.number ≡ 0
    number = before_sound.number ∙ asked_sound.number ∙ enters.number

    harts : forked.harts ≡ 1
    harts = before_sound.harts ∙ asked_sound.harts ∙ enters.harts

    divided : IsDivided l B roles s t.root
    divided = ask.divided t is

    stored : CanWriteBack B.cells roles s
    stored = ask.stored t is

    some : 0 < t.root
    some = let a = (answer_few c s.regs s.memory t is).some in omega (arith, a)

    few : t.root < 2 ^ 32
    few = let a = (answer_few c s.regs s.memory t is).few in omega (arith, a)

    arrival : (b : ℕ) × IsArrival l s t.root b
    arrival = divided.independent.turns.exist t.root (omega arith)

    abbrev b : ℕ
    b = arrival.0

    abbrev first : ℕ
    first = block_first forked.number t.root forked.harts

    abbrev end : ℕ
    end = block_end forked.number t.root forked.harts

    first_zero : first ≡ 0
    first_zero = first_is forked.number forked.harts t.root number harts

    end_all : end ≡ t.root
    end_all = end_is forked.number forked.harts t.root number harts

    starts : IsArrival l s first 0
    starts = subst (λ x. IsArrival l s x 0) (sym first_zero) (record { at = divided.start; turn = refl })

    ends : IsArrival l s end b
    ends = subst (λ x. IsArrival l s x b) (sym end_all) arrival.1

    slot_of_cell : (k : ℕ) (d : Cell) → cell_at B.cells.cells k ≡ Some d → in_slot d.wide (slice_index before.slots k) ≡ number_at (bytes_of (width_of d)) s.memory (cell_address s.regs d)
    slot_of_cell k d e =
        let e' : cell_at c.cells.list.items k ≡ Some d = ap (λ cs. cell_at cs k) ask.cells ∙ e in
        let low = cell_within c.cells.list.items k d e' in
        ap (in_slot d.wide) (yes_.cells k low ∙ ap (λ o. content_of s.regs o s.memory) e') ∙ in_its_slot d.wide s.memory (cell_address s.regs d) ask.asked.bytes

    entry : HasEntry B.cells s (λ r. roles r ≢ Private) forked
    entry = record {
      registers = λ r low known. yes_.arrived.each r low;
      cells = λ k d e known. slot_of_cell k d e;
    }

    one : forked.number < forked.harts
    one = let a = number in let d = harts in omega (arith, a, d)

    one_few : forked.harts ≤ 64
    one_few = let d = harts in omega (arith, d)

    region : (k : ℕ) × Joined B.cells s 0 b first end forked join (run code k forked)
    region =
        laws.regions code l B roles s t.root 0 b (suc fork) (in_order l B (copies_place roles fork)) forked added.body divided ask.moves added.size in_place.region one one_few some few starts ends
        (hart_at (suc fork) forked forked_sound (next_place_is fork before fork_near yes_.arrived.at)) entry yes_.arrived.memory yes_.turns

    abbrev at_join : Hart
    at_join = run code region.0 forked

    -- over the join
    abbrev behind_join : Hart
    behind_join = behind_it at_join

    joined_sound : IsSound behind_join
    joined_sound = sound_behind at_join (stays region.0 forked forked_sound).sound

    holds : HasLocations B.cells s b (λ r. Unit {0}) at_join
    holds = region.1.holds (let a = first_zero in let d = end_all in let e = some in omega (arith, a, d, e))

    holds_behind : HasLocations B.cells s b (λ r. Unit {0}) behind_join
    holds_behind = record { registers = holds.registers; cells = holds.cells }

    memory_is : behind_join.memory ≡ replayed s.memory (accesses_between B.cells s 0 b)
    memory_is = region.1.memory ∙ ap (λ m. replayed m (accesses_between B.cells s 0 b)) yes_.arrived.memory

    agrees : Agree (IsUnstored B.cells s) behind_join.memory (run_state s b).memory
    agrees = subst (λ m. Agree (IsUnstored B.cells s) m (run_state s b).memory) (sym memory_is) (laws.replays l B roles s t.root t.root b added.body divided (omega arith) arrival.1)

    left : (k : ℕ) × Left code B.cells s b behind_join (behind (suc join) (write_back_code 0 B.cells.cells)) (run code k behind_join)
    left =
        laws.leaves code l B roles s t.root t.root b (suc join) behind_join added.body divided stored added.size in_place.leaves (omega arith) arrival.1
        (hart_at (suc join) behind_join joined_sound (next_place_is join at_join join_near region.1.at)) holds_behind agrees

    abbrev gone : Hart
    gone = run code left.0 behind_join

    behind_fork : Gets code forked gone []
    behind_fork =
        joined code forked at_join gone [] [] (alone code region.0 forked)
        (over_join code at_join gone [] (ap (fetched code) region.1.at ∙ in_place.joins) (alone code left.0 behind_join))

    gets : Gets code h gone (turns_told before.slots ∷ [])
    gets =
        joined code h asked gone [] (turns_told before.slots ∷ []) (alone code saved.0 h)
        (joined code asked before gone [] (turns_told before.slots ∷ []) (alone code n asked)
        (over_par code before gone [] (ap (fetched code) yes_.arrived.at ∙ in_place.forks) behind_fork))

    told : turns_told before.slots ≡ t.root
    told = turns_back (slice_index before.slots 23) t.root some few yes_.turns

    leaves_gone : fetched code gone.pc ≡ Some Back
    leaves_gone = ap (fetched code) left.1.at ∙ left.1.leaves

    log_is : gone.log ≡ h.log ++ (cell_loads s.regs B.cells.cells ++ (accesses_between B.cells s 0 b ++ stores_back s.regs (slice_index at_join.slots) 0 B.cells.cells))
    log_is =
        let loads : before.log ≡ h.log ++ cell_loads s.regs B.cells.cells = yes_.log ∙ ap (λ cs. asked.log ++ cell_loads s.regs cs) ask.cells ∙ ap (λ x. x ++ cell_loads s.regs B.cells.cells) saved.1.log in
        let turns : at_join.log ≡ (h.log ++ cell_loads s.regs B.cells.cells) ++ accesses_between B.cells s 0 b = region.1.log ∙ ap (λ x. x ++ accesses_between B.cells s 0 b) loads in
        left.1.log ∙ ap (λ x. x ++ stores_back s.regs (slice_index at_join.slots) 0 B.cells.cells) turns
        ∙ three_joined h.log (cell_loads s.regs B.cells.cells) (accesses_between B.cells s 0 b) (stores_back s.regs (slice_index at_join.slots) 0 B.cells.cells)

    memory_there : gone.memory ≡ (run_state s b).memory
    memory_there =
        let kept = kept_run s b ask.asked.lie in
        memories_are 0 gone.memory (run_state s b).memory (keep-lie 0 s.memory (run_state s b).memory ask.asked.lie kept) left.1.memory.areas (λ x. left.1.memory.bytes x tt)

    gone_stays : StaysSound behind_join gone
    gone_stays = stays left.0 behind_join joined_sound

    all_stays : StaysSound h gone
    all_stays =
        then_sound h behind_join gone (passes_by h at_join (then_sound h forked at_join (passes_by h before (then_sound h asked before asked_sound before_sound)) (stays region.0 forked forked_sound))) gone_stays

    registers_there : gone.regs ≡ (run_state s b).regs
    registers_there = same_registers gone.regs (run_state s b).regs gone_stays.sound.registers (sound_run s b divided.registers divided.bytes).0 left.1.registers

    leaves_as : LeavesAs code (run_state s b) h gone
    leaves_as = record { leaves = leaves_gone; registers = registers_there; memory = memory_there; stays = all_stays }

    accessed : HasAccessed B.cells s b h gone
    accessed = record { values = slice_index at_join.slots; hold = λ k d e. holds.cells k d e tt; log = log_is }

    does_turns : DoesTurns code l B.cells s h (Some t) × MeetsNoFault code h
    does_turns = (
      (
        gets.steps,
        b,
        arrival.1,
        subst (LeavesAs code (run_state s b) h) (sym gets.is) leaves_as,
        subst (HasAccessed B.cells s b h) (sym gets.is) accessed,
        subst (λ m. LeavesFirst code gets.steps h (m ∷ [])) told (leaves_first code h gone (turns_told before.slots ∷ []) gets leaves_gone),
      ),
      no_fault code h gone (turns_told before.slots ∷ []) gets leaves_gone,
    )

  pub does : DoesTurns code l B.cells s h (answer c s.regs s.memory) × MeetsNoFault code h
  does = go (answer c s.regs s.memory) refl comes
    where
      go : (o : Option Turns) → answer c s.regs s.memory ≡ o → ComesBy c s.regs s.memory code asked fork out o → DoesTurns code l B.cells s h o × MeetsNoFault code h
      go (Some t) e r = does_turns t e r.0 r.1
      go None e r = does_nothing r.0 r.1

pub added_law : Laws → AddedLaw
added_law laws code l B roles c p words s h added ask enters = does laws code l B roles c p words s h added ask enters
