-- What is known of each visit of a word in the turns that are divided.
use Rattle.std.proofs.Common.{◌≡◌, ◌≢◌, ℕ, zero, suc, ◌+◌, ◌%◌, ◌^◌, ◌<◌, ◌≤◌, refl, sym, subst, ap, ◌∙◌, arith, ℤ, Option, Some, None, Result, Ok, Err, Bool, true, false, List, [], ◌∷◌, ◌⊎◌, inl, inr, if◌then◌else◌}
use Rattle.std.specs.Prelude.{◌==◌, ◌||◌}
use Rattle.std.proofs.lemmas.Bool.{cases_lt}
use Rattle.rv64_decode.specs.Area.{Area, fetch_of, number_at, number_at as number_in, with_number, bytes_of, why, executable_of, writable_of, or_refusal, unless_refused}
use Rattle.rv64_decode.specs.Ask.{Ask, Nothing, Loads, Stores, answer, after, without_number}
use Rattle.rv64_decode.specs.Fetched.{instr_at}
use Rattle.rv64_decode.specs.Range.{AreWords, AreBytes}
use Rattle.rv64_decode.specs.Registers.{register, with_register}
use Rattle.rv64_decode.specs.Row.{asks, outcome, onward, jump, stopped, loaded, stored, next_pc, plus_offset, taken}
use Rattle.rv64_decode.specs.Table.{decoded}
use Rattle.rv64_decode.specs.declared.memory.Width.{Width}
use Rattle.rv64_decode.specs.declared.memory.Width.TheVariants.{One, Two, Four, Eight}
use Rattle.rv64_decode.specs.declared.memory.MemFault.{MemFault}
use Rattle.rv64_decode.specs.declared.instr.BranchOp.{BranchOp}
use Rattle.rv64_decode.specs.declared.instr.LoadOp.{LoadOp}
use Rattle.rv64_decode.specs.declared.instr.UpperOp.TheVariants.{Lui, Auipc}
use Rattle.rv64_decode.specs.declared.instr.Instr.{Instr}
use Rattle.rv64_decode.specs.declared.instr.Instr.TheVariants.{Alu, AluImm, Upper, Load, Store, Branch, Jal, Jalr, Fence, Ecall, Ebreak}
use Rattle.rv64_decode.specs.declared.outcome.Fault.TheVariants.{Target}
use Rattle.rv64_decode.specs.declared.outcome.Next.{Next}
use Rattle.rv64_decode.specs.declared.outcome.Next.TheVariants.{At, Call, Fault as Faulting}
use Rattle.rv64_decode.proofs.Fields.{decoded-in_range}
use Rattle.rv64_decode.proofs.Sound.{row-words, after_are, number_4}
use Rattle.loop_data.specs.declared.shape.Level.{Level}
use Rattle.loop_data.specs.declared.verdict.Cell.{Cell}
use Rattle.loop_data.specs.Executing.{AreWhole}
use Rattle.loop_data.specs.Independent.{Role, Keeps, Moves, Private, in_cell}
use Rattle.loop_data.specs.Locations.{cell_at, address, width_of, target, word_writes, word_reads, some_writes}
use Rattle.loop_data.specs.LoopCode.{LoopCode}
use Rattle.loop_data.specs.Nests.{has, Holds}
use Rattle.loop_data.specs.Runs.{State, run, walk, step, stepped, fetched, executed, instr, goes_at, asks_of, unless_denied, granted, access}
use Rattle.loop_data.specs.Turns.{arrives, turn, seen, IsArrival, covers, stores_byte}
use Rattle.loop_data.proofs.CellBytes.{number_at-with_number}
use Rattle.loop_data.proofs.CellVisits.{whole_run}
use Rattle.loop_data.proofs.NestVisits.{goes_here, goes_to, step_is}
use Rattle.loop_data.proofs.Tests.{yes_no, is_eq}
use Rattle.loop_data.specs.LoopWords.{IsPlainInstr}
use Rattle.turn_copies.specs.Bodies.{HasShortValue, IsBody, IsDivided}
use Rattle.turn_copies.proofs.PlainWords.{IsPlain, given_by}
use Rattle.rv64_decode.specs.declared.instr.StoreOp.{StoreOp}
use Rattle.std.proofs.lemmas.Bool.Decides.{nat_tests}

-- ---- turns are counted up

step_up : (l : Level) (s : State) (n : ℕ) → turn l s n ≤ turn l s (suc n)
step_up l s n = go (arrives l s (suc n))
  where
    go : (b : Bool) → turn l s n ≤ (if b then suc (turn l s n) else turn l s n)
    go true = omega arith
    go false = omega arith

pub turn_up : (l : Level) (s : State) (m n : ℕ) → m ≤ n → turn l s m ≤ turn l s n
turn_up l s m zero h = let e : m ≡ 0 = omega arith in subst (λ x. turn l s x ≤ turn l s 0) (sym e) (omega arith)
turn_up l s m (suc n) h = go (cases_lt m (suc n)) (λ k. turn_up l s m n k)
  where
    go : (m < suc n) ⊎ (suc n ≤ m) → (m ≤ n → turn l s m ≤ turn l s n) → turn l s m ≤ turn l s (suc n)
    go (inl a) later = let x = later (omega arith) in let y = step_up l s n in omega (arith, x, y)
    go (inr a) later = let e : m ≡ suc n = omega arith in subst (λ x. turn l s x ≤ turn l s (suc n)) (sym e) (omega arith)

pub turn_next : (l : Level) (s : State) (n : ℕ) (b : Bool) → arrives l s (suc n) ≡ b → turn l s (suc n) ≡ (if b then suc (turn l s n) else turn l s n)
turn_next l s n b e = ap (λ c. if c then suc (turn l s n) else turn l s n) e

pub seen_next : (l : Level) (s : State) (n : ℕ) (b : Bool) → arrives l s (suc n) ≡ b → seen l s (suc n) ≡ (if b then [] else walk s n ∷ seen l s n)
seen_next l s n b e = ap (λ c. if c then [] else walk s n ∷ seen l s n) e

pub arrived : (l : Level) (s : State) (t n : ℕ) → IsArrival l s t n → arrives l s n ≡ true
arrived l s t n a = ap (goes_at (λ pc. pc == l.header)) a.at ∙ (let e : (l.header == l.header) ≡ true = is_eq l.header l.header refl in e)

-- ---- registers are words and bytes bytes, all along a run

word_small : (o : Option MemFault) (n w : ℕ) → or_refusal o n ≡ Ok w → n ≡ w
word_small None n w e = cc
word_small (Some f) n w e = absurd (cc)

sound_executed : (w : ℕ) (o : Option Instr) (pc : ℕ) (regs : List ℕ) (m : List Area) → decoded w ≡ o → w < 2 ^ 32 → AreWords regs → AreBytes m
    → AreWords (executed w o pc regs m).regs × AreBytes (executed w o pc regs m).memory
sound_executed w (Some i) pc regs m e lt a b = (row-words i pc regs m (decoded-in_range w i lt e) b a, after_are m (asks i regs) b)
sound_executed w None pc regs m e lt a b = (a, b)

sound_fetched : (o : Result ℕ MemFault) (pc : ℕ) (regs : List ℕ) (m : List Area) → ((w : ℕ) → o ≡ Ok w → w < 2 ^ 32) → AreWords regs → AreBytes m
    → AreWords (fetched o pc regs m).regs × AreBytes (fetched o pc regs m).memory
sound_fetched (Ok w) pc regs m lt a b = sound_executed w (decoded w) pc regs m refl (lt w refl) a b
sound_fetched (Err why) pc regs m lt a b = (a, b)

sound_stepped : (n : Next) (regs : List ℕ) (m : List Area) → AreWords regs → AreBytes m → AreWords (stepped n regs m).regs × AreBytes (stepped n regs m).memory
sound_stepped (At pc) regs m a b =
    sound_fetched (fetch_of m pc) pc regs m (λ w e. subst (λ x. x < 2 ^ 32) (word_small (why executable_of m pc Four) (number_at 4 m pc) w e) (number_4 m pc b)) a b
sound_stepped Call regs m a b = (a, b)
sound_stepped (Faulting kind addr) regs m a b = (a, b)

sound_step : (s : State) → AreWords s.regs → AreBytes s.memory → AreWords (step s).regs × AreBytes (step s).memory
unfolding step
sound_step s a b = sound_stepped s.next s.regs s.memory a b

pub sound_run : (s : State) (n : ℕ) → AreWords s.regs → AreBytes s.memory → AreWords (run s n).regs × AreBytes (run s n).memory
sound_run s zero a b = (a, b)
sound_run s (suc n) a b = let h = sound_run s n a b in sound_step (run s n) h.0 h.1

-- ---- what an instruction did that led on

at_same : (a b : ℕ) → At a ≡ At b → a ≡ b
at_same a b e = cc

-- a plain word: memory answered, and one register was written
pub record PlainRow (i : Instr) (u v : ℕ) (regs : List ℕ) (m : List Area) : Type 0 where
  pub told : ℕ
  pub answered : answer m (asks i regs) ≡ Ok told
  pub next : next_pc u ≡ v
  pub regs_are : (outcome i u regs m).regs ≡ with_register regs (target i) (given_by i regs told)

loaded_row : (op : LoadOp) (rd rs1 : ℕ) (imm : ℤ) (u v : ℕ) (regs : List ℕ) (m : List Area) (r : Result ℕ MemFault) → answer m (asks (Load op rd rs1 imm) regs) ≡ r
    → (loaded op rd (plus_offset (register regs rs1) imm) u regs r).next ≡ At v → PlainRow (Load op rd rs1 imm) u v regs m
loaded_row op rd rs1 imm u v regs m (Ok n) e next =
    record { told = n; answered = e; next = at_same _ _ next; regs_are = ap (λ (q : Result ℕ MemFault). (loaded op rd (plus_offset (register regs rs1) imm) u regs q).regs) e }
loaded_row op rd rs1 imm u v regs m (Err f) e next = absurd (cc)

stored_row : (op : StoreOp) (rs1 rs2 : ℕ) (imm : ℤ) (u v : ℕ) (regs : List ℕ) (m : List Area) (r : Result ℕ MemFault) → answer m (asks (Store op rs1 rs2 imm) regs) ≡ r
    → (stored (plus_offset (register regs rs1) imm) u regs r).next ≡ At v → PlainRow (Store op rs1 rs2 imm) u v regs m
stored_row op rs1 rs2 imm u v regs m (Ok n) e next =
    record { told = n; answered = e; next = at_same _ _ next; regs_are = ap (λ (q : Result ℕ MemFault). (stored (plus_offset (register regs rs1) imm) u regs q).regs) e }
stored_row op rs1 rs2 imm u v regs m (Err f) e next = absurd (cc)

pub plain_row : (i : Instr) (u v : ℕ) (regs : List ℕ) (m : List Area) → IsPlain i → (outcome i u regs m).next ≡ At v → PlainRow i u v regs m
plain_row (Alu op rd rs1 rs2) u v regs m x e = record { told = 0; answered = refl; next = at_same _ _ e; regs_are = refl }
plain_row (AluImm op rd rs1 imm) u v regs m x e = record { told = 0; answered = refl; next = at_same _ _ e; regs_are = refl }
plain_row (Upper Lui rd imm) u v regs m x e = record { told = 0; answered = refl; next = at_same _ _ e; regs_are = refl }
plain_row (Upper Auipc rd imm) u v regs m x e = absurd x
plain_row (Load op rd rs1 imm) u v regs m x e = loaded_row op rd rs1 imm u v regs m (answer m (asks (Load op rd rs1 imm) regs)) refl e
plain_row (Store op rs1 rs2 imm) u v regs m x e = stored_row op rs1 rs2 imm u v regs m (answer m (asks (Store op rs1 rs2 imm) regs)) refl e
plain_row (Fence rd rs1 imm) u v regs m x e = record { told = 0; answered = refl; next = at_same _ _ e; regs_are = refl }
plain_row (Branch op rs1 rs2 imm) u v regs m x e = absurd x
plain_row (Jal rd imm) u v regs m x e = absurd x
plain_row (Jalr rd rs1 imm) u v regs m x e = absurd x
plain_row Ecall u v regs m x e = absurd x
plain_row Ebreak u v regs m x e = absurd x

-- a jump that was made
jumped_row : (to v : ℕ) (old new : List ℕ) (b : Bool) → (to % 4 == 0) ≡ b → (jump to old new).next ≡ At v → (to ≡ v) × ((jump to old new).regs ≡ new)
jumped_row to v old new true t e =
    let f : At to ≡ At v = sym (ap (λ c. (if c then record { next = At to; regs = new } else stopped Target to old).next) t) ∙ e in
    (at_same to v f, ap (λ c. (if c then record { next = At to; regs = new } else stopped Target to old).regs) t)
jumped_row to v old new false t e =
    let f : Faulting Target to ≡ At v = sym (ap (λ c. (if c then record { next = At to; regs = new } else stopped Target to old).next) t) ∙ e in
    absurd (cc)

pub jal_row : (rd u v : ℕ) (imm : ℤ) (regs : List ℕ) (m : List Area) → rd ≡ 0 → (outcome (Jal rd imm) u regs m).next ≡ At v → (plus_offset u imm ≡ v) × ((outcome (Jal rd imm) u regs m).regs ≡ regs)
jal_row rd u v imm regs m z e =
    let h = jumped_row (plus_offset u imm) v regs (with_register regs rd (next_pc u)) (plus_offset u imm % 4 == 0) refl e in
    (h.0, h.1 ∙ ap (λ x. with_register regs x (next_pc u)) z)

pub branch_row : (op : BranchOp) (rs1 rs2 u v : ℕ) (imm : ℤ) (regs : List ℕ) (m : List Area) → (outcome (Branch op rs1 rs2 imm) u regs m).next ≡ At v
    → ((if taken op (register regs rs1) (register regs rs2) then plus_offset u imm else next_pc u) ≡ v) × ((outcome (Branch op rs1 rs2 imm) u regs m).regs ≡ regs)
branch_row op rs1 rs2 u v imm regs m e = go (taken op (register regs rs1) (register regs rs2)) e
  where
    go : (b : Bool) → (if b then jump (plus_offset u imm) regs regs else onward u regs).next ≡ At v
        → ((if b then plus_offset u imm else next_pc u) ≡ v) × ((if b then jump (plus_offset u imm) regs regs else onward u regs).regs ≡ regs)
    go true f = jumped_row (plus_offset u imm) v regs regs (plus_offset u imm % 4 == 0) refl f
    go false f = (at_same _ _ f, refl)

-- ---- ranges without a byte in common

some_bytes : (w : Width) → 1 ≤ bytes_of w
some_bytes One = omega arith
some_bytes Two = omega arith
some_bytes Four = omega arith
some_bytes Eight = omega arith

pub covers_is : (x n z : ℕ) → x ≤ z → z < x + n → covers x n z ≡ true
covers_is x n z lo hi = grind (arith, nat_tests)

pub covers_in : (x n z : ℕ) → covers x n z ≡ true → (x ≤ z) × (z < x + n)
covers_in x n z h = (grind (arith, nat_tests), grind (arith, nat_tests))

apart_from : (x y : ℕ) (w u : Width) → ((z : ℕ) → covers y (bytes_of u) z ≡ true → covers x (bytes_of w) z ≡ false) → (x + bytes_of w ≤ y) ⊎ (y + bytes_of u ≤ x)
apart_from x y w u none = go (cases_lt y (x + bytes_of w)) (cases_lt x (y + bytes_of u)) (cases_lt x y)
  where
    one : 1 ≤ bytes_of w
    one = some_bytes w

    two : 1 ≤ bytes_of u
    two = some_bytes u

    meet : (z : ℕ) → x ≤ z → z < x + bytes_of w → y ≤ z → z < y + bytes_of u → ⊥
    meet z a b c d = yes_no _ (covers_is x (bytes_of w) z a b) (none z (covers_is y (bytes_of u) z c d))

    go : (y < x + bytes_of w) ⊎ (x + bytes_of w ≤ y) → (x < y + bytes_of u) ⊎ (y + bytes_of u ≤ x) → (x < y) ⊎ (y ≤ x) → (x + bytes_of w ≤ y) ⊎ (y + bytes_of u ≤ x)
    go (inr a) b c = inl a
    go (inl a) (inr b) c = inr b
    go (inl a) (inl b) (inl c) = let t = two in absurd (meet y (omega arith) a (omega arith) (omega arith))
    go (inl a) (inl b) (inr c) = let t = one in absurd (meet x (omega arith) (omega arith) c b)

-- a store that is none to these bytes leaves their number
unless_apart : (o : Option MemFault) (m : List Area) (w u : Width) (x v y : ℕ) → ((z : ℕ) → covers y (bytes_of u) z ≡ true → stores_byte (unless_denied (without_number (or_refusal o tt)) (Stores x w v)) z ≡ false)
    → number_at (bytes_of u) (unless_refused o m (with_number (bytes_of w) m x v)) y ≡ number_at (bytes_of u) m y
unless_apart None m w u x v y none = number_at-with_number (bytes_of w) (bytes_of u) m x v y (apart_from x y w u none)
unless_apart (Some f) m w u x v y none = refl

pub number_stays : (m : List Area) (ask : Ask) (u : Width) (y : ℕ) → ((z : ℕ) → covers y (bytes_of u) z ≡ true → stores_byte (granted m ask) z ≡ false) → number_at (bytes_of u) (after m ask) y ≡ number_at (bytes_of u) m y
number_stays m Nothing u y none = refl
number_stays m (Loads x w) u y none = refl
number_stays m (Stores x w v) u y none = unless_apart (why writable_of m x w) m w u x v y none

-- ---- what is known of a visit

pub record Visited (l : Level) (B : LoopCode) (s : State) (n : ℕ) (i : Instr) : Type 0 where
  pub inside : Holds l (walk s n)
  pub is : B.instr (walk s n) ≡ Some i
  pub plain : IsPlainInstr i
  pub short : HasShortValue (walk s n) i
  pub at : (run s n).next ≡ At (walk s n)
  pub instr_is : instr (run s n) ≡ Some i
  pub next : (outcome i (walk s n) (run s n).regs (run s n).memory).next ≡ At (walk s (suc n))
  pub regs_next : (run s (suc n)).regs ≡ (outcome i (walk s n) (run s n).regs (run s n).memory).regs
  pub memory_next : (run s (suc n)).memory ≡ after (run s n).memory (asks i (run s n).regs)
  pub access_is : access (run s n) ≡ granted (run s n).memory (asks i (run s n).regs)
  pub words : AreWords (run s n).regs
  pub whole : AreWhole (run s n).memory

-- a location is known: it is not private, or one of these words writes it
abbrev pub Known : LoopCode → (ℕ → Role) → List ℕ → ℕ → Type 0
Known B roles us r = (roles r ≢ Private) ⊎ (some_writes B.cells B.instr us r ≡ true)

role_or : (x : Role) → (x ≡ Private) ⊎ (x ≢ Private)
role_or Keeps = inr (λ e. absurd (cc))
role_or (Moves z) = inr (λ e. absurd (cc))
role_or Private = inl refl

or_cases : (a b : Bool) → (a || b) ≡ true → (a ≡ true) ⊎ (b ≡ true)
or_cases true b e = inl refl
or_cases false b e = inr e

pub known_cases : (B : LoopCode) (roles : ℕ → Role) (u : ℕ) (us : List ℕ) (r : ℕ) → Known B roles (u ∷ us) r → (word_writes B.cells u (B.instr u) r ≡ true) ⊎ Known B roles us r
known_cases B roles u us r (inl h) = inr (inl h)
known_cases B roles u us r (inr h) = go (or_cases (word_writes B.cells u (B.instr u) r) (some_writes B.cells B.instr us r) h)
  where
    go : (word_writes B.cells u (B.instr u) r ≡ true) ⊎ (some_writes B.cells B.instr us r ≡ true) → (word_writes B.cells u (B.instr u) r ≡ true) ⊎ Known B roles us r
    go (inl a) = inl a
    go (inr a) = inr (inr a)

module _ (l : Level) (B : LoopCode) (roles : ℕ → Role) (s : State) (p : ℕ) (body : IsBody l B) (d : IsDivided l B roles s p) where
  pub visited : (n : ℕ) → turn l s n < p → (i : Instr) × Visited l B s n i
  visited n lt =
      let inside = d.independent.turns.inside n lt in
      let at = goes_here (has l.body) (run s n).next inside in
      let here = goes_to (has l.body) (run s n).next inside in
      let w = body.words (walk s n) here in
      let is : instr (run s n) ≡ Some w.does = d.words n lt ∙ w.is in
      let does = step_is (run s n) (walk s n) w.does at is in
      let on = goes_here (λ pc. true) (run s (suc n)).next (d.independent.turns.onward n lt) in (
        w.does,
        record {
          inside = here;
          is = w.is;
          plain = w.plain;
          short = w.short;
          at = at;
          instr_is = is;
          next = sym (ap (λ (x : State). x.next) does) ∙ on;
          regs_next = ap (λ (x : State). x.regs) does;
          memory_next = ap (λ (x : State). x.memory) does;
          access_is = ap (λ o. granted (run s n).memory (asks_of o (run s n).regs)) is;
          words = (sound_run s n d.registers d.bytes).0;
          whole = whole_run s n d.whole;
        },
      )

  -- the words that a turn has executed are those of the code
  seen_writes : (n r : ℕ) → turn l s n < p → some_writes B.cells (instr_at s.memory) (seen l s n) r ≡ some_writes B.cells B.instr (seen l s n) r
  seen_writes zero r lt = refl
  seen_writes (suc n) r lt =
      let before : turn l s n < p = (let x = step_up l s n in omega (arith, x)) in
      go (arrives l s (suc n)) (body_at before) (seen_writes n r before)
    where
      body_at : turn l s n < p → Holds l (walk s n)
      body_at h = goes_to (has l.body) (run s n).next (d.independent.turns.inside n h)

      go : (b : Bool) → Holds l (walk s n) → some_writes B.cells (instr_at s.memory) (seen l s n) r ≡ some_writes B.cells B.instr (seen l s n) r
          → some_writes B.cells (instr_at s.memory) (if b then [] else walk s n ∷ seen l s n) r ≡ some_writes B.cells B.instr (if b then [] else walk s n ∷ seen l s n) r
      go true inside later = refl
      go false inside later =
          ap (λ i. word_writes B.cells (walk s n) i r || some_writes B.cells (instr_at s.memory) (seen l s n) r) (d.first (walk s n) inside)
          ∙ ap (λ b. word_writes B.cells (walk s n) (B.instr (walk s n)) r || b) later

  -- what a word reads is known
  pub known_read : (n r : ℕ) → turn l s n < p → word_reads B.cells (walk s n) (instr (run s n)) r ≡ true → Known B roles (seen l s n) r
  known_read n r lt e = go (role_or (roles r))
    where
      go : (roles r ≡ Private) ⊎ (roles r ≢ Private) → Known B roles (seen l s n) r
      go (inl h) = inr (sym (seen_writes n r lt) ∙ d.independent.locations.before n r lt h e)
      go (inr h) = inl h

  -- at the end of a turn everything is
  pub known_at_end : (n r : ℕ) → turn l s n < p → arrives l s (suc n) ≡ true → Known B roles (walk s n ∷ seen l s n) r
  known_at_end n r lt ends = go (role_or (roles r))
    where
      inside : Holds l (walk s n)
      inside = goes_to (has l.body) (run s n).next (d.independent.turns.inside n lt)

      go : (roles r ≡ Private) ⊎ (roles r ≢ Private) → Known B roles (walk s n ∷ seen l s n) r
      go (inl h) =
          inr (sym (ap (λ i. word_writes B.cells (walk s n) i r || some_writes B.cells (instr_at s.memory) (seen l s n) r) (d.first (walk s n) inside)
          ∙ ap (λ b. word_writes B.cells (walk s n) (B.instr (walk s n)) r || b) (seen_writes n r lt)) ∙ d.independent.locations.written n r lt ends h)
      go (inr h) = inl h

  -- the number of a cell that a word does not use stays
  pub cell_stays : (n k : ℕ) (c : Cell) → turn l s n < p → cell_at B.cells.cells k ≡ Some c → B.cells.uses (walk s n) ≢ Some k
      → number_at (bytes_of (width_of c)) (run s (suc n)).memory (address s.regs c) ≡ number_at (bytes_of (width_of c)) (run s n).memory (address s.regs c)
  cell_stays n k c lt e ne =
      let v = (visited n lt).1 in
      ap (λ m. number_in (bytes_of (width_of c)) m (address s.regs c)) v.memory_next
      ∙ number_stays (run s n).memory (asks (visited n lt).0 (run s n).regs) (width_of c) (address s.regs c)
      (λ z h. ap (λ a. stores_byte a z) (sym v.access_is) ∙ quiet c.stored refl z h)
    where
      quiet : (b : Bool) → c.stored ≡ b → (z : ℕ) → in_cell s c z ≡ true → stores_byte (access (run s n)) z ≡ false
      quiet true q z h = (d.independent.cells.touched n k z c lt e q ne h).1
      quiet false q z h = d.independent.cells.written n k z c lt e q h
