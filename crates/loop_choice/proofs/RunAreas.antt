-- The areas of memory in a run, and the code in them.
use Rattle.std.proofs.Common.{◌≡◌, ℕ, zero, suc, ◌+◌, ◌-◌, ◌%◌, ◌^◌, ◌<◌, ◌≤◌, ◌==◌, List, [], ◌∷◌, length, get_or, Bool, true, false, not, ◌&&◌, if◌then◌else◌, Option, Some, None, Result, Ok, Err, refl, ap, sym, ◌∙◌, subst, arith, pos, ◌+ℤ◌, ◌≤ℤ◌}
use Rattle.std.proofs.lemmas.Int.{ints}
use Rattle.std.specs.List.{Contains}
use Rattle.std.proofs.lemmas.List.{get_or_default}
use Rattle.elf_image.specs.declared.image.Elf.{Elf}
use Rattle.elf_image.specs.Layout.{IsLoadable}
use Rattle.rv64_decode.specs.Area.{Area, holds, area_at, byte_at, number_at, why, why_in, fetch_of, bytes_of, readable_of, writable_of, executable_of, or_refusal}
use Rattle.rv64_decode.specs.Fetched.{instr_at, instr_in}
use Rattle.rv64_decode.specs.Range.{AreBytes}
use Rattle.rv64_decode.specs.Row.{asks}
use Rattle.rv64_decode.proofs.Sound.{number_4}
use Rattle.rv64_decode.specs.Table.{decoded}
use Rattle.rv64_decode.specs.declared.instr.Instr.{Instr}
use Rattle.rv64_decode.specs.declared.memory.Width.{Width}
use Rattle.rv64_decode.specs.declared.memory.Width.TheVariants.{One, Two, Four, Eight}
use Rattle.rv64_decode.specs.declared.memory.MemFault.{MemFault}
use Rattle.rv64_decode.specs.declared.memory.MemFault.TheVariants.{Misaligned}
use Rattle.rv64_decode.specs.declared.outcome.Next.{Next}
use Rattle.rv64_decode.specs.declared.outcome.Next.TheVariants.{At, Call, Fault as Faulting}
use Rattle.guest_memory.specs.Areas.{areas_of}
use Rattle.guest_memory.specs.Layout.{AreasLieFrom, KeepAreas, end_of, no_area}
use Rattle.guest_memory.proofs.Areas.{area_at-nth}
use Rattle.guest_memory.proofs.Kept.{keep_self, keep_on, keep-lie, after-keeps, fetch-keeps}
use Rattle.guest_memory.proofs.Loaded.{areas-lie}
use Rattle.loop_data.specs.declared.graph.Word.{Word}
use Rattle.loop_data.specs.declared.graph.Graph.{Graph}
use Rattle.loop_data.specs.Code.{word_at}
use Rattle.loop_data.specs.Graphs.{IsGraph}
use Rattle.loop_data.specs.Instructions.{Means}
use Rattle.loop_data.specs.Executing.{AreWhole}
use Rattle.loop_data.specs.Runs.{State, executed, fetched, stepped, step, run}
use Rattle.loop_data.specs.Turns.{HasAreas}
use Rattle.loop_data.proofs.Tests.{is_eq}
use Rattle.alias_checks.specs.declared.areas.Permission.{Permission}
use Rattle.alias_checks.specs.Areas.{Range, permits}
use Rattle.alias_checks.specs.Holds.{LiesIn}
use Rattle.loop_choice.proofs.StartCode.{code_at_start}

-- ---- memories with the same areas

pub same_lie : (from : ℕ) (areas m : List Area) → HasAreas areas m → AreasLieFrom from areas → AreasLieFrom from m
same_lie from [] [] h lie = tt
same_lie from [] (b ∷ m) h lie = absurd h
same_lie from (a ∷ areas) [] h lie = absurd h
same_lie from (a ∷ areas) (b ∷ m) h lie =
    let s = h.0 in
    let ends : end_of a ≡ end_of b = rw (s.low, s.length) refl in (
      rw s.low lie.0,
      rw s.low lie.1,
      rw s.length lie.2,
      rw (← ends) lie.3,
      (let P : ℕ → Type 0 = λ v. AreasLieFrom v m in subst P ends (same_lie (end_of a) areas m h.1 lie.4)),
      rw (s.writable, s.executable) lie.5,
    )

-- areas of which those that may not be executed may be written
abbrev strip : List Area → List Area
strip [] = []
strip (a ∷ m) =
    record { low = a.low; readable = a.readable; writable = not a.executable; executable = a.executable; bytes = a.bytes } ∷ strip m

strip_byte : (m : List Area) (x : ℕ) → byte_at (strip m) x ≡ byte_at m x
strip_byte [] x = refl
strip_byte (a ∷ m) x = ap (λ b. if holds a x then get_or a.bytes (x - a.low) 0 else b) (strip_byte m x)

strip_why : (m : List Area) (x : ℕ) → why_in executable_of (area_at (strip m) x) ≡ why_in executable_of (area_at m x)
strip_why [] x = refl
strip_why (a ∷ m) x = go (holds a x) (strip_why m x)
  where
    go : (b : Bool) → why_in executable_of (area_at (strip m) x) ≡ why_in executable_of (area_at m x)
        → why_in executable_of (if b then Some (record { low = a.low; readable = a.readable; writable = not a.executable; executable = a.executable; bytes = a.bytes }) else area_at (strip m) x) ≡ why_in executable_of (if b then Some a else area_at m x)
    go true e = refl
    go false e = e

strip_fetch : (m : List Area) (x : ℕ) → fetch_of (strip m) x ≡ fetch_of m x
strip_fetch m x =
    let b0 = strip_byte m x in
    let b1 = strip_byte m (suc x) in
    let b2 = strip_byte m (suc (suc x)) in
    let b3 = strip_byte m (suc (suc (suc x))) in
    let number : number_at 4 (strip m) x ≡ number_at 4 m x = rw (b0, b1, b2, b3) refl in
    ap (λ (o : Option MemFault). or_refusal (if x % 4 == 0 then o else Some Misaligned) (number_at 4 (strip m) x)) (strip_why m x)
    ∙ ap (λ (v : ℕ). or_refusal (if x % 4 == 0 then why_in executable_of (area_at m x) else Some Misaligned) v) number

not_both : (b : Bool) → (not b && b) ≡ false
not_both true = refl
not_both false = refl

strip_lie : (from : ℕ) (m : List Area) → AreasLieFrom from m → AreasLieFrom from (strip m)
strip_lie from [] lie = tt
strip_lie from (a ∷ m) lie = (lie.0, lie.1, lie.2, lie.3, strip_lie (end_of a) m lie.4, not_both a.executable)

strip_keep : (areas m : List Area) → HasAreas areas m → KeepAreas (strip areas) (strip m)
strip_keep [] [] h = tt
strip_keep [] (b ∷ m) h = absurd h
strip_keep (a ∷ areas) [] h = absurd h
strip_keep (a ∷ areas) (b ∷ m) h =
    let s = h.0 in
    (s.low, s.readable, ap not s.executable, s.executable, s.length, (λ e. s.code (unnot a.executable e)), strip_keep areas m h.1)
  where
    unnot : (b : Bool) → not b ≡ false → b ≡ true
    unnot true e = refl
    unnot false e = absurd (cc)

-- they have the same code
same_code : (areas m : List Area) (x : ℕ) → AreasLieFrom 0 areas → HasAreas areas m → fetch_of m x ≡ fetch_of areas x
same_code areas m x lie h =
    sym (strip_fetch m x) ∙ fetch-keeps (strip areas) (strip m) x (strip_lie 0 areas lie) (strip_keep areas m h) ∙ strip_fetch areas x

pub whole_areas : (from : ℕ) (m : List Area) → AreasLieFrom from m → AreWhole m
whole_areas from [] lie = tt
whole_areas from (a ∷ m) lie = let p = lie.1 in let q = lie.2 in (lie.1, omega arith, whole_areas (end_of a) m lie.4)

-- ---- a run keeps its areas

kept_executed : (word : ℕ) (o : Option Instr) (pc : ℕ) (regs : List ℕ) (m : List Area) → AreasLieFrom 0 m → KeepAreas m (executed word o pc regs m).memory
kept_executed word (Some i) pc regs m lie = after-keeps m (asks i regs) lie
kept_executed word None pc regs m lie = keep_self m

kept_fetched : (o : Result ℕ MemFault) (pc : ℕ) (regs : List ℕ) (m : List Area) → AreasLieFrom 0 m → KeepAreas m (fetched o pc regs m).memory
kept_fetched (Ok word) pc regs m lie = kept_executed word (decoded word) pc regs m lie
kept_fetched (Err why) pc regs m lie = keep_self m

kept_stepped : (n : Next) (regs : List ℕ) (m : List Area) → AreasLieFrom 0 m → KeepAreas m (stepped n regs m).memory
kept_stepped (At pc) regs m lie = kept_fetched (fetch_of m pc) pc regs m lie
kept_stepped Call regs m lie = keep_self m
kept_stepped (Faulting kind addr) regs m lie = keep_self m

kept_step : (s : State) → AreasLieFrom 0 s.memory → KeepAreas s.memory (step s).memory
unfolding step
kept_step s lie = kept_stepped s.next s.regs s.memory lie

pub kept_run : (s : State) (n : ℕ) → AreasLieFrom 0 s.memory → KeepAreas s.memory (run s n).memory
kept_run s zero lie = keep_self s.memory
kept_run s (suc n) lie =
    let k = kept_run s n lie in
    keep_on s.memory (run s n).memory (step (run s n)).memory k (kept_step (run s n) (keep-lie 0 s.memory (run s n).memory lie k))

-- ---- a word of the program stands where it did

module _ (elf : Elf) (G : Graph) (load : IsLoadable elf) (graph : IsGraph elf G) (s : State) (areas : HasAreas (areas_of elf) s.memory) where
  pub state_lie : AreasLieFrom 0 s.memory
  state_lie = same_lie 0 (areas_of elf) s.memory areas (areas-lie elf load)

  -- a word of the program is fetched
  fetched_first : (w : Word) → Contains G.words w → fetch_of s.memory w.at ≡ Ok w.bits
  fetched_first w c =
      let of = graph.words c.0 w c.1 in
      let bits : word_at elf w.at ≡ Some w.bits = subst (λ (x : Word). word_at elf x.at ≡ Some x.bits) c.2 of.bits in
      same_code (areas_of elf) s.memory w.at (areas-lie elf load) areas ∙ code_at_start elf w.at w.bits load bits

  pub code_stays : (u n : ℕ) (i : Option Instr) → Means G u i → instr_at (run s n).memory u ≡ i
  code_stays u n i m =
      let later = fetch-keeps s.memory (run s n).memory m.word.at state_lie (kept_run s n state_lie) in
      subst (λ x. instr_at (run s n).memory x ≡ i) m.at (ap instr_in (later ∙ fetched_first m.word m.among) ∙ m.means)

  -- words have 32 bits
  pub bits_below : AreBytes s.memory → (w : Word) → Contains G.words w → w.bits < 2 ^ 32
  bits_below bytes w c = subst (λ b. b < 2 ^ 32) (by (why executable_of s.memory w.at Four) (fetched_first w c)) (number_4 s.memory w.at bytes)
    where
      by : (o : Option MemFault) → or_refusal o (number_at 4 s.memory w.at) ≡ Ok w.bits → number_at 4 s.memory w.at ≡ w.bits
      by None e = cc
      by (Some f) e = absurd (cc)

-- ---- accesses that are not refused

-- a permission depends on the flags of an area
abbrev pub IsOfFlags : (Area → Bool) → Type 0
IsOfFlags test = (a b : Area) → b.readable ≡ a.readable → b.writable ≡ a.writable → test b ≡ test a

pub readable_flags : IsOfFlags readable_of
readable_flags a b r w = r

pub writable_flags : IsOfFlags writable_of
writable_flags a b r w = w

same_where : (test : Area → Bool) (m n : List Area) (x : ℕ) → IsOfFlags test → KeepAreas m n → why_in test (area_at n x) ≡ why_in test (area_at m x)
same_where test [] [] x f k = refl
same_where test [] (b ∷ n) x f k = absurd k
same_where test (a ∷ m) [] x f k = absurd k
same_where test (a ∷ m) (b ∷ n) x f k = go (holds a x) (holds b x) (rw (k.0, k.4) refl) (same_where test m n x f k.6)
  where
    go : (s t : Bool) → t ≡ s → why_in test (area_at n x) ≡ why_in test (area_at m x) → why_in test (if t then Some b else area_at n x) ≡ why_in test (if s then Some a else area_at m x)
    go true true e later = rw (f a b k.1 k.2) refl
    go true false e later = cc
    go false true e later = cc
    go false false e later = later

pub same_refusals : (test : Area → Bool) (m n : List Area) (x : ℕ) (w : Width) → IsOfFlags test → KeepAreas m n → why test n x w ≡ why test m x w
same_refusals test m n x w f k = ap (λ (o : Option MemFault). if x % bytes_of w == 0 then o else Some Misaligned) (same_where test m n x f k)

some_bytes : (w : Width) → 1 ≤ bytes_of w
some_bytes One = omega arith
some_bytes Two = omega arith
some_bytes Four = omega arith
some_bytes Eight = omega arith

-- an aligned access inside a range that lies in an area
pub allowed_in : (test : Area → Bool) (permission : Permission) (m : List Area) (r : Range) (x : ℕ) (w : Width) → ((a : Area) → permits permission a ≡ true → test a ≡ true) → AreasLieFrom 0 m → LiesIn m permission r → x % bytes_of w ≡ 0
    → r.0 ≤ℤ pos x → (pos x +ℤ pos (bytes_of w)) ≤ℤ r.1 → why test m x w ≡ None
allowed_in test permission m r x w gives lie h at low high =
    let c = h.among in
    let same : get_or m c.0 no_area ≡ h.area = get_or_default m c.0 no_area h.area c.1 ∙ c.2 in
    let one = some_bytes w in
    let l = h.low in
    let e = h.end in
    let above : h.area.low ≤ x = omega (arith, ints) in
    let below : x < h.area.low + length h.area.bytes = omega (arith, ints) in
    let there : area_at m x ≡ Some h.area =
    subst (λ a. area_at m x ≡ Some a) same (area_at-nth 0 m c.0 x lie c.1 (subst (λ (a : Area). a.low ≤ x) (sym same) above) (subst (λ (a : Area). x < a.low + length a.bytes) (sym same) below)) in
    ap (λ b. if b then why_in test (area_at m x) else Some Misaligned) (is_eq (x % bytes_of w) 0 at) ∙ ap (why_in test) there ∙ ap (λ b. if b then None else Some Rattle.rv64_decode.specs.declared.memory.MemFault.TheVariants.Denied) (gives h.area h.permitted)
