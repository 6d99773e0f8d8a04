-- A walk has one next point: an entry has one loop with one check, added code is left at one first word, and so many turns
-- are one number of instructions.
use Rattle.std.proofs.Common.{◌≡◌, ℕ, zero, suc, ◌+◌, ◌<◌, ◌≤◌, ◌==◌, if◌then◌else◌, ◌⊎◌, inl, inr, Bool, true, false, List, [], ◌∷◌, map, Option, Some, None, refl, ap, sym, ◌∙◌, subst, subst₂, arith}
use Rattle.std.specs.Prelude.{slice_get, ◌-◌}
use Rattle.std.specs.List.Sorted.{IsStrictlyIncreasing}
use Rattle.std.proofs.lemmas.Bool.{cases_lt}
use Rattle.std.proofs.lemmas.Bool.Decides.{nat_tests}
use Rattle.std.proofs.lemmas.List.Elements.{All-get_or}
use Rattle.std.proofs.lemmas.List.Kept.{AllPairs-from_increasing}
use Rattle.std.proofs.lemmas.Option.{get_or_from_slice_get, slice_get_within}
use Rattle.elf_image.specs.declared.image.Elf.{Elf}
use Rattle.rv64_decode.specs.Hart.{Hart}
use Rattle.rv64_decode.specs.declared.outcome.Next.{Next}
use Rattle.rv64_decode.specs.declared.outcome.Next.TheVariants.{At}
use Rattle.serial_run.specs.Serial.{State}
use Rattle.loop_data.specs.declared.graph.Graph.{Graph}
use Rattle.loop_data.specs.declared.shape.Level.{Level}
use Rattle.loop_data.specs.declared.shape.LoopShape.{LoopShape}
use Rattle.loop_data.specs.Graphs.{IsGraph}
use Rattle.loop_data.specs.Loops.{AreLoops, headers_of}
use Rattle.loop_data.specs.Runs.{State as LoopState, run, goes_at}
use Rattle.loop_data.specs.Turns.{arrives, turn, IsArrival}
use Rattle.alias_checks.specs.declared.lists.Check.{Check}
use Rattle.alias_checks.specs.declared.lists.Turns.{Turns}
use Rattle.alias_checks.specs.Answers.{answer}
use Rattle.loop_choice.specs.Judging.{IsOneOfLoops, IsPlanOf}
use Rattle.loop_choice.specs.OnePlan.{OnePlanLaw}
use Rattle.loop_samples.specs.SerialRun.{state_in}
use Rattle.divided_loops.specs.Alone.{run_alone}
use Rattle.divided_loops.specs.Forks.{IsFirstBack}
use Rattle.image_writer.specs.declared.image.Entry.{Entry}
use Rattle.image_writer.specs.declared.image.Image.{Image}
use Rattle.hart_core.specs.Start.{no_count}
use Rattle.hart_core.specs.declared.entries.Found.{Found}
use Rattle.hart_core.specs.Entering.{entry_at, changed_count}
use Rattle.entered_loops.specs.Laws.{HasLoop, told, AreTurns}
use Rattle.walks.specs.Walk.{Point, state_at, first_point, behind_word, entering, with_one_arrival, with_turns, Arrives, behind_stub, IsAtWord, Comes, by_word, by_stub, GoesOn}
use Rattle.hart_core.specs.declared.counts.LoopCount.{LoopCount}
use Rattle.walks.proofs.Counts.{headers_stay, headers_start}
use Rattle.walks.specs.Laws.{OneWalkLaw, EntriesLaw, MoreLaw, plain_point, PlainLaw}

-- ---- one first word at which the hart leaves

pub one_first : (code : List ℕ) (n m : ℕ) (h : Hart) → IsFirstBack code n h → IsFirstBack code m h → n ≡ m
one_first code n m h a b = by (cases_lt n m) (cases_lt m n)
  where
    by : (n < m) ⊎ (m ≤ n) → (m < n) ⊎ (n ≤ m) → n ≡ m
    by (inl l) r = absurd (b.first n l a.leaves)
    by (inr g) (inl l) = absurd (a.first m l b.leaves)
    by (inr g) (inr l) = omega (arith, g, l)

-- ---- one arrival of a number

is_itself : (n : ℕ) → (n == n) ≡ true
is_itself n = grind (arith, nat_tests)

at_header : (next : Next) (pc : ℕ) → next ≡ At pc → goes_at (λ p. p == pc) next ≡ true
at_header next pc e = ap (goes_at (λ p. p == pc)) e ∙ is_itself pc

turn_next : (l : Level) (s : LoopState) (n : ℕ) (b : Bool) → arrives l s (suc n) ≡ b
    → turn l s (suc n) ≡ (if b then suc (turn l s n) else turn l s n)
turn_next l s n b e = ap (λ t. if t then suc (turn l s n) else turn l s n) e

turn_rises : (l : Level) (s : LoopState) (n : ℕ) → turn l s n ≤ turn l s (suc n)
turn_rises l s n = by (arrives l s (suc n)) refl
  where
    by : (b : Bool) → arrives l s (suc n) ≡ b → turn l s n ≤ turn l s (suc n)
    by true e = let t : turn l s (suc n) ≡ suc (turn l s n) = turn_next l s n true e in omega (arith, t)
    by false e = let t : turn l s (suc n) ≡ turn l s n = turn_next l s n false e in omega (arith, t)

turn_grows : (l : Level) (s : LoopState) (n k : ℕ) → turn l s n ≤ turn l s (n + k)
turn_grows l s n zero = let z : n + 0 ≡ n = omega arith in subst (λ m. turn l s n ≤ turn l s m) (sym z) (omega arith)
turn_grows l s n (suc k) =
    let a = turn_grows l s n k in
    let b = turn_rises l s (n + k) in
    let z : suc (n + k) ≡ n + suc k = omega arith in
    subst (λ m. turn l s n ≤ turn l s m) z (omega (arith, a, b))

-- at the header the turn is a later one than at each visit before
turn_later : (l : Level) (s : LoopState) (n k : ℕ) → (run s (n + suc k)).next ≡ At l.header → turn l s n < turn l s (n + suc k)
turn_later l s n k at =
    let z : suc (n + k) ≡ n + suc k = omega arith in
    let e : arrives l s (suc (n + k)) ≡ true = at_header (run s (suc (n + k))).next l.header (ap (λ m. (run s m).next) z ∙ at) in
    let t : turn l s (suc (n + k)) ≡ suc (turn l s (n + k)) = turn_next l s (n + k) true e in
    let a = turn_grows l s n k in
    subst (λ m. turn l s n < turn l s m) z (omega (arith, t, a))

not_before : (l : Level) (s : LoopState) (t n m : ℕ) → n < m → IsArrival l s t n → IsArrival l s t m → ⊥
not_before l s t n m lt a b =
    let k : ℕ = m - suc n in
    let z : n + suc k ≡ m = omega (arith, lt) in
    let later = turn_later l s n k (ap (λ j. (run s j).next) z ∙ b.at) in
    let same : turn l s (n + suc k) ≡ turn l s n = ap (turn l s) z ∙ b.turn ∙ sym a.turn in
    omega (arith, later, same)

pub one_arrival : (l : Level) (s : LoopState) (t n m : ℕ) → IsArrival l s t n → IsArrival l s t m → n ≡ m
one_arrival l s t n m a b = by (cases_lt n m) (cases_lt m n)
  where
    by : (n < m) ⊎ (m ≤ n) → (m < n) ⊎ (n ≤ m) → n ≡ m
    by (inl lt) r = absurd (not_before l s t n m lt a b)
    by (inr g) (inl lt) = absurd (not_before l s t m n lt b a)
    by (inr g) (inr lt) = omega (arith, g, lt)

one_turns : (l : Level) (s : State) (o : Option Turns) (n m : ℕ) → AreTurns l s o n → AreTurns l s o m → n ≡ m
one_turns l s None n m a b = a ∙ sym b
one_turns l s (Some t) n m a b = one_arrival l (state_in s) t.root n m a b

-- ---- one loop with a header

header_at : (shapes : List LoopShape) (p : ℕ) (x : LoopShape) → slice_get shapes p ≡ Some x
    → slice_get (headers_of shapes) p ≡ Some x.header
header_at [] p x e = absurd (cc e)
header_at (y ∷ ys) zero x e = let same : y ≡ x = cc e in ap (λ (s : LoopShape). Some s.header) same
header_at (y ∷ ys) (suc p) x e = header_at ys p x e

rises : (hs : List ℕ) (p q x y : ℕ) → IsStrictlyIncreasing hs → slice_get hs p ≡ Some x → slice_get hs q ≡ Some y → p < q → x < y
rises hs p q x y up a b lt =
    let r = AllPairs-from_increasing hs up p q 0 lt (slice_get_within hs q y b) in
    subst₂ (λ u v. u < v) (get_or_from_slice_get hs p x 0 a) (get_or_from_slice_get hs q y 0 b) r

same_place : (shapes : List LoopShape) (p q : ℕ) (x y : LoopShape) → IsStrictlyIncreasing (headers_of shapes)
    → slice_get shapes p ≡ Some x → slice_get shapes q ≡ Some y
    → x.header ≡ y.header → p ≡ q
same_place shapes p q x y up a b e = by (cases_lt p q) (cases_lt q p)
  where
    by : (p < q) ⊎ (q ≤ p) → (q < p) ⊎ (p ≤ q) → p ≡ q
    by (inl lt) r =
        let l = rises (headers_of shapes) p q x.header y.header up (header_at shapes p x a) (header_at shapes q y b) lt in
        absurd (omega (arith, l, e))
    by (inr g) (inl lt) =
        let l = rises (headers_of shapes) q p y.header x.header up (header_at shapes q y b) (header_at shapes p x a) lt in
        absurd (omega (arith, l, e))
    by (inr g) (inr lt) = omega (arith, g, lt)

same_shape : (shapes : List LoopShape) (p q : ℕ) (x y : LoopShape) → IsStrictlyIncreasing (headers_of shapes)
    → slice_get shapes p ≡ Some x → slice_get shapes q ≡ Some y
    → x.header ≡ y.header → x ≡ y
same_shape shapes p q x y up a b e =
    let place = same_place shapes p q x y up a b e in
    let both : Some x ≡ Some y = sym a ∙ ap (slice_get shapes) place ∙ b in
    cc both

same_root : (xs ys : List Level) (x y : Level) (inner rest : List Level) → xs ≡ ys → xs ≡ x ∷ inner → ys ≡ y ∷ rest → x ≡ y
same_root xs ys x y inner rest e a b = let both : x ∷ inner ≡ y ∷ rest = sym a ∙ e ∙ b in cc both

-- the laws of the analysis
pub record Laws : Type 0 where
  pub graphs : (elf : Elf) (g h : Graph) → IsGraph elf g → IsGraph elf h → g ≡ h
  pub lists : (G : Graph) (xs ys : List LoopShape) → AreLoops G xs → AreLoops G ys → xs ≡ ys
  pub plans : OnePlanLaw

one_of : (G : Graph) (shapes : List LoopShape) (place : ℕ) (shape : LoopShape) → AreLoops G shapes → slice_get shapes place ≡ Some shape
    → IsOneOfLoops G shape
one_of G shapes place shape loops is =
    subst (IsOneOfLoops G) (get_or_from_slice_get shapes place shape shape is)
    (All-get_or (IsOneOfLoops G) shapes place shape (slice_get_within shapes place shape is) loops.each)

one_loop : Laws → (elf : Elf) (pc : ℕ) (a b : HasLoop elf pc) → (a.root ≡ b.root) × (a.check ≡ b.check)
one_loop laws elf pc a b =
    let g : a.graph ≡ b.graph = laws.graphs elf a.graph b.graph a.is b.is in
    let loops : AreLoops a.graph b.shapes = subst (λ (G : Graph). AreLoops G b.shapes) (sym g) b.loops in
    let shapes : a.shapes ≡ b.shapes = laws.lists a.graph a.shapes b.shapes a.loops loops in
    let listed : slice_get a.shapes b.place ≡ Some b.shape = ap (λ (l : List LoopShape). slice_get l b.place) shapes ∙ b.listed in
    let x : a.shape ≡ b.shape =
    same_shape a.shapes a.place b.place a.shape b.shape a.loops.ordered a.listed listed (a.header ∙ sym b.header) in
    let planned : IsPlanOf a.graph elf a.shape b.plan b.check =
    subst₂ (λ (G : Graph) (S : LoopShape). IsPlanOf G elf S b.plan b.check) (sym g) (sym x) b.planned in
    let listed_here = one_of a.graph a.shapes a.place a.shape a.loops a.listed in
    let one = laws.plans elf a.graph a.shape a.plan b.plan a.check b.check a.is listed_here a.planned planned in
    (same_root a.shape.levels b.shape.levels a.root b.root a.inner b.inner (ap (λ (S : LoopShape). S.levels) x) a.levels b.levels, one.1)

-- ---- one next point

-- behind added code, by what has happened there
abbrev point_by : Image → State → Point → Found → ℕ → ℕ → Option Turns → Point
point_by image s w found words instructions turns = record {
  index = w.index + instructions;
  passing = true;
  slots = (run_alone image.code words (entering s w.slots found)).slots;
  loops = changed_count w.loops found.number (λ c. with_turns turns (with_one_arrival c));
  events = w.events + suc words;
}

module _ (laws : Laws) (image : Image) (s : State) where
  one_found : (slots : List ℕ) (a b : Arrives image s slots) → a.found ≡ b.found
  one_found slots a b = let both : Some a.found ≡ Some b.found = sym a.at ∙ b.at in cc both

  one_told : (slots : List ℕ) (a b : Arrives image s slots) → told image.elf s a.loop ≡ told image.elf s b.loop
  one_told slots a b = ap (λ (c : Check). answer c s.machine.regs s.machine.memory) (one_loop laws image.elf s.machine.pc a.loop b.loop).1

  one_words : (slots : List ℕ) (a b : Arrives image s slots) → a.words ≡ b.words
  one_words slots a b =
      one_first image.code a.words b.words (entering s slots a.found) a.first
      (subst (λ (f : Found). IsFirstBack image.code b.words (entering s slots f)) (sym (one_found slots a b)) b.first)

  one_instructions : (slots : List ℕ) (a b : Arrives image s slots) → a.instructions ≡ b.instructions
  one_instructions slots a b =
      let root = (one_loop laws image.elf s.machine.pc a.loop b.loop).0 in
      let there =
      subst₂ (λ (l : Level) (o : Option Turns). AreTurns l s o b.instructions) (sym root) (sym (one_told slots a b)) b.are_turns in
      one_turns a.loop.root s (told image.elf s a.loop) a.instructions b.instructions a.are_turns there

  pub one_behind : (w : Point) (a b : Arrives image s w.slots) → behind_stub image s w a ≡ behind_stub image s w b
  one_behind w a b =
      ap (λ (f : Found). point_by image s w f a.words a.instructions (told image.elf s a.loop)) (one_found w.slots a b)
      ∙ ap (λ n. point_by image s w b.found n a.instructions (told image.elf s a.loop)) (one_words w.slots a b)
      ∙ ap (λ n. point_by image s w b.found b.words n (told image.elf s a.loop)) (one_instructions w.slots a b)
      ∙ ap (λ (o : Option Turns). point_by image s w b.found b.words b.instructions o) (one_told w.slots a b)

  -- at a word of the executable the walk does not arrive
  no_arrival : (w : Point) → IsAtWord image s w.passing → w.passing ≡ false → Arrives image s w.slots → ⊥
  no_arrival w (inl p) off a = let e : true ≡ false = sym p ∙ off in cc e
  no_arrival w (inr none) off a = let e : None ≡ Some a.found = sym none ∙ a.at in cc e

  one_next : (w u v : Point) → Comes image s w u → Comes image s w v → u ≡ v
  one_next w u v (by_word a) (by_word b) = refl
  one_next w u v (by_word at) (by_stub off b) = absurd (no_arrival w at off b)
  one_next w u v (by_stub off a) (by_word at) = absurd (no_arrival w at off a)
  one_next w u v (by_stub p a) (by_stub q b) = one_behind w a b

pub one_walk : Laws → OneWalkLaw
one_walk laws image input zero w v a b = a ∙ sym b
one_walk laws image input (suc k) w v a b =
    let same : a.0 ≡ b.0 = one_walk laws image input k a.0 b.0 a.1 b.1 in
    let other : GoesOn image input a.0 v = subst (λ (u : Point). GoesOn image input u v) (sym same) b.2 in
    one_next laws image (state_at image input a.0) a.0 w v a.2.comes other.comes

-- ---- events are counted at each point

pub more_law : MoreLaw
more_law image input zero w p = omega arith
more_law image input (suc k) w p = by (more_law image input k p.0 p.1) w p.2.comes
  where
    by : k ≤ p.0.events → (w : Point) → Comes image (state_at image input p.0) p.0 w → suc k ≤ w.events
    by le w (by_word at) = omega (arith, le)
    by le w (by_stub off a) = omega (arith, le)

-- ---- what is counted is of the entries

headers_next : (image : Image) (s : State) (w v : Point) → Comes image s w v
    → map (λ (c : LoopCount). c.header) v.loops ≡ map (λ (c : LoopCount). c.header) w.loops
headers_next image s w v (by_word at) = refl
headers_next image s w v (by_stub off a) = headers_stay (told image.elf s a.loop) w.loops a.found.number

pub entries_law : EntriesLaw
entries_law image input zero w p = ap (λ (v : Point). map (λ (c : LoopCount). c.header) v.loops) p ∙ headers_start image.entries
entries_law image input (suc k) w p = headers_next image (state_at image input p.0) p.0 w p.2.comes ∙ entries_law image input k p.0 p.1

-- ---- an image without entries

no_entry : (pc : ℕ) (found : Found) → entry_at [] pc ≡ Some found → ⊥
unfolding entry_at
no_entry pc found e = cc e

plain_next : (image : Image) (s : State) (k : ℕ) (v w : Point) → image.entries ≡ [] → v ≡ plain_point k → Comes image s v w
    → w ≡ plain_point (suc k)
plain_next image s k v w none e (by_word at) = ap behind_word e
plain_next image s k v w none e (by_stub off a) =
    absurd (no_entry s.machine.pc a.found (ap (λ (es : List Entry). entry_at es s.machine.pc) (sym none) ∙ a.at))

pub plain_law : PlainLaw
plain_law image input zero w none p =
    p ∙ ap (λ (es : List Entry). record (first_point image) { loops = map no_count es }) none
plain_law image input (suc k) w none p =
    plain_next image (state_at image input p.0) k p.0 w none (plain_law image input k p.0 none p.1) p.2.comes
