-- From laws on instructions to the words that a hart runs.
use Rattle.std.proofs.Common.{◌≡◌, ℕ, ◌+◌, ◌^◌, ◌<◌, ◌≤◌, refl, sym, subst, ap, ◌∙◌, arith, Option, Some, None, Bool, true, false, cond, List, [], ◌∷◌, ◌++◌, length}
use Rattle.std.specs.Prelude.{◌==◌, slice_index}
use Rattle.std.proofs.lemmas.Bool.Decides.{nat_tests}
use Rattle.rv64_decode.specs.Area.{Area}
use Rattle.rv64_decode.specs.Ask.{Ask}
use Rattle.rv64_decode.specs.Registers.{register}
use Rattle.rv64_decode.specs.Hart.{Hart, address, run}
use Rattle.rv64_decode.specs.declared.xinstr.XInstr.{XInstr}
use Rattle.stub_laws.specs.Code.{readings, somes}
use Rattle.stub_laws.specs.Places.{behind, WordsAt}
use Rattle.stub_laws.specs.Straight.{read}
use Rattle.stub_laws.specs.Locations.{slot_of, held_by, Keeps}
use Rattle.stub_laws.specs.Harts.{IsHartAt, Came, Gives, Comes, Reached, Failed, Checked}
use Rattle.stub_laws.proofs.Steps.{World, Wins, Reaches, Reads, Holds, hart_at, behind_hop, hop_is}
use Rattle.stub_laws.proofs.Known.{seen, Knows}
use Rattle.stub_laws.proofs.Places.{stands_words}
use Rattle.stub_laws.proofs.Exact.{one_end}
use Rattle.stub_laws.proofs.Tests.{Known}
use Rattle.stub_laws.proofs.Logs.{at, IsLoading}

none_below : (loc : ℕ) → slot_of loc ≡ None → loc < 32
none_below loc h = grind (arith, nat_tests)

some_below : (loc s : ℕ) → loc < 64 → slot_of loc ≡ Some s → s < 32
some_below loc s a h = grind (arith, nat_tests)

twice : (t : Bool) (x : ℕ) → cond t 0 x ≡ cond t 0 (cond t 0 x)
twice true x = refl
twice false x = refl

held_seen : (h : Hart) (loc : ℕ) (o : Option ℕ) → seen (register h.regs) (slice_index h.slots) loc o ≡ held_by h loc o
held_seen h loc None = sym (twice (loc == 0) (slice_index h.regs loc))
held_seen h loc (Some s) = refl

seen_held : (w : World) (p : ℕ) (f g : ℕ → ℕ) (regs slots : List ℕ) (loc : ℕ) (o : Option ℕ) → Reads regs f → Holds slots g → loc < 64 → slot_of loc ≡ o → held_by (hart_at w p regs slots) loc o ≡ seen f g loc o
seen_held w p f g regs slots loc None a b c d = a.each loc (none_below loc d)
seen_held w p f g regs slots loc (Some s) a b c d = b.each s (some_below loc s c d)

pub many_words : (words : List ℕ) (is : List XInstr) → readings words ≡ somes is → length is ≡ length words
unfolding readings somes
many_words [] [] e = refl
many_words [] (i ∷ is) e = cc
many_words (x ∷ words) [] e = cc
many_words (x ∷ words) (i ∷ is) e = let t : readings words ≡ somes is = cc in let h = many_words words is t in omega (arith, h)

-- a hart at a place, with what is to be reached at another
abbrev pub world_of : (code : List ℕ) → length code ≤ 2 ^ 32 → (out : ℕ) → out ≤ 2 ^ 32 → Hart → (Hart → Type 0) → World
world_of code short out near h goal = record { code = code; short = short; no = out; near = near; memory = h.memory; log = h.log; number = h.number; harts = h.harts; goal = goal }

pub arrived : (w : World) (known : ℕ → Bool) (e f g : ℕ → ℕ) (p : ℕ) → Knows known e f g → ((loc : ℕ) → known loc ≡ true → loc < 64) → ((h : Hart) → Reached known e w.memory w.log p h → w.goal h) → Wins w p f g
unfolding run
arrived w known e f g p k bound is = record {
  by = λ regs slots a b.
      (0, is (hart_at w p regs slots) (record { at = refl; memory = refl; log = refl; keeps = record { registers = a.many; slots = b.many; each = λ loc n. seen_held w p f g regs slots loc (slot_of loc) a b (bound loc n) refl ∙ k.each loc n; bound = bound; small = k.small } }));
}

pub started : (code : List ℕ) (short : length code ≤ 2 ^ 32) (out : ℕ) (near : out ≤ 2 ^ 32) (goal : Hart → Type 0) (known : ℕ → Bool) (e : ℕ → ℕ) (p : ℕ) (h : Hart) → h.pc ≡ address p → Keeps known e h → (Knows known e (register h.regs) (slice_index h.slots) → Wins (world_of code short out near h goal) p (register h.regs) (slice_index h.slots)) → (n : ℕ) × goal (run code n h)
started code short out near goal known e p h at k wins =
    let knows : Knows known e (register h.regs) (slice_index h.slots) = record { each = λ loc x. held_seen h loc (slot_of loc) ∙ k.each loc x; small = k.small } in
    let reads : Reads h.regs (register h.regs) = record { many = k.registers; each = λ q d. twice (q == 0) (slice_index h.regs q) } in
    let holds : Holds h.slots (slice_index h.slots) = record { many = k.slots; each = λ q d. refl } in
    let same : hart_at (world_of code short out near h goal) p h.regs h.slots ≡ h = ap (λ n. record h { pc = n }) (sym at) in
    subst (Reaches (world_of code short out near h goal)) same ((wins knows).by h.regs h.slots reads holds)

-- a test on instructions is a test on the words that stand for them
pub checked : (m : List Area) (known known' : ℕ → Bool) (e : ℕ → ℕ) (words : List ℕ) (is : List XInstr) (b : Bool) (loads : List Ask) → readings words ≡ somes is → ((loc : ℕ) → known' loc ≡ true → loc < 64) → ((w : World) → w.memory ≡ m → IsLoading w (Known known e) (Known known e) (Known known' e) is b loads) → Checked m known known' e words b loads
checked m known known' e words is b loads r bound law = record {
  by = λ code p out to k h short near place words_at here mem keeps.
      let end : behind p is ≡ p + length words = behind_hop p is ∙ hop_is (length is) p ∙ ap (λ n. p + n) (many_words words is r) in (
        λ yes'. let w = world_of code short out near h (Reached known' e h.memory (h.log ++ loads) (p + length words)) in
            started code short out near w.goal known e p h here keeps (λ knows. (law w mem).by h.log p _ _ knows (stands_words code out is words p to k place words_at r)
            (λ x f g y. arrived (at w (h.log ++ loads)) known' e f g (behind p is) y bound (λ h' q. subst (λ n. Reached known' e h.memory (h.log ++ loads) n h') end q))
            (λ x l f g y. absurd (cc))),
        λ no'. let w = world_of code short out near h (Failed known e h.memory out) in
            started code short out near w.goal known e p h here keeps (λ knows. (law w mem).by h.log p _ _ knows (stands_words code out is words p to k place words_at r)
            (λ x f g y. absurd (cc))
            (λ x l f g y. arrived (at w l) known e f g out y keeps.bound (λ h' q. record { at = q.at; memory = q.memory; keeps = q.keeps }))),
      );
}

-- where the words are all the code: the end exactly where the test holds, the target exactly where it fails
pub exactly_checked : (m : List Area) (known known' : ℕ → Bool) (e : ℕ → ℕ) (words code : List ℕ) (holds : Bool) (loads : List Ask) (out : ℕ) (h : Hart) → Checked m known known' e words holds loads → length code ≡ length words → length code < out → out ≤ 2 ^ 32 → WordsAt code 0 out 0 words → h.pc ≡ address 0 → h.memory ≡ m → Keeps known e h
    → ((n : ℕ) → (run code n h).pc ≡ address (length words) → holds ≡ true) × ((n : ℕ) → (run code n h).pc ≡ address out → holds ≡ false)
exactly_checked m known known' e words code holds loads out h law size near far stand place mem keeps =
    let r = law.by code 0 out out 0 h (omega arith) far (omega arith) stand place mem keeps in
    (λ n x. yes_of holds r.0 r.1 n x, λ n x. no_of holds r.0 r.1 n x)
  where
    yes_of : (t : Bool) → (t ≡ true → (n : ℕ) × Reached known' e h.memory (h.log ++ loads) (0 + length words) (run code n h)) → (t ≡ false → (n : ℕ) × Failed known e h.memory out (run code n h)) → (n : ℕ) → (run code n h).pc ≡ address (length words) → t ≡ true
    yes_of true on off n x = refl
    yes_of false on off n x = let r = off refl in let s = one_end code n r.0 (length words) out h (omega arith) (omega arith) x r.1.at in absurd (omega arith)

    no_of : (t : Bool) → (t ≡ true → (n : ℕ) × Reached known' e h.memory (h.log ++ loads) (0 + length words) (run code n h)) → (t ≡ false → (n : ℕ) × Failed known e h.memory out (run code n h)) → (n : ℕ) → (run code n h).pc ≡ address out → t ≡ false
    no_of false on off n x = refl
    no_of true on off n x = let r = on refl in let s = one_end code n r.0 out (0 + length words) h (omega arith) (omega arith) x r.1.at in absurd (omega arith)

-- from the registers and slots of a hart: what is won over them is reached
pub from_hart : (code : List ℕ) (short : length code ≤ 2 ^ 32) (out : ℕ) (near : out ≤ 2 ^ 32) (goal : Hart → Type 0) (p : ℕ) (h : Hart) → IsHartAt p h → Wins (world_of code short out near h goal) p (register h.regs) (slice_index h.slots) → (n : ℕ) × goal (run code n h)
from_hart code short out near goal p h is wins =
    let reads : Reads h.regs (register h.regs) = record { many = is.registers.count; each = λ q d. twice (q == 0) (slice_index h.regs q) } in
    let holds : Holds h.slots (slice_index h.slots) = record { many = is.slots.count; each = λ q d. refl } in
    let same : hart_at (world_of code short out near h goal) p h.regs h.slots ≡ h = ap (λ n. record h { pc = n }) (sym is.at) in
    subst (Reaches (world_of code short out near h goal)) same (wins.by h.regs h.slots reads holds)

-- the goal is reached here
pub here : (w : World) (p : ℕ) (f g : ℕ → ℕ) → ((regs slots : List ℕ) → Reads regs f → Holds slots g → w.goal (hart_at w p regs slots)) → Wins w p f g
unfolding run
here w p f g is = record { by = λ regs slots a b. (0, is regs slots a b) }

-- a hart that wrote the touched registers alone has come from the first
pub came : (code : List ℕ) (short : length code ≤ 2 ^ 32) (out : ℕ) (near : out ≤ 2 ^ 32) (goal : Hart → Type 0) (h : Hart) (q : ℕ) (touched : ℕ → Bool) (f : ℕ → ℕ) (regs slots : List ℕ) → ((r : ℕ) → r < 32 → touched r ≡ false → read f r ≡ read (register h.regs) r) → Reads regs f → Holds slots (slice_index h.slots) → Came h q touched (hart_at (world_of code short out near h goal) q regs slots)
came code short out near goal h q touched f regs slots kept a b = record {
  at = refl;
  registers = λ r l t. a.each r l ∙ kept r l t ∙ sym (twice (r == 0) (slice_index h.regs r));
  slots = λ s l. b.each s l;
  memory = refl;
  log = refl;
}

-- instructions that win whatever wins behind them, with a value in a register, give it
pub gives : (code : List ℕ) (out p q : ℕ) (h : Hart) (touched : ℕ → Bool) (r v : ℕ) → length code ≤ 2 ^ 32 → out ≤ 2 ^ 32 → r < 32 → IsHartAt p h
    → ((short : length code ≤ 2 ^ 32) (near : out ≤ 2 ^ 32) (goal : Hart → Type 0) → ((f : ℕ → ℕ) → read f r ≡ v → ((k : ℕ) → k < 32 → touched k ≡ false → read f k ≡ read (register h.regs) k) → Wins (world_of code short out near h goal) q f (slice_index h.slots)) → Wins (world_of code short out near h goal) p (register h.regs) (slice_index h.slots))
    → Gives code h q touched r v
gives code out p q h touched r v short near low is law =
    let goal : Hart → Type 0 = λ now. Came h q touched now × (register now.regs r ≡ v) in
    let won = law short near goal (λ f value kept. here (world_of code short out near h goal) q f (slice_index h.slots) (λ regs slots a b. (came code short out near goal h q touched f regs slots kept a b, a.each r low ∙ value))) in
    let n = from_hart code short out near goal p h is won in
    record { steps = n.0; came = n.1.0; value = n.1.1 }

-- instructions that win where a place wins come there
pub comes : (code : List ℕ) (out p q : ℕ) (h : Hart) (touched : ℕ → Bool) → length code ≤ 2 ^ 32 → out ≤ 2 ^ 32 → IsHartAt p h
    → ((short : length code ≤ 2 ^ 32) (near : out ≤ 2 ^ 32) (goal : Hart → Type 0) → ((f : ℕ → ℕ) → ((k : ℕ) → k < 32 → touched k ≡ false → read f k ≡ read (register h.regs) k) → Wins (world_of code short out near h goal) q f (slice_index h.slots)) → Wins (world_of code short out near h goal) p (register h.regs) (slice_index h.slots))
    → Comes code h q touched
comes code out p q h touched short near is law =
    let goal : Hart → Type 0 = λ now. Came h q touched now in
    let won = law short near goal (λ f kept. here (world_of code short out near h goal) q f (slice_index h.slots) (λ regs slots a b. came code short out near goal h q touched f regs slots kept a b)) in
    let n = from_hart code short out near goal p h is won in
    record { steps = n.0; came = n.1 }
