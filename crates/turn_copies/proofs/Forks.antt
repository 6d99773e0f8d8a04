-- From the fork to the block of one hart.
use Rattle.std.proofs.Common.{◌≡◌, ℕ, suc, ◌-◌, ◌<◌, ◌≤◌, ◌^◌, refl, ap, ◌∙◌, arith, pos, negsuc, Some, None, true, false, List, [], ◌∷◌, sym}
use Rattle.std.specs.Prelude.{◌==◌, not}
use Rattle.std.proofs.lemmas.Bool.Decides.{nat_tests}
use Rattle.rv64_decode.specs.Registers.{with_register}
use Rattle.rv64_decode.specs.Row.{alu, alu_imm, next_pc}
use Rattle.rv64_decode.specs.declared.instr.AluOp.TheVariants.{Add, Sub, Mul, Divu, Remu}
use Rattle.rv64_decode.specs.declared.instr.ImmOp.TheVariants.{Addi}
use Rattle.rv64_decode.specs.declared.instr.BranchOp.TheVariants.{Bne}
use Rattle.rv64_decode.specs.declared.instr.UpperOp.TheVariants.{Lui}
use Rattle.rv64_decode.specs.declared.instr.Instr.TheVariants.{Alu, AluImm, Upper, Branch}
use Rattle.rv64_decode.specs.declared.xinstr.XInstr.{XInstr}
use Rattle.rv64_decode.specs.declared.xinstr.XInstr.TheVariants.{Base, Put, Get, Id, Harts}
use Rattle.rv64_decode.specs.Hart.{address, fetched, act}
use Rattle.stub_laws.specs.Locations.{slot_of}
use Rattle.stub_laws.specs.Places.{aimed, StandsIn, behind}
use Rattle.stub_laws.specs.Straight.{read, put, IsSimple, AreSimple, all_registers, all_slots}
use Rattle.stub_laws.proofs.Small.{fetched_small}
use Rattle.stub_laws.proofs.Steps.{World, Wins, Reaches, Reads, Holds, hart_at, go, next_address, place_small, reads_put, branch_law, jal_law}
use Rattle.stub_laws.proofs.Straight.{straight_law}
use Rattle.turn_copies.specs.Copies.{Placed, jump_to}
use Rattle.turn_copies.specs.StubCode.{fork_code}
use Rattle.turn_copies.specs.Regions.{rank, block_first, block_end}
use Rattle.turn_copies.proofs.Following.{placed_front, placed_back}
use Rattle.turn_copies.proofs.BlockWords.{rank_small, rank_word, bound_word, bounds_rise, bound_within, more, turns_back, minus_word}

simple_aim : (to p : ℕ) (i : XInstr) → IsSimple i → aimed to p i ≡ i
simple_aim to p (Base (Alu op rd rs1 rs2)) x = refl
simple_aim to p (Base (AluImm op rd rs1 imm)) x = refl
simple_aim to p (Base (Upper Lui rd imm)) x = refl
simple_aim to p (Put slot rs1) x = refl
simple_aim to p (Get rd slot) x = refl
simple_aim to p i x = absurd x

-- simple instructions that are placed stand, whatever open jumps are aimed at
pub placed_stands : (code : List ℕ) (to p : ℕ) (is : List XInstr) → AreSimple is → Placed code p is → StandsIn code to p is
placed_stands code to p [] x h = tt
placed_stands code to p (i ∷ is) x h = (h.0 ∙ ap Some (sym (simple_aim to p i x.0)), placed_stands code to (suc p) is x.1 h.1)

-- one register is written, and the next word follows
written : (w : World) (p : ℕ) (f g : ℕ → ℕ) (i : XInstr) (rd v : ℕ) (regs slots : List ℕ) → fetched w.code (address p) ≡ Some i → rd < 32
    → act (Some i) (hart_at w p regs slots) ≡ record { pc = next_pc (address p); regs = with_register regs rd v; slots = slots; memory = w.memory; log = w.log; number = w.number; harts = w.harts } → Reads regs f → Holds slots g → Wins w (suc p) (put f rd v) g → Reaches w (hart_at w p regs slots)
written w p f g i rd v regs slots e small is a b h =
    let new = with_register regs rd v in
    go w (hart_at w p regs slots) (hart_at w (suc p) new slots) i e
    (is ∙ ap (λ n. record { pc = n; regs = new; slots = slots; memory = w.memory; log = w.log; number = w.number; harts = w.harts }) (next_address p (place_small w p i e)))
    (h.by new slots (reads_put regs f rd v small a) b)

id_law : (w : World) (p : ℕ) (f g : ℕ → ℕ) (rd : ℕ) → fetched w.code (address p) ≡ Some (Id rd) → Wins w (suc p) (put f rd w.number) g → Wins w p f g
id_law w p f g rd e h = record { by = λ regs slots a b. written w p f g (Id rd) rd w.number regs slots e (fetched_small w.code (address p) _ e) refl a b h }

harts_law : (w : World) (p : ℕ) (f g : ℕ → ℕ) (rd : ℕ) → fetched w.code (address p) ≡ Some (Harts rd) → Wins w (suc p) (put f rd w.harts) g → Wins w p f g
harts_law w p f g rd e h = record { by = λ regs slots a b. written w p f g (Harts rd) rd w.harts regs slots e (fetched_small w.code (address p) _ e) refl a b h }

-- the block from the hart's number and that of the harts
abbrev counts_code : List XInstr
counts_code =
    Get 7 23 ∷ Base (AluImm Addi 7 7 (pos 1)) ∷ Base (Alu Add 28 5 6) ∷ Base (AluImm Addi 28 28 (negsuc 0)) ∷ Base (Alu Remu 28 28 6)
    ∷ Base (Alu Mul 29 28 7) ∷ Base (Alu Divu 29 29 6) ∷ Base (AluImm Addi 28 28 (pos 1)) ∷ Base (Alu Mul 28 28 7) ∷ Base (Alu Divu 28 28 6)
    ∷ Base (Alu Sub 28 28 29) ∷ Put 28 28 ∷ []

abbrev pub fourteen : ℕ → ℕ
fourteen p = suc (suc (suc (suc (suc (suc (suc (suc (suc (suc (suc (suc (suc (suc p)))))))))))))

-- registers outside those that added code works with
pub record NoTemporary (r : ℕ) : Type 0 where
  pub five : (r == 5) ≡ false
  pub six : (r == 6) ≡ false
  pub seven : (r == 7) ≡ false
  pub x28 : (r == 28) ≡ false
  pub x29 : (r == 29) ≡ false
  pub x30 : (r == 30) ≡ false
  pub x31 : (r == 31) ≡ false

pub no_temporary : (r : ℕ) → slot_of r ≡ None → NoTemporary r
no_temporary r h = record { five = grind (arith, nat_tests); six = grind (arith, nat_tests); seven = grind (arith, nat_tests); x28 = grind (arith, nat_tests); x29 = grind (arith, nat_tests); x30 = grind (arith, nat_tests); x31 = grind (arith, nat_tests) }

-- after the fork: the block's first turn in x29, its number of turns in slot 28; other registers and slots stay
pub record Forked (turns number harts : ℕ) (f g f' g' : ℕ → ℕ) : Type 0 where
  pub first : read f' 29 ≡ block_first number turns harts
  pub left : g' 28 ≡ block_end number turns harts - block_first number turns harts
  pub registers : (r : ℕ) → slot_of r ≡ None → read f' r ≡ read f r
  pub slots : (q : ℕ) → (q == 28) ≡ false → g' q ≡ g q

pub fork_law : (w : World) (p join turns : ℕ) (f g : ℕ → ℕ) → Placed w.code p (fork_code p join) → join ≤ 2 ^ 32 → w.number < w.harts → w.harts ≤ 64 → 0 < turns → turns < 2 ^ 32 → g 23 ≡ turns - 1
    → ((f' g' : ℕ → ℕ) → block_first w.number turns w.harts ≡ block_end w.number turns w.harts → Forked turns w.number w.harts f g f' g' → Wins w join f' g')
    → ((f' g' : ℕ → ℕ) → block_first w.number turns w.harts < block_end w.number turns w.harts → Forked turns w.number w.harts f g f' g' → Wins w (behind p (fork_code p join)) f' g') → Wins w p f g
fork_law w p join turns f g at near here few some small count empty full =
    let k = w.number in
    let n = w.harts in
    let f0 = put (put f 5 k) 6 n in
    let f1 = all_registers counts_code f0 g in
    let g1 = all_slots counts_code f0 g in
    let positive : 0 < n = omega arith in
    let ranked = rank_word k n here few in
    let below = rank_small k n positive in
    let r = alu Remu (alu_imm Addi (alu Add k n) (negsuc 0)) n in
    let t = alu_imm Addi (g 23) (pos 1) in
    let all : t ≡ turns = ap (λ x. alu_imm Addi x (pos 1)) count ∙ turns_back turns some small in
    let first : alu Divu (alu Mul r t) n ≡ block_first k turns n = ap (λ x. alu Divu (alu Mul x t) n) ranked ∙ ap (λ x. alu Divu (alu Mul (rank k n) x) n) all ∙ bound_word (rank k n) turns n (omega arith) small positive in
    let end : alu Divu (alu Mul (alu_imm Addi r (pos 1)) t) n ≡ block_end k turns n =
    ap (λ x. alu Divu (alu Mul (alu_imm Addi x (pos 1)) t) n) ranked ∙ ap (λ x. alu Divu (alu Mul x t) n) (more (rank k n) (omega arith)) ∙ ap (λ x. alu Divu (alu Mul (suc (rank k n)) x) n) all ∙ bound_word (suc (rank k n)) turns n (omega arith) small positive in
    let rise = bounds_rise (rank k n) (suc (rank k n)) turns n positive (omega arith) in
    let within = bound_within (suc (rank k n)) turns n positive (omega arith) in
    let left : g1 28 ≡ block_end k turns n - block_first k turns n =
    ap (λ x. alu Sub x (alu Divu (alu Mul r t) n)) end ∙ ap (λ x. alu Sub (block_end k turns n) x) first ∙ minus_word (block_end k turns n) (block_first k turns n) rise (omega arith) in
    let forked : Forked turns k n f g f1 g1 = record {
      first = first;
      left = left;
      registers = λ q none. keeps q (no_temporary q none);
      slots = λ q e. rw e refl;
    } in
    let simple : AreSimple counts_code = (tt, (tt, (tt, (tt, (tt, (tt, (tt, (tt, (tt, (tt, (tt, (tt, tt)))))))))))) in
    let tail = Base (Branch Bne 28 0 (pos 8)) ∷ jump_to join (suc (fourteen p)) ∷ [] in
    let rest = placed_back w.code (suc (suc p)) counts_code tail at.1.1 in
    id_law w p f g 5 at.0
    (harts_law w (suc p) (put f 5 k) g 6 at.1.0
    (straight_law w counts_code (suc (suc p)) f0 g simple (placed_stands w.code w.no (suc (suc p)) counts_code simple (placed_front w.code (suc (suc p)) counts_code tail at.1.1))
    (branch_law w (fourteen p) f1 g1 Bne 28 0 2 rest.0 (omega arith)
    (λ yes'. full f1 g1 (taken_some (block_first k turns n) (block_end k turns n) (g1 28) left rise yes') forked)
    (λ no'. jal_law w (suc (fourteen p)) join f1 g1 rest.1.0 near (empty f1 g1 (taken_none (block_first k turns n) (block_end k turns n) (g1 28) left rise no') forked)))))
  where
    keeps : (q : ℕ) → NoTemporary q → read (all_registers counts_code (put (put f 5 w.number) 6 w.harts) g) q ≡ read f q
    keeps q x = rw (x.five, x.six, x.seven, x.x28, x.x29) refl

    taken_some : (a b c : ℕ) → c ≡ b - a → a ≤ b → not (c == 0) ≡ true → a < b
    taken_some a b c e le h = grind (arith, nat_tests)

    taken_none : (a b c : ℕ) → c ≡ b - a → a ≤ b → not (c == 0) ≡ false → a ≡ b
    taken_none a b c e le h = grind (arith, nat_tests)
