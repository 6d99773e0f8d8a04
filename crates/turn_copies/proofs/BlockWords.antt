-- The blocks of turns, and the words that compute them.
use Rattle.std.proofs.Common.{◌≡◌, ℕ, suc, ◌⊎◌, inl, inr, ◌+◌, ◌-◌, ◌*◌, ◌/◌, ◌<◌, ◌≤◌, ◌^◌, ◌%◌, zero, refl, sym, subst, ap, ◌∙◌, arith, pos, negsuc, false}
use Rattle.std.specs.Prelude.{◌==◌}
use Rattle.std.proofs.lemmas.Bool.{cases_lt}
use Rattle.std.specs.Int.{w64, cast_unsigned}
use Rattle.std.proofs.lemmas.Bool.Decides.{nat_tests}
use Rattle.std.proofs.Math.Nat.{mul-le-mul_right, mod-lt, mul-div-le, mul-div_cancel_left, mod-eq_of_lt, add-mod_right, zero-div}
use Rattle.std.proofs.lemmas.Nat.{le-div}
use Rattle.rv64_decode.specs.Row.{alu, alu_imm}
use Rattle.rv64_decode.specs.declared.instr.AluOp.TheVariants.{Add, Sub, Mul, Divu, Remu}
use Rattle.rv64_decode.specs.declared.instr.ImmOp.TheVariants.{Addi}
use Rattle.turn_copies.specs.Regions.{rank, bound, block_first, block_end, HasAlone, BlocksLaw}

pub rank_small : (k harts : ℕ) → 0 < harts → rank k harts < harts
rank_small k harts h = mod-lt (k + harts - 1) h

div_mono : (a b d : ℕ) → 0 < d → a ≤ b → a / d ≤ b / d
div_mono a b d h le = let x = mul-div-le a d in le-div (a / d) b d h (omega (arith, x))

product : (b turns harts : ℕ) → b ≤ harts → b * turns ≤ harts * turns
product b turns harts h = mul-le-mul_right turns h

pub bounds_rise : (b c turns harts : ℕ) → 0 < harts → b ≤ c → bound b turns harts ≤ bound c turns harts
bounds_rise b c turns harts h le = div_mono (b * turns) (c * turns) harts h (mul-le-mul_right turns le)

pub last_bound : (turns harts : ℕ) → 0 < harts → bound harts turns harts ≡ turns
last_bound turns harts h = mul-div_cancel_left turns h

pub bound_within : (b turns harts : ℕ) → 0 < harts → b ≤ harts → bound b turns harts ≤ turns
bound_within b turns harts h le = let x = bounds_rise b harts turns harts h le in let y = last_bound turns harts h in omega (arith, x, y)

-- ---- the words

six : (k harts : ℕ) → k < harts → harts ≤ 64 → ((k + harts) % 2 ^ 64 + cast_unsigned w64 (negsuc 0)) % 2 ^ 64 ≡ k + harts - 1
six k harts a b = omega arith

nonzero : (n : ℕ) → 0 < n → (n == 0) ≡ false
nonzero n h = grind (arith, nat_tests)

remu_is : (a b : ℕ) → 0 < b → alu Remu a b ≡ a % b
remu_is a b h = rw (nonzero b h) refl

divu_is : (a b : ℕ) → 0 < b → alu Divu a b ≡ a / b
divu_is a b h = rw (nonzero b h) refl

pub rank_word : (k harts : ℕ) → k < harts → harts ≤ 64 → alu Remu (alu_imm Addi (alu Add k harts) (negsuc 0)) harts ≡ rank k harts
rank_word k harts a b = remu_is _ harts (omega arith) ∙ ap (λ x. x % harts) (six k harts a b)

small_product : (b turns : ℕ) → b ≤ 64 → turns < 2 ^ 32 → b * turns < 2 ^ 64
small_product b turns h k = let x = mul-le-mul_right turns h in omega (arith, x)

mul_is : (b turns : ℕ) → b ≤ 64 → turns < 2 ^ 32 → alu Mul b turns ≡ b * turns
mul_is b turns h k = let x = small_product b turns h k in (omega (arith, x))

pub bound_word : (b turns harts : ℕ) → b ≤ 64 → turns < 2 ^ 32 → 0 < harts → alu Divu (alu Mul b turns) harts ≡ bound b turns harts
bound_word b turns harts h k z = divu_is _ harts z ∙ ap (λ x. x / harts) (mul_is b turns h k)

pub more : (b : ℕ) → b ≤ 64 → alu_imm Addi b (pos 1) ≡ suc b
more b h = omega arith

pub turns_back : (turns : ℕ) → 0 < turns → turns < 2 ^ 32 → alu_imm Addi (turns - 1) (pos 1) ≡ turns
turns_back turns a b = omega arith

pub minus_word : (a b : ℕ) → b ≤ a → a < 2 ^ 32 → alu Sub a b ≡ a - b
minus_word a b h k = omega arith

-- ---- the blocks follow one another from 0 to the number of turns; hart 0 has the last one

pub rank_of : (k harts : ℕ) → k < harts → rank (suc k) harts ≡ k
rank_of k harts h =
    let n : suc k + harts - 1 ≡ k + harts = omega arith in
    ap (λ x. x % harts) n ∙ add-mod_right k harts ∙ mod-eq_of_lt h

first_hart : (harts : ℕ) → 0 < harts → rank (1 % harts) harts ≡ 0
first_hart zero h = absurd (omega arith)
first_hart (suc zero) h = refl
first_hart (suc (suc n)) h =
    ap (λ k. rank k (suc (suc n))) (mod-eq_of_lt (omega arith)) ∙ rank_of 0 (suc (suc n)) (omega arith)

pub first_block : (turns harts : ℕ) → 0 < harts → block_first (1 % harts) turns harts ≡ 0
first_block turns harts h =
    let none : 0 * turns ≡ 0 = omega arith in
    ap (λ x. bound x turns harts) (first_hart harts h) ∙ ap (λ x. x / harts) none ∙ zero-div harts

pub last_rank : (harts : ℕ) → 0 < harts → suc (rank 0 harts) ≡ harts
last_rank harts h =
    let n : 0 + harts - 1 ≡ harts - 1 = omega arith in
    let lt : harts - 1 < harts = omega arith in
    let r : rank 0 harts ≡ harts - 1 = ap (λ x. x % harts) n ∙ mod-eq_of_lt lt in
    omega (arith, r)

pub last_block : (turns harts : ℕ) → 0 < harts → block_end 0 turns harts ≡ turns
last_block turns harts h = ap (λ x. bound x turns harts) (last_rank harts h) ∙ last_bound turns harts h

-- a block begins where the one before ends
pub next_block : (k turns harts : ℕ) → suc k < harts → block_first (suc (suc k)) turns harts ≡ block_end (suc k) turns harts
next_block k turns harts h =
    let l : k < harts = omega arith in
    let a = rank_of (suc k) harts h in
    let b = rank_of k harts l in
    ap (λ x. bound x turns harts) a ∙ sym (ap (λ x. bound (suc x) turns harts) b)

-- the last block is not empty
last_some : (turns harts : ℕ) → 0 < harts → 0 < turns → block_first 0 turns harts < turns
last_some turns harts h some = go (cases_lt (block_first 0 turns harts) turns)
  where
    r : ℕ
    r = rank 0 harts

    go : (block_first 0 turns harts < turns) ⊎ (turns ≤ block_first 0 turns harts) → block_first 0 turns harts < turns
    go (inl k) = k
    go (inr k) =
        let last = last_rank harts h in
        let low = mul-div-le (r * turns) harts in
        let up = mul-le-mul_right harts k in
        let whole : suc r * turns ≡ harts * turns = ap (λ x. x * turns) last in
        absurd (omega (arith, low, up, whole, some))

-- ---- each turn is in one block

-- the block of rank b has turn t
record Between (turns harts t b : ℕ) : Type 0 where
  pub from : bound b turns harts ≤ t
  pub before : t < bound (suc b) turns harts

first_bound : (turns harts : ℕ) → bound 0 turns harts ≡ 0
first_bound turns harts = let none : 0 * turns ≡ 0 = omega arith in ap (λ x. x / harts) none ∙ zero-div harts

found : (turns harts t n : ℕ) → t < bound n turns harts → (b : ℕ) × (b < n) × Between turns harts t b
found turns harts t zero h = let none = first_bound turns harts in absurd (omega (arith, none, h))
found turns harts t (suc n) h = go (cases_lt t (bound n turns harts)) (λ k. found turns harts t n k)
  where
    go : (t < bound n turns harts) ⊎ (bound n turns harts ≤ t)
        → (t < bound n turns harts → (b : ℕ) × (b < n) × Between turns harts t b)
        → (b : ℕ) × (b < suc n) × Between turns harts t b
    go (inl k) before = let x = before k in let small = x.1 in (x.0, omega (arith, small), x.2)
    go (inr k) before = (n, omega arith, record { from = k; before = h })

one_between : (turns harts t b c : ℕ) → 0 < harts → Between turns harts t b → Between turns harts t c → b ≤ c
one_between turns harts t b c some x y = go (cases_lt c b)
  where
    go : (c < b) ⊎ (b ≤ c) → b ≤ c
    go (inr k) = k
    go (inl k) = let up = bounds_rise (suc c) b turns harts some k in absurd (omega (arith, up, x.from, y.before))

-- a hart for each rank
hart_of : (b harts : ℕ) → b < harts → (k : ℕ) × (k < harts) × (rank k harts ≡ b)
hart_of b harts h = go (cases_lt (suc b) harts)
  where
    go : (suc b < harts) ⊎ (harts ≤ suc b) → (k : ℕ) × (k < harts) × (rank k harts ≡ b)
    go (inl k) = (suc b, k, rank_of b harts h)
    go (inr k) = let r = last_rank harts (omega arith) in (0, omega arith, omega (arith, r, k, h))

same_hart : (j k harts : ℕ) → j < harts → k < harts → rank j harts ≡ rank k harts → j ≡ k
same_hart zero zero harts a b e = refl
same_hart zero (suc k) harts a b e =
    let x = last_rank harts a in
    let y = rank_of k harts (omega arith) in
    absurd (omega (arith, x, y, e, b))
same_hart (suc j) zero harts a b e =
    let x = last_rank harts b in
    let y = rank_of j harts (omega arith) in
    absurd (omega (arith, x, y, e, a))
same_hart (suc j) (suc k) harts a b e =
    let x = rank_of j harts (omega arith) in
    let y = rank_of k harts (omega arith) in
    omega (arith, x, y, e)

each_turn : (turns harts t : ℕ) → 0 < harts → t < turns → (k : ℕ) × HasAlone turns harts t k
each_turn turns harts t some h =
    let last = last_bound turns harts some in
    let f = found turns harts t harts (omega (arith, last, h)) in
    let b = f.0 in
    let w = hart_of b harts f.1 in
    let here : Between turns harts t (rank w.0 harts) = subst (Between turns harts t) (sym w.2) f.2 in (
      w.0,
      record {
        below = w.1;
        from = here.from;
        before = here.before;
        only = λ j small from before.
            let there : Between turns harts t (rank j harts) = record { from = from; before = before } in
            let up = one_between turns harts t (rank j harts) (rank w.0 harts) some there here in
            let down = one_between turns harts t (rank w.0 harts) (rank j harts) some here there in
            same_hart j w.0 harts small w.1 (omega (arith, up, down));
      },
    )

pub blocks_law : BlocksLaw
blocks_law turns harts some =
    record {
      first = first_block turns harts some;
      next = λ k h. next_block k turns harts h;
      last = last_block turns harts some;
      some = λ h. last_some turns harts some h;
      rise = λ k. bounds_rise (rank k harts) (suc (rank k harts)) turns harts some (omega arith);
      each = λ t h. each_turn turns harts t some h;
    }
