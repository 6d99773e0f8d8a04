-- Lists that are filled from the front with the values of a function, and are 0 behind them.
use Rattle.std.proofs.Common.{◌≡◌, ◌-◌, ◌∷◌, [], zero, ap, pos, Option, Some, None, slice_index_or, ◌≢◌, ℕ, suc, ◌+◌, ◌<◌, ◌≤◌, ◌⊎◌, ⊎_elim, inl, inr, List, length, refl, ◌∙◌, sym, arith, nat_lt, ◌==◌, true, false, get_or, get_or-set_same, get_or-set_other, set, length-set}
use Rattle.std.proofs.lemmas.Bool.Decides.{nat_tests}
use Rattle.std.proofs.lemmas.Bool.{cases_lt, and_parts}
use Rattle.std.specs.List.{list_all}
use Rattle.std.proofs.Math.Path.{fun_ext}
use Rattle.rv64_decode.specs.Area.{Area}
use Rattle.rv64_decode.specs.Registers.{register}
use Rattle.linear_forms.specs.Forms.{integers}
use Rattle.loop_data.specs.declared.verdict.Cell.{Cell}
use Rattle.loop_data.specs.Locations.{cell_at, held}
use Rattle.alias_checks.specs.Entry.{entry_value, entry, IsFilled}

pub filled_more : (f : ℕ → ℕ) (i : ℕ) (xs : List ℕ) (x : ℕ) → i < 48 → x ≡ f i → IsFilled f i xs
    → IsFilled f (suc i) (set xs i x)
filled_more f i xs x h e p =
    record {
      room = length-set xs i x ∙ p.room;
      at = λ k l. go k l (apart k l);
      behind = λ k l. let n : k ≢ i = omega arith in get_or-set_other xs i k x 0 n ∙ p.behind k (omega arith);
    }
  where
    apart : (k : ℕ) → k < suc i → (k < i) ⊎ (k ≡ i)
    apart k l = ⊎_elim (λ m. inl m) (λ m. inr (omega arith)) (cases_lt k i)

    go : (k : ℕ) → k < suc i → (k < i) ⊎ (k ≡ i) → get_or (set xs i x) k 0 ≡ f k
    go k l (inl m) = let n : k ≢ i = omega arith in get_or-set_other xs i k x 0 n ∙ p.at k m
    go k l (inr m) = let r = p.room in rw m (get_or-set_same xs i x 0 (omega arith) ∙ e)

-- a list of zeros has none but 0
pub all_zero : (xs : List ℕ) → list_all (λ x. x == 0) xs ≡ true → (k : ℕ) → get_or xs k 0 ≡ 0
all_zero [] e k = refl
all_zero (x ∷ xs) e zero = let p = and_parts (x == 0) (list_all (λ y. y == 0) xs) e in let q = p.0 in grind (arith, nat_tests)
all_zero (x ∷ xs) e (suc k) = all_zero xs (and_parts (x == 0) (list_all (λ y. y == 0) xs) e).1 k

-- nothing is filled
pub filled_none : (f : ℕ → ℕ) (xs : List ℕ) → length xs ≡ 48 → ((k : ℕ) → get_or xs k 0 ≡ 0) → IsFilled f 0 xs
filled_none f xs r h = record { room = r; at = λ k l. absurd (omega arith); behind = λ k l. h k }

-- the registers are the first values
pub registers_first : (cells : List Cell) (regs : List ℕ) (m : List Area) (xs : List ℕ) → IsFilled (register regs) 32 xs
    → IsFilled (entry_value cells regs m) 32 xs
registers_first cells regs m xs p = record { room = p.room; at = λ k l. p.at k l ∙ sym (first k l); behind = p.behind }
  where
    first : (k : ℕ) → k < 32 → entry_value cells regs m k ≡ register regs k
    first k l = let e : nat_lt k 32 ≡ true = grind (arith, nat_tests) in rw e refl

pub cell_at-nth : (cells : List Cell) (k : ℕ) (d : Cell) → k < length cells → cell_at cells k ≡ Some (slice_index_or cells k d)
cell_at-nth [] k d h = absurd (omega arith)
cell_at-nth (c ∷ cells) zero d h = refl
cell_at-nth (c ∷ cells) (suc k) d h = cell_at-nth cells k d (omega arith)

cell_at-past : (cells : List Cell) (k : ℕ) → length cells ≤ k → cell_at cells k ≡ None
cell_at-past [] k h = refl
cell_at-past (c ∷ cells) zero h = absurd (omega arith)
cell_at-past (c ∷ cells) (suc k) h = cell_at-past cells k (omega arith)

behind_registers : (cells : List Cell) (regs : List ℕ) (m : List Area) (k : ℕ) → entry_value cells regs m (32 + k) ≡ held regs (cell_at cells k) m
behind_registers cells regs m k =
    let e : nat_lt (32 + k) 32 ≡ false = grind (arith, nat_tests) in
    let f : 32 + k - 32 ≡ k = omega arith in
    rw (e, f) refl

-- and then the values of the cells
pub cell_next : (cells : List Cell) (regs : List ℕ) (m : List Area) (k : ℕ) (d : Cell) → k < length cells
    → held regs (Some (slice_index_or cells k d)) m ≡ entry_value cells regs m (32 + k)
cell_next cells regs m k d h =
    ap (λ (o : Option Cell). held regs o m) (sym (cell_at-nth cells k d h)) ∙ sym (behind_registers cells regs m k)

pub all_filled : (cells : List Cell) (regs : List ℕ) (m : List Area) (xs : List ℕ) → IsFilled (entry_value cells regs m) (32 + length cells) xs
    → integers xs ≡ entry cells regs m
unfolding entry
all_filled cells regs m xs p = fun_ext (λ k. ap pos (go k (cases_lt k (32 + length cells))))
  where
    past : (k : ℕ) → 32 + length cells ≤ k → entry_value cells regs m k ≡ 0
    past k h =
        let e : 32 + (k - 32) ≡ k = omega arith in
        ap (entry_value cells regs m) (sym e) ∙ behind_registers cells regs m (k - 32)
        ∙ ap (λ (o : Option Cell). held regs o m) (cell_at-past cells (k - 32) (omega arith))

    go : (k : ℕ) → (k < 32 + length cells) ⊎ (32 + length cells ≤ k) → get_or xs k 0 ≡ entry_value cells regs m k
    go k (inl l) = p.at k l
    go k (inr l) = p.behind k l ∙ sym (past k l)
