-- The classes of the locations that a loop writes, by the paths of its turns.
use Rattle.std.specs.Prelude.{ℕ, ◌≡◌, true, false, List, Option, Some, ℤ}
use Rattle.linear_forms.specs.Forms.{is_small}
use Rattle.loop_data.specs.declared.shape.Level.{Level}
use Rattle.loop_data.specs.Nests.{Nest, has, Holds, IsPassTo, IsPass}
use Rattle.loop_data.specs.Independent.{Role, Keeps, Moves, Private}
use Rattle.loop_data.specs.LoopCode.{LoopCode, writes, reads, any_writes, IsUnwritten, IsWritten, LiesIn}
use Rattle.loop_data.specs.Facts.{Fact, Offset, fact_after}

-- one word of the loop writes it, on every pass and in no inner loop, and adds the step to what the pass
-- began with; V has the facts of the pass over the loop
pub record IsInduction (N : Nest) (B : LoopCode) (V : ℕ → ℕ → Option Fact) (l : Level) (r : ℕ) (step : ℤ)
    : Type 0 where
  pub word : ℕ
  pub inside : Holds l word
  pub does : writes B word r ≡ true
  pub alone : (u : ℕ) → Holds l u → writes B u r ≡ true → u ≡ word
  pub outermost : (m : Level) → LiesIn N l m → has m.body word ≡ false
  pub always : (us : List ℕ) → IsPass N l us → has us word ≡ true
  pub adds : fact_after B word (V word) r ≡ Some (Offset r step)
  pub small : is_small step ≡ true

-- every pass of the root writes it, and before any read of it
pub record IsPrivate (N : Nest) (B : LoopCode) (r : ℕ) : Type 0 where
  pub written : (us : List ℕ) → IsPass N N.root us → any_writes B us r ≡ true
  pub before : (us : List ℕ) (u : ℕ) → IsPassTo N N.root us u → Holds N.root u → reads B u r ≡ true
      → any_writes B us r ≡ true

-- the root writes it in another way, so that a turn may need what an earlier one left
pub record IsCarried (N : Nest) (B : LoopCode) (V : ℕ → ℕ → Option Fact) (r : ℕ) : Type 0 where
  pub written : IsWritten B N.root r
  pub no_induction : (step : ℤ) → ¬ IsInduction N B V N.root r step
  pub not_private : ¬ IsPrivate N B r

-- what the root does to a location, by the facts of its pass
abbrev pub HasRole : Nest → LoopCode → (ℕ → ℕ → Option Fact) → ℕ → Role → Type 0
HasRole N B V r Keeps = IsUnwritten B N.root r
HasRole N B V r (Moves step) = IsInduction N B V N.root r step
HasRole N B V r Private =
    IsWritten B N.root r × ((step : ℤ) → ¬ IsInduction N B V N.root r step) × IsPrivate N B r

-- what an inner loop does to a location, by the facts of its own pass: here Private stands for all other
-- ways in which it writes it
abbrev pub HasInnerRole : Nest → LoopCode → (ℕ → ℕ → Option Fact) → Level → ℕ → Role → Type 0
HasInnerRole N B V l r Keeps = IsUnwritten B l r
HasInnerRole N B V l r (Moves step) = IsInduction N B V l r step
HasInnerRole N B V l r Private = IsWritten B l r × ((step : ℤ) → ¬ IsInduction N B V l r step)
