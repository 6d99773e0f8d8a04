-- The only hart of a machine. No other begins at a fork and none is waited for at a join, so that it goes on behind
-- both.
use Rattle.std.specs.Prelude.{ℕ, zero, suc, ◌≡◌, Bool, true, false, List, Option, Some, None}
use Rattle.rv64_decode.specs.Hart.{Hart, fetched, act, outcome_at}
use Rattle.rv64_decode.specs.Row.{next_pc}
use Rattle.rv64_decode.specs.declared.outcome.Next.TheVariants.{At, Call, Fault as Faulting}
use Rattle.rv64_decode.specs.declared.xinstr.XInstr.{XInstr}
use Rattle.rv64_decode.specs.declared.xinstr.XInstr.TheVariants.{Par, Join}
use Rattle.rv64_decode.specs.declared.xinstr.XNext.{XNext}
use Rattle.rv64_decode.specs.declared.xinstr.XNext.TheVariants.{Own, Shared}

-- behind a fork and a join
abbrev pub behind_it : Hart → Hart
behind_it h = record h { pc = next_pc h.pc }

-- one instruction of the only hart
abbrev pub act_alone : Option XInstr → Hart → Hart
act_alone (Some Par) h = behind_it h
act_alone (Some Join) h = behind_it h
act_alone i h = act i h

-- n instructions
unfoldable pub run_alone : List ℕ → ℕ → Hart → Hart
run_alone code zero h = h
run_alone code (suc n) h = run_alone code n (act_alone (fetched code h.pc) h)

-- a hart goes on by itself or meets a word that concerns more than itself: it meets no fault and makes no call
abbrev pub goes_on_by : XNext → Bool
goes_on_by (Own (At pc)) = true
goes_on_by (Own Call) = false
goes_on_by (Own (Faulting kind addr)) = false
goes_on_by Shared = true

abbrev pub goes_on : Option XInstr → Hart → Bool
goes_on None h = false
goes_on (Some i) h = goes_on_by (outcome_at i h).next

-- however long the only hart runs
abbrev pub MeetsNoFault : List ℕ → Hart → Type 0
MeetsNoFault code h = (n : ℕ) → goes_on (fetched code (run_alone code n h).pc) (run_alone code n h) ≡ true
