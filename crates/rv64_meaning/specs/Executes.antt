-- What one instruction does.
use Rattle.std.specs.Prelude.{ℕ, ◌≡◌, List}
use Rattle.rv64_decode.specs.Area.{Area}
use Rattle.rv64_decode.specs.Ask.{after}
use Rattle.rv64_decode.specs.Row.{asks, outcome, IsStop}
use Rattle.rv64_decode.specs.declared.instr.Instr.{Instr}
use Rattle.rv64_decode.specs.declared.outcome.Next.{Next}
use Rattle.rv64_decode.specs.declared.xinstr.XNext.{XNext}
use Rattle.rv64_decode.specs.declared.xinstr.XNext.TheVariants.{Own, Shared}

-- an instruction at pc, with the registers and the memory before it, leads to `to` and leaves these
-- registers and this memory; where the run does not go on by the instruction alone, it leaves all as it was
pub record Executes (i : Instr) (pc : ℕ) (regs : List ℕ) (m : List Area) (to : Next)
    (left : List ℕ) (stored : List Area) : Type 0 where
  pub leads : to ≡ (outcome i pc regs m).next
  pub registers : left ≡ (outcome i pc regs m).regs
  pub memory : stored ≡ after m (asks i regs)
  pub stop_registers : IsStop to → left ≡ regs
  pub stop_memory : IsStop to → stored ≡ m

-- the hart does not go on by the instruction of added code alone
abbrev pub IsHalt : XNext → Type 0
IsHalt (Own next) = IsStop next
IsHalt Shared = Unit {0}
