-- Added code as a list of instructions, and as the words that stand for them.
use Rattle.std.specs.Prelude.{ℕ, ◌≡◌, List, [], ◌∷◌, ◌++◌, Option, Some, pos}
use Rattle.rv64_decode.specs.XTable.{decoded_x}
use Rattle.rv64_decode.specs.declared.instr.Instr.TheVariants.{Jal}
use Rattle.rv64_decode.specs.declared.xinstr.XInstr.{XInstr}
use Rattle.rv64_decode.specs.declared.xinstr.XInstr.TheVariants.{Base}

-- what words stand for
unfoldable pub readings : List ℕ → List (Option XInstr)
readings [] = []
readings (w ∷ ws) = decoded_x w ∷ readings ws

unfoldable pub somes : List XInstr → List (Option XInstr)
somes [] = []
somes (i ∷ is) = Some i ∷ somes is

-- the second words are the first, and behind them words that stand for these instructions
pub record Appended (old new : List ℕ) (is : List XInstr) : Type 0 where
  pub added : List ℕ
  pub new_is : new ≡ old ++ added
  pub stand : readings added ≡ somes is

-- the jump whose target is open
abbrev pub open_jump : XInstr
open_jump = Base (Jal 0 (pos 0))
