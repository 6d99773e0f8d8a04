-- Open jumps of added code, and the target that they get.
use Rattle.std.specs.Prelude.{ℕ, ◌≡◌, ◌≢◌, ◌*◌, ℤ, pos, ◌-ℤ◌}
use Rattle.rv64_decode.specs.Form.{IsSigned}
use Rattle.rv64_decode.specs.XTable.{MeansX}
use Rattle.rv64_decode.specs.declared.instr.Instr.TheVariants.{Jal}
use Rattle.rv64_decode.specs.declared.xinstr.XInstr.TheVariants.{Base}

-- how many bytes a jump goes from one place to another
abbrev pub distance : ℕ → ℕ → ℤ
distance to from = pos (4 * to) -ℤ pos (4 * from)

-- a jump from one place to the other has a word
abbrev pub IsNear : ℕ → ℕ → Type 0
IsNear to from = IsSigned 21 (distance to from)

-- the second word is the first, or where the first is an open jump at place k, the jump from there to `to`
pub record Aimed (to k old new : ℕ) : Type 0 where
  pub jumps : old ≡ 0x6F → MeansX new (Base (Jal 0 (distance to k)))
  pub stays : old ≢ 0x6F → new ≡ old
