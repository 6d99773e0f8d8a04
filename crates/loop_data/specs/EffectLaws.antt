-- Which registers the effect of an instruction depends on, and which it changes.
use Rattle.std.specs.Prelude.{ℕ, ◌≡◌, true, false, List, length}
use Rattle.rv64_decode.specs.Area.{Area}
use Rattle.rv64_decode.specs.Registers.{register}
use Rattle.rv64_decode.specs.Row.{Outcome, asks, outcome}
use Rattle.rv64_decode.specs.declared.instr.Instr.{Instr}
use Rattle.rv64_decode.specs.declared.outcome.Next.TheVariants.{At}
use Rattle.loop_data.specs.Locations.{reads_register, writes_register}

-- the registers that an instruction reads are the same in both lists
abbrev pub ReadsSame : Instr → List ℕ → List ℕ → Type 0
ReadsSame i x y = (r : ℕ) → reads_register i r ≡ true → register x r ≡ register y r

-- the registers that an instruction writes are the same after both outcomes, where it goes on
abbrev pub WritesSame : Instr → Outcome → Outcome → Type 0
WritesSame i o p = (a r : ℕ) → o.next ≡ At a → writes_register i r ≡ true → register o.regs r ≡ register p.regs r

-- with both lists of registers an instruction at pc asks the same of memory, leads to the same place, and
-- writes the same
pub record HasSameEffect (i : Instr) (pc : ℕ) (x y : List ℕ) (m : List Area) : Type 0 where
  pub question : asks i x ≡ asks i y
  pub next : (outcome i pc x m).next ≡ (outcome i pc y m).next
  pub written : WritesSame i (outcome i pc x m) (outcome i pc y m)

-- the effect of an instruction depends on no register but those that it reads
abbrev pub UnreadLaw : Type 0
UnreadLaw = (i : Instr) (pc : ℕ) (x y : List ℕ) (m : List Area) → length x ≡ length y → ReadsSame i x y
    → HasSameEffect i pc x y m

-- a register that an instruction does not write keeps its value
abbrev pub UnwrittenLaw : Type 0
UnwrittenLaw = (i : Instr) (pc r : ℕ) (x : List ℕ) (m : List Area) → writes_register i r ≡ false
    → register (outcome i pc x m).regs r ≡ register x r
