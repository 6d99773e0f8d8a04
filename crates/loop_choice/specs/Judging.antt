-- A loop that is judged: its verdict, and where it is Parallel its plan and its check.
use Rattle.std.specs.Prelude.{ℕ, ◌≡◌, ◌≢◌, ◌⊎◌, List, [], ◌∷◌, Option, Some, None}
use Rattle.elf_image.specs.declared.image.Elf.{Elf}
use Rattle.loop_data.specs.declared.equations.Equations.{Equations}
use Rattle.loop_data.specs.declared.graph.Graph.{Graph}
use Rattle.loop_data.specs.declared.plans.Plan.{Plan}
use Rattle.loop_data.specs.declared.shape.Level.{Level}
use Rattle.loop_data.specs.declared.shape.LoopShape.{LoopShape}
use Rattle.loop_data.specs.declared.verdict.Verdict.{Verdict}
use Rattle.loop_data.specs.declared.verdict.Verdict.TheVariants.{Parallel}
use Rattle.loop_data.specs.Loops.{IsLoop, IsListedEdge}
use Rattle.alias_checks.specs.declared.lists.Check.{Check}
use Rattle.alias_checks.specs.Listing.{ArePairs, AreSameCells, bounds_of}
use Rattle.loop_choice.specs.declared.judged.Judged.{Judged}
use Rattle.loop_choice.specs.Analysis.{AreFound}
use Rattle.loop_choice.specs.Entries.{HasAllEntries}
use Rattle.loop_choice.specs.Pairs.{HasNoHopelessPair}
use Rattle.loop_choice.specs.Verdicts.{IsVerdict}

-- a loop of a program's list
abbrev pub IsOneOfLoops : Graph → LoopShape → Type 0
IsOneOfLoops G s = IsLoop G s ⊎ IsListedEdge G s

-- a plan and a check are of what is found of the loop, whose shape decides no verdict and no two of whose accesses are
-- hopeless; each is kept in arrays of its own length
pub record IsPlanOf (G : Graph) (elf : Elf) (s : LoopShape) (plan : Plan) (check : Check) : Type 0 where
  pub early : s.early ≡ None
  pub shape : plan.shape ≡ s
  pub equations : Equations
  pub found :
      AreFound G s.levels plan.cells plan.classes equations check.trips check.accesses.list.items
  pub none : HasNoHopelessPair check.accesses.list.items
  pub cells : AreSameCells check.cells plan.cells
  pub duties : check.duties ≡ equations.duties
  pub pairs : ArePairs check.accesses.list.items check.pairs
  pub areas : check.areas ≡ bounds_of elf
  pub entries : HasAllEntries plan check

-- they are there exactly where the verdict is Parallel
abbrev pub IsPlanFor : Graph → Elf → LoopShape → Verdict → Option (Plan × Check) → Type 0
IsPlanFor G elf s v (Some both) = (v ≡ Parallel) × IsPlanOf G elf s both.0 both.1
IsPlanFor G elf s v None = v ≢ Parallel

-- the words of the root
abbrev pub body_of : List Level → List ℕ
body_of [] = []
body_of (root ∷ inner) = root.body

-- what is found of a listed loop
pub record IsJudged (G : Graph) (elf : Elf) (s : LoopShape) (j : Judged) : Type 0 where
  pub header : j.header ≡ s.header
  pub body : j.body ≡ body_of s.levels
  pub verdict : IsVerdict G s j.verdict
  pub plan : IsPlanFor G elf s j.verdict j.plan
