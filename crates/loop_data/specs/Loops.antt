-- The listed loops of a program.
use Rattle.std.specs.Prelude.{ℕ, ◌≡◌, ◌⊎◌, Option, Some, None, List, [], ◌∷◌, map}
use Rattle.std.specs.List.{All, Contains}
use Rattle.std.specs.List.Sorted.{IsStrictlyIncreasing}
use Rattle.loop_data.specs.declared.graph.Graph.{Graph}
use Rattle.loop_data.specs.declared.shape.Level.{Level}
use Rattle.loop_data.specs.declared.shape.LoopShape.{LoopShape}
use Rattle.loop_data.specs.declared.verdict.Verdict.{Verdict}
use Rattle.loop_data.specs.Sets.{IsListOf, HasCount}
use Rattle.loop_data.specs.Bodies.{IsHeader, InBody}
use Rattle.loop_data.specs.Shape.{IsInner, InNest, HasOwnShape}
use Rattle.loop_data.specs.Listed.{IsListed, IsLine}
use Rattle.loop_data.specs.Early.{IsEarly, IsRound, IsMisshapen, IsSmallNest}

-- a loop of the nest at h
pub record IsLevel (G : Graph) (h : ℕ) (l : Level) : Type 0 where
  pub shape : HasOwnShape G l.header l.back l.exit
  pub body : IsListOf (InBody G l.header) l.body
  pub depth : HasCount (IsRound G h l.header) l.depth

-- the loops of the nest at h, that at h first and then the inner ones by header
pub record AreLevels (G : Graph) (h : ℕ) (levels : List Level) : Type 0 where
  pub inner : List ℕ
  pub are_inner : IsListOf (IsInner G h) inner
  pub headers : map (λ (l : Level). l.header) levels ≡ h ∷ inner
  pub each : All (IsLevel G h) levels

-- a nest of which each loop has the shape, within the limits
pub record IsSoundNest (G : Graph) (nest : List ℕ) : Type 0 where
  pub root : ℕ
  pub is : IsListOf (InNest G root) nest
  pub shaped : (k : ℕ) → ¬ IsMisshapen G root k
  pub small : IsSmallNest G root

-- levels are there where there is no early verdict
abbrev pub HasLevels : Graph → ℕ → Option Verdict → List Level → Type 0
HasLevels G h None levels = AreLevels G h levels
HasLevels G h (Some v) levels = levels ≡ []

-- a loop that closed edges make up
pub record IsLoop (G : Graph) (s : LoopShape) : Type 0 where
  pub header : IsHeader G s.header
  pub early : IsEarly G s.header s.early
  pub levels : HasLevels G s.header s.early s.levels

-- a loop that is listed for an edge which closes none
pub record IsListedEdge (G : Graph) (s : LoopShape) : Type 0 where
  pub verdict : Verdict
  pub line : IsLine G s.header verdict
  pub early : s.early ≡ Some verdict
  pub levels : s.levels ≡ []

-- the headers of loops
abbrev pub headers_of : List LoopShape → List ℕ
headers_of shapes = map (λ (s : LoopShape). s.header) shapes

-- all listed loops of a program, by header
pub record AreLoops (G : Graph) (shapes : List LoopShape) : Type 0 where
  pub ordered : IsStrictlyIncreasing (headers_of shapes)
  pub each : All (λ s. IsLoop G s ⊎ IsListedEdge G s) shapes
  pub loops : (h : ℕ) → IsHeader G h → Contains (headers_of shapes) h
  pub edges : (g u : ℕ) → IsListed G g u → Contains (headers_of shapes) g
