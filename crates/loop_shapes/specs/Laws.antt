-- What is true of the loops of every executable.
use Rattle.std.specs.Prelude.{ℕ, ◌≡◌, ◌≢◌, ◌↔◌, ◌⊎◌, None}
use Rattle.std.specs.List.{Contains}
use Rattle.elf_image.specs.declared.image.Elf.{Elf}
use Rattle.loop_data.specs.declared.graph.Graph.{Graph}
use Rattle.loop_data.specs.declared.shape.LoopShape.{LoopShape}
use Rattle.loop_data.specs.Graphs.{IsGraph}
use Rattle.loop_data.specs.Paths.{Leads, Reaches}
use Rattle.loop_data.specs.Sets.{HasCount}
use Rattle.loop_data.specs.Bodies.{IsClosed, InBody}
use Rattle.loop_data.specs.Shape.{IsInner, InNest, IsShaped, HasShape}
use Rattle.loop_data.specs.Early.{IsRound}
use Rattle.loop_data.specs.Loops.{IsLoop}
use Rattle.loop_data.specs.LoopWords.{AreNestAt}

-- the loop at k lies in that at h
abbrev pub IsNestedIn : Graph → ℕ → ℕ → Type 0
IsNestedIn G k h = (x : ℕ) → InBody G k x → InBody G h x

-- how the bodies of loops lie to each other
pub record AreBodies (G : Graph) : Type 0 where
  -- of two loops that have a word in common one lies in the other
  pub meet : (h k x : ℕ) → InBody G h x → InBody G k x → IsNestedIn G k h ⊎ IsNestedIn G h k
  -- an inner loop lies in the loop and does not hold its header, and its own inner loops are inner loops
  pub within : (h k : ℕ) → IsInner G h k → IsNestedIn G k h
  pub header : (h k : ℕ) → IsInner G h k → ¬ InBody G k h
  pub inner : (h k j : ℕ) → IsInner G h k → IsInner G k j → IsInner G h j
  -- the source of a closed edge is reached from the header inside the loop
  pub closed : (h u : ℕ) → IsClosed G h u → Reaches (Leads G) (InBody G h) h u
  -- a loop is entered at its header alone, and from no start word but through it
  pub entry : (h x y : ℕ) → Leads G x y → InBody G h y → ¬ InBody G h x → y ≡ h
  pub start : (h s x : ℕ) → Contains G.starts s → InBody G h x → ¬ Reaches (Leads G) (λ y. y ≢ h) s x
  -- no loop of a nest lies round the root, and one with two round it lies in one with one
  pub outermost : (h k : ℕ) → ¬ IsRound G h h k
  pub between : (h m : ℕ) → InNest G h m → HasCount (IsRound G h m) 2
      → (k : ℕ) × InNest G h k × HasCount (IsRound G h k) 1 × InBody G k m

abbrev pub BodyLaw : Type 0
BodyLaw = (elf : Elf) (G : Graph) → IsGraph elf G → AreBodies G

-- a loop has the shape where it has it whatever its inner loops have, and each of these has the shape
abbrev pub ShapeLaw : Type 0
ShapeLaw =
    (elf : Elf) (G : Graph) (h : ℕ) → IsGraph elf G
    → HasShape G h ↔ (IsShaped G h × ((k : ℕ) → IsInner G h k → HasShape G k))

-- what a loop without an early verdict promises
abbrev pub NestLaw : Type 0
NestLaw = (elf : Elf) (G : Graph) (s : LoopShape) → IsGraph elf G → IsLoop G s → s.early ≡ None
    → AreNestAt G s.header s.levels
