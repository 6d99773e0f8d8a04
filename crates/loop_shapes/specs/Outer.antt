-- What is known of the outermost loops, and so of those in them.
use Rattle.std.specs.Prelude.{ℕ, ◌≡◌, ◌<◌, Bool, List, length}
use Rattle.loop_data.specs.declared.graph.Graph.{Graph}
use Rattle.loop_data.specs.Bodies.{InBody, IsHeader}
use Rattle.loop_data.specs.Early.{IsMisshapen, IsPlain}
use Rattle.loop_data.specs.Flows.{IsSet}
use Rattle.loop_data.specs.Sets.{HasAtMost}
use Rattle.loop_data.specs.Shape.{HasShape, InNest, IsForward, IsOnCycle}
use Rattle.loop_shapes.specs.Places.{at, count_of}

-- where a flag is set this is known of the loop there
pub record AreKnown (G : Graph) (P : ℕ → Type 0) (flags : List Bool) : Type 0 where
  pub count : length flags ≡ count_of G
  pub each : (i : ℕ) → i < count_of G → IsSet flags i → P (at G i)

-- the outermost loop round the word at x has its flag set
pub record IsUnder (G : Graph) (flags : List Bool) (x : ℕ) : Type 0 where
  pub place : ℕ
  pub within : place < count_of G
  pub set : IsSet flags place
  pub holds : (k : ℕ) → InBody G k x → InBody G (at G place) k

-- no cycle of the loop at h but through back edges
abbrev pub IsAcyclic : Graph → ℕ → Type 0
IsAcyclic G h = (x : ℕ) → ¬ IsOnCycle (IsForward G h) (InBody G h) x

-- neither the words nor the inner loops of the loop at h decide a verdict
pub record IsClean (G : Graph) (h : ℕ) : Type 0 where
  pub plain : IsPlain G h
  pub shaped : (k : ℕ) → ¬ IsMisshapen G h k

-- a loop that has not the shape stands at x
pub record IsUnsound (G : Graph) (x : ℕ) : Type 0 where
  pub header : IsHeader G x
  pub shape : ¬ HasShape G x

-- the loop at h has at most 256 words, and its nest more than 4 loops
pub record IsCrowded (G : Graph) (h : ℕ) : Type 0 where
  pub short : HasAtMost 256 (InBody G h)
  pub loops : ¬ HasAtMost 4 (InNest G h)

-- no loop that has not the shape stands at h
abbrev pub IsSound : Graph → ℕ → Type 0
IsSound G h = ¬ IsUnsound G h
