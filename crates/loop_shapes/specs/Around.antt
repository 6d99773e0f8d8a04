-- The innermost and the outermost loop round each word.
use Rattle.std.specs.Prelude.{ℕ, ◌≡◌, ◌<◌, ◌⊎◌, Bool, true, false, MatchBool, Option, Some, None, List, length}
use Rattle.std.specs.Prelude.{slice_index_or}
use Rattle.std.specs.List.{Contains}
use Rattle.loop_data.specs.declared.graph.Graph.{Graph}
use Rattle.loop_shapes.specs.declared.around.Around.{Around}
use Rattle.loop_shapes.specs.Places.{count_of, at}
use Rattle.loop_data.specs.Bodies.{IsClosed, InPart, InBody}

-- what stands at a place
abbrev pub entry_at : List (Option ℕ) → ℕ → Option ℕ
entry_at entries i = slice_index_or entries i None

-- a loop whose words are found takes the place of none, and, as the innermost, of one that is not found, or,
-- as the outermost, of one that is
abbrev pub GivesWay : Bool → List ℕ → Option ℕ → Type 0
GivesWay inner found None = Unit {0}
GivesWay inner found (Some m) = MatchBool inner (¬ Contains found m) (Contains found m)

-- at each of the places done it has taken that place, where what stood there gives way
pub record IsSettled (inner : Bool) (found done : List ℕ) (header : ℕ) (old new : List (Option ℕ)) : Type 0 where
  pub count : length new ≡ length old
  pub other : (i : ℕ) → ¬ Contains done i → entry_at new i ≡ entry_at old i
  pub taken : (i : ℕ) → Contains done i → GivesWay inner found (entry_at old i) → entry_at new i ≡ Some header
  pub kept : (i : ℕ) → Contains done i → ¬ GivesWay inner found (entry_at old i) → entry_at new i ≡ entry_at old i

-- the closed edges to the words before a place, and those from a row of places to the word there
abbrev pub IsDone : Graph → ℕ → List ℕ → ℕ → ℕ → Type 0
IsDone G header row h u = ((h < header) × (u < count_of G) × IsClosed G (at G h) (at G u))
    ⊎ ((h ≡ header) × Contains row u)

-- one loop lies in the other, as its innermost or outermost
abbrev pub LiesRight : Graph → Bool → ℕ → ℕ → Type 0
LiesRight G inner m k = MatchBool inner (InBody G k m) (InBody G m k)

-- one of those edges puts the word at i into the loop at m
pub record IsMade (G : Graph) (header : ℕ) (row : List ℕ) (i m : ℕ) : Type 0 where
  pub source : ℕ
  pub done : IsDone G header row m source
  pub closed : IsClosed G (at G m) (at G source)
  pub part : InPart G (at G m) (at G source) (at G i)

-- of the loops round the word at i that those edges make, m is the innermost or outermost
pub record IsExtremalSoFar (G : Graph) (inner : Bool) (header : ℕ) (row : List ℕ) (i m : ℕ) : Type 0 where
  pub place : m < count_of G
  pub holds : InBody G (at G m) (at G i)
  pub made : IsMade G header row i m
  pub order : (h u : ℕ) → IsDone G header row h u → InPart G (at G h) (at G u) (at G i)
      → LiesRight G inner (at G m) (at G h)

-- for each word that loop, by its header's place
pub record AreExtremalSoFar (G : Graph) (inner : Bool) (header : ℕ) (row : List ℕ)
    (entries : List (Option ℕ)) : Type 0 where
  pub count : length entries ≡ count_of G
  pub none : (i h u : ℕ) → i < count_of G → entry_at entries i ≡ None → IsDone G header row h u
      → ¬ InPart G (at G h) (at G u) (at G i)
  pub some : (i m : ℕ) → i < count_of G → entry_at entries i ≡ Some m → IsExtremalSoFar G inner header row i m

pub record AreAroundSoFar (G : Graph) (header : ℕ) (row : List ℕ) (a : Around) : Type 0 where
  pub innermost : AreExtremalSoFar G true header row a.innermost.items
  pub outermost : AreExtremalSoFar G false header row a.outermost.items

-- of all loops round the word at i, m is the innermost or outermost
pub record IsExtremalLoop (G : Graph) (inner : Bool) (i m : ℕ) : Type 0 where
  pub place : m < count_of G
  pub holds : InBody G (at G m) (at G i)
  pub order : (k : ℕ) → InBody G k (at G i) → LiesRight G inner (at G m) k

-- for each word that loop, by its header's place
pub record AreExtremalLoops (G : Graph) (inner : Bool) (entries : List (Option ℕ)) : Type 0 where
  pub count : length entries ≡ count_of G
  pub none : (i k : ℕ) → i < count_of G → entry_at entries i ≡ None → ¬ InBody G k (at G i)
  pub some : (i m : ℕ) → i < count_of G → entry_at entries i ≡ Some m → IsExtremalLoop G inner i m

pub record AreAround (G : Graph) (a : Around) : Type 0 where
  pub innermost : AreExtremalLoops G true a.innermost.items
  pub outermost : AreExtremalLoops G false a.outermost.items
