-- What is known of each word of a program, by places.
use Rattle.std.specs.Prelude.{ℕ, ◌≡◌, Bool, MatchBool, MatchOption, Option, Some, None, min}
use Rattle.std.specs.Prelude.{List}
use Rattle.std.specs.List.{Contains}
use Rattle.loop_data.specs.declared.graph.Graph.{Graph}
use Rattle.loop_shapes.specs.declared.kind.Kind.TheVariants.{Calls, Asks, JumpsAnywhere, IsNothing}
use Rattle.loop_shapes.specs.declared.marks.Marks.{Marks}
use Rattle.loop_shapes.specs.declared.nest.NestFlags.{NestFlags}
use Rattle.loop_data.specs.Bodies.{IsHeader}
use Rattle.loop_shapes.specs.Kinds.{HasKind}
use Rattle.loop_shapes.specs.Outer.{AreKnown, IsClean, IsCrowded, IsUnsound}
use Rattle.loop_shapes.specs.Places.{AreFlags, at}
use Rattle.loop_data.specs.Sets.{IsLeast}
use Rattle.loop_data.specs.Shape.{IsShaped}
use Rattle.loop_data.specs.Flows.{IsSet}

-- at which words loops stand that have the shape, whatever their inner loops have, and at which crowded nests
pub record AreNestFlags (G : Graph) (f : NestFlags) : Type 0 where
  pub shaped : AreFlags G (IsShaped G) f.shaped.items
  pub crowded : AreKnown G (IsCrowded G) f.crowded.items

-- the flags of the words by what they do, of the loops that have not the shape, of outermost loops that are
-- clean, and of crowded nests
pub record AreWordMarks (G : Graph) (m : Marks) : Type 0 where
  pub calls : AreFlags G (HasKind Calls G) m.calls.items
  pub asks : AreFlags G (HasKind Asks G) m.asks.items
  pub jumps : AreFlags G (HasKind JumpsAnywhere G) m.jumps.items
  pub nothing : AreFlags G (HasKind IsNothing G) m.nothing.items
  pub unsound : AreFlags G (IsUnsound G) m.unsound.items
  pub clean : AreKnown G (IsClean G) m.clean.items
  pub crowded : AreKnown G (IsCrowded G) m.crowded.items

-- one of two places, or the only one there is, that is not behind the other
abbrev pub lesser_of : Option ℕ → ℕ → ℕ
lesser_of None x = x
lesser_of (Some y) x = min y x

-- the loop at a place that is found has not the shape, whatever its inner loops have
pub record HasUnshaped (G : Graph) (found : List ℕ) : Type 0 where
  pub place : ℕ
  pub among : Contains found place
  pub header : IsHeader G (at G place)
  pub shape : ¬ IsShaped G (at G place)

-- whether there is one
abbrev pub ArePlacesShaped : Bool → Graph → List ℕ → Type 0
ArePlacesShaped unshaped G found = MatchBool unshaped (HasUnshaped G found)
    ((i : ℕ) → Contains found i → IsHeader G (at G i) → IsShaped G (at G i))

-- the address of the least place that is found and flagged
pub record IsFirstAt (G : Graph) (found : List ℕ) (flags : List Bool) (x : ℕ) : Type 0 where
  pub place : ℕ
  pub is : at G place ≡ x
  pub least : IsLeast (λ i. Contains found i × IsSet flags i) place

abbrev pub IsFirst : Graph → List ℕ → List Bool → Option ℕ → Type 0
IsFirst G found flags o = MatchOption o ((i : ℕ) → Contains found i → ¬ IsSet flags i) (IsFirstAt G found flags)
