-- What is asked of a word.
use Rattle.std.specs.Prelude.{ℕ}
use Rattle.loop_data.specs.declared.graph.Graph.{Graph}
use Rattle.loop_data.specs.Instructions.{CallsFunction, AsksSystem, JumpsIndirectly, IsNoInstruction, IsBranch}
use Rattle.loop_shapes.specs.declared.kind.Kind.{Kind}
use Rattle.loop_shapes.specs.declared.kind.Kind.TheVariants.{Calls, Asks, JumpsAnywhere, IsNothing, Branches}

-- what a word of this kind does
abbrev pub HasKind : Kind → Graph → ℕ → Type 0
HasKind Calls = CallsFunction
HasKind Asks = AsksSystem
HasKind JumpsAnywhere = JumpsIndirectly
HasKind IsNothing = IsNoInstruction
HasKind Branches = IsBranch
