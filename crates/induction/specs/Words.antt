-- What is known at the words of a loop, and what it tells of a location.
use Rattle.std.specs.Prelude.{ℕ, ◌≡◌, ◌⊎◌, ◌==◌, ◌&&◌, ◌||◌, Bool, true, false, if◌then◌else◌, List, [], ◌∷◌, length, map, ℤ, Option, Some, None, slice_index, slice_index_or}
use Rattle.linear_forms.specs.Forms.{is_small}
use Rattle.loop_data.specs.declared.graph.Graph.{Graph}
use Rattle.loop_data.specs.declared.shape.Level.{Level}
use Rattle.loop_data.specs.declared.values.Values.{Values}
use Rattle.loop_data.specs.Nests.{Nest, has, Among}
use Rattle.loop_data.specs.Locations.{CellMap}
use Rattle.loop_data.specs.LoopWords.{AreNest}
use Rattle.loop_data.specs.LoopCode.{code_of}
use Rattle.loop_data.specs.Facts.{Fact, Number, Offset}
use Rattle.loop_data.specs.FactPass.{AreFacts}
use Rattle.loop_data.specs.Flows.{rows, IsFlow}
use Rattle.loop_data.specs.Lookups.{fact_at, AreFew}
use Rattle.loop_data.specs.Results.{IsNestOf}
use Rattle.loop_data.specs.ValueStates.{past}
use Rattle.induction.specs.declared.words.Words.{Words}
use Rattle.induction.specs.declared.writers.Writers.{Writers}
use Rattle.induction.specs.declared.writers.Writers.TheVariants.{Nowhere, At, Several}
use Rattle.induction.specs.Masks.{has_bit, AreMasks, IsMaskPast, IsReadFirst, AreWrittenFirst}

-- there is one of each for each word
pub record AreSized (body : List ℕ) (w : Words) : Type 0 where
  pub instrs : length w.flow.instrs.items ≡ length body
  pub uses : length w.flow.uses.items ≡ length body
  pub points : length w.points.items ≡ length body
  pub masks : length w.masks.items ≡ length body

-- the words of a loop of a nest, with what is known at them
pub record AreLoopWords (G : Graph) (C : CellMap) (levels : List Level) (l : Level) (w : Words) : Type 0 where
  pub sized : AreSized l.body w
  pub flow : IsFlow G C levels l.body w.flow
  pub addresses : map (λ (p : Values). p.at) w.points.items ≡ l.body
  pub facts : (N : Nest) → IsNestOf G levels N → AreFacts N (code_of G C) l (fact_at w.points.items)
  pub masks : AreMasks l.header l.body w.flow (rows w.flow.sources.items) w.masks.items
  pub always : IsMaskPast w.flow w.masks.items l.body l.back w.always

-- those of the loop at a place among the levels
abbrev pub AreLoopWordsAt : Graph → CellMap → List Level → ℕ → Words → Type 0
AreLoopWordsAt G C levels level w = (l : Level) → slice_index_or levels level l ≡ l → AreLoopWords G C levels l w

-- by how much a location moves on, if this is the fact that is written to it
abbrev pub step_in : Option Fact → ℕ → Option ℤ
step_in None r = None
step_in (Some (Number z)) r = None
step_in (Some (Offset q z)) r = if (q == r) && is_small z then Some z else None

abbrev pub step_at : Words → ℕ → ℕ → Option ℤ
step_at w p r = step_in (past w.flow w.points.items p r) r

-- the loop m lies in the loop l and holds the word
abbrev pub is_round_in : Level → Level → ℕ → Bool
is_round_in m l x = if m.header == l.header then false else if has l.body m.header then has m.body x else false

abbrev pub deeper : List Level → Level → ℕ → Bool
deeper [] l x = false
deeper (m ∷ ms) l x = is_round_in m l x || deeper ms l x

-- by how much each pass moves a location on, where the word at place p alone writes it
abbrev pub step_of_place : List Level → Level → Words → ℕ → ℕ → Option ℤ
step_of_place levels l w r p =
    if has_bit w.always r then (if deeper levels l (slice_index l.body p) then None else step_at w p r) else None

abbrev pub step_by : List Level → Level → Words → ℕ → Writers → Option ℤ
step_by levels l w r Nowhere = None
step_by levels l w r (At p) = step_of_place levels l w r p
step_by levels l w r Several = None

-- each pass writes the location, and before any read of it; or that is not so
pub record IsPrivateAt (w : Words) (r : ℕ) : Type 0 where
  pub written : has_bit w.always r ≡ true
  pub before : AreWrittenFirst w.flow w.masks.items r

abbrev pub IsNotPrivateAt : Words → ℕ → Type 0
IsNotPrivateAt w r = (has_bit w.always r ≡ false) ⊎ IsReadFirst w.flow w.masks.items r

-- the words of the loop l of the nest N, with facts of the pass over it
pub record IsLoopOf (G : Graph) (C : CellMap) (levels : List Level) (N : Nest) (l : Level)
    (V : ℕ → ℕ → Option Fact) (w : Words) : Type 0 where
  pub nest : AreNest G levels
  pub of : IsNestOf G levels N
  pub among : Among N l
  pub words : AreLoopWords G C levels l w
  pub few : AreFew C
  pub facts : AreFacts N (code_of G C) l V
