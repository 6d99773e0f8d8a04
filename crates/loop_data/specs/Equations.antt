-- The forms at the words of a nest, as equations along its edges.
use Rattle.std.specs.Prelude.{ℕ, zero, suc, ◌≡◌, ◌≢◌, ◌↔◌, ◌==◌, true, false, if◌then◌else◌, Option, Some, None, ℤ, pos, ◌+ℤ◌}
use Rattle.linear_forms.specs.Forms.{LinearForm, stride, moving, pure}
use Rattle.loop_data.specs.declared.shape.Level.{Level}
use Rattle.loop_data.specs.Nests.{Nest, has, In, Among, Holds}
use Rattle.loop_data.specs.Independent.{Role, Keeps, Moves, Private}
use Rattle.loop_data.specs.LoopCode.{LoopCode, writes, is_location, IsForwardIn}
use Rattle.loop_data.specs.FormRows.{form_after}

-- the entry value of a location; x0 is the constant 0
abbrev pub entry_form : LoopCode → ℕ → Option LinearForm
entry_form B r = if r == 0 then Some (pure (pos 0)) else if is_location B r then Some (moving r (pos 0)) else None

abbrev pub plus_constant : LinearForm → ℤ → LinearForm
plus_constant f z = record f { constant = f.constant +ℤ z }

-- a step more in each turn of the loop of a depth
abbrev pub with_step : LinearForm → ℕ → ℤ → LinearForm
with_step f zero z = record f { first = f.first +ℤ z }
with_step f (suc zero) z = record f { second = f.second +ℤ z }
with_step f (suc (suc zero)) z = record f { third = f.third +ℤ z }
with_step f (suc (suc (suc k))) z = f

-- the form at the header of a loop of a depth, out of the form that comes from outside: an induction takes
-- its step, and what the loop writes otherwise has none
abbrev pub header_form : ℕ → Role → Option LinearForm → Option LinearForm
header_form depth Keeps o = o
header_form depth (Moves step) (Some f) = Some (with_step f depth step)
header_form depth (Moves step) None = None
header_form depth Private o = None

-- the form has no stride of a loop that the edge leaves
abbrev pub Carries : Nest → ℕ → ℕ → LinearForm → Type 0
Carries N u v f = (l : Level) → Among N l → Holds l u → has l.body v ≡ false → stride f l.depth ≡ pos 0

-- the form stands at v after the word at u
pub record Arrives (N : Nest) (B : LoopCode) (at : ℕ → ℕ → Option LinearForm) (u v r : ℕ) (f : LinearForm)
    : Type 0 where
  pub after : form_after B u (at u) r ≡ Some f
  pub carries : Carries N u v f

-- along all edges to v that close no loop the same form stands there
abbrev pub Meets : Nest → LoopCode → (ℕ → ℕ → Option LinearForm) → ℕ → ℕ → LinearForm → Type 0
Meets N B at v r f = (u : ℕ) → IsForwardIn N N.root.body u v → Arrives N B at u v r f

-- the word is the header of no loop
abbrev pub HeadsNone : Nest → ℕ → Type 0
HeadsNone N v = (l : Level) → Among N l → v ≢ l.header

-- the forms at each word of the nest, before it, where the loops do this to the locations: at the root's
-- header by the entry values, at an inner header by what comes from outside, and elsewhere by what meets
pub record AreForms (N : Nest) (B : LoopCode) (roles : Level → ℕ → Role) (at : ℕ → ℕ → Option LinearForm)
    : Type 0 where
  pub outside : Level → ℕ → Option LinearForm
  pub root : (r : ℕ) → at N.root.header r ≡ header_form 0 (roles N.root r) (entry_form B r)
  pub inner : (l : Level) → In N.inner l → (r : ℕ)
      → at l.header r ≡ header_form l.depth (roles l r) (outside l r)
  pub entering : (l : Level) → In N.inner l → (r : ℕ) (f : LinearForm)
      → (outside l r ≡ Some f) ↔ Meets N B at l.header r f
  pub met : (v r : ℕ) (f : LinearForm) → Holds N.root v → HeadsNone N v
      → (at v r ≡ Some f) ↔ Meets N B at v r f

-- an induction of the loop l is written with its header's form and the step
pub record IsConfirmed (N : Nest) (B : LoopCode) (roles : Level → ℕ → Role) (at : ℕ → ℕ → Option LinearForm)
    (l : Level) (r : ℕ) : Type 0 where
  pub by : (u : ℕ) (step : ℤ) (f : LinearForm) → roles l r ≡ Moves step → Holds l u → writes B u r ≡ true
      → at l.header r ≡ Some f → form_after B u (at u) r ≡ Some (plus_constant f step)
