-- The forms of the locations before the words of a loop.
use Rattle.std.specs.Prelude.{ℕ, List, [], Option, None, replicate, slice_index_or, slice_set}
use Rattle.linear_forms.specs.Forms.{LinearForm}

-- the forms of the locations before the word at an address: of registers by their numbers, and from 32 on of cells
pub record Point : Type 0 where
  pub at : ℕ
  pub forms : List (Option LinearForm)

-- no location has a form
abbrev pub no_forms : Point
no_forms = record { at = 0; forms = [] }

abbrev pub without_forms : ℕ → Point
without_forms u = record { at = u; forms = replicate 48 None }

abbrev pub point_at : List Point → ℕ → Point
point_at points k = slice_index_or points k no_forms

-- the form of a location at a place
abbrev pub form_in : List Point → ℕ → ℕ → Option LinearForm
form_in points k r = slice_index_or (point_at points k).forms r None

-- other forms at a place
abbrev pub with_forms : List Point → ℕ → List (Option LinearForm) → List Point
with_forms points k forms = slice_set points k (record { at = (point_at points k).at; forms = forms })
