-- What the rows of the table of forms are made of: lists of forms, and the results of instructions on
-- words of 32 bits.
use Rattle.std.specs.Prelude.{ℕ, ◌≡◌, true, false, List, Option, Some, None, ℤ, pos, slice_index_or}
use Rattle.linear_forms.specs.Forms.{LinearForm, limited}
use Rattle.loop_data.specs.Facts.{short_of}
use Rattle.loop_data.specs.FormRows.{is_pure, is_factor, form_multiple}
use Rattle.register_equations.specs.declared.rows.Short.{Short}
use Rattle.register_equations.specs.declared.rows.Short.TheVariants.{Constant, Other}

-- the forms of a list, by their locations
abbrev pub forms_in : List (Option LinearForm) → ℕ → Option LinearForm
forms_in forms r = slice_index_or forms r None

-- the form with another constant, and with the constant 0
abbrev pub at_constant : LinearForm → ℤ → LinearForm
at_constant f z = record { constant = z; terms = f.terms; first = f.first; second = f.second; third = f.third }

abbrev pub floating : LinearForm → LinearForm
floating f = at_constant f (pos 0)

-- what an instruction on words of 32 bits makes of a form, whatever the form's size: a constant, or the form
-- where it keeps to the limits
abbrev pub IsShortResult : Short → Option LinearForm → Type 0
IsShortResult s None = s ≡ Other None
IsShortResult (Constant z) (Some f) = (is_pure f ≡ true) × (z ≡ short_of f.constant)
IsShortResult (Other o) (Some f) = (is_pure f ≡ false) × (o ≡ limited f)

-- the constant by which a form may be multiplied
abbrev pub IsFactor : Option ℤ → LinearForm → Type 0
IsFactor None f = is_factor f ≡ false
IsFactor (Some z) f = (is_factor f ≡ true) × (z ≡ f.constant)

abbrev pub multiple_by : Option ℤ → Option LinearForm → Option LinearForm
multiple_by None o = None
multiple_by (Some z) o = form_multiple z o
