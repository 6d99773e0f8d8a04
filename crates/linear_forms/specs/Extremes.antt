-- How far a form's strides take it from its value at turn numbers 0.
use Rattle.std.specs.Prelude.{ℕ, ◌-◌, ◌^◌, ◌≤ℤ◌, ℤ, pos, negsuc, ◌+ℤ◌, ◌*ℤ◌}
use Rattle.linear_forms.specs.Forms.{LinearForm}

-- a stride's part of the least, where the last turn has this number
abbrev pub least : ℤ → ℕ → ℤ
least (pos m) last = pos 0
least (negsuc m) last = negsuc m *ℤ pos last

-- a stride's part of the greatest
abbrev pub most : ℤ → ℕ → ℤ
most (pos m) last = pos m *ℤ pos last
most (negsuc m) last = pos 0

-- the negative strides times the last turn numbers, summed up
abbrev pub lowest_shift : LinearForm → (ℕ → ℕ) → ℤ
lowest_shift f last = least f.first (last 0) +ℤ (least f.second (last 1) +ℤ least f.third (last 2))

-- the positive strides times the last turn numbers, summed up
abbrev pub highest_shift : LinearForm → (ℕ → ℕ) → ℤ
highest_shift f last = most f.first (last 0) +ℤ (most f.second (last 1) +ℤ most f.third (last 2))

-- a shift by one stride
pub record IsShift (z : ℤ) : Type 0 where
  pub low : negsuc (2 ^ 61 - 1) ≤ℤ z
  pub high : z ≤ℤ pos (2 ^ 61)
