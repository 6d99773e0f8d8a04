-- Points whose forms are numbers in a pool.
use Rattle.std.specs.Prelude.{ℕ, ◌≡◌, ◌<◌, List, [], length, map, Option, None, replicate, slice_index_or}
use Rattle.linear_forms.specs.Forms.{LinearForm}
use Rattle.loop_data.specs.declared.points.Row.{Row}
use Rattle.loop_data.specs.Points.{Point}

-- the form of a number
abbrev pub pooled : List (Option LinearForm) → ℕ → Option LinearForm
pooled pool i = slice_index_or pool i None

abbrev pub point_in : List (Option LinearForm) → Row → Point
point_in pool row = record { at = row.at; forms = map (pooled pool) row.forms }

abbrev pub points_in : List (Option LinearForm) → List Row → List Point
points_in pool rows = map (point_in pool) rows

abbrev pub no_row : Row
no_row = record { at = 0; forms = [] }

abbrev pub row_without_forms : ℕ → Row
row_without_forms u = record { at = u; forms = replicate 48 0 }

-- each of 48 locations has a number of the pool
pub record IsPooledRow (pool : List (Option LinearForm)) (row : Row) : Type 0 where
  pub count : length row.forms ≡ 48
  pub within : (r : ℕ) → r < 48 → slice_index_or row.forms r 0 < length pool

-- the number 0 stands for no form
pub record IsPooled (pool : List (Option LinearForm)) (rows : List Row) : Type 0 where
  pub some : 0 < length pool
  pub first : pooled pool 0 ≡ None
  pub each : (k : ℕ) → k < length rows → IsPooledRow pool (slice_index_or rows k no_row)
