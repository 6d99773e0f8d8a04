-- What the forms and the accesses of a loop have to meet over all turns and passes.
use Rattle.std.specs.Prelude.{ℕ, ◌≡◌, ◌*◌, ◌≤ℤ◌, zero, suc, ◌==◌, ◌-◌, ◌%◌, ◌^◌, ◌<◌, Bool, false, not, ◌&&◌, ◌||◌, nat_lt, if◌then◌else◌, List, ℤ, pos, negsuc, ◌+ℤ◌, ◌-ℤ◌, int_le, int_lt, slice_index, slice_index_or}
use Rattle.std.specs.List.{list_all}
use Rattle.rv64_decode.specs.Area.{bytes_of}
use Rattle.rv64_decode.specs.Row.{signed64}
use Rattle.linear_forms.specs.Forms.{LinearForm}
use Rattle.linear_forms.specs.Extremes.{lowest_shift, highest_shift}
use Rattle.loop_data.specs.declared.accesses.Access.{Access}
use Rattle.loop_data.specs.declared.equations.Duty.{Duty}
use Rattle.loop_data.specs.declared.plans.Term.{Term}
use Rattle.loop_data.specs.declared.verdict.Cell.{Cell}
use Rattle.dependence_tests.specs.declared.pairs.PairBox.{PairBox}
use Rattle.dependence_tests.specs.Overlaps.{last_pass, whole_range}
use Rattle.dependence_tests.specs.PairTests.{are_disjoint, pair_test}
use Rattle.dependence_tests.specs.Terms.{IsSized}
use Rattle.alias_checks.specs.declared.areas.Permission.{Permission}
use Rattle.alias_checks.specs.declared.areas.Permission.TheVariants.{Read, Write}
use Rattle.alias_checks.specs.declared.lists.Place.{Place}
use Rattle.alias_checks.specs.Areas.{Range}
use Rattle.alias_checks.specs.CellTests.{cell_range}
use Rattle.alias_checks.specs.Entry.{start_value}

-- by depth the last turn numbers of the loops at these places round a word
abbrev pub last_at : List ℕ → List ℕ → ℕ → ℕ
last_at around last zero = slice_index last 0
last_at around last (suc depth) = last_pass last (slice_index around (suc depth))

-- the least and the greatest value of a form, from its value at turn numbers 0 on
abbrev pub extent : LinearForm → ℤ → (ℕ → ℕ) → Range
extent f start last = (start +ℤ lowest_shift f last, start +ℤ highest_shift f last)

-- these are the shifts of a form, which fit in 63 bits
pub record AreShifts (f : LinearForm) (last : ℕ → ℕ) (r : Range) : Type 0 where
  pub low : r.0 ≡ lowest_shift f last
  pub high : r.1 ≡ highest_shift f last
  pub falls : (negsuc (3 * 2 ^ 61 - 1) ≤ℤ r.0) × (r.0 ≤ℤ pos 0)
  pub rises : (pos 0 ≤ℤ r.1) × (r.1 ≤ℤ pos (3 * 2 ^ 61))

-- both are signed numbers of 32 bits
abbrev pub are_short : Range → Bool
are_short r = int_le (negsuc (2 ^ 31 - 1)) r.0 && int_lt r.1 (pos (2 ^ 31))

-- the values of a duty's form are signed numbers of 32 bits
unfoldable pub duty_fits : (ℕ → ℤ) → List ℕ → Duty → Bool
duty_fits e last d = are_short (extent d.form (signed64 (start_value d.form e)) (last_at d.around last))

-- where an access lies, with its address at turn numbers 0 and its whole range
unfoldable pub place_of : (ℕ → ℤ) → List ℕ → Access → Place
place_of e last a =
    record {
      address = start_value a.form e;
      range = whole_range a (pos (start_value a.form e)) last;
      store = a.store;
    }

abbrev pub access_permission : Access → Permission
access_permission a = if a.store then Write else Read

-- an access begins below 2 ^ 31 and aligned, and its range lies in one area that permits it
unfoldable pub access_fits : (Permission → Range → Bool) → (ℕ → ℤ) → List ℕ → Access → Bool
access_fits inside e last a =
    let p = place_of e last a in
    nat_lt p.address (2 ^ 31)
    && ((p.address % bytes_of a.width == 0) && inside (access_permission a) p.range)

-- the address of an access at turn numbers 0 lies below 2 ^ 31
pub record IsLowPlace (p : Place) : Type 0 where
  pub below : p.address < 2 ^ 31

-- a cell and an access, of which one is stored, have no byte in common
unfoldable pub keeps_off : List ℕ → Cell → Place → Bool
keeps_off regs c p = not (c.stored || p.store) || are_disjoint (cell_range regs c) p.range

-- no access meets a cell
abbrev pub all_keep_off : List ℕ → List Cell → List Place → Bool
all_keep_off regs cells places = list_all (λ (c : Cell). list_all (keeps_off regs c) places) cells

-- both accesses of a pair are among so many, and the sizes in its term are within the limits
pub record IsPairOf (n : ℕ) (t : ℕ × ℕ × Term) : Type 0 where
  pub first : t.0 < n
  pub second : t.1 < n
  pub sized : IsSized t.2

-- the place of the access with this number
abbrev pub place_at : List Place → ℕ → Place
place_at places i = slice_index_or places i (record { address = 0; range = (pos 0, pos 0); store = false })

-- two accesses in this run of the loop
abbrev pub box_of : List ℕ → Place → Place → PairBox
box_of last p q =
    record { difference = pos q.address -ℤ pos p.address; last = last; first = p.range; second = q.range }

-- a pair passes its test
unfoldable pub pair_passes : List Place → List ℕ → ℕ × ℕ × Term → Bool
pair_passes places last t = pair_test t.2 (box_of last (place_at places t.0) (place_at places t.1))
