-- The lines of a list of loops.
use Rattle.std.specs.Prelude.{ℕ, ◌-◌, ◌^◌, false, Bool, if◌then◌else◌, List, [], ◌∷◌, ◌++◌, codes, decimal, take, drop, flat_map}
use Rattle.std.specs.Prelude.{Option, Some, None, ℤ, pos, slice_index_or}
use Rattle.std.specs.Fmt.{digits, padded_integral, format_spec, signed_decimal}
use Rattle.linear_forms.specs.declared.location.Loc.{Loc}
use Rattle.linear_forms.specs.declared.location.Loc.TheVariants.{Reg, Cell as OfCell}
use Rattle.loop_choice.specs.declared.judged.Judged.{Judged}
use Rattle.loop_data.specs.declared.verdict.Cell.{Cell}
use Rattle.loop_data.specs.declared.verdict.Verdict.{Verdict}
use Rattle.loop_data.specs.declared.verdict.Verdict.TheVariants.{MultiEntry, Limit, Call, System, Indirect, Unsupported, Shape}
use Rattle.loop_data.specs.declared.verdict.Verdict.TheVariants.{MixedCell, Carried, NoTrip, Irregular, Dependence, Parallel}

-- an address as 8 hexadecimal digits: what `{:08x}` writes
abbrev pub hex8 : ℕ → List ℕ
hex8 n = padded_integral (format_spec 32 0 4 8 (2 ^ 64 - 1)) false [] (digits 16 false n)

-- a verdict and the address that decides
abbrev pub verdict_at : List ℕ → ℕ → List ℕ
verdict_at name at = name ++ (codes " 0x" ++ hex8 at)

-- ---- locations

-- how many bytes a cell has
abbrev pub cell_bytes : Cell → ℕ
cell_bytes cell = if cell.wide then 8 else 4

-- the register from which a cell is found, or that its address is known
abbrev pub base_text : Option ℕ → List ℕ
base_text (Some base) = codes "x" ++ decimal base
base_text None = codes "abs"

-- a cell: its base, its offset or address, and how many bytes it has
abbrev pub cell_text : Cell → List ℕ
cell_text cell = base_text cell.base ++ (codes " " ++ (signed_decimal cell.offset ++ (codes " " ++ decimal (cell_bytes cell))))

-- a location that is carried. A cell is told by its base and offset and not by its number
abbrev pub carried_text : Loc → Option Cell → List ℕ
carried_text (Reg register) cell = codes "carried x" ++ decimal register
carried_text (OfCell number) (Some cell) = codes "carried cell " ++ cell_text cell
carried_text (OfCell number) None = codes "carried cell"

-- ---- distances

-- the entries of inner loops
abbrev pub entries_text : List ℤ → List ℕ
entries_text entries = flat_map (λ entry. codes ", " ++ signed_decimal entry) entries

-- a distance: the entry of the root, and one for each of so many common inner loops, by depth
abbrev pub distance_text : ℕ → Option (List ℤ) → List ℕ
distance_text common None = codes "none"
distance_text common (Some entries) =
    codes "(" ++ (signed_decimal (slice_index_or entries 0 (pos 0)) ++ (entries_text (take common (drop 1 entries)) ++ codes ")"))

-- two accesses and their distance
abbrev pub dependence_text : ℕ → ℕ → ℕ → Option (List ℤ) → List ℕ
dependence_text first second common distance =
    codes "dependence 0x"
    ++ (hex8 first ++ (codes " 0x" ++ (hex8 second ++ (codes " distance " ++ distance_text common distance))))

-- ---- verdicts

abbrev pub parallel_text : Bool → List ℕ
parallel_text chosen = if chosen then codes "parallel chosen" else codes "parallel"

-- a verdict, and whether the loop is chosen
abbrev pub verdict_text : Verdict → Bool → List ℕ
verdict_text (MultiEntry from to) chosen = codes "multi-entry 0x" ++ (hex8 from ++ (codes " -> 0x" ++ hex8 to))
verdict_text (Limit at) chosen = verdict_at (codes "limit") at
verdict_text (Call at) chosen = verdict_at (codes "call") at
verdict_text (System at) chosen = verdict_at (codes "system") at
verdict_text (Indirect at) chosen = verdict_at (codes "indirect") at
verdict_text (Unsupported at) chosen = verdict_at (codes "unsupported") at
verdict_text (Shape at) chosen = verdict_at (codes "shape") at
verdict_text (MixedCell at) chosen = verdict_at (codes "mixed-cell") at
verdict_text (Carried loc cell) chosen = carried_text loc cell
verdict_text (NoTrip at) chosen = verdict_at (codes "no-trip") at
verdict_text (Irregular at) chosen = verdict_at (codes "irregular") at
verdict_text (Dependence first second common distance) chosen = dependence_text first second common distance
verdict_text Parallel chosen = parallel_text chosen

-- the line of a loop with this header and verdict
abbrev pub verdict_line : ℕ → Verdict → Bool → List ℕ
verdict_line header verdict chosen =
    codes "loop 0x" ++ (hex8 header ++ (codes " " ++ (verdict_text verdict chosen ++ 10 ∷ [])))

-- the line of a loop that is judged
abbrev pub loop_line : Judged → Bool → List ℕ
loop_line judged chosen = verdict_line judged.header judged.verdict chosen
