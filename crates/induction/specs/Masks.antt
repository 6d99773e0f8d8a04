-- For the words of a loop, by their places, the locations that all ways to them write, as bits of numbers.
use Rattle.std.specs.Prelude.{ℕ, ◌≡◌, ◌<◌, ◌≤◌, ◌==◌, Bool, true, false, ◌&&◌, ◌||◌, if◌then◌else◌, List, [], ◌∷◌, length, None, slice_index, slice_index_or}
use Rattle.std.specs.Int.{bit_at}
use Rattle.loop_data.specs.declared.flow.Flow.{Flow}
use Rattle.loop_data.specs.Locations.{instr_writes, instr_reads}
use Rattle.loop_data.specs.Flows.{row_at}

-- a location is in a mask
abbrev pub has_bit : ℕ → ℕ → Bool
has_bit mask r = bit_at mask r == 1

-- the word at a place writes a location, and reads it
abbrev pub place_writes : Flow → ℕ → ℕ → Bool
place_writes f k r = instr_writes (slice_index_or f.instrs.items k None) (slice_index_or f.uses.items k None) r

abbrev pub place_reads : Flow → ℕ → ℕ → Bool
place_reads f k r = instr_reads (slice_index_or f.instrs.items k None) (slice_index_or f.uses.items k None) r

-- all ways to the word write the location, or the word does
abbrev pub bit_after : Flow → List ℕ → ℕ → ℕ → Bool
bit_after f masks k r = has_bit (slice_index masks k) r || place_writes f k r

-- that is so at all of these places
abbrev pub all_after : Flow → List ℕ → List ℕ → ℕ → Bool
all_after f masks [] r = true
all_after f masks (k ∷ ks) r = bit_after f masks k r && all_after f masks ks r

-- what is in the mask before the word at a place, to which edges lead from these places
abbrev pub mask_bit : ℕ → List ℕ → Flow → List ℕ → List ℕ → ℕ → ℕ → Bool
mask_bit header body f masks sources p r =
    if slice_index body p == header then false else all_after f masks sources r

abbrev pub IsMaskAt : ℕ → List ℕ → Flow → List (List ℕ) → List ℕ → ℕ → Type 0
IsMaskAt header body f rows masks p =
    (r : ℕ) → r < 48 → has_bit (slice_index masks p) r ≡ mask_bit header body f masks (row_at rows p) p r

pub record AreMasks (header : ℕ) (body : List ℕ) (f : Flow) (rows : List (List ℕ)) (masks : List ℕ)
    : Type 0 where
  pub count : length masks ≡ length body
  pub each : (p : ℕ) → p < length body → IsMaskAt header body f rows masks p

-- what is in a mask past the word at an address
abbrev pub IsMaskPast : Flow → List ℕ → List ℕ → ℕ → ℕ → Type 0
IsMaskPast f masks body x mask =
    (p : ℕ) → p < length body → slice_index body p ≡ x → (r : ℕ) → r < 48 → has_bit mask r ≡ bit_after f masks p r

-- a word reads the location that a way without a write leads to
pub record IsReadFirst (f : Flow) (masks : List ℕ) (r : ℕ) : Type 0 where
  pub place : ℕ
  pub within : place < length f.instrs.items
  pub reads : place_reads f place r ≡ true
  pub unwritten : has_bit (slice_index masks place) r ≡ false

-- each way to a word that reads the location writes it
abbrev pub AreWrittenFirst : Flow → List ℕ → ℕ → Type 0
AreWrittenFirst f masks r =
    (p : ℕ) → p < length f.instrs.items → place_reads f p r ≡ true → has_bit (slice_index masks p) r ≡ true

-- the bits tell which locations but x0 are read first
abbrev pub AreFirstReads : Flow → List ℕ → ℕ → Type 0
AreFirstReads f masks reads =
    (r : ℕ) → 1 ≤ r → r < 48
    → (has_bit reads r ≡ true → IsReadFirst f masks r) × (has_bit reads r ≡ false → AreWrittenFirst f masks r)
