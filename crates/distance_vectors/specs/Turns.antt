-- What a vector says of turns: so many turns apart the bytes of two accesses meet, whatever the entry values and
-- the turns are.
use Rattle.std.specs.Prelude.{ℕ, zero, suc, ◌≡◌, ◌<◌, ◌↔◌, nat_lt, if◌then◌else◌, true, false, ℤ, pos, ◌+ℤ◌, slice_index}
use Rattle.rv64_decode.specs.Area.{bytes_of}
use Rattle.linear_forms.specs.Forms.{exact, stride}
use Rattle.loop_data.specs.declared.accesses.Access.{Access}
use Rattle.distance_vectors.specs.Distances.{Vector, is_common, MeetsAfter, ShareByte}

-- the stride of the inner loop of a depth, and 0 where there is none
abbrev pub own_stride : Access → ℕ → ℤ
own_stride a depth = if nat_lt 0 (slice_index a.around depth) then stride a.form depth else pos 0

-- the strides of the root are equal, and those of inner loops loop by loop: that of a loop round one access
-- alone is 0
pub record HaveSameShape (a b : Access) : Type 0 where
  pub root : stride a.form 0 ≡ stride b.form 0
  pub common : (depth : ℕ) → 0 < depth → depth < 3 → is_common a b depth ≡ true
      → stride a.form depth ≡ stride b.form depth
  pub alone : (depth : ℕ) → 0 < depth → depth < 3 → is_common a b depth ≡ false
      → (own_stride a depth ≡ pos 0) × (own_stride b depth ≡ pos 0)

-- the entry of a vector at a level
abbrev pub entry_at : Vector → ℕ → ℤ
entry_at k zero = k.root
entry_at k (suc zero) = k.second
entry_at k (suc (suc d)) = k.third

-- the turns u of b's loops come k after the turns t of a's: this is so of the loops that both are in, and the
-- turn of a level without a loop is 0
pub record AreAfter (a b : Access) (k : Vector) (t u : ℕ → ℕ) : Type 0 where
  pub root : pos (u 0) ≡ pos (t 0) +ℤ k.root
  pub common : (depth : ℕ) → 0 < depth → depth < 3 → is_common a b depth ≡ true
      → pos (u depth) ≡ pos (t depth) +ℤ entry_at k depth
  pub alone : (depth : ℕ) → 0 < depth → depth < 3 → is_common a b depth ≡ false → entry_at k depth ≡ pos 0
  pub outside : (depth : ℕ) → 0 < depth → depth < 3 → slice_index a.around depth ≡ 0 → t depth ≡ 0
  pub outside_other : (depth : ℕ) → 0 < depth → depth < 3 → slice_index b.around depth ≡ 0 → u depth ≡ 0

-- of two accesses of the same shape and with equal terms, b meets a after k exactly where the bytes of a in some
-- turns have one in common with those of b in the turns k after them
abbrev pub MeetingLaw : Type 0
MeetingLaw = (a b : Access) → HaveSameShape a b → a.form.terms ≡ b.form.terms
    → (k : Vector) (entry : ℕ → ℤ) (t u : ℕ → ℕ) → AreAfter a b k t u
    → MeetsAfter a b k ↔ ShareByte (exact a.form entry t) (bytes_of a.width) (exact b.form entry u) (bytes_of b.width)

-- the vector of three entries
abbrev pub vector : ℤ → ℤ → ℤ → Vector
vector root second third = record { root = root; second = second; third = third }
