-- The distance of two accesses: the first vector of turns after which one meets the other.
use Rattle.std.specs.Prelude.{ℕ, ◌≡◌, ◌<◌, ◌≤◌, ◌==◌, ◌&&◌, nat_lt, Bool, if◌then◌else◌, List, [], ◌∷◌, ◌⊎◌, ℤ, pos, negsuc, ◌+ℤ◌, ◌*ℤ◌, ◌≤ℤ◌, slice_index, slice_index_or}
use Rattle.std.specs.Int.RustNames.{unsigned_abs}
use Rattle.rv64_decode.specs.Area.{bytes_of}
use Rattle.linear_forms.specs.Forms.{LinearForm}
use Rattle.loop_data.specs.declared.accesses.Access.{Access}

-- how many turns of each level lie between two accesses
pub record Vector : Type 0 where
  pub root : ℤ
  pub second : ℤ
  pub third : ℤ

abbrev pub vector_of : List ℤ → Vector
vector_of entries =
    record {
      root = slice_index_or entries 0 (pos 0);
      second = slice_index_or entries 1 (pos 0);
      third = slice_index_or entries 2 (pos 0);
    }

-- both accesses are in one inner loop of this depth
abbrev pub is_common : Access → Access → ℕ → Bool
is_common a b depth =
    nat_lt 0 (slice_index a.around depth) && (slice_index a.around depth == slice_index b.around depth)

-- the greatest size of an inner entry
abbrev pub inner_limit : Access → Access → ℕ → ℕ
inner_limit a b depth = if is_common a b depth then 7 else 0

-- the vectors that are looked at: the root's entry is from 1 to 15, those of common inner loops are from -7 to
-- 7, and that of a depth without a common loop is 0
pub record IsInBox (a b : Access) (k : Vector) : Type 0 where
  pub from : pos 1 ≤ℤ k.root
  pub to : k.root ≤ℤ pos 15
  pub second : unsigned_abs k.second ≤ inner_limit a b 1
  pub third : unsigned_abs k.third ≤ inner_limit a b 2

-- positive comes before negative
abbrev pub sign : ℤ → ℕ
sign (pos n) = 0
sign (negsuc n) = 1

-- what the order compares: the root's entry, then the sizes of the inner entries, then their signs
abbrev pub ranks : Vector → List ℕ
ranks k =
    unsigned_abs k.root
    ∷ unsigned_abs k.second
    ∷ unsigned_abs k.third
    ∷ sign k.second
    ∷ sign k.third
    ∷ []

-- at the first place at which they differ the first list has the lesser number
abbrev pub AreBefore : List ℕ → List ℕ → Type 0
AreBefore [] ns = ⊥
AreBefore (m ∷ ms) [] = ⊥
AreBefore (m ∷ ms) (n ∷ ns) = (m < n) ⊎ ((m ≡ n) × AreBefore ms ns)

abbrev pub ComesBefore : Vector → Vector → Type 0
ComesBefore k l = AreBefore (ranks k) (ranks l)

-- the address of an access in the turn k, where the terms are left out
abbrev pub address_at : LinearForm → Vector → ℤ
address_at f k = f.constant +ℤ (f.first *ℤ k.root +ℤ (f.second *ℤ k.second +ℤ f.third *ℤ k.third))

-- so many bytes from x on and so many from y on have one in common
pub record ShareByte (x : ℤ) (n : ℕ) (y : ℤ) (m : ℕ) : Type 0 where
  pub one : ℕ
  pub other : ℕ
  pub one_inside : one < n
  pub other_inside : other < m
  pub same : x +ℤ pos one ≡ y +ℤ pos other

-- the later access, in the turn k after the earlier one's, has a byte in common with it
abbrev pub MeetsAfter : Access → Access → Vector → Type 0
MeetsAfter earlier later k =
    ShareByte earlier.form.constant (bytes_of earlier.width) (address_at later.form k) (bytes_of later.width)

-- b in the turn k after a's, or a in the turn k after b's, has a byte in common with the other
abbrev pub MeetAt : Access → Access → Vector → Type 0
MeetAt a b k = MeetsAfter a b k ⊎ MeetsAfter b a k

-- of the vectors of a set at which the accesses meet, k comes before every other
pub record IsFirst (Among : Vector → Type 0) (a b : Access) (k : Vector) : Type 0 where
  pub among : Among k
  pub meet : MeetAt a b k
  pub first : (l : Vector) → Among l → MeetAt a b l → (l ≡ k) ⊎ ComesBefore k l

-- the accesses meet at no vector of a set
abbrev pub AreApart : (Vector → Type 0) → Access → Access → Type 0
AreApart Among a b = (l : Vector) → Among l → MeetAt a b l → ⊥

-- two accesses have one distance at most
abbrev pub OneDistanceLaw : Type 0
OneDistanceLaw = (a b : Access) (k l : Vector) → IsFirst (IsInBox a b) a b k → IsFirst (IsInBox a b) a b l → k ≡ l
