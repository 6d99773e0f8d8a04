-- An aligned access lies in one area, or its first byte in none.
use Rattle.std.proofs.Common.{◌≡◌, ℕ, zero, suc, ◌+◌, ◌%◌, ◌<◌, ◌≤◌, List, [], ◌∷◌, length, get_or, Some, true, false, Bool, if◌then◌else◌, refl, ap, ◌∙◌, arith}
use Rattle.rv64_decode.specs.Area.{Area, holds, area_at, bytes_of}
use Rattle.rv64_decode.specs.declared.memory.Width.{Width}
use Rattle.rv64_decode.specs.declared.memory.Width.TheVariants.{One, Two, Four, Eight}
use Rattle.guest_memory.specs.Layout.{end_of, AreasLieFrom}
use Rattle.guest_memory.specs.WholeAreas.{IsWhole, WholeLaw, AlignedLaw}
use Rattle.guest_memory.proofs.Areas.{holds_inside, holds_above, inside_holds}

whole_from : (from : ℕ) (m : List Area) (i : ℕ) (d : Area) → AreasLieFrom from m → i < length m → IsWhole (get_or m i d)
whole_from from [] i d lie l = absurd (omega arith)
whole_from from (a ∷ rest) zero d lie l = let x = lie.1 in let y = lie.2 in (x, omega arith)
whole_from from (a ∷ rest) (suc i) d lie l = whole_from (end_of a) rest i d lie.4 (omega arith)

pub whole_law : WholeLaw
whole_law m lie i d l = whole_from 0 m i d lie l

-- an aligned access that begins below a multiple of 8 ends there at the latest
ends_below : (w : Width) (x b end : ℕ) → x % bytes_of w ≡ 0 → end % 8 ≡ 0 → x < end → b < x + bytes_of w → b < end
ends_below One x b end a e l u = omega arith
ends_below Two x b end a e l u = omega arith
ends_below Four x b end a e l u = omega arith
ends_below Eight x b end a e l u = omega arith

-- an area of the list that an address has lies from there on
from_on : (from : ℕ) (m : List Area) (x : ℕ) (a : Area) → AreasLieFrom from m → area_at m x ≡ Some a → from ≤ x
from_on from [] x a lie e = absurd (cc)
from_on from (c ∷ rest) x a lie e = go (holds c x) refl e (from_on (end_of c) rest x a lie.4)
  where
    go : (t : Bool) → holds c x ≡ t → (if t then Some c else area_at rest x) ≡ Some a → (area_at rest x ≡ Some a → end_of c ≤ x) → from ≤ x
    go true h f later = let p = inside_holds c x h in let q = lie.0 in let r = p.0 in omega arith
    go false h f later = let p = later f in let q = lie.0 in omega arith

aligned_from : (from : ℕ) (m : List Area) (x : ℕ) (w : Width) (a : Area) (b : ℕ) → AreasLieFrom from m → x % bytes_of w ≡ 0 → area_at m x ≡ Some a → x ≤ b → b < x + bytes_of w → area_at m b ≡ Some a
aligned_from from [] x w a b lie k e lo hi = absurd (cc)
aligned_from from (c ∷ rest) x w a b lie k e lo hi = go (holds c x) refl e (aligned_from (end_of c) rest x w a b lie.4 k)
  where
    go : (t : Bool) → holds c x ≡ t → (if t then Some c else area_at rest x) ≡ Some a → (area_at rest x ≡ Some a → x ≤ b → b < x + bytes_of w → area_at rest b ≡ Some a)
        → (if holds c b then Some c else area_at rest b) ≡ Some a
    go true h f later =
        let p = inside_holds c x h in
        let y = lie.1 in
        let z = lie.2 in
        let q = ends_below w x b (end_of c) k (omega arith) p.1 hi in
        ap (λ t. if t then Some c else area_at rest b) (holds_inside c b (let r = p.0 in omega arith) q) ∙ f
    go false h f later =
        let p = from_on (end_of c) rest x a lie.4 f in
        ap (λ t. if t then Some c else area_at rest b) (holds_above c b (omega arith)) ∙ later f lo hi

pub aligned_law : AlignedLaw
aligned_law m x w a b lie = aligned_from 0 m x w a b lie
