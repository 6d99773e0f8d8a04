-- Bytes that meet at a vector meet in all turns that lie so far apart.
use Rattle.std.proofs.Common.{◌≡◌, ◌<◌, ℕ, zero, suc, Bool, true, false, refl, ap, sym, arith, ℤ, pos, ◌+ℤ◌, ◌-ℤ◌, ◌*ℤ◌, slice_index}
use Rattle.std.specs.Prelude.{nat_lt, if◌then◌else◌}
use Rattle.std.proofs.lemmas.Bool.Decides.{nat_tests}
use Rattle.std.proofs.lemmas.Int.{ints}
use Rattle.rv64_decode.specs.Area.{bytes_of}
use Rattle.linear_forms.specs.Forms.{LinearForm, exact, stride, weight}
use Rattle.linear_forms.proofs.Sums.{times_plus}
use Rattle.loop_data.specs.declared.accesses.Access.{Access}
use Rattle.distance_vectors.specs.Distances.{Vector, is_common, address_at, ShareByte}
use Rattle.distance_vectors.specs.Turns.{HaveSameShape, entry_at, AreAfter, MeetingLaw}

-- what a level adds to the later address is what it adds to the earlier one, and its stride times the entry
carried : (r s k : ℤ) (t u : ℕ) → r ≡ s → pos u ≡ pos t +ℤ k → s *ℤ pos u ≡ r *ℤ pos t +ℤ s *ℤ k
carried r s k t u e f = rw (e, f) (times_plus s (pos t) k)

-- a stride of a loop that is not there, or that is 0, adds nothing
nothing : (z : ℤ) (place t : ℕ) → (if nat_lt 0 place then z else pos 0) ≡ pos 0 → (place ≡ 0 → t ≡ 0) → z *ℤ pos t ≡ pos 0
nothing z zero t e f = let g = f refl in rw g (omega (arith, ints))
nothing z (suc place) t e f = let b : nat_lt 0 (suc place) ≡ true = grind (arith, nat_tests) in
    let g = rw b at e in
    rw g (omega (arith, ints))

stays : (r s k : ℤ) (t u : ℕ) → r *ℤ pos t ≡ pos 0 → s *ℤ pos u ≡ pos 0 → k ≡ pos 0
    → s *ℤ pos u ≡ r *ℤ pos t +ℤ s *ℤ k
stays r s k t u e f g = rw (e, f, g) (omega (arith, ints))

inner : (a b : Access) (k : Vector) (t u : ℕ → ℕ) (d : ℕ) → 0 < d → d < 3 → HaveSameShape a b → AreAfter a b k t u
    → stride b.form d *ℤ pos (u d) ≡ stride a.form d *ℤ pos (t d) +ℤ stride b.form d *ℤ entry_at k d
inner a b k t u d p q h g = go (is_common a b d) refl
  where
    go : (v : Bool) → is_common a b d ≡ v
        → stride b.form d *ℤ pos (u d) ≡ stride a.form d *ℤ pos (t d) +ℤ stride b.form d *ℤ entry_at k d
    go true e = carried (stride a.form d) (stride b.form d) (entry_at k d) (t d) (u d) (h.common d p q e) (g.common d p q e)
    go false e =
        let n = h.alone d p q e in
        stays (stride a.form d) (stride b.form d) (entry_at k d) (t d) (u d) (nothing (stride a.form d) (slice_index a.around d) (t d) n.0 (g.outside d p q))
        (nothing (stride b.form d) (slice_index b.around d) (u d) n.1 (g.outside_other d p q)) (g.alone d p q e)

-- both addresses are so far from where the vector sees them
moved : (f g : LinearForm) (k : Vector) (entry : ℕ → ℤ) (t u : ℕ → ℕ) → f.terms ≡ g.terms
    → g.first *ℤ pos (u 0) ≡ f.first *ℤ pos (t 0) +ℤ g.first *ℤ k.root
    → g.second *ℤ pos (u 1) ≡ f.second *ℤ pos (t 1) +ℤ g.second *ℤ k.second
    → g.third *ℤ pos (u 2) ≡ f.third *ℤ pos (t 2) +ℤ g.third *ℤ k.third
    → exact g entry u -ℤ exact f entry t ≡ address_at g k -ℤ f.constant
moved f g k entry t u e x y z =
    let w : weight entry f.terms ≡ weight entry g.terms = ap (λ ts. weight entry ts) e in omega (arith, ints)

shared : (x y v w : ℤ) (n m : ℕ) → w -ℤ v ≡ y -ℤ x → ShareByte x n y m → ShareByte v n w m
shared x y v w n m e h = record {
  one = h.one;
  other = h.other;
  one_inside = h.one_inside;
  other_inside = h.other_inside;
  same = let s = h.same in omega (arith, ints);
}

pub meeting_law : MeetingLaw
meeting_law a b h e k entry t u g =
    let d = moved a.form b.form k entry t u e (carried a.form.first b.form.first k.root (t 0) (u 0) h.root g.root)
    (inner a b k t u 1 (omega arith) (omega arith) h g) (inner a b k t u 2 (omega arith) (omega arith) h g) in (
      (λ s. shared a.form.constant (address_at b.form k) (exact a.form entry t) (exact b.form entry u) (bytes_of a.width)
          (bytes_of b.width) d s),
      (λ s. shared (exact a.form entry t) (exact b.form entry u) a.form.constant (address_at b.form k) (bytes_of a.width)
          (bytes_of b.width) (sym d) s),
    )
