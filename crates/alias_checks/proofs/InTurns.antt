-- The values of forms from turn to turn.
use Rattle.std.proofs.Common.{◌≡◌, ℕ, zero, suc, ◌-◌, ◌*◌, ◌^◌, ◌<◌, ◌≤◌, List, [], ◌∷◌, refl, ap, sym, ◌∙◌, subst, arith, ℤ, pos, negsuc, ◌+ℤ◌, ◌*ℤ◌, ◌≤ℤ◌, ◌<ℤ◌, FitsSigned, w64, to_z, of_z, slice_index}
use Rattle.std.proofs.lemmas.Int.{ints, to_z-of_z, of_z-to_z}
use Rattle.std.proofs.Math.Nat.{mul-le-mul_left}
use Rattle.std.specs.List.{All}
use Rattle.rv64_decode.specs.Area.{Area}
use Rattle.rv64_decode.specs.Row.{signed64}
use Rattle.linear_forms.specs.Forms.{LinearForm, Alike, weight, exact, value, word_of, stride, IsBounded}
use Rattle.linear_forms.specs.Extremes.{least, most, lowest_shift, highest_shift}
use Rattle.linear_forms.proofs.Sums.{alike_from, alike_trans, alike_add, word_is, word_alike}
use Rattle.linear_forms.proofs.Values.{bits_alike}
use Rattle.loop_data.specs.declared.accesses.Access.{Access}
use Rattle.loop_data.specs.declared.equations.Duty.{Duty}
use Rattle.dependence_tests.specs.Overlaps.{address_in, last_pass, last_round}
use Rattle.alias_checks.specs.Entry.{start_value}
use Rattle.alias_checks.specs.AccessTests.{last_at, AreShifts}
use Rattle.alias_checks.specs.Holds.{DutyHolds, AccessHolds, first_address}
use Rattle.alias_checks.specs.Values.{AreUpTo, IsShort}
use Rattle.alias_checks.proofs.Shifts.{shifts_of}

-- how far the strides take a form in these turns
abbrev pub shift : LinearForm → (ℕ → ℕ) → ℤ
shift f t = f.first *ℤ pos (t 0) +ℤ (f.second *ℤ pos (t 1) +ℤ f.third *ℤ pos (t 2))

-- between two integers
pub record IsWithin (from to z : ℤ) : Type 0 where
  pub low : from ≤ℤ z
  pub high : z ≤ℤ to

stride_within : (z : ℤ) (n t : ℕ) → t ≤ n → IsWithin (least z n) (most z n) (z *ℤ pos t)
stride_within (pos m) n t h =
    let p : m * t ≤ m * n = mul-le-mul_left m h in record { low = omega (arith, ints); high = omega (arith, ints) }
stride_within (negsuc m) n t h =
    let p : suc m * t ≤ suc m * n = mul-le-mul_left (suc m) h in
    record { low = omega (arith, ints); high = omega (arith, ints) }

three_within : (a b c d e f x y z : ℤ) → IsWithin a d x → IsWithin b e y → IsWithin c f z → IsWithin (a +ℤ (b +ℤ c)) (d +ℤ (e +ℤ f)) (x +ℤ (y +ℤ z))
three_within a b c d e f x y z p q r = record { low = omega (arith, ints); high = omega (arith, ints) }

pub shift_within : (f : LinearForm) (last t : ℕ → ℕ) → AreUpTo last t → IsWithin (lowest_shift f last) (highest_shift f last) (shift f t)
shift_within f last t u =
    three_within _ _ _ _ _ _ _ _ _ (stride_within f.first (last 0) (t 0) u.root) (stride_within f.second (last 1) (t 1) u.second) (stride_within f.third (last 2) (t 2) u.third)

-- from turn numbers 0 on
apart : (k w s a b c : ℤ) → k +ℤ w +ℤ s ≡ (k +ℤ w +ℤ (a *ℤ pos 0 +ℤ (b *ℤ pos 0 +ℤ c *ℤ pos 0))) +ℤ s
apart k w s a b c = omega (arith, ints)

pub exact_is : (f : LinearForm) (e : ℕ → ℤ) (t : ℕ → ℕ) → exact f e t ≡ exact f e (λ k. 0) +ℤ shift f t
exact_is f e t = apart f.constant (weight e f.terms) (shift f t) f.first f.second f.third

alike_sym : (a b : ℤ) → Alike a b → Alike b a
alike_sym a b h = let e = h.is in record { turns = negsuc 0 *ℤ h.turns; is = omega (arith, ints) }

bits_below : (z : ℤ) → FitsSigned w64 z → of_z w64 z < 2 ^ 64
bits_below (pos n) f = omega (arith, ints)
bits_below (negsuc n) f = omega (arith, ints)

signed_fits : (w : ℕ) → w < 2 ^ 64 → FitsSigned w64 (to_z w64 w)
signed_fits w h = omega (arith, ints)

word_below : (z : ℤ) → word_of z < 2 ^ 64
word_below (pos n) = omega arith
word_below (negsuc n) = omega arith

-- a word, read as a signed number, is the same modulo 2 ^ 64
signed_alike : (w : ℕ) → w < 2 ^ 64 → Alike (signed64 w) (pos w)
signed_alike w h =
    alike_sym (pos w) (to_z w64 w)
    (subst (λ (n : ℕ). Alike (pos n) (to_z w64 w)) (of_z-to_z w64 w h) (bits_alike (to_z w64 w) (signed_fits w h)))

-- a signed number of 64 bits is what its word is read as
signed_is : (y z : ℤ) → FitsSigned w64 y → Alike y z → signed64 (word_of z) ≡ y
signed_is y z f a =
    let e : of_z w64 y ≡ word_of z = word_is (of_z w64 y) z (bits_below y f) (alike_trans _ _ _ (bits_alike y f) a) in
    ap (λ n. to_z w64 n) (sym e) ∙ to_z-of_z w64 y f

-- and a number of a word is that word
number_is : (y z : ℤ) → pos 0 ≤ℤ y → y <ℤ pos (2 ^ 64) → Alike y z → pos (word_of z) ≡ y
number_is (pos n) z l h a = ap (λ m. pos m) (sym (word_is n z (omega (arith, ints)) a))
number_is (negsuc n) z l h a = absurd (omega (arith, ints))

start_alike : (f : LinearForm) (e : ℕ → ℤ) → Alike (signed64 (start_value f e)) (exact f e (λ k. 0))
unfolding start_value
start_alike f e =
    alike_trans _ _ _ (signed_alike (word_of (exact f e (λ k. 0))) (word_below (exact f e (λ k. 0)))) (word_alike (exact f e (λ k. 0)))

first_alike : (f : LinearForm) (e : ℕ → ℤ) → Alike (pos (start_value f e)) (exact f e (λ k. 0))
unfolding start_value
first_alike f e = word_alike (exact f e (λ k. 0))

moved_alike : (f : LinearForm) (e : ℕ → ℤ) (t : ℕ → ℕ) (y : ℤ) → Alike y (exact f e (λ k. 0)) → Alike (y +ℤ shift f t) (exact f e t)
moved_alike f e t y a =
    subst (λ (z : ℤ). Alike (y +ℤ shift f t) z) (sym (exact_is f e t)) (alike_add _ _ _ _ a (alike_from (shift f t) (shift f t) refl))

short_between : (y l h s : ℤ) → negsuc (2 ^ 31 - 1) ≤ℤ (y +ℤ l) → (y +ℤ h) <ℤ pos (2 ^ 31) → IsWithin l h s → IsShort (y +ℤ s)
short_between y l h s a b w = record { low = omega (arith, ints); high = omega (arith, ints) }

short_fits : (z : ℤ) → IsShort z → FitsSigned w64 z
short_fits z s = omega (arith, ints)

pub values_short : (e : ℕ → ℤ) (last : List ℕ) (d : Duty) → DutyHolds e last d → (t : ℕ → ℕ) → AreUpTo (last_at d.around last) t
    → IsShort (signed64 (value d.form e t))
values_short e last d h t u =
    let y = signed64 (start_value d.form e) in
    let s = short_between y _ _ (shift d.form t) h.low h.high (shift_within d.form (last_at d.around last) t u) in
    subst IsShort (sym (signed_is (y +ℤ shift d.form t) (exact d.form e t) (short_fits _ s) (moved_alike d.form e t y (start_alike d.form e)))) s

-- the turns at which a stride takes a form farthest down, and farthest up
abbrev pub down : ℤ → ℕ → ℕ
down (pos m) n = 0
down (negsuc m) n = n

abbrev pub up : ℤ → ℕ → ℕ
up (pos m) n = n
up (negsuc m) n = 0

down_is : (z : ℤ) (n : ℕ) → (z *ℤ pos (down z n) ≡ least z n) × (down z n ≤ n)
down_is (pos m) n = (omega (arith, ints), omega arith)
down_is (negsuc m) n = (refl, omega arith)

up_is : (z : ℤ) (n : ℕ) → (z *ℤ pos (up z n) ≡ most z n) × (up z n ≤ n)
up_is (pos m) n = (refl, omega arith)
up_is (negsuc m) n = (omega (arith, ints), omega arith)

three_are : (a b c d e f : ℤ) → a ≡ d → b ≡ e → c ≡ f → a +ℤ (b +ℤ c) ≡ d +ℤ (e +ℤ f)
three_are a b c d e f p q r = omega (arith, ints)

lowest_is : (f : LinearForm) (last : ℕ → ℕ) → shift f (λ k. down (stride f k) (last k)) ≡ lowest_shift f last
lowest_is f last =
    three_are _ _ _ _ _ _ (down_is f.first (last 0)).0 (down_is f.second (last 1)).0 (down_is f.third (last 2)).0

highest_is : (f : LinearForm) (last : ℕ → ℕ) → shift f (λ k. up (stride f k) (last k)) ≡ highest_shift f last
highest_is f last =
    three_are _ _ _ _ _ _ (up_is f.first (last 0)).0 (up_is f.second (last 1)).0 (up_is f.third (last 2)).0

small_at : (xs : List ℕ) (i : ℕ) → All (λ n. n < 2 ^ 31) xs → slice_index xs i < 2 ^ 31
small_at [] i a = omega arith
small_at (x ∷ xs) zero a = a 0 0 (omega arith)
small_at (x ∷ xs) (suc i) a = small_at xs i (λ k d h. a (suc k) d (omega arith))

pass_small : (last : List ℕ) (place : ℕ) → All (λ n. n < 2 ^ 31) last → last_pass last place < 2 ^ 31
pass_small last zero a = omega arith
pass_small last (suc place) a = small_at last (suc place) a

pub shifts_at : (f : LinearForm) (around last : List ℕ) → IsBounded f → All (λ n. n < 2 ^ 31) last
    → AreShifts f (last_at around last) (lowest_shift f (last_at around last), highest_shift f (last_at around last))
shifts_at f around last b a =
    shifts_of f (last_at around last) b (small_at last 0 a) (pass_small last (slice_index around 1) a) (pass_small last (slice_index around 2) a)

fits_near : (y s : ℤ) → IsShort y → negsuc (3 * 2 ^ 61 - 1) ≤ℤ s → s ≤ℤ pos (3 * 2 ^ 61) → FitsSigned w64 (y +ℤ s)
fits_near y s h l k = omega (arith, ints)

-- the value in these turns, where the start is short and the shift not far
at_turns : (f : LinearForm) (e : ℕ → ℤ) (t : ℕ → ℕ) (s : ℤ) → IsShort (signed64 (start_value f e)) → shift f t ≡ s → negsuc (3 * 2 ^ 61 - 1) ≤ℤ s → s ≤ℤ pos (3 * 2 ^ 61)
    → IsShort (signed64 (value f e t)) → IsShort (signed64 (start_value f e) +ℤ s)
at_turns f e t s first g l h k =
    let y = signed64 (start_value f e) in
    let fit : FitsSigned w64 (y +ℤ s) = fits_near y s first l h in
    let alike : Alike (y +ℤ s) (exact f e t) = subst (λ (z : ℤ). Alike (y +ℤ z) (exact f e t)) g (moved_alike f e t y (start_alike f e)) in
    subst IsShort (signed_is (y +ℤ s) (exact f e t) fit alike) k

start_short : (f : LinearForm) (e : ℕ → ℤ) → IsShort (signed64 (value f e (λ k. 0))) → IsShort (signed64 (start_value f e))
unfolding start_value
start_short f e h = h

falls_near : (s : ℤ) → s ≤ℤ pos 0 → s ≤ℤ pos (3 * 2 ^ 61)
falls_near s h = omega (arith, ints)

rises_near : (s : ℤ) → pos 0 ≤ℤ s → negsuc (3 * 2 ^ 61 - 1) ≤ℤ s
rises_near s h = omega (arith, ints)

pub duty_from : (e : ℕ → ℤ) (last : List ℕ) (d : Duty) → IsBounded d.form → All (λ n. n < 2 ^ 31) last
    → ((t : ℕ → ℕ) → AreUpTo (last_at d.around last) t → IsShort (signed64 (value d.form e t))) → DutyHolds e last d
duty_from e last d b a h =
    let f = d.form in
    let l = last_at d.around last in
    let none : AreUpTo l (λ k. 0) = record { root = omega arith; second = omega arith; third = omega arith } in
    let first = start_short f e (h (λ k. 0) none) in
    let s = shifts_at f d.around last b a in
    let lows : AreUpTo l (λ k. down (stride f k) (l k)) =
    record { root = (down_is f.first (l 0)).1; second = (down_is f.second (l 1)).1; third = (down_is f.third (l 2)).1 } in
    let highs : AreUpTo l (λ k. up (stride f k) (l k)) =
    record { root = (up_is f.first (l 0)).1; second = (up_is f.second (l 1)).1; third = (up_is f.third (l 2)).1 } in
    let low = at_turns f e (λ k. down (stride f k) (l k)) (lowest_shift f l) first (lowest_is f l) s.falls.0 (falls_near _ s.falls.1) (h _ lows) in
    let high = at_turns f e (λ k. up (stride f k) (l k)) (highest_shift f l) first (highest_is f l) (rises_near _ s.rises.0) s.rises.1 (h _ highs) in
    record { low = low.low; high = high.high }

-- an access that passes its test
not_negative : (n : ℕ) (x y z : ℤ) → pos n ≤ℤ (x +ℤ y) → y ≤ℤ z → pos 0 ≤ℤ (x +ℤ z)
not_negative n x y z h k = omega (arith, ints)

below_words : (n : ℕ) (y z : ℤ) → n < 2 ^ 31 → y ≤ℤ z → z ≤ℤ pos (3 * 2 ^ 61) → (pos n +ℤ y) <ℤ pos (2 ^ 64)
below_words n y z h k l = omega (arith, ints)

pub address_is : (m : List Area) (e : ℕ → ℤ) (last : List ℕ) (a : Access) → IsBounded a.form → All (λ n. n < 2 ^ 31) last → AccessHolds m e last a
    → (t : ℕ → ℕ) → AreUpTo (last_round a last) t → pos (value a.form e t) ≡ address_in a.form (pos (first_address e a)) t
address_is m e last a b s h t u =
    let f = a.form in
    let v : AreUpTo (last_at a.around last) t = record { root = u.root; second = u.second; third = u.third } in
    let w = shift_within f (last_at a.around last) t v in
    let r = shifts_at f a.around last b s in
    number_is (pos (first_address e a) +ℤ shift f t) (exact f e t)
    (not_negative h.lies.area.low (pos (first_address e a)) (lowest_shift f (last_at a.around last)) (shift f t) h.lies.low w.low)
    (below_words (first_address e a) (shift f t) (highest_shift f (last_at a.around last)) h.below w.high r.rises.1)
    (moved_alike f e t (pos (first_address e a)) (first_alike f e))
