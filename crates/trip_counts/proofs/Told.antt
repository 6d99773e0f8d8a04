-- What a trip tells of the operands of the branch: below its number they have the relation, and at it they do not.
use Rattle.std.proofs.Common.{◌≡◌, ℕ, zero, suc, ◌<◌, ◌^◌, Bool, true, false, not, ◌&&◌, Option, Some, None, refl, ap, sym, ◌∙◌, subst, arith, if◌then◌else◌, ◌==◌, nat_lt, int_lt, pos, ℤ, ◌+ℤ◌, ◌-ℤ◌, ◌*ℤ◌}
use Rattle.std.proofs.lemmas.Int.{ints}
use Rattle.std.proofs.lemmas.Bool.Decides.{nat_tests}
use Rattle.rv64_decode.specs.declared.instr.BranchOp.{BranchOp}
use Rattle.rv64_decode.specs.declared.instr.BranchOp.TheVariants.{Beq, Bne, Blt, Bge, Bltu, Bgeu}
use Rattle.rv64_decode.specs.Row.{taken}
use Rattle.linear_forms.specs.Forms.{Alike, LinearForm, is_zero, exact, stride, difference, limited, pure, word_of}
use Rattle.linear_forms.proofs.Sums.{same, alike_from, alike_trans, alike_sym, alike_add, alike_sub, exact-difference, exact-pure, limited_is}
use Rattle.loop_data.specs.declared.trips.Relation.{Relation}
use Rattle.loop_data.specs.declared.trips.Relation.TheVariants.{Differ, Less, AtMost, More, AtLeast}
use Rattle.loop_data.specs.declared.trips.Trip.{Trip}
use Rattle.loop_data.specs.Trips.{stay, is_signed, turned, approaches, is_still, moves_at, trip_toward, or_else, trip_to_zero, trip_between, trip_read, reading, relates, first_value, number_of_stays}
use Rattle.loop_data.proofs.Tests.{eq_of, is_eq, and_true}
use Rattle.loop_data.proofs.FormWords.{Right}
use Rattle.trip_counts.proofs.Readings.{reading_alike, reading_in, alike_equal, wrapped_in, wrapped_alike, zero_is, zero_not, nothing_times, same_words}
use Rattle.trip_counts.proofs.Numbers.{IsOrder, below_count, Counted, counted, at_count, no_zero_before}

-- the value of a form that moves at one depth alone, and of one that does not move
exact_moving : (f : LinearForm) (entry : ℕ → ℤ) (t : ℕ → ℕ) (d : ℕ) → moves_at d f ≡ true → exact f entry t ≡ exact f entry (λ k. 0) +ℤ stride f d *ℤ pos (t d)
exact_moving f entry t zero o = let a = and_true _ _ o in let b = nothing_times f.second (t 1) a.0 in let c = nothing_times f.third (t 2) a.1 in omega (arith, ints)
exact_moving f entry t (suc zero) o = let a = and_true _ _ o in let b = nothing_times f.first (t 0) a.0 in let c = nothing_times f.third (t 2) a.1 in omega (arith, ints)
exact_moving f entry t (suc (suc zero)) o = let a = and_true _ _ o in let b = nothing_times f.first (t 0) a.0 in let c = nothing_times f.second (t 1) a.1 in omega (arith, ints)
exact_moving f entry t (suc (suc (suc d))) o = absurd (cc)

exact_still : (f : LinearForm) (entry : ℕ → ℤ) (t : ℕ → ℕ) → is_still f ≡ true → exact f entry t ≡ exact f entry (λ k. 0)
exact_still f entry t o =
    let a = and_true _ _ o in
    let b = and_true _ _ a.1 in
    let c = nothing_times f.first (t 0) a.0 in
    let d = nothing_times f.second (t 1) b.0 in
    let e = nothing_times f.third (t 2) b.1 in
    omega (arith, ints)

-- a trip toward a bound, with its number
pub record Toward (d : ℕ) (rel : Relation) (signed : Bool) (f g : LinearForm) (entry : ℕ → ℤ) (n : ℕ) : Type 0 where
  pub still : is_still g ≡ true
  pub moves : moves_at d f ≡ true
  pub goes : approaches rel (stride f d) ≡ true
  pub counts : Counted rel signed (first_value signed f entry) (stride f d) (first_value signed g entry) n

toward_is : (d : ℕ) (rel : Relation) (signed : Bool) (f g : LinearForm) (entry : ℕ → ℤ) (n : ℕ) (trip : Trip) → trip_toward d rel signed f g ≡ Some trip → number_of_stays trip entry ≡ Some n → Toward d rel signed f g entry n
toward_is d rel signed f g entry n trip e k = go (is_still g && (moves_at d f && approaches rel (stride f d))) refl e
  where
    made : Trip
    made = record { relation = rel; signed = signed; start = f; bound = g; step = stride f d }

    go : (b : Bool) → (is_still g && (moves_at d f && approaches rel (stride f d))) ≡ b → (if b then Some (record { relation = rel; signed = signed; start = f; bound = g; step = stride f d }) else None) ≡ Some trip → Toward d rel signed f g entry n
    go false h e = absurd (cc)
    go true h e =
        let q : made ≡ trip = cc in
        let a = and_true _ _ h in
        let b = and_true _ _ a.1 in
        record {
          still = a.0;
          moves = b.0;
          goes = b.1;
          counts = counted rel signed (first_value signed f entry) (stride f d) (first_value signed g entry) n (ap (λ (z : Trip). number_of_stays z entry) q ∙ k);
        }

-- the relation between the readings of two words, below a number and at it
pub record Told (rel : Relation) (signed : Bool) (v w t n : ℕ) : Type 0 where
  pub below : t < n → relates rel (reading signed v) (reading signed w) ≡ true
  pub at : t ≡ n → relates rel (reading signed v) (reading signed w) ≡ false

toward_told : (d : ℕ) (rel : Relation) (signed : Bool) (f g : LinearForm) (entry : ℕ → ℤ) (t : ℕ → ℕ) (n v w : ℕ) → IsOrder rel → Toward d rel signed f g entry n → v < 2 ^ 64 → w < 2 ^ 64 → Alike (pos v) (exact f entry t) → Alike (pos w) (exact g entry t)
    → Told rel signed v w (t d) n
toward_told d rel signed f g entry t n v w o k lv lw p q = record { below = below; at = at_number }
  where
    same_w : reading signed w ≡ first_value signed g entry
    same_w =
        alike_equal signed (reading signed w) (first_value signed g entry) (reading_in signed w lw) (wrapped_in signed (exact g entry (λ k. 0)))
        (alike_trans _ _ _ (reading_alike signed w lw) (alike_trans _ _ _ q (alike_trans _ _ _ (alike_from _ _ (exact_still g entry t k.still)) (alike_sym _ _ (wrapped_alike signed (exact g entry (λ k. 0)))))))

    moved : Alike (reading signed v) (first_value signed f entry +ℤ stride f d *ℤ pos (t d))
    moved =
        alike_trans _ _ _ (reading_alike signed v lv)
        (alike_trans _ _ _ p (alike_trans _ _ _ (alike_from _ _ (exact_moving f entry t d k.moves)) (alike_add _ _ _ _ (alike_sym _ _ (wrapped_alike signed (exact f entry (λ k. 0)))) (same _))))

    below : t d < n → relates rel (reading signed v) (reading signed w) ≡ true
    below l =
        let c = k.counts in
        let i = c.is in
        let m = below_count rel signed (first_value signed f entry) (stride f d) (first_value signed g entry) (t d) o (wrapped_in signed (exact f entry (λ k. 0))) (wrapped_in signed (exact g entry (λ k. 0))) k.goes (omega arith) in
        let s : reading signed v ≡ first_value signed f entry +ℤ stride f d *ℤ pos (t d) = alike_equal signed _ _ (reading_in signed v lv) m.inside moved in
        subst (λ z. relates rel z (reading signed w) ≡ true) (sym s) (subst (λ z. relates rel (first_value signed f entry +ℤ stride f d *ℤ pos (t d)) z ≡ true) (sym same_w) m.is)

    at_number : t d ≡ n → relates rel (reading signed v) (reading signed w) ≡ false
    at_number h =
        subst (λ z. relates rel (reading signed v) z ≡ false) (sym same_w)
        (at_count rel signed (first_value signed f entry) (stride f d) (first_value signed g entry) n o k.counts (reading signed v) (wrapped_in signed (exact f entry (λ k. 0))) (reading_in signed v lv)
        (subst (λ i. Alike (reading signed v) (first_value signed f entry +ℤ stride f d *ℤ pos i)) h moved))

-- two words whose difference moves toward 0
zero_told : (d : ℕ) (signed : Bool) (h : LinearForm) (entry : ℕ → ℤ) (t : ℕ → ℕ) (n v w : ℕ) → Toward d Differ true h (pure (pos 0)) entry n → v < 2 ^ 64 → w < 2 ^ 64 → Alike (pos v -ℤ pos w) (exact h entry t) → Told Differ signed v w (t d) n
zero_told d signed h entry t n v w k lv lw p = record { below = apart; at = together }
  where
    bound_is : first_value true (pure (pos 0)) entry ≡ pos 0
    bound_is = ap (λ z. reading true (word_of z)) (exact-pure (pos 0) entry (λ k. 0))

    meets : first_value true h entry +ℤ stride h d *ℤ pos n ≡ pos 0
    meets =
        let c = k.counts in
        let z : first_value true h entry +ℤ stride h d *ℤ pos n -ℤ first_value true (pure (pos 0)) entry ≡ pos 0 = zero_is _ c.ended in
        let b = bound_is in
        omega (arith, ints)

    away : Alike (pos v -ℤ pos w) (first_value true h entry +ℤ stride h d *ℤ pos (t d))
    away =
        alike_trans _ _ _ p
        (alike_trans _ _ _ (alike_from _ _ (exact_moving h entry t d k.moves)) (alike_add _ _ _ _ (alike_sym _ _ (wrapped_alike true (exact h entry (λ k. 0)))) (same _)))

    other : v ≡ w → t d < n → ⊥
    other e l =
        let i : pos 0 ≡ pos v -ℤ pos w = omega (arith, ints) in
        no_zero_before (first_value true h entry) (stride h d) n (t d) (wrapped_in true (exact h entry (λ k. 0))) (zero_not _ k.goes) meets l (alike_trans _ _ _ (alike_from _ _ i) away)

    apart : t d < n → relates Differ (reading signed v) (reading signed w) ≡ true
    apart l = go (v == w) refl
      where
        go : (b : Bool) → (v == w) ≡ b → not (is_zero (reading signed v -ℤ reading signed w)) ≡ true
        go true q = absurd (other (eq_of v w q) l)
        go false q = ap not (same_words signed v w lv lw ∙ q)

    together : t d ≡ n → relates Differ (reading signed v) (reading signed w) ≡ false
    together e =
        let a = subst (λ i. Alike (pos v -ℤ pos w) (first_value true h entry +ℤ stride h d *ℤ pos i)) e away in
        let b : Alike (pos v -ℤ pos w) (pos 0) = alike_trans _ _ _ a (alike_from _ _ meets) in
        let c = b.is in
        let q : v ≡ w = omega (arith, ints) in
        ap not (same_words signed v w lv lw ∙ is_eq v w q)

-- the relation, told of the second operand
turned_is : (rel : Relation) (x y : ℤ) → IsOrder rel → relates (turned rel) y x ≡ relates rel x y
turned_is Differ x y o = absurd o
turned_is Less x y o = refl
turned_is AtMost x y o = refl
turned_is More x y o = refl
turned_is AtLeast x y o = refl

turned_order : (rel : Relation) → IsOrder rel → IsOrder (turned rel)
turned_order Differ o = absurd o
turned_order Less o = tt
turned_order AtMost o = tt
turned_order More o = tt
turned_order AtLeast o = tt

either_told : (d : ℕ) (rel : Relation) (signed : Bool) (f g : LinearForm) (entry : ℕ → ℤ) (t : ℕ → ℕ) (n v w : ℕ) (trip : Trip) → IsOrder rel → or_else (trip_toward d rel signed f g) (trip_toward d (turned rel) signed g f) ≡ Some trip → number_of_stays trip entry ≡ Some n
    → v < 2 ^ 64 → w < 2 ^ 64 → Alike (pos v) (exact f entry t) → Alike (pos w) (exact g entry t) → Told rel signed v w (t d) n
either_told d rel signed f g entry t n v w trip o e k lv lw p q = go (trip_toward d rel signed f g) refl e
  where
    go : (x : Option Trip) → trip_toward d rel signed f g ≡ x → or_else x (trip_toward d (turned rel) signed g f) ≡ Some trip → Told rel signed v w (t d) n
    go (Some made) h e = toward_told d rel signed f g entry t n v w o (toward_is d rel signed f g entry n trip (h ∙ e) k) lv lw p q
    go None h e =
        let r = toward_told d (turned rel) signed g f entry t n w v (turned_order rel o) (toward_is d (turned rel) signed g f entry n trip e k) lw lv q p in
        record {
          below = λ l. sym (turned_is rel (reading signed v) (reading signed w) o) ∙ r.below l;
          at = λ l. sym (turned_is rel (reading signed v) (reading signed w) o) ∙ r.at l;
        }

between_told : (d : ℕ) (rel : Relation) (signed : Bool) (f g : LinearForm) (entry : ℕ → ℤ) (t : ℕ → ℕ) (n v w : ℕ) (trip : Trip) → trip_between d rel signed f g ≡ Some trip → number_of_stays trip entry ≡ Some n → v < 2 ^ 64 → w < 2 ^ 64
    → Alike (pos v) (exact f entry t) → Alike (pos w) (exact g entry t) → Told rel signed v w (t d) n
between_told d Differ signed f g entry t n v w trip e k lv lw p q = go (limited (difference f g)) refl e
  where
    go : (x : Option LinearForm) → limited (difference f g) ≡ x → trip_to_zero d x ≡ Some trip → Told Differ signed v w (t d) n
    go None m e = absurd (cc)
    go (Some h) m e =
        let same_h : exact f entry t -ℤ exact g entry t ≡ exact h entry t = sym (exact-difference f g entry t) ∙ ap (λ x. exact x entry t) (limited_is (difference f g) h m) in
        zero_told d signed h entry t n v w (toward_is d Differ true h (pure (pos 0)) entry n trip e k) lv lw (alike_trans _ _ _ (alike_sub _ _ _ _ p q) (alike_from _ _ same_h))
between_told d Less signed f g entry t n v w trip e k lv lw p q = either_told d Less signed f g entry t n v w trip tt e k lv lw p q
between_told d AtMost signed f g entry t n v w trip e k lv lw p q = either_told d AtMost signed f g entry t n v w trip tt e k lv lw p q
between_told d More signed f g entry t n v w trip e k lv lw p q = either_told d More signed f g entry t n v w trip tt e k lv lw p q
between_told d AtLeast signed f g entry t n v w trip e k lv lw p q = either_told d AtLeast signed f g entry t n v w trip tt e k lv lw p q

-- the branch, taken or not, stays where the relation holds
stay_is : (op : BranchOp) (b : Bool) (rel : Relation) (v w : ℕ) → v < 2 ^ 64 → w < 2 ^ 64 → stay op b ≡ Some rel → relates rel (reading (is_signed op) v) (reading (is_signed op) w) ≡ (if b then taken op v w else not (taken op v w))
stay_is op b rel v w lv lw = go op b
  where
    twice : (c : Bool) → c ≡ not (not c)
    twice true = refl
    twice false = refl

    by : (r : Relation) (signed c : Bool) → Some r ≡ Some rel → relates r (reading signed v) (reading signed w) ≡ c → relates rel (reading signed v) (reading signed w) ≡ c
    by r signed c e h = let q : r ≡ rel = cc in subst (λ z. relates z (reading signed v) (reading signed w) ≡ c) q h

    plain : int_lt (pos v) (pos w) ≡ nat_lt v w
    plain = grind (arith, ints, nat_tests)

    go : (op : BranchOp) (b : Bool) → stay op b ≡ Some rel → relates rel (reading (is_signed op) v) (reading (is_signed op) w) ≡ (if b then taken op v w else not (taken op v w))
    go Beq true e = absurd (cc)
    go Beq false e = by Differ true (not (v == w)) e (ap not (same_words true v w lv lw))
    go Bne true e = by Differ true (not (v == w)) e (ap not (same_words true v w lv lw))
    go Bne false e = absurd (cc)
    go Blt true e = by Less true (taken Blt v w) e refl
    go Blt false e = by AtLeast true (not (taken Blt v w)) e refl
    go Bge true e = by AtLeast true (taken Bge v w) e refl
    go Bge false e = by Less true (not (taken Bge v w)) e (twice _)
    go Bltu true e = by Less false (taken Bltu v w) e plain
    go Bltu false e = by AtLeast false (not (taken Bltu v w)) e (ap not plain)
    go Bgeu true e = by AtLeast false (taken Bgeu v w) e (ap not plain)
    go Bgeu false e = by Less false (not (taken Bgeu v w)) e (plain ∙ twice _)

-- whether the branch stays, below the number of a trip and at it
pub record Turns (op : BranchOp) (b : Bool) (v w t n : ℕ) : Type 0 where
  pub below : t < n → (if b then taken op v w else not (taken op v w)) ≡ true
  pub at : t ≡ n → (if b then taken op v w else not (taken op v w)) ≡ false

pub trip_told : (d : ℕ) (op : BranchOp) (b : Bool) (o p : Option LinearForm) (entry : ℕ → ℤ) (t : ℕ → ℕ) (n v w : ℕ) (trip : Trip) → trip_read d (stay op b) (is_signed op) o p ≡ Some trip → number_of_stays trip entry ≡ Some n → v < 2 ^ 64 → w < 2 ^ 64
    → Right entry t v o → Right entry t w p → Turns op b v w (t d) n
trip_told d op b o p entry t n v w trip e k lv lw x y = go (stay op b) o p refl e x y
  where
    go : (r : Option Relation) (o p : Option LinearForm) → stay op b ≡ r → trip_read d r (is_signed op) o p ≡ Some trip → Right entry t v o → Right entry t w p → Turns op b v w (t d) n
    go None o p h e x y = absurd (cc)
    go (Some rel) None p h e x y = absurd (cc)
    go (Some rel) (Some f) None h e x y = absurd (cc)
    go (Some rel) (Some f) (Some g) h e x y =
        let r = between_told d rel (is_signed op) f g entry t n v w trip e k lv lw (x f refl) (y g refl) in
        let s = stay_is op b rel v w lv lw h in
        record { below = λ l. sym s ∙ r.below l; at = λ l. sym s ∙ r.at l }
