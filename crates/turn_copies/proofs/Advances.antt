-- The locations that move on at the first turn of a block, and the registers that added code works with.
use Rattle.std.proofs.Common.{◌≡◌, ◌≢◌, ℕ, zero, suc, ◌+◌, ◌*◌, ◌<◌, ◌≤◌, ◌^◌, ◌%◌, refl, sym, subst, ap, ◌∙◌, arith, ℤ, pos, Option, Some, None, Bool, true, false, List, [], ◌∷◌, ◌⊎◌, inl, inr}
use Rattle.std.specs.Prelude.{◌==◌, if◌then◌else◌, nat_lt}
use Rattle.std.proofs.lemmas.Bool.{cases_lt}
use Rattle.std.proofs.lemmas.Bool.Decides.{nat_tests}
use Rattle.rv64_decode.specs.declared.instr.AluOp.TheVariants.{Add, Mul}
use Rattle.rv64_decode.specs.declared.instr.ImmOp.TheVariants.{Addi, Addiw}
use Rattle.rv64_decode.specs.Hart.{address, fetched}
use Rattle.loop_data.specs.Independent.{Role, Keeps, Moves, Private}
use Rattle.stub_laws.specs.Locations.{slot_of}
use Rattle.stub_laws.specs.Places.{behind}
use Rattle.stub_laws.specs.Straight.{read, put, all_registers}
use Rattle.stub_laws.proofs.Known.{seen, Knows}
use Rattle.stub_laws.proofs.Steps.{World, Wins, behind-append, alu_law, imm_law, lui_law, put_law, get_law}
use Rattle.stub_laws.proofs.Tests.{Each}
use Rattle.check_numbers.specs.Parts.{bits, high_part, low_part}
use Rattle.check_numbers.specs.Sums.{IsShort}
use Rattle.check_numbers.proofs.Parts.{parts}
use Rattle.loop_data.proofs.Tests.{eq_of, ne_of, is_ne}
use Rattle.turn_copies.specs.Copies.{Placed}
use Rattle.turn_copies.specs.StubCode.{Moving, with_moving, movings_from, movings, taken_from, put_into, advance_code, advances_code, restore_code}
use Rattle.turn_copies.specs.Regions.{CanMove}
use Rattle.turn_copies.proofs.Following.{placed_front, placed_back}
use Rattle.turn_copies.proofs.Forks.{NoTemporary, no_temporary, Forked}

abbrev pub stepped : ℕ → ℤ → ℕ → ℕ
stepped v step t = (v + bits step * t % 2 ^ 64) % 2 ^ 64

-- the locations at arrival t
abbrev pub advanced : (ℕ → ℕ) → List Moving → ℕ → ℕ → ℕ
advanced e [] t = e
advanced e (x ∷ xs) t = advanced (put e x.loc (stepped (e x.loc) x.step t)) xs t

-- registers and the slots of cells
abbrev pub is_low : ℕ → Bool
is_low loc = nat_lt loc 48

low_of : (loc : ℕ) → is_low loc ≡ true → loc < 48
low_of loc h = grind (arith, nat_tests)

abbrev loc_of : ℕ → ℕ
loc_of s =
    if s == 16 then 5 else if s == 17 then 6 else if s == 18 then 7 else if s == 19 then 28 else if s == 20 then 29 else if s == 21 then 30 else if s == 22 then 31 else 32 + s

slot_back : (a s : ℕ) → a < 48 → slot_of a ≡ Some s → a ≡ loc_of s
slot_back a s h e = grind (arith, nat_tests)

slot_below : (a s : ℕ) → a < 48 → slot_of a ≡ Some s → (s == 28) ≡ false
slot_below a s h e = grind (arith, nat_tests)

-- a location that moves on
pub record Fit (x : Moving) : Type 0 where
  pub nonzero : x.loc ≢ 0
  pub low : x.loc < 48
  pub short : IsShort x.step

small_put : (e : ℕ → ℕ) (loc v : ℕ) → v < 2 ^ 64 → ((q : ℕ) → e q < 2 ^ 64) → (q : ℕ) → put e loc v q < 2 ^ 64
small_put e loc v h k q = by_test (q == loc) refl
  where
    by_test : (t : Bool) → (q == loc) ≡ t → put e loc v q < 2 ^ 64
    by_test true x = rw x h
    by_test false x = rw x (k q)

knows_register : (e f f' g : ℕ → ℕ) (v loc q : ℕ) (t : Bool) (o : Option ℕ) → ((r : ℕ) → NoTemporary r → read f' r ≡ read f r) → seen f g q o ≡ e q → loc ≢ 0 → slot_of loc ≡ None → (q == loc) ≡ t → slot_of q ≡ o → seen (put f' loc v) g q o ≡ put e loc v q
knows_register e f f' g v loc q true o outer here nonzero none same is =
    let i = eq_of q loc same in
    let n : o ≡ None = sym is ∙ ap slot_of i ∙ none in
    let z = is_ne q 0 (λ y. nonzero (sym i ∙ y)) in
    rw (n, same, z) refl
knows_register e f f' g v loc q false None outer here nonzero none same is = rw same (outer q (no_temporary q is) ∙ here)
knows_register e f f' g v loc q false (Some s) outer here nonzero none same is = rw same here

knows_kept : (e f f' g : ℕ → ℕ) (v loc s q : ℕ) (t : Bool) (o : Option ℕ) → ((r : ℕ) → NoTemporary r → read f' r ≡ read f r) → seen f g q o ≡ e q → loc < 48 → q < 48 → slot_of loc ≡ Some s → (q == loc) ≡ t → slot_of q ≡ o → seen f' (put g s v) q o ≡ put e loc v q
knows_kept e f f' g v loc s q true o outer here low low' slot same is =
    let i = eq_of q loc same in
    let n : o ≡ Some s = sym is ∙ ap slot_of i ∙ slot in
    let z : (s == s) ≡ true = grind (arith, nat_tests) in
    rw (n, same, z) refl
knows_kept e f f' g v loc s q false None outer here low low' slot same is = rw same (outer q (no_temporary q is) ∙ here)
knows_kept e f f' g v loc s q false (Some r) outer here low low' slot same is =
    let z : (r == s) ≡ false = other q loc r s low' low is slot same in
    rw (same, z) here
  where
    other : (q loc r s : ℕ) → q < 48 → loc < 48 → slot_of q ≡ Some r → slot_of loc ≡ Some s → (q == loc) ≡ false → (r == s) ≡ false
    other q loc r s a b c d n = by_test (r == s) refl
      where
        by_test : (t : Bool) → (r == s) ≡ t → (r == s) ≡ false
        by_test false x = x
        by_test true x = absurd (ne_of q loc n (slot_back q r a c ∙ ap loc_of (eq_of r s x) ∙ sym (slot_back loc s b d)))

-- registers x5 and x6 on the way
abbrev worked : (ℕ → ℕ) → ℕ → ℕ → ℕ → ℕ → ℕ → ℕ → ℕ
worked f a b high m v = put (put (put (put (put f 5 a) 6 high) 6 b) 6 m) 5 v

module _ (w : World) where
  -- the value of a location into x5
  taken_law : (p : ℕ) (e f g : ℕ → ℕ) (loc : ℕ) → Knows is_low e f g → is_low loc ≡ true → fetched w.code (address p) ≡ Some (taken_from 5 loc (slot_of loc)) → Wins w (suc p) (put f 5 (e loc)) g → Wins w p f g
  taken_law p e f g loc k low here h = by_slot (slot_of loc) refl
    where
      plain : (v : ℕ) → v < 2 ^ 64 → (v + 0) % 2 ^ 64 ≡ v
      plain v lt = omega arith

      by_slot : (o : Option ℕ) → slot_of loc ≡ o → Wins w p f g
      by_slot None is =
          let v : (read f loc + 0) % 2 ^ 64 ≡ e loc = ap (λ x. (x + 0) % 2 ^ 64) (ap (seen f g loc) (sym is) ∙ k.each loc low) ∙ plain (e loc) (k.small loc) in
          imm_law w p f g Addi 5 loc (pos 0) (here ∙ ap (λ o. Some (taken_from 5 loc o)) is) (subst (λ x. Wins w (suc p) (put f 5 x) g) (sym v) h)
      by_slot (Some s) is =
          let v : g s ≡ e loc = ap (seen f g loc) (sym is) ∙ k.each loc low in
          get_law w p f g 5 s (here ∙ ap (λ o. Some (taken_from 5 loc o)) is) (subst (λ x. Wins w (suc p) (put f 5 x) g) (sym v) h)

  -- one location
  advance_law : (p first : ℕ) (e f g : ℕ → ℕ) (x : Moving) → Knows is_low e f g → Fit x → read f 29 ≡ first → Placed w.code p (advance_code x)
      → ((f' g' : ℕ → ℕ) → Knows is_low (put e x.loc (stepped (e x.loc) x.step first)) f' g' → read f' 29 ≡ first → g' 28 ≡ g 28 → Wins w (behind p (advance_code x)) f' g') → Wins w p f g
  advance_law p first e f g x k fit at has next =
      let f1 = put f 5 (e x.loc) in
      let high = bits (high_part x.step) in
      let f2 = put f1 6 high in
      let m = bits x.step * read f 29 % 2 ^ 64 in
      let v = (e x.loc + m) % 2 ^ 64 in
      let is : v ≡ stepped (e x.loc) x.step first = ap (λ y. (e x.loc + bits x.step * y % 2 ^ 64) % 2 ^ 64) at in
      let small : v < 2 ^ 64 = omega arith in
      taken_law p e f g x.loc k (low_is x.loc fit.low) has.0
      (lui_law w (suc p) f1 g 6 (high_part x.step) has.1.0
      (imm_law w (suc (suc p)) f2 g Addiw 6 6 (low_part x.step) has.1.1.0
      (subst (λ y. Wins w (suc (suc (suc p))) (put f2 6 y) g) (sym (parts x.step fit.short))
      (alu_law w (suc (suc (suc p))) (put f2 6 (bits x.step)) g Mul 6 6 29 has.1.1.1.0
      (alu_law w (suc (suc (suc (suc p)))) (put (put f2 6 (bits x.step)) 6 m) g Add 5 5 6 has.1.1.1.1.0
      (by_slot (slot_of x.loc) refl high m v is small has.1.1.1.1.1.0))))))
    where
      low_is : (loc : ℕ) → loc < 48 → is_low loc ≡ true
      low_is loc h = grind (arith, nat_tests)

      by_slot : (o : Option ℕ) → slot_of x.loc ≡ o → (high m v : ℕ) → v ≡ stepped (e x.loc) x.step first → v < 2 ^ 64 → fetched w.code (address (suc (suc (suc (suc (suc p)))))) ≡ Some (put_into x.loc (slot_of x.loc))
          → Wins w (suc (suc (suc (suc (suc p))))) (worked f (e x.loc) (bits x.step) high m v) g
      by_slot None slot high m v is small here =
          let u = (v + 0) % 2 ^ 64 in
          let u_is : u ≡ v = omega arith in
          let not29 : (29 == x.loc) ≡ false = other x.loc slot in
          imm_law w (suc (suc (suc (suc (suc p))))) (worked f (e x.loc) (bits x.step) high m v) g Addi x.loc 5 (pos 0) (here ∙ ap (λ o. Some (put_into x.loc o)) slot)
          (next (put (worked f (e x.loc) (bits x.step) high m v) x.loc u) g
          (record {
            each = λ q known_q. ap (λ z. seen (put (worked f (e x.loc) (bits x.step) high m v) x.loc z) g q (slot_of q)) (u_is ∙ is) ∙ knows_register e f (worked f (e x.loc) (bits x.step) high m v) g (stepped (e x.loc) x.step first) x.loc q (q == x.loc) (slot_of q) (λ r y. rw (y.five, y.six) refl) (k.each q known_q) fit.nonzero slot refl refl;
            small = small_put e x.loc (stepped (e x.loc) x.step first) (omega (arith, is)) k.small;
          })
          (rw not29 at) refl)
        where
          other : (loc : ℕ) → slot_of loc ≡ None → (29 == loc) ≡ false
          other loc h = grind (arith, nat_tests)
      by_slot (Some s) slot high m v is small here =
          put_law w (suc (suc (suc (suc (suc p))))) (worked f (e x.loc) (bits x.step) high m v) g s 5 (here ∙ ap (λ o. Some (put_into x.loc o)) slot)
          (next (worked f (e x.loc) (bits x.step) high m v) (put g s v)
          (record {
            each = λ q known_q. ap (λ z. seen (worked f (e x.loc) (bits x.step) high m v) (put g s z) q (slot_of q)) is ∙ knows_kept e f (worked f (e x.loc) (bits x.step) high m v) g (stepped (e x.loc) x.step first) x.loc s q (q == x.loc) (slot_of q) (λ r y. rw (y.five, y.six) refl) (k.each q known_q) fit.low (low_of q known_q) slot refl refl;
            small = small_put e x.loc (stepped (e x.loc) x.step first) (omega (arith, is)) k.small;
          })
          at (rw (not28 s (slot_below x.loc s fit.low slot)) refl))
        where
          not28 : (s : ℕ) → (s == 28) ≡ false → (28 == s) ≡ false
          not28 s h = grind (arith, nat_tests)

  pub advances_law : (xs : List Moving) (p first : ℕ) (e f g : ℕ → ℕ) → Knows is_low e f g → Each Fit xs → read f 29 ≡ first → Placed w.code p (advances_code xs)
      → ((f' g' : ℕ → ℕ) → Knows is_low (advanced e xs first) f' g' → g' 28 ≡ g 28 → Wins w (behind p (advances_code xs)) f' g') → Wins w p f g
  advances_law [] p first e f g k fits at has next = next f g k refl
  advances_law (x ∷ xs) p first e f g k fits at has next =
      advance_law p first e f g x k fits.0 at (placed_front w.code p (advance_code x) (advances_code xs) has)
      (λ f' g' k' at' same. advances_law xs (behind p (advance_code x)) first (put e x.loc (stepped (e x.loc) x.step first)) f' g' k' fits.1 at' (placed_back w.code p (advance_code x) (advances_code xs) has)
      (λ f'' g'' k'' same'. subst (λ n. Wins w n f'' g'') (behind-append p (advance_code x) (advances_code xs)) (next f'' g'' k'' (same' ∙ same))))

-- ---- all that move on, in order of their numbers

-- a value after so many steps
abbrev pub moved_on : Role → ℕ → ℕ → ℕ
moved_on (Moves step) v t = stepped v step t
moved_on Keeps v t = v
moved_on Private v t = v

not_below : (e : ℕ → ℕ) (loc v r : ℕ) → loc < r → put e loc v r ≡ e r
not_below e loc v r h = let n : (r == loc) ≡ false = grind (arith, nat_tests) in rw n refl

-- those from a number on leave what is below it
left_below : (roles : ℕ → Role) (n loc t r : ℕ) (e : ℕ → ℕ) → r < loc → advanced e (movings_from roles loc n) t r ≡ e r
left_below roles zero loc t r e h = refl
left_below roles (suc n) loc t r e h = go (roles loc) (λ e'. left_below roles n (suc loc) t r e' (omega arith))
  where
    go : (x : Role) → ((e' : ℕ → ℕ) → advanced e' (movings_from roles (suc loc) n) t r ≡ e' r) → advanced e (with_moving x loc (movings_from roles (suc loc) n)) t r ≡ e r
    go (Moves step) later = later (put e loc (stepped (e loc) step t)) ∙ (let k : (r == loc) ≡ false = grind (arith, nat_tests) in rw k refl)
    go Keeps later = later e
    go Private later = later e

moved_from : (roles : ℕ → Role) (n loc t r : ℕ) (e : ℕ → ℕ) → loc ≤ r → r < loc + n → advanced e (movings_from roles loc n) t r ≡ moved_on (roles r) (e r) t
moved_from roles zero loc t r e h k = absurd (omega arith)
moved_from roles (suc n) loc t r e h k = by (cases_lt loc r) (λ e' low. moved_from roles n (suc loc) t r e' low (omega arith))
  where
    here : loc ≡ r → (x : Role) → roles r ≡ x → advanced e (with_moving x loc (movings_from roles (suc loc) n)) t r ≡ moved_on x (e r) t
    here same (Moves step) q =
        left_below roles n (suc loc) t r (put e loc (stepped (e loc) step t)) (omega arith)
        ∙ (let z : (r == loc) ≡ true = grind (arith, nat_tests) in rw z (ap (λ y. stepped (e y) step t) same))
    here same Keeps q = left_below roles n (suc loc) t r e (omega arith)
    here same Private q = left_below roles n (suc loc) t r e (omega arith)

    there : loc < r → (x : Role) → ((e' : ℕ → ℕ) → advanced e' (movings_from roles (suc loc) n) t r ≡ moved_on (roles r) (e' r) t) → advanced e (with_moving x loc (movings_from roles (suc loc) n)) t r ≡ moved_on (roles r) (e r) t
    there lt (Moves step) later = later (put e loc (stepped (e loc) step t)) ∙ ap (λ y. moved_on (roles r) y t) (not_below e loc (stepped (e loc) step t) r lt)
    there lt Keeps later = later e
    there lt Private later = later e

    by : (loc < r) ⊎ (r ≤ loc) → ((e' : ℕ → ℕ) → suc loc ≤ r → advanced e' (movings_from roles (suc loc) n) t r ≡ moved_on (roles r) (e' r) t) → advanced e (with_moving (roles loc) loc (movings_from roles (suc loc) n)) t r ≡ moved_on (roles r) (e r) t
    by (inl lt) later = there lt (roles loc) (λ e'. later e' (omega arith))
    by (inr ge) later =
        let same : loc ≡ r = omega arith in
        ap (λ x. advanced e (with_moving x loc (movings_from roles (suc loc) n)) t r) (ap roles same) ∙ here same (roles r) refl

pub moved_all : (roles : ℕ → Role) (t r : ℕ) (e : ℕ → ℕ) → r < 48 → advanced e (movings roles) t r ≡ moved_on (roles r) (e r) t
moved_all roles t r e h = moved_from roles 48 0 t r e (omega arith) (omega arith)

fits_from : (roles : ℕ → Role) → CanMove roles → (n loc : ℕ) → Each Fit (movings_from roles loc n)
fits_from roles can zero loc = tt
fits_from roles can (suc n) loc = go (roles loc) refl (fits_from roles can n (suc loc))
  where
    go : (x : Role) → roles loc ≡ x → Each Fit (movings_from roles (suc loc) n) → Each Fit (with_moving x loc (movings_from roles (suc loc) n))
    go (Moves step) e later = let h = can.each loc step e in (record { nonzero = h.0; low = h.1; short = h.2 }, later)
    go Keeps e later = later
    go Private e later = later

pub fits_all : (roles : ℕ → Role) → CanMove roles → Each Fit (movings roles)
fits_all roles can = fits_from roles can 48 0

-- ---- the registers of added code back from their slots

abbrev pub back_again : (ℕ → ℕ) → (ℕ → ℕ) → ℕ → ℕ
back_again f g = all_registers restore_code f g

other_slot : (r : ℕ) → NoTemporary r → r < 32 → slot_of r ≡ None
other_slot r x h =
    let l : nat_lt r 32 ≡ true = grind (arith, nat_tests) in
    rw (x.five, x.six, x.seven, x.x28, x.x29, x.x30, x.x31, l) refl

pub restored : (f g : ℕ → ℕ) (r : ℕ) → r < 32 → read (back_again f g) r ≡ seen f g r (slot_of r)
restored f g r h = by_test (r == 5) (r == 6) (r == 7) (r == 28) (r == 29) (r == 30) (r == 31) refl refl refl refl refl refl refl
  where
    at : (n : ℕ) → (r == n) ≡ true → read (back_again f g) n ≡ seen f g n (slot_of n) → read (back_again f g) r ≡ seen f g r (slot_of r)
    at n e h = subst (λ x. read (back_again f g) x ≡ seen f g x (slot_of x)) (sym (eq_of r n e)) h

    by_test : (a b c d i j k : Bool) → (r == 5) ≡ a → (r == 6) ≡ b → (r == 7) ≡ c → (r == 28) ≡ d → (r == 29) ≡ i → (r == 30) ≡ j → (r == 31) ≡ k → read (back_again f g) r ≡ seen f g r (slot_of r)
    by_test true b c d i j k x5 x6 x7 x28 x29 x30 x31 = at 5 x5 refl
    by_test false true c d i j k x5 x6 x7 x28 x29 x30 x31 = at 6 x6 refl
    by_test false false true d i j k x5 x6 x7 x28 x29 x30 x31 = at 7 x7 refl
    by_test false false false true i j k x5 x6 x7 x28 x29 x30 x31 = at 28 x28 refl
    by_test false false false false true j k x5 x6 x7 x28 x29 x30 x31 = at 29 x29 refl
    by_test false false false false false true k x5 x6 x7 x28 x29 x30 x31 = at 30 x30 refl
    by_test false false false false false false true x5 x6 x7 x28 x29 x30 x31 = at 31 x31 refl
    by_test false false false false false false false x5 x6 x7 x28 x29 x30 x31 =
        let n = other_slot r (record { five = x5; six = x6; seven = x7; x28 = x28; x29 = x29; x30 = x30; x31 = x31 }) h in
        ap (λ z. if r == 0 then 0 else z) (rw (x5, x6, x7, x28, x29, x30, x31) refl) ∙ sym (ap (seen f g r) n)

-- what was known at the fork is known behind it
pub forked_knows : (turns number harts : ℕ) (e f g f' g' : ℕ → ℕ) → Knows is_low e f g → Forked turns number harts f g f' g' → Knows is_low e f' g'
forked_knows turns number harts e f g f' g' k h = record { each = λ loc n. by_slot loc (slot_of loc) refl (low_of loc n) (k.each loc n); small = k.small }
  where
    by_slot : (loc : ℕ) (o : Option ℕ) → slot_of loc ≡ o → loc < 48 → seen f g loc (slot_of loc) ≡ e loc → seen f' g' loc (slot_of loc) ≡ e loc
    by_slot loc None is low here = ap (seen f' g' loc) is ∙ h.registers loc is ∙ sym (ap (seen f g loc) is) ∙ here
    by_slot loc (Some s) is low here = ap (seen f' g' loc) is ∙ h.slots s (slot_below loc s low is) ∙ sym (ap (seen f g loc) is) ∙ here
