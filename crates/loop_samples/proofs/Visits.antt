-- Tests of the visits of a run, which the checker computes.
use Rattle.std.proofs.Common.{◌≡◌, ℕ, zero, suc, ◌+◌, ◌-◌, ◌<◌, ◌≤◌, List, [], ◌∷◌, Bool, true, false, ◌&&◌, refl, subst, arith, if◌then◌else◌, ◌==◌, add-zero, add-suc}
use native.Mathlib.Decide.{dec_le}
use Rattle.loop_data.specs.declared.shape.Level.{Level}
use Rattle.loop_data.specs.Runs.{State, step, run, pc_in, goes_at}
use Rattle.loop_data.specs.Turns.{arrives, turn, seen}

-- a state of a run, its turn, and the words that this turn has executed before
pub record Visit : Type 0 where
  pub state : State
  pub turn : ℕ
  pub seen : List ℕ

abbrev pub visit : Level → State → ℕ → Visit
visit l s n = record { state = run s n; turn = turn l s n; seen = seen l s n }

abbrev pub next_visit : Level → Visit → Visit
next_visit l v =
    let t = step v.state in
    let again = goes_at (λ pc. pc == l.header) t.next in
    record { state = t; turn = if again then suc v.turn else v.turn; seen = if again then [] else pc_in v.state.next ∷ v.seen }

-- the test holds of a visit with number m and of so many after it
abbrev pub all_visits : (ℕ → Visit → Bool) → Level → ℕ → ℕ → Visit → Bool
all_visits p l zero m v = p m v
all_visits p l (suc k) m v = p m v && all_visits p l k (suc m) (next_visit l v)

pub and_true : (a b : Bool) → (a && b) ≡ true → (a ≡ true) × (b ≡ true)
and_true true b e = (refl, e)
and_true false b e = absurd (cc)

-- each of these visits passes the test
later : (p : ℕ → Visit → Bool) (l : Level) (s : State) (k m n : ℕ) → all_visits p l k m (visit l s m) ≡ true → m ≤ n → n ≤ m + k → p n (visit l s n) ≡ true
later p l s zero m n e h g = subst (λ x. p x (visit l s x) ≡ true) (omega arith) e
later p l s (suc k) m n e h g =
    let q = and_true (p m (visit l s m)) (all_visits p l k (suc m) (visit l s (suc m))) e in
    go (dec_le (suc m) n) q.0 (λ h2. later p l s k (suc m) n q.1 h2 (omega arith))
  where
    go : Dec (suc m ≤ n) → p m (visit l s m) ≡ true → (suc m ≤ n → p n (visit l s n) ≡ true) → p n (visit l s n) ≡ true
    go (yes h2) a b = b h2
    go (no h2) a b = subst (λ x. p x (visit l s x) ≡ true) (omega arith) a

pub passes_test : (p : ℕ → Visit → Bool) (l : Level) (s : State) (k n : ℕ) → all_visits p l k 0 (visit l s 0) ≡ true → n ≤ k → p n (visit l s n) ≡ true
passes_test p l s k n e h = later p l s k 0 n e (omega arith) (omega arith)

-- turns do not fall, and rise at arrivals
pub turn_rises : (l : Level) (s : State) (n : ℕ) → turn l s n ≤ turn l s (suc n)
turn_rises l s n = go (arrives l s (suc n))
  where
    go : (b : Bool) → turn l s n ≤ (if b then suc (turn l s n) else turn l s n)
    go true = omega arith
    go false = omega arith

pub turn_at_arrival : (l : Level) (s : State) (n : ℕ) → arrives l s (suc n) ≡ true → turn l s (suc n) ≡ suc (turn l s n)
turn_at_arrival l s n e = rw e refl

pub turn_elsewhere : (l : Level) (s : State) (n : ℕ) → arrives l s (suc n) ≡ false → turn l s (suc n) ≡ turn l s n
turn_elsewhere l s n e = rw e refl

pub turns_rise : (l : Level) (s : State) (m k : ℕ) → turn l s m ≤ turn l s (m + k)
turns_rise l s m zero = rw add-zero (omega arith)
turns_rise l s m (suc k) = let a = turns_rise l s m k in let b = turn_rises l s (m + k) in rw add-suc (omega arith)

pub turns_from : (l : Level) (s : State) (m n : ℕ) → m ≤ n → turn l s m ≤ turn l s n
turns_from l s m n h = let e : m + (n - m) ≡ n = omega arith in subst (λ x. turn l s m ≤ turn l s x) e (turns_rise l s m (n - m))

-- an arrival after visit m is of a later turn
pub later_arrival : (l : Level) (s : State) (m n : ℕ) → m < n → arrives l s n ≡ true → turn l s m < turn l s n
later_arrival l s m zero h e = absurd (omega arith)
later_arrival l s m (suc n) h e =
    let a = turn_at_arrival l s n e in
    let b = turns_from l s m n (omega arith) in
    omega arith
