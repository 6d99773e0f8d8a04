-- The passes of the loops at a visit, and what one step of the walk makes of them.
use Rattle.std.proofs.Common.{◌≡◌, ◌≢◌, ℕ, zero, suc, ◌<◌, ◌≤◌, ◌⊎◌, inl, inr, true, false, Option, Some, None, refl, ap, sym, ◌∙◌, arith, if◌then◌else◌, ◌==◌, pos, ℤ, ◌+ℤ◌, ◌*ℤ◌}
use Rattle.std.proofs.lemmas.Int.{ints}
use Rattle.rv64_decode.specs.declared.outcome.Next.TheVariants.{At}
use Rattle.linear_forms.specs.Forms.{LinearForm, stride, exact}
use Rattle.linear_forms.proofs.Sums.{times_plus, plus_times}
use Rattle.loop_data.specs.declared.shape.Level.{Level}
use Rattle.loop_data.specs.Nests.{Nest, has, levels, Among, around, IsNest}
use Rattle.loop_data.specs.Passes.{pass, passes}
use Rattle.loop_data.specs.Equations.{plus_constant, with_step}
use Rattle.loop_data.specs.Runs.{State, run, walk, goes_at}
use Rattle.loop_data.specs.Turns.{turn}
use Rattle.loop_data.specs.Holds.{times}
use Rattle.loop_data.proofs.Arounds.{around_is, around_none, time_at}

-- a form has no stride of a depth at which no loop is round the word
abbrev pub Flat : Nest → ℕ → LinearForm → Type 0
Flat N x f = (k : ℕ) → k < 3 → ((l : Level) → Among N l → l.depth ≡ k → has l.body x ≡ false) → stride f k ≡ pos 0

-- a loop of the depth is round the word, or none is
pub around_or : (N : Nest) (k x : ℕ) → ((l : Level) × Among N l × (l.depth ≡ k) × (has l.body x ≡ true)) ⊎ ((l : Level) → Among N l → l.depth ≡ k → has l.body x ≡ false)
around_or N k x = go (around (levels N) k x) refl
  where
    go : (o : Option Level) → around (levels N) k x ≡ o → ((l : Level) × Among N l × (l.depth ≡ k) × (has l.body x ≡ true)) ⊎ ((l : Level) → Among N l → l.depth ≡ k → has l.body x ≡ false)
    go None e = inr (λ l i d. around_none (levels N) k x e l i d)
    go (Some m) e = let r = around_is (levels N) k x m e in inl (m, r.0, r.1, r.2)

same_part : (z : ℤ) (t u : ℕ) → (z ≡ pos 0) ⊎ (t ≡ u) → z *ℤ pos t ≡ z *ℤ pos u
same_part z t u (inl e) = rw e (omega (arith, ints))
same_part z t u (inr e) = ap (λ m. z *ℤ pos m) e

-- the value does not change where each time stays, or has no stride
pub exact_same : (f : LinearForm) (entry : ℕ → ℤ) (t u : ℕ → ℕ) → ((k : ℕ) → k < 3 → (stride f k ≡ pos 0) ⊎ (t k ≡ u k)) → exact f entry t ≡ exact f entry u
exact_same f entry t u h =
    let a = same_part f.first (t 0) (u 0) (h 0 (omega arith)) in
    let b = same_part f.second (t 1) (u 1) (h 1 (omega arith)) in
    let c = same_part f.third (t 2) (u 2) (h 2 (omega arith)) in
    omega (arith, ints)

more_part : (z s : ℤ) (t u : ℕ) → z ≡ s → u ≡ suc t → z *ℤ pos u ≡ z *ℤ pos t +ℤ s
more_part z s t u e f = let a = times_plus z (pos t) (pos 1) in let b : z *ℤ pos u ≡ z *ℤ (pos t +ℤ pos 1) = ap (λ x. z *ℤ x) (omega (arith, ints)) in omega (arith, ints)

-- the value grows by the stride where one time is one more
pub exact_more : (f : LinearForm) (entry : ℕ → ℤ) (t u : ℕ → ℕ) (d : ℕ) (s : ℤ) → d < 3 → stride f d ≡ s → u d ≡ suc (t d) → ((k : ℕ) → k < 3 → k ≢ d → (stride f k ≡ pos 0) ⊎ (t k ≡ u k)) → exact f entry u ≡ exact f entry t +ℤ s
exact_more f entry t u zero s lt e g h =
    let a = more_part f.first s (t 0) (u 0) e g in
    let b = same_part f.second (t 1) (u 1) (h 1 (omega arith) (omega arith)) in
    let c = same_part f.third (t 2) (u 2) (h 2 (omega arith) (omega arith)) in
    omega (arith, ints)
exact_more f entry t u (suc zero) s lt e g h =
    let a = same_part f.first (t 0) (u 0) (h 0 (omega arith) (omega arith)) in
    let b = more_part f.second s (t 1) (u 1) e g in
    let c = same_part f.third (t 2) (u 2) (h 2 (omega arith) (omega arith)) in
    omega (arith, ints)
exact_more f entry t u (suc (suc zero)) s lt e g h =
    let a = same_part f.first (t 0) (u 0) (h 0 (omega arith) (omega arith)) in
    let b = same_part f.second (t 1) (u 1) (h 1 (omega arith) (omega arith)) in
    let c = more_part f.third s (t 2) (u 2) e g in
    omega (arith, ints)
exact_more f entry t u (suc (suc (suc k))) s lt e g h = absurd (omega arith)

pub exact_plus : (f : LinearForm) (z : ℤ) (entry : ℕ → ℤ) (t : ℕ → ℕ) → exact (plus_constant f z) entry t ≡ exact f entry t +ℤ z
exact_plus f z entry t = omega (arith, ints)

pub exact_step : (f : LinearForm) (d : ℕ) (z : ℤ) (entry : ℕ → ℤ) (t : ℕ → ℕ) → d < 3 → exact (with_step f d z) entry t ≡ exact f entry t +ℤ z *ℤ pos (t d)
exact_step f zero z entry t lt = let a = plus_times f.first z (pos (t 0)) in omega (arith, ints)
exact_step f (suc zero) z entry t lt = let a = plus_times f.second z (pos (t 1)) in omega (arith, ints)
exact_step f (suc (suc zero)) z entry t lt = let a = plus_times f.third z (pos (t 2)) in omega (arith, ints)
exact_step f (suc (suc (suc k))) z entry t lt = absurd (omega arith)

pub stride_step_same : (f : LinearForm) (d : ℕ) (z : ℤ) → d < 3 → stride (with_step f d z) d ≡ stride f d +ℤ z
stride_step_same f zero z lt = refl
stride_step_same f (suc zero) z lt = refl
stride_step_same f (suc (suc zero)) z lt = refl
stride_step_same f (suc (suc (suc k))) z lt = absurd (omega arith)

pub stride_step_other : (f : LinearForm) (d k : ℕ) (z : ℤ) → k ≢ d → stride (with_step f d z) k ≡ stride f k
stride_step_other f zero zero z ne = absurd (ne refl)
stride_step_other f zero (suc zero) z ne = refl
stride_step_other f zero (suc (suc zero)) z ne = refl
stride_step_other f zero (suc (suc (suc k))) z ne = refl
stride_step_other f (suc zero) zero z ne = refl
stride_step_other f (suc zero) (suc zero) z ne = absurd (ne refl)
stride_step_other f (suc zero) (suc (suc zero)) z ne = refl
stride_step_other f (suc zero) (suc (suc (suc k))) z ne = refl
stride_step_other f (suc (suc zero)) zero z ne = refl
stride_step_other f (suc (suc zero)) (suc zero) z ne = refl
stride_step_other f (suc (suc zero)) (suc (suc zero)) z ne = absurd (ne refl)
stride_step_other f (suc (suc zero)) (suc (suc (suc k))) z ne = refl
stride_step_other f (suc (suc (suc d))) k z ne = refl

-- the turn is the root's pass, as long as the walk stays in the root
turn_is : (N : Nest) (s : State) (n : ℕ) → ((m : ℕ) → m ≤ n → (run s m).next ≡ At (walk s m)) → ((m : ℕ) → m ≤ n → has N.root.body (walk s m) ≡ true) → turn N.root s n ≡ pass N.root (walk s) n
turn_is N s zero at body = refl
turn_is N s (suc n) at body =
    ap (λ x. if goes_at (λ pc. pc == N.root.header) x then suc (turn N.root s n) else turn N.root s n) (at (suc n) (omega arith))
    ∙ ap (λ t. if walk s (suc n) == N.root.header then suc t else t) (turn_is N s n (λ m le. at m (omega arith)) (λ m le. body m (omega arith)))
    ∙ ap (λ b. if walk s (suc n) == N.root.header then (if b then suc (pass N.root (walk s) n) else 0) else pass N.root (walk s) n) (sym (body n (omega arith)))

-- so a form has the same value at the turn and the passes of the loops inside
pub exact_times : (N : Nest) (s : State) (n : ℕ) (f : LinearForm) (entry : ℕ → ℤ) → IsNest N → ((m : ℕ) → m ≤ n → (run s m).next ≡ At (walk s m)) → ((m : ℕ) → m ≤ n → has N.root.body (walk s m) ≡ true)
    → exact f entry (times N s n) ≡ exact f entry (passes N (walk s) n)
exact_times N s n f entry nest at body = exact_same f entry (times N s n) (passes N (walk s) n) (λ k lt. inr (each k))
  where
    each : (k : ℕ) → times N s n k ≡ passes N (walk s) n k
    each zero =
        turn_is N s n at body ∙ sym (time_at N N.root (walk s) n nest (inl refl) (body n (omega arith))) ∙ ap (λ d. passes N (walk s) n d) nest.bodies.outermost
    each (suc k) = refl
