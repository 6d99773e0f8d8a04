-- The loop that spins: its first turn has no end.
use Rattle.std.proofs.Common.{◌≡◌, ℕ, zero, suc, false, refl, ap, ◌∙◌, ◌==◌, arith}
use Rattle.loop_data.specs.Runs.{step, run, goes_at}
use Rattle.loop_data.specs.Turns.{arrives, turn}
use Rattle.loop_data.specs.Independent.{AreTurns}
use Rattle.loop_samples.specs.SpinLoop.{spin_loop, spinning}
use Rattle.loop_samples.proofs.Visits.{turn_elsewhere}

again : step (run spinning 1) ≡ run spinning 1
unfolding step
again = refl

stays : (n : ℕ) → run spinning (suc n) ≡ run spinning 1
stays zero = refl
stays (suc n) = ap step (stays n) ∙ again

elsewhere : arrives spin_loop spinning 1 ≡ false
unfolding step
elsewhere = refl

no_arrival : (n : ℕ) → arrives spin_loop spinning (suc n) ≡ false
no_arrival n = ap (λ r. goes_at (λ pc. pc == 0x1_0000) r.next) (stays n) ∙ elsewhere

first_turn : (n : ℕ) → turn spin_loop spinning n ≡ 0
first_turn zero = refl
first_turn (suc n) = turn_elsewhere spin_loop spinning n (no_arrival n) ∙ first_turn n

pub not_one : AreTurns spin_loop spinning 1 → ⊥
not_one a =
    let x = a.exist 1 (omega arith) in
    let e = first_turn x.0 in let f = (x.1).turn in absurd (omega arith)
