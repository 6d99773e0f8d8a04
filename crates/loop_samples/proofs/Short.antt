-- A loop of four words that goes round in order: its first two turns.
use Rattle.std.proofs.Common.{◌≡◌, ℕ, zero, suc, ◌+◌, ◌*◌, ◌/◌, ◌%◌, ◌<◌, ◌≤◌, Bool, true, ◌&&◌, refl, ap, ◌∙◌, arith, ◌==◌}
use native.Mathlib.Decide.{dec_le}
use Rattle.rv64_decode.specs.declared.outcome.Next.TheVariants.{At}
use Rattle.loop_data.specs.Nests.{has}
use Rattle.loop_data.specs.Runs.{State, run, goes_at}
use Rattle.loop_data.specs.Turns.{turn, IsArrival}
use Rattle.loop_data.specs.Independent.{AreTurns}
use Rattle.loop_samples.specs.Samples.{short_loop}
use Rattle.loop_samples.proofs.Visits.{Visit, visit, all_visits, and_true, passes_test, turns_from}
use Rattle.loop_samples.proofs.Tests.{goes_is, eq_from}

abbrev pub regular : ℕ → Visit → Bool
regular n v = (v.turn == n / 4) && goes_at (λ pc. pc == 0x1_0000 + 4 * (n % 4)) v.state.next

body_at : (i : ℕ) → i < 4 → has short_loop.body (0x1_0000 + 4 * i) ≡ true
body_at zero h = refl
body_at (suc zero) h = refl
body_at (suc (suc zero)) h = refl
body_at (suc (suc (suc zero))) h = refl
body_at (suc (suc (suc (suc i)))) h = absurd (omega arith)

module _ (s : State) (all_regular : all_visits regular short_loop 8 0 (visit short_loop s 0) ≡ true) where
  parts : (n : ℕ) → n ≤ 8 → ((turn short_loop s n == n / 4) ≡ true) × (goes_at (λ pc. pc == 0x1_0000 + 4 * (n % 4)) (run s n).next ≡ true)
  parts n h = and_true _ _ (passes_test regular short_loop s 8 n all_regular h)

  turn_at : (n : ℕ) → n ≤ 8 → turn short_loop s n ≡ n / 4
  turn_at n h = eq_from _ _ (parts n h).0

  next_at : (n : ℕ) → n ≤ 8 → (run s n).next ≡ At (0x1_0000 + 4 * (n % 4))
  next_at n h = goes_is _ _ (parts n h).1

  pub last_turn : turn short_loop s 8 ≡ 2
  last_turn = turn_at 8 (omega arith)

  pub early : (n : ℕ) → turn short_loop s n < 2 → n < 8
  early n h = go (dec_le 8 n)
    where
      go : Dec (8 ≤ n) → n < 8
      go (yes a) = let b = turns_from short_loop s 8 n a in let c = last_turn in absurd (omega arith)
      go (no a) = omega arith

  pub arrival : (t : ℕ) → t ≤ 2 → IsArrival short_loop s t (4 * t)
  arrival t h =
      let e : 0x1_0000 + 4 * (4 * t % 4) ≡ 0x1_0000 = omega arith in
      let f : 4 * t / 4 ≡ t = omega arith in
      record { at = next_at (4 * t) (omega arith) ∙ ap At e; turn = turn_at (4 * t) (omega arith) ∙ f }

  pub turns : AreTurns short_loop s 2
  turns =
      record {
        exist = λ t h. (4 * t, arrival t h);
        inside = λ n h. let l = early n h in rw (next_at n (omega arith)) (body_at (n % 4) (omega arith));
        onward = λ n h. let l = early n h in rw (next_at (suc n) (omega arith)) refl;
      }
