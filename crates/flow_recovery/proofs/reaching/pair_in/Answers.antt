use Rattle.std.proofs.Common.{◌≡◌, ◌⊎◌, inl, inr, ℕ, Option, None, Contains, sym, refl, ◌∙◌}
use Rattle.loop_data.specs.Targets.{before, pair_at}
use Rattle.flow_recovery.proofs.Found.{decide}
use Rattle.flow_recovery.proofs.reaching.pair_in.Goals as goal

pub returns-in-None : goal.returns-in-None
returns-in-None c = by (decide c.args.found.now.keys (before c.args.at))
  where
    by : Contains c.args.found.now.keys (before c.args.at) ⊎ ¬ Contains c.args.found.now.keys (before c.args.at) → (Contains c.args.found.now.keys (before c.args.at) × (◌≡◌ {A = Option ℕ} None (pair_at c.args.elf.now c.args.at))) ⊎ (¬ Contains c.args.found.now.keys (before c.args.at) × (◌≡◌ {A = Option ℕ} None None))
    by (inl m) = inl (m, sym c.in-None.is ∙ c.pair_at.ensures)
    by (inr n) = inr (n, refl)
