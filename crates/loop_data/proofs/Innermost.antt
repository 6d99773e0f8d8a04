-- The innermost loop round a word.
use Rattle.std.proofs.Common.{◌≡◌, ◌≢◌, ℕ, suc, ◌≤◌, ◌⊎◌, inl, inr, List, Some, None, arith}
use Rattle.std.specs.List.{Contains}
use Rattle.std.proofs.lemmas.Bool.{cases_eq}
use Rattle.loop_data.specs.declared.shape.Level.{Level}
use Rattle.loop_data.specs.Nests.{Holds}
use Rattle.loop_data.specs.Results.{IsInnermost, IsAround, IsAroundAt}

pub inner_found : (ls : List Level) (u i d : ℕ) → IsAroundAt ls u d (Some i) → ((l : Level) → Contains ls l → Holds l u → l.depth ≤ d) → IsInnermost ls u i
inner_found ls u i d a most =
    record { loop = a.1.0; within = a.0; at = a.1.1; holds = a.1.2; innermost = λ l c h. let x = most l c h in let e = a.1.3 in omega arith }

pub not_deep : (ls : List Level) (u d n : ℕ) → n ≡ suc d → IsAroundAt ls u n None → ((l : Level) → Contains ls l → Holds l u → l.depth ≤ n) → (l : Level) → Contains ls l → Holds l u → l.depth ≤ d
not_deep ls u d n e none most l c h = by (cases_eq l.depth n)
  where
    by : (l.depth ≡ n) ⊎ (l.depth ≢ n) → l.depth ≤ d
    by (inl q) = absurd (none l c q h)
    by (inr ne) = let x = most l c h in omega arith

pub inner_root : (ls : List Level) (u i : ℕ) → IsAround ls u 0 i → ((l : Level) → Contains ls l → Holds l u → l.depth ≤ 0) → (l : Level) × Contains ls l × Holds l u → IsInnermost ls u i
inner_root ls u i (inl a) most held = record { loop = a.0; within = a.1; at = a.2; holds = a.3; innermost = λ l c h. let x = most l c h in omega arith }
inner_root ls u i (inr a) most held = let x = most held.0 held.1 held.2 in absurd (a.0 held.0 held.1 (omega arith) held.2)
