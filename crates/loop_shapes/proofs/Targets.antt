-- Where a step leads, as a test tells.
use Rattle.std.proofs.Common.{◌≡◌, ℕ, ◌<◌, inl, inr, ◌↔◌, Bool, true, Option, Some, List, length, get_or, sym, subst}
use Rattle.std.specs.List.{Contains}
use Rattle.loop_shapes.specs.LoopBody.{LeadsIn, LeadsOn, LeadsOnFrom}
use Rattle.strong_components.specs.declared.graph.Successors.{Successors}
use Rattle.strong_components.specs.Graph.{LeadsTo}
use Rattle.loop_shapes.proofs.Cutting.{node_at}

module _ (places : List ℕ) (b : Bool) (o : Option ℕ) (to : ℕ) (is : o ≡ Some to) where
  same : (x : ℕ) → o ≡ Some x → x ≡ to
  same x e = let f : Some x ≡ Some to = cc in cc

  pub in_some : (b ≡ true) ↔ Contains places to → (b ≡ true) ↔ LeadsIn places o
  in_some s = (λ t. record { to = to; is = is; among = s.0 t }, λ l. s.1 (subst (Contains places) (same l.to l.is) l.among))

  pub on_some : (gone : List ℕ) → (b ≡ true) ↔ (Contains places to × ¬ Contains gone to) → (b ≡ true) ↔ LeadsOn places gone o
  on_some gone s = (λ t. record { to = to; is = is; among = (s.0 t).0; left = (s.0 t).1 }, λ l. s.1 (subst (Contains places) (same l.to l.is) l.among, λ m. l.left (subst (Contains gone) (sym (same l.to l.is)) m)))

-- where the steps of a place lead on
module _ (nodes : List Successors) (places gone : List ℕ) (place : ℕ) (v : Successors) (l : place < length nodes) (is : v ≡ get_or nodes place v) where
  pub on_first : LeadsOn places gone v.first → LeadsOnFrom nodes places gone place
  on_first o = record { to = o.to; edge = (node_at nodes place o.to v l is).0 (inl o.is); among = o.among; left = o.left }

  pub on_second : LeadsOn places gone v.second → LeadsOnFrom nodes places gone place
  on_second o = record { to = o.to; edge = (node_at nodes place o.to v l is).0 (inr o.is); among = o.among; left = o.left }

  pub on_back : ¬ LeadsOn places gone v.first → LeadsOnFrom nodes places gone place → LeadsOn places gone v.second
  on_back none f = by ((node_at nodes place f.to v l is).1 f.edge)
    where
      by : LeadsTo v f.to → LeadsOn places gone v.second
      by (inl e) = absurd (none (record { to = f.to; is = e; among = f.among; left = f.left }))
      by (inr e) = record { to = f.to; is = e; among = f.among; left = f.left }
