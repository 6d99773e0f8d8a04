-- The shape of a loop from its parts.
use Rattle.std.proofs.Common.{◌≡◌, ℕ, inl, List, [], ◌∷◌, sym, subst}
use Rattle.std.specs.List.{Contains}
use Rattle.loop_data.specs.declared.graph.Graph.{Graph}
use Rattle.loop_data.specs.Sets.{IsListOf}
use Rattle.loop_shapes.specs.Difference.{InDifference}
use Rattle.loop_data.specs.Shape.{IsInner, InNest, IsOneBack, IsOneExit, IsSide, IsExitBranch, HasOwnShape, IsShaped}
use Rattle.loop_shapes.specs.LoopBody.{IsLeftOnlyFrom}
use Rattle.loop_data.proofs.Lists.{from_in}
use Rattle.loop_shapes.proofs.Rows.{alone}

-- the inner loops are those of the nest without its root
pub inner_by : (G : Graph) (h : ℕ) (nest xs : List ℕ) → IsListOf (InNest G h) nest → IsListOf (InDifference nest (h ∷ [])) xs → IsListOf (IsInner G h) xs
inner_by G h nest xs n l = record { ordered = l.ordered; each = each; every = every }
  where
    each : (x : ℕ) → Contains xs x → IsInner G h x
    each x c =
        let o = l.each x c in
        let m = n.each x o.among in
        record { header = m.header; inside = m.inside; other = λ e. o.absent (from_in (h ∷ []) x (inl (sym e))) }

    every : (x : ℕ) → IsInner G h x → Contains xs x
    every x i = l.every x (record { among = n.every x (record { header = i.header; inside = i.inside }); absent = λ c. i.other (sym (alone h x c)) })

-- an answer that tells of a shape what is found of it
pub no_shape_back : (G : Graph) (h : ℕ) → ((u : ℕ) → ¬ IsOneBack G h u) → ¬ IsShaped G h
no_shape_back G h none s = none s.back s.shape.one_back

left_only : (G : Graph) (h : ℕ) → (s : IsShaped G h) → IsLeftOnlyFrom G h s.exit
left_only G h s =
    let e = s.shape.one_exit in
    record { left = record { to = s.shape.target; leaves = e.leaves }; only = λ y m. (e.only y m.to m.leaves).0 }

pub no_shape_exit : (G : Graph) (h : ℕ) → ((x : ℕ) → ¬ IsLeftOnlyFrom G h x) → ¬ IsShaped G h
no_shape_exit G h none s = none s.exit (left_only G h s)

same_back : (G : Graph) (h back : ℕ) → IsOneBack G h back → (s : IsShaped G h) → s.back ≡ back
same_back G h back b s = b.only s.back s.shape.one_back.closed

same_exit : (G : Graph) (h exit : ℕ) → IsLeftOnlyFrom G h exit → (s : IsShaped G h) → s.exit ≡ exit
same_exit G h exit o s = let l = left_only G h s in o.only s.exit l.left

pub no_shape_branch : (G : Graph) (h back exit : ℕ) → IsOneBack G h back → IsLeftOnlyFrom G h exit → ¬ IsExitBranch G h back exit → ¬ IsShaped G h
no_shape_branch G h back exit b o none s = none (subst (λ (q : ℕ). IsExitBranch G h q exit) (same_back G h back b s) (subst (IsExitBranch G h s.back) (same_exit G h exit o s) s.shape.branch))

pub shape_by : (G : Graph) (h back exit : ℕ) → IsOneBack G h back → IsLeftOnlyFrom G h exit → IsExitBranch G h back exit → (IsLeftOnlyFrom G h exit → IsSide G h exit → (to : ℕ) × IsOneExit G h (exit, to)) → HasOwnShape G h back exit
shape_by G h back exit b o br one = let e = one o br.stays in record { one_back = b; target = e.0; one_exit = e.1; branch = br }
