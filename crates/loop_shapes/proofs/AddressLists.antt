-- Addresses of places, in order.
use Rattle.std.proofs.Common.{◌≡◌, ℕ, List, map, sym, subst}
use Rattle.std.specs.List.{Contains}
use Rattle.loop_data.specs.declared.graph.Graph.{Graph}
use Rattle.loop_data.specs.Sets.{IsListOf}
use Rattle.loop_data.specs.Loops.{IsSoundNest}
use Rattle.loop_data.specs.Paths.{IsWord}
use Rattle.loop_data.specs.Shape.{IsShaped, HasOwnShape}
use Rattle.loop_shapes.specs.LoopBody.{HasOwnShapeAt}
use Rattle.loop_shapes.specs.Net.{AreAt, IsAmong}
use Rattle.loop_shapes.specs.Places.{at}
use Rattle.loop_shapes.proofs.Parts.{contains_map}
use Rattle.loop_shapes.proofs.Unions.{image_of}

pub among_list : (G : Graph) (found all xs : List ℕ) → all ≡ map (at G) found → IsListOf (Contains all) xs → IsListOf (IsAmong G found) xs
among_list G found all xs e l = record { ordered = l.ordered; each = each; every = λ x m. l.every x (subst (λ (ys : List ℕ). Contains ys x) (sym e) (contains_map (at G) found m.place x m.among m.is)) }
  where
    each : (x : ℕ) → Contains xs x → IsAmong G found x
    each x c =
        let m = image_of (at G) found x (subst (λ (ys : List ℕ). Contains ys x) e (l.each x c)) in
        record { place = m.from; among = m.among; is = m.is }

pub set_list : (G : Graph) (P : ℕ → Type 0) (found xs : List ℕ) → AreAt G P found → IsListOf (IsAmong G found) xs → IsListOf P xs
set_list G P found xs a l = record { ordered = l.ordered; each = λ x c. let m = l.each x c in subst P m.is (a.each m.place m.among).1; every = λ x p. l.every x (a.every x p) }

-- the loops of a sound nest have the shape
pub not_unshaped : (G : Graph) (nest : List ℕ) (x : ℕ) → IsSoundNest G nest → Contains nest x → ¬ IsShaped G x → ⊥
not_unshaped G nest x s c none = s.shaped x (record { nest = s.is.each x c; shape = λ h. none h.own })

pub nest_word : (G : Graph) (nest : List ℕ) (x : ℕ) → IsSoundNest G nest → Contains nest x → IsWord G x
nest_word G nest x s c = (s.is.each x c).header.closed.word

-- a shape by places at the addresses there
pub shape_there : (G : Graph) (h x back exit : ℕ) (p : ℕ × ℕ) → HasOwnShapeAt G h p → h ≡ x → back ≡ at G p.0 → exit ≡ at G p.1 → HasOwnShape G x back exit
shape_there G h x back exit p s e b q = subst (λ (z : ℕ). HasOwnShape G z back exit) e (subst (λ (z : ℕ). HasOwnShape G h z exit) (sym b) (subst (HasOwnShape G h (at G p.0)) (sym q) s.shape))
