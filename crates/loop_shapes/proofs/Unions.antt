-- The bodies of loops, from the parts that their closed edges make.
use Rattle.std.proofs.Common.{◌≡◌, ℕ, ◌+◌, ◌<◌, ◌≤◌, ◌⊎◌, inl, inr, List, [], ◌++◌, length, get_or, take, map, refl, sym, ◌∙◌, subst, arith}
use Rattle.std.specs.List.{Contains}
use Rattle.std.proofs.lemmas.List.{length-map, get_or-map, take_all}
use Rattle.std.proofs.lemmas.List.Elements.{Contains-get_or, Contains-append_cases, Contains-append_left, Contains-append_right}
use Rattle.loop_data.specs.declared.graph.Graph.{Graph}
use Rattle.loop_data.specs.Sets.{IsListOf}
use Rattle.loop_shapes.specs.Places.{at}
use Rattle.loop_shapes.specs.Gains.{HasAll, Gained}
use Rattle.loop_data.specs.Bodies.{IsClosed, InPart, InBody}
use Rattle.loop_shapes.specs.Net.{IsPart, IsPartOf}
use Rattle.loop_shapes.proofs.Rows.{none_in, contains_more}
use Rattle.loop_shapes.proofs.Parts.{contains_map, place_of_source}
use Rattle.loop_shapes.specs.Lines.{IsRowOf}

-- what a number of a mapped list comes from
pub record IsImage (f : ℕ → ℕ) (xs : List ℕ) (y : ℕ) : Type 0 where
  pub from : ℕ
  pub among : Contains xs from
  pub is : f from ≡ y

pub image_of : (f : ℕ → ℕ) (xs : List ℕ) (y : ℕ) → Contains (map f xs) y → IsImage f xs y
image_of f xs y c =
    let n = length-map xs f in
    let l = c.1 in
    let m : c.0 < length xs = omega arith in
    record { from = get_or xs c.0 0; among = Contains-get_or xs c.0 0 m; is = sym (get_or-map f xs c.0 0 y m) ∙ c.2 }

pub more_part : (G : Graph) (h u : ℕ) (found old new : List ℕ) → IsPart G h u found → new ≡ old ++ map (at G) found → Gained (InPart G (at G h) (at G u)) old new
more_part G h u found old new p e = subst (Gained (InPart G (at G h) (at G u)) old) (sym e) (record { each = λ x c. by x (Contains-append_cases old (map (at G) found) x c); kept = λ x c. Contains-append_left old (map (at G) found) x c; every = λ x q. let a = p.1.every x q in Contains-append_right old (map (at G) found) x (contains_map (at G) found a.place x a.among a.is) })
  where
    by : (x : ℕ) → Contains old x ⊎ Contains (map (at G) found) x → Contains old x ⊎ InPart G (at G h) (at G u) x
    by x (inl c) = inl c
    by x (inr c) = let a = image_of (at G) found x c in inr (subst (InPart G (at G h) (at G u)) a.is (p.1.each a.from a.among).1)

pub union_none : (G : Graph) (h : ℕ) → HasAll (IsPartOf G h []) []
union_none G h = record { each = λ x c. none_in x c; every = λ x p. none_in p.source p.among }

pub union_more : (G : Graph) (h i : ℕ) (sources old new : List ℕ) → i < length sources → HasAll (IsPartOf G h (take i sources)) old → Gained (InPart G (at G h) (at G (get_or sources i 0))) old new → HasAll (IsPartOf G h (take (i + 1) sources)) new
union_more G h i sources old new l a m = record { each = λ x c. one x (m.each x c); every = λ x p. other p.source x p.part ((contains_more sources i l p.source).0 p.among) }
  where
    one : (x : ℕ) → Contains old x ⊎ InPart G (at G h) (at G (get_or sources i 0)) x → IsPartOf G h (take (i + 1) sources) x
    one x (inl c) = let r = a.each x c in record { source = r.source; among = (contains_more sources i l r.source).1 (inl r.among); part = r.part }
    one x (inr p) = record { source = get_or sources i 0; among = (contains_more sources i l (get_or sources i 0)).1 (inr refl); part = p }

    other : (j x : ℕ) → InPart G (at G h) (at G j) x → Contains (take i sources) j ⊎ (j ≡ get_or sources i 0) → Contains new x
    other j x p (inl c) = m.kept x (a.every x (record { source = j; among = c; part = p }))
    other j x p (inr e) = m.every x (subst (λ (q : ℕ). InPart G (at G h) (at G q) x) e p)

pub union_all : (G : Graph) (h i : ℕ) (sources xs : List ℕ) → length sources ≤ i → HasAll (IsPartOf G h (take i sources)) xs → HasAll (IsPartOf G h sources) xs
union_all G h i sources xs l u = subst (λ (ys : List ℕ). HasAll (IsPartOf G h ys) xs) (take_all i sources l) u

pub body_from_union : (G : Graph) (h : ℕ) (sources all xs : List ℕ) → IsRowOf G (IsClosed G) h sources → HasAll (IsPartOf G h sources) all → IsListOf (Contains all) xs → IsListOf (InBody G (at G h)) xs
body_from_union G h sources all xs c u l = record { ordered = l.ordered; each = each; every = every }
  where
    each : (x : ℕ) → Contains xs x → InBody G (at G h) x
    each x m = let r = u.each x (l.each x m) in record { source = at G r.source; closed = (c.each r.source r.among).1; part = r.part }

    every : (x : ℕ) → InBody G (at G h) x → Contains xs x
    every x b =
        let p = place_of_source G b.source (at G h) b.closed.edge in
        let closed = subst (IsClosed G (at G h)) (sym p.is) b.closed in
        l.every x (u.every x (record { source = p.place; among = c.every p.place p.within closed; part = subst (λ (q : ℕ). InPart G (at G h) q x) (sym p.is) b.part }))

pub part_from_more : (P : ℕ → Type 0) (old new : List ℕ) → old ≡ [] → Gained P old new → HasAll P new
part_from_more P old new e m = record { each = λ x c. by x (m.each x c); every = m.every }
  where
    by : (x : ℕ) → Contains old x ⊎ P x → P x
    by x (inl c) = none_in x (subst (λ (ys : List ℕ). Contains ys x) e c)
    by x (inr p) = p
