-- The line of the listed edges to a word.
use Rattle.std.proofs.Common.{◌≡◌, ℕ, ◌+◌, ◌<◌, ◌≤◌, ◌⊎◌, inl, inr, min, Bool, true, false, List, length, get_or, map, ap, sym, ◌∙◌, subst, arith}
use Rattle.std.specs.List.{Contains}
use Rattle.std.proofs.lemmas.Bool.{cases_lt, false≢true}
use Rattle.std.proofs.lemmas.List.{length-map, get_or_default}
use Rattle.std.proofs.lemmas.List.Elements.{Contains-get_or}
use Rattle.loop_data.specs.declared.graph.Graph.{Graph}
use Rattle.loop_data.specs.declared.verdict.Verdict.{Verdict}
use Rattle.loop_data.specs.declared.verdict.Verdict.TheVariants.{Limit}
use Rattle.loop_data.specs.Paths.{addresses, IsInOrder}
use Rattle.loop_shapes.specs.Places.{at}
use Rattle.loop_data.specs.Sets.{IsLeast, HasAtMost}
use Rattle.loop_data.specs.Bodies.{InPart}
use Rattle.loop_shapes.specs.Net.{IsPart}
use Rattle.loop_shapes.specs.Lines.{IsRowOf, IsLargeAmong, HasLarge}
use Rattle.loop_data.specs.Listed.{IsListed, IsLine, HasVerdict, IsPastLimit}
use Rattle.loop_data.proofs.Lists.{rises}
use Rattle.loop_shapes.proofs.Parts.{place_of_source, contains_map}

-- the words at the places found are at most 256
pub small_by : (G : Graph) (h u : ℕ) (found : List ℕ) → IsPart G h u found → HasAtMost 256 (InPart G (at G h) (at G u))
small_by G h u found p = record { members = map (at G) found; bound = subst (λ n. n ≤ 256) (sym (length-map found (at G))) p.0; all = λ x q. let a = p.1.every x q in contains_map (at G) found a.place x a.among a.is }

pub no_edges : (G : Graph) (h : ℕ) (row : List ℕ) → IsRowOf G (IsListed G) h row → length row ≡ 0 → (u : ℕ) → ¬ IsListed G (at G h) u
no_edges G h row r z u l =
    let p = place_of_source G u (at G h) l.edge in
    let c = r.every p.place p.within (subst (IsListed G (at G h)) (sym p.is) l) in
    let m = c.1 in
    omega arith

pub limit_line : (G : Graph) (h : ℕ) (row : List ℕ) → IsRowOf G (IsListed G) h row → IsLargeAmong G h row → (x : ℕ) → x ≡ at G h → IsLine G (at G h) (Limit x)
limit_line G h row r l x e = inl (record { source = at G l.place; past = record { listed = (r.each l.place l.among).1; large = l.large }; is = ap (λ (q : ℕ). Limit q) e })

module _ (G : Graph) (up : IsInOrder G) (h : ℕ) (row : List ℕ) (r : IsRowOf G (IsListed G) h row) where
  least_source : (s : ℕ) → IsLeast (Contains row) s → IsLeast (IsListed G (at G h)) (at G s)
  least_source s l = record { holds = (r.each s l.holds).1; least = least }
    where
      least : (y : ℕ) → IsListed G (at G h) y → at G s ≤ y
      least y q =
          let p = place_of_source G y (at G h) q.edge in
          let le = l.least p.place (r.every p.place p.within (subst (IsListed G (at G h)) (sym p.is) q)) in
          subst (λ z. at G s ≤ z) p.is (rises (addresses G) up s p.place le p.within)

  pub entry_line : (s : ℕ) → IsLeast (Contains row) s → ((i : ℕ) → Contains row i → HasAtMost 256 (InPart G (at G h) (at G i))) → (v : Verdict) → HasVerdict G (at G h) (at G s) v → IsLine G (at G h) v
  entry_line s l small v hv = inr (record { source = at G s; least = least_source s l; none = none; verdict = hv })
    where
      none : (u : ℕ) → ¬ IsPastLimit G (at G h) u
      none u p =
          let q = place_of_source G u (at G h) p.listed.edge in
          let c = r.every q.place q.within (subst (IsListed G (at G h)) (sym q.is) p.listed) in
          p.large (subst (λ (z : ℕ). HasAtMost 256 (InPart G (at G h) z)) q.is (small q.place c))

pub least_all : (row : List ℕ) (n least : ℕ) → length row ≤ n → Contains row least → ((k : ℕ) → k < n → least ≤ get_or row k 0) → IsLeast (Contains row) least
least_all row n least l c f = record { holds = c; least = λ y d. let m = d.1 in subst (λ z. least ≤ z) (get_or_default row d.0 0 y d.1 ∙ d.2) (f d.0 (omega arith)) }

pub some_large : (G : Graph) (h : ℕ) (row : List ℕ) (b : Bool) → b ≡ true → HasLarge b G h row → IsLargeAmong G h row
some_large G h row true e a = a
some_large G h row false e a = absurd (false≢true e)

pub all_small : (G : Graph) (h : ℕ) (row : List ℕ) (b : Bool) → b ≡ false → HasLarge b G h row → (i : ℕ) → Contains row i → HasAtMost 256 (InPart G (at G h) (at G i))
all_small G h row true e a = absurd (false≢true (sym e))
all_small G h row false e a = a

pub lesser_more : (row : List ℕ) (i least m : ℕ) → i < length row → m ≡ min least (get_or row i 0) → Contains row least × ((k : ℕ) → k < i → least ≤ get_or row k 0) → Contains row m × ((k : ℕ) → k < i + 1 → m ≤ get_or row k 0)
lesser_more row i least m l e a = (one (cases_lt least (get_or row i 0)), λ k q. all k q (cases_lt k i))
  where
    one : (least < get_or row i 0) ⊎ (get_or row i 0 ≤ least) → Contains row m
    one (inl q) = let s : least ≡ m = omega arith in subst (Contains row) s a.0
    one (inr q) = let s : get_or row i 0 ≡ m = omega arith in subst (Contains row) s (Contains-get_or row i 0 l)

    all : (k : ℕ) → k < i + 1 → (k < i) ⊎ (i ≤ k) → m ≤ get_or row k 0
    all k q (inl r) = let p = a.1 k r in omega arith
    all k q (inr r) =
        let s : i ≡ k = omega arith in
        subst (λ (z : ℕ). m ≤ get_or row z 0) s (omega arith)
