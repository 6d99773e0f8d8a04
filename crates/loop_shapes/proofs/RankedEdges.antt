-- Ranks of words, and edges that they tell to close no loop.
use Rattle.std.proofs.Common.{◌≡◌, ◌≢◌, ℕ, zero, suc, ◌+◌, ◌<◌, ◌≤◌, ◌⊎◌, inl, inr, List, [], ◌∷◌, length, get_or, set, replicate, refl, ap, sym, ◌∙◌, subst, arith}
use Rattle.std.specs.List.{Contains}
use Rattle.std.proofs.lemmas.Bool.{cases_eq, cases_lt}
use Rattle.std.proofs.lemmas.List.{length-set, get_or-set_same, get_or-set_other, get_or-replicate, length-replicate}
use Rattle.loop_data.specs.declared.graph.Graph.{Graph}
use Rattle.loop_data.specs.Paths.{addresses, IsInOrder, Leads}
use Rattle.loop_data.specs.Bodies.{ReachesPast, InPart, IsClosed}
use Rattle.loop_shapes.specs.Places.{HasPredecessors, count_of, at}
use Rattle.loop_shapes.specs.Ranks.{HasLower, AreRanks, AreRanksBelow, HasRanked}
use Rattle.loop_data.proofs.Ways.{stop, step}
use Rattle.loop_data.specs.Flows.{row_at}
use Rattle.loop_shapes.proofs.Rows.{same_place}

-- from a word whose rank is below that of h, words of ever lower ranks lead on to it, up to a start word
module _ (G : Graph) (up : IsInOrder G) (ranks : List ℕ) (r : AreRanks G ranks) (h u : ℕ) (lh : h < count_of G) (closed : IsClosed G (at G h) (at G u)) where
  other : (i : ℕ) → i < count_of G → get_or ranks i 0 < get_or ranks h 0 → at G i ≢ at G h
  other i l low e =
      let same : get_or ranks i 0 ≡ get_or ranks h 0 = ap (λ j. get_or ranks j 0) (same_place (addresses G) up i h l lh e) in
      omega arith

  none_from : (n i : ℕ) → get_or ranks i 0 < n → i < count_of G → 0 < get_or ranks i 0 → get_or ranks i 0 < get_or ranks h 0 → ReachesPast G (at G h) (at G i) (at G u) → ⊥
  none_from zero i m l p low way = absurd (omega arith)
  none_from (suc n) i m l p low way = by (r.each i l p) (none_from n)
    where
      by : Contains G.starts (at G i) ⊎ HasLower G ranks i → ((j : ℕ) → get_or ranks j 0 < n → j < count_of G → 0 < get_or ranks j 0 → get_or ranks j 0 < get_or ranks h 0 → ReachesPast G (at G h) (at G j) (at G u) → ⊥) → ⊥
      by (inl s) before = other i l low (closed.entry (at G i) (inr way) s)
      by (inr q) before =
          let less = q.lower in
          before q.place (omega arith) q.within q.ranked (omega arith) (step (Leads G) (λ y. y ≢ at G h) (at G q.place) (at G i) (at G u) (other q.place q.within (omega arith)) q.edge way)

  pub none_closed : u < count_of G → 0 < get_or ranks u 0 → get_or ranks u 0 < get_or ranks h 0 → ⊥
  none_closed l p low = none_from (suc (get_or ranks u 0)) u (omega arith) l p low (stop (Leads G) (λ y. y ≢ at G h) (at G u) (other u l low))

-- no ranks
abbrev zeros : ℕ → List ℕ
zeros n = replicate n 0

none_set : (n i : ℕ) → i < n → ◌≡◌ {A = ℕ} (get_or (zeros n) i 0) 0
none_set n i l = get_or-replicate n i 0 0 l

pub ranks_none : (G : Graph) (ranks : List ℕ) → ◌≡◌ {A = List ℕ} ranks (zeros (count_of G)) → AreRanksBelow G 1 ranks
ranks_none G ranks e = subst (AreRanksBelow G 1) (sym e) (record {
  are = record { count = length-replicate (count_of G) 0; each = λ i l p. absurd (let z = none_set (count_of G) i l in omega arith) };
  below = λ i l. let z = none_set (count_of G) i l in omega arith;
})

pub ranks_kept : (G : Graph) (ranks : List ℕ) (rank : ℕ) → AreRanksBelow G rank ranks → AreRanksBelow G (rank + 1) ranks
ranks_kept G ranks rank b = record { are = b.are; below = λ i l. let m = b.below i l in omega arith }

-- a word without a rank gets one above all others
module _ (G : Graph) (rows : List (List ℕ)) (s : HasPredecessors G (count_of G) rows) (old : List ℕ) (place rank : ℕ) (lp : place < count_of G) (above : 0 < rank) (unranked : get_or old place 0 ≡ 0) (b : AreRanksBelow G rank old) where
  new : List ℕ
  new = set old place rank

  here : get_or (set old place rank) place 0 ≡ rank
  here = let n = b.are.count in get_or-set_same old place rank 0 (omega arith)

  there : (i : ℕ) → i ≢ place → get_or (set old place rank) i 0 ≡ get_or old i 0
  there i ne = get_or-set_other old place i rank 0 ne

  -- a word that has a rank keeps it
  ranked_kept : (i : ℕ) → 0 < get_or old i 0 → get_or (set old place rank) i 0 ≡ get_or old i 0
  ranked_kept i p = there i (λ e. let z : get_or old i 0 ≡ 0 = ap (λ j. get_or old j 0) e ∙ unranked in omega arith)

  at_place : Contains G.starts (at G place) ⊎ HasRanked old (row_at rows place) → Contains G.starts (at G place) ⊎ HasLower G (set old place rank) place
  at_place (inl c) = inl c
  at_place (inr q) =
      let lead = s.each place q.place q.among in
      let k = ranked_kept q.place q.ranked in
      let r = q.ranked in
      let m = b.below q.place lead.0 in
      let h = here in
      inr (record { place = q.place; within = lead.0; edge = lead.1; ranked = omega arith; lower = omega arith })

  elsewhere : (i : ℕ) → get_or (set old place rank) i 0 ≡ get_or old i 0 → Contains G.starts (at G i) ⊎ HasLower G old i → Contains G.starts (at G i) ⊎ HasLower G (set old place rank) i
  elsewhere i e (inl c) = inl c
  elsewhere i e (inr q) =
      let k = ranked_kept q.place q.ranked in
      let r = q.ranked in
      let m = q.lower in
      inr (record { place = q.place; within = q.within; edge = q.edge; ranked = omega arith; lower = omega arith })

  pub rank_given : Contains G.starts (at G place) ⊎ HasRanked old (row_at rows place) → AreRanksBelow G (rank + 1) (set old place rank)
  rank_given may = record {
    are = record { count = length-set old place rank ∙ b.are.count; each = λ i l p. each i l p (cases_eq i place) };
    below = λ i l. below i l (cases_eq i place);
  }
    where
      each : (i : ℕ) → i < count_of G → 0 < get_or (set old place rank) i 0 → (i ≡ place) ⊎ (i ≢ place) → Contains G.starts (at G i) ⊎ HasLower G (set old place rank) i
      each i l p (inl e) = subst (λ (j : ℕ). Contains G.starts (at G j) ⊎ HasLower G (set old place rank) j) (sym e) (at_place may)
      each i l p (inr ne) = let k = there i ne in elsewhere i k (b.are.each i l (omega arith))

      below : (i : ℕ) → i < count_of G → (i ≡ place) ⊎ (i ≢ place) → get_or (set old place rank) i 0 < rank + 1
      below i l (inl e) =
          let h = here in
          let k : get_or (set old place rank) i 0 ≡ get_or (set old place rank) place 0 = ap (λ j. get_or (set old place rank) j 0) e in
          omega arith
      below i l (inr ne) =
          let k = there i ne in
          let m = b.below i l in
          omega arith

pub without_rank : (x : ℕ) → (0 < x → ⊥) → x ≡ 0
without_rank x f = by (cases_lt 0 x)
  where
    by : (0 < x) ⊎ (x ≤ 0) → x ≡ 0
    by (inl l) = absurd (f l)
    by (inr l) = omega arith
