-- The turns that a held check tells exist, one after the other.
use Rattle.std.proofs.Common.{◌≡◌, ◌≢◌, ℕ, zero, suc, ◌+◌, ◌*◌, ◌^◌, ◌<◌, ◌≤◌, ◌⊎◌, inl, inr, Bool, true, false, Option, Some, None, refl, ap, sym, ◌∙◌, subst, arith, if◌then◌else◌, ◌==◌}
use Rattle.std.proofs.Math.Nat.{mul-le-mul_left}
use native.Mathlib.Decide.{dec_le}
use Rattle.rv64_decode.specs.declared.outcome.Next.TheVariants.{At}
use Rattle.loop_data.specs.declared.shape.Level.{Level}
use Rattle.loop_data.specs.Nests.{Nest, has, levels, In, Edge, around, HasRank}
use Rattle.loop_data.specs.Passes.{pass, pass_in, passes}
use Rattle.loop_data.specs.Runs.{run, walk, goes_at, pc_in}
use Rattle.loop_data.specs.Turns.{arrives, turn, IsArrival}
use Rattle.loop_data.proofs.Arounds.{around_is}
use Rattle.loop_data.proofs.FactWalks.{arrives_is}
use Rattle.loop_data.proofs.NestVisits.{are_given, walks_inside, edge_of}
use Rattle.loop_data.proofs.Tests.{eq_of, ne_of, is_eq}
use Rattle.loop_data.specs.Lookups.{cell_map}
use Rattle.loop_choice.proofs.Bounded.{bounded_start}
use Rattle.loop_choice.proofs.Ends.{Ranked, ranked_start, ranked_step, Digits, goes_up, progress, lex_first, place_in}
use Rattle.loop_choice.proofs.Tasks.{Task, net, code_in, last_pass_in, passes_below}
use Rattle.loop_choice.proofs.Visits.{Fine, fine_next, at_visit, in_loop}

-- turns do not go back
pub turn_grows : (l : Level) (s : Rattle.loop_data.specs.Runs.State) (n : ℕ) → turn l s n ≤ turn l s (suc n)
turn_grows l s n = go (arrives l s (suc n))
  where
    go : (b : Bool) → turn l s n ≤ (if b then suc (turn l s n) else turn l s n)
    go true = omega arith
    go false = omega arith

-- more than any progress in a turn
abbrev whole : ℕ → ℕ → ℕ
whole R B = (((R * B + 0) * R + 0) * B + 0) * R + 0

progress_below : (N : Nest) (rank : ℕ → ℕ) (R B : ℕ) (pc : ℕ → ℕ) (n : ℕ) → place_in rank (around (levels N) 1 (pc n)) (pc n) < R → Digits N rank R B pc n → progress N rank R B pc n < whole R B
progress_below N rank R B pc n one d =
    lex_first _ _ (rank (pc n)) 0 R (lex_first _ _ (passes N pc n 2) 0 B (lex_first _ _ (place_in rank (around (levels N) 2 (pc n)) (pc n)) 0 R (lex_first _ _ (passes N pc n 1) 0 B one d.one) d.second) d.two) d.last

module _ (k : Task) where
  pub fine_start : Fine k 0
  fine_start =
      record {
        executes = record {
          start = k.start;
          registers = k.registers;
          bytes = k.bytes;
          inside = λ m le. let z : 0 ≡ m = omega arith in subst (λ i. goes_at (has k.nest.root.body) (run k.state i).next ≡ true) z (subst (λ x. goes_at (has k.nest.root.body) x ≡ true) (sym k.start) (k.nest.nest.bodies.header k.nest.root (inl refl)));
          words = λ m lt. absurd (omega arith);
        };
        others = λ m j b c lt. absurd (omega arith);
        met = λ m d lt. absurd (omega arith);
        bounded = bounded_start (net k) (last_pass_in k) (walk k.state);
      }

  -- the one induction
  pub fine_below : (n : ℕ) → turn k.nest.root k.state n < k.turns.root → Fine k n
  fine_below zero lt = fine_start
  fine_below (suc n) lt =
      let g = turn_grows k.nest.root k.state n in
      let lt' : turn k.nest.root k.state n < k.turns.root = omega arith in
      fine_next k n (fine_below n lt') lt'

  pub edge_next : (n : ℕ) → Fine k (suc n) → Edge (net k) k.nest.root.body (walk k.state n) (walk k.state (suc n))
  edge_next n f = edge_of (net k) (walk k.state) n (walks_inside (net k) (code_in k) (are_given k.G k.levels k.nest (cell_map k.cells) k.words) k.state (suc n) f.executes)

  ranked : HasRank (net k)
  ranked = k.nest.nest.shapes.ranked

  ranked_below : (n : ℕ) → turn k.nest.root k.state n < k.turns.root → Ranked (net k) ranked.rank (walk k.state) n
  ranked_below zero lt = ranked_start (net k) ranked.rank (walk k.state) k.nest.nest (ap pc_in k.start)
  ranked_below (suc n) lt =
      let g = turn_grows k.nest.root k.state n in
      let f = fine_below (suc n) lt in
      ranked_step (net k) ranked.rank ranked.bound (walk k.state) n k.nest.nest ranked.is (edge_next n f) (ranked_below n (omega arith))

  digits_below : (n : ℕ) → Fine k n → Digits (net k) ranked.rank ranked.bound (2 ^ 31) (walk k.state) n
  digits_below n f = record { second = places 2; one = time 1 (omega arith); two = time 2 (omega arith); last = ranked.is.below (walk k.state n) in_u }
    where
      in_u : has k.nest.root.body (walk k.state n) ≡ true
      in_u = in_loop k n f

      places : (d : ℕ) → place_in ranked.rank (around (levels (net k)) d (walk k.state n)) (walk k.state n) < ranked.bound
      places d = go (around (levels (net k)) d (walk k.state n)) refl
        where
          go : (o : Option Level) → around (levels (net k)) d (walk k.state n) ≡ o → place_in ranked.rank o (walk k.state n) < ranked.bound
          go None e = ranked.is.below (walk k.state n) in_u
          go (Some l) e =
              let r = around_is (levels (net k)) d (walk k.state n) l e in
              ranked.is.below l.header (k.nest.nest.bodies.within l r.0 l.header (k.nest.nest.bodies.header l r.0))

      time : (d : ℕ) → 0 < d → passes (net k) (walk k.state) n d < 2 ^ 31
      time d pd = go (around (levels (net k)) d (walk k.state n)) refl
        where
          by : (l : Level) → (k.nest.root ≡ l) ⊎ In k.nest.inner l → l.depth ≡ d → has l.body (walk k.state n) ≡ true → pass l (walk k.state) n < 2 ^ 31
          by l (inl e) q h = let z = k.nest.nest.bodies.outermost in let y : k.nest.root.depth ≡ d = ap (λ (x : Level). x.depth) e ∙ q in absurd (omega arith)
          by l (inr i) q h = let a = f.bounded.passes l i h in let b = passes_below k l i in omega arith

          go : (o : Option Level) → around (levels (net k)) d (walk k.state n) ≡ o → pass_in o (walk k.state) n < 2 ^ 31
          go None e = omega arith
          go (Some l) e = let r = around_is (levels (net k)) d (walk k.state n) l e in by l r.0 r.1 r.2

  first_place : (n : ℕ) → Fine k n → place_in ranked.rank (around (levels (net k)) 1 (walk k.state n)) (walk k.state n) < ranked.bound
  first_place n f = go (around (levels (net k)) 1 (walk k.state n)) refl
    where
      go : (o : Option Level) → around (levels (net k)) 1 (walk k.state n) ≡ o → place_in ranked.rank o (walk k.state n) < ranked.bound
      go None e = ranked.is.below (walk k.state n) (in_loop k n f)
      go (Some l) e =
          let r = around_is (levels (net k)) 1 (walk k.state n) l e in
          ranked.is.below l.header (k.nest.nest.bodies.within l r.0 l.header (k.nest.nest.bodies.header l r.0))

  -- whether a visit is an arrival
  pub arrives_at : (n : ℕ) → Fine k n → arrives k.nest.root k.state n ≡ (walk k.state n == k.nest.root.header)
  arrives_at n f = arrives_is k.nest.root k.state n (at_visit k n f)

  sums : (t w a b n : ℕ) → n ≤ t * w + a → a < w → suc n ≤ suc t * w + b
  sums t w a b n h l = omega arith

  sums_on : (t w a b n : ℕ) → n ≤ t * w + a → a < b → suc n ≤ t * w + b
  sums_on t w a b n h l = omega arith

  -- a turn takes fewer instructions than this
  count : (n : ℕ) → turn k.nest.root k.state n < k.turns.root → n ≤ turn k.nest.root k.state n * whole ranked.bound (2 ^ 31) + progress (net k) ranked.rank ranked.bound (2 ^ 31) (walk k.state) n
  count zero lt = omega arith
  count (suc n) lt =
      let g = turn_grows k.nest.root k.state n in
      let lt' : turn k.nest.root k.state n < k.turns.root = omega arith in
      let f = fine_below n lt' in
      let f' = fine_below (suc n) lt in
      let d = digits_below n f in
      by (walk k.state (suc n) == k.nest.root.header) refl (arrives_at (suc n) f') (count n lt')
      (progress_below (net k) ranked.rank ranked.bound (2 ^ 31) (walk k.state) n (first_place n f) d)
      (λ ne. goes_up (net k) ranked.rank ranked.bound (2 ^ 31) (walk k.state) n k.nest.nest ranked.is (edge_next n f') (ranked_below n lt') d ne)
    where
      by : (b : Bool) → (walk k.state (suc n) == k.nest.root.header) ≡ b → arrives k.nest.root k.state (suc n) ≡ (walk k.state (suc n) == k.nest.root.header)
          → n ≤ turn k.nest.root k.state n * whole ranked.bound (2 ^ 31) + progress (net k) ranked.rank ranked.bound (2 ^ 31) (walk k.state) n
          → progress (net k) ranked.rank ranked.bound (2 ^ 31) (walk k.state) n < whole ranked.bound (2 ^ 31)
          → (walk k.state (suc n) ≢ k.nest.root.header → progress (net k) ranked.rank ranked.bound (2 ^ 31) (walk k.state) n < progress (net k) ranked.rank ranked.bound (2 ^ 31) (walk k.state) (suc n))
          → suc n ≤ turn k.nest.root k.state (suc n) * whole ranked.bound (2 ^ 31) + progress (net k) ranked.rank ranked.bound (2 ^ 31) (walk k.state) (suc n)
      by true e a h l up =
          let q : turn k.nest.root k.state (suc n) ≡ suc (turn k.nest.root k.state n) = ap (λ b. if b then suc (turn k.nest.root k.state n) else turn k.nest.root k.state n) (a ∙ e) in
          subst (λ t. suc n ≤ t * whole ranked.bound (2 ^ 31) + progress (net k) ranked.rank ranked.bound (2 ^ 31) (walk k.state) (suc n)) (sym q)
          (sums (turn k.nest.root k.state n) (whole ranked.bound (2 ^ 31)) (progress (net k) ranked.rank ranked.bound (2 ^ 31) (walk k.state) n) (progress (net k) ranked.rank ranked.bound (2 ^ 31) (walk k.state) (suc n)) n h l)
      by false e a h l up =
          let q : turn k.nest.root k.state (suc n) ≡ turn k.nest.root k.state n = ap (λ b. if b then suc (turn k.nest.root k.state n) else turn k.nest.root k.state n) (a ∙ e) in
          subst (λ t. suc n ≤ t * whole ranked.bound (2 ^ 31) + progress (net k) ranked.rank ranked.bound (2 ^ 31) (walk k.state) (suc n)) (sym q)
          (sums_on (turn k.nest.root k.state n) (whole ranked.bound (2 ^ 31)) (progress (net k) ranked.rank ranked.bound (2 ^ 31) (walk k.state) n) (progress (net k) ranked.rank ranked.bound (2 ^ 31) (walk k.state) (suc n)) n h (up (ne_of _ _ e)))

  too_many : (t w a p : ℕ) → p * w ≤ t * w + a → a < w → t < p → ⊥
  too_many t w a p h l lt = let q : w * suc t ≤ w * p = mul-le-mul_left w lt in omega arith

  -- after so many instructions all turns are done
  enough : k.turns.root ≤ turn k.nest.root k.state (k.turns.root * whole ranked.bound (2 ^ 31))
  enough = go (dec_le k.turns.root (turn k.nest.root k.state (k.turns.root * whole ranked.bound (2 ^ 31))))
    where
      go : Dec (k.turns.root ≤ turn k.nest.root k.state (k.turns.root * whole ranked.bound (2 ^ 31))) → k.turns.root ≤ turn k.nest.root k.state (k.turns.root * whole ranked.bound (2 ^ 31))
      go (yes l) = l
      go (no l) =
          let n = k.turns.root * whole ranked.bound (2 ^ 31) in
          let lt : turn k.nest.root k.state n < k.turns.root = omega arith in
          let f = fine_below n lt in
          absurd (too_many (turn k.nest.root k.state n) (whole ranked.bound (2 ^ 31)) (progress (net k) ranked.rank ranked.bound (2 ^ 31) (walk k.state) n) k.turns.root (count n lt)
          (progress_below (net k) ranked.rank ranked.bound (2 ^ 31) (walk k.state) n (first_place n f) (digits_below n f)) lt)

  arrival_by : (n t : ℕ) → t ≤ k.turns.root → t ≤ turn k.nest.root k.state n → (m : ℕ) × IsArrival k.nest.root k.state t m
  arrival_by zero t le h = let e : 0 ≡ t = omega arith in (0, record { at = k.start; turn = e })
  arrival_by (suc n) t le h = go (dec_le t (turn k.nest.root k.state n)) (arrival_by n t le)
    where
      go : Dec (t ≤ turn k.nest.root k.state n) → (t ≤ turn k.nest.root k.state n → (m : ℕ) × IsArrival k.nest.root k.state t m) → (m : ℕ) × IsArrival k.nest.root k.state t m
      go (yes l) before = before l
      go (no l) before =
          let lt : turn k.nest.root k.state n < k.turns.root = omega arith in
          let f = fine_next k n (fine_below n lt) lt in
          by (walk k.state (suc n) == k.nest.root.header) refl (arrives_at (suc n) f) (at_visit k (suc n) f) h
        where
          by : (b : Bool) → (walk k.state (suc n) == k.nest.root.header) ≡ b → arrives k.nest.root k.state (suc n) ≡ (walk k.state (suc n) == k.nest.root.header) → (run k.state (suc n)).next ≡ At (walk k.state (suc n))
              → t ≤ turn k.nest.root k.state (suc n) → (m : ℕ) × IsArrival k.nest.root k.state t m
          by true e a at h =
              let q : turn k.nest.root k.state (suc n) ≡ suc (turn k.nest.root k.state n) = ap (λ b. if b then suc (turn k.nest.root k.state n) else turn k.nest.root k.state n) (a ∙ e) in
              let r : suc (turn k.nest.root k.state n) ≡ t = omega arith in
              (suc n, record { at = at ∙ ap At (eq_of _ _ e); turn = q ∙ r })
          by false e a at h =
              let q : turn k.nest.root k.state (suc n) ≡ turn k.nest.root k.state n = ap (λ b. if b then suc (turn k.nest.root k.state n) else turn k.nest.root k.state n) (a ∙ e) in
              absurd (l (omega arith))

  -- each turn up to the last arrives
  pub arrival_of : (t : ℕ) → t ≤ k.turns.root → (m : ℕ) × IsArrival k.nest.root k.state t m
  arrival_of t le = let e = enough in arrival_by (k.turns.root * whole ranked.bound (2 ^ 31)) t le (omega arith)

  -- the run up to an arrival
  pub fine_arrival : (t n : ℕ) → t ≤ k.turns.root → IsArrival k.nest.root k.state t n → Fine k n
  fine_arrival t zero le a = fine_start
  fine_arrival t (suc n) le a =
      let here : arrives k.nest.root k.state (suc n) ≡ true = ap (goes_at (λ pc. pc == k.nest.root.header)) a.at ∙ is_eq k.nest.root.header k.nest.root.header refl in
      let q : suc (turn k.nest.root k.state n) ≡ t = sym (ap (λ b. if b then suc (turn k.nest.root k.state n) else turn k.nest.root k.state n) here) ∙ a.turn in
      let lt : turn k.nest.root k.state n < k.turns.root = omega arith in
      fine_next k n (fine_below n lt) lt
