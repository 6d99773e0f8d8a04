-- The law of the pass over facts, by one induction over the visits of a walk.
use Rattle.std.proofs.Common.{◌≡◌, ◌≢◌, ℕ, zero, suc, ◌<◌, ◌≤◌, ◌⊎◌, inl, inr, Bool, true, false, Option, Some, None, refl, ap, sym, ◌∙◌, subst, arith, if◌then◌else◌, ◌==◌, pos, ℤ, ◌+ℤ◌}
use Rattle.std.proofs.lemmas.Int.{ints}
use Rattle.rv64_decode.specs.declared.outcome.Next.TheVariants.{At}
use Rattle.linear_forms.specs.Forms.{Alike}
use Rattle.linear_forms.proofs.Sums.{alike_from}
use Rattle.loop_data.specs.declared.shape.Level.{Level}
use Rattle.loop_data.specs.Nests.{Nest, has, In, levels, Among, Edge, IsNest, nest_of}
use Rattle.rv64_decode.specs.declared.outcome.Next.{Next}
use Rattle.loop_data.specs.Runs.{State, run, walk, goes_at}
use Rattle.loop_data.specs.Turns.{turn, IsArrival}
use Rattle.loop_data.specs.LoopCode.{LoopCode, writes, code_of, is_location, IsUnwritten, LiesIn}
use Rattle.loop_data.specs.Facts.{Fact, Number, Offset, fact_after}
use Rattle.loop_data.specs.FactPass.{IsKeptAt, AreFacts}
use Rattle.loop_data.specs.Executing.{AreCellWords, Executes, AreAtCells, LeavesCells, value_at, arrival, IsOf32Bits}
use Rattle.loop_data.specs.FactLaws.{fact_value, KeepsBits, FactsHoldAt, FactLaw}
use Rattle.loop_data.proofs.Tests.{eq_of, ne_of, true_or_false, not_true}
use Rattle.loop_data.proofs.NestVisits.{goes_here, goes_to, AreGiven, are_given, IsInside, edge_in, is_inside_less, visit_in, here_in, holds_in, walks_in, header_or, entering_edge}
use Rattle.loop_data.proofs.CellVisits.{on_cells}
use Rattle.loop_data.proofs.FormWords.{kept_at}
use Rattle.loop_data.proofs.FactWords.{fact_right_at}

-- what words do to locations, as the pass sees it
pub record Passing : Type 0 where
  pub writes : ℕ → ℕ → Bool
  pub after : ℕ → (ℕ → Option Fact) → ℕ → Option Fact

-- the facts at the words of a loop, by what they come from
pub record ArePassed (N : Nest) (l : Level) (P : Passing) (V : ℕ → ℕ → Option Fact) : Type 0 where
  pub first : (r : ℕ) (x : Fact) → V l.header r ≡ Some x → (x ≡ Offset r (pos 0)) ⊎ ((r ≡ 0) × (x ≡ Number (pos 0)))
  pub inner : (m : Level) → LiesIn N l m → (r : ℕ) (x : Fact) → V m.header r ≡ Some x
      → ((u : ℕ) → has m.body u ≡ true → P.writes u r ≡ false) × ((u : ℕ) → Edge N l.body u m.header → has m.body u ≡ false → P.after u (V u) r ≡ Some x)
  pub met : (v r : ℕ) (x : Fact) → has l.body v ≡ true → ((m : Level) → Among N m → v ≢ m.header) → V v r ≡ Some x
      → (u : ℕ) → Edge N l.body u v → P.after u (V u) r ≡ Some x

abbrev Means : (ℕ → ℤ) → Fact → ℤ → Type 0
Means base x v = Alike v (fact_value base x)

-- the visit of the last arrival at a loop's header, on a walk
abbrev arrived : Level → (ℕ → ℕ) → ℕ → ℕ
arrived l pc zero = 0
arrived l pc (suc n) = if pc (suc n) == l.header then suc n else arrived l pc n

abbrev HoldFacts : (ℕ → ℕ → Option Fact) → (ℕ → ℕ) → (ℕ → ℤ) → (ℕ → ℕ → ℤ) → ℕ → Type 0
HoldFacts V pc base value n = (r : ℕ) (x : Fact) → V (pc n) r ≡ Some x → Means base x (value n r)

-- what the word visited as number n does
record Passes (P : Passing) (V : ℕ → ℕ → Option Fact) (pc : ℕ → ℕ) (base : ℕ → ℤ) (value : ℕ → ℕ → ℤ) (n : ℕ) : Type 0 where
  pub right : HoldFacts V pc base value n → (r : ℕ) (x : Fact) → P.after (pc n) (V (pc n)) r ≡ Some x → Means base x (value (suc n) r)
  pub kept : (r : ℕ) → P.writes (pc n) r ≡ false → value (suc n) r ≡ value n r

record Seen (N : Nest) (l : Level) (V : ℕ → ℕ → Option Fact) (pc : ℕ → ℕ) (value : ℕ → ℕ → ℤ) (n : ℕ) : Type 0 where
  pub holds : HoldFacts V pc (value (arrived l pc n)) value n
  pub frames : (m : Level) → LiesIn N l m → has m.body (pc n) ≡ true → (r : ℕ) (x : Fact) → V m.header r ≡ Some x → Means (value (arrived l pc n)) x (value n r)

-- no loop inside is round the header
not_inner : (N : Nest) (l m : Level) → IsNest N → Among N l → LiesIn N l m → has m.body l.header ≡ true → ⊥
not_inner N l m nest among i h = let b = nest.bodies in i.other (b.apart m l i.among among i.header h)

at_root : (r : ℕ) (x : Fact) (value : ℕ → ℤ) → value 0 ≡ pos 0 → (x ≡ Offset r (pos 0)) ⊎ ((r ≡ 0) × (x ≡ Number (pos 0))) → Means value x (value r)
at_root r x value z (inl e) = subst (λ x. Means value x (value r)) (sym e) (alike_from _ _ (omega (arith, ints)))
at_root r x value z (inr e) = subst (λ x. Means value x (value r)) (sym e.1) (alike_from _ _ (ap value e.0 ∙ z))

seen_header : (N : Nest) (l : Level) (P : Passing) (V : ℕ → ℕ → Option Fact) (pc : ℕ → ℕ) (value : ℕ → ℕ → ℤ) (n : ℕ) → IsNest N → Among N l → ArePassed N l P V → pc n ≡ l.header → arrived l pc n ≡ n → value n 0 ≡ pos 0 → Seen N l V pc value n
seen_header N l P V pc value n nest among vs at a z =
    record {
      holds = λ r x e. subst (λ k. Means (value k) x (value n r)) (sym a) (at_root r x (value n) z (vs.first r x (subst (λ q. V q r ≡ Some x) at e)));
      frames = λ m i h. absurd (not_inner N l m nest among i (subst (λ q. has m.body q ≡ true) at h));
    }

seen_next : (N : Nest) (l : Level) (P : Passing) (V : ℕ → ℕ → Option Fact) (pc : ℕ → ℕ) (value : ℕ → ℕ → ℤ) (n : ℕ) → IsNest N → Among N l → ArePassed N l P V
    → Edge N l.body (pc n) (pc (suc n)) → pc (suc n) ≢ l.header → arrived l pc (suc n) ≡ arrived l pc n → Passes P V pc (value (arrived l pc n)) value n → Seen N l V pc value n → Seen N l V pc value (suc n)
seen_next N l P V pc value n nest among vs edge nr a does g =
    record {
      holds = λ r x k. subst (λ m. Means (value m) x (value (suc n) r)) (sym a) (holds r x k);
      frames = λ m i hv r x k. subst (λ j. Means (value j) x (value (suc n) r)) (sym a) (frames m i hv r x k);
    }
  where
    u : ℕ
    u = pc n

    v : ℕ
    v = pc (suc n)

    base : ℕ → ℤ
    base = value (arrived l pc n)

    in_root : Edge N N.root.body u v
    in_root = let b = nest.bodies in record { from = b.within l among u edge.from; to = b.within l among v edge.to; leads = edge.leads }

    frames : (m : Level) → LiesIn N l m → has m.body v ≡ true → (r : ℕ) (x : Fact) → V m.header r ≡ Some x → Means base x (value (suc n) r)
    frames m i hv r x e = by (true_or_false (has m.body u))
      where
        by : (has m.body u ≡ true) ⊎ (has m.body u ≡ false) → Means base x (value (suc n) r)
        by (inl hu) = subst (Means base x) (sym (does.kept r ((vs.inner m i r x e).0 u hu))) (g.frames m i hu r x e)
        by (inr hu) = does.right g.holds r x ((vs.inner m i r x e).1 u (subst (Edge N l.body u) (let b = nest.bodies in b.enter m i.among u v in_root hu hv) edge) hu)

    holds : (r : ℕ) (x : Fact) → V v r ≡ Some x → Means base x (value (suc n) r)
    holds r x e = by (header_or (levels N) v)
      where
        at_header : (m : Level) → Among N m → v ≡ m.header → Means base x (value (suc n) r)
        at_header m i h =
            let lies : LiesIn N l m = record { among = i; header = subst (λ y. has l.body y ≡ true) h edge.to; other = λ q. nr (h ∙ ap (λ (y : Level). y.header) q) } in
            let b = nest.bodies in frames m lies (subst (λ y. has m.body y ≡ true) (sym h) (b.header m i)) r x (subst (λ y. V y r ≡ Some x) h e)

        by : ((m : Level) × In (levels N) m × (v ≡ m.header)) ⊎ ((m : Level) → In (levels N) m → v ≢ m.header) → Means base x (value (suc n) r)
        by (inl m) = at_header m.0 m.1 m.2
        by (inr none) = does.right g.holds r x (vs.met v r x edge.to none e u edge)

arrived_below : (l : Level) (pc : ℕ → ℕ) (n : ℕ) → arrived l pc n ≤ n
arrived_below l pc zero = omega arith
arrived_below l pc (suc n) = go (pc (suc n) == l.header) (arrived_below l pc n)
  where
    go : (b : Bool) → arrived l pc n ≤ n → (if b then suc n else arrived l pc n) ≤ suc n
    go true le = omega arith
    go false le = omega arith

-- the words since the last arrival decide
seen_at : (N : Nest) (l : Level) (P : Passing) (V : ℕ → ℕ → Option Fact) (pc : ℕ → ℕ) (value : ℕ → ℕ → ℤ) (n : ℕ) → IsNest N → Among N l → ArePassed N l P V → IsInside N l pc n → ((m : ℕ) → value m 0 ≡ pos 0)
    → ((m : ℕ) → arrived l pc n ≤ m → m < n → Passes P V pc (value (arrived l pc n)) value m) → Seen N l V pc value n
seen_at N l P V pc value zero nest among vs inside z does = seen_header N l P V pc value 0 nest among vs inside.start refl (z 0)
seen_at N l P V pc value (suc n) nest among vs inside z does = go (true_or_false (pc (suc n) == l.header)) (λ f. seen_at N l P V pc value n nest among vs (is_inside_less N l pc n inside) z f)
  where
    go : ((pc (suc n) == l.header) ≡ true) ⊎ ((pc (suc n) == l.header) ≡ false)
        → (((m : ℕ) → arrived l pc n ≤ m → m < n → Passes P V pc (value (arrived l pc n)) value m) → Seen N l V pc value n) → Seen N l V pc value (suc n)
    go (inl e) before =
        seen_header N l P V pc value (suc n) nest among vs (eq_of (pc (suc n)) l.header e) (ap (λ b. if b then suc n else arrived l pc n) e) (z (suc n))
    go (inr e) before =
        let a : arrived l pc (suc n) ≡ arrived l pc n = ap (λ b. if b then suc n else arrived l pc n) e in
        let each : (m : ℕ) → arrived l pc n ≤ m → m < suc n → Passes P V pc (value (arrived l pc n)) value m =
        λ m le lt. subst (λ k. Passes P V pc (value k) value m) a (does m (subst (λ k. k ≤ m) (sym a) le) lt) in
        seen_next N l P V pc value n nest among vs (edge_in N l pc n inside) (ne_of (pc (suc n)) l.header e) a
        (each n (arrived_below l pc n) (omega arith)) (before (λ m le lt. each m le (omega arith)))

abbrev pub passing_of : LoopCode → Passing
passing_of B = record { writes = writes B; after = fact_after B }

-- the equations of a loop's pass, read from a word back
pub are_passed : (N : Nest) (B : LoopCode) (l : Level) (V : ℕ → ℕ → Option Fact) → IsNest N → Among N l → AreFacts N B l V → ArePassed N l (passing_of B) V
are_passed N B l V nest among fs = record { first = first; inner = inner; met = met }
  where
    first : (r : ℕ) (x : Fact) → V l.header r ≡ Some x → (x ≡ Offset r (pos 0)) ⊎ ((r ≡ 0) × (x ≡ Number (pos 0)))
    first r x e = by (r == 0) (is_location B r) refl (sym (fs.header r) ∙ e)
      where
        by : (a b : Bool) → (r == 0) ≡ a → (if a then Some (Number (pos 0)) else if b then Some (Offset r (pos 0)) else None) ≡ Some x → (x ≡ Offset r (pos 0)) ⊎ ((r ≡ 0) × (x ≡ Number (pos 0)))
        by true b q e = let k : Number (pos 0) ≡ x = cc in inr (eq_of r 0 q, sym k)
        by false true q e = let k : Offset r (pos 0) ≡ x = cc in inl (sym k)
        by false false q e = absurd (cc)

    unwritten : (m : Level) → LiesIn N l m → (r : ℕ) (x : Fact) → V m.header r ≡ Some x → IsUnwritten B m r
    unwritten m i r x e u h = not_true (writes B u r) (λ w. none (sym (fs.lost m i r (record { word = u; inside = h; does = w })) ∙ e))
      where
        none : None ≡ Some x → ⊥
        none q = absurd (cc)

    same_loop : (m k : Level) → Among N m → Among N k → m.header ≡ k.header → m ≡ k
    same_loop m k i j q =
        let b = nest.bodies in
        b.apart m k i j (subst (λ z. has k.body z ≡ true) (sym q) (b.header k j)) (subst (λ z. has m.body z ≡ true) q (b.header m i))

    inner : (m : Level) → LiesIn N l m → (r : ℕ) (x : Fact) → V m.header r ≡ Some x
        → ((u : ℕ) → has m.body u ≡ true → writes B u r ≡ false) × ((u : ℕ) → Edge N l.body u m.header → has m.body u ≡ false → fact_after B u (V u) r ≡ Some x)
    inner m i r x e = (unwritten m i r x e, from)
      where
        kept : IsKeptAt N B l m.header r
        kept k j q = subst (λ z. IsUnwritten B z r) (same_loop m k i.among j.among q) (unwritten m i r x e)

        differ : m.header ≢ l.header
        differ q = i.other (same_loop m l i.among among q)

        from : (u : ℕ) → Edge N l.body u m.header → has m.body u ≡ false → fact_after B u (V u) r ≡ Some x
        from u edge out =
            let b = nest.bodies in
            let whole : Edge N N.root.body u m.header = record { from = b.within l among u edge.from; to = b.within l among m.header edge.to; leads = edge.leads } in
            (fs.met m.header r x edge.to differ kept).0 e u (record { edge = edge; closes = (entering_edge N m u nest i.among whole out).closes })

    met : (v r : ℕ) (x : Fact) → has l.body v ≡ true → ((m : Level) → Among N m → v ≢ m.header) → V v r ≡ Some x → (u : ℕ) → Edge N l.body u v → fact_after B u (V u) r ≡ Some x
    met v r x h none e u edge =
        (fs.met v r x h (none l among) (λ m j q. absurd (none m j.among q))).0 e u (record { edge = edge; closes = λ k j w. none k j })

-- the visit at which a turn arrived
pub arrives_is : (l : Level) (s : State) (n : ℕ) → (run s n).next ≡ At (walk s n) → goes_at (λ pc. pc == l.header) (run s n).next ≡ (walk s n == l.header)
arrives_is l s n e = ap (goes_at (λ pc. pc == l.header)) e

arrival_is : (l : Level) (s : State) (n : ℕ) → ((m : ℕ) → m ≤ n → (run s m).next ≡ At (walk s m)) → arrived l (walk s) n ≡ arrival l s n
arrival_is l s zero at = refl
arrival_is l s (suc n) at =
    ap (λ b. if b then suc n else arrived l (walk s) n) (sym (arrives_is l s (suc n) (at (suc n) (omega arith))))
    ∙ ap (λ m. if goes_at (λ pc. pc == l.header) (run s (suc n)).next then suc n else m) (arrival_is l s n (λ m le. at m (omega arith)))

-- each location with a fact has the value that it gives
facts_at : (N : Nest) (B : LoopCode) (l : Level) (V : ℕ → ℕ → Option Fact) (s : State) (n : ℕ) → IsNest N → AreGiven N B → Among N l → AreFacts N B l V → AreCellWords l B
    → Executes l B s n → AreAtCells B.cells s n → LeavesCells B.cells s n → KeepsBits l B V s n → FactsHoldAt l B.cells V s n
facts_at N B l V s n nest given among fs uses e own leaves keeps r x k =
    subst (λ m. Alike (value_at B.cells s n r) (fact_value (value_at B.cells s m) x)) same
    ((seen_at N l (passing_of B) V (walk s) (value_at B.cells s) n nest among (are_passed N B l V nest among fs) (walks_in N B given l within s n e) (λ m. refl) does).holds r x k)
  where
    within : (y : ℕ) → has l.body y ≡ true → has N.root.body y ≡ true
    within = let b = nest.bodies in b.within l among

    same : arrived l (walk s) n ≡ arrival l s n
    same = arrival_is l s n (here_in N B given l within s n e)

    does : (m : ℕ) → arrived l (walk s) n ≤ m → m < n → Passes (passing_of B) V (walk s) (value_at B.cells s (arrived l (walk s) n)) (value_at B.cells s) m
    does m le lt =
        let v = visit_in N B given l within s n e m lt in
        let on = on_cells l B s n m uses own leaves lt (holds_in N B given l within s n e m (omega arith)) v (e.words m lt ∙ v.is) in
        record {
          right = λ holds r x f. fact_right_at B s m v on (V (walk s m)) (value_at B.cells s (arrived l (walk s) n)) holds r x
              (λ i w q z p. subst (λ j. IsOf32Bits (value_at B.cells s j q +ℤ z)) (sym same) (keeps m r q z (subst (λ j. j ≤ m) same le) lt i w (f ∙ ap Some p))) f;
          kept = kept_at B s m v on;
        }

pub fact_law : FactLaw
fact_law G ls nest words C l V s n among =
    facts_at (nest_of G nest.root nest.inner) (code_of G C) l V s n nest.nest (are_given G ls nest C words) among

arrives_at : (x : Next) (h : ℕ) → goes_at (λ pc. pc == h) x ≡ true → x ≡ At h
arrives_at x h e = goes_here (λ pc. pc == h) x e ∙ ap At (eq_of _ _ (goes_to (λ pc. pc == h) x e))

pub arrival_law : (l : Level) (s : State) (n : ℕ) → s.next ≡ At l.header → IsArrival l s (turn l s n) (arrival l s n) × (arrival l s n ≤ n)
arrival_law l s zero e = (record { at = e; turn = refl }, omega arith)
arrival_law l s (suc n) e = go (goes_at (λ pc. pc == l.header) (run s (suc n)).next) refl (arrival_law l s n e)
  where
    go : (b : Bool) → goes_at (λ pc. pc == l.header) (run s (suc n)).next ≡ b → IsArrival l s (turn l s n) (arrival l s n) × (arrival l s n ≤ n)
        → IsArrival l s (if b then suc (turn l s n) else turn l s n) (if b then suc n else arrival l s n) × ((if b then suc n else arrival l s n) ≤ suc n)
    go true f before = (
      record {
        at = arrives_at (run s (suc n)).next l.header f;
        turn = ap (λ b. if b then suc (turn l s n) else turn l s n) f;
      },
      omega arith,
    )
    go false f before = let le = before.1 in (before.0, omega arith)
