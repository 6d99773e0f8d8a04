-- The turns of the root in a run, up to the one that leaves it.
use Rattle.std.proofs.Common.{◌≡◌, ℕ, zero, suc, ◌<◌, ◌≤◌, ◌⊎◌, inl, inr, Bool, true, false, Option, refl, ap, sym, ◌∙◌, subst, arith, if◌then◌else◌, ◌==◌, List}
use Rattle.std.proofs.lemmas.Bool.{cases_lt}
use Rattle.rv64_decode.specs.Ask.{answer}
use Rattle.rv64_decode.specs.Row.{asks}
use Rattle.rv64_decode.specs.declared.outcome.Next.{Next}
use Rattle.rv64_decode.specs.declared.outcome.Next.TheVariants.{At, Call, Fault as Faulting}
use Rattle.linear_forms.specs.Forms.{LinearForm}
use Rattle.loop_data.specs.declared.graph.Graph.{Graph}
use Rattle.loop_data.specs.declared.shape.Level.{Level}
use Rattle.loop_data.specs.Nests.{Nest, has, nest_of}
use Rattle.loop_data.specs.LoopWords.{AreNest}
use Rattle.loop_data.specs.Runs.{State, run, step, stepped, walk, goes_at, pc_in}
use Rattle.loop_data.specs.Turns.{arrives, turn, Leaves, Stays}
use Rattle.loop_data.specs.Locations.{CellMap}
use Rattle.loop_data.specs.LoopCode.{LoopCode, code_of}
use Rattle.loop_data.specs.Holds.{HoldsAt, FormsHold}
use Rattle.loop_data.specs.Executing.{AreProgramWords, Executes}
use Rattle.loop_data.proofs.Tests.{eq_of, ne_of, yes_no}
use Rattle.loop_data.proofs.NestVisits.{AreGiven, are_given, here, holds_word, step_is, leads_there}
use Rattle.trip_counts.specs.TripLaws.{Tells, StaysUntil, Follows, IsNumberOfStays}
use Rattle.trip_counts.proofs.Exits.{turn_told}

-- a run that does not go on never goes on
step_call : (s : State) → s.next ≡ Call → (step s).next ≡ Call
unfolding step
step_call s e = ap (λ n. (stepped n s.regs s.memory).next) e

step_fault : (s : State) (kind : Rattle.rv64_decode.specs.declared.outcome.Fault.Fault) (addr : ℕ) → s.next ≡ Faulting kind addr → (step s).next ≡ Faulting kind addr
unfolding step
step_fault s kind addr e = ap (λ n. (stepped n s.regs s.memory).next) e

-- turns do not go back
turn_step : (l : Level) (s : State) (n : ℕ) → turn l s n ≤ turn l s (suc n)
turn_step l s n = go (arrives l s (suc n))
  where
    go : (b : Bool) → turn l s n ≤ (if b then suc (turn l s n) else turn l s n)
    go true = omega arith
    go false = omega arith

turn_rises : (l : Level) (s : State) (k m : ℕ) → k ≤ m → turn l s k ≤ turn l s m
turn_rises l s k zero le = let z : k ≡ 0 = omega arith in subst (λ i. turn l s i ≤ 0) (sym z) (omega arith)
turn_rises l s k (suc m) le = go (cases_lt k (suc m)) (λ lt. turn_rises l s k m lt)
  where
    go : (k < suc m) ⊎ (suc m ≤ k) → (k ≤ m → turn l s k ≤ turn l s m) → turn l s k ≤ turn l s (suc m)
    go (inl lt) later = let a = later (omega arith) in let b = turn_step l s m in omega arith
    go (inr ge) later = let e : k ≡ suc m = omega arith in subst (λ i. turn l s k ≤ turn l s i) e (omega arith)

-- a run has left the root before a visit
record HasLeft (N : Nest) (B : LoopCode) (s : State) (m : ℕ) : Type 0 where
  pub visit : ℕ
  pub before : visit < m
  pub executes : Executes N.root B s visit
  pub exit : (run s visit).next ≡ At N.root.exit
  pub out : goes_at (has N.root.body) (run s (suc visit)).next ≡ false

module _ (G : Graph) (ls : List Level) (nest : AreNest G ls) (words : AreProgramWords G) (C : CellMap) (s : State) (n : ℕ) (follows : Follows (nest_of G nest.root nest.inner) (code_of G C) s n) where
  given : AreGiven (nest_of G nest.root nest.inner) (code_of G C)
  given = are_given G ls nest C words

  begin : Executes nest.root (code_of G C) s 0
  begin =
      record {
        start = follows.start;
        registers = follows.registers;
        bytes = follows.bytes;
        inside = λ k le. let z : k ≡ 0 = omega arith in subst (λ i. goes_at (has nest.root.body) (run s i).next ≡ true) (sym z) (subst (λ x. goes_at (has nest.root.body) x ≡ true) (sym follows.start) (nest.nest.bodies.header nest.root (inl refl)));
        words = λ k lt. absurd (omega arith);
      }

  early : (k m : ℕ) → k ≤ m → turn nest.root s m ≤ n → turn nest.root s k ≤ n
  early k m le bound = let r = turn_rises nest.root s k m le in omega arith

  on : (m : ℕ) → turn nest.root s m ≤ n → Executes nest.root (code_of G C) s m → goes_at (has nest.root.body) (run s (suc m)).next ≡ true → Executes nest.root (code_of G C) s (suc m)
  on m bound e inside =
      record {
        start = e.start;
        registers = e.registers;
        bytes = e.bytes;
        inside = λ k le. each k le (cases_lt k (suc m));
        words = λ k lt. follows.words k (early k m (omega arith) bound) (e.inside k (omega arith));
      }
    where
      each : (k : ℕ) → k ≤ suc m → (k < suc m) ⊎ (suc m ≤ k) → goes_at (has nest.root.body) (run s k).next ≡ true
      each k le (inl lt) = e.inside k (omega arith)
      each k le (inr ge) = let q : suc m ≡ k = omega arith in subst (λ i. goes_at (has nest.root.body) (run s i).next ≡ true) q inside

  -- a visit after which the run is elsewhere is at the exit branch
  leaving : (m v : ℕ) → turn nest.root s m ≤ n → Executes nest.root (code_of G C) s m → (run s (suc m)).next ≡ At v → goes_at (has nest.root.body) (run s (suc m)).next ≡ false → (run s m).next ≡ At nest.root.exit
  leaving m v bound e q out = go (walk s m == nest.root.exit) refl
    where
      at_here : (run s m).next ≡ At (walk s m)
      at_here = here (nest_of G nest.root nest.inner) (code_of G C) given s m e m (omega arith)

      holds : has nest.root.body (walk s m) ≡ true
      holds = holds_word (nest_of G nest.root nest.inner) (code_of G C) given s m e m (omega arith)

      leads : (nest_of G nest.root nest.inner).leads (walk s m) v ≡ true
      leads =
          let w = given (walk s m) holds in
          let next = step_is (run s m) (walk s m) w.does at_here (follows.words m bound (e.inside m (omega arith)) ∙ w.is) in
          w.leads v (leads_there w.does (walk s m) v (run s m).regs (answer (run s m).memory (asks w.does (run s m).regs)) w.plain (sym (ap (λ (x : State). x.next) next) ∙ q))

      go : (b : Bool) → (walk s m == nest.root.exit) ≡ b → (run s m).next ≡ At nest.root.exit
      go true f = at_here ∙ ap At (eq_of (walk s m) nest.root.exit f)
      go false f =
          let inside = nest.nest.shapes.stays_in nest.root (inl refl) (walk s m) v holds (ne_of (walk s m) nest.root.exit f) leads in
          absurd (yes_no _ inside (subst (λ x. goes_at (has nest.root.body) x ≡ false) q out))

  -- a run that still goes on has been in the root so far, or has left it
  so_far : (m v : ℕ) → turn nest.root s m ≤ n → (run s m).next ≡ At v → Executes nest.root (code_of G C) s m ⊎ HasLeft (nest_of G nest.root nest.inner) (code_of G C) s m
  so_far zero v bound q = inl begin
  so_far (suc m) v bound q = before (run s m).next refl (λ u f. so_far m u (early m (suc m) (omega arith) bound) f)
    where
      low : turn nest.root s m ≤ n
      low = early m (suc m) (omega arith) bound

      after : Executes nest.root (code_of G C) s m ⊎ HasLeft (nest_of G nest.root nest.inner) (code_of G C) s m
          → Executes nest.root (code_of G C) s (suc m) ⊎ HasLeft (nest_of G nest.root nest.inner) (code_of G C) s (suc m)
      after (inr h) = inr (record { visit = h.visit; before = let b = h.before in omega arith; executes = h.executes; exit = h.exit; out = h.out })
      after (inl e) = go (goes_at (has nest.root.body) (run s (suc m)).next) refl
        where
          go : (b : Bool) → goes_at (has nest.root.body) (run s (suc m)).next ≡ b → Executes nest.root (code_of G C) s (suc m) ⊎ HasLeft (nest_of G nest.root nest.inner) (code_of G C) s (suc m)
          go true f = inl (on m low e f)
          go false f = inr (record { visit = m; before = omega arith; executes = e; exit = leaving m v low e q f; out = f })

      before : (x : Next) → (run s m).next ≡ x → ((u : ℕ) → (run s m).next ≡ At u → Executes nest.root (code_of G C) s m ⊎ HasLeft (nest_of G nest.root nest.inner) (code_of G C) s m)
          → Executes nest.root (code_of G C) s (suc m) ⊎ HasLeft (nest_of G nest.root nest.inner) (code_of G C) s (suc m)
      before (At u) f later = after (later u f)
      before Call f later = let k = sym (step_call (run s m) f) ∙ q in absurd (cc)
      before (Faulting kind addr) f later = let k = sym (step_fault (run s m) kind addr f) ∙ q in absurd (cc)

  module _ (at : ℕ → ℕ → Option LinearForm) (tells : Tells G C at nest.root s n) (forms : FormsHold (nest_of G nest.root nest.inner) C at s n) where
    told : (m : ℕ) → turn nest.root s m ≤ n → Executes nest.root (code_of G C) s m → (run s m).next ≡ At nest.root.exit → HoldsAt (nest_of G nest.root nest.inner) C at s m → StaysUntil nest.root s m (turn nest.root s m) n
    told m bound e q holds =
        turn_told G ls nest words C at s m n tells
        (record { executes = e; word = follows.words m bound (e.inside m (omega arith)); exit = ap pc_in q; holds = holds })

    clash : (m : ℕ) → Executes nest.root (code_of G C) s m → turn nest.root s m < n → (run s m).next ≡ At nest.root.exit → goes_at (has nest.root.body) (run s (suc m)).next ≡ false → ⊥
    clash m e lt q out = yes_no _ ((told m (omega arith) e q (forms m lt (e.inside m (omega arith)))).stays lt) out

    below : (m : ℕ) → turn nest.root s m < n → Leaves nest.root s m → ⊥
    below m lt leaves = go (so_far m nest.root.exit (omega arith) leaves.exit)
      where
        go : Executes nest.root (code_of G C) s m ⊎ HasLeft (nest_of G nest.root nest.inner) (code_of G C) s m → ⊥
        go (inl e) = clash m e lt leaves.exit leaves.out
        go (inr h) =
            let b = h.before in
            let r = turn_rises nest.root s h.visit m (omega arith) in
            clash h.visit h.executes (omega arith) h.exit h.out

    stays : (m : ℕ) → turn nest.root s m ≡ n → (run s m).next ≡ At nest.root.exit → HoldsAt (nest_of G nest.root nest.inner) C at s m → Stays nest.root s n
    stays m t q holds = go (so_far m nest.root.exit (omega arith) q)
      where
        go : Executes nest.root (code_of G C) s m ⊎ HasLeft (nest_of G nest.root nest.inner) (code_of G C) s m → Stays nest.root s n
        go (inl e) = record { at = m; number = t; leaves = record { exit = q; out = (told m (omega arith) e q holds).leaves t }; first = below }
        go (inr h) =
            let b = h.before in
            let r = turn_rises nest.root s h.visit m (omega arith) in
            by (cases_lt (turn nest.root s h.visit) n) (omega arith)
          where
            by : (turn nest.root s h.visit < n) ⊎ (n ≤ turn nest.root s h.visit) → turn nest.root s h.visit ≤ n → Stays nest.root s n
            by (inl lt) le = absurd (clash h.visit h.executes lt h.exit h.out)
            by (inr ge) le = record { at = h.visit; number = omega arith; leaves = record { exit = h.exit; out = h.out }; first = below }

    pub stays_told : IsNumberOfStays (nest_of G nest.root nest.inner) C at s n
    stays_told = record { below = below; stays = stays }
