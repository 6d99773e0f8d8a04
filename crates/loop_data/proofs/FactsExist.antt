-- The equations of the pass over a loop have a solution: the facts computed along an order of its words.
use Rattle.std.proofs.Common.{◌≡◌, ◌≢◌, ℕ, zero, suc, ◌<◌, ◌⊎◌, ◌↔◌, inl, inr, ◌==◌, ◌&&◌, Bool, true, false, if◌then◌else◌, Option, Some, None, ℤ, pos, negsuc, refl, ap, sym, ◌∙◌, subst, arith}
use Rattle.std.proofs.lemmas.Bool.{cases_eq}
use mathlib.Core.Path.{fun_ext}
use Rattle.loop_data.specs.declared.shape.Level.{Level}
use Rattle.loop_data.specs.Nests.{Nest, has, levels, Among, Holds, IsNest}
use Rattle.loop_data.specs.LoopCode.{LoopCode, IsWritten, IsForwardIn, LiesIn}
use Rattle.loop_data.specs.Facts.{Fact, Number, Offset, fact_after}
use Rattle.loop_data.specs.FactPass.{header_fact, IsKeptAt, AreFacts}
use Rattle.loop_data.specs.Flows.{closes_one}
use Rattle.loop_data.specs.ValueStates.{lost_by}
use Rattle.loop_data.proofs.Tests.{eq_of, is_eq, is_ne, true_or_false, and_true, true_and, not_true}
use Rattle.loop_data.proofs.Agreement.{meet, met, meet_same}
use Rattle.loop_data.proofs.FlowEdges.{closes_none, none_closes}
use Rattle.loop_data.proofs.FactUnique.{none_writes_it, some_writes_it, lost_somewhere, lost_nowhere}

-- whether two facts are the same
abbrev same_int : ℤ → ℤ → Bool
same_int (pos a) (pos b) = a == b
same_int (pos a) (negsuc b) = false
same_int (negsuc a) (pos b) = false
same_int (negsuc a) (negsuc b) = a == b

int_of : (a b : ℤ) → same_int a b ≡ true → a ≡ b
int_of (pos a) (pos b) e = ap pos (eq_of a b e)
int_of (pos a) (negsuc b) e = absurd (cc)
int_of (negsuc a) (pos b) e = absurd (cc)
int_of (negsuc a) (negsuc b) e = ap negsuc (eq_of a b e)

int_self : (a : ℤ) → same_int a a ≡ true
int_self (pos a) = is_eq a a refl
int_self (negsuc a) = is_eq a a refl

abbrev same_fact : Option Fact → Option Fact → Bool
same_fact None None = true
same_fact None (Some y) = false
same_fact (Some x) None = false
same_fact (Some (Number a)) (Some (Number b)) = same_int a b
same_fact (Some (Number a)) (Some (Offset q b)) = false
same_fact (Some (Offset p a)) (Some (Number b)) = false
same_fact (Some (Offset p a)) (Some (Offset q b)) = (p == q) && same_int a b

offset_same : (p q : ℕ) (a b : ℤ) → p ≡ q → a ≡ b → Some (Offset p a) ≡ Some (Offset q b)
offset_same p q a b e f = ap (λ n. Some (Offset n a)) e ∙ ap (λ z. Some (Offset q z)) f

fact_is : (o p : Option Fact) → same_fact o p ≡ true → o ≡ p
fact_is None None e = refl
fact_is None (Some y) e = absurd (cc)
fact_is (Some x) None e = absurd (cc)
fact_is (Some (Number a)) (Some (Number b)) e = ap (λ z. Some (Number z)) (int_of a b e)
fact_is (Some (Number a)) (Some (Offset q b)) e = absurd (cc)
fact_is (Some (Offset p a)) (Some (Number b)) e = absurd (cc)
fact_is (Some (Offset p a)) (Some (Offset q b)) e =
    let h = and_true (p == q) (same_int a b) e in offset_same p q a b (eq_of p q h.0) (int_of a b h.1)

fact_self : (o : Option Fact) → same_fact o o ≡ true
fact_self None = refl
fact_self (Some (Number a)) = int_self a
fact_self (Some (Offset p a)) = true_and (p == p) (same_int a a) (is_eq p p refl) (int_self a)

-- the edge closes no loop
abbrev pub is_forward : Nest → Level → ℕ → ℕ → Bool
is_forward N l v u = has l.body u && (has l.body v && (N.leads u v && (if closes_one (levels N) u v then false else true)))

-- the facts of a word, by so many steps along the order
abbrev facts_by : Nest → LoopCode → Level → ℕ → ℕ → ℕ → Option Fact
facts_by N B l zero v r = None
facts_by N B l (suc n) v r =
    if v == l.header then header_fact B r else
    if lost_by B (levels N) v r then None else
    meet same_fact fact_is fact_self (is_forward N l v) (λ u. fact_after B u (facts_by N B l n u) r) l.body

open_edge : (b : Bool) → (if b then false else true) ≡ true → b ≡ false
open_edge true e = absurd (cc)
open_edge false e = refl

module _ (N : Nest) (B : LoopCode) (l : Level) (nest : IsNest N) (among : Among N l) where
  pub forward : (u v : ℕ) → is_forward N l v u ≡ true → IsForwardIn N l.body u v
  forward u v t =
      let a = and_true (has l.body u) _ t in
      let b = and_true (has l.body v) _ a.1 in
      let c = and_true (N.leads u v) _ b.1 in
      record { edge = record { from = a.0; to = b.0; leads = c.0 }; closes = closes_none (levels N) u v (open_edge _ c.1) }

  pub passes : (u v : ℕ) → IsForwardIn N l.body u v → is_forward N l v u ≡ true
  passes u v f =
      true_and _ _ f.edge.from (true_and _ _ f.edge.to (true_and _ _ f.edge.leads
      (ap (λ b. if b then false else true) (none_closes (levels N) u v f.closes))))

  abbrev rank : ℕ → ℕ
  rank = nest.shapes.ranked.rank

  pub rises : (u v : ℕ) → IsForwardIn N l.body u v → rank u < rank v
  rises u v f = nest.shapes.ranked.is.up u v (record { from = nest.bodies.within l among u f.edge.from; to = nest.bodies.within l among v f.edge.to; leads = f.edge.leads }) f.closes

  -- more steps than the place in the order change nothing
  stable : (n m v : ℕ) → rank v < n → rank v < m → facts_by N B l n v ≡ facts_by N B l m v
  stable zero m v low high = absurd (omega arith)
  stable (suc n) zero v low high = absurd (omega arith)
  stable (suc n) (suc m) v low high = fun_ext (λ r.
      ap (λ (o : Option Fact). if v == l.header then header_fact B r else if lost_by B (levels N) v r then None else o)
      (meet_same same_fact fact_is fact_self (is_forward N l v) (λ u. fact_after B u (facts_by N B l n u) r) (λ u. fact_after B u (facts_by N B l m u) r) l.body
      (λ u h t. ap (λ S. fact_after B u S r) (stable n m u (let k = rises u v (forward u v t) in omega arith) (let k = rises u v (forward u v t) in omega arith)))))

  abbrev found : ℕ → ℕ → Option Fact
  found v = facts_by N B l (suc (rank v)) v

  -- each word but the header has a word before it
  pub led : (v : ℕ) → Holds l v → v ≢ l.header → (u : ℕ) × IsForwardIn N l.body u v
  led v h ne = by (cases_eq v N.root.header)
    where
      inside : (w : ℕ) → IsForwardIn N N.root.body w v → IsForwardIn N l.body w v
      inside w f = go (true_or_false (has l.body w))
        where
          go : (has l.body w ≡ true) ⊎ (has l.body w ≡ false) → IsForwardIn N l.body w v
          go (inl i) = record { edge = record { from = i; to = h; leads = f.edge.leads }; closes = f.closes }
          go (inr o) = absurd (ne (nest.bodies.enter l among w v f.edge o h))

      by : (v ≡ N.root.header) ⊎ (v ≢ N.root.header) → (u : ℕ) × IsForwardIn N l.body u v
      by (inl e) = absurd (ne (subst (λ z. z ≡ l.header) (sym e) (root_first e)))
        where
          root_first : v ≡ N.root.header → N.root.header ≡ l.header
          root_first q = go among
            where
              go : Among N l → N.root.header ≡ l.header
              go (inl s) = ap (λ (z : Level). z.header) s
              go (inr i) =
                  let same = nest.bodies.apart N.root l (inl refl) among (subst (λ z. Holds l z) q h) (nest.bodies.within l among l.header (nest.bodies.header l among)) in
                  ap (λ (z : Level). z.header) same
      by (inr other) =
          let e = nest.shapes.entered v (nest.bodies.within l among v h) other in
          (e.from, inside e.from (record { edge = e.edge; closes = λ m i k q. let out = e.outside m i q in absurd (cc) }))

  lies : (v : ℕ) (m : Level) → Among N m → Holds l v → v ≢ l.header → v ≡ m.header → LiesIn N l m
  lies v m i h ne e = record { among = i; header = subst (λ u. has l.body u ≡ true) e h; other = λ q. ne (e ∙ ap (λ (z : Level). z.header) q) }

  -- past the header and what is lost, the facts are the meet
  met_at : (v r : ℕ) → v ≢ l.header → lost_by B (levels N) v r ≡ false
      → found v r ≡ meet same_fact fact_is fact_self (is_forward N l v) (λ u. fact_after B u (facts_by N B l (rank v) u) r) l.body
  met_at v r ne kept =
      ap (λ b. if b then header_fact B r else if lost_by B (levels N) v r then None else meet same_fact fact_is fact_self (is_forward N l v) (λ u. fact_after B u (facts_by N B l (rank v) u) r) l.body) (is_ne v l.header ne)
      ∙ ap (λ b. if b then None else meet same_fact fact_is fact_self (is_forward N l v) (λ u. fact_after B u (facts_by N B l (rank v) u) r) l.body) kept

  header_is : (r : ℕ) → found l.header r ≡ header_fact B r
  header_is r = ap (λ b. if b then header_fact B r else if lost_by B (levels N) l.header r then None else meet same_fact fact_is fact_self (is_forward N l l.header) (λ u. fact_after B u (facts_by N B l (rank l.header) u) r) l.body) (is_eq l.header l.header refl)

  lost_is : (m : Level) → LiesIn N l m → (r : ℕ) → IsWritten B m r → found m.header r ≡ None
  lost_is m i r w =
      ap (λ b. if b then header_fact B r else if lost_by B (levels N) m.header r then None else meet same_fact fact_is fact_self (is_forward N l m.header) (λ u. fact_after B u (facts_by N B l (rank m.header) u) r) l.body) (is_ne m.header l.header differ)
      ∙ ap (λ b. if b then None else meet same_fact fact_is fact_self (is_forward N l m.header) (λ u. fact_after B u (facts_by N B l (rank m.header) u) r) l.body) (by (true_or_false (lost_by B (levels N) m.header r)))
    where
      differ : m.header ≢ l.header
      differ e = i.other (nest.bodies.apart m l i.among among i.header (subst (λ z. Holds m z) e (nest.bodies.header m i.among)))

      by : (lost_by B (levels N) m.header r ≡ true) ⊎ (lost_by B (levels N) m.header r ≡ false) → lost_by B (levels N) m.header r ≡ true
      by (inl t) = t
      by (inr f) = let none = none_writes_it B m.body r w.word (lost_nowhere B (levels N) m.header r f m i.among refl) w.inside in let does = w.does in absurd (cc)

  met_is : (v r : ℕ) (x : Fact) → Holds l v → v ≢ l.header → IsKeptAt N B l v r
      → (found v r ≡ Some x) ↔ ((u : ℕ) → IsForwardIn N l.body u v → fact_after B u (found u) r ≡ Some x)
  met_is v r x h ne kept = (forth, back)
    where
      not_lost : lost_by B (levels N) v r ≡ false
      not_lost = not_true _ (λ t.
          let s = lost_somewhere B (levels N) v r t in
          let w = some_writes_it B (s.0).body r s.3 in
          let none = kept s.0 (lies v s.0 s.1 h ne s.2) s.2 w.0 w.1 in
          let does = w.2 in absurd (cc))

      source : (u : ℕ) × IsForwardIn N l.body u v
      source = led v h ne

      law : (meet same_fact fact_is fact_self (is_forward N l v) (λ u. fact_after B u (facts_by N B l (rank v) u) r) l.body ≡ Some x)
          ↔ ((u : ℕ) → has l.body u ≡ true → is_forward N l v u ≡ true → fact_after B u (facts_by N B l (rank v) u) r ≡ Some x)
      law = met same_fact fact_is fact_self (is_forward N l v) (λ u. fact_after B u (facts_by N B l (rank v) u) r) l.body source.0 source.1.edge.from (passes source.0 v source.1) x

      same : (u : ℕ) → IsForwardIn N l.body u v → facts_by N B l (rank v) u ≡ found u
      same u f = stable (rank v) (suc (rank u)) u (rises u v f) (omega arith)

      forth : found v r ≡ Some x → (u : ℕ) → IsForwardIn N l.body u v → fact_after B u (found u) r ≡ Some x
      forth e u f =
          subst (λ S. fact_after B u S r ≡ Some x) (same u f)
          (law.0 (sym (met_at v r ne not_lost) ∙ e) u f.edge.from (passes u v f))

      back : ((u : ℕ) → IsForwardIn N l.body u v → fact_after B u (found u) r ≡ Some x) → found v r ≡ Some x
      back all = met_at v r ne not_lost
          ∙ law.1 (λ u k t. subst (λ S. fact_after B u S r ≡ Some x) (sym (same u (forward u v t))) (all u (forward u v t)))

  pub facts_exist : (V : ℕ → ℕ → Option Fact) × AreFacts N B l V
  facts_exist = (found, record { header = header_is; lost = lost_is; met = met_is })
