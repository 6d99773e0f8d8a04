-- How the bodies of loops lie to each other.
use Rattle.std.proofs.Common.{◌≡◌, ◌≢◌, ℕ, ◌⊎◌, inl, inr, sym, subst}
use Rattle.std.specs.Bool.{⊤}
use Rattle.std.specs.List.{Contains}
use Rattle.std.proofs.lemmas.Bool.{cases_eq}
use Rattle.loop_data.specs.declared.graph.Graph.{Graph}
use Rattle.loop_data.specs.Paths.{Leads, IsWord, Reaches}
use Rattle.loop_data.specs.Bodies.{ReachesPast, InPart, IsClosed, InBody}
use Rattle.loop_data.specs.Starts.{FromStart, AreFromStarts}
use Rattle.loop_data.proofs.Ways.{stop, step, backward, forward, further, wider, starts_in, ends_in}

-- from h a step, and then a way that does not pass h again
record Onward (R : ℕ → ℕ → Type 0) (P : ℕ → Type 0) (h u : ℕ) : Type 0 where
  pub next : ℕ
  pub first : R h next
  pub way : Reaches R (λ y. P y × (y ≢ h)) next u

-- a way from the last time that it stands at h, if it does
abbrev Last : (ℕ → ℕ → Type 0) → (ℕ → Type 0) → ℕ → ℕ → ℕ → Type 0
Last R P h x u = Reaches R (λ y. P y × (y ≢ h)) x u ⊎ ((u ≡ h) ⊎ Onward R P h u)

last : (R : ℕ → ℕ → Type 0) (P : ℕ → Type 0) (h x u : ℕ) → Reaches R P x u → Last R P h x u
last R P h x u w = forward R P (Last R P h x) x (start (cases_eq x h)) next u w
  where
    start : (x ≡ h) ⊎ (x ≢ h) → Last R P h x x
    start (inl e) = inr (inl e)
    start (inr ne) = inl (stop R (λ y. P y × (y ≢ h)) x (starts_in x u w, ne))

    next : (y z : ℕ) → P y → R y z → P z → Last R P h x y → Last R P h x z
    next y z p r q l = by l (cases_eq z h)
      where
        by : Last R P h x y → (z ≡ h) ⊎ (z ≢ h) → Last R P h x z
        by l (inl e) = inr (inl e)
        by (inl v) (inr ne) = inl (further x y z v r (ends_in x y v) (q, ne))
        by (inr (inl e)) (inr ne) = inr (inr (record { next = z; first = subst (λ (k : ℕ). R k z) e r; way = stop R (λ y. P y × (y ≢ h)) z (q, ne) }))
        by (inr (inr o)) (inr ne) = inr (inr (record { next = o.next; first = o.first; way = further o.next y z o.way r (ends_in o.next y o.way) (q, ne) }))

-- backwards out of a part one comes only through its header
pub before : (G : Graph) (h u x y : ℕ) → Leads G x y → y ≢ h → InPart G h u y → InPart G h u x
before G h u x y lead ne (inl e) = absurd (ne e)
before G h u x y lead ne (inr r) = by (cases_eq x h)
  where
    by : (x ≡ h) ⊎ (x ≢ h) → InPart G h u x
    by (inl e) = inl e
    by (inr n) = inr (step (Leads G) (λ z. z ≢ h) x y u n lead r)

pub backwards : (G : Graph) (h u x y : ℕ) → ReachesPast G h x y → InPart G h u y → InPart G h u x
backwards G h u x y w p = backward (Leads G) (λ z. z ≢ h) (InPart G h u) y p (λ a b na lead nb q. before G h u a b lead nb q) x w

module _ (G : Graph) (all : AreFromStarts G) where
  -- a way from a start word into a part passes its header
  not_past : (h u s x : ℕ) → IsClosed G h u → Contains G.starts s → InPart G h u x → ReachesPast G h s x → ⊥
  not_past h u s x c start p w = starts_in s x w (c.entry s (backwards G h u s x w p) start)

  -- two headers do not lie in each other's parts: of a way to one, what leads to the first of the two passes
  -- not the other
  crossed : (h u k w : ℕ) → IsClosed G h u → IsClosed G k w → h ≢ k → InPart G k w h → InPart G h u k → ⊥
  crossed h u k w c d ne ih ik = end (backward (Leads G) (λ _. ⊤) Either h (inl (stop (Leads G) (λ z. z ≢ k) h ne)) prior e.start e.reaches)
    where
      e : FromStart G h
      e = all h c.word

      Either : ℕ → Type 0
      Either y = ReachesPast G k y h ⊎ ReachesPast G h y k

      prior : (x y : ℕ) → ⊤ → Leads G x y → ⊤ → Either y → Either x
      prior x y s lead t r = by (cases_eq x h) (cases_eq x k) r
        where
          by : (x ≡ h) ⊎ (x ≢ h) → (x ≡ k) ⊎ (x ≢ k) → Either y → Either x
          by (inl q) b r = inl (subst (λ (z : ℕ). ReachesPast G k z h) (sym q) (stop (Leads G) (λ z. z ≢ k) h ne))
          by (inr a) (inl q) r = inr (subst (λ (z : ℕ). ReachesPast G h z k) (sym q) (stop (Leads G) (λ z. z ≢ h) k (λ f. ne (sym f))))
          by (inr a) (inr b) (inl r) = inl (step (Leads G) (λ z. z ≢ k) x y h b lead r)
          by (inr a) (inr b) (inr r) = inr (step (Leads G) (λ z. z ≢ h) x y k a lead r)

      end : Either e.start → ⊥
      end (inl r) = not_past k w e.start h d e.starts ih r
      end (inr r) = not_past h u e.start k c e.starts ik r

  pub same_header : (h u k w : ℕ) → IsClosed G h u → IsClosed G k w → InPart G k w h → InPart G h u k → h ≡ k
  same_header h u k w c d ih ik = by (cases_eq h k)
    where
      by : (h ≡ k) ⊎ (h ≢ k) → h ≡ k
      by (inl e) = e
      by (inr ne) = absurd (crossed h u k w c d ne ih ik)

  -- where two parts meet, one holds the other's header
  pub meet : (h u k w x : ℕ) → IsClosed G h u → IsClosed G k w → IsWord G x → InPart G h u x → InPart G k w x → InPart G h u k ⊎ InPart G k w h
  meet h u k w x c d word ih ik = by (last (Leads G) (λ _. ⊤) h e.start x e.reaches)
    where
      e : FromStart G x
      e = all x word

      inner : (o : Onward (Leads G) (λ _. ⊤) h x) → Last (Leads G) (λ y. ⊤ × (y ≢ h)) k o.next x → InPart G h u k ⊎ InPart G k w h
      inner o (inl r) =
          let there = backwards G k w o.next x (wider (λ z. z ≢ k) (λ z p. p.1) o.next x r) ik in
          inr (before G k w h o.next o.first ((starts_in o.next x r).1) there)
      inner o (inr (inl q)) = inl (subst (InPart G h u) q ih)
      inner o (inr (inr m)) =
          let there = backwards G h u m.next x (wider (λ z. z ≢ h) (λ z p. p.0.1) m.next x m.way) ih in
          inl (before G h u k m.next m.first ((starts_in m.next x m.way).0.1) there)

      by : Last (Leads G) (λ _. ⊤) h e.start x → InPart G h u k ⊎ InPart G k w h
      by (inl r) = absurd (not_past h u e.start x c e.starts ih (wider (λ z. z ≢ h) (λ z p. p.1) e.start x r))
      by (inr (inl q)) = inr (subst (InPart G k w) q ik)
      by (inr (inr o)) = inner o (last (Leads G) (λ y. ⊤ × (y ≢ h)) k o.next x o.way)

  -- a part whose header lies in another one lies in that one whole
  pub nested : (h u k w x : ℕ) → IsClosed G h u → IsClosed G k w → h ≢ k → InPart G k w h → InPart G h u x → InPart G k w x
  nested h u k w x c d ne ih (inl e) = subst (InPart G k w) (sym e) ih
  nested h u k w x c d ne ih (inr r) = by (last (Leads G) (λ z. z ≢ h) k x u r)
    where
      by : Last (Leads G) (λ z. z ≢ h) k x u → InPart G k w x
      by (inl v) = backwards G k w x u (wider (λ z. z ≢ k) (λ z p. p.1) x u v) (before G k w u h c.edge ne ih)
      by (inr (inl q)) = absurd (crossed h u k w c d ne ih (inr (subst (λ (z : ℕ). ReachesPast G h z u) q (stop (Leads G) (λ z. z ≢ h) u (ends_in x u r)))))
      by (inr (inr m)) =
          let on = wider (λ z. z ≢ h) (λ z p. p.0) m.next u m.way in
          absurd (crossed h u k w c d ne ih (inr (step (Leads G) (λ z. z ≢ h) k m.next u (λ f. ne (sym f)) m.first on)))

  -- the same of bodies
  pub within : (h k x : ℕ) → InBody G k h → InBody G h x → InBody G k x
  within h k x a b = by (cases_eq h k)
    where
      by : (h ≡ k) ⊎ (h ≢ k) → InBody G k x
      by (inl e) = subst (λ (z : ℕ). InBody G z x) e b
      by (inr ne) = record { source = a.source; closed = a.closed; part = nested h b.source k a.source x b.closed a.closed ne a.part b.part }

  pub same_loop : (h k : ℕ) → InBody G k h → InBody G h k → h ≡ k
  same_loop h k a b = same_header h b.source k a.source b.closed a.closed a.part b.part

  pub one_within : (h k x : ℕ) → IsWord G x → InBody G h x → InBody G k x → InBody G h k ⊎ InBody G k h
  one_within h k x word a b = by (meet h a.source k b.source x a.closed b.closed word a.part b.part)
    where
      by : InPart G h a.source k ⊎ InPart G k b.source h → InBody G h k ⊎ InBody G k h
      by (inl p) = inl (record { source = a.source; closed = a.closed; part = p })
      by (inr p) = inr (record { source = b.source; closed = b.closed; part = p })
