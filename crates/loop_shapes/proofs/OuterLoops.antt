-- What is known of the outermost loops, and so of those in them.
use Rattle.std.proofs.Common.{◌≡◌, ◌≢◌, ℕ, ◌+◌, ◌<◌, ◌≤◌, ◌⊎◌, inl, inr, Bool, true, false, List, [], ◌∷◌, ◌++◌, length, get_or, replicate, refl, ap, sym, ◌∙◌, subst, arith}
use Rattle.std.proofs.lemmas.Bool.{cases_eq, cases_lt, false≢true}
use Rattle.std.proofs.lemmas.List.{get_or_append_left, get_or_push, length_push, get_or-replicate, length-replicate}
use Rattle.loop_data.specs.declared.graph.Graph.{Graph}
use Rattle.loop_data.specs.Bodies.{InBody, IsHeader}
use Rattle.loop_data.specs.Paths.{Reaches}
use Rattle.loop_data.specs.Sets.{HasAtMost}
use Rattle.loop_data.specs.Shape.{HasShape, IsForward, IsShaped}
use Rattle.loop_data.specs.Starts.{AreFromStarts}
use Rattle.loop_data.proofs.Ways.{stop, step, backward, ends_in}
use Rattle.loop_shapes.specs.Outer.{AreKnown, IsAcyclic, IsClean, IsSound, IsUnder, IsUnsound}
use Rattle.loop_shapes.specs.Places.{at, count_of}
use Rattle.loop_shapes.proofs.Nesting.{within}
use Rattle.loop_data.specs.Flows.{IsSet}

module _ (G : Graph) (all : AreFromStarts G) (flags : List Bool) (h : ℕ) (u : IsUnder G flags h) where
  outer : IsHeader G h → InBody G (at G u.place) h
  outer e = u.holds h (record { source = e.source; closed = e.closed; part = inl refl })

  wide : IsHeader G h → (x : ℕ) → InBody G h x → InBody G (at G u.place) x
  wide e x b = within G all h (at G u.place) x (outer e) b

  pub under_acyclic : AreKnown G (IsAcyclic G) flags → IsAcyclic G h
  under_acyclic k x c = k.each u.place u.within u.set x (record { next = c.next; step = forward x c.next c.step; rest = rest })
    where
      first : IsForward G h x c.next
      first = c.step

      e : IsHeader G h
      e = let b = first.from_inside in record { source = b.source; closed = b.closed }

      forward : (y z : ℕ) → IsForward G h y z → IsForward G (at G u.place) y z
      forward y z f = record { edge = f.edge; from_inside = wide e y f.from_inside; to_inside = wide e z f.to_inside; open_edge = f.open_edge }

      rest : Reaches (IsForward G (at G u.place)) (InBody G (at G u.place)) c.next x
      rest = backward (IsForward G h) (InBody G h) (λ z. Reaches (IsForward G (at G u.place)) (InBody G (at G u.place)) z x) x (stop (IsForward G (at G u.place)) (InBody G (at G u.place)) x (wide e x (ends_in c.next x c.rest))) (λ y z p r q t. step (IsForward G (at G u.place)) (InBody G (at G u.place)) y z x (wide e y p) (forward y z r) t) c.next c.rest

  shaped_in : HasShape G (at G u.place) → IsHeader G h → (k : ℕ) → IsHeader G k → InBody G h k → IsShaped G k
  shaped_in s e k j b = by (cases_eq k (at G u.place))
    where
      by : (k ≡ at G u.place) ⊎ (k ≢ at G u.place) → IsShaped G k
      by (inl q) = subst (IsShaped G) (sym q) s.own
      by (inr ne) = s.inner k (record { header = j; inside = wide e k b; other = ne })

  pub under_sound : AreKnown G (IsSound G) flags → ¬ IsUnsound G h
  under_sound k n =
      let e = n.header in
      let b = outer e in
      k.each u.place u.within u.set (record { header = record { source = b.source; closed = b.closed }; shape = λ s. n.shape (record { own = shaped_in s e h e (record { source = e.source; closed = e.closed; part = inl refl }); inner = λ j i. shaped_in s e j i.header i.inside }) })

  pub under_clean : AreKnown G (IsClean G) flags → IsHeader G h → HasAtMost 256 (InBody G h) → IsClean G h
  under_clean k e short =
      let c = k.each u.place u.within u.set in
      let p = c.plain in
      record {
        plain = record {
          short = short;
          no_call = λ x w. p.no_call x (record { inside = wide e x w.inside; holds = w.holds });
          no_system = λ x w. p.no_system x (record { inside = wide e x w.inside; holds = w.holds });
          no_indirect = λ x w. p.no_indirect x (record { inside = wide e x w.inside; holds = w.holds });
          no_unsupported = λ x w. p.no_unsupported x (record { inside = wide e x w.inside; holds = w.holds });
        };
        shaped = λ j m. c.shaped j (record { nest = record { header = m.nest.header; inside = wide e j m.nest.inside }; shape = m.shape });
      }

-- what is known of the loops before a place
pub record AreKnownBelow (G : Graph) (P : ℕ → Type 0) (n : ℕ) (flags : List Bool) : Type 0 where
  pub count : length flags ≡ n
  pub each : (i : ℕ) → i < n → IsSet flags i → P (at G i)

pub known_none : (G : Graph) (P : ℕ → Type 0) (flags : List Bool) → flags ≡ [] → AreKnownBelow G P 0 flags
known_none G P flags e = record { count = ap length e; each = λ i l. absurd (omega arith) }

pub known_push : (G : Graph) (P : ℕ → Type 0) (n : ℕ) (old new : List Bool) (b : Bool) → new ≡ old ++ b ∷ [] → (b ≡ true → P (at G n)) → AreKnownBelow G P n old → AreKnownBelow G P (n + 1) new
known_push G P n old new b e f k = subst (AreKnownBelow G P (n + 1)) (sym e) (record { count = length_push old b ∙ ap (λ m. m + 1) k.count; each = λ i l. by i l (cases_lt i n) })
  where
    by : (i : ℕ) → i < n + 1 → (i < n) ⊎ (n ≤ i) → IsSet (old ++ b ∷ []) i → P (at G i)
    by i l (inl m) s = let c = k.count in k.each i m (sym (get_or_append_left old (b ∷ []) false i (omega arith)) ∙ s)
    by i l (inr m) s =
        let same : n ≡ i = omega arith in
        subst (λ (j : ℕ). P (at G j)) same (f (sym (get_or_push old b false i (k.count ∙ same)) ∙ s))

pub known_all : (G : Graph) (P : ℕ → Type 0) (n : ℕ) (flags : List Bool) → n ≡ count_of G → AreKnownBelow G P n flags → AreKnown G P flags
known_all G P n flags e k = record { count = k.count ∙ e; each = λ i l. k.each i (subst (λ (m : ℕ). i < m) (sym e) l) }

pub known_unset : (G : Graph) (P : ℕ → Type 0) (n : ℕ) (flags : List Bool) → n ≡ count_of G → flags ≡ replicate n false → AreKnown G P flags
known_unset G P n flags e f = record { count = ap length f ∙ length-replicate n false ∙ e; each = λ i l s. absurd (false≢true (sym (get_or-replicate n i false false (subst (λ (m : ℕ). i < m) (sym e) l)) ∙ ap (λ (bs : List Bool). get_or bs i false) (sym f) ∙ s)) }
