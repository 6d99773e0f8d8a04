-- How the bodies of the loops of an executable lie to each other.
use Rattle.std.proofs.Common.{◌≡◌, ◌≢◌, ℕ, ◌⊎◌, inl, inr, List, [], ◌∷◌, false, refl, sym, subst, arith}
use Rattle.std.specs.List.{Contains}
use Rattle.std.specs.List.Sorted.{IsStrictlyIncreasing}
use Rattle.std.proofs.lemmas.Bool.{cases_eq}
use Rattle.loop_data.specs.declared.graph.Graph.{Graph}
use Rattle.loop_data.specs.Paths.{Leads, IsWay, Reaches}
use Rattle.loop_data.specs.Starts.{AreFromStarts}
use Rattle.loop_data.specs.Sets.{HasCount}
use Rattle.loop_data.specs.Bodies.{InPart, IsClosed, IsHeader, InBody}
use Rattle.loop_data.specs.Shape.{IsInner, InNest, IsShaped, HasShape}
use Rattle.loop_data.specs.Early.{IsRound}
use Rattle.loop_data.specs.Nests.{has}
use Rattle.loop_data.proofs.Lists.{to_in, from_in}
use Rattle.loop_data.proofs.Ways.{stop}
use Rattle.loop_data.proofs.Tests.{yes_no}
use Rattle.loop_data.proofs.Steps.{leads_is, is_leads, contains_has}
use Rattle.loop_data.proofs.FromStarts.{from_starts}
use Rattle.loop_shapes.specs.Laws.{IsNestedIn, AreBodies, BodyLaw, ShapeLaw}
use Rattle.loop_shapes.proofs.PathGraphs.{IsPath, InPathBody}
use Rattle.loop_shapes.proofs.PathBodies.{has_head, before, passes, suffix, apart, meet, nested}
use Rattle.loop_shapes.proofs.Bridge.{tests, to_path, avoids, to_body, from_body, from_reaches, to_closed, to_reached, word_in}
use Rattle.loop_shapes.proofs.Counts.{Second, second, none}

-- the source of an edge is among its words
pub source_in : (G : Graph) (h u : ℕ) → InPart G h u u
source_in G h u = go (cases_eq u h)
  where
    go : (u ≡ h) ⊎ (u ≢ h) → InPart G h u u
    go (inl e) = inl e
    go (inr ne) = inr (stop (Leads G) (λ y. y ≢ h) u ne)

not_none : (n : ℕ) → n ≡ 2 → n ≡ 0 → ⊥
not_none n e f = absurd (omega arith)

one_rises : (x : ℕ) → IsStrictlyIncreasing (x ∷ [])
one_rises x k l = absurd (omega arith)

module _ (G : Graph) (starts : AreFromStarts G) where
  lies_in : (k h : ℕ) → k ≢ h → InBody G h k → IsNestedIn G k h
  lies_in k h ne b x i =
      record {
        source = b.source;
        closed = b.closed;
        part = from_body G h b.source x
            (nested (tests G) k i.source h b.source x (to_closed G k i.source starts i.closed) (to_closed G h b.source starts b.closed) ne
            (to_body G h b.source k b.part) (to_body G k i.source x i.part));
      }

  same : (h k : ℕ) → InBody G k h → InBody G h k → h ≡ k
  same h k b c =
      apart (tests G) h c.source k b.source (to_closed G h c.source starts c.closed) (to_closed G k b.source starts b.closed)
      (to_body G k b.source h b.part) (to_body G h c.source k c.part)

  meeting : (h k x : ℕ) → InBody G h x → InBody G k x → IsNestedIn G k h ⊎ IsNestedIn G h k
  meeting h k x b c = by (cases_eq h k)
    where
      one : h ≢ k → InPathBody (tests G) h b.source k ⊎ InPathBody (tests G) k c.source h → IsNestedIn G k h ⊎ IsNestedIn G h k
      one ne (inl i) = inl (lies_in k h (λ e. ne (sym e)) (record { source = b.source; closed = b.closed; part = from_body G h b.source k i }))
      one ne (inr i) = inr (lies_in h k ne (record { source = c.source; closed = c.closed; part = from_body G k c.source h i }))

      by : (h ≡ k) ⊎ (h ≢ k) → IsNestedIn G k h ⊎ IsNestedIn G h k
      by (inl e) = inl (λ y i. subst (λ z. InBody G z y) (sym e) i)
      by (inr ne) =
          one ne
          (meet (tests G) h b.source k c.source x (to_closed G h b.source starts b.closed) (to_closed G k c.source starts c.closed) ne
          (to_reached G x (starts x (word_in G h b.source x b.closed b.part))) (to_body G h b.source x b.part) (to_body G k c.source x c.part))

  no_header : (h k : ℕ) → IsInner G h k → InBody G k h → ⊥
  no_header h k i b = i.other (sym (same h k b i.inside))

  inner_again : (h k j : ℕ) → IsInner G h k → IsInner G k j → IsInner G h j
  inner_again h k j i m =
      record {
        header = m.header;
        inside = lies_in k h i.other i.inside j m.inside;
        other = λ e. no_header h k i (subst (InBody G k) e m.inside);
      }

  -- what follows the header on a way to the source is in the loop
  way_in : (h u : ℕ) → IsClosed G h u → (ws : List ℕ) (x : ℕ) → InBody G h x → IsPath (tests G) ws x u → has ws h ≡ false → IsWay (Leads G) (InBody G h) ws x u
  way_in h u c [] x b p f = (b, p)
  way_in h u c (z ∷ zs) x b p f = (
    b,
    is_leads G x z p.0,
    way_in h u c zs z
        (record { source = u; closed = c; part = inr (from_reaches G h z u (record { words = zs; path = p.1; avoids = f })) }) p.1 (has_head z h zs f).1,
  )

  from_header : (h u : ℕ) → IsClosed G h u → Reaches (Leads G) (InBody G h) h u
  from_header h u c =
      let r = to_reached G u (starts u (word_in G h u u c (source_in G h u))) in
      let p = passes (tests G) h u r.start u r.words (to_closed G h u starts c) r.starts r.path (to_body G h u u (source_in G h u)) in
      let l = suffix (tests G) r.words r.start u h r.path p in
      record { words = l.words; way = way_in h u c l.words h (record { source = u; closed = c; part = inl refl }) l.path l.avoids }

  entered : (h x y : ℕ) → Leads G x y → InBody G h y → (InBody G h x → ⊥) → y ≡ h
  entered h x y l b out = by (cases_eq y h)
    where
      by : (y ≡ h) ⊎ (y ≢ h) → y ≡ h
      by (inl e) = e
      by (inr ne) =
          absurd (out (record { source = b.source; closed = b.closed; part = from_body G h b.source x (before (tests G) h b.source x y (leads_is G x y l) ne (to_body G h b.source y b.part)) }))

  from_outside : (h s x : ℕ) → Contains G.starts s → InBody G h x → Reaches (Leads G) (λ y. y ≢ h) s x → ⊥
  from_outside h s x st b r =
      yes_no _ (passes (tests G) h b.source s x r.words (to_closed G h b.source starts b.closed) (contains_has G.starts s st)
      (to_path G (λ y. y ≢ h) r.words s x r.way) (to_body G h b.source x b.part)) (avoids G h r.words s x r.way)

  none_round : (h k : ℕ) → IsRound G h h k → ⊥
  none_round h k r = r.other (same k h r.nest.inside r.holds)

  -- of two loops round one the root is the one, and the other has the root alone round it
  between : (h m : ℕ) → InNest G h m → HasCount (IsRound G h m) 2 → (k : ℕ) × InNest G h k × HasCount (IsRound G h k) 1 × InBody G k m
  between h m n two = (s.other, s.holds.nest, record { members = h ∷ []; are = record { ordered = one_rises h; each = each; every = every }; count = refl }, s.holds.holds)
    where
      not_root : h ≢ m
      not_root e = not_none 2 refl (none (IsRound G h m) 2 two (λ x r. none_round h x (subst (λ y. IsRound G h y x) (sym e) r)))

      root_round : IsHeader G h → (k : ℕ) → InNest G h k → h ≢ k → IsRound G h k h
      root_round is k i ne = record { nest = record { header = is; inside = record { source = is.source; closed = is.closed; part = inl refl } }; other = ne; holds = i.inside }

      root_is : IsHeader G h
      root_is = record { source = n.inside.source; closed = n.inside.closed }

      s : Second (IsRound G h m) h
      s = second (IsRound G h m) h two (root_round root_is m n not_root)

      each : (x : ℕ) → Contains (h ∷ []) x → IsRound G h s.other x
      each x c = by (to_in (h ∷ []) x c)
        where
          by : (h ≡ x) ⊎ ⊥ → IsRound G h s.other x
          by (inl e) = subst (IsRound G h s.other) e (root_round root_is s.other s.holds.nest (λ q. s.differs (sym q)))
          by (inr i) = absurd i

      every : (x : ℕ) → IsRound G h s.other x → Contains (h ∷ []) x
      every x r = from_in (h ∷ []) x (by (s.only x round))
        where
          not_m : x ≢ m
          not_m e = s.holds.other (same s.other m (subst (λ y. InBody G y s.other) e r.holds) s.holds.holds)

          round : IsRound G h m x
          round = record { nest = r.nest; other = not_m; holds = lies_in s.other x (λ e. r.other (sym e)) r.holds m s.holds.holds }

          by : (x ≡ h) ⊎ (x ≡ s.other) → (h ≡ x) ⊎ ⊥
          by (inl e) = inl (sym e)
          by (inr e) = absurd (r.other e)

  bodies : AreBodies G
  bodies =
      record {
        meet = meeting;
        within = λ h k i. lies_in k h i.other i.inside;
        header = no_header;
        inner = inner_again;
        closed = from_header;
        entry = entered;
        start = from_outside;
        outermost = none_round;
        between = between;
      }

pub body_law : BodyLaw
body_law elf G g = bodies G (from_starts elf G g)

pub shape_law : ShapeLaw
shape_law elf G h g = (forth, back)
  where
    forth : HasShape G h → IsShaped G h × ((k : ℕ) → IsInner G h k → HasShape G k)
    forth s = (s.own, λ k i. record { own = s.inner k i; inner = λ j m. s.inner j (inner_again G (from_starts elf G g) h k j i m) })

    back : IsShaped G h × ((k : ℕ) → IsInner G h k → HasShape G k) → HasShape G h
    back s = record { own = s.0; inner = λ k i. (s.1 k i).own }
