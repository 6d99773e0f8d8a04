-- Loops that have not the shape.
use Rattle.std.proofs.Common.{◌≡◌, ◌≢◌, ℕ, ◌≤◌, ◌⊎◌, ◌↔◌, inl, inr, Bool, true, false, List, length, refl, sym, subst}
use Rattle.std.proofs.lemmas.Bool.{cases_eq, false≢true}
use Rattle.loop_data.specs.declared.graph.Graph.{Graph}
use Rattle.loop_data.specs.Bodies.{IsHeader, InPart, InBody}
use Rattle.loop_data.specs.Early.{IsMisshapen}
use Rattle.loop_shapes.specs.Outer.{IsUnsound}
use Rattle.loop_shapes.specs.Marks.{ArePlacesShaped}
use Rattle.loop_shapes.specs.Net.{AreAt, HasBody}
use Rattle.loop_shapes.specs.Places.{at}
use Rattle.loop_data.specs.Sets.{HasAtMost}
use Rattle.loop_data.specs.Shape.{IsShaped, HasShape}

-- the body of a loop that has the shape is small
pub shaped_small : (G : Graph) (h : ℕ) → IsShaped G h → HasAtMost 256 (InBody G h)
shaped_small G h s =
    let b = s.shape.one_back in
    let m = b.closed.small in
    record { members = m.members; bound = m.bound; all = λ x i. m.all x (subst (λ (u : ℕ). InPart G h u x) (b.only i.source i.closed) i.part) }

pub body_there : (small : Bool) (G : Graph) (h : ℕ) (found : List ℕ) → small ≡ true → HasBody small G h found → (length found ≤ 256) × AreAt G (InBody G h) found
body_there true G h found e b = b
body_there false G h found e b = absurd (false≢true e)

pub body_large : (small : Bool) (G : Graph) (h : ℕ) (found : List ℕ) → small ≡ false → HasBody small G h found → ¬ HasAtMost 256 (InBody G h)
body_large true G h found e b = absurd (false≢true (sym e))
body_large false G h found e b = b

pub unsound_by : (G : Graph) (h : ℕ) (found : List ℕ) (b : Bool) → IsHeader G h → IsShaped G h → AreAt G (InBody G h) found → ArePlacesShaped b G found → (b ≡ true) ↔ IsUnsound G h
unsound_by G h found true header own a u = (λ t. record { header = header; shape = λ s. u.shape (shaped s (at G u.place) (a.each u.place u.among).1 (cases_eq (at G u.place) h)) }, λ x. refl)
  where
    shaped : HasShape G h → (k : ℕ) → InBody G h k → (k ≡ h) ⊎ (k ≢ h) → IsShaped G (at G u.place)
    shaped s k i q = own_or (cases_eq (at G u.place) h)
      where
        own_or : (at G u.place ≡ h) ⊎ (at G u.place ≢ h) → IsShaped G (at G u.place)
        own_or (inl e) = subst (IsShaped G) (sym e) s.own
        own_or (inr ne) = s.inner (at G u.place) (record { header = u.header; inside = (a.each u.place u.among).1; other = ne })
unsound_by G h found false header own a u = (λ t. absurd (false≢true t), λ x. absurd (x.shape (record { own = own; inner = λ k i. let m = a.every k i.inside in subst (IsShaped G) m.is (u m.place m.among (subst (IsHeader G) (sym m.is) i.header)) })))

pub misshapen_is : (G : Graph) (h : ℕ) (x : ℕ) → (InBody G h x × IsUnsound G x) ↔ IsMisshapen G h x
misshapen_is G h x = (λ p. record { nest = record { header = p.1.header; inside = p.0 }; shape = p.1.shape }, λ m. (m.nest.inside, record { header = m.nest.header; shape = m.shape }))
