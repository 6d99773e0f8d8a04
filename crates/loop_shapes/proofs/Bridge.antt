-- The step edges, ways and bodies of a program, over tests and lists.
use Rattle.std.proofs.Common.{◌≡◌, ◌≢◌, ℕ, inl, inr, List, [], ◌∷◌, Bool, true, false, refl, ap, sym, ◌∙◌, subst, if◌then◌else◌, ◌==◌}
use Rattle.std.specs.Prelude.{⊤}
use Rattle.loop_data.specs.declared.graph.Graph.{Graph}
use Rattle.loop_data.specs.Paths.{Leads, IsWord, IsWay}
use Rattle.loop_data.specs.Bodies.{ReachesPast, InPart, IsClosed}
use Rattle.loop_data.specs.Starts.{FromStart, AreFromStarts}
use Rattle.loop_data.specs.Nests.{has, leads_in}
use Rattle.loop_data.proofs.Tests.{ne_of, is_ne}
use Rattle.loop_data.proofs.Steps.{has_contains, contains_has, leads_is, is_leads, word_from}
use Rattle.loop_shapes.proofs.PathGraphs.{PathGraph, IsPath, IsPast, IsFromStart, InPathBody, IsClosedPath}

-- the graph with tests
abbrev pub tests : Graph → PathGraph
tests G = record { leads = leads_in G.words; starts = has G.starts }

pub to_path : (G : Graph) (P : ℕ → Type 0) (xs : List ℕ) (x u : ℕ) → IsWay (Leads G) P xs x u → IsPath (tests G) xs x u
to_path G P [] x u w = w.1
to_path G P (y ∷ ys) x u w = (leads_is G x y w.1, to_path G P ys y u w.2)

pub avoids : (G : Graph) (h : ℕ) (xs : List ℕ) (x u : ℕ) → IsWay (Leads G) (λ y. y ≢ h) xs x u → has (x ∷ xs) h ≡ false
avoids G h [] x u w = ap (λ b. if b then true else false) (is_ne x h w.0)
avoids G h (y ∷ ys) x u w = ap (λ b. if b then true else has (y ∷ ys) h) (is_ne x h w.0) ∙ avoids G h ys y u w.2

from_path : (G : Graph) (h : ℕ) (xs : List ℕ) (x u : ℕ) → IsPath (tests G) xs x u → has (x ∷ xs) h ≡ false → IsWay (Leads G) (λ y. y ≢ h) xs x u
from_path G h [] x u p a = go (x == h) refl a
  where
    go : (b : Bool) → (x == h) ≡ b → (if b then true else false) ≡ false → (x ≢ h) × (x ≡ u)
    go true e f = absurd (cc)
    go false e f = (ne_of x h e, p)
from_path G h (y ∷ ys) x u p a = go (x == h) refl a (from_path G h ys y u p.1)
  where
    go : (b : Bool) → (x == h) ≡ b → (if b then true else has (y ∷ ys) h) ≡ false → (has (y ∷ ys) h ≡ false → IsWay (Leads G) (λ y. y ≢ h) ys y u)
        → (x ≢ h) × Leads G x y × IsWay (Leads G) (λ y. y ≢ h) ys y u
    go true e f later = absurd (cc)
    go false e f later = (ne_of x h e, is_leads G x y p.0, later f)

pub to_reaches : (G : Graph) (h x u : ℕ) → ReachesPast G h x u → IsPast (tests G) h x u
to_reaches G h x u r = record { words = r.words; path = to_path G (λ y. y ≢ h) r.words x u r.way; avoids = avoids G h r.words x u r.way }

pub from_reaches : (G : Graph) (h x u : ℕ) → IsPast (tests G) h x u → ReachesPast G h x u
from_reaches G h x u r = record { words = r.words; way = from_path G h r.words x u r.path r.avoids }

pub to_body : (G : Graph) (h u x : ℕ) → InPart G h u x → InPathBody (tests G) h u x
to_body G h u x (inl e) = inl e
to_body G h u x (inr r) = inr (to_reaches G h x u r)

pub from_body : (G : Graph) (h u x : ℕ) → InPathBody (tests G) h u x → InPart G h u x
from_body G h u x (inl e) = inl e
from_body G h u x (inr r) = inr (from_reaches G h x u r)

pub to_reached : (G : Graph) (x : ℕ) → FromStart G x → IsFromStart (tests G) x
to_reached G x f = record { start = f.start; starts = contains_has G.starts f.start f.starts; words = f.reaches.words; path = to_path G (λ y. ⊤) f.reaches.words f.start x f.reaches.way }

pub to_closed : (G : Graph) (h u : ℕ) → AreFromStarts G → IsClosed G h u → IsClosedPath (tests G) h u
to_closed G h u all c =
    record {
      edge = leads_is G u h c.edge;
      reached = to_reached G h (all h c.word);
      starts = λ x b s. c.entry x (from_body G h u x b) (has_contains G.starts x s);
    }

-- each word of a body is a word of the program
pub word_in : (G : Graph) (h u x : ℕ) → IsClosed G h u → InPart G h u x → IsWord G x
word_in G h u x c (inl e) = subst (IsWord G) (sym e) c.word
word_in G h u x c (inr r) = by r.words x r.way
  where
    by : (ws : List ℕ) (x : ℕ) → IsWay (Leads G) (λ y. y ≢ h) ws x u → IsWord G x
    by [] x w = subst (IsWord G) (sym w.1) (word_from G u h c.edge)
    by (y ∷ ys) x w = word_from G x y w.1
