-- What is looked up in a program.
use Rattle.std.proofs.Common.{◌≡◌, ◌≢◌, ℕ, ◌<◌, inl, inr, ◌↔◌, ◌==◌, not, Bool, true, List, [], length, get_or, sym, subst, arith}
use Rattle.std.specs.List.{Contains}
use Rattle.std.proofs.lemmas.Bool.Decides.{nat_tests}
use Rattle.std.proofs.lemmas.List.Elements.{Contains-get_or}
use Rattle.loop_data.specs.declared.graph.Word.{Word}
use Rattle.loop_data.specs.declared.graph.Graph.{Graph}
use Rattle.loop_data.specs.Paths.{IsInOrder, IsWord, Leads}
use Rattle.loop_shapes.specs.Places.{count_of, at}
use Rattle.loop_data.specs.Bodies.{IsClosed, IsHeader, InPart, InBody}
use Rattle.loop_shapes.proofs.Rows.{none_in, steps_at, leads_at}
use Rattle.loop_data.proofs.Ways.{backward}
use Rattle.loop_shapes.proofs.Parts.{place_of_source, word_at}
use Rattle.loop_shapes.specs.Lines.{IsRowOf}

-- whether a list has a number
pub some_number : (n : ℕ) (b : Bool) → b ≡ (n == 0) → (not b ≡ true) ↔ (0 < n)
some_number n b e = (λ t. there n b e t, λ l. back n b e l)
  where
    there : (n : ℕ) (b : Bool) → b ≡ (n == 0) → not b ≡ true → 0 < n
    there n b e t = grind (arith, nat_tests)

    back : (n : ℕ) (b : Bool) → b ≡ (n == 0) → 0 < n → not b ≡ true
    back n b e l = grind (arith, nat_tests)

pub header_by : (G : Graph) (place x : ℕ) (xs : List ℕ) → at G place ≡ x → IsRowOf G (IsClosed G) place xs → (0 < length xs) ↔ IsHeader G x
header_by G place x xs is c = (there, back)
  where
    there : 0 < length xs → IsHeader G x
    there l = let r = c.each (get_or xs 0 0) (Contains-get_or xs 0 0 l) in record { source = at G (get_or xs 0 0); closed = subst (λ (q : ℕ). IsClosed G q (at G (get_or xs 0 0))) is r.1 }

    back : IsHeader G x → 0 < length xs
    back h =
        let p = place_of_source G h.source x h.closed.edge in
        let k = c.every p.place p.within (subst (λ (q : ℕ). IsClosed G q (at G p.place)) (sym is) (subst (IsClosed G x) (sym p.is) h.closed)) in
        let l = k.1 in
        omega arith

pub word_of_source : (G : Graph) (x y : ℕ) → Leads G x y → IsWord G x
word_of_source G x y lead = let p = place_of_source G x y lead in subst (IsWord G) p.is (word_at G p.place p.within)

pub steps_by : (G : Graph) → IsInOrder G → (place x : ℕ) (w : Word) (ys : List ℕ) → place < count_of G → place < length G.words → at G place ≡ x → w ≡ get_or G.words place w → ys ≡ w.steps.items → (y : ℕ) → Contains ys y ↔ Leads G x y
steps_by G up place x w ys l m is e s y = (
  λ c. subst (λ (q : ℕ). Leads G q y) is (leads_at G place w m e y (subst (λ (zs : List ℕ). Contains zs y) s c)),
  λ lead. subst (λ (zs : List ℕ). Contains zs y) (sym s) (steps_at G up place w l e y (subst (λ (q : ℕ). Leads G q y) (sym is) lead)),
)

pub no_steps : (G : Graph) (x : ℕ) → ¬ IsWord G x → (y : ℕ) → Contains [] y ↔ Leads G x y
no_steps G x absent y = (λ c. none_in y c, λ lead. absurd (absent (word_of_source G x y lead)))

-- a word of a body is a word of the program
pub word_of_body : (G : Graph) (h x : ℕ) → InBody G h x → IsWord G x
word_of_body G h x b = by b.part
  where
    by : InPart G h b.source x → IsWord G x
    by (inl e) = subst (IsWord G) (sym e) b.closed.word
    by (inr r) = backward (Leads G) (λ z. z ≢ h) (IsWord G) b.source (word_of_source G b.source h b.closed.edge) (λ y z ny lead nz w. word_of_source G y z lead) x r
