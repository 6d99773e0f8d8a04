use Rattle.std.proofs.Common.{◌≡◌, ◌⊎◌, ℕ, inl, inr, true, false, get_or, refl, sym, ◌∙◌, below_more}
use Rattle.std.proofs.lemmas.Bool.{false≢true, cases_Bool}
use Rattle.std.proofs.lemmas.List.Elements.{Contains-get_or}
use Rattle.loop_data.specs.Bodies.{IsHeader}
use Rattle.loop_shapes.specs.Places.{at}
use Rattle.loop_shapes.specs.Program.{program_graph}
use Rattle.loop_data.specs.Shape.{IsShaped}
use Rattle.loop_shapes.proofs.Nests.{all_at}
use Rattle.loop_shapes.proofs.marks.has_unshaped.Goals as goal

pub is_unshaped-requires-clause-within : goal.is_unshaped-requires-clause-within
is_unshaped-requires-clause-within c = c.requires.each _ (Contains-get_or c.args.found.now c.loop-place.place-index 0 c.loop-place-test.true)

pub returns-then-is_unshaped : goal.returns-then-is_unshaped
returns-then-is_unshaped c =
    let p = c.if-is_unshaped.ensures.0 refl in
    record { place = get_or c.args.found.now c.loop-place.place-index 0; among = Contains-get_or c.args.found.now c.loop-place.place-index 0 c.loop-place-test.true; header = p.0; shape = p.1 }

pub loop-place-preserved : goal.loop-place-preserved
loop-place-preserved c = below_more _ _ c.loop-place.invariant (λ p. false≢true (c.if-is_unshaped.ensures.1 p))

pub returns : goal.returns
returns c i m h = by (cases_Bool (get_or c.args.shaped.now i false))
  where
    none : IsHeader (program_graph c.args.program.now) (at (program_graph c.args.program.now) i) × ¬ IsShaped (program_graph c.args.program.now) (at (program_graph c.args.program.now) i) → ⊥
    none = all_at (λ (q : ℕ). ¬ (IsHeader (program_graph c.args.program.now) (at (program_graph c.args.program.now) q) × ¬ IsShaped (program_graph c.args.program.now) (at (program_graph c.args.program.now) q))) c.args.found.now c.loop-place.place-index c.loop-place-test.false c.loop-place.invariant i m

    by : (get_or c.args.shaped.now i false ≡ true) ⊎ (get_or c.args.shaped.now i false ≡ false) → IsShaped (program_graph c.args.program.now) (at (program_graph c.args.program.now) i)
    by (inl t) = (c.requires.flags.each i (c.requires.each i m)).0 t
    by (inr f) = absurd (none (h, λ s. false≢true (sym f ∙ (c.requires.flags.each i (c.requires.each i m)).1 s)))
