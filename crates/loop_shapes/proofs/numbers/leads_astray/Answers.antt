use Rattle.std.proofs.Common.{get_or, refl, ◌∙◌, subst, below_more, arith}
use Rattle.std.proofs.lemmas.Bool.{false≢true}
use Rattle.std.proofs.lemmas.List.{get_or_default}
use Rattle.std.proofs.lemmas.List.Elements.{Contains-get_or}
use Rattle.loop_data.specs.Paths.{IsWord}
use Rattle.loop_shapes.specs.Astray.{LeadsAstray}
use Rattle.loop_shapes.specs.Net.{graph_of}
use Rattle.loop_shapes.specs.Places.{at}
use Rattle.loop_shapes.proofs.numbers.leads_astray.Goals as goal

pub loop-y-preserved : goal.loop-y-preserved
loop-y-preserved c = below_more _ _ c.loop-y.invariant (c.if-not-is_word.ensures.0 refl)

pub returns-then-not-is_word : goal.returns-then-not-is_word
returns-then-not-is_word c =
    let steps = c.word_steps-y-items.result.now in
    let y = get_or steps c.loop-y.y-index 0 in
    (λ t. record { to = y; edge = (c.word_steps-y-items.ensures.steps y).0 (Contains-get_or steps c.loop-y.y-index 0 c.loop-y-test.true); no_word = λ w. false≢true (c.if-not-is_word.ensures.1 w) }, λ _. refl)

pub returns : goal.returns
returns c = (λ t. absurd (false≢true t), λ s. absurd (none s))
  where
    none : LeadsAstray (graph_of c.args.net.now) (at (graph_of c.args.net.now) c.args.place) → ⊥
    none s =
        let steps = c.word_steps-y-items.result.now in
        let m = (c.word_steps-y-items.ensures.steps s.to).1 s.edge in
        let l = m.1 in
        let t = c.loop-y-test.false in
        s.no_word (subst (IsWord (graph_of c.args.net.now)) (get_or_default steps m.0 0 s.to m.1 ∙ m.2) (c.loop-y.invariant m.0 (omega arith)))
