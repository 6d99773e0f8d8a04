use Rattle.loop_division.proofs.OneDivision.{one_verdicts, one_division, apart, one_refusal}
use Rattle.loop_division.proofs.laws.one_division.Goals as goal

pub returns-clause-verdicts : goal.returns-clause-verdicts
returns-clause-verdicts c = one_verdicts c.one_word.ensures
    (record {
      graph = c.one_graph.ensures;
      loops = c.one_list.ensures;
      verdict = c.one_verdict.ensures;
      choice = c.one_choice.ensures;
      plan = c.one_plan.ensures;
    })

pub returns-clause-one : goal.returns-clause-one
returns-clause-one c = one_division c.one_word.ensures
    (record {
      graph = c.one_graph.ensures;
      loops = c.one_list.ensures;
      verdict = c.one_verdict.ensures;
      choice = c.one_choice.ensures;
      plan = c.one_plan.ensures;
    })

pub returns-clause-apart : goal.returns-clause-apart
returns-clause-apart c = apart c.one_word.ensures
    (record {
      graph = c.one_graph.ensures;
      loops = c.one_list.ensures;
      verdict = c.one_verdict.ensures;
      choice = c.one_choice.ensures;
      plan = c.one_plan.ensures;
    })

pub returns-clause-refusal : goal.returns-clause-refusal
returns-clause-refusal c = one_refusal c.one_word.ensures
    (record {
      graph = c.one_graph.ensures;
      loops = c.one_list.ensures;
      verdict = c.one_verdict.ensures;
      choice = c.one_choice.ensures;
      plan = c.one_plan.ensures;
    })
