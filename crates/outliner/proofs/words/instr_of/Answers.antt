use Rattle.std.proofs.Common.{◌≡◌, ◌∙◌, List, sym, subst, get_or, ap, length, ◌<◌}
use Rattle.rv64_decode.specs.Table.{decoded}
use Rattle.loop_data.specs.declared.graph.Word.{Word}
use Rattle.loop_data.specs.Paths.{addresses_of}
use Rattle.loop_data.proofs.FlowWords.{instr_is, no_instr}
use Rattle.outliner.proofs.words.instr_of.Goals as goal

pub returns-in-Some-clause-value : goal.returns-in-Some-clause-value
returns-in-Some-clause-value c =
    let w = c.index-words-i.result in
    let e = c.as_slice-words.ensures in
    let f = c.in-Some.ensures.found in
    c.decode.ensures.value ∙ ap (λ (v : Word). decoded v.bits) (sym c.index-words-i.is) ∙ sym (instr_is c.args.graph.now.words c.in-Some.i c.args.x w c.requires (subst (λ (q : List Word). c.in-Some.i < length q) e f.0) (subst (λ (q : List Word). get_or (addresses_of q) c.in-Some.i 0 ≡ c.args.x) e f.1) (c.index-words-i.is ∙ ap (λ (q : List Word). get_or q c.in-Some.i w) e))

pub returns-in-None-clause-value : goal.returns-in-None-clause-value
returns-in-None-clause-value c =
    let absent = subst (λ (q : List Word). Rattle.std.specs.List.Contains (addresses_of q) c.args.x → ⊥) c.as_slice-words.ensures c.in-None.ensures.none in
    sym (no_instr c.args.graph.now.words c.args.x absent)
