use Rattle.std.proofs.Common.{rules}
use Rattle.std.proofs.lemmas.List.Sorted.{answers_always}
use Rattle.loop_data.specs.declared.graph.Word.{Word}
use Rattle.loop_data.proofs.Searched.{word_found, no_word_found}
use Rattle.outliner.proofs.words.word_place.Goals as goal

pub returns-in-Ok : goal.returns-in-Ok
returns-in-Ok c =
    let e = c.in-Ok.ensures in
    record { found = word_found c.args.words.now c.args.x c.in-Ok.i e.bound (e.position (λ (w : Word). w.at) (answers_always _ _ _ (λ f a r g called. search rules))); none = tt }

pub returns-in-Err-clause-none : goal.returns-in-Err-clause-none
returns-in-Err-clause-none c =
    let e = c.in-Err.ensures in
    no_word_found c.args.words.now c.args.x c.in-Err.field-0 c.requires e.bound (e.position (λ (w : Word). w.at) (answers_always _ _ _ (λ f a r g called. search rules)))
