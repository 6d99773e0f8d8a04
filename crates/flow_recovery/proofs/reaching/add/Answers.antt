use Rattle.std.proofs.Common.{◌∷◌, ◌++◌, [], Contains, nat_eq, is_some, refl, ap, subst, sym, ◌∙◌, arith}
use Rattle.std.proofs.lemmas.Bool.{iff_false}
use Rattle.std.specs.Cmp.{nat_eq_equiv}
use Rattle.std.proofs.lemmas.List.{length-append}
use Rattle.std.proofs.lemmas.List.Elements.{All-push}
use Rattle.std.proofs.lemmas.Map.Keys.{IsDistinct-push}
use Rattle.std.proofs.lemmas.Map.Views.{exact_unsigned_eq}
use Rattle.indexmap.proofs.CallerLemmas.{Contains-insert_key}
use Rattle.loop_data.specs.Code.{IsCode}
use Rattle.loop_data.specs.Reaching.{Reached}
use Rattle.flow_recovery.specs.Search.{Grows}
use Rattle.flow_recovery.proofs.Found.{absent, Grows-insert_key}
use Rattle.flow_recovery.proofs.reaching.add.Goals as goal

pub returns-then-len-eq-WORD_LIMIT-clause-refused : goal.returns-then-len-eq-WORD_LIMIT-clause-refused
returns-then-len-eq-WORD_LIMIT-clause-refused c =
    let keys = c.args.found.now.keys in
    let at = c.args.at in
    let code : IsCode c.args.elf.now at = sym (ap is_some c.word_at.ensures) ∙ c.if-is_none.ensures in
    let new : ¬ Contains keys at = iff_false c.has.ensures c.if-has.false in
    let all = All-push (Reached c.args.elf.now) keys at c.requires.reached.each (c.requires.leads code) in
    let apart = IsDistinct-push nat_eq_equiv keys at c.len.ensures.unique (absent keys at new) in
    (refl, (keys ++ at ∷ [], omega (arith, length-append keys (at ∷ [])), apart, all))

pub returns-in-Ok-clause-grows : goal.returns-in-Ok-clause-grows
returns-in-Ok-clause-grows c =
    subst (Grows c.args.found.now.keys) (sym c.in-Ok.ensures.keys) (Grows-insert_key c.args.found.now.keys c.args.at)

pub returns-in-Ok-clause-has : goal.returns-in-Ok-clause-has
returns-in-Ok-clause-has c code =
    subst (λ l. Contains l c.args.at) (sym c.in-Ok.ensures.keys) (Contains-insert_key nat_eq exact_unsigned_eq c.args.found.now.keys c.args.at)
