use Rattle.std.proofs.Common.{◌≡◌, ◌≤◌, ℕ, List, sym, ◌∙◌, ap, subst}
use Rattle.loop_data.specs.declared.accesses.Accesses.{Accesses}
use Rattle.loop_data.specs.declared.shape.Level.{Level}
use Rattle.loop_data.specs.Accesses.{AreAccesses, IsLeastIrregular, access_count}
use Rattle.loop_data.specs.LoopCode.{code_of}
use Rattle.loop_data.specs.LoopWords.{AreNest}
use Rattle.loop_data.specs.Lookups.{cell_map, form_at}
use Rattle.loop_data.specs.Nests.{Nest, nest_of}
use Rattle.loop_data.specs.Results.{IsNestOf}
use Rattle.affine_addresses.specs.declared.list.Irregular.{Irregular}
use Rattle.affine_addresses.proofs.Listed.{if_ok, if_err, carried, deep, first_is, held, root_is, this_nest}
use Rattle.affine_addresses.proofs.list.accesses.Goals as goal

pub accesses_of-requires-clause-depths : goal.accesses_of-requires-clause-depths
accesses_of-requires-clause-depths c =
    let ls = c.as_slice-levels.result.now in
    let nest = subst (λ (xs : List Level). AreNest c.args.graph.now xs) (sym c.as_slice-levels.ensures) c.requires.nest in
    deep c.args.graph.now ls nest

pub accesses_of-requires-clause-held : goal.accesses_of-requires-clause-held
accesses_of-requires-clause-held c =
    let ls = c.as_slice-levels.result.now in
    let nest = subst (λ (xs : List Level). AreNest c.args.graph.now xs) (sym c.as_slice-levels.ensures) c.requires.nest in
    let e = c.as_slice-body.ensures ∙ ap (λ (l : Level). l.body) (first_is c.args.graph.now ls nest c.index-levels-0.result) in
    held c.args.graph.now ls nest c.as_slice-body.result.now e

pub accesses_of-requires-clause-room : goal.accesses_of-requires-clause-room
accesses_of-requires-clause-room c =
    let G = c.args.graph.now in
    let ls = c.as_slice-levels.result.now in
    let nest = subst (λ (xs : List Level). AreNest G xs) (sym c.as_slice-levels.ensures) c.requires.nest in
    let e = c.as_slice-body.ensures ∙ ap (λ (l : Level). l.body) (first_is G ls nest c.index-levels-0.result) in
    let few = c.requires.few (nest_of G nest.root nest.inner) (subst (λ (xs : List Level). IsNestOf G xs (nest_of G nest.root nest.inner)) c.as_slice-levels.ensures (this_nest G ls nest)) in
    subst (λ (xs : List ℕ). access_count (code_of G (cell_map c.args.cells.now)) xs ≤ 32) (sym e) few

pub returns-clause-accesses : goal.returns-clause-accesses
returns-clause-accesses c =
    let G = c.args.graph.now in
    let ls = c.as_slice-levels.result.now in
    let nest = subst (λ (xs : List Level). AreNest G xs) (sym c.as_slice-levels.ensures) c.requires.nest in
    let body = c.as_slice-body.ensures ∙ ap (λ (l : Level). l.body) (first_is G ls nest c.index-levels-0.result) in
    let back = subst (λ (xs : List Level). (N : Nest) → IsNestOf G xs N → N.root ≡ nest.root) c.as_slice-levels.ensures (root_is G ls nest) in
    if_ok c.accesses_of.result
    (λ (a : Accesses). AreAccesses ls c.as_slice-body.result.now (code_of G (cell_map c.args.cells.now)) (form_at c.args.equations.now.points) a.list.items)
    (λ (a : Accesses). (N : Nest) → IsNestOf G c.args.shape.now.levels N → AreAccesses c.args.shape.now.levels N.root.body (code_of G (cell_map c.args.cells.now)) (form_at c.args.equations.now.points) a.list.items)
    (λ (a : Accesses) h N is. carried (λ ls xs. AreAccesses ls xs (code_of G (cell_map c.args.cells.now)) (form_at c.args.equations.now.points) a.list.items) ls c.args.shape.now.levels c.as_slice-body.result.now N.root.body
    c.as_slice-levels.ensures (body ∙ ap (λ (l : Level). l.body) (sym (back N is))) h)
    c.accesses_of.ensures.accesses

pub returns-clause-irregular : goal.returns-clause-irregular
returns-clause-irregular c =
    let G = c.args.graph.now in
    let ls = c.as_slice-levels.result.now in
    let nest = subst (λ (xs : List Level). AreNest G xs) (sym c.as_slice-levels.ensures) c.requires.nest in
    let body = c.as_slice-body.ensures ∙ ap (λ (l : Level). l.body) (first_is G ls nest c.index-levels-0.result) in
    let back = subst (λ (xs : List Level). (N : Nest) → IsNestOf G xs N → N.root ≡ nest.root) c.as_slice-levels.ensures (root_is G ls nest) in
    if_err c.accesses_of.result
    (λ (e : Irregular). IsLeastIrregular c.as_slice-body.result.now (code_of G (cell_map c.args.cells.now)) (form_at c.args.equations.now.points) e.at)
    (λ (e : Irregular). (N : Nest) → IsNestOf G c.args.shape.now.levels N → IsLeastIrregular N.root.body (code_of G (cell_map c.args.cells.now)) (form_at c.args.equations.now.points) e.at)
    (λ (e : Irregular) h N is. carried (λ ls xs. IsLeastIrregular xs (code_of G (cell_map c.args.cells.now)) (form_at c.args.equations.now.points) e.at) ls c.args.shape.now.levels c.as_slice-body.result.now N.root.body
    c.as_slice-levels.ensures (body ∙ ap (λ (l : Level). l.body) (sym (back N is))) h)
    c.accesses_of.ensures.irregular
