use Rattle.std.proofs.Common.{ℕ, Some, None, sym, subst}
use Rattle.std.proofs.lemmas.Bool.{false≢true}
use Rattle.loop_data.specs.Bodies.{InBody}
use Rattle.loop_shapes.specs.Places.{at}
use Rattle.loop_shapes.specs.Program.{program_graph}
use Rattle.loop_shapes.proofs.Rounds.{read_entry, same_test, one_loop}
use Rattle.loop_shapes.proofs.listed.is_shared.Goals as goal

pub returns-in_default : goal.returns-in_default
returns-in_default c =
    let a = c.requires.program.around.outermost in
    let e = read_entry c.args.program.now.around.outermost.items c.args.a _ c.index.result.now None c.requires.a a.count c.index.ensures c.in_default.is in
    (λ t. absurd (false≢true t), λ s. absurd (a.none c.args.a s.header c.requires.a e s.first))

pub returns-in_default-index : goal.returns-in_default-index
returns-in_default-index c =
    let a = c.requires.program.around.outermost in
    let e = read_entry c.args.program.now.around.outermost.items c.args.b _ c.index-2.result.now None c.requires.b a.count c.index-2.ensures c.in_default-index.is in
    (λ t. absurd (false≢true t), λ s. absurd (a.none c.args.b s.header c.requires.b e s.second))

pub returns : goal.returns
returns c =
    let G = program_graph c.args.program.now in
    let n = c.requires.program.net in
    let a = c.requires.program.around.outermost in
    let entries = c.args.program.now.around.outermost.items in
    let first = c.in-Some.first in
    let second = c.in-Some-index.second in
    let e = read_entry entries c.args.a _ c.index.result.now (Some first) c.requires.a a.count c.index.ensures c.in-Some.is in
    let f = read_entry entries c.args.b _ c.index-2.result.now (Some second) c.requires.b a.count c.index-2.ensures c.in-Some-index.is in
    let t = same_test first second in
    let r = a.some c.args.a first c.requires.a e in
    let s = a.some c.args.b second c.requires.b f in
    (λ q. record { header = at G first; first = r.holds; second = subst (λ (m : ℕ). InBody G (at G m) (at G c.args.b)) (sym (t.0 q)) s.holds }, λ p. t.1 (one_loop G n.from_starts n.ordered entries a c.args.a c.args.b first second c.requires.a c.requires.b e f p.header p.first p.second))
