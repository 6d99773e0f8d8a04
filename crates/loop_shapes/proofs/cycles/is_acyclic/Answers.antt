use Rattle.std.proofs.Common.{◌≡◌, ◌<◌, ◌≤◌, ℕ, List, length, get_or, refl, ap, sym, ◌∙◌, subst, arith}
use Rattle.std.specs.List.{Contains}
use Rattle.std.specs.declared.vec.Vec.{Vec}
use Rattle.std.specs.declared.alloc.Global.{Global}
use Rattle.std.proofs.lemmas.List.{get_or_default, length-map}
use Rattle.std.proofs.lemmas.List.Elements.{Contains-get_or}
use Rattle.loop_shapes.specs.LoopBody.{body_graph, header_of}
use Rattle.loop_shapes.proofs.Gone.{taking_started, taking_more, no_more_gone}
use Rattle.loop_shapes.proofs.PlaceCycles.{acyclic_by, as_many_gone}
use Rattle.loop_shapes.proofs.Rounds.{same_test}
use Rattle.loop_shapes.proofs.Searches.{apart_from_indexed}
use Rattle.loop_shapes.proofs.cycles.is_acyclic.Goals as goal
use Rattle.loop_data.specs.Flows.{items_of, row_at, rows}

pub returns-then-body : goal.returns-then-body
returns-then-body c = (λ _. c.requires.known c.if-body.true, λ _. refl)

pub take_out_all-requires-clause-within : goal.take_out_all-requires-clause-within
take_out_all-requires-clause-within c i m = (c.requires.words.each i m).0

pub loop-next-init : goal.loop-next-init
loop-next-init c = (c.in_ok-take_out_all.ensures.gone, taking_started c.args.body.now.program.now.open_next.items c.args.body.now.places.now c.clear.new.self.found.items c.take_out_all.new.gone.found.items c.in_ok-clear.ensures.items c.in_ok-take_out_all.ensures.more)

pub returns-then-len-body : goal.returns-then-len-body
returns-then-len-body c =
    let b = c.requires in
    let gone = c.loop-next.gone.found.items in
    let inv = c.loop-next.invariant in
    let e = c.if-len-body.true in
    let l : length c.args.body.now.places.now ≤ length gone = omega (arith, c.len-in-loop-next.ensures, c.loop-next.gone.found.ok.0) in
    (λ _. acyclic_by (body_graph c.args.body.now) (header_of c.args.body.now) c.args.body.now.program.now.open_next.items b.program.open_edges c.args.body.now.places.now b.words gone inv.1.are (apart_from_indexed gone c.loop-next.gone.slots.items inv.0.indexed) l, λ _. refl)

pub row-requires : goal.row-requires
row-requires c =
    let b = c.requires in
    let gone = c.loop-next.gone.found.items in
    let next = c.loop-next.next in
    let more : next < length gone = omega (arith, c.loop-next.gone.found.ok.0) in
    let at = c.index-at.ensures ∙ get_or_default gone next c.index-at.result.now 0 more in
    let l = (b.words.each (get_or gone next 0) (c.loop-next.invariant.1.are.among (get_or gone next 0) (Contains-get_or gone next 0 more))).0 in
    let n = b.program.net.sources.count in
    let m = length-map c.args.body.now.program.now.net.before.items items_of in
    let e = ap length c.as_slice.ensures.value in
    omega arith

pub take_out_all-requires-in-loop-next-clause-within : goal.take_out_all-requires-in-loop-next-clause-within
take_out_all-requires-in-loop-next-clause-within c i m =
    let at = c.index-at.result.now in
    let same = c.row.ensures ∙ ap (λ (vs : List (Vec ℕ Global)). row_at (rows vs) at) c.as_slice.ensures.value in
    (c.requires.program.net.sources.each at i (subst (λ (xs : List ℕ). Contains xs i) same m)).0

pub loop-next-smaller : goal.loop-next-smaller
loop-next-smaller c =
    let gone = c.loop-next.gone.found.items in
    let inv = c.loop-next.invariant in
    let more : c.loop-next.next < length gone = omega (arith, c.loop-next.gone.found.ok.0) in
    let few = no_more_gone c.args.body.now.program.now.open_next.items c.args.body.now.places.now gone inv.1.are (apart_from_indexed gone c.loop-next.gone.slots.items inv.0.indexed) in
    omega arith

pub loop-next-preserved : goal.loop-next-preserved
loop-next-preserved c =
    let b = c.requires in
    let places = c.args.body.now.places.now in
    let nodes = c.args.body.now.program.now.open_next.items in
    let gone = c.loop-next.gone.found.items in
    let next = c.loop-next.next in
    let inv = c.loop-next.invariant in
    let more : next < length gone = omega (arith, c.loop-next.gone.found.ok.0) in
    let at = c.index-at.ensures ∙ get_or_default gone next c.index-at.result.now 0 more in
    let same = c.row.ensures ∙ ap (λ (vs : List (Vec ℕ Global)). row_at (rows vs) c.index-at.result.now) c.as_slice.ensures.value in (
      c.in_ok-take_out_all-2.ensures.gone,
      taking_more nodes places (Contains c.row.result.now) next gone c.take_out_all-in-loop-next.new.gone.found.items more (λ i m e.
          let o = (b.program.open_edges.each i (get_or gone next 0)).0 e in
          let s = b.program.net.sources.every (get_or gone next 0) i o.0 o.1 o.2.edge in
          subst (λ (xs : List ℕ). Contains xs i) (sym same) (subst (λ (z : ℕ). Contains (row_at (rows c.args.body.now.program.now.net.before.items) z) i) (sym at) s)) inv.1 c.in_ok-take_out_all-2.ensures.more,
    )

pub returns : goal.returns
returns c =
    let b = c.requires in
    let G = body_graph c.args.body.now in
    let h = header_of c.args.body.now in
    let places = c.args.body.now.places.now in
    let nodes = c.args.body.now.program.now.open_next.items in
    let gone = c.loop-next.gone.found.items in
    let inv = c.loop-next.invariant in
    let differ = apart_from_indexed gone c.loop-next.gone.slots.items inv.0.indexed in
    let t = c.loop-next-test.false in
    let n : c.len-2.result ≡ length gone = omega (arith, c.len-2.ensures, c.loop-next.gone.found.ok.0) in
    let end : length gone ≤ c.loop-next.next = omega (arith, c.loop-next.gone.found.ok.0) in
    let s = same_test c.len-2.result (length places) in (
      λ q. let e = s.0 q in let l : length places ≤ length gone = omega arith in acyclic_by G h nodes b.program.open_edges places b.words gone inv.1.are differ l,
      λ none. s.1 (n ∙ as_many_gone G h nodes b.program.open_edges places b.words c.loop-next.next gone (apart_from_indexed places c.args.body.now.slots.now b.indexed) differ end inv.1 none),
    )
