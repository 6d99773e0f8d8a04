use Rattle.std.proofs.Common.{◌≡◌, ◌+◌, ◌∙◌, ap, sym, refl, subst, arith, length, get_or, List, ℕ}
use Rattle.turn_copies.specs.Copies.{body_code}
use Rattle.stub_laws.proofs.Appends.{as_list}
use Rattle.outliner.specs.Moves.{moved, behind_code, AreDivided}
use Rattle.outliner.specs.Sizes.{loop_code, places_from}
use Rattle.outliner.proofs.Divided.{before_last, are_divided}
use Rattle.outliner.proofs.Spread.{room, first_place, end_by}
use Rattle.outliner.proofs.Whole.{are_near}
use Rattle.outliner.proofs.stub.emit_divided.Goals as goal

pub bounds-places-as_slice : goal.bounds-places-as_slice
bounds-places-as_slice c =
    let are = c.as_slice-places.ensures.value ∙ c.in_ok-places.ensures in
    let r = room c.args.level.now (loop_code c.args.graph.now c.args.cells.now) _ c.as_slice-places.result.now are in
    let e = ap length c.as_slice.ensures in
    omega (arith, r, e)

pub place_at-header-requires : goal.place_at-header-requires
place_at-header-requires c =
    let are = c.as_slice-places.ensures.value ∙ c.in_ok-places.ensures in
    (room c.args.level.now (loop_code c.args.graph.now c.args.cells.now) _ c.as_slice-places.result.now are, c.requires.copied.ordered)

pub push_front-requires-clause-order : goal.push_front-requires-clause-order
push_front-requires-clause-order c =
    let l = c.args.level.now in
    let B = loop_code c.args.graph.now c.args.cells.now in
    let first = c.args.p + 17 + c.begin_size.result in
    let are = c.as_slice-places.ensures.value ∙ c.in_ok-places.ensures in
    let n = end_by l B first c.as_slice-places.result.now c.as_slice.result.now are c.as_slice.ensures in
    let h = c.place_at-header.ensures c.args.graph.now c.args.cells.now first are in
    let near = are_near l B c.args.p c.begin_size.result first _ c.place_at-header.result c.requires.copied.few refl c.begin_size.ensures.few n h in
    (near.from, near.order)

pub push_front-requires-clause-near : goal.push_front-requires-clause-near
push_front-requires-clause-near c =
    let l = c.args.level.now in
    let B = loop_code c.args.graph.now c.args.cells.now in
    let first = c.args.p + 17 + c.begin_size.result in
    let are = c.as_slice-places.ensures.value ∙ c.in_ok-places.ensures in
    let n = end_by l B first c.as_slice-places.result.now c.as_slice.result.now are c.as_slice.ensures in
    let h = c.place_at-header.ensures c.args.graph.now c.args.cells.now first are in
    let near = are_near l B c.args.p c.begin_size.result first _ c.place_at-header.result c.requires.copied.few refl c.begin_size.ensures.few n h in
    near.few

pub push_body-requires-clause-places : goal.push_body-requires-clause-places
push_body-requires-clause-places c =
    let l = c.args.level.now in
    let B = loop_code c.args.graph.now c.args.cells.now in
    let first = c.args.p + 17 + c.begin_size.result in
    let are = c.as_slice-places.ensures.value ∙ c.in_ok-places.ensures in
    let z = ap (λ (xs : List ℕ). get_or xs 0 0) are ∙ first_place l B first l.body in
    let few = c.begin_size.ensures.few in
    let small = c.requires.small in
    record {
      are = are ∙ ap (λ q. places_from l B q l.body) (sym z);
      small = omega (arith, z, few, small);
    }

pub push_behind-requires-clause-small : goal.push_behind-requires-clause-small
push_behind-requires-clause-small c =
    let l = c.args.level.now in
    let B = loop_code c.args.graph.now c.args.cells.now in
    let first = c.args.p + 17 + c.begin_size.result in
    let are = c.as_slice-places.ensures.value ∙ c.in_ok-places.ensures in
    let n = end_by l B first c.as_slice-places.result.now c.as_slice.result.now are c.as_slice.ensures in
    let h = c.place_at-header.ensures c.args.graph.now c.args.cells.now first are in
    let near = are_near l B c.args.p c.begin_size.result first _ c.place_at-header.result c.requires.copied.few refl c.begin_size.ensures.few n h in
    let few = near.few in
    let small = c.requires.small in
    omega (arith, few, small)

pub push_behind-requires-clause-near : goal.push_behind-requires-clause-near
push_behind-requires-clause-near c =
    let l = c.args.level.now in
    let B = loop_code c.args.graph.now c.args.cells.now in
    let first = c.args.p + 17 + c.begin_size.result in
    let are = c.as_slice-places.ensures.value ∙ c.in_ok-places.ensures in
    let n = end_by l B first c.as_slice-places.result.now c.as_slice.result.now are c.as_slice.ensures in
    let h = c.place_at-header.ensures c.args.graph.now c.args.cells.now first are in
    let near = are_near l B c.args.p c.begin_size.result first _ c.place_at-header.result c.requires.copied.few refl c.begin_size.ensures.few n h in
    let close = near.near in
    (near.order, omega (arith, close))

pub overflow_cast-refused : goal.overflow_cast-refused
overflow_cast-refused c =
    let l = c.args.level.now in
    let B = loop_code c.args.graph.now c.args.cells.now in
    let first = c.args.p + 17 + c.begin_size.result in
    let are = c.as_slice-places.ensures.value ∙ c.in_ok-places.ensures in
    let n = end_by l B first c.as_slice-places.result.now c.as_slice.result.now are c.as_slice.ensures in
    let z = ap (λ (xs : List ℕ). get_or xs 0 0) are ∙ first_place l B first l.body in
    let x2 = as_list _ _ _ _ c.in_ok-push_body.ensures (ap (body_code l B) z) in
    let x3 = as_list _ _ _ _ c.in_ok-push_behind.ensures (ap (λ cs. behind_code cs c.place_at-header.result (get_or c.as_slice-places.result.now (length c.as_slice.result.now) 0)) c.as_slice-2.ensures.value) in
    let fits = c.as_slice-2.ensures.fits in
    let same = ap length c.as_slice-2.ensures.value in
    let b = before_last c.copies_stand_in_order.ensures.size l B (moved c.args.classes.now) c.args.p first _ c.place_at-header.result c.begin_size.result _ _ _ _ c.new-code.ensures.items (omega (arith, fits, same)) c.requires.copied.few refl c.begin_size.ensures.value c.begin_size.ensures.few n c.in_ok-push_front.ensures x2 x3 in
    let few = b.0 in
    let many = c.len-refused.ensures in
    omega (arith, few, many)

pub returns : goal.returns
returns c =
    let l = c.args.level.now in
    let B = loop_code c.args.graph.now c.args.cells.now in
    let first = c.args.p + 17 + c.begin_size.result in
    let are = c.as_slice-places.ensures.value ∙ c.in_ok-places.ensures in
    let n = end_by l B first c.as_slice-places.result.now c.as_slice.result.now are c.as_slice.ensures in
    let h = c.place_at-header.ensures c.args.graph.now c.args.cells.now first are in
    let z = ap (λ (xs : List ℕ). get_or xs 0 0) are ∙ first_place l B first l.body in
    let x2 = as_list _ _ _ _ c.in_ok-push_body.ensures (ap (body_code l B) z) in
    let x3 = as_list _ _ _ _ c.in_ok-push_behind.ensures (ap (λ cs. behind_code cs c.place_at-header.result (get_or c.as_slice-places.result.now (length c.as_slice.result.now) 0)) c.as_slice-2.ensures.value) in
    let fits = c.as_slice-2.ensures.fits in
    let same = ap length c.as_slice-2.ensures.value in
    let d = are_divided c.copies_stand_in_order.ensures.size l B (moved c.args.classes.now) c.args.p first _ c.place_at-header.result c.begin_size.result _ _ _ _ _ c.new-code.ensures.items (omega (arith, fits, same)) c.requires.copied.few refl c.begin_size.ensures.value c.begin_size.ensures.few n h c.in_ok-push_front.ensures x2 x3 c.in_ok-push_refuse.ensures in
    let many : length c.push_behind.new.code.items ≡ c.len-refused.result = omega (arith, c.len-refused.ensures) in
    subst (AreDivided l B (moved c.args.classes.now) c.args.p c.push_refuse.new.code.items) many d
