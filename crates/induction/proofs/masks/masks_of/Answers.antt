use Rattle.std.proofs.Common.{◌≡◌, ℕ, List, length, get_or, ap, sym, ◌∙◌, refl, subst}
use Rattle.std.proofs.lemmas.List.{length-set}
use Rattle.std.specs.declared.vec.Vec.{Vec}
use Rattle.std.specs.declared.alloc.Global.{Global}
use Rattle.loop_data.specs.Flows.{rows, AreRowsWithin, IsWholeOrder}
use Rattle.loop_data.proofs.FlowOrders.{all_in_row}
use Rattle.induction.specs.Masks.{mask_bit, AreMasks}
use Rattle.induction.proofs.MaskBits.{masks_more, masks_all}
use Rattle.induction.proofs.masks.masks_of.Goals as goal

pub mask_at-mask-requires-clause-within : goal.mask_at-mask-requires-clause-within
mask_at-mask-requires-clause-within c =
    let s = c.as_slice-sources.result.now in
    let e = c.as_slice-sources.ensures.value in
    let n : length c.args.flow.now.instrs.items ≡ length (rows s) = c.requires.instrs ∙ sym c.requires.sources ∙ ap (λ (q : List (Vec ℕ Global)). length (rows q)) (sym e) in
    all_in_row (rows s) (get_or c.as_slice-order.result.now c.loop-p.p-index 0) c.row.result.now (length c.args.flow.now.instrs.items) c.row.ensures n
    (subst (λ (q : List (Vec ℕ Global)). AreRowsWithin (rows q)) (sym e) c.requires.within)

pub loop-p-preserved : goal.loop-p-preserved
loop-p-preserved c =
    let s = c.as_slice-sources.result.now in
    let o = c.as_slice-order.result.now in
    let e = c.as_slice-sources.ensures.value in
    let p = get_or o c.loop-p.p-index 0 in
    let whole = subst (λ (q : List ℕ). IsWholeOrder (rows s) q) (sym c.as_slice-order.ensures.value) (subst (λ (q : List (Vec ℕ Global)). IsWholeOrder (rows q) c.args.flow.now.order.items) (sym e) c.requires.order) in
    let count : length (rows s) ≡ length c.args.body.now = ap (λ (q : List (Vec ℕ Global)). length (rows q)) e ∙ c.requires.sources in (
      length-set c.loop-p.masks.items p c.mask_at-mask.result ∙ c.loop-p.invariant.0,
      masks_more c.args.header c.args.body.now c.args.flow.now (rows s) o c.loop-p.masks.items c.loop-p.p-index p c.mask_at-mask.result whole count c.loop-p.invariant.0 c.loop-p-test.true refl
          (λ r l. c.mask_at-mask.ensures r l ∙ ap (λ (q : List ℕ). mask_bit c.args.header c.args.body.now c.args.flow.now q c.row.result.now p r) c.as_slice-before.ensures.value ∙ ap (λ (q : List ℕ). mask_bit c.args.header c.args.body.now c.args.flow.now c.loop-p.masks.items q p r) c.row.ensures)
          c.loop-p.invariant.1,
    )

pub returns : goal.returns
returns c =
    let s = c.as_slice-sources.result.now in
    let o = c.as_slice-order.result.now in
    let e = c.as_slice-sources.ensures.value in
    let whole = subst (λ (q : List ℕ). IsWholeOrder (rows s) q) (sym c.as_slice-order.ensures.value) (subst (λ (q : List (Vec ℕ Global)). IsWholeOrder (rows q) c.args.flow.now.order.items) (sym e) c.requires.order) in
    let count : length (rows s) ≡ length c.args.body.now = ap (λ (q : List (Vec ℕ Global)). length (rows q)) e ∙ c.requires.sources in
    subst (λ (q : List (Vec ℕ Global)). AreMasks c.args.header c.args.body.now c.args.flow.now (rows q) c.loop-p.masks.items) e
    (masks_all c.args.header c.args.body.now c.args.flow.now (rows s) o c.loop-p.masks.items c.loop-p.p-index whole count c.loop-p.invariant.0 c.loop-p-test.false c.loop-p.invariant.1)
