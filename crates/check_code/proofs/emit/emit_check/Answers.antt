use Rattle.std.proofs.Common.{◌≡◌}
use Rattle.stub_laws.specs.Code.{readings, somes}
use Rattle.check_code.specs.CheckCode.{check_code}
use Rattle.check_code.proofs.Emitted.{seven_parts, check_words, check_kept}
use Rattle.check_code.proofs.Plain.{check_plain}
use Rattle.check_code.proofs.Answered.{tells_check}
use Rattle.check_code.proofs.Sizes.{short_words, can_be_aimed}
use Rattle.check_code.proofs.emit.emit_check.Goals as goal

pub returns-clause-words : goal.returns-clause-words
returns-clause-words c =
    check_words c.args.check.now _ c.as_slice-areas.result.now c.as_slice-cells.result.now c.as_slice.result.now c.as_slice-2.result.now c.as_slice-accesses.result.now c.as_slice-3.result.now
    c.as_slice-areas.ensures c.as_slice-cells.ensures.value c.as_slice.ensures c.as_slice-2.ensures c.as_slice-accesses.ensures.value c.as_slice-3.ensures
    (seven_parts _ _ _ _ _ _ _ _ _ _ _ _ _ _ _ c.new-code.ensures.items c.in_ok-push_cells.ensures c.in_ok-push_all_clear.ensures c.in_ok-push_trips.ensures.words c.in_ok-push_duties.ensures.words
    c.in_ok-push_accesses.ensures.words c.in_ok-push_all_keep_off.ensures c.in_ok-push_pairs.ensures)

pub returns-clause-tells : goal.returns-clause-tells
returns-clause-tells c =
    let words : readings c.push_pairs.new.code.items ≡ somes (check_code c.args.check.now) =
    check_words c.args.check.now _ c.as_slice-areas.result.now c.as_slice-cells.result.now c.as_slice.result.now c.as_slice-2.result.now c.as_slice-accesses.result.now c.as_slice-3.result.now
    c.as_slice-areas.ensures c.as_slice-cells.ensures.value c.as_slice.ensures c.as_slice-2.ensures c.as_slice-accesses.ensures.value c.as_slice-3.ensures
    (seven_parts _ _ _ _ _ _ _ _ _ _ _ _ _ _ _ c.new-code.ensures.items c.in_ok-push_cells.ensures c.in_ok-push_all_clear.ensures c.in_ok-push_trips.ensures.words c.in_ok-push_duties.ensures.words
    c.in_ok-push_accesses.ensures.words c.in_ok-push_all_keep_off.ensures c.in_ok-push_pairs.ensures) in
    λ own. tells_check c.args.check.now _ c.requires
    (check_kept c.args.check.now c.as_slice-cells.result.now c.as_slice.result.now c.as_slice-2.result.now c.as_slice-accesses.result.now
    c.as_slice-cells.ensures.value c.as_slice.ensures c.as_slice-2.ensures c.as_slice-accesses.ensures.value
    c.as_slice-cells.ensures.fits c.as_slice-accesses.ensures.fits c.in_ok-push_trips.ensures.starts c.in_ok-push_trips.ensures.bounds c.in_ok-push_duties.ensures.forms c.in_ok-push_accesses.ensures.forms) own words

pub returns-clause-plain : goal.returns-clause-plain
returns-clause-plain c = check_plain c.args.check.now

pub returns-clause-short : goal.returns-clause-short
returns-clause-short c =
    let words : readings c.push_pairs.new.code.items ≡ somes (check_code c.args.check.now) =
    check_words c.args.check.now _ c.as_slice-areas.result.now c.as_slice-cells.result.now c.as_slice.result.now c.as_slice-2.result.now c.as_slice-accesses.result.now c.as_slice-3.result.now
    c.as_slice-areas.ensures c.as_slice-cells.ensures.value c.as_slice.ensures c.as_slice-2.ensures c.as_slice-accesses.ensures.value c.as_slice-3.ensures
    (seven_parts _ _ _ _ _ _ _ _ _ _ _ _ _ _ _ c.new-code.ensures.items c.in_ok-push_cells.ensures c.in_ok-push_all_clear.ensures c.in_ok-push_trips.ensures.words c.in_ok-push_duties.ensures.words
    c.in_ok-push_accesses.ensures.words c.in_ok-push_all_keep_off.ensures c.in_ok-push_pairs.ensures) in
    short_words c.args.check.now _ c.requires
    (check_kept c.args.check.now c.as_slice-cells.result.now c.as_slice.result.now c.as_slice-2.result.now c.as_slice-accesses.result.now
    c.as_slice-cells.ensures.value c.as_slice.ensures c.as_slice-2.ensures c.as_slice-accesses.ensures.value
    c.as_slice-cells.ensures.fits c.as_slice-accesses.ensures.fits c.in_ok-push_trips.ensures.starts c.in_ok-push_trips.ensures.bounds c.in_ok-push_duties.ensures.forms c.in_ok-push_accesses.ensures.forms) words

pub returns-clause-near : goal.returns-clause-near
returns-clause-near c =
    let words : readings c.push_pairs.new.code.items ≡ somes (check_code c.args.check.now) =
    check_words c.args.check.now _ c.as_slice-areas.result.now c.as_slice-cells.result.now c.as_slice.result.now c.as_slice-2.result.now c.as_slice-accesses.result.now c.as_slice-3.result.now
    c.as_slice-areas.ensures c.as_slice-cells.ensures.value c.as_slice.ensures c.as_slice-2.ensures c.as_slice-accesses.ensures.value c.as_slice-3.ensures
    (seven_parts _ _ _ _ _ _ _ _ _ _ _ _ _ _ _ c.new-code.ensures.items c.in_ok-push_cells.ensures c.in_ok-push_all_clear.ensures c.in_ok-push_trips.ensures.words c.in_ok-push_duties.ensures.words
    c.in_ok-push_accesses.ensures.words c.in_ok-push_all_keep_off.ensures c.in_ok-push_pairs.ensures) in
    can_be_aimed _ (short_words c.args.check.now _ c.requires
    (check_kept c.args.check.now c.as_slice-cells.result.now c.as_slice.result.now c.as_slice-2.result.now c.as_slice-accesses.result.now
    c.as_slice-cells.ensures.value c.as_slice.ensures c.as_slice-2.ensures c.as_slice-accesses.ensures.value
    c.as_slice-cells.ensures.fits c.as_slice-accesses.ensures.fits c.in_ok-push_trips.ensures.starts c.in_ok-push_trips.ensures.bounds c.in_ok-push_duties.ensures.forms c.in_ok-push_accesses.ensures.forms) words)
