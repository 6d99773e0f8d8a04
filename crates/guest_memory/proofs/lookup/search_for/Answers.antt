use Rattle.std.proofs.Common.{◌≡◌, ◌+◌, ◌-◌, ◌/◌, ◌<◌, ◌≤◌, ℕ, length, false, arith, ap, sym, ◌∙◌}
use Rattle.std.proofs.lemmas.List.{get_or_read}
use Rattle.rv64_decode.specs.Area.{Area, holds}
use Rattle.guest_memory.specs.Layout.{end_of, nth_area, no_area}
use Rattle.guest_memory.proofs.Areas.{ends_upto, none_between}
use Rattle.guest_memory.proofs.lookup.search_for.Goals as goal
use Rattle.guest_memory.proofs.lookup.search_for.Goals.{else-low-areas-via-then-low-areas+else-holds, else-low-areas-via-else-low-areas}

pub loop-low-preserved-then-end-addr : goal.loop-low-preserved-then-end-addr
loop-low-preserved-then-end-addr c =
    let m = c.args.areas.now in
    let middle : ℕ = c.loop-low.low + (c.loop-low.high - c.loop-low.low) / 2 in
    let within : middle < length m = omega arith in
    let here : c.index-areas-middle.result ≡ nth_area m middle = get_or_read m middle _ within c.index-areas-middle.is no_area in
    let end : end_of (nth_area m middle) ≤ c.args.addr = rw (← here) (omega arith) in
    record {
      order = omega arith;
      within = omega arith;
      before = λ k h. let e = ends_upto m k middle c.requires (omega arith) within in omega arith;
      behind = c.loop-low.invariant.behind;
    }

pub loop-low-preserved : goal.loop-low-preserved
loop-low-preserved c =
    let m = c.args.areas.now in
    let middle : ℕ = c.loop-low.low + (c.loop-low.high - c.loop-low.low) / 2 in
    let within : middle < length m = omega arith in
    let here : c.index-areas-middle.result ≡ nth_area m middle = get_or_read m middle _ within c.index-areas-middle.is no_area in
    let end : c.args.addr < end_of (nth_area m middle) = rw (← here) (omega arith) in
    record {
      order = omega arith;
      within = omega arith;
      before = c.loop-low.invariant.before;
      behind = λ k h l. let e = ends_upto m middle k c.requires h l in omega arith;
    }

pub returns-else-low-areas-clause-none : goal.returns-else-low-areas-clause-none
returns-else-low-areas-clause-none c =
    let m = c.args.areas.now in
    let at = c.loop-low.low in
    let same : c.loop-low.high ≡ at = omega arith in
    let free : at < length m → holds (nth_area m at) c.args.addr ≡ false =
    λ within. elim c.else-low-areas.branch [
      | else-low-areas-via-then-low-areas+else-holds w ↦
          let here : w.index-areas-low.result ≡ nth_area m at = get_or_read m at _ within w.index-areas-low.is no_area in
          ap (λ (v : Area). holds v c.args.addr) (sym here) ∙ sym w.holds.ensures ∙ w.if-holds.false
      | else-low-areas-via-else-low-areas w ↦ absurd (omega arith)
    ] in
    λ _. none_between m at c.args.addr c.requires c.loop-low.invariant.before (λ k h. c.loop-low.invariant.behind k (omega arith)) free
