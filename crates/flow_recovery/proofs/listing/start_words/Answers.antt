use Rattle.std.proofs.Common.{nat_eq, subst, sym, arith}
use Rattle.std.proofs.lemmas.List.Filters.{dedup_is}
use Rattle.flow_recovery.specs.Reaching.{AreAllReached}
use Rattle.flow_recovery.proofs.Listed.{StartsFrom-turn, StartsFrom-all, once_members, once_increasing}
use Rattle.flow_recovery.proofs.listing.start_words.Goals as goal

pub loop-at-preserved : goal.loop-at-preserved
loop-at-preserved c =
    StartsFrom-turn c.args.elf.now c.as_slice-words.result.now c.loop-at.starts.items c.push_call.new.starts.items c.loop-at.at-index c.loop-at-test.true c.loop-at.invariant
    c.in_ok-push_call.ensures

pub returns-clause-order : goal.returns-clause-order
returns-clause-order c =
    let ys = c.sort_unstable.new.self.items in
    once_increasing ys c.dedup.new.self.items c.sort_unstable.ensures.sorted (dedup_is nat_eq ys c.dedup.new.self.items c.dedup.ensures.filtered)

pub returns-clause-starts : goal.returns-clause-starts
returns-clause-starts c a =
    let xs = c.loop-at.starts.items in
    let ys = c.sort_unstable.new.self.items in
    let zs = c.dedup.new.self.items in
    let once = once_members xs ys zs c.sort_unstable.ensures.permutation (dedup_is nat_eq ys zs c.dedup.ensures.filtered) a in
    let all = subst (AreAllReached c.args.elf.now) (sym c.as_slice-words.ensures.keys) c.requires.found in
    let told = c.loop-at.invariant a in
    let ends = StartsFrom-all c.args.elf.now c.as_slice-words.result.now c.loop-at.at-index a all (omega arith) in
    (λ m. ends.0 (told.0 (once.0 m)), λ s. once.1 (told.1 (ends.1 s)))
