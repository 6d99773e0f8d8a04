use Rattle.std.proofs.Common.{◌≡◌}
use Rattle.guest_memory.specs.Words.{words_of}
use Rattle.guest_memory.proofs.Words.{words_all}
use Rattle.guest_memory.proofs.Listed.{words_of-each, words_of-every}
use Rattle.guest_memory.proofs.spans.words_from.Goals as goal

pub returns-clause-each : goal.returns-clause-each
returns-clause-each c =
    let m = c.args.areas.now in
    let all : c.loop-i.words.items ≡ words_of m = words_all m c.loop-i.i c.loop-i.words.items c.loop-i-test.false c.loop-i.invariant in
    rw all (words_of-each m c.requires)

pub returns-clause-every : goal.returns-clause-every
returns-clause-every c =
    let m = c.args.areas.now in
    let all : c.loop-i.words.items ≡ words_of m = words_all m c.loop-i.i c.loop-i.words.items c.loop-i-test.false c.loop-i.invariant in
    λ x n is. rw all (words_of-every m x n c.requires is)
