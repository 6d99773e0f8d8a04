use Rattle.std.proofs.Common.{refl, arith}
use Rattle.strong_components.proofs.Closing.{closing_none, closing_more, closing_inside}
use Rattle.strong_components.proofs.search.Search.close.Goals as goal

pub loop-self-init : goal.loop-self-init
loop-self-init c =
    let s = c.args.self.now in
    record { closing = closing_none s.marks.items s.stack.items s.count c.requires.placed; within = c.requires.within; bounds = refl; path = refl; count = refl }

pub loop-self-preserved : goal.loop-self-preserved
loop-self-preserved c =
    let first = c.args.self.now in let s = c.loop-self.self in let kept = c.loop-self.invariant in
    record {
      closing = closing_more first.marks.items s.marks.items first.stack.items s.stack.items c.pop.new.self.items s.count c.in-Some.node kept.closing c.in-Some.ensures.items;
      within = let l = c.in-Some.ensures.len in let m = c.loop-self-test.true in let n = c.len.ensures in omega arith;
      bounds = kept.bounds;
      path = kept.path;
      count = kept.count;
    }

pub index_mut-requires : goal.index_mut-requires
index_mut-requires c =
    let first = c.args.self.now in let s = c.loop-self.self in
    let h = closing_inside first.marks.items s.marks.items first.stack.items s.stack.items c.pop.new.self.items s.count c.in-Some.node c.loop-self.invariant.closing c.in-Some.ensures.items in
    omega (arith, s.marks.ok.0)
