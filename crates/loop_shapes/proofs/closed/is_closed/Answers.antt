use Rattle.std.proofs.Common.{List, ℕ, Bool, length, ap, sym, subst, arith}
use Rattle.std.specs.List.{Contains}
use Rattle.loop_shapes.specs.Net.{IsOnlyEntry, graph_of}
use Rattle.loop_shapes.proofs.Parts.{part_small, closed_from_entry, entry_from_closed}
use Rattle.loop_shapes.proofs.closed.is_closed.Goals as goal

pub is_only_entry-requires : goal.is_only_entry-requires
is_only_entry-requires c i m =
    let p = part_small (graph_of c.args.net.now) c.args.header c.args.source c.part.new.set.found.items c.in_ok-part.field-0 c.if-not-branch.false c.in_ok-part.ensures.part in
    let l = (p.1.each i (subst (λ (xs : List ℕ). Contains xs i) c.deref.ensures.value m)).0 in
    let n = c.requires.net.starts.count in
    let e = ap length c.as_slice.ensures.value in
    omega arith

pub returns-clause-closed : goal.returns-clause-closed
returns-clause-closed c =
    let G = graph_of c.args.net.now in
    let n = c.requires.net in
    let found = c.part.new.set.found.items in
    let p = part_small G c.args.header c.args.source found c.in_ok-part.field-0 c.if-not-branch.false c.in_ok-part.ensures.part in
    let flags = c.args.net.now.starts.items in (
      λ t. closed_from_entry G n.ordered flags n.starts c.args.header c.args.source c.requires.header found p c.requires.edge (subst (λ (xs : List ℕ). IsOnlyEntry flags xs c.args.header) c.deref.ensures.value (subst (λ (bs : List Bool). IsOnlyEntry bs c.deref.result.now c.args.header) c.as_slice.ensures.value (c.is_only_entry.ensures.0 t))),
      λ closed. c.is_only_entry.ensures.1 (subst (λ (bs : List Bool). IsOnlyEntry bs c.deref.result.now c.args.header) (sym c.as_slice.ensures.value) (subst (λ (xs : List ℕ). IsOnlyEntry flags xs c.args.header) (sym c.deref.ensures.value) (entry_from_closed G n.ordered flags n.starts c.args.header c.args.source c.requires.header found p closed))),
    )

pub returns-clause-part : goal.returns-clause-part
returns-clause-part c t = part_small (graph_of c.args.net.now) c.args.header c.args.source c.part.new.set.found.items c.in_ok-part.field-0 c.if-not-branch.false c.in_ok-part.ensures.part
