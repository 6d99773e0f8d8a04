use Rattle.std.proofs.Common.{ℕ, List, length, get_or, ◌∙◌, ◌≡◌, ◌<◌, subst, arith}
use Rattle.std.proofs.lemmas.List.{get_or_default}
use Rattle.loop_shapes.specs.Search.{HasRoom, HasNoRoom}
use Rattle.loop_shapes.proofs.Searches.{search_started, search_overfull, search_more, search_full, search_done, tried_room, tried_full}
use Rattle.loop_shapes.proofs.search.search.Goals as goal
use Rattle.loop_data.specs.Flows.{row_at, rows}

read : (xs : List ℕ) (i x : ℕ) → i < length xs → x ≡ get_or xs i x → x ≡ get_or xs i 0
read xs i x l e = e ∙ get_or_default xs i x 0 l

pub start-requires-clause-sources : goal.start-requires-clause-sources
start-requires-clause-sources c x m = let l = c.requires.sources x m in omega arith

pub returns-then-not-branch-clause-places : goal.returns-then-not-branch-clause-places
returns-then-not-branch-clause-places c = search_overfull (rows c.args.before.now) c.args.header c.args.sources.now c.start.new.found.items c.start.new.slots (tried_full _ _ _ _ c.in_ok-start.field-0 c.if-not-branch.true c.in_ok-start.ensures)

pub returns-then-not-branch-clause-indexed : goal.returns-then-not-branch-clause-indexed
returns-then-not-branch-clause-indexed c = (tried_full _ _ _ _ c.in_ok-start.field-0 c.if-not-branch.true c.in_ok-start.ensures).indexed

pub loop-next-init : goal.loop-next-init
loop-next-init c = search_started (rows c.args.before.now) c.args.header c.args.sources.now c.start.new.found.items c.start.new.slots (tried_room _ _ _ _ c.in_ok-start.field-0 c.if-not-branch.false c.in_ok-start.ensures)

pub returns-then-not-branch-2-clause-places : goal.returns-then-not-branch-2-clause-places
returns-then-not-branch-2-clause-places c =
    let found = c.loop-next.found.items in
    let more : c.loop-next.next < length found = omega (arith, c.loop-next.found.ok.0) in
    let at = read found c.loop-next.next c.index-at.result.now more c.index-at.ensures in
    let full = tried_full found (row_at (rows c.args.before.now) c.index-at.result.now) c.add_row.new.found.items c.add_row.new.slots c.in_ok-add_row.field-0 c.if-not-branch-2.true c.in_ok-add_row.ensures in
    search_full (rows c.args.before.now) c.args.header c.args.sources.now c.loop-next.next found c.loop-next.slots c.loop-next.invariant more c.add_row.new.found.items c.add_row.new.slots (subst (λ (q : ℕ). HasNoRoom found (row_at (rows c.args.before.now) q) c.add_row.new.found.items c.add_row.new.slots) at full)

pub returns-then-not-branch-2-clause-indexed : goal.returns-then-not-branch-2-clause-indexed
returns-then-not-branch-2-clause-indexed c = (tried_full c.loop-next.found.items (row_at (rows c.args.before.now) c.index-at.result.now) c.add_row.new.found.items c.add_row.new.slots c.in_ok-add_row.field-0 c.if-not-branch-2.true c.in_ok-add_row.ensures).indexed

pub loop-next-preserved : goal.loop-next-preserved
loop-next-preserved c =
    let found = c.loop-next.found.items in
    let more : c.loop-next.next < length found = omega (arith, c.loop-next.found.ok.0) in
    let at = read found c.loop-next.next c.index-at.result.now more c.index-at.ensures in
    let room = tried_room found (row_at (rows c.args.before.now) c.index-at.result.now) c.add_row.new.found.items c.add_row.new.slots c.in_ok-add_row.field-0 c.if-not-branch-2.false c.in_ok-add_row.ensures in
    search_more (rows c.args.before.now) c.args.header c.args.sources.now c.loop-next.next found c.loop-next.slots c.loop-next.invariant more c.add_row.new.found.items c.add_row.new.slots (subst (λ (q : ℕ). HasRoom found (row_at (rows c.args.before.now) q) c.add_row.new.found.items c.add_row.new.slots) at room)

pub returns-clause-places : goal.returns-clause-places
returns-clause-places c = search_done (rows c.args.before.now) c.args.header c.args.sources.now c.loop-next.next c.loop-next.found.items c.loop-next.slots c.loop-next.invariant (omega (arith, c.loop-next.found.ok.0))
