use Rattle.loop_shapes.specs.declared.kind.Kind.TheVariants.{Calls, Asks, JumpsAnywhere, IsNothing}
use Rattle.loop_data.specs.Bodies.{InBody}
use Rattle.loop_shapes.specs.Net.{graph_of}
use Rattle.loop_shapes.proofs.Flagged.{short_by, first_does, lacks, first_unsound, none_unsound}
use Rattle.loop_shapes.proofs.early.early_verdict.Goals as goal

pub first_flagged-requires-clause-each : goal.first_flagged-requires-clause-each
first_flagged-requires-clause-each c i m = (c.requires.body.each i m).0

pub first_flagged-requires-2-clause-each : goal.first_flagged-requires-2-clause-each
first_flagged-requires-2-clause-each c i m = (c.requires.body.each i m).0

pub first_flagged-requires-3-clause-each : goal.first_flagged-requires-3-clause-each
first_flagged-requires-3-clause-each c i m = (c.requires.body.each i m).0

pub first_flagged-requires-4-clause-each : goal.first_flagged-requires-4-clause-each
first_flagged-requires-4-clause-each c i m = (c.requires.body.each i m).0

pub first_flagged-requires-5-clause-each : goal.first_flagged-requires-5-clause-each
first_flagged-requires-5-clause-each c i m = (c.requires.body.each i m).0

pub returns-then-clean : goal.returns-then-clean
returns-then-clean c = let k = c.requires.clean c.if-clean.true in (k.plain, k.shaped)

pub returns-in-Some : goal.returns-in-Some
returns-in-Some c =
    let G = graph_of c.args.net.now in
    let up = c.requires.net.ordered in
    let h = c.args.header in
    let found = c.args.found.now in
    let body = c.requires.body in
    let m = c.args.marks.now in
    let f = c.requires.marks in
    (short_by G (InBody G h) found body c.requires.short, first_does G up h Calls found body m.calls.items c.as_slice.result.now f.calls c.as_slice.ensures.value c.in-Some.at c.in-Some.ensures)

pub returns-in-Some-first_flagged : goal.returns-in-Some-first_flagged
returns-in-Some-first_flagged c =
    let G = graph_of c.args.net.now in
    let up = c.requires.net.ordered in
    let h = c.args.header in
    let found = c.args.found.now in
    let body = c.requires.body in
    let m = c.args.marks.now in
    let f = c.requires.marks in
    (short_by G (InBody G h) found body c.requires.short, lacks G up h Calls found body m.calls.items c.as_slice.result.now f.calls c.as_slice.ensures.value c.in_default.ensures, first_does G up h Asks found body m.asks.items c.as_slice-2.result.now f.asks c.as_slice-2.ensures.value c.in-Some-first_flagged.at c.in-Some-first_flagged.ensures)

pub returns-in-Some-first_flagged-2 : goal.returns-in-Some-first_flagged-2
returns-in-Some-first_flagged-2 c =
    let G = graph_of c.args.net.now in
    let up = c.requires.net.ordered in
    let h = c.args.header in
    let found = c.args.found.now in
    let body = c.requires.body in
    let m = c.args.marks.now in
    let f = c.requires.marks in
    (short_by G (InBody G h) found body c.requires.short, lacks G up h Calls found body m.calls.items c.as_slice.result.now f.calls c.as_slice.ensures.value c.in_default.ensures, lacks G up h Asks found body m.asks.items c.as_slice-2.result.now f.asks c.as_slice-2.ensures.value c.in_default-first_flagged.ensures, first_does G up h JumpsAnywhere found body m.jumps.items c.as_slice-3.result.now f.jumps c.as_slice-3.ensures.value c.in-Some-first_flagged-2.at c.in-Some-first_flagged-2.ensures)

pub returns-in-Some-first_flagged-3 : goal.returns-in-Some-first_flagged-3
returns-in-Some-first_flagged-3 c =
    let G = graph_of c.args.net.now in
    let up = c.requires.net.ordered in
    let h = c.args.header in
    let found = c.args.found.now in
    let body = c.requires.body in
    let m = c.args.marks.now in
    let f = c.requires.marks in
    (short_by G (InBody G h) found body c.requires.short, lacks G up h Calls found body m.calls.items c.as_slice.result.now f.calls c.as_slice.ensures.value c.in_default.ensures, lacks G up h Asks found body m.asks.items c.as_slice-2.result.now f.asks c.as_slice-2.ensures.value c.in_default-first_flagged.ensures, lacks G up h JumpsAnywhere found body m.jumps.items c.as_slice-3.result.now f.jumps c.as_slice-3.ensures.value c.in_default-first_flagged-2.ensures, first_does G up h IsNothing found body m.nothing.items c.as_slice-4.result.now f.nothing c.as_slice-4.ensures.value c.in-Some-first_flagged-3.at c.in-Some-first_flagged-3.ensures)

pub returns-in-Some-first_flagged-4 : goal.returns-in-Some-first_flagged-4
returns-in-Some-first_flagged-4 c =
    let G = graph_of c.args.net.now in
    let up = c.requires.net.ordered in
    let h = c.args.header in
    let found = c.args.found.now in
    let body = c.requires.body in
    let m = c.args.marks.now in
    let f = c.requires.marks in
    (record { short = short_by G (InBody G h) found body c.requires.short; no_call = lacks G up h Calls found body m.calls.items c.as_slice.result.now f.calls c.as_slice.ensures.value c.in_default.ensures; no_system = lacks G up h Asks found body m.asks.items c.as_slice-2.result.now f.asks c.as_slice-2.ensures.value c.in_default-first_flagged.ensures; no_indirect = lacks G up h JumpsAnywhere found body m.jumps.items c.as_slice-3.result.now f.jumps c.as_slice-3.ensures.value c.in_default-first_flagged-2.ensures; no_unsupported = lacks G up h IsNothing found body m.nothing.items c.as_slice-4.result.now f.nothing c.as_slice-4.ensures.value c.in_default-first_flagged-3.ensures }, first_unsound G up h found body m.unsound.items c.as_slice-5.result.now f.unsound c.as_slice-5.ensures.value c.in-Some-first_flagged-4.at c.in-Some-first_flagged-4.ensures)

pub returns : goal.returns
returns c =
    let G = graph_of c.args.net.now in
    let up = c.requires.net.ordered in
    let h = c.args.header in
    let found = c.args.found.now in
    let body = c.requires.body in
    let m = c.args.marks.now in
    let f = c.requires.marks in
    (record { short = short_by G (InBody G h) found body c.requires.short; no_call = lacks G up h Calls found body m.calls.items c.as_slice.result.now f.calls c.as_slice.ensures.value c.in_default.ensures; no_system = lacks G up h Asks found body m.asks.items c.as_slice-2.result.now f.asks c.as_slice-2.ensures.value c.in_default-first_flagged.ensures; no_indirect = lacks G up h JumpsAnywhere found body m.jumps.items c.as_slice-3.result.now f.jumps c.as_slice-3.ensures.value c.in_default-first_flagged-2.ensures; no_unsupported = lacks G up h IsNothing found body m.nothing.items c.as_slice-4.result.now f.nothing c.as_slice-4.ensures.value c.in_default-first_flagged-3.ensures }, none_unsound G up h found body m.unsound.items c.as_slice-5.result.now f.unsound c.as_slice-5.ensures.value c.in_default-first_flagged-4.ensures)
