use Rattle.std.proofs.Common.{subst}
use Rattle.loop_choice.specs.Pairs.{HasNoHopelessPair}
use Rattle.loop_choice.proofs.Hopeless.{first_within}
use Rattle.loop_choice.proofs.Outcomes.{by_pairs, plan_of}
use Rattle.loop_choice.proofs.nest.with_accesses.Goals as goal

pub dependence_at-verdict-requires-clause-first : goal.dependence_at-verdict-requires-clause-first
dependence_at-verdict-requires-clause-first c =
    (first_within c.as_slice-list.result.now c.in-Some.i c.in-Some.j c.in-Some.ensures.some).0

pub dependence_at-verdict-requires-clause-second : goal.dependence_at-verdict-requires-clause-second
dependence_at-verdict-requires-clause-second c =
    (first_within c.as_slice-list.result.now c.in-Some.i c.in-Some.j c.in-Some.ensures.some).1

pub returns-in-Some : goal.returns-in-Some
returns-in-Some c =
    by_pairs c.args.graph.now c.args.shape.now.levels c.args.cells c.args.classes c.args.equations.now
    c.args.trips.now c.as_slice-list.result.now _ c.in-Some.i c.in-Some.j c.dependence_at-verdict.result
    c.as_slice-list.ensures.value c.requires.found c.in-Some.ensures.some c.dependence_at-verdict.ensures

pub returns-in_ok-shape-in-None : goal.returns-in_ok-shape-in-None
returns-in_ok-shape-in-None c =
    let told = c.in_ok-check-in-None.ensures in
    plan_of c.args.graph.now c.args.elf.now c.args.shape.now c.args.equations.now c.args.trips.now _ _
    c.in_ok-check-in-None.check c.requires.early c.requires.found
    (subst HasNoHopelessPair c.as_slice-list.ensures.value c.in-None.ensures.none) c.in_ok-shape-in-None.ensures
    told.cells told.trips told.duties told.accesses told.pairs told.areas c.have_all_entries.ensures
