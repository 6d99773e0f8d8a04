use Rattle.guest_memory.specs.Areas.{areas_of}
use Rattle.check_tests.proofs.Held.{nest_of, divided, held_answer}
use Rattle.check_tests.proofs.tests.asked.Goals as goal

pub can_be_asked-requires-clause-nest : goal.can_be_asked-requires-clause-nest
can_be_asked-requires-clause-nest c =
    nest_of c.nests.ensures c.args.elf.now c.args.graph.now c.args.shape.now c.requires.graph c.requires.shape
    c.requires.plan.early

pub returns-in-Some : goal.returns-in-Some
returns-in-Some c =
    let nest =
    nest_of c.nests.ensures c.args.elf.now c.args.graph.now c.args.shape.now c.requires.graph c.requires.shape
    c.requires.plan.early in
    let holds =
    held_answer c.check.result.now c.args.both.now.1 c.args.regs.now c.in_ok-memory.memory (areas_of c.args.elf.now)
    c.holds.result c.in-Some.turns c.holds.ensures c.check.ensures c.in_ok-memory.ensures c.in-Some.is in
    divided c.held_turns_are_independent.ensures.independent c.args.elf.now c.args.graph.now c.args.shape.now
    c.args.both.now.0 c.args.both.now.1 c.args.regs.now c.in-Some.turns c.requires.loadable c.requires.graph nest
    c.requires.plan c.requires.registers c.starts_with_bytes.ensures holds
