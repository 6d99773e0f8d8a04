use Rattle.check_tests.proofs.tests.can_be_asked.Goals as goal

pub returns : goal.returns
returns c =
    c.plans_can_be_asked.ensures c.args.elf.now c.args.graph.now c.args.shape.now c.args.both.now.0 c.args.both.now.1
    c.requires.loadable c.requires.nest c.requires.plan
