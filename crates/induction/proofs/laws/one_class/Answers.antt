use Rattle.induction.proofs.OneClass.{one_class, one_inner_class, one_classes, one_carried, no_carried}
use Rattle.induction.proofs.laws.one_class.Goals as goal

pub returns-clause-root : goal.returns-clause-root
returns-clause-root c = one_class

pub returns-clause-inner : goal.returns-clause-inner
returns-clause-inner c = one_inner_class

pub returns-clause-all : goal.returns-clause-all
returns-clause-all c = one_classes

pub returns-clause-carried : goal.returns-clause-carried
returns-clause-carried c = one_carried

pub returns-clause-none : goal.returns-clause-none
returns-clause-none c = no_carried
