use Rattle.std.proofs.Common.{refl, arith}
use Rattle.stub_laws.proofs.Appends.{one_word}
use Rattle.check_code.proofs.macros.push.Goals as goal

pub returns-in_ok-push-in-Some : goal.returns-in_ok-push-in-Some
returns-in_ok-push-in-Some c = one_word _ _ c.in-Some.word c.args.i c.in_ok-push-in-Some.ensures.items ((c.in-Some.ensures.words c.in-Some.word (omega arith)).0 refl)
