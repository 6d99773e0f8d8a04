use Rattle.alias_checks.proofs.InTurns.{values_short, duty_from, address_is}
use Rattle.alias_checks.proofs.laws.held_values_do_not_wrap.Goals as goal

pub returns : goal.returns
returns c =
    record {
      duties = λ e last d b a. (values_short e last d, duty_from e last d b a);
      addresses = address_is;
    }
