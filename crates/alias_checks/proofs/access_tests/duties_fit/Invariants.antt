use Rattle.std.proofs.Common.{◌≡◌, drop}
use Rattle.std.specs.List.{list_all}
use Rattle.linear_forms.specs.Forms.{integers}
use Rattle.alias_checks.specs.AccessTests.{duty_fits}
use Rattle.alias_checks.proofs.access_tests.duties_fit.Given as goal

abbrev pub invariant-loop-duty : goal.invariant-loop-duty
invariant-loop-duty l =
    list_all (duty_fits (integers l.entry) l.last) (drop l.duty-index l.duties)
    ≡ list_all (duty_fits (integers l.entry) l.last) l.duties
