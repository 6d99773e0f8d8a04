use Rattle.std.proofs.Common.{◌≡◌, Some, refl, sym, true≢false}
use Rattle.outside_ports.specs.Fakes.{files_of}
use Rattle.outside_ports.proofs.Entries.{files_of-place, files_of-no_place}
use Rattle.outside_ports.proofs.entry.find.Goals as goal

pub returns-in-None-clause-missing : goal.returns-in-None-clause-missing
returns-in-None-clause-missing c =
    (λ _. files_of-no_place c.args.files.now c.args.name.now (sym c.in-None.ensures), λ _. refl)

pub returns-in-Some-clause-found : goal.returns-in-Some-clause-found
returns-in-Some-clause-found c =
    rw c.bytes.ensures
    (files_of-place c.args.files.now c.args.name.now c.in-Some.place c.index-files-place.result (sym c.in-Some.ensures) c.index-files-place.is)

pub returns-in-Some-clause-missing : goal.returns-in-Some-clause-missing
returns-in-Some-clause-missing c =
    (λ e. absurd (true≢false e), λ none. let some : files_of c.args.files.now c.args.name.now ≡ Some c.bytes.result.now = returns-in-Some-clause-found c in cc)
