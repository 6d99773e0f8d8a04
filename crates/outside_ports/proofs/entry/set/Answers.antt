use Rattle.std.proofs.Common.{◌≡◌, Some, None, sym, position}
use Rattle.std.specs.Str.{bytes_eq}
use Rattle.outside_ports.proofs.Entries.{with_file-place, with_file-no_place, saved}
use Rattle.outside_ports.proofs.entry.set.Goals as goal

pub returns-in-Some-clause-ok : goal.returns-in-Some-clause-ok
returns-in-Some-clause-ok c =
    let place : position (λ e. bytes_eq e.0 c.args.name.now) c.args.files.now.items ≡ Some c.in-Some.place = rw c.as_slice.ensures.value at (sym c.in-Some.ensures)
    in rw (c.set_bytes.ensures, c.in_ok-bytes.ensures.items) (with_file-place c.args.files.now.items c.args.name.now c.args.bytes.now c.in-Some.place c.index_mut.result.now place c.index_mut.ensures.value)

pub returns-in-Some-clause-saved : goal.returns-in-Some-clause-saved
returns-in-Some-clause-saved c =
    rw (returns-in-Some-clause-ok c) (saved c.args.files.now.items c.args.name.now c.args.bytes.now)

pub returns-in_ok-push-in-None-clause-ok : goal.returns-in_ok-push-in-None-clause-ok
returns-in_ok-push-in-None-clause-ok c =
    let place : position (λ e. bytes_eq e.0 c.args.name.now) c.args.files.now.items ≡ None = rw c.as_slice.ensures.value at (sym c.in-None.ensures)
    in rw (c.in_ok-push-in-None.ensures.items, c.in_ok-name-in-None.ensures.ok, c.in_ok-bytes.ensures.items) (with_file-no_place c.args.files.now.items c.args.name.now c.args.bytes.now place)

pub returns-in_ok-push-in-None-clause-saved : goal.returns-in_ok-push-in-None-clause-saved
returns-in_ok-push-in-None-clause-saved c =
    rw (returns-in_ok-push-in-None-clause-ok c) (saved c.args.files.now.items c.args.name.now c.args.bytes.now)
