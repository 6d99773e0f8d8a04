use Rattle.std.proofs.Common.{◌≡◌, ◌++◌, drop, string_bytes}
use Rattle.report_text.specs.Lines.{entries_text}
use Rattle.report_text.proofs.lines.entries_text.Given as goal

abbrev pub invariant-loop-entry : goal.invariant-loop-entry
invariant-loop-entry l = string_bytes l.text ++ entries_text (drop l.entry-index l.entries) ≡ entries_text l.entries
