use Rattle.std.proofs.Common.{◌≡◌, ◌++◌, drop, string_bytes}
use Rattle.report_text.specs.RunLines.{entry_lines}
use Rattle.report_text.proofs.runs.entry_lines.Given as goal

abbrev pub invariant-loop-count : goal.invariant-loop-count
invariant-loop-count l = string_bytes l.text ++ entry_lines (drop l.count-index l.loops) ≡ entry_lines l.loops
