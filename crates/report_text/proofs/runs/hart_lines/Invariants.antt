use Rattle.std.proofs.Common.{◌≡◌, ◌++◌, drop, string_bytes}
use Rattle.report_text.specs.RunLines.{hart_lines}
use Rattle.report_text.proofs.runs.hart_lines.Given as goal

abbrev pub invariant-loop-number : goal.invariant-loop-number
invariant-loop-number l = string_bytes l.text ++ hart_lines l.number (drop l.number l.harts) ≡ hart_lines 0 l.harts
