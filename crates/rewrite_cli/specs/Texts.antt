-- The lines of a report.
use Rattle.std.specs.Prelude.{ℕ, List, [], ◌++◌, codes, decimal}
use Rattle.serial_run.specs.declared.machine.End.{End}
use Rattle.serial_run.specs.declared.machine.End.TheVariants.{Exited as DidExit, Faulted as DidFault, Spent as DidSpend}
use Rattle.serial_run.specs.declared.machine.End.TheVariants.{ReadFault as SourceFault, WriteFault as SinkFault}
use Rattle.report_text.specs.RunLines.{line, run_lines}
use Rattle.rewrite_cli.specs.Refusals.{reason_text}
use Rattle.rewrite_cli.specs.Counts.{Tally, OfRun, OfImage, OfSample}
use Rattle.rewrite_cli.specs.declared.status.Status.{Status}
use Rattle.rewrite_cli.specs.declared.status.Status.TheVariants.{Done, Exited, Faulted, Spent, Usage, Refused}
use Rattle.rewrite_cli.specs.declared.status.Status.TheVariants.{StoreFault, ReadFault, WriteFault, OutOfMemory}

abbrev pub usage_text : List ℕ
usage_text =
    codes "usage: list FILE | rewrite FILE NEW | run FILE HARTS [FUEL [DUMP]] | replay FILE HARTS ORDER"
    ++ codes " | make KIND N NEW"

-- the report of a run with this ending
abbrev pub run_text : Tally → End → List ℕ
run_text (OfRun loops harts steps) end = run_lines loops harts steps end
run_text _ end = run_lines [] [] 0 end

-- what is said of what a command has made
abbrev pub done_text : Tally → List ℕ
done_text (OfImage entries words) = line (codes "rewritten entries " ++
    (decimal entries ++ (codes " words " ++ decimal words)))
done_text (OfSample bytes) = line (codes "made " ++ decimal bytes)
done_text _ = []

-- the report of an answer
abbrev pub report_of : Tally → Status → List ℕ
report_of tally Done = done_text tally
report_of tally (Exited code) = run_text tally (DidExit code)
report_of tally (Faulted kind pc addr) = run_text tally (DidFault kind pc addr)
report_of tally Spent = run_text tally DidSpend
report_of tally Usage = line usage_text
report_of tally (Refused why) = line (codes "refused " ++ reason_text why)
report_of tally StoreFault = line (codes "store-fault")
report_of tally ReadFault = run_text tally SourceFault
report_of tally WriteFault = run_text tally SinkFault
report_of tally OutOfMemory = line (codes "out-of-memory")
