-- The lines that tell of a run: what is counted of it, and how it has ended.
use Rattle.std.specs.Prelude.{ℕ, suc, ◌-◌, ◌^◌, false, List, [], ◌∷◌, ◌++◌, codes, decimal, flat_map}
use Rattle.std.specs.Fmt.{digits, padded_integral, format_spec}
use Rattle.rv64_decode.specs.declared.memory.MemFault.{MemFault}
use Rattle.rv64_decode.specs.declared.memory.MemFault.TheVariants.{Misaligned, Unmapped, Denied}
use Rattle.rv64_decode.specs.declared.outcome.Fault.{Fault}
use Rattle.rv64_decode.specs.declared.outcome.Fault.TheVariants.{Fetch, Illegal, Break, Target, Load as LoadFault}
use Rattle.rv64_decode.specs.declared.outcome.Fault.TheVariants.{Store as StoreRefused}
use Rattle.serial_run.specs.declared.machine.End.{End}
use Rattle.serial_run.specs.declared.machine.End.TheVariants.{Exited, Faulted, Spent, ReadFault, WriteFault}
use Rattle.hart_core.specs.declared.counts.LoopCount.{LoopCount}
use Rattle.report_text.specs.Lines.{hex8}

-- a line
abbrev pub line : List ℕ → List ℕ
line text = text ++ 10 ∷ []

-- a word as 16 hexadecimal digits: what `{:016x}` writes
abbrev pub hex16 : ℕ → List ℕ
hex16 n = padded_integral (format_spec 32 0 4 16 (2 ^ 64 - 1)) false [] (digits 16 false n)

-- ---- what is counted

-- the line of an entry, by its header. Headers of images lie below 2^32 and have 8 digits; of a number from there on
-- all its digits would be written, 9 to 16 of them
abbrev pub entry_line : LoopCount → List ℕ
entry_line c =
    line (codes "loop 0x" ++ (hex8 c.header ++ (codes " arrivals " ++ (decimal c.arrivals ++
    (codes " divided " ++ (decimal c.divided ++ (codes " turns " ++ decimal c.turns)))))))

-- a line for each entry, in their order
abbrev pub entry_lines : List LoopCount → List ℕ
entry_lines loops = flat_map entry_line loops

-- the line of the hart of a number, which has executed so many instructions
abbrev pub hart_line : ℕ → ℕ → List ℕ
hart_line number instructions =
    line (codes "hart " ++ (decimal number ++ (codes " instructions " ++ decimal instructions)))

-- a line for each hart, of which the first has this number
abbrev pub hart_lines : ℕ → List ℕ → List ℕ
hart_lines number [] = []
hart_lines number (instructions ∷ harts) = hart_line number instructions ++ hart_lines (suc number) harts

-- all that is counted of a run: its entries, its harts from number 0 on, and the instructions of them all
abbrev pub count_lines : List LoopCount → List ℕ → ℕ → List ℕ
count_lines loops harts steps = entry_lines loops ++ (hart_lines 0 harts ++ line (codes "steps " ++ decimal steps))

-- ---- how it has ended

abbrev pub exit_line : ℕ → List ℕ
exit_line code = line (codes "exit " ++ decimal code)

-- why an access to memory is refused
abbrev pub why_text : MemFault → List ℕ
why_text Misaligned = codes "misaligned"
why_text Unmapped = codes "unmapped"
why_text Denied = codes "denied"

-- the kind of a fault
abbrev pub fault_text : Fault → List ℕ
fault_text Fetch = codes "fetch"
fault_text Illegal = codes "illegal"
fault_text Break = codes "break"
fault_text Target = codes "target"
fault_text (LoadFault why) = codes "load-" ++ why_text why
fault_text (StoreRefused why) = codes "store-" ++ why_text why

abbrev pub fault_line : Fault → ℕ → ℕ → List ℕ
fault_line kind pc addr =
    line (codes "fault " ++ (fault_text kind ++ (codes " pc 0x" ++ (hex16 pc ++ (codes " addr 0x" ++ hex16 addr)))))

-- ---- the report

-- the lines of a run, by what is counted of its entries and harts, by the instructions of them all, and by how it has
-- ended. Counts are told of one that has come to an ending, and nothing after a fault of the sink
abbrev pub run_lines : List LoopCount → List ℕ → ℕ → End → List ℕ
run_lines loops harts steps (Exited code) = count_lines loops harts steps ++ exit_line code
run_lines loops harts steps (Faulted kind pc addr) = count_lines loops harts steps ++ fault_line kind pc addr
run_lines loops harts steps Spent = line (codes "spent")
run_lines loops harts steps ReadFault = line (codes "read-fault")
run_lines loops harts steps WriteFault = []
