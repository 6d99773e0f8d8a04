-- What a command answers.
use Rattle.std.specs.Prelude.{ℕ, Bool, true, false}
use Rattle.rewrite_cli.specs.declared.status.Status.{Status}
use Rattle.rewrite_cli.specs.declared.status.Status.TheVariants.{Done, Exited, Faulted, Spent, Usage, Refused}
use Rattle.rewrite_cli.specs.declared.status.Status.TheVariants.{StoreFault, ReadFault, WriteFault, OutOfMemory}

-- the exit status of the program
abbrev pub exit_number_of : Status → ℕ
exit_number_of Done = 0
exit_number_of (Exited code) = code
exit_number_of (Faulted kind pc addr) = 120
exit_number_of Spent = 121
exit_number_of Usage = 123
exit_number_of (Refused why) = 124
exit_number_of StoreFault = 125
exit_number_of ReadFault = 126
exit_number_of WriteFault = 127
exit_number_of OutOfMemory = 128

-- an answer that the outside or want of memory can give in place of any other
abbrev pub is_from_outside : Status → Bool
is_from_outside StoreFault = true
is_from_outside ReadFault = true
is_from_outside WriteFault = true
is_from_outside OutOfMemory = true
is_from_outside _ = false

-- the guest's run has come to an ending
abbrev pub is_ending : Status → Bool
is_ending (Exited code) = true
is_ending (Faulted kind pc addr) = true
is_ending _ = false

-- an answer that comes before any of the input is read or any output is written
abbrev pub comes_first : Status → Bool
comes_first Usage = true
comes_first (Refused why) = true
comes_first _ = false

-- an answer after which all files are as they were; WriteFault is one where it was the output that failed
abbrev pub keeps_files : Status → Bool
keeps_files Usage = true
keeps_files (Refused why) = true
keeps_files Spent = true
keeps_files ReadFault = true
keeps_files WriteFault = true
keeps_files _ = false

-- an answer in place of what a file holds
abbrev pub is_refusal : Status → Bool
is_refusal (Refused why) = true
is_refusal StoreFault = true
is_refusal OutOfMemory = true
is_refusal _ = false
