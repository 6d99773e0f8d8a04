-- A command, and what a run saves, as they stand in the program.
use Rattle.std.specs.Prelude.{ℕ, Option, Some, None, List, [], ◌∷◌, if◌then◌else◌, string_bytes}
use Rattle.std.specs.Option.{option_copied}
use Rattle.outside_ports.specs.Fakes.{File}
use Rattle.rewrite_cli.specs.declared.dumping.Dump.{Dump}
use Rattle.rewrite_cli.specs.declared.reply.Reply.{Reply}
use Rattle.rewrite_cli.specs.Counts.{OfNothing}
use Rattle.rewrite_cli.specs.Status.{is_from_outside}
use Rattle.rewrite_cli.specs.Texts.{report_of}
use Rattle.rewrite_cli.specs.declared.words.Command.{Command}
use Rattle.rewrite_cli.specs.declared.words.Command.TheVariants.{Run, Rewrite, Loops, Make, Unknown}
use Rattle.rewrite_cli.specs.Words.{Command as Shown, Run as ShownRun, Rewrite as ShownRewrite, Loops as ShownLoops}
use Rattle.rewrite_cli.specs.Words.{Make as ShownMake}

abbrev pub command_shown : Command → Option Shown
command_shown (Run file fuel dump) = Some (ShownRun file.now fuel (option_copied dump))
command_shown (Rewrite file new) = Some (ShownRewrite file.now new.now)
command_shown (Loops file) = Some (ShownLoops file.now)
command_shown (Make kind size new) = Some (ShownMake kind size new.now)
command_shown Unknown = None

abbrev pub dump_shown : Option Dump → List File
dump_shown None = []
dump_shown (Some dump) = (dump.name.now, dump.bytes.items) ∷ []

-- the report that a reply is written with
abbrev pub text_of : Reply → List ℕ
text_of reply = if is_from_outside reply.status then report_of OfNothing reply.status else string_bytes reply.text
