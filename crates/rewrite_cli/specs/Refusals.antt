-- Refusals: the answer to a file that holds no executable, and how a refusal is written.
use Rattle.std.specs.Prelude.{ℕ, List, [], ◌++◌, codes, decimal, Option, Some, None}
use Rattle.elf_image.specs.declared.rules.ElfErr.{ElfErr}
use Rattle.elf_image.specs.declared.rules.ElfErr.TheVariants as elf
use Rattle.rewrite_cli.specs.declared.status.Reason.{Reason}
use Rattle.rewrite_cli.specs.declared.status.Reason.TheVariants.{LoadTooLong, TooLong, NotElf, HeaderCut, Class}
use Rattle.rewrite_cli.specs.declared.status.Reason.TheVariants.{ByteOrder, Version, FileType, Machine, Flags}
use Rattle.rewrite_cli.specs.declared.status.Reason.TheVariants.{HeaderSize, TooManyHeaders, Marked, SegmentSize}
use Rattle.rewrite_cli.specs.declared.status.Reason.TheVariants.{SegmentCut, Dynamic, WritableCode, Range}
use Rattle.rewrite_cli.specs.declared.status.Reason.TheVariants.{TooMuchMemory, Overlap, EntryOutside, TooManyWords}
use Rattle.rewrite_cli.specs.declared.status.Reason.TheVariants.{TooManyLoops, CodeTooLong, BadMark, Altered, TooLarge}
use Rattle.rewrite_cli.specs.declared.status.Status.{Status}
use Rattle.rewrite_cli.specs.declared.status.Status.TheVariants.{Refused, OutOfMemory}

-- the first rule that the file breaks
abbrev pub refusal_of : ElfErr → Status
refusal_of (elf.TooLong length) = Refused (TooLong length)
refusal_of elf.NotElf = Refused NotElf
refusal_of (elf.HeaderCut need have) = Refused (HeaderCut need have)
refusal_of (elf.Class value) = Refused (Class value)
refusal_of (elf.ByteOrder value) = Refused (ByteOrder value)
refusal_of (elf.Version value) = Refused (Version value)
refusal_of (elf.FileType value) = Refused (FileType value)
refusal_of (elf.Machine value) = Refused (Machine value)
refusal_of (elf.Flags value) = Refused (Flags value)
refusal_of (elf.HeaderSize value) = Refused (HeaderSize value)
refusal_of (elf.TooManyHeaders count) = Refused (TooManyHeaders count)
refusal_of (elf.Marked index) = Refused (Marked index)
refusal_of (elf.SegmentSize index) = Refused (SegmentSize index)
refusal_of (elf.SegmentCut index) = Refused (SegmentCut index)
refusal_of (elf.Dynamic index) = Refused (Dynamic index)
refusal_of (elf.WritableCode index) = Refused (WritableCode index)
refusal_of (elf.Range index) = Refused (Range index)
refusal_of (elf.TooMuchMemory bytes) = Refused (TooMuchMemory bytes)
refusal_of (elf.Overlap first second) = Refused (Overlap first second)
refusal_of (elf.EntryOutside entry) = Refused (EntryOutside entry)
refusal_of elf.OutOfMemory = OutOfMemory

-- a refusal by name
abbrev pub reason_name : Reason → List ℕ
reason_name (LoadTooLong limit) = codes "load-too-long"
reason_name (TooLong length) = codes "too-long"
reason_name NotElf = codes "not-elf"
reason_name (HeaderCut need have) = codes "header-cut"
reason_name (Class value) = codes "class"
reason_name (ByteOrder value) = codes "byte-order"
reason_name (Version value) = codes "version"
reason_name (FileType value) = codes "file-type"
reason_name (Machine value) = codes "machine"
reason_name (Flags value) = codes "flags"
reason_name (HeaderSize value) = codes "header-size"
reason_name (TooManyHeaders count) = codes "too-many-headers"
reason_name (Marked index) = codes "marked"
reason_name (SegmentSize index) = codes "segment-size"
reason_name (SegmentCut index) = codes "segment-cut"
reason_name (Dynamic index) = codes "dynamic"
reason_name (WritableCode index) = codes "writable-code"
reason_name (Range index) = codes "range"
reason_name (TooMuchMemory bytes) = codes "too-much-memory"
reason_name (Overlap first second) = codes "overlap"
reason_name (EntryOutside entry) = codes "entry-outside"
reason_name (TooManyWords count) = codes "too-many-words"
reason_name (TooManyLoops count) = codes "too-many-loops"
reason_name (CodeTooLong words) = codes "code-too-long"
reason_name BadMark = codes "bad-mark"
reason_name (Altered offset) = codes "altered"
reason_name (TooLarge n) = codes "too-large"

-- its fields in order
abbrev pub reason_fields : Reason → Option ℕ × Option ℕ
reason_fields (LoadTooLong limit) = (Some limit, None)
reason_fields (TooLong length) = (Some length, None)
reason_fields NotElf = (None, None)
reason_fields (HeaderCut need have) = (Some need, Some have)
reason_fields (Class value) = (Some value, None)
reason_fields (ByteOrder value) = (Some value, None)
reason_fields (Version value) = (Some value, None)
reason_fields (FileType value) = (Some value, None)
reason_fields (Machine value) = (Some value, None)
reason_fields (Flags value) = (Some value, None)
reason_fields (HeaderSize value) = (Some value, None)
reason_fields (TooManyHeaders count) = (Some count, None)
reason_fields (Marked index) = (Some index, None)
reason_fields (SegmentSize index) = (Some index, None)
reason_fields (SegmentCut index) = (Some index, None)
reason_fields (Dynamic index) = (Some index, None)
reason_fields (WritableCode index) = (Some index, None)
reason_fields (Range index) = (Some index, None)
reason_fields (TooMuchMemory bytes) = (Some bytes, None)
reason_fields (Overlap first second) = (Some first, Some second)
reason_fields (EntryOutside entry) = (Some entry, None)
reason_fields (TooManyWords count) = (Some count, None)
reason_fields (TooManyLoops count) = (Some count, None)
reason_fields (CodeTooLong words) = (Some words, None)
reason_fields BadMark = (None, None)
reason_fields (Altered offset) = (Some offset, None)
reason_fields (TooLarge n) = (Some n, None)

-- a field in decimal
abbrev pub field_text : Option ℕ → List ℕ
field_text None = []
field_text (Some n) = codes " " ++ decimal n

-- a refusal and its fields in order, in decimal
abbrev pub reason_text : Reason → List ℕ
reason_text why = reason_name why ++ (field_text (reason_fields why).0 ++ field_text (reason_fields why).1)
