-- What a command has done and said, whatever the outside tells and wherever it fails.
use Rattle.std.specs.Prelude.{ℕ, ◌≡◌, ◌≢◌, ◌⊎◌, ◌++◌, take, drop, true, false, List, [], ◌∷◌, Option, Some, None}
use Rattle.outside_ports.specs.Ports.{Files, Rose, SavedIn, SameButIn}
use Rattle.outside_ports.specs.Fakes.{File}
use Rattle.rewrite_cli.specs.Words.{Command}
use Rattle.rewrite_cli.specs.Needs.{needs_of, names_of, LacksOne, SameBut}
use Rattle.image_writer.specs.declared.image.Image.{Image}
use Rattle.rewrite_cli.specs.Outside.{Stored, Stream, Outside}
use Rattle.rewrite_cli.specs.Effect.{Effect, Does, StartsRun, StartsOutput, Moment, IsMomentOf, Passes, ran}
use Rattle.rewrite_cli.specs.Status.{is_from_outside, comes_first}
use Rattle.rewrite_cli.specs.Texts.{report_of}
use Rattle.rewrite_cli.specs.Counts.{Tally}
use Rattle.serial_run.specs.Runs.{from_outside}
use Rattle.serial_run.specs.declared.machine.End.{End}
use Rattle.rewrite_cli.specs.Runs.{View, view_of}
use Rattle.rewrite_cli.specs.declared.status.Status.{Status}
use Rattle.rewrite_cli.specs.declared.status.Status.TheVariants.{Usage, StoreFault, ReadFault, WriteFault, OutOfMemory}

-- these are the store's files, which it tells where the command loads any, and the bytes of the input,
-- which it tells where a guest's run starts
pub record Tells (command : Option Command) (before : Outside) (files : Files) (input : List ℕ) : Type 0 where
  pub files_are : (needs_of command).loads ≢ [] → before.store.files ≡ Some files
  pub input_is : StartsRun command files → before.input.bytes ≡ Some input

-- ---- what changes

-- these bytes are appended
abbrev pub Appends : Option (List ℕ) → Option (List ℕ) → List ℕ → Type 0
Appends before after bytes = (ys : List ℕ) → before ≡ Some ys → after ≡ Some (ys ++ bytes)

-- these bytes are, and then a first part of those
abbrev pub AppendsPart : Option (List ℕ) → Option (List ℕ) → List ℕ → List ℕ → Type 0
AppendsPart before after bytes more =
    (ys : List ℕ) → before ≡ Some ys → (k : ℕ) × (after ≡ Some (ys ++ (bytes ++ take k more)))

-- of all these bytes of an input those are left
abbrev pub LeavesRest : Option (List ℕ) → Option (List ℕ) → List ℕ → List ℕ → Type 0
LeavesRest before after all rest = before ≡ Some all → after ≡ Some rest

-- the files are those before, with these that are saved one after the other
abbrev pub AreSaved : Files → Option Files → List File → Type 0
AreSaved m files [] = files ≡ Some m
AreSaved m files (file ∷ later) = (n : Files) × (SavedIn m (Some n) file.0 file.1 × AreSaved n files later)

-- after this answer the files are those before, but for the next one to be saved, where the store failed
abbrev pub StayBut : Status → Files → Option Files → List File → Type 0
StayBut StoreFault m files [] = ⊥
StayBut StoreFault m files (file ∷ later) = SameButIn m files file.0
StayBut _ m files later = files ≡ Some m

-- ---- answers

-- the outside tells what the effect leaves, and the answer and its report are those of the effect
pub record IsMet (effect : Effect) (m : Files) (input : List ℕ) (before after : Outside) (answer : Status)
    (text : List ℕ) : Type 0 where
  pub status : answer ≡ effect.status
  pub report : text ≡ effect.report
  pub output : Appends before.output.bytes after.output.bytes effect.output
  pub rest : LeavesRest before.input.bytes after.input.bytes input effect.rest
  pub saved : before.store.files ≡ Some m → AreSaved m after.store.files effect.saved

-- the outside tells what it told before
pub record IsUntouched (before after : Outside) : Type 0 where
  pub output : after.output.bytes ≡ before.output.bytes
  pub rest : after.input.bytes ≡ before.input.bytes
  pub files : after.store.files ≡ before.store.files

-- the command stopped at this moment, where a port failed, or a guest that runs met want of memory. Of the
-- input no more was read, unless it failed
pub record StopsAt (moment : Moment) (Running : Type 0) (input : List ℕ) (before after : Outside) (answer : Status) :
    Type 0 where
  pub why : (answer ≡ ReadFault) ⊎ ((answer ≡ WriteFault) ⊎ ((answer ≡ OutOfMemory) × Running))
  pub output : AppendsPart before.output.bytes after.output.bytes moment.output moment.more
  pub rest : answer ≢ ReadFault → LeavesRest before.input.bytes after.input.bytes input moment.rest
  pub files : after.store.files ≡ before.store.files

-- the command stopped behind all else, where so many of its files are saved: the store failed, or memory
-- was wanted behind a guest's run or for a file
pub record StopsBehind (effect : Effect) (Running : Type 0) (m : Files) (input : List ℕ) (before after : Outside)
    (answer : Status) : Type 0 where
  pub why : (answer ≡ StoreFault) ⊎ ((answer ≡ OutOfMemory) × (Running ⊎ (effect.saved ≢ [])))
  pub output : Appends before.output.bytes after.output.bytes effect.output
  pub rest : LeavesRest before.input.bytes after.input.bytes input effect.rest
  pub count : ℕ
  pub some_left : (count ≡ 0) ⊎ (drop count effect.saved ≢ [])
  pub between : Files
  pub saved : AreSaved m (Some between) (take count effect.saved)
  pub files : before.store.files ≡ Some m → StayBut answer between after.store.files (drop count effect.saved)

-- where a command of these moments and effects has stopped, which may be running a guest
abbrev pub Stops : (Moment → Type 0) → (Effect → Type 0) → Type 0 → Files → List ℕ → Outside → Outside → Status → Type 0
Stops Passing Doing Running m input before after answer =
    IsUntouched before after
    ⊎ (((moment : Moment) × (Passing moment × StopsAt moment Running input before after answer))
    ⊎ ((effect : Effect) × (Doing effect × StopsBehind effect Running m input before after answer)))

-- what an answer comes from
abbrev pub HasCause : Option Command → Outside → Outside → Status → Type 0
HasCause command before after Usage = command ≡ None
HasCause command before after StoreFault =
    Rose before.store.faults after.store.faults ⊎ LacksOne before.store.files (needs_of command).loads
HasCause command before after ReadFault = Rose before.input.faults after.input.faults
HasCause command before after WriteFault = Rose before.output.faults after.output.faults
HasCause command before after _ = Unit {0}

-- what a command has done that has this answer to give, with this text as its report
pub record IsDone (command : Option Command) (before after : Outside) (answer : Status) (text : List ℕ) : Type 0 where
  -- the text is a report of the answer
  pub counts : Tally
  pub text_is : text ≡ report_of counts answer
  pub cause : HasCause command before after answer
  -- an answer that is not from outside: there is an effect that the command has, and all is as it says
  pub inside : (m : Files) (input : List ℕ) → Tells command before m input → is_from_outside answer ≡ false
      → (effect : Effect) × (Does command m input effect × IsMet effect m input before after answer text)
  -- one that is: the command has done nothing, or stopped at a moment that it passes, or all but saved
  pub stopped : (m : Files) (input : List ℕ) → Tells command before m input → is_from_outside answer ≡ true
      → Stops (Passes command m input) (Does command m input) (StartsRun command m) m input before after answer
  -- where the store failed, it failed to save, or the command loads files and has done nothing
  pub store_fault : answer ≡ StoreFault → Rose before.store.failed_saves after.store.failed_saves
      ⊎ (((needs_of command).loads ≢ []) × IsUntouched before after)
  -- files of other names than those that the command saves under stay
  pub others : (m : Files) → before.store.files ≡ Some m → SameBut m after.store.files (needs_of command).saves

-- this is what is counted of a run of at most so many steps that tells this ending, where no port met a fault
abbrev pub HasTally : ℕ → (List ℕ → ℕ → View) → Stream → End → Tally → Type 0
HasTally fuel view input end tally =
    (xs : List ℕ) → input.bytes ≡ Some xs → from_outside end ≡ false → tally ≡ (view xs fuel).tally

-- what a run of an image has done, and the saving of its memory under a name
pub record RunsTo (image : Image) (fuel : ℕ) (dump : Option (List ℕ)) (before after : Outside) (answer : Status)
    (text : List ℕ) : Type 0 where
  pub counts : Tally
  pub text_is : text ≡ report_of counts answer
  pub late : comes_first answer ≡ false
  pub store_fault : answer ≡ StoreFault → Rose before.store.faults after.store.faults
  pub failed_save : answer ≡ StoreFault → Rose before.store.failed_saves after.store.failed_saves
  pub read_fault : answer ≡ ReadFault → Rose before.input.faults after.input.faults
  pub write_fault : answer ≡ WriteFault → Rose before.output.faults after.output.faults
  pub inside : (m : Files) (input : List ℕ) → before.store.files ≡ Some m → before.input.bytes ≡ Some input
      → is_from_outside answer ≡ false
      → IsMet (ran fuel dump image input) m input before after answer text
  pub stopped : (m : Files) (input : List ℕ) → before.store.files ≡ Some m → before.input.bytes ≡ Some input
      → is_from_outside answer ≡ true
      → Stops (IsMomentOf fuel (view_of image input)) (λ effect. effect ≡ ran fuel dump image input)
      (Unit {0}) m input before after answer
  pub others : (m : Files) → before.store.files ≡ Some m → SameBut m after.store.files (names_of dump)

-- the answer and its report are given, or the report failed: then a first part of it was written, and the
-- answer is WriteFault
abbrev pub IsGiven : Status → List ℕ → Stream → Stream → Status → Type 0
IsGiven answer text before after given =
    ((given ≡ answer) × Appends before.bytes after.bytes text)
    ⊎ ((given ≡ WriteFault) × Rose before.faults after.faults × AppendsPart before.bytes after.bytes [] text)

-- what a command has done, and the answer that it gives: the one that it has to give, with its report, or
-- that to a report that failed
pub record IsAnswered (command : Option Command) (before after : Outside) (report reported : Stream) (given : Status)
    : Type 0 where
  pub answer : Status
  pub text : List ℕ
  pub is_done : IsDone command before after answer text
  pub is_given : IsGiven answer text report reported given

-- what a command of this answer leaves as it was, whatever the ports tell: the store, the input and the output
-- as they stand in the program, before and after. What the store has under FILE tells whether a run starts
pub record LeavesAlone {S I O : Type 0} (command : Option Command) (before after : Stored) (answer : Status)
    (store saved : S) (input read : I) (output written : O) : Type 0 where
  -- input and output after a refusal
  pub refused : comes_first answer ≡ true → (read ≡ input) × (written ≡ output)
  -- the input where no guest's run starts, and the output where there is none
  pub unread : (m : Files) → before.files ≡ Some m → ¬ StartsRun command m → read ≡ input
  pub unwritten : (m : Files) → before.files ≡ Some m → ¬ StartsOutput command m → written ≡ output
  -- both where the store failed, but not to save, and where a command that saves no file answers so
  pub unloaded : answer ≡ StoreFault
      → Rose before.failed_saves after.failed_saves ⊎ ((read ≡ input) × (written ≡ output))
  pub unsaved : (needs_of command).saves ≡ [] → answer ≡ StoreFault → (read ≡ input) × (written ≡ output)
  -- what the command does not need is not asked
  pub store_unasked : (needs_of command).loads ≡ [] → (needs_of command).saves ≡ [] → saved ≡ store
  pub input_unasked : (needs_of command).reads ≡ false → read ≡ input
  pub output_unasked : (needs_of command).writes ≡ false → written ≡ output

-- ---- laws

-- a command has one effect at most
abbrev pub OneEffect : Type 0
OneEffect = (command : Option Command) (files : Files) (input : List ℕ) (a b : Effect) → Does command files input a
    → Does command files input b → a ≡ b
