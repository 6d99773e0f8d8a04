-- What a command does where the outside does not fail and memory is found.
use Rattle.std.specs.Prelude.{ℕ, suc, ◌≡◌, ◌≢◌, ◌⊎◌, ◌<◌, ◌≤◌, ◌++◌, ◌^◌, true, map, List, [], ◌∷◌, Option, Some, None}
use Rattle.std.specs.Prelude.{Result, Ok, Err, length, IsNone, IsSome}
use Rattle.std.specs.List.{All}
use Rattle.outside_ports.specs.Ports.{Files}
use Rattle.outside_ports.specs.Fakes.{File}
use Rattle.elf_image.specs.declared.rules.ElfErr.{ElfErr}
use Rattle.elf_image.specs.declared.image.Elf.{Elf}
use Rattle.elf_image.specs.Reading.{reading_of}
use Rattle.image_writer.specs.declared.image.Image.{Image}
use Rattle.rewriter.specs.declared.rewriting.Rewritten.{Rewritten}
use Rattle.rewriter.specs.declared.rewriting.RewriteErr.{RewriteErr}
use Rattle.rewriter.specs.declared.rewriting.RewriteErr.TheVariants.{Elf as NotRead, TooManyWords as ManyWords}
use Rattle.rewriter.specs.declared.rewriting.RewriteErr.TheVariants.{TooManyLoops as ManyLoops, CodeTooLong as LongCode}
use Rattle.rewriter.specs.declared.rewriting.RewriteErr.TheVariants.{OutOfMemory as NoRoom}
use Rattle.rewriter.specs.declared.admission.AdmitErr.{AdmitErr}
use Rattle.rewriter.specs.declared.admission.AdmitErr.TheVariants.{BadMark as IsBad, Original, Altered as Differs}
use Rattle.rewriter.specs.declared.admission.AdmitErr.TheVariants.{OutOfMemory as NoRoomToAdmit}
use Rattle.rewriter.specs.Rewriting.{IsRewriting}
use Rattle.rewriter.specs.Admission.{IsAdmission}
use Rattle.serial_run.specs.Serial.{State, start_of, ended, serial, IsEnding}
use Rattle.sample_maker.specs.declared.Kind.{Kind}
use Rattle.sample_maker.specs.Sample.{sample_bytes, limit}
use Rattle.rewrite_cli.specs.Words.{Command, Run, Rewrite, Loops, Make}
use Rattle.rewrite_cli.specs.Listing.{Listing, Lines, TooMany, TooManyChosen, AreLines, IsListing}
use Rattle.walks.specs.Walk.{Point, IsPoint}
use Rattle.walks.specs.Laws.{shown}
use Rattle.rewrite_cli.specs.Counts.{Tally, OfRun, OfImage, OfSample, OfNothing}
use Rattle.rewrite_cli.specs.Refusals.{refusal_of}
use Rattle.rewrite_cli.specs.Runs.{View, view_of, status_of, dump_of, EndsAfter}
use Rattle.rewrite_cli.specs.Status.{is_ending}
use Rattle.rewrite_cli.specs.Texts.{report_of}
use Rattle.rewrite_cli.specs.declared.status.Reason.TheVariants.{LoadTooLong, TooManyWords, TooManyLoops, CodeTooLong}
use Rattle.rewrite_cli.specs.declared.status.Reason.TheVariants.{BadMark, Altered, TooLarge}
use Rattle.rewrite_cli.specs.declared.status.Status.{Status}
use Rattle.rewrite_cli.specs.declared.status.Status.TheVariants.{Done, Spent, Usage, Refused, OutOfMemory}

pub record Effect : Type 0 where
  pub status : Status
  -- the bytes that it appends to the output
  pub output : List ℕ
  -- the bytes of the input that it leaves
  pub rest : List ℕ
  -- the text of its report
  pub report : List ℕ
  -- the files that it saves, in this order
  pub saved : List File

-- the answer, and nothing else is done
abbrev pub only : Status → List ℕ → Effect
only status input =
    record { status = status; output = []; rest = input; report = report_of OfNothing status; saved = [] }

-- ---- files

-- the longest file that is loaded
abbrev pub load_limit : ℕ
load_limit = 84934656

-- what is done with a file: one that is too long is refused, and of a missing one nothing is said
abbrev pub OfFile : ℕ → (List ℕ → Effect → Type 0) → List ℕ → Option (List ℕ) → Effect → Type 0
OfFile limit Act input None effect = ⊥
OfFile limit Act input (Some bytes) effect =
    ((limit < length bytes) × (effect ≡ only (Refused (LoadTooLong limit)) input))
    ⊎ ((length bytes ≤ limit) × Act bytes effect)

-- the answer to an executable that is not rewritten
abbrev pub status_of_refusal : RewriteErr → Status
status_of_refusal (NotRead e) = refusal_of e
status_of_refusal (ManyWords count) = Refused (TooManyWords count)
status_of_refusal (ManyLoops count) = Refused (TooManyLoops count)
status_of_refusal (LongCode words) = Refused (CodeTooLong words)
status_of_refusal NoRoom = OutOfMemory

-- the answer to a file that is not admitted
abbrev pub status_of_admission : AdmitErr → Status
status_of_admission IsBad = Refused BadMark
status_of_admission (Original why) = status_of_refusal why
status_of_admission (Differs offset) = Refused (Altered offset)
status_of_admission NoRoomToAdmit = OutOfMemory

-- ---- a run

-- a run of at most so many steps, of which this is seen
abbrev pub effect_of : ℕ → Option (List ℕ) → (ℕ → View) → Effect
effect_of fuel dump view =
    let v = view fuel in
    record {
      status = status_of v.ended;
      output = v.output;
      rest = v.rest;
      report = report_of v.tally (status_of v.ended);
      saved = dump_of dump (status_of v.ended) v.memory;
    }

-- that of an image
abbrev pub ran : ℕ → Option (List ℕ) → Image → List ℕ → Effect
ran fuel dump image input = effect_of fuel dump (view_of image input)

-- the effect is that of an executable's run whose ending is at this state
pub record HasEnding (dump : Option (List ℕ)) (t : State) (effect : Effect) : Type 0 where
  pub status : effect.status ≡ status_of (ended t)
  pub output : effect.output ≡ t.output
  pub rest : effect.rest ≡ t.rest
  pub saved : effect.saved ≡ dump_of dump (status_of (ended t)) t.machine.memory

-- it has written and left unread what the executable has at this state, and has an ending only where the state has it
pub record IsAlong (dump : Option (List ℕ)) (t : State) (effect : Effect) : Type 0 where
  pub output : effect.output ≡ t.output
  pub rest : effect.rest ≡ t.rest
  pub ending : is_ending effect.status ≡ true → IsSome (ended t) × HasEnding dump t effect

-- the executable ends at this state, where the walk over its run is at this point: the run ends after as many steps as
-- the walk has counted, and not before. If there is fuel for them the effect has this ending, and reports what the walk
-- has counted; otherwise the run is spent
pub record EndsAt (fuel : ℕ) (dump : Option (List ℕ)) (view : ℕ → View) (t : State) (w : Point) (effect : Effect)
    : Type 0 where
  pub steps : EndsAfter view w.events
  pub within : w.events ≤ fuel → HasEnding dump t effect
  pub counts : w.events ≤ fuel → fuel < 2 ^ 64
      → effect.report ≡ report_of (OfRun (map shown w.loops) (w.events ∷ []) w.events) effect.status
  pub beyond : fuel < w.events → effect.status ≡ Spent

-- an image does what its executable does: it ends where that ends, and has always written and left unread what the
-- executable has after some instructions
pub record RunsAs (fuel : ℕ) (dump : Option (List ℕ)) (input : List ℕ) (image : Image) (effect : Effect) : Type 0 where
  pub ends : (n : ℕ) (t : State) → IsEnding (start_of image.elf input) n t
      → (k : ℕ) × (w : Point) × IsPoint image input k w × (w.index ≡ n)
      × EndsAt fuel dump (view_of image input) t w effect
  pub along : (n : ℕ) × IsAlong dump (serial n (start_of image.elf input)) effect

-- what is done with a file that is to be run, by its admission
abbrev pub OfAdmission : (Image → Effect → Type 0) → List ℕ → Result Image AdmitErr → Effect → Type 0
OfAdmission Act input (Ok image) effect = Act image effect
OfAdmission Act input (Err why) effect = effect ≡ only (status_of_admission why) input

-- an image does what its executable does, for an input of bytes
pub record Runs (fuel : ℕ) (dump : Option (List ℕ)) (input : List ℕ) (image : Image) (effect : Effect) : Type 0 where
  pub is : effect ≡ ran fuel dump image input
  pub as_executable : All (λ (b : ℕ). b < 256) input → RunsAs fuel dump input image effect

-- a run of the file with these bytes
pub record RunsFile (fuel : ℕ) (dump : Option (List ℕ)) (input bytes : List ℕ) (effect : Effect) : Type 0 where
  pub admission : Result Image AdmitErr
  pub is : IsAdmission bytes admission
  pub found : admission ≢ Err NoRoomToAdmit
  pub does : OfAdmission (Runs fuel dump input) input admission effect

-- ---- rewriting

abbrev pub counts_of : Rewritten → Tally
counts_of made = OfImage made.entries made.words

-- an image, and where it is saved
abbrev pub image_saved : List ℕ → List ℕ → Rewritten → Effect
image_saved new input made =
    record {
      status = Done;
      output = [];
      rest = input;
      report = report_of (counts_of made) Done;
      saved = (new, made.bytes) ∷ [];
    }

abbrev pub of_rewriting : List ℕ → List ℕ → Result Rewritten RewriteErr → Effect
of_rewriting new input (Ok made) = image_saved new input made
of_rewriting new input (Err why) = only (status_of_refusal why) input

-- the image of the file with these bytes, saved under a name
pub record RewritesFile (new input bytes : List ℕ) (effect : Effect) : Type 0 where
  pub rewriting : Result Rewritten RewriteErr
  pub is : IsRewriting bytes rewriting
  pub found : rewriting ≢ Err NoRoom
  pub does : effect ≡ of_rewriting new input rewriting

-- ---- lists of loops

abbrev pub listed : Listing → List ℕ → Effect
listed (Lines lines) input = record { status = Done; output = lines; rest = input; report = []; saved = [] }
listed (TooMany count) input = only (Refused (TooManyWords count)) input
listed (TooManyChosen count) input = only (Refused (TooManyLoops count)) input

abbrev pub OfReading : List ℕ → Result Elf ElfErr → Effect → Type 0
OfReading input (Ok elf) effect = (listing : Listing) × (IsListing elf listing × (effect ≡ listed listing input))
OfReading input (Err e) effect = effect ≡ only (refusal_of e) input

-- the loops of the executable in these bytes
abbrev pub ListsFile : List ℕ → List ℕ → Effect → Type 0
ListsFile input bytes effect = OfReading input (reading_of bytes) effect

-- ---- samples

-- a sample, and where it is saved
abbrev pub sample_saved : Kind → ℕ → List ℕ → List ℕ → Effect
sample_saved kind size new input =
    record {
      status = Done;
      output = [];
      rest = input;
      report = report_of (OfSample (length (sample_bytes kind size))) Done;
      saved = (new, sample_bytes kind size) ∷ [];
    }

-- the sample of a kind and size, saved under a name: a size past the kind's limit is refused
abbrev pub MakesSample : Kind → ℕ → List ℕ → List ℕ → Effect → Type 0
MakesSample kind size new input effect =
    ((limit kind < size) × (effect ≡ only (Refused (TooLarge size)) input))
    ⊎ ((size ≤ limit kind) × (effect ≡ sample_saved kind size new input))

-- ---- commands

-- the command has this effect, given the store's files and the input
abbrev pub Does : Option Command → Files → List ℕ → Effect → Type 0
Does None files input effect = effect ≡ only Usage input
Does (Some (Run file fuel dump)) files input effect =
    OfFile load_limit (RunsFile fuel dump input) input (files file) effect
Does (Some (Rewrite file new)) files input effect =
    OfFile load_limit (RewritesFile new input) input (files file) effect
Does (Some (Loops file)) files input effect = OfFile load_limit (ListsFile input) input (files file) effect
Does (Some (Make kind size new)) files input effect = MakesSample kind size new input effect

-- ---- on the way

-- the content is there, is not too long, and is admitted as this image
pub record HoldsImage (content : Option (List ℕ)) (image : Image) : Type 0 where
  pub bytes : List ℕ
  pub are : content ≡ Some bytes
  pub within : length bytes ≤ load_limit
  pub admitted : IsAdmission bytes (Ok image)

-- the content is there, is not too long, and holds an executable whose loops have these lines
pub record HoldsLines (content : Option (List ℕ)) (lines : List ℕ) : Type 0 where
  pub bytes : List ℕ
  pub are : content ≡ Some bytes
  pub within : length bytes ≤ load_limit
  pub elf : Elf
  pub read : reading_of bytes ≡ Ok elf
  pub lines_are : AreLines elf lines

-- the run of a guest starts
abbrev pub StartsRun : Option Command → Files → Type 0
StartsRun (Some (Run file fuel dump)) files = (image : Image) × HoldsImage (files file) image
StartsRun _ files = ⊥

-- there may be output
abbrev pub StartsOutput : Option Command → Files → Type 0
StartsOutput (Some (Loops file)) files = (lines : List ℕ) × HoldsLines (files file) lines
StartsOutput command files = StartsRun command files

-- a moment of a command's work: what it has written, what it is about to write behind that, and the bytes
-- of the input that are left
pub record Moment : Type 0 where
  pub output : List ℕ
  pub more : List ℕ
  pub rest : List ℕ

-- a moment of a run, in one of its steps: it has not ended before that
pub record IsMomentOf (fuel : ℕ) (view : ℕ → View) (moment : Moment) : Type 0 where
  pub count : ℕ
  pub below : count < fuel
  pub running : IsNone (view count).ended
  pub output : moment.output ≡ (view count).output
  pub more : (view (suc count)).output ≡ moment.output ++ moment.more
  pub rest : moment.rest ≡ (view count).rest

-- the command comes to this moment
abbrev pub Passes : Option Command → Files → List ℕ → Moment → Type 0
Passes (Some (Run file fuel dump)) files input moment =
    (image : Image) × (HoldsImage (files file) image × IsMomentOf fuel (view_of image input) moment)
Passes (Some (Loops file)) files input moment =
    HoldsLines (files file) moment.more × (moment.output ≡ []) × (moment.rest ≡ input)
Passes _ files input moment = ⊥
