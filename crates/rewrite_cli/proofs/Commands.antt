-- What each command has done.
use Rattle.std.proofs.Common.{◌≡◌, ◌≢◌, ◌≤◌, ◌<◌, ◌++◌, ℕ, ◌⊎◌, inl, inr, List, [], ◌∷◌, Option, Some, None, Ok, Err, Result, All}
use Rattle.std.proofs.Common.{Bool, true, false, refl, ap, sym, subst, ◌∙◌, arith}
use Rattle.std.specs.Prelude.{take, length}
use Rattle.outside_ports.specs.Ports.{Files, Rose, Lacks, SameButIn}
use Rattle.elf_image.specs.declared.image.Elf.{Elf}
use Rattle.elf_image.specs.declared.rules.ElfErr.{ElfErr}
use Rattle.elf_image.specs.Reading.{reading_of}
use Rattle.image_writer.specs.declared.image.Image.{Image}
use Rattle.rewriter.specs.declared.rewriting.Rewritten.{Rewritten}
use Rattle.rewriter.specs.declared.rewriting.RewriteErr.{RewriteErr}
use Rattle.rewriter.specs.declared.rewriting.RewriteErr.TheVariants as rewriting
use Rattle.rewriter.specs.declared.admission.AdmitErr.{AdmitErr}
use Rattle.rewriter.specs.declared.admission.AdmitErr.TheVariants as admitting
use Rattle.rewriter.specs.Admission.{IsAdmission, OneAdmissionLaw}
use Rattle.rewriter.specs.Rewriting.{IsRewriting}
use Rattle.serial_run.specs.declared.machine.End.{End}
use Rattle.serial_run.specs.declared.machine.End.TheVariants.{Exited as DidExit, Faulted as DidFault, Spent as DidSpend}
use Rattle.serial_run.specs.declared.machine.End.TheVariants.{ReadFault as SourceFault, WriteFault as SinkFault}
use Rattle.sample_maker.specs.declared.Kind.{Kind}
use Rattle.sample_maker.specs.Sample.{sample_bytes, limit}
use Rattle.rewrite_cli.specs.Words.{Run, Rewrite, Loops, Make}
use Rattle.loop_choice.specs.declared.judged.Judged.{Judged}
use Rattle.loop_choice.specs.declared.refusal.ChooseErr.{ChooseErr}
use Rattle.loop_choice.specs.declared.refusal.ChooseErr.TheVariants.{TooManyLoops as Crowded}
use Rattle.loop_choice.specs.Choice.{AreTooMany, IsChoiceRefused}
use Rattle.loop_data.specs.declared.graph.Graph.{Graph}
use Rattle.loop_data.specs.declared.shape.LoopShape.{LoopShape}
use Rattle.loop_division.specs.LoopVerdicts.{AreVerdicts, ChoosesTooMany}
use Rattle.rewrite_cli.specs.Listing.{Listing, Lines, TooMany, TooManyChosen}
use Rattle.rewrite_cli.specs.Listing.{IsListing}
use Rattle.rewrite_cli.specs.declared.status.Reason.TheVariants.{TooManyWords, TooManyLoops}
use Rattle.rewrite_cli.specs.Needs.{LacksOne}
use Rattle.rewrite_cli.specs.Counts.{OfNothing, OfSample}
use Rattle.rewrite_cli.specs.Texts.{report_of}
use Rattle.rewrite_cli.specs.Status.{is_from_outside, is_refusal, comes_first}
use Rattle.rewrite_cli.specs.Runs.{view_of, status_of}
use Rattle.rewrite_cli.specs.Effect.{Effect, IsMomentOf, Does, Passes, StartsRun, HoldsImage, HoldsLines, OfAdmission}
use Rattle.rewrite_cli.specs.Effect.{OfReading, Runs, RunsAs, RunsFile, RewritesFile, ListsFile, OfFile, load_limit, only, ran}
use Rattle.rewrite_cli.specs.Effect.{status_of_refusal, status_of_admission}
use Rattle.rewrite_cli.specs.Effect.{listed, image_saved, counts_of, sample_saved, MakesSample}
use Rattle.rewrite_cli.specs.Outside.{Stored, Stream, Outside, outside}
use Rattle.rewrite_cli.specs.Answer.{Appends, AreSaved, StayBut, IsMet, Stops}
use Rattle.rewrite_cli.specs.Answer.{HasCause, IsDone, RunsTo}
use Rattle.rewrite_cli.specs.declared.status.Status.{Status}
use Rattle.rewrite_cli.specs.declared.status.Status.TheVariants.{Done, Usage, Refused, OutOfMemory, WriteFault}
use Rattle.rewrite_cli.specs.declared.status.Status.TheVariants.{StoreFault, ReadFault}
use Rattle.rewrite_cli.proofs.Done.{appends_nothing, same_but, same_but_one, ended_done, plain_done, refusal_cause}
use Rattle.rewrite_cli.proofs.Loaded.{loaded}

pub rose_since : (before between now : ℕ) → before ≤ between → Rose between now → Rose before now
rose_since before between now h rose = omega arith

pub lacks_first : (before now : ℕ) (files : Option Files) (name : List ℕ) → Rose before now ⊎ Lacks files name
    → Rose before now ⊎ LacksOne files (name ∷ [])
lacks_first before now files name (inl rose) = inl rose
lacks_first before now files name (inr lacks) = inr (inl lacks)

-- ---- rewriting

pub rewritten_done : (file new bytes : List ℕ) (store between now : Stored) (input output : Stream) (answer : Status)
    (text : List ℕ) (made : Rewritten)
    → (answer ≡ Done) ⊎ ((answer ≡ StoreFault) ⊎ (answer ≡ OutOfMemory)) → text ≡ report_of (counts_of made) answer
    → between.files ≡ store.files → store.faults ≤ between.faults → between.failed_saves ≡ store.failed_saves
    → bytes ≡ made.bytes
    → ((m : Files) → store.files ≡ Some m → (new xs : List ℕ)
    → Does (Some (Rewrite file new)) m xs (image_saved new xs made))
    → ((m : Files) → between.files ≡ Some m → answer ≡ Done → AreSaved m now.files ((new, bytes) ∷ []))
    → ((m : Files) → between.files ≡ Some m → is_from_outside answer ≡ true
    → StayBut answer m now.files ((new, bytes) ∷ []))
    → ((m : Files) → between.files ≡ Some m → SameButIn m now.files new)
    → (answer ≡ StoreFault → Rose between.faults now.faults)
    → (answer ≡ StoreFault → Rose between.failed_saves now.failed_saves)
    → IsDone (Some (Rewrite file new)) (outside store input output) (outside now input output) answer text
rewritten_done file new bytes store between now input output answer text made kept is same rises unsaved image does
    saved stays others fault failed =
    ended_done (Some (Rewrite file new)) (outside store input output) (outside now input output) Done answer
    (counts_of made) text kept is refl tt
    (λ e. rose_since store.faults between.faults now.faults rises (fault e))
    (λ e. subst (λ (v : ℕ). Rose v now.failed_saves) unsaved (failed e))
    (λ m files. same_but_one m now.files new (others m (same ∙ files)))
    (λ m xs tells.
    let files = tells.files_are (λ e. cc) in (
      image_saved new xs made,
      record {
        does = does m files new xs;
        ready = record { status_is = refl; report = refl; output = appends_nothing output.bytes; rest = λ told. told };
        saved = λ e t. subst (λ (v : List ℕ). AreSaved m now.files ((new, v) ∷ [])) image (saved m (same ∙ files) e);
        stays = λ f t. subst (λ (v : List ℕ). StayBut answer m now.files ((new, v) ∷ [])) image (stays m (same
            ∙ files) f);
        more = inr (λ e. cc);
      },
    ))

-- ---- samples

pub made_done : (kind : Kind) (size : ℕ) (new bytes : List ℕ) (store now : Stored) (input output : Stream)
    (answer : Status) (text : List ℕ) → (answer ≡ Done) ⊎ ((answer ≡ StoreFault) ⊎ (answer ≡ OutOfMemory))
    → text ≡ report_of (OfSample (length bytes)) answer → size ≤ limit kind → bytes ≡ sample_bytes kind size
    → ((m : Files) → store.files ≡ Some m → answer ≡ Done → AreSaved m now.files ((new, bytes) ∷ []))
    → ((m : Files) → store.files ≡ Some m → is_from_outside answer ≡ true
    → StayBut answer m now.files ((new, bytes) ∷ []))
    → ((m : Files) → store.files ≡ Some m → SameButIn m now.files new)
    → (answer ≡ StoreFault → Rose store.faults now.faults)
    → (answer ≡ StoreFault → Rose store.failed_saves now.failed_saves)
    → IsDone (Some (Make kind size new)) (outside store input output) (outside now input output) answer text
made_done kind size new bytes store now input output answer text kept is fits made saved stays others fault failed =
    ended_done (Some (Make kind size new)) (outside store input output) (outside now input output) Done answer
    (OfSample (length bytes)) text kept is refl tt fault failed
    (λ m files. same_but_one m now.files new (others m files))
    (λ m xs tells. (
      sample_saved kind size new xs,
      record {
        does = inr (fits, refl);
        ready = record {
          status_is = refl;
          report = ap (λ (v : List ℕ). report_of (OfSample (length v)) Done) made;
          output = appends_nothing output.bytes;
          rest = λ told. told;
        };
        saved = λ e t. subst (λ (v : List ℕ). AreSaved m now.files ((new, v) ∷ [])) made (saved m t e);
        stays = λ f t. subst (λ (v : List ℕ). StayBut answer m now.files ((new, v) ∷ [])) made (stays m t f);
        more = inr (λ e. cc);
      },
    ))

-- a sample that is refused, or for which memory is wanted
pub unmade_done : (kind : Kind) (size : ℕ) (new : List ℕ) (store : Stored) (input output : Stream)
    (status answer : Status) (text : List ℕ) → (answer ≡ status) ⊎ (answer ≡ OutOfMemory)
    → text ≡ report_of OfNothing answer → (is_refusal status ≡ true) × (status ≢ StoreFault)
    → (is_from_outside status ≡ false → (new xs : List ℕ) → MakesSample kind size new xs (only status xs))
    → IsDone (Some (Make kind size new)) (outside store input output) (outside store input output) answer text
unmade_done kind size new store input output status answer text kept is refusal does =
    plain_done (Some (Make kind size new)) store input output status answer text kept is
    (refusal_cause (Some (Make kind size new)) (outside store input output) (outside store input output) status
    refusal.0 (λ e. absurd (refusal.1 e))) refusal.1 (λ f m xs. does f new xs)

-- ---- lists

pub lines_do : (content : Option (List ℕ)) (lines xs : List ℕ) → HoldsLines content lines
    → OfFile load_limit (ListsFile xs) xs content (listed (Lines lines) xs)
lines_do content lines xs h =
    loaded load_limit (ListsFile xs) xs content h.bytes (listed (Lines lines) xs) h.are h.within
    (let does : OfReading xs (reading_of h.bytes) (listed (Lines lines) xs) = rw h.read
    (Lines lines, (h.lines_are, refl)) in does)

-- a list that is refused, by what it would have
pub refused_list : (reading : Result Elf ElfErr) (elf : Elf) (status : Status) (listing : Listing) (xs : List ℕ)
    → reading ≡ Ok elf → IsListing elf listing → only status xs ≡ listed listing xs
    → OfReading xs reading (only status xs)
refused_list reading elf status listing xs e is same = rw e (listing, (is, same))

-- what is listed of an executable of which too many words are reached
pub too_many_reached : (elf : Elf) (status : Status)
    → (count : ℕ) × (status ≡ Refused (TooManyWords count)) × IsListing elf (TooMany count)
    → (listing : Listing) × IsListing elf listing × ((xs : List ℕ) → only status xs ≡ listed listing xs)
too_many_reached elf status h = (TooMany h.0, h.2, λ xs. ap (λ (v : Status). only v xs) h.1)

-- and of one of which too many loops are chosen
pub too_many_chosen : (elf : Elf) (G : Graph) (shapes : List LoopShape) (all slice : List Judged) (why : ChooseErr)
    (count : ℕ) → slice ≡ all
    → AreVerdicts elf G shapes all → why ≡ Crowded count → IsChoiceRefused slice why → (listing : Listing)
    × IsListing elf listing × ((xs : List ℕ) → only (Refused (TooManyLoops count)) xs ≡ listed listing xs)
too_many_chosen elf G shapes all slice why count same verdicts is refused =
    let many : AreTooMany slice count = subst (λ (v : ChooseErr). IsChoiceRefused slice v) is refused in
    let chosen : ChoosesTooMany elf count = record {
      graph = G;
      shapes = shapes;
      all = all;
      verdicts = verdicts;
      many = subst (λ (v : List Judged). AreTooMany v count) same many;
    } in
    (TooManyChosen count, chosen, λ xs. refl)

pub listed_done : (file lines : List ℕ) (store now : Stored) (input output written : Stream) (answer : Status)
    (text : List ℕ) → answer ≡ Done → text ≡ [] → now.files ≡ store.files
    → ((m : Files) → store.files ≡ Some m → HoldsLines (m file) lines) → Appends output.bytes written.bytes lines
    → IsDone (Some (Loops file)) (outside store input output) (outside now input written) answer text
listed_done file lines store now input output written answer text e is same holds appends =
    record {
      counts = OfNothing;
      text_is = is ∙ ap (λ (v : Status). report_of OfNothing v) (sym e);
      cause = subst (λ (v : Status). HasCause (Some (Loops file)) (outside store input output)
          (outside now input written) v) (sym e) tt;
      inside = λ m xs tells f.
          let files = tells.files_are (λ e. cc) in (
            listed (Lines lines) xs,
            (
              lines_do (m file) lines xs (holds m files),
              record { status = e; report = is; output = appends; rest = λ told. told; saved = λ t. same ∙ t },
            ),
          );
      stopped = λ m xs tells f. let g = rw e at f in absurd (cc);
      store_fault = λ f. let g = rw e at f in absurd (cc);
      others = λ m files. same_but m now.files [] (same ∙ files);
    }

pub cut_list_done : (file lines : List ℕ) (store now : Stored) (input output written : Stream) (answer : Status)
    (text : List ℕ) → answer ≡ WriteFault → text ≡ report_of OfNothing WriteFault → now.files ≡ store.files
    → ((m : Files) → store.files ≡ Some m → HoldsLines (m file) lines)
    → ((ys : List ℕ) → output.bytes ≡ Some ys → (k : ℕ) × (written.bytes ≡ Some (ys ++ take k lines)))
    → Rose output.faults written.faults
    → IsDone (Some (Loops file)) (outside store input output) (outside now input written) answer text
cut_list_done file lines store now input output written answer text e is same holds part rose =
    record {
      counts = OfNothing;
      text_is = is ∙ ap (λ (v : Status). report_of OfNothing v) (sym e);
      cause = subst (λ (v : Status). HasCause (Some (Loops file)) (outside store input output)
          (outside now input written) v) (sym e) rose;
      inside = λ m xs tells f. let g = rw e at f in absurd (cc);
      stopped = λ m xs tells f.
          inr (inl (
            record { output = []; more = lines; rest = xs },
            (
              (holds m (tells.files_are (λ e. cc)), refl, refl),
              record
                  { why = inr (inl e); output = part; rest = λ other told. told; files = same },
            ),
          ));
      store_fault = λ f. let g = rw e at f in absurd (cc);
      others = λ m files. same_but m now.files [] (same ∙ files);
    }

-- ---- runs

-- an image does what its executable does, for each input of bytes
abbrev pub DoesAsExecutable : ℕ → Option (List ℕ) → Image → Type 0
DoesAsExecutable fuel dump image =
    (xs : List ℕ) → All (λ (b : ℕ). b < 256) xs → RunsAs fuel dump xs image (ran fuel dump image xs)

pub image_does : (content : Option (List ℕ)) (image : Image) (fuel : ℕ) (dump : Option (List ℕ)) (xs : List ℕ)
    → HoldsImage content image → DoesAsExecutable fuel dump image
    → OfFile load_limit (RunsFile fuel dump xs) xs content (ran fuel dump image xs)
image_does content image fuel dump xs h alike =
    loaded load_limit (RunsFile fuel dump xs) xs content h.bytes (ran fuel dump image xs) h.are h.within
    (record {
      admission = Ok image;
      is = h.admitted;
      found = λ e. cc;
      does = record { is = refl; as_executable = alike xs };
    })

run_cause : (file : List ℕ) (fuel : ℕ) (dump : Option (List ℕ)) (before after : Outside) (answer : Status)
    → comes_first answer ≡ false → (answer ≡ StoreFault → Rose before.store.faults after.store.faults)
    → (answer ≡ ReadFault → Rose before.input.faults after.input.faults)
    → (answer ≡ WriteFault → Rose before.output.faults after.output.faults)
    → HasCause (Some (Run file fuel dump)) before after answer
run_cause file fuel dump before after Usage late store input output = absurd (cc)
run_cause file fuel dump before after StoreFault late store input output = inl (store refl)
run_cause file fuel dump before after ReadFault late store input output = input refl
run_cause file fuel dump before after WriteFault late store input output = output refl
run_cause file fuel dump before after _ late store input output = tt

met_since : (e : Effect) (m : Files) (xs : List ℕ) (store between now : Stored) (input output read written : Stream)
    (answer : Status) (text : List ℕ) → between.files ≡ store.files
    → IsMet e m xs (outside between input output) (outside now read written) answer text
    → IsMet e m xs (outside store input output) (outside now read written) answer text
met_since e m xs store between now input output read written answer text same h =
    record {
      status = h.status;
      report = h.report;
      output = h.output;
      rest = h.rest;
      saved = λ files. h.saved (same
          ∙ files);
    }

running_why : (R : Type 0) (answer : Status) → R → (answer ≡ ReadFault)
    ⊎ ((answer ≡ WriteFault) ⊎ ((answer ≡ OutOfMemory) × Unit {0})) → (answer ≡ ReadFault)
    ⊎ ((answer ≡ WriteFault) ⊎ ((answer ≡ OutOfMemory) × R))
running_why R answer r (inl e) = inl e
running_why R answer r (inr (inl e)) = inr (inl e)
running_why R answer r (inr (inr e)) = inr (inr (e.0, r))

behind_why : (R : Type 0) (effect : Effect) (answer : Status) → R → (answer ≡ StoreFault)
    ⊎ ((answer ≡ OutOfMemory) × (Unit {0} ⊎ (effect.saved ≢ []))) → (answer ≡ StoreFault)
    ⊎ ((answer ≡ OutOfMemory) × (R ⊎ (effect.saved ≢ [])))
behind_why R effect answer r (inl e) = inl e
behind_why R effect answer r (inr e) = inr (e.0, inl r)

stops_since : (file : List ℕ) (fuel : ℕ) (dump : Option (List ℕ)) (image : Image) (m : Files) (xs : List ℕ)
    (store between now : Stored) (input output read written : Stream) (answer : Status) → between.files ≡ store.files
    → HoldsImage (m file) image → DoesAsExecutable fuel dump image
    → Stops (IsMomentOf fuel (view_of image xs)) (λ effect. effect ≡ ran fuel dump image xs)
    (Unit {0}) m xs (outside between input output) (outside now read written) answer
    → Stops (Passes (Some (Run file fuel dump)) m xs) (Does (Some (Run file fuel dump)) m xs)
    (StartsRun (Some (Run file fuel dump)) m) m xs (outside store input output) (outside now read written) answer
stops_since file fuel dump image m xs store between now input output read written answer same holds alike (inl h) =
    inl (record { output = h.output; rest = h.rest; files = h.files ∙ same })
stops_since file fuel dump image m xs store between now input output read written answer same holds alike (inr (inl h)) =
    inr (inl (
      h.0,
      (
        (image, (holds, h.1.0)),
        record {
          why = running_why (StartsRun (Some (Run file fuel dump)) m)
              answer (image, holds) h.1.1.why;
          output = h.1.1.output;
          rest = h.1.1.rest;
          files = h.1.1.files ∙ same;
        },
      ),
    ))
stops_since file fuel dump image m xs store between now input output read written answer same holds alike (inr (inr h)) =
    inr (inr (
      h.0,
      (
        subst (λ (v : Effect). OfFile load_limit (RunsFile fuel dump xs) xs (m file) v) (sym h.1.0)
            (image_does (m file) image fuel dump xs holds alike),
        record {
          why = behind_why (StartsRun (Some (Run file fuel dump)) m) h.0 answer (image, holds) h.1.1.why;
          output = h.1.1.output;
          rest = h.1.1.rest;
          count = h.1.1.count;
          some_left = h.1.1.some_left;
          between = h.1.1.between;
          saved = h.1.1.saved;
          files = λ t. h.1.1.files (same ∙ t);
        },
      ),
    ))

pub run_done : (file : List ℕ) (fuel : ℕ) (dump : Option (List ℕ)) (image : Image) (store between now : Stored)
    (input output read written : Stream) (answer : Status) (text : List ℕ)
    → between.files ≡ store.files → store.faults ≤ between.faults → between.failed_saves ≡ store.failed_saves
    → ((m : Files) → store.files ≡ Some m → HoldsImage (m file) image) → DoesAsExecutable fuel dump image
    → RunsTo image fuel dump (outside between input output) (outside now read written) answer text
    → IsDone (Some (Run file fuel dump)) (outside store input output) (outside now read written) answer text
run_done file fuel dump image store between now input output read written answer text same rises unsaved holds alike r =
    record {
      counts = r.counts;
      text_is = r.text_is;
      cause =
          run_cause file fuel dump (outside store input output) (outside now read written) answer r.late
          (λ e. rose_since store.faults between.faults now.faults rises (r.store_fault e)) r.read_fault r.write_fault;
      inside = λ m xs tells f.
          let files = tells.files_are (λ e. cc) in
          let told = tells.input_is (image, holds m files) in (
            ran fuel dump image xs,
            (
              image_does (m file) image fuel dump xs (holds m files) alike,
              met_since (ran fuel dump image xs) m xs store between now input output read written
                  answer text same (r.inside m xs (same ∙ files) told f),
            ),
          );
      stopped = λ m xs tells f.
          let files = tells.files_are (λ e. cc) in
          let told = tells.input_is (image, holds m files) in
          stops_since file fuel dump image m xs store between now input output read written answer same
          (holds m files) alike (r.stopped m xs (same ∙ files) told f);
      store_fault = λ e. inl (subst (λ (v : ℕ). Rose v now.failed_saves) unsaved (r.failed_save e));
      others = λ m files. r.others m (same ∙ files);
    }

-- ---- no refusal of an image

late_status : (ended : Option End) → comes_first (status_of ended) ≡ false
late_status None = refl
late_status (Some (DidExit code)) = refl
late_status (Some (DidFault kind pc addr)) = refl
late_status (Some DidSpend) = refl
late_status (Some SourceFault) = refl
late_status (Some SinkFault) = refl

-- the image of a file that is not too long is run, so that the answer to it is no refusal
pub run_answers : OneAdmissionLaw → (content : Option (List ℕ)) (image : Image) (fuel : ℕ) (dump : Option (List ℕ))
    (xs : List ℕ) (status : Status) → HoldsImage content image
    → OfFile load_limit (RunsFile fuel dump xs) xs content (only status xs) → comes_first status ≡ false
run_answers law content image fuel dump xs status h does = of_some (rw h.are at does)
  where
    of_admitted : RunsFile fuel dump xs h.bytes (only status xs) → comes_first status ≡ false
    of_admitted r =
        let same : r.admission ≡ Ok image =
        law h.bytes r.admission (Ok image) r.is h.admitted r.found (λ e. cc) in
        let runs : Runs fuel dump xs image (only status xs) =
        subst (λ (a : Result Image AdmitErr). OfAdmission (Runs fuel dump xs) xs a (only status xs)) same r.does in
        ap (λ (v : Effect). comes_first v.status) runs.is ∙ late_status (view_of image xs fuel).ended

    of_some : OfFile load_limit (RunsFile fuel dump xs) xs (Some h.bytes) (only status xs) → comes_first status ≡ false
    of_some (inl p) = let long = p.0 in let short = h.within in absurd (omega arith)
    of_some (inr p) = of_admitted p.1

-- ---- files that are refused

no_room : {X : Type 0} → is_from_outside OutOfMemory ≡ false → X
no_room h = absurd (cc)

-- a file that is not admitted is not run
pub refused_run : (bytes : List ℕ) (why : AdmitErr) → IsAdmission bytes (Err why)
    → is_from_outside (status_of_admission why) ≡ false → (fuel : ℕ) (dump : Option (List ℕ)) (xs : List ℕ)
    → RunsFile fuel dump xs bytes (only (status_of_admission why) xs)
refused_run bytes why is inside fuel dump xs =
    record { admission = Err why; is = is; found = λ e. found why e inside; does = refl }
  where
    found : (w : AdmitErr) → ◌≡◌ {A = Result Image AdmitErr} (Err w) (Err admitting.OutOfMemory)
        → is_from_outside (status_of_admission w) ≡ false → ⊥
    found admitting.BadMark e f = cc
    found (admitting.Original w) e f = cc
    found (admitting.Altered offset) e f = cc
    found admitting.OutOfMemory e f = no_room f

-- one that has no image is not saved
pub refused_rewriting : (bytes : List ℕ) (why : RewriteErr) → IsRewriting bytes (Err why)
    → is_from_outside (status_of_refusal why) ≡ false → (new xs : List ℕ)
    → RewritesFile new xs bytes (only (status_of_refusal why) xs)
refused_rewriting bytes why is inside new xs =
    record { rewriting = Err why; is = is; found = λ e. found why e inside; does = refl }
  where
    found : (w : RewriteErr) → ◌≡◌ {A = Result Rewritten RewriteErr} (Err w) (Err rewriting.OutOfMemory)
        → is_from_outside (status_of_refusal w) ≡ false → ⊥
    found (rewriting.Elf why) e f = cc
    found (rewriting.TooManyWords count) e f = cc
    found (rewriting.TooManyLoops count) e f = cc
    found (rewriting.CodeTooLong words) e f = cc
    found rewriting.OutOfMemory e f = no_room f

-- also where memory is wanted in its place
pub kept_late : (status answer : Status) → (answer ≡ status) ⊎ (answer ≡ OutOfMemory)
    → (is_from_outside status ≡ false → comes_first status ≡ false) → comes_first answer ≡ false
kept_late status answer (inr e) late = ap comes_first e
kept_late status answer (inl e) late = ap comes_first e ∙ go (is_from_outside status) refl
  where
    outside_late : (s : Status) → is_from_outside s ≡ true → comes_first s ≡ false
    outside_late StoreFault t = refl
    outside_late ReadFault t = refl
    outside_late WriteFault t = refl
    outside_late OutOfMemory t = refl
    outside_late _ t = absurd (cc)

    go : (b : Bool) → is_from_outside status ≡ b → comes_first status ≡ false
    go true t = outside_late status t
    go false f = late f
