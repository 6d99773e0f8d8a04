-- What a command has done, from the answers of its steps.
use Rattle.std.proofs.Common.{◌≡◌, ◌≢◌, ℕ, ◌⊎◌, inl, inr, List, [], ◌∷◌, Option, Some, None, true, false, refl, ap, sym}
use Rattle.std.proofs.Common.{subst, ◌∙◌}
use Rattle.std.proofs.lemmas.List.{append-nil}
use Rattle.outside_ports.specs.Ports.{Files, Rose, SameButIn}
use Rattle.rewrite_cli.specs.Words.{Command}
use Rattle.rewrite_cli.specs.Needs.{needs_of, LacksOne, SameBut}
use Rattle.rewrite_cli.specs.Effect.{Effect, Does, StartsRun, only}
use Rattle.rewrite_cli.specs.Outside.{Stored, Stream, Outside, outside}
use Rattle.rewrite_cli.specs.Answer.{IsGiven, Tells, Appends, LeavesRest, AreSaved}
use Rattle.rewrite_cli.specs.Answer.{StayBut, IsMet, StopsBehind, HasCause, IsDone, LeavesAlone}
use Rattle.rewrite_cli.specs.Counts.{OfNothing}
use Rattle.rewrite_cli.specs.Status.{is_from_outside, is_refusal, comes_first, keeps_files}
use Rattle.rewrite_cli.specs.Texts.{report_of}
use Rattle.rewrite_cli.specs.Counts.{Tally}
use Rattle.rewrite_cli.specs.declared.status.Status.{Status}
use Rattle.rewrite_cli.specs.declared.status.Status.TheVariants.{Refused, OutOfMemory, WriteFault, StoreFault}

-- ---- what does not change

pub appends_nothing : (told : Option (List ℕ)) → Appends told told []
appends_nothing told ys e = e ∙ ap (λ (xs : List ℕ). Some xs) (sym (append-nil ys))

pub same_but : (m : Files) (files : Option Files) (names : List (List ℕ)) → files ≡ Some m → SameBut m files names
same_but m files names e = rw e (λ other o. refl)

-- but for one name
pub same_but_one : (m : Files) (files : Option Files) (name : List ℕ) → SameButIn m files name
    → SameBut m files (name ∷ [])
same_but_one m None name h = h
same_but_one m (Some n) name h = λ other o. h other o.0

-- ---- answers

-- an answer that is not from outside is the one that was to be given
pub kept_answer : (answer status : Status) → (answer ≡ status) ⊎ (answer ≡ OutOfMemory)
    → is_from_outside answer ≡ false → answer ≡ status
kept_answer answer status (inl e) f = e
kept_answer answer status (inr e) f = let g = rw e at f in cc

-- also where a file was to be saved
pub kept_saving : (answer status : Status) → (answer ≡ status) ⊎ ((answer ≡ StoreFault) ⊎ (answer ≡ OutOfMemory))
    → is_from_outside answer ≡ false → answer ≡ status
kept_saving answer status (inl e) f = e
kept_saving answer status (inr (inl e)) f = let g = rw e at f in cc
kept_saving answer status (inr (inr e)) f = let g = rw e at f in cc

pub refusal_cause : (command : Option Command) (before after : Outside) (status : Status) → is_refusal status ≡ true
    → (status ≡ StoreFault → Rose before.store.faults after.store.faults
    ⊎ LacksOne before.store.files (needs_of command).loads)
    → HasCause command before after status
refusal_cause command before after (Refused why) r fault = tt
refusal_cause command before after StoreFault r fault = fault refl
refusal_cause command before after OutOfMemory r fault = tt
refusal_cause command before after _ r fault = absurd (cc)

-- an answer in place of which memory is wanted
pub kept_cause : (command : Option Command) (before after : Outside) (status answer : Status) → (answer ≡ status)
    ⊎ (answer ≡ OutOfMemory)
    → HasCause command before after status → HasCause command before after answer
kept_cause command before after status answer (inl e) h = subst (λ (s : Status). HasCause command before after s)
    (sym e) h
kept_cause command before after status answer (inr e) h = subst (λ (s : Status). HasCause command before after s)
    (sym e) tt

-- ---- a file that is refused

only_met : (m : Files) (xs : List ℕ) (store now : Stored) (input output : Stream) (status answer : Status)
    (text : List ℕ) → answer ≡ status → text ≡ report_of OfNothing answer → now.files ≡ store.files
    → IsMet (only status xs) m xs (outside store input output) (outside now input output) answer text
only_met m xs store now input output status answer text e t same =
    record {
      status = e;
      report = t ∙ ap (λ (s : Status). report_of OfNothing s) e;
      output = appends_nothing output.bytes;
      rest = λ told. told;
      saved = λ files. same ∙ files;
    }

pub refused_done : (command : Option Command) (store now : Stored) (input output : Stream) (status answer : Status)
    (text : List ℕ) → (answer ≡ status) ⊎ (answer ≡ OutOfMemory)
    → text ≡ report_of OfNothing answer → is_refusal status ≡ true
    → (status ≡ StoreFault → Rose store.faults now.faults ⊎ LacksOne store.files (needs_of command).loads)
    → now.files ≡ store.files → (needs_of command).loads ≢ []
    → (is_from_outside status ≡ false → (m : Files) → store.files ≡ Some m → (xs : List ℕ)
    → Does command m xs (only status xs))
    → IsDone command (outside store input output) (outside now input output) answer text
refused_done command store now input output status answer text kept t refusal fault same loads does =
    record {
      counts = OfNothing;
      text_is = t;
      cause = kept_cause command (outside store input output) (outside now input output) status answer kept
          (refusal_cause command (outside store input output) (outside now input output) status refusal fault);
      inside = λ m xs tells f.
          let e = kept_answer answer status kept f in (
            only status xs,
            (
              does (ap is_from_outside (sym e)
                  ∙ f) m (tells.files_are loads) xs,
              only_met m xs store now input output status answer text e t same,
            ),
          );
      stopped = λ m xs tells f. inl (record { output = refl; rest = refl; files = same });
      store_fault = λ e. inr (loads, record { output = refl; rest = refl; files = same });
      others = λ m files. same_but m now.files (needs_of command).saves (same ∙ files);
    }

-- ---- all but saving

-- an effect that was to be met, up to its files
pub record IsReady (effect : Effect) (m : Files) (input : List ℕ) (before after : Outside) (status : Status)
    (counts : Tally) : Type 0 where
  pub status_is : status ≡ effect.status
  pub report : report_of counts status ≡ effect.report
  pub output : Appends before.output.bytes after.output.bytes effect.output
  pub rest : LeavesRest before.input.bytes after.input.bytes input effect.rest

pub ready_met : (effect : Effect) (m : Files) (xs : List ℕ) (before after : Outside) (status answer : Status)
    (counts : Tally) (text : List ℕ) → answer ≡ status → text ≡ report_of counts answer
    → IsReady effect m xs before after status counts → (before.store.files ≡ Some m
    → AreSaved m after.store.files effect.saved) → IsMet effect m xs before after answer text
ready_met effect m xs before after status answer counts text e t ready saved =
    record {
      status = e ∙ ready.status_is;
      report = t ∙ ap (λ (s : Status). report_of counts s) e ∙ ready.report;
      output = ready.output;
      rest = ready.rest;
      saved = saved;
    }

late : (Running : Type 0) (effect : Effect) (status answer : Status) → (answer ≡ status)
    ⊎ ((answer ≡ StoreFault) ⊎ (answer ≡ OutOfMemory)) → is_from_outside status ≡ false
    → is_from_outside answer ≡ true
    → Running ⊎ (effect.saved ≢ []) → (answer ≡ StoreFault) ⊎ ((answer ≡ OutOfMemory) × (Running ⊎ (effect.saved ≢ [])))
late Running effect status answer (inl e) f t more = let g = rw e at t in absurd (cc)
late Running effect status answer (inr (inl e)) f t more = inl e
late Running effect status answer (inr (inr e)) f t more = inr (e, more)

pub ready_behind : (effect : Effect) (Running : Type 0) (m : Files) (xs : List ℕ) (before after : Outside)
    (status answer : Status) (counts : Tally) → IsReady effect m xs before after status counts
    → (answer ≡ status) ⊎ ((answer ≡ StoreFault) ⊎ (answer ≡ OutOfMemory)) → is_from_outside status ≡ false
    → is_from_outside answer ≡ true → Running ⊎ (effect.saved ≢ [])
    → (before.store.files ≡ Some m → StayBut answer m after.store.files effect.saved)
    → StopsBehind effect Running m xs before after answer
ready_behind effect Running m xs before after status answer counts ready kept f t more stays =
    record {
      why = late Running effect status answer kept f t more;
      output = ready.output;
      rest = ready.rest;
      count =
          0;
      some_left = inl refl;
      between = m;
      saved = refl;
      files = stays;
    }

saving_cause : (command : Option Command) (before after : Outside) (status answer : Status) → (answer ≡ status)
    ⊎ ((answer ≡ StoreFault) ⊎ (answer ≡ OutOfMemory)) → HasCause command before after status
    → (answer ≡ StoreFault → Rose before.store.faults after.store.faults) → HasCause command before after answer
saving_cause command before after status answer (inl e) h fault = subst
    (λ (s : Status). HasCause command before after s) (sym e) h
saving_cause command before after status answer (inr (inl e)) h fault = subst
    (λ (s : Status). HasCause command before after s) (sym e) (inl (fault e))
saving_cause command before after status answer (inr (inr e)) h fault = subst
    (λ (s : Status). HasCause command before after s) (sym e) tt

-- an effect that a command has come to, but for a save that failed, and for want of memory
pub record IsEnd (command : Option Command) (effect : Effect) (m : Files) (input : List ℕ) (before after : Outside)
    (status answer : Status) (counts : Tally) : Type 0 where
  pub does : Does command m input effect
  pub ready : IsReady effect m input before after status counts
  pub saved : answer ≡ status → before.store.files ≡ Some m → AreSaved m after.store.files effect.saved
  pub stays : is_from_outside answer ≡ true → before.store.files ≡ Some m
      → StayBut answer m after.store.files effect.saved
  pub more : StartsRun command m ⊎ (effect.saved ≢ [])

-- a command that has come to its end
pub ended_done : (command : Option Command) (before after : Outside) (status answer : Status) (counts : Tally)
    (text : List ℕ) → (answer ≡ status) ⊎ ((answer ≡ StoreFault) ⊎ (answer ≡ OutOfMemory))
    → text ≡ report_of counts answer → is_from_outside status ≡ false → HasCause command before after status
    → (answer ≡ StoreFault → Rose before.store.faults after.store.faults)
    → (answer ≡ StoreFault → Rose before.store.failed_saves after.store.failed_saves)
    → ((m : Files) → before.store.files ≡ Some m → SameBut m after.store.files (needs_of command).saves)
    → ((m : Files) (xs : List ℕ) → Tells command before m xs → (effect : Effect)
    × IsEnd command effect m xs before after status answer counts)
    → IsDone command before after answer text
ended_done command before after status answer counts text kept t inner cause fault failed others ends =
    record {
      counts = counts;
      text_is = t;
      cause = saving_cause command before after status answer kept cause fault;
      inside = λ m xs tells f.
          let e = kept_saving answer status kept f in
          let r = ends m xs tells in
          (r.0, (r.1.does, ready_met r.0 m xs before after status answer counts text e t r.1.ready (r.1.saved e)));
      stopped = λ m xs tells f.
          let r = ends m xs tells in
          inr (inr (
            r.0,
            (
              r.1.does,
              ready_behind r.0 (StartsRun command m) m xs before after status answer counts
                  r.1.ready kept inner f r.1.more (r.1.stays f),
            ),
          ));
      store_fault = λ e. inl (failed e);
      others = others;
    }

no_store_fault : (answer status : Status) → (answer ≡ status) ⊎ (answer ≡ OutOfMemory) → status ≢ StoreFault
    → answer ≢ StoreFault
no_store_fault answer status (inl e) other f = other (sym e ∙ f)
no_store_fault answer status (inr e) other f = cc

-- a command that has no file
pub plain_done : (command : Option Command) (store : Stored) (input output : Stream) (status answer : Status)
    (text : List ℕ) → (answer ≡ status) ⊎ (answer ≡ OutOfMemory)
    → text ≡ report_of OfNothing answer → HasCause command (outside store input output) (outside store input output)
    status → status ≢ StoreFault
    → (is_from_outside status ≡ false → (m : Files) (xs : List ℕ) → Does command m xs (only status xs))
    → IsDone command (outside store input output) (outside store input output) answer text
plain_done command store input output status answer text kept t cause other does =
    record {
      counts = OfNothing;
      text_is = t;
      cause = kept_cause command (outside store input output) (outside store input output) status answer kept cause;
      inside = λ m xs tells f.
          let e = kept_answer answer status kept f in (
            only status xs,
            (
              does (ap is_from_outside (sym e) ∙ f) m xs,
              only_met m xs store store input output status answer text e t refl,
            ),
          );
      stopped = λ m xs tells f. inl (record { output = refl; rest = refl; files = refl });
      store_fault = λ e. absurd (no_store_fault answer status kept other e);
      others = λ m files. same_but m store.files (needs_of command).saves files;
    }

-- ---- what an answer with its report says of the one that was to be given

pub kept_given : (answer given : Status) (text : List ℕ) (before after : Stream) (Same : Type 0)
    → IsGiven answer text before after given → (keeps_files answer ≡ true → Same) → keeps_files given ≡ true
    → ((given ≡ WriteFault) × Rose before.faults after.faults) ⊎ Same
kept_given answer given text before after Same (inl g) same h = inr (same (sym (ap keeps_files g.0) ∙ h))
kept_given answer given text before after Same (inr g) same h = inl (g.0, g.1)

pub same_given : (answer given wanted : Status) (text : List ℕ) (before after : Stream) (Same : Type 0)
    → IsGiven answer text before after given → (answer ≡ wanted → Same) → wanted ≢ WriteFault → given ≡ wanted → Same
same_given answer given wanted text before after Same (inl g) same other e = same (sym g.0 ∙ e)
same_given answer given wanted text before after Same (inr g) same other e = absurd (other (sym e ∙ g.0))

pub late_given : (answer given : Status) (text : List ℕ) (before after : Stream)
    → IsGiven answer text before after given → comes_first answer ≡ false → comes_first given ≡ false
late_given answer given text before after (inl g) late = ap comes_first g.0 ∙ late
late_given answer given text before after (inr g) late = ap comes_first g.0

pub alone_given : {S I O : Type 0} (command : Option Command) (old new : Stored) (answer given : Status)
    (text : List ℕ) (before after : Stream) (store saved : S) (input read : I) (output written : O)
    → IsGiven answer text before after given
    → LeavesAlone command old new answer store saved input read output written
    → LeavesAlone command old new given store saved input read output written
alone_given command old new answer given text before after store saved input read output written (inl g) h =
    subst (λ (v : Status). LeavesAlone command old new v store saved input read output written) (sym g.0) h
alone_given command old new answer given text before after store saved input read output written (inr g) h =
    record {
      refused = λ first. let late = rw g.0 at first in absurd (cc);
      unread = h.unread;
      unwritten = h.unwritten;
      unloaded = λ failed. let other : WriteFault ≡ StoreFault = sym g.0 ∙ failed in absurd (cc);
      unsaved = λ none failed. let other : WriteFault ≡ StoreFault = sym g.0 ∙ failed in absurd (cc);
      store_unasked = h.store_unasked;
      input_unasked = h.input_unasked;
      output_unasked = h.output_unasked;
    }
