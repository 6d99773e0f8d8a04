-- An executable has one image, and a file is admitted as one, or there is one reason against it.
use Rattle.std.proofs.Common.{◌≡◌, ◌≢◌, ℕ, inl, inr, List, [], Some, None, Result, Ok, Err, refl, ap, sym, subst, ◌∙◌}
use Rattle.elf_image.specs.declared.image.Elf.{Elf}
use Rattle.elf_image.specs.declared.rules.ElfErr.{ElfErr}
use Rattle.elf_image.specs.Reading.{reading_of}
use Rattle.image_writer.specs.declared.image.Entry.{Entry}
use Rattle.image_writer.specs.declared.image.Image.{Image}
use Rattle.image_writer.specs.declared.splitting.Split.{Split}
use Rattle.image_writer.specs.declared.splitting.Split.TheVariants.{Plain, BadMark, Parts}
use Rattle.image_writer.specs.Split.{split_of}
use Rattle.loop_division.specs.Division.{IsDivision, IsTooLong}
use Rattle.loop_division.specs.LoopVerdicts.{ReachesTooMany, ChoosesTooMany}
use Rattle.loop_division.specs.OneDivision.{OneDivisionLaw, ApartLaw, OneRefusalLaw}
use Rattle.rewriter.specs.declared.rewriting.Rewritten.{Rewritten}
use Rattle.rewriter.specs.declared.rewriting.RewriteErr.{RewriteErr}
use Rattle.rewriter.specs.declared.rewriting.RewriteErr.TheVariants.{Elf as NotRead, TooManyWords, TooManyLoops}
use Rattle.rewriter.specs.declared.rewriting.RewriteErr.TheVariants.{CodeTooLong, OutOfMemory as NoRoom}
use Rattle.rewriter.specs.declared.admission.AdmitErr.{AdmitErr}
use Rattle.rewriter.specs.declared.admission.AdmitErr.TheVariants.{BadMark as IsBad, Original, Altered, OutOfMemory}
use Rattle.rewriter.specs.Rewriting.{IsImage, HasNoImage, IsRewriting, rewritten_with}
use Rattle.rewriter.specs.Admission.{IsDividedFile, IsUnreadPlain, IsNotAdmitted, HasOriginal}
use Rattle.rewriter.specs.Admission.{IsAdmission, first_difference}
use Rattle.rewriter.proofs.Differences.{same_none}

-- the laws of divisions
pub record Laws : Type 0 where
  pub one : OneDivisionLaw
  pub apart : ApartLaw
  pub refusal : OneRefusalLaw

one_elf : (r : Result Elf ElfErr) (e f : Elf) → r ≡ Ok e → r ≡ Ok f → e ≡ f
one_elf r e f p q = cc

not_both : (r : Result Elf ElfErr) (e : Elf) (why : ElfErr) → r ≡ Ok e → r ≡ Err why → ⊥
not_both r e why p q = cc

one_error : (r : Result Elf ElfErr) (x y : ElfErr) → r ≡ Err x → r ≡ Err y → x ≡ y
one_error r x y p q = cc

-- ---- rewriting

module _ (laws : Laws) (original : List ℕ) where
  one_reason : (a b : RewriteErr) → HasNoImage original a → HasNoImage original b → a ≡ b
  one_reason (NotRead x) (NotRead y) p q = ap (λ (w : ElfErr). NotRead w) (one_error (reading_of original) x y p.0 q.0)
  one_reason (NotRead x) (TooManyWords n) p q = absurd (not_both (reading_of original) q.1.elf x q.1.read p.0)
  one_reason (NotRead x) (TooManyLoops n) p q = absurd (not_both (reading_of original) q.elf x q.read p.0)
  one_reason (NotRead x) (CodeTooLong n) p q = absurd (not_both (reading_of original) q.elf x q.read p.0)
  one_reason (TooManyWords n) (NotRead y) p q = absurd (not_both (reading_of original) p.1.elf y p.1.read q.0)
  one_reason (TooManyWords n) (TooManyWords m) p q = ap (λ (k : ℕ). TooManyWords k) (p.0 ∙ sym q.0)
  one_reason (TooManyWords n) (TooManyLoops m) p q =
      absurd (q.said.verdicts.few (subst ReachesTooMany (one_elf (reading_of original) p.1.elf q.elf p.1.read q.read) p.1.said))
  one_reason (TooManyWords n) (CodeTooLong m) p q =
      absurd (q.said.are.verdicts.few
      (subst ReachesTooMany (one_elf (reading_of original) p.1.elf q.elf p.1.read q.read) p.1.said))
  one_reason (TooManyLoops n) (NotRead y) p q = absurd (not_both (reading_of original) p.elf y p.read q.0)
  one_reason (TooManyLoops n) (TooManyWords m) p q =
      absurd (p.said.verdicts.few (subst ReachesTooMany (one_elf (reading_of original) q.1.elf p.elf q.1.read p.read) q.1.said))
  one_reason (TooManyLoops n) (TooManyLoops m) p q =
      ap (λ (k : ℕ). TooManyLoops k)
      (laws.refusal.loops q.elf n m
      (subst (λ (e : Elf). ChoosesTooMany e n) (one_elf (reading_of original) p.elf q.elf p.read q.read) p.said) q.said)
  one_reason (TooManyLoops n) (CodeTooLong m) p q =
      absurd (laws.refusal.apart q.elf n m
      (subst (λ (e : Elf). ChoosesTooMany e n) (one_elf (reading_of original) p.elf q.elf p.read q.read) p.said) q.said)
  one_reason (CodeTooLong n) (NotRead y) p q = absurd (not_both (reading_of original) p.elf y p.read q.0)
  one_reason (CodeTooLong n) (TooManyWords m) p q =
      absurd (p.said.are.verdicts.few
      (subst ReachesTooMany (one_elf (reading_of original) q.1.elf p.elf q.1.read p.read) q.1.said))
  one_reason (CodeTooLong n) (TooManyLoops m) p q =
      absurd (laws.refusal.apart p.elf m n
      (subst (λ (e : Elf). ChoosesTooMany e m) (one_elf (reading_of original) q.elf p.elf q.read p.read) q.said) p.said)
  one_reason (CodeTooLong n) (CodeTooLong m) p q =
      ap (λ (k : ℕ). CodeTooLong k)
      (laws.refusal.room q.elf n m
      (subst (λ (e : Elf). IsTooLong e n) (one_elf (reading_of original) p.elf q.elf p.read q.read) p.said) q.said)
  one_reason NoRoom b p q = absurd p
  one_reason a NoRoom p q = absurd q

  same_division : (e f : Elf) (entries others : List Entry) (code words : List ℕ) → reading_of original ≡ Ok e
      → reading_of original ≡ Ok f → IsDivision e entries code → IsDivision f others words
      → (entries ≡ others) × (code ≡ words)
  same_division e f entries others code words p q d g =
      laws.one f entries others code words
      (subst (λ (k : Elf). IsDivision k entries code) (one_elf (reading_of original) e f p q) d) g

  same_with : (entries others : List Entry) (code words : List ℕ) → entries ≡ others → code ≡ words
      → rewritten_with original entries code ≡ rewritten_with original others words
  same_with entries others code words e f =
      ap (λ (es : List Entry). rewritten_with original es code) e ∙ ap (rewritten_with original others) f

  same_image : (made other : Rewritten) → IsImage original made → IsImage original other → made ≡ other
  same_image made other a b =
      let d = same_division a.elf b.elf a.entries b.entries a.code b.code a.read b.read a.division b.division in
      a.is ∙ same_with a.entries b.entries a.code b.code d.0 d.1 ∙ sym b.is

  no_reason : (made : Rewritten) (why : RewriteErr) → IsImage original made → HasNoImage original why → ⊥
  no_reason made (NotRead x) a q = not_both (reading_of original) a.elf x a.read q.0
  no_reason made (TooManyWords n) a q =
      laws.apart.words a.elf a.entries a.code a.division
      (subst ReachesTooMany (one_elf (reading_of original) q.1.elf a.elf q.1.read a.read) q.1.said)
  no_reason made (TooManyLoops n) a q =
      laws.apart.loops a.elf a.entries a.code n a.division
      (subst (λ (e : Elf). ChoosesTooMany e n) (one_elf (reading_of original) q.elf a.elf q.read a.read) q.said)
  no_reason made (CodeTooLong n) a q =
      laws.apart.room a.elf a.entries a.code n a.division
      (subst (λ (e : Elf). IsTooLong e n) (one_elf (reading_of original) q.elf a.elf q.read a.read) q.said)
  no_reason made NoRoom a q = q

  -- what a refusal says that is none for want of memory
  reason_of : (why : RewriteErr) → why ≢ NoRoom → IsRewriting original (Err why) → HasNoImage original why
  reason_of (NotRead x) other q = q
  reason_of (TooManyWords n) other q = q
  reason_of (TooManyLoops n) other q = q
  reason_of (CodeTooLong n) other q = q
  reason_of NoRoom other q = absurd (other refl)

  as_error : {why : RewriteErr} → why ≡ NoRoom → ◌≡◌ {A = Result Rewritten RewriteErr} (Err why) (Err NoRoom)
  as_error e = ap (λ (w : RewriteErr). Err w) e

  pub one_rewriting : (a b : Result Rewritten RewriteErr) → IsRewriting original a → IsRewriting original b
      → a ≢ Err NoRoom → b ≢ Err NoRoom → a ≡ b
  one_rewriting (Ok made) (Ok other) p q x y = ap (λ (r : Rewritten). Ok r) (same_image made other p q)
  one_rewriting (Ok made) (Err why) p q x y = absurd (no_reason made why p (reason_of why (λ e. y (as_error e)) q))
  one_rewriting (Err why) (Ok made) p q x y = absurd (no_reason made why q (reason_of why (λ e. x (as_error e)) p))
  one_rewriting (Err why) (Err other) p q x y =
      ap (λ (e : RewriteErr). Err e) (one_reason why other (reason_of why (λ e. x (as_error e)) p) (reason_of other (λ e. y (as_error e)) q))

-- ---- admission

abbrev original_of : Split → List ℕ
original_of Plain = []
original_of BadMark = []
original_of (Parts original entries code) = original

module _ (laws : Laws) (bytes : List ℕ) where
  one_original : (xs ys : List ℕ) → HasOriginal bytes xs → HasOriginal bytes ys → xs ≡ ys
  one_original xs ys a b = ap original_of (sym a.split ∙ b.split)

  unmarked : {X : Type 0} (xs : List ℕ) → split_of bytes ≡ Plain → HasOriginal bytes xs → X
  unmarked xs e a = let g : Plain ≡ Parts xs a.entries a.code = sym e ∙ a.split in absurd (cc)

  not_bad : {X : Type 0} (xs : List ℕ) → split_of bytes ≡ BadMark → HasOriginal bytes xs → X
  not_bad xs e a = let g : BadMark ≡ Parts xs a.entries a.code = sym e ∙ a.split in absurd (cc)

  bad_or_plain : {X : Type 0} → split_of bytes ≡ BadMark → split_of bytes ≡ Plain → X
  bad_or_plain e f = let g : BadMark ≡ Plain = sym e ∙ f in absurd (cc)

  image_in : (image : Image) (d : IsDividedFile bytes image) → IsImage d.original (rewritten_with d.original image.entries image.code)
  image_in image d = record {
    elf = image.elf;
    read = d.read;
    entries = image.entries;
    code = image.code;
    division = d.division;
    is = refl;
  }

  image_by : (a b : Image) → a.elf ≡ b.elf → a.entries ≡ b.entries → a.code ≡ b.code → a ≡ b
  image_by a b e f g = λ k. record { elf = e k; entries = f k; code = g k }

  same_admitted : (a b : Image) → IsAdmission bytes (Ok a) → IsAdmission bytes (Ok b) → a ≡ b
  same_admitted a b (inl p) (inl q) =
      image_by a b (one_elf (reading_of bytes) a.elf b.elf p.read q.read)
      (p.entries ∙ sym q.entries) (p.code ∙ sym q.code)
  same_admitted a b (inl p) (inr q) = unmarked q.original p.unmarked q.marked
  same_admitted a b (inr p) (inl q) = unmarked p.original q.unmarked p.marked
  same_admitted a b (inr p) (inr q) =
      let o = one_original p.original q.original p.marked q.marked in
      let read = subst (λ (xs : List ℕ). reading_of xs ≡ Ok a.elf) o p.read in
      let d = same_division laws q.original a.elf b.elf a.entries b.entries a.code b.code read q.read p.division q.division in
      image_by a b (one_elf (reading_of q.original) a.elf b.elf read q.read) d.0 d.1

  -- an image that is admitted is not refused
  not_refused : (a : Image) (why : AdmitErr) → IsAdmission bytes (Ok a) → IsNotAdmitted bytes why → ⊥
  not_refused a IsBad (inl p) q = bad_or_plain q p.unmarked
  not_refused a IsBad (inr p) q = not_bad p.original q p.marked
  not_refused a (Original why) (inl p) (inl q) = plain_read why q
    where
      plain_read : (w : RewriteErr) → IsUnreadPlain bytes w → ⊥
      plain_read (NotRead x) u = not_both (reading_of bytes) a.elf x p.read u.1.0
      plain_read (TooManyWords n) u = u
      plain_read (TooManyLoops n) u = u
      plain_read (CodeTooLong n) u = u
      plain_read NoRoom u = u
  not_refused a (Original why) (inl p) (inr q) = unmarked q.original p.unmarked q.marked
  not_refused a (Original why) (inr p) (inl q) = marked_unread why q
    where
      marked_unread : (w : RewriteErr) → IsUnreadPlain bytes w → ⊥
      marked_unread (NotRead x) u = unmarked p.original u.0 p.marked
      marked_unread (TooManyWords n) u = u
      marked_unread (TooManyLoops n) u = u
      marked_unread (CodeTooLong n) u = u
      marked_unread NoRoom u = u
  not_refused a (Original why) (inr p) (inr q) =
      no_reason laws q.original (rewritten_with q.original a.entries a.code) why
      (subst (λ (xs : List ℕ). IsImage xs (rewritten_with xs a.entries a.code))
      (one_original p.original q.original p.marked q.marked) (image_in a p)) q.none
  not_refused a (Altered offset) (inl p) q = unmarked q.original p.unmarked q.marked
  not_refused a (Altered offset) (inr p) q =
      let o = one_original q.original p.original q.marked p.marked in
      let made : q.made ≡ rewritten_with p.original a.entries a.code =
      same_image laws p.original q.made (rewritten_with p.original a.entries a.code)
      (subst (λ (xs : List ℕ). IsImage xs q.made) o q.image) (image_in a p) in
      let same : q.made.bytes ≡ bytes = ap (λ (r : Rewritten). r.bytes) made ∙ p.same in
      let none : first_difference q.made.bytes bytes ≡ None =
      ap (λ (xs : List ℕ). first_difference xs bytes) same ∙ same_none bytes in
      let some = q.differs in cc
  not_refused a OutOfMemory p q = q

  unread_one : (a b : RewriteErr) → IsUnreadPlain bytes a → IsUnreadPlain bytes b → a ≡ b
  unread_one (NotRead x) (NotRead y) p q = ap (λ (w : ElfErr). NotRead w) (one_error (reading_of bytes) x y p.1.0 q.1.0)
  unread_one (NotRead x) (TooManyWords n) p q = absurd q
  unread_one (NotRead x) (TooManyLoops n) p q = absurd q
  unread_one (NotRead x) (CodeTooLong n) p q = absurd q
  unread_one (NotRead x) NoRoom p q = absurd q
  unread_one (TooManyWords n) b p q = absurd p
  unread_one (TooManyLoops n) b p q = absurd p
  unread_one (CodeTooLong n) b p q = absurd p
  unread_one NoRoom b p q = absurd p

  is_plain : (a : RewriteErr) → IsUnreadPlain bytes a → split_of bytes ≡ Plain
  is_plain (NotRead x) p = p.0
  is_plain (TooManyWords n) p = absurd p
  is_plain (TooManyLoops n) p = absurd p
  is_plain (CodeTooLong n) p = absurd p
  is_plain NoRoom p = absurd p

  one_refusal : (a b : AdmitErr) → IsNotAdmitted bytes a → IsNotAdmitted bytes b → a ≡ b
  one_refusal IsBad IsBad p q = refl
  one_refusal IsBad (Original why) p (inl q) = bad_or_plain p (is_plain why q)
  one_refusal IsBad (Original why) p (inr q) = not_bad q.original p q.marked
  one_refusal IsBad (Altered n) p q = not_bad q.original p q.marked
  one_refusal IsBad OutOfMemory p q = absurd q
  one_refusal (Original why) IsBad (inl p) q = bad_or_plain q (is_plain why p)
  one_refusal (Original why) IsBad (inr p) q = not_bad p.original q p.marked
  one_refusal (Original why) (Original other) (inl p) (inl q) =
      ap (λ (w : RewriteErr). Original w) (unread_one why other p q)
  one_refusal (Original why) (Original other) (inl p) (inr q) = unmarked q.original (is_plain why p) q.marked
  one_refusal (Original why) (Original other) (inr p) (inl q) = unmarked p.original (is_plain other q) p.marked
  one_refusal (Original why) (Original other) (inr p) (inr q) =
      ap (λ (w : RewriteErr). Original w)
      (one_reason laws q.original why other
      (subst (λ (xs : List ℕ). HasNoImage xs why) (one_original p.original q.original p.marked q.marked) p.none) q.none)
  one_refusal (Original why) (Altered n) (inl p) q = unmarked q.original (is_plain why p) q.marked
  one_refusal (Original why) (Altered n) (inr p) q =
      absurd (no_reason laws p.original q.made why
      (subst (λ (xs : List ℕ). IsImage xs q.made) (one_original q.original p.original q.marked p.marked) q.image) p.none)
  one_refusal (Original why) OutOfMemory p q = absurd q
  one_refusal (Altered n) IsBad p q = not_bad p.original q p.marked
  one_refusal (Altered n) (Original why) p (inl q) = unmarked p.original (is_plain why q) p.marked
  one_refusal (Altered n) (Original why) p (inr q) =
      absurd (no_reason laws q.original p.made why
      (subst (λ (xs : List ℕ). IsImage xs p.made) (one_original p.original q.original p.marked q.marked) p.image) q.none)
  one_refusal (Altered n) (Altered m) p q =
      let made : p.made ≡ q.made = same_image laws q.original p.made q.made
      (subst (λ (xs : List ℕ). IsImage xs p.made) (one_original p.original q.original p.marked q.marked) p.image) q.image in
      let both : Some n ≡ Some m =
      sym p.differs ∙ ap (λ (r : Rewritten). first_difference r.bytes bytes) made ∙ q.differs in
      let e : n ≡ m = cc in
      ap (λ (k : ℕ). Altered k) e
  one_refusal (Altered n) OutOfMemory p q = absurd q
  one_refusal OutOfMemory b p q = absurd p

  refusal_of : (why : AdmitErr) → why ≢ OutOfMemory → IsAdmission bytes (Err why) → IsNotAdmitted bytes why
  refusal_of IsBad other q = q
  refusal_of (Original why) other q = q
  refusal_of (Altered n) other q = q
  refusal_of OutOfMemory other q = absurd (other refl)

  as_refusal : {why : AdmitErr} → why ≡ OutOfMemory → ◌≡◌ {A = Result Image AdmitErr} (Err why) (Err OutOfMemory)
  as_refusal e = ap (λ (w : AdmitErr). Err w) e

  pub one_admission : (a b : Result Image AdmitErr) → IsAdmission bytes a → IsAdmission bytes b
      → a ≢ Err OutOfMemory → b ≢ Err OutOfMemory → a ≡ b
  one_admission (Ok image) (Ok other) p q x y = ap (λ (i : Image). Ok i) (same_admitted image other p q)
  one_admission (Ok image) (Err why) p q x y = absurd (not_refused image why p (refusal_of why (λ e. y (as_refusal e)) q))
  one_admission (Err why) (Ok image) p q x y = absurd (not_refused image why q (refusal_of why (λ e. x (as_refusal e)) p))
  one_admission (Err why) (Err other) p q x y =
      ap (λ (e : AdmitErr). Err e) (one_refusal why other (refusal_of why (λ e. x (as_refusal e)) p) (refusal_of other (λ e. y (as_refusal e)) q))
