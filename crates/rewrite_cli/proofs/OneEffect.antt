-- A command has one effect at most.
use Rattle.std.proofs.Common.{◌≡◌, ℕ, inl, inr, List, Option, Some, None, Ok, Err, Result, ap, sym, subst, ◌∙◌, arith}
use Rattle.elf_image.specs.declared.image.Elf.{Elf}
use Rattle.elf_image.specs.declared.rules.ElfErr.{ElfErr}
use Rattle.elf_image.specs.Reading.{reading_of}
use Rattle.image_writer.specs.declared.image.Image.{Image}
use Rattle.rewriter.specs.declared.admission.AdmitErr.{AdmitErr}
use Rattle.rewriter.specs.Admission.{OneAdmissionLaw}
use Rattle.rewriter.specs.Rewriting.{OneRewritingLaw}
use Rattle.sample_maker.specs.declared.Kind.{Kind}
use Rattle.loop_choice.specs.declared.judged.Judged.{Judged}
use Rattle.loop_choice.specs.Choice.{AreChosen, OneChoiceLaw}
use Rattle.loop_division.specs.LoopVerdicts.{ChoosesTooMany}
use Rattle.loop_division.specs.OneDivision.{OneVerdictsLaw, OneRefusalLaw}
use Rattle.rewrite_cli.specs.Words.{Run, Rewrite, Loops, Make}
use Rattle.rewrite_cli.specs.Listing.{Listing, Lines, TooMany, TooManyChosen, AreLines, IsListing, lines_of}
use Rattle.rewrite_cli.specs.Effect.{Effect, OfFile, OfAdmission, OfReading, RunsFile, Runs, RewritesFile, of_rewriting}
use Rattle.rewrite_cli.specs.Effect.{ListsFile, MakesSample, load_limit, listed}
use Rattle.rewrite_cli.specs.Answer.{OneEffect}

-- ---- files

one_of_file : (limit : ℕ) (Act : List ℕ → Effect → Type 0) (xs : List ℕ) (content : Option (List ℕ)) (a b : Effect)
    → ((bytes : List ℕ) → Act bytes a → Act bytes b → a ≡ b) → OfFile limit Act xs content a
    → OfFile limit Act xs content b → a ≡ b
one_of_file limit Act xs None a b one p q = absurd p
one_of_file limit Act xs (Some bytes) a b one (inl p) (inl q) = p.1 ∙ sym q.1
one_of_file limit Act xs (Some bytes) a b one (inl p) (inr q) = let long = p.0 in let short = q.0 in absurd
    (omega arith)
one_of_file limit Act xs (Some bytes) a b one (inr p) (inl q) = let short = p.0 in let long = q.0 in absurd
    (omega arith)
one_of_file limit Act xs (Some bytes) a b one (inr p) (inr q) = one bytes p.1 q.1

-- ---- runs, images

one_run : OneAdmissionLaw → (fuel : ℕ) (dump : Option (List ℕ)) (xs bytes : List ℕ) (a b : Effect)
    → RunsFile fuel dump xs bytes a → RunsFile fuel dump xs bytes b → a ≡ b
one_run law fuel dump xs bytes a b p q =
    by p.admission
    (subst (λ (r : Result Image AdmitErr). OfAdmission (Runs fuel dump xs) xs r b)
    (law bytes q.admission p.admission q.is p.is q.found p.found) q.does) p.does
  where
    by : (r : Result Image AdmitErr) → OfAdmission (Runs fuel dump xs) xs r b → OfAdmission (Runs fuel dump xs) xs r a
        → a ≡ b
    by (Ok image) second first = first.is ∙ sym second.is
    by (Err why) second first = first ∙ sym second

one_rewriting : OneRewritingLaw → (new xs bytes : List ℕ) (a b : Effect) → RewritesFile new xs bytes a
    → RewritesFile new xs bytes b → a ≡ b
one_rewriting law new xs bytes a b p q =
    p.does ∙ ap (of_rewriting new xs) (law bytes p.rewriting q.rewriting p.is q.is p.found q.found) ∙ sym q.does

-- ---- lists

module _ (verdicts : OneVerdictsLaw) (refusal : OneRefusalLaw) (choice : OneChoiceLaw) where
  one_lines : (elf : Elf) (xs ys : List ℕ) → AreLines elf xs → AreLines elf ys → xs ≡ ys
  one_lines elf xs ys a b =
      let all = verdicts elf a.graph b.graph a.shapes b.shapes a.all b.all a.verdicts b.verdicts in
      let chosen = choice.places b.all a.chosen b.chosen
      (subst (λ (k : List Judged). AreChosen k a.chosen) all a.are_chosen) b.are_chosen in
      a.are ∙ ap (λ (k : List ℕ). lines_of k a.all) chosen ∙ ap (lines_of b.chosen) all ∙ sym b.are

  no_both : (elf : Elf) (xs : List ℕ) (n : ℕ) → AreLines elf xs → ChoosesTooMany elf n → ⊥
  no_both elf xs n a b =
      let all = verdicts elf a.graph b.graph a.shapes b.shapes a.all b.all a.verdicts b.verdicts in
      choice.apart b.all a.chosen n (subst (λ (k : List Judged). AreChosen k a.chosen) all a.are_chosen) b.many

  one_listing : (elf : Elf) (a b : Listing) → IsListing elf a → IsListing elf b → a ≡ b
  one_listing elf (Lines xs) (Lines ys) p q = ap (λ (v : List ℕ). Lines v) (one_lines elf xs ys p q)
  one_listing elf (Lines xs) (TooMany n) p q = absurd (p.verdicts.few q.1)
  one_listing elf (Lines xs) (TooManyChosen n) p q = absurd (no_both elf xs n p q)
  one_listing elf (TooMany n) (Lines ys) p q = absurd (q.verdicts.few p.1)
  one_listing elf (TooMany n) (TooMany k) p q = ap (λ (v : ℕ). TooMany v) (p.0 ∙ sym q.0)
  one_listing elf (TooMany n) (TooManyChosen k) p q = absurd (q.verdicts.few p.1)
  one_listing elf (TooManyChosen n) (Lines ys) p q = absurd (no_both elf ys n q p)
  one_listing elf (TooManyChosen n) (TooMany k) p q = absurd (p.verdicts.few q.1)
  one_listing elf (TooManyChosen n) (TooManyChosen k) p q =
      ap (λ (v : ℕ). TooManyChosen v) (refusal.loops elf n k p q)

  one_list : (xs : List ℕ) (reading : Result Elf ElfErr) (a b : Effect) → OfReading xs reading a
      → OfReading xs reading b → a ≡ b
  one_list xs (Ok elf) a b p q =
      p.1.1 ∙ ap (λ (v : Listing). listed v xs) (one_listing elf p.0 q.0 p.1.0 q.1.0) ∙ sym q.1.1
  one_list xs (Err e) a b p q = p ∙ sym q

-- ---- samples

one_sample : (kind : Kind) (size : ℕ) (new xs : List ℕ) (a b : Effect) → MakesSample kind size new xs a
    → MakesSample kind size new xs b → a ≡ b
one_sample kind size new xs a b (inl p) (inl q) = p.1 ∙ sym q.1
one_sample kind size new xs a b (inl p) (inr q) = let long = p.0 in let short = q.0 in absurd (omega arith)
one_sample kind size new xs a b (inr p) (inl q) = let short = p.0 in let long = q.0 in absurd (omega arith)
one_sample kind size new xs a b (inr p) (inr q) = p.1 ∙ sym q.1

-- ---- commands

-- the laws of what stands below
pub record Laws : Type 0 where
  pub verdicts : OneVerdictsLaw
  pub refusal : OneRefusalLaw
  pub choice : OneChoiceLaw
  pub rewriting : OneRewritingLaw
  pub admission : OneAdmissionLaw

pub one_effect : Laws → OneEffect
one_effect laws None files xs a b p q = p ∙ sym q
one_effect laws (Some (Run file fuel dump)) files xs a b p q =
    one_of_file load_limit (RunsFile fuel dump xs) xs (files file) a b
    (λ bytes. one_run laws.admission fuel dump xs bytes a b) p q
one_effect laws (Some (Rewrite file new)) files xs a b p q =
    one_of_file load_limit (RewritesFile new xs) xs (files file) a b
    (λ bytes. one_rewriting laws.rewriting new xs bytes a b) p q
one_effect laws (Some (Loops file)) files xs a b p q =
    one_of_file load_limit (ListsFile xs) xs (files file) a b
    (λ bytes. one_list laws.verdicts laws.refusal laws.choice xs (reading_of bytes) a b) p q
one_effect laws (Some (Make kind size new)) files xs a b p q = one_sample kind size new xs a b p q
