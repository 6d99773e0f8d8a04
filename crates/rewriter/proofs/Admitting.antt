-- A marked file is admitted where it is the image of its original part.
use Rattle.std.proofs.Common.{◌≡◌, ℕ, List, Some, None, Ok, refl, ap, sym, subst, ◌∙◌}
use Rattle.elf_image.specs.declared.image.Elf.{Elf}
use Rattle.elf_image.specs.Reading.{reading_of}
use Rattle.image_writer.specs.declared.image.Entry.{Entry}
use Rattle.image_writer.specs.Image.{image_bytes}
use Rattle.loop_division.specs.Division.{IsDivision}
use Rattle.rewriter.specs.Rewriting.{rewritten_with}
use Rattle.rewriter.specs.Admission.{HasOriginal, IsAltered, IsDividedFile, first_difference}
use Rattle.rewriter.proofs.Differences.{none_same}

pub altered : (bytes original slice made shown : List ℕ) (elf : Elf) (entries : List Entry) (code : List ℕ) (offset : ℕ)
    → HasOriginal bytes original → slice ≡ original → reading_of slice ≡ Ok elf → IsDivision elf entries code
    → made ≡ image_bytes slice entries code → shown ≡ made → first_difference shown bytes ≡ Some offset
    → IsAltered bytes offset
altered bytes original slice made shown elf entries code offset marked same read division is shows differs =
    record {
      original = original;
      marked = marked;
      made = rewritten_with original entries code;
      image = record {
        elf = elf;
        read = subst (λ (xs : List ℕ). reading_of xs ≡ Ok elf) same read;
        entries = entries;
        code = code;
        division = division;
        is = refl;
      };
      differs = ap (λ (xs : List ℕ). first_difference xs bytes)
          (ap (λ (xs : List ℕ). image_bytes xs entries code) (sym same) ∙ sym is ∙ sym shows) ∙ differs;
    }

pub divided : (bytes original slice made shown : List ℕ) (elf : Elf) (entries others : List Entry) (code words : List ℕ)
    → HasOriginal bytes original → slice ≡ original → reading_of slice ≡ Ok elf → IsDivision elf entries code
    → made ≡ image_bytes slice entries code → shown ≡ made → first_difference shown bytes ≡ None → others ≡ entries
    → words ≡ code → IsDividedFile bytes (record { elf = elf; entries = others; code = words })
divided bytes original slice made shown elf entries others code words marked same read division is shows none e f =
    record {
      original = original;
      marked = marked;
      read = subst (λ (xs : List ℕ). reading_of xs ≡ Ok elf) same read;
      division =
          subst (λ (ws : List ℕ). IsDivision elf others ws) (sym f)
          (subst (λ (es : List Entry). IsDivision elf es code) (sym e) division);
      same = ap (λ (es : List Entry). image_bytes original es words) e
          ∙ ap (λ (ws : List ℕ). image_bytes original entries ws) f
          ∙ ap (λ (xs : List ℕ). image_bytes xs entries code) (sym same)
          ∙ sym is ∙ sym shows ∙ none_same shown bytes none;
    }
