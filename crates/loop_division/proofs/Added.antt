-- Stubs that are added one after the other.
use Rattle.std.proofs.Common.{◌≡◌, ◌<◌, ◌≤◌, ◌+◌, ◌++◌, ℕ, List, [], ◌∷◌, Some, length, get_or, refl, sym, ap, subst, ◌∙◌, append-nil, arith}
use Rattle.std.proofs.lemmas.List.{append_assoc, length-append}
use Rattle.std.proofs.lemmas.Option.{get_or_from_slice_get}
use Rattle.std.specs.Prelude.{slice_get}
use Rattle.elf_image.specs.declared.image.Elf.{Elf}
use Rattle.rv64_decode.specs.Hart.{address}
use Rattle.loop_data.specs.declared.graph.Graph.{Graph}
use Rattle.loop_data.specs.declared.shape.LoopShape.{LoopShape}
use Rattle.loop_choice.specs.declared.judged.Judged.{Judged}
use Rattle.loop_choice.specs.Choice.{AreChosen}
use Rattle.image_writer.specs.declared.image.Entry.{Entry}
use Rattle.image_writer.specs.Image.{word_limit}
use Rattle.loop_division.specs.Adding.{IsParallelLoop, IsParallelAt, AreAdded}
use Rattle.loop_division.specs.Division.{AreStubsOf, IsDivision, IsTooLong}
use Rattle.loop_division.specs.LoopVerdicts.{AreVerdicts}
use Rattle.loop_division.specs.Stubs.{Stub, AreWordsOf, IsStubAt, AreStubs, entries_of, words_of}

words_push : (stubs : List Stub) (s : Stub) → words_of (stubs ++ s ∷ []) ≡ words_of stubs ++ s.words
words_push [] s = append-nil s.words
words_push (x ∷ stubs) s =
    ap (λ (ws : List ℕ). x.words ++ ws) (words_push stubs s) ∙ sym (append_assoc x.words (words_of stubs) s.words)

abbrev entry_at : Stub → ℕ → Entry
entry_at s p = record { header = s.header; stub = address p }

entries_push : (p : ℕ) (stubs : List Stub) (s : Stub)
    → entries_of p (stubs ++ s ∷ []) ≡ entries_of p stubs ++ (entry_at s (p + length (words_of stubs)) ∷ [])
entries_push p [] s = let e : p ≡ p + 0 = omega arith in ap (λ (q : ℕ). entry_at s q ∷ []) e
entries_push p (x ∷ stubs) s =
    let n = length-append x.words (words_of stubs) in
    let e : p + length x.words + length (words_of stubs) ≡ p + length (x.words ++ words_of stubs) = omega arith in
    ap (λ (es : List Entry). entry_at x p ∷ es)
    (entries_push (p + length x.words) stubs s
    ∙ ap (λ (q : ℕ). entries_of (p + length x.words) stubs ++ (entry_at s q ∷ [])) e)

pub none_added : (elf : Elf) (G : Graph) (shapes : List LoopShape) (places : List ℕ)
    → AreAdded elf G shapes places places [] [] 0
none_added elf G shapes places = record {
  done = [];
  stand = λ stubs s. s;
  entries_are = refl;
  count_is = refl;
  kept = λ few. refl;
}

pub next_added : (elf : Elf) (G : Graph) (shapes : List LoopShape) (shape : LoopShape) (place : ℕ) (places rest : List ℕ)
    (entries entries_new : List Entry) (code code_new words : List ℕ) (count count_new : ℕ)
    → slice_get shapes place ≡ Some shape → AreWordsOf elf G shape count words
    → entries_new ≡ entries ++ (record { header = shape.header; stub = address count } ∷ [])
    → count_new ≡ count + length words → (count_new ≤ word_limit → code_new ≡ code ++ words)
    → AreAdded elf G shapes places (place ∷ rest) entries code count
    → AreAdded elf G shapes places rest entries_new code_new count_new
next_added elf G shapes shape place places rest entries entries_new code code_new words count count_new is are e n c a =
    record {
      done = a.done ++ s ∷ [];
      stand = λ stubs h. subst (AreStubs elf G shapes places 0) (sym (append_assoc a.done (s ∷ []) stubs))
          (a.stand (s ∷ stubs) (at, subst (λ (q : ℕ). AreStubs elf G shapes rest q stubs) n h));
      entries_are = e ∙ ap (λ (es : List Entry). es ++ (entry_at s count ∷ [])) a.entries_are
          ∙ ap (λ (q : ℕ). entries_of 0 a.done ++ (entry_at s q ∷ [])) start ∙ sym (entries_push 0 a.done s);
      count_is = let l = ap length (words_push a.done s) in let k = length-append (words_of a.done) words in
          let d = a.count_is in omega arith;
      kept = λ few. c few ∙ ap (λ (ws : List ℕ). ws ++ words) (a.kept (let m = n in omega arith))
          ∙ sym (words_push a.done s);
    }
  where
    s : Stub
    s = record { header = shape.header; words = words }

    at : IsStubAt elf G shapes place count s
    at = record { shape = shape; is = is; header = refl; words = are }

    start : count ≡ 0 + length (words_of a.done)
    start = let d = a.count_is in omega arith

-- the loop at a place, as it was found there
pub parallel_here : (G : Graph) (shapes : List LoopShape) (place : ℕ) (x : LoopShape) → x ≡ get_or shapes place x
    → IsParallelAt G shapes place → IsParallelLoop G x
parallel_here G shapes place x e a =
    subst (IsParallelLoop G) (sym (e ∙ get_or_from_slice_get shapes place a.shape x a.is)) a.loop

pub found_here : (G : Graph) (shapes : List LoopShape) (place : ℕ) (x : LoopShape) → x ≡ get_or shapes place x
    → IsParallelAt G shapes place → slice_get shapes place ≡ Some x
found_here G shapes place x e a =
    a.is ∙ ap (λ (s : LoopShape). Some s) (sym (e ∙ get_or_from_slice_get shapes place a.shape x a.is))

-- ---- the end

stubs_of : (elf : Elf) (G : Graph) (shapes : List LoopShape) (all : List Judged) (places : List ℕ) (entries : List Entry)
    (code : List ℕ) (count : ℕ) → AreVerdicts elf G shapes all → AreChosen all places
    → (a : AreAdded elf G shapes places [] entries code count) → AreStubsOf elf a.done
stubs_of elf G shapes all places entries code count v c a = record {
  graph = G;
  shapes = shapes;
  all = all;
  verdicts = v;
  places = places;
  chosen = c;
  stand = subst (AreStubs elf G shapes places 0) (append-nil a.done) (a.stand [] tt);
}

pub all_added : (elf : Elf) (G : Graph) (shapes : List LoopShape) (all : List Judged) (places : List ℕ)
    (entries : List Entry) (code : List ℕ) (count : ℕ) → AreVerdicts elf G shapes all → AreChosen all places
    → AreAdded elf G shapes places [] entries code count → count ≤ word_limit → IsDivision elf entries code
all_added elf G shapes all places entries code count v c a few = record {
  stubs = a.done;
  are = stubs_of elf G shapes all places entries code count v c a;
  entries_are = a.entries_are;
  code_is = a.kept few;
  room = let e = ap length (a.kept few) in let d = a.count_is in omega arith;
}

pub too_long : (elf : Elf) (G : Graph) (shapes : List LoopShape) (all : List Judged) (places : List ℕ)
    (entries : List Entry) (code : List ℕ) (count : ℕ) → AreVerdicts elf G shapes all → AreChosen all places
    → AreAdded elf G shapes places [] entries code count → word_limit < count → IsTooLong elf count
too_long elf G shapes all places entries code count v c a many = record {
  stubs = a.done;
  are = stubs_of elf G shapes all places entries code count v c a;
  count = a.count_is;
  many = many;
}
