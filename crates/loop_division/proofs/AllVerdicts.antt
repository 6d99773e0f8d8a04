-- The verdicts of all loops of an executable.
use Rattle.std.proofs.Common.{◌≡◌, ◌<◌, ◌≤◌, ◌^◌, ◌++◌, ◌⊎◌, ℕ, zero, suc, inl, inr, List, [], ◌∷◌, Some}
use Rattle.std.proofs.Common.{true, length, drop, get_or, All, Contains, refl, sym, ap, subst, ◌∙◌, append-nil, drop_of_length-le, arith}
use Rattle.std.proofs.lemmas.List.Elements.{All-head, All-tail, All-get_or, All-from_get_or, Contains-get_or}
use Rattle.std.proofs.lemmas.List.{length-map, get_or-map}
use Rattle.std.proofs.lemmas.Option.{get_or_from_slice_get, slice_get_within}
use Rattle.std.specs.Prelude.{⊤, slice_get}
use Rattle.std.specs.List.Sorted.{IsStrictlyIncreasing}
use Rattle.elf_image.specs.declared.image.Elf.{Elf}
use Rattle.elf_image.specs.Layout.{IsLoadable, in_code}
use Rattle.loop_data.specs.declared.graph.Word.{Word}
use Rattle.loop_data.specs.declared.graph.Graph.{Graph}
use Rattle.loop_data.specs.declared.shape.LoopShape.{LoopShape}
use Rattle.loop_data.specs.declared.verdict.Verdict.{Verdict}
use Rattle.loop_data.specs.Listed.{IsListed, IsLine}
use Rattle.loop_data.specs.Loops.{headers_of}
use Rattle.loop_data.specs.Paths.{Leads, IsWay, IsWord, addresses_of}
use Rattle.loop_data.specs.Reaching.{Reached}
use Rattle.loop_data.proofs.Rising.{in_tail}
use Rattle.loop_choice.specs.declared.judged.Judged.{Judged}
use Rattle.loop_choice.specs.Choice.{AreChosen, headers_of as judged_headers}
use Rattle.loop_choice.specs.Judging.{IsOneOfLoops}
use Rattle.loop_choice.specs.Verdicts.{IsVerdict}
use Rattle.loop_division.specs.Adding.{IsParallelAt}
use Rattle.loop_division.specs.LoopVerdicts.{IsJudgedAs, AreJudgedAs, AreVerdicts}
use Rattle.loop_division.proofs.Sizes.{in_code_below, last_below}

-- all loops are judged where none is left
pub judged_end : (G : Graph) (xs : List LoopShape) (i : ℕ) (all : List Judged)
    → ((rest : List Judged) → AreJudgedAs G (drop i xs) rest → AreJudgedAs G xs (all ++ rest)) → length xs ≤ i
    → AreJudgedAs G xs all
judged_end G xs i all judged past =
    let none : AreJudgedAs G (drop i xs) [] = rw (drop_of_length-le xs past) tt in
    subst (λ (v : List Judged). AreJudgedAs G xs v) (append-nil all) (judged [] none)

same_headers : (G : Graph) (shapes : List LoopShape) (all : List Judged) → AreJudgedAs G shapes all
    → judged_headers all ≡ headers_of shapes
same_headers G [] [] h = refl
same_headers G [] (j ∷ all) h = absurd h
same_headers G (s ∷ shapes) [] h = absurd h
same_headers G (s ∷ shapes) (j ∷ all) h =
    let first = h.0.header in let rest = same_headers G shapes all h.1 in λ k. first k ∷ rest k

pub headers_rise : (elf : Elf) (G : Graph) (shapes : List LoopShape) (all : List Judged) → AreVerdicts elf G shapes all
    → IsStrictlyIncreasing (judged_headers all)
headers_rise elf G shapes all h =
    subst (λ (v : List ℕ). IsStrictlyIncreasing v) (sym (same_headers G shapes all h.judged)) h.loops.ordered

-- ---- headers are words

at_word : (words : List Word) (w : Word) → Contains words w → Contains (addresses_of words) w.at
at_word words w c =
    let n = length-map words (λ (v : Word). v.at) in
    let within = c.1 in
    let is : get_or (addresses_of words) c.0 0 ≡ w.at = get_or-map (λ (v : Word). v.at) words c.0 w 0 c.1
    ∙ ap (λ (v : Word). v.at) c.2 in
    subst (λ (a : ℕ). Contains (addresses_of words) a) is (Contains-get_or (addresses_of words) c.0 0 (omega arith))

from_word : (G : Graph) (from to : ℕ) → Leads G from to → IsWord G from
from_word G from to h = subst (λ (a : ℕ). IsWord G a) h.at (at_word G.words h.word h.among)

returns_from_word : (G : Graph) (g u : ℕ) (words : List ℕ) → IsWay (Leads G) (λ _. ⊤) words g u → Leads G u g
    → IsWord G g
returns_from_word G g u [] way edge = subst (λ (a : ℕ). IsWord G a) (sym way.1) (from_word G u g edge)
returns_from_word G g u (y ∷ ys) way edge = from_word G g y way.1

listed_from_word : (G : Graph) (g u : ℕ) → IsListed G g u → IsWord G g
listed_from_word G g u h = returns_from_word G g u h.returns.words h.returns.way h.edge

line_from_word : (G : Graph) (g : ℕ) (v : Verdict) → IsLine G g v → IsWord G g
line_from_word G g v (inl p) = listed_from_word G g p.source p.past.listed
line_from_word G g v (inr p) = listed_from_word G g p.source p.least.holds

header_is_word : (G : Graph) (s : LoopShape) → IsOneOfLoops G s → IsWord G s.header
header_is_word G s (inl l) = l.header.closed.word
header_is_word G s (inr l) = line_from_word G s.header l.verdict l.line

headers_are_words : (G : Graph) (shapes : List LoopShape) → All (IsOneOfLoops G) shapes → (h : ℕ)
    → Contains (headers_of shapes) h → IsWord G h
headers_are_words G [] each h c = absurd (let none = c.1 in omega arith)
headers_are_words G (s ∷ shapes) each h c = by (in_tail s.header (headers_of shapes) h c)
    (headers_are_words G shapes (All-tail (IsOneOfLoops G) s shapes each) h)
  where
    by : (s.header ≡ h) ⊎ Contains (headers_of shapes) h → (Contains (headers_of shapes) h → IsWord G h) → IsWord G h
    by (inl e) later = subst (λ (a : ℕ). IsWord G a) e
        (header_is_word G s (All-head (IsOneOfLoops G) s shapes each))
    by (inr c) later = later c

-- fewer loops are listed than there are addresses of segments
pub few_loops : ((elf : Elf) (a : ℕ) → Reached elf a → in_code elf.segments a ≡ true) → (elf : Elf) (G : Graph)
    (shapes : List LoopShape) (all : List Judged) → IsLoadable elf → AreVerdicts elf G shapes all
    → length all < 2 ^ 32
few_loops code elf G shapes all loadable h =
    let headers = judged_headers all in
    let names = same_headers G shapes all h.judged in
    let below : (a : ℕ) → Contains headers a → a < 0x5000_0008 = λ a c.
    let word = headers_are_words G shapes h.loops.each a (subst (λ (v : List ℕ). Contains v a) names c) in
    in_code_below elf.segments 0 a loadable.apart (code elf a ((h.graph.reached a).0 word)) in
    let most = last_below headers (length all) 0x5000_0008 (headers_rise elf G shapes all h)
    (length-map all (λ (j : Judged). j.header)) below in
    omega arith

-- ---- chosen loops

-- the loop at a place, and its verdict
record IsAt (G : Graph) (shapes : List LoopShape) (place : ℕ) (j : Judged) : Type 0 where
  shape : LoopShape
  is : slice_get shapes place ≡ Some shape
  judged : IsJudgedAs G shape j

judged_at : (G : Graph) (shapes : List LoopShape) (all : List Judged) (place : ℕ) (j : Judged) → AreJudgedAs G shapes all
    → slice_get all place ≡ Some j → IsAt G shapes place j
judged_at G [] [] place j h e = absurd (cc)
judged_at G [] (x ∷ all) place j h e = absurd h
judged_at G (s ∷ shapes) [] place j h e = absurd h
judged_at G (s ∷ shapes) (x ∷ all) zero j h e =
    let same : x ≡ j = cc in record { shape = s; is = refl; judged = subst (IsJudgedAs G s) same h.0 }
judged_at G (s ∷ shapes) (x ∷ all) (suc place) j h e =
    let r = judged_at G shapes all place j h.1 e in record { shape = r.shape; is = r.is; judged = r.judged }

pub chosen_parallel : (elf : Elf) (G : Graph) (shapes : List LoopShape) (all : List Judged) (places : List ℕ)
    → AreVerdicts elf G shapes all → AreChosen all places → All (IsParallelAt G shapes) places
chosen_parallel elf G shapes all places v c = All-from_get_or (IsParallelAt G shapes) places 0 each
  where
    each : (k : ℕ) → k < length places → IsParallelAt G shapes (get_or places k 0)
    each k l =
        let chosen = c.are.each (get_or places k 0) (Contains-get_or places k 0 l) in
        let at = judged_at G shapes all (get_or places k 0) chosen.loop v.judged chosen.is in
        let found = get_or_from_slice_get shapes (get_or places k 0) at.shape at.shape at.is in
        record {
          shape = at.shape;
          is = at.is;
          loop = record {
            listed = subst (IsOneOfLoops G) found
                (All-get_or (IsOneOfLoops G) shapes (get_or places k 0) at.shape
                (slice_get_within shapes (get_or places k 0) at.shape at.is) v.loops.each);
            parallel = subst (IsVerdict G at.shape) chosen.parallel at.judged.verdict;
          };
        }
