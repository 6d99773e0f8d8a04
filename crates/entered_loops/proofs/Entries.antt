-- The stub of an entry that is found, among all added words.
use Rattle.std.proofs.Common.{◌≡◌, ℕ, zero, suc, ◌+◌, ◌<◌, ◌≤◌, ◌^◌, ◌==◌, ◌⊎◌, inl, inr, if◌then◌else◌, Bool, true, false, List, [], ◌∷◌, ◌++◌, length, get_or, append_assoc, Option, Some, None, refl, ap, sym, ◌∙◌, subst, arith}
use Rattle.std.specs.Prelude.{slice_get}
use Rattle.std.specs.List.{All}
use Rattle.std.proofs.lemmas.Bool.Decides.{nat_tests}
use Rattle.std.proofs.lemmas.List.{length-append}
use Rattle.std.proofs.lemmas.List.Elements.{All-nil, All-append}
use Rattle.elf_image.specs.declared.image.Elf.{Elf}
use Rattle.rv64_decode.specs.Hart.{address}
use Rattle.loop_data.specs.declared.graph.Graph.{Graph}
use Rattle.loop_data.specs.declared.shape.LoopShape.{LoopShape}
use Rattle.image_writer.specs.declared.image.Entry.{Entry}
use Rattle.hart_core.specs.declared.entries.Found.{Found}
use Rattle.hart_core.specs.Entering.{found_from, entry_at, header_of}
use Rattle.loop_division.specs.Stubs.{Stub, IsStubAt, AreStubs, AreShort, entries_of, words_of}

-- the stub of an entry stands among all added words, at the address of the entry
pub record IsStubOf (elf : Elf) (G : Graph) (shapes : List LoopShape) (code : List ℕ) (pc : ℕ) (found : Found) : Type 0 where
  pub before : List ℕ
  pub rest : List ℕ
  pub stub : Stub
  pub code_is : code ≡ before ++ (stub.words ++ rest)
  pub at : found.stub ≡ address (length before)
  pub header : stub.header ≡ pc
  pub place : ℕ
  pub is : IsStubAt elf G shapes place (length before) stub

equal : (a b : ℕ) → (a == b) ≡ true → a ≡ b
equal a b e = grind (arith, nat_tests)

module _ (elf : Elf) (G : Graph) (shapes : List LoopShape) (code : List ℕ) (pc : ℕ) (found : Found) where
  abbrev Finds : List Stub → List ℕ → ℕ → Type 0
  Finds stubs before number = found_from number (entries_of (length before) stubs) pc ≡ Some found

  first_stub : (stub : Stub) (stubs : List Stub) (before : List ℕ) (number place : ℕ) → IsStubAt elf G shapes place (length before) stub
      → code ≡ before ++ words_of (stub ∷ stubs) → stub.header ≡ pc
      → Some (record { number = number; stub = address (length before) }) ≡ Some found → IsStubOf elf G shapes code pc found
  first_stub stub stubs before number place is c h e = record {
    before = before;
    rest = words_of stubs;
    stub = stub;
    code_is = c;
    at = some_stub (record { number = number; stub = address (length before) }) e;
    header = h;
    place = place;
    is = is;
  }
    where
      some_stub : (f : Found) → Some f ≡ Some found → found.stub ≡ f.stub
      some_stub f e = cc

  find : (places : List ℕ) (stubs : List Stub) (before : List ℕ) (number : ℕ) → AreStubs elf G shapes places (length before) stubs
      → Finds stubs before number → code ≡ before ++ words_of stubs → IsStubOf elf G shapes code pc found
  find [] [] before number a e c = absurd (cc)
  find [] (stub ∷ stubs) before number a e c = absurd a
  find (place ∷ places) [] before number a e c = absurd a
  find (place ∷ places) (stub ∷ stubs) before number a e c =
      let same = length-append before stub.words in
      by (stub.header == pc) refl
      (λ later. find places stubs (before ++ stub.words) (suc number)
      (subst (λ n. AreStubs elf G shapes places n stubs) (sym same) a.1)
      (subst (λ n. found_from (suc number) (entries_of n stubs) pc ≡ Some found) (sym same) later)
      (c ∙ sym (append_assoc before stub.words (words_of stubs))))
    where
      by : (b : Bool) → (stub.header == pc) ≡ b
          → (found_from (suc number) (entries_of (length before + length stub.words) stubs) pc ≡ Some found → IsStubOf elf G shapes code pc found)
          → IsStubOf elf G shapes code pc found
      by true h go =
          first_stub stub stubs before number place a.0 c (equal stub.header pc h)
          (ap (λ b. if b then Some (record { number = number; stub = address (length before) })
          else found_from (suc number) (entries_of (length before + length stub.words) stubs) pc) (sym h) ∙ e)
      by false h go =
          go (ap (λ b. if b then Some (record { number = number; stub = address (length before) })
          else found_from (suc number) (entries_of (length before + length stub.words) stubs) pc) (sym h) ∙ e)

-- ---- the header of an entry by its number

record IsNumbered (number : ℕ) (entries : List Entry) (pc : ℕ) (found : Found) : Type 0 where
  k : ℕ
  is : found.number ≡ number + k
  header : header_of (slice_get entries k) ≡ pc

numbered : (entries : List Entry) (number pc : ℕ) (found : Found) → found_from number entries pc ≡ Some found → IsNumbered number entries pc found
numbered [] number pc found e = absurd (cc)
numbered (x ∷ entries) number pc found e = by (x.header == pc) refl (numbered entries (suc number) pc found)
  where
    here : (f : Found) → Some f ≡ Some found → found.number ≡ f.number
    here f e = cc

    by : (b : Bool) → (x.header == pc) ≡ b
        → (found_from (suc number) entries pc ≡ Some found → IsNumbered (suc number) entries pc found)
        → IsNumbered number (x ∷ entries) pc found
    by true h go =
        let first : Some (record { number = number; stub = x.stub }) ≡ Some found =
        ap (λ b. if b then Some (record { number = number; stub = x.stub }) else found_from (suc number) entries pc) (sym h) ∙ e in
        let n = here (record { number = number; stub = x.stub }) first in
        record { k = 0; is = omega (arith, n); header = equal x.header pc h }
    by false h go =
        let r = go (ap (λ b. if b then Some (record { number = number; stub = x.stub }) else found_from (suc number) entries pc) (sym h) ∙ e) in
        let n = r.is in
        record { k = suc r.k; is = omega (arith, n); header = r.header }

pub header_is : (entries : List Entry) (pc : ℕ) (found : Found) → entry_at entries pc ≡ Some found → header_of (slice_get entries found.number) ≡ pc
unfolding entry_at
header_is entries pc found e =
    let r = numbered entries 0 pc found e in
    let same : found.number ≡ r.k = let n = r.is in omega (arith, n) in
    ap (λ k. header_of (slice_get entries k)) same ∙ r.header

pub stub_of : (elf : Elf) (G : Graph) (shapes : List LoopShape) (places : List ℕ) (stubs : List Stub) (entries : List Entry) (code : List ℕ) (pc : ℕ) (found : Found)
    → AreStubs elf G shapes places 0 stubs → entries ≡ entries_of 0 stubs → code ≡ words_of stubs → entry_at entries pc ≡ Some found → IsStubOf elf G shapes code pc found
unfolding entry_at
stub_of elf G shapes places stubs entries code pc found a e c f =
    find elf G shapes code pc found places stubs [] 0 a (ap (λ (es : List Entry). found_from 0 es pc) (sym e) ∙ f) c

-- ---- all added words have 32 bits

pub all_short : (elf : Elf) (G : Graph) (shapes : List LoopShape) (places : List ℕ) (p : ℕ) (stubs : List Stub) → AreStubs elf G shapes places p stubs → AreShort (words_of stubs)
all_short elf G shapes places p [] a = All-nil (λ (w : ℕ). w < 2 ^ 32)
all_short elf G shapes [] p (stub ∷ stubs) a = absurd a
all_short elf G shapes (place ∷ places) p (stub ∷ stubs) a =
    All-append (λ (w : ℕ). w < 2 ^ 32) stub.words (words_of stubs) a.0.words.are.short (all_short elf G shapes places (p + length stub.words) stubs a.1)
