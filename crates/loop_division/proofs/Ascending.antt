-- The entries of a division are in order.
use Rattle.std.proofs.Common.{◌≡◌, ◌+◌, ◌<◌, ◌≤◌, ℕ, zero, suc, List, [], ◌∷◌, Some, length, get_or, map, refl, sym, ap, subst, arith}
use Rattle.std.proofs.lemmas.List.Kept.{AllPairs-from_increasing}
use Rattle.std.proofs.lemmas.Option.{slice_get_within}
use Rattle.std.specs.Prelude.{slice_get}
use Rattle.std.specs.List.Sorted.{IsStrictlyIncreasing}
use Rattle.elf_image.specs.declared.image.Elf.{Elf}
use Rattle.loop_data.specs.declared.graph.Graph.{Graph}
use Rattle.loop_data.specs.declared.shape.LoopShape.{LoopShape}
use Rattle.loop_data.specs.Loops.{headers_of}
use Rattle.image_writer.specs.declared.image.Entry.{Entry}
use Rattle.loop_division.specs.Division.{OrderLaw}
use Rattle.loop_division.specs.Stubs.{Stub, AreStubs, entries_of}

abbrev heads : ℕ → List Stub → List ℕ
heads p stubs = map (λ (e : Entry). e.header) (entries_of p stubs)

head_at : (shapes : List LoopShape) (i : ℕ) (s : LoopShape) → slice_get shapes i ≡ Some s
    → get_or (headers_of shapes) i 0 ≡ s.header
head_at [] i s e = absurd (cc)
head_at (x ∷ shapes) zero s e = let same : x ≡ s = cc in ap (λ (y : LoopShape). y.header) same
head_at (x ∷ shapes) (suc i) s e = head_at shapes i s e

heads_many : (shapes : List LoopShape) → length (headers_of shapes) ≡ length shapes
heads_many [] = refl
heads_many (x ∷ shapes) = ap suc (heads_many shapes)

stubs_many : (elf : Elf) (G : Graph) (shapes : List LoopShape) (places : List ℕ) (p : ℕ) (stubs : List Stub)
    → AreStubs elf G shapes places p stubs → length (entries_of p stubs) ≡ length places
stubs_many elf G shapes [] p [] h = refl
stubs_many elf G shapes [] p (s ∷ stubs) h = absurd h
stubs_many elf G shapes (a ∷ places) p [] h = absurd h
stubs_many elf G shapes (a ∷ places) p (s ∷ stubs) h =
    ap suc (stubs_many elf G shapes places (p + length s.words) stubs h.1)

tail : (x : ℕ) (xs : List ℕ) → IsStrictlyIncreasing (x ∷ xs) → IsStrictlyIncreasing xs
tail x xs h k within =
    let e : suc k + 1 ≡ suc (k + 1) = omega arith in
    subst (λ n. get_or xs k 0 < get_or (x ∷ xs) n 0) e (h (suc k) (omega arith))

longer : (x y : ℕ) (xs : List ℕ) → x < y → IsStrictlyIncreasing (y ∷ xs) → IsStrictlyIncreasing (x ∷ y ∷ xs)
longer x y xs lt h zero within = lt
longer x y xs lt h (suc k) within =
    let e : suc (k + 1) ≡ suc k + 1 = omega arith in
    subst (λ n. get_or (y ∷ xs) k 0 < get_or (x ∷ y ∷ xs) n 0) e (h k (omega arith))

rising : (elf : Elf) (G : Graph) (shapes : List LoopShape) → IsStrictlyIncreasing (headers_of shapes)
    → (places : List ℕ) (p : ℕ) (stubs : List Stub) → AreStubs elf G shapes places p stubs
    → IsStrictlyIncreasing places → IsStrictlyIncreasing (heads p stubs)
rising elf G shapes ups [] p [] h up = λ k w. absurd (omega arith)
rising elf G shapes ups [] p (s ∷ stubs) h up = absurd h
rising elf G shapes ups (a ∷ places) p [] h up = absurd h
rising elf G shapes ups (a ∷ []) p (s ∷ []) h up = λ k w. absurd (omega arith)
rising elf G shapes ups (a ∷ []) p (s ∷ t ∷ stubs) h up = absurd h.1
rising elf G shapes ups (a ∷ b ∷ places) p (s ∷ []) h up = absurd h.1
rising elf G shapes ups (a ∷ b ∷ places) p (s ∷ t ∷ stubs) h up =
    longer s.header t.header (heads (p + length s.words + length t.words) stubs) first
    (rising elf G shapes ups (b ∷ places) (p + length s.words) (t ∷ stubs) h.1 (tail a (b ∷ places) up))
  where
    first : s.header < t.header
    first =
        let one = h.0 in
        let two = h.1.0 in
        let apart : a < b = up 0 (omega arith) in
        let many = heads_many shapes in
        let within = slice_get_within shapes b two.shape two.is in
        let lower = head_at shapes a one.shape one.is in
        let upper = head_at shapes b two.shape two.is in
        let rise = AllPairs-from_increasing (headers_of shapes) ups a b 0 apart (omega (arith, many, within)) in
        omega (arith, lower, upper, rise, one.header, two.header)

pub order_law : OrderLaw
order_law elf entries code d =
    let a = d.are in
    let up = rising elf a.graph a.shapes a.verdicts.loops.ordered a.places 0 d.stubs a.stand a.chosen.are.ordered in
    let many = stubs_many elf a.graph a.shapes a.places 0 d.stubs a.stand in
    let few = a.chosen.few in
    record {
      ascending = subst (λ (es : List Entry). IsStrictlyIncreasing (map (λ (e : Entry). e.header) es))
          (sym d.entries_are) up;
      few = subst (λ (es : List Entry). length es ≤ 1024) (sym d.entries_are) (omega (arith, many, few));
    }
