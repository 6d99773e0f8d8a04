-- The aligned words of areas.
use Rattle.std.proofs.Common.{◌≡◌, ℕ, suc, ◌+◌, ◌-◌, ◌%◌, ◌==◌, ◌<◌, ◌≤◌, List, [], ◌∷◌, ◌++◌, length, drop, Option, Some, None, Result, Ok, Err, IsSome, IsOk, IfErr, true, false, Bool, cond, refl, ap, sym, ◌∙◌, arith}
use Rattle.std.proofs.lemmas.List.{append_assoc, append-nil, at_drop_all}
use Rattle.rv64_decode.specs.Area.{Area, area_at, number_at, why_in}
use Rattle.rv64_decode.specs.declared.memory.Width.TheVariants.{Eight}
use Rattle.rv64_decode.specs.declared.memory.MemFault.{MemFault}
use Rattle.rv64_decode.specs.declared.memory.MemFault.TheVariants.{Misaligned}
use Rattle.byteorder.specs.Endian.{little_number}
use Rattle.guest_memory.specs.Layout.{end_of, AreasLieFrom, nth_area, IsPlace, IsRefused}
use Rattle.guest_memory.specs.Words.{if_in_area, word_of, words_from, words_of_all}
use Rattle.guest_memory.proofs.Areas.{aligned, area_at-nth, number_at-place}

word_step : (found : Option Area) (even : Bool) (n : ℕ) (fault : MemFault) → cond even (why_in (λ _. true) found) (Some Misaligned) ≡ Some fault → cond even (if_in_area found n) None ≡ None
word_step None true n fault h = refl
word_step (Some a) true n fault h = cc
word_step found false n fault h = refl

-- an access that is refused whatever the permission meets no word
pub word-refused : (m : List Area) (x : ℕ) (fault : MemFault) → IsRefused m x Eight fault → word_of m x ≡ None
word-refused m x fault h = word_step (area_at m x) (x % 8 == 0) (number_at 8 m x) fault (h (λ _. true))

-- no such refusal where there is a word
pub answered : (m : List Area) (x : ℕ) (r : Result ℕ MemFault) → IfErr r (λ fault. IsRefused m x Eight fault) → IsSome (word_of m x) → IsOk r
answered m x (Ok i) h some = refl
answered m x (Err fault) h some = let none : IsSome {T = ℕ} None = rw (word-refused m x fault h) at some in cc

pub word-place : (m : List Area) (i x : ℕ) → AreasLieFrom 0 m → IsPlace m i x Eight → word_of m x ≡ Some (little_number 8 (drop (x - (nth_area m i).low) (nth_area m i).bytes))
word-place m i x lie p =
    let even = p.aligned in
    let fits = p.fits in
    let found = area_at-nth 0 m i x lie p.within p.low (omega arith) in
    rw (even, found) (ap (λ (v : ℕ). Some v) (number_at-place m i x Eight lie p))

-- a turn of a loop over the words of an area
pub words_turn : (m : List Area) (x n k number : ℕ) (before : List (ℕ × ℕ)) → n ≡ suc k → number ≡ number_at 8 m x
    → (before ++ (x, number) ∷ []) ++ words_from k m (x + 8) ≡ before ++ words_from n m x
words_turn m x n k number before more e = rw (more, e) (append_assoc before ((x, number_at 8 m x) ∷ []) (words_from k m (x + 8)))

-- the place of a word in an area
pub word_place : (m : List Area) (i x : ℕ) → AreasLieFrom 0 m → i < length m → (nth_area m i).low ≤ x → x < end_of (nth_area m i) → x % 8 ≡ 0 → IsPlace m i x Eight
word_place m i x lie h l u even =
    let a = aligned 0 m i lie h in
    record { within = h; aligned = even; low = l; fits = omega arith }

pub words_all : (m : List Area) (i : ℕ) (words : List (ℕ × ℕ)) → length m ≤ i → words ++ words_of_all m (drop i m) ≡ words_of_all m m → words ≡ words_of_all m m
words_all m i words h e =
    let none : words_of_all m (drop i m) ≡ [] = at_drop_all (words_of_all m) m i h in
    sym (append-nil words) ∙ ap (λ (v : List (ℕ × ℕ)). words ++ v) (sym none) ∙ e
