-- Which words a list of all words has.
use Rattle.std.proofs.Common.{◌≡◌, ℕ, zero, suc, ◌+◌, ◌-◌, ◌*◌, ◌/◌, ◌%◌, ◌==◌, ◌<◌, ◌≤◌, List, [], ◌∷◌, length, Option, Some, None, true, false, Bool, cond, refl, ap, sym, arith, All, Contains}
use Rattle.std.proofs.lemmas.List.Elements.{All-nil, All-cons, All-append, Contains-append_left, Contains-append_right}
use Rattle.std.proofs.lemmas.Bool.Decides.{nat_tests}
use Rattle.rv64_decode.specs.Area.{Area, holds, area_at, number_at}
use Rattle.guest_memory.specs.Layout.{end_of, AreasLieFrom, nth_area}
use Rattle.guest_memory.specs.Words.{if_in_area, word_of, words_from, words_in, words_of_all}
use Rattle.guest_memory.proofs.Areas.{aligned, area_at-nth, inside_holds}

-- the word is the one that stands at its address
abbrev pub IsWordOf : List Area → (ℕ × ℕ) → Type 0
IsWordOf m w = word_of m w.0 ≡ Some w.1

word-here : (m : List Area) (i x : ℕ) → AreasLieFrom 0 m → i < length m → (nth_area m i).low ≤ x → x < end_of (nth_area m i) → x % 8 ≡ 0 → word_of m x ≡ Some (number_at 8 m x)
word-here m i x lie h l u even =
    let found = area_at-nth 0 m i x lie h l u in
    rw (even, found) refl

words_from-each : (n : ℕ) (m : List Area) (i x : ℕ) → AreasLieFrom 0 m → i < length m → (nth_area m i).low ≤ x → x + 8 * n ≤ end_of (nth_area m i) → x % 8 ≡ 0 → All (IsWordOf m) (words_from n m x)
words_from-each zero m i x lie h l u even = All-nil (IsWordOf m)
words_from-each (suc n) m i x lie h l u even =
    All-cons (IsWordOf m) (x, number_at 8 m x) (words_from n m (x + 8)) (word-here m i x lie h l (omega arith) even)
    (words_from-each n m i (x + 8) lie h (omega arith) (omega arith) (omega arith))

words_in-each : (m : List Area) (i : ℕ) → AreasLieFrom 0 m → i < length m → All (IsWordOf m) (words_in m (nth_area m i))
words_in-each m i lie h =
    let a = aligned 0 m i lie h in
    words_from-each (length (nth_area m i).bytes / 8) m i (nth_area m i).low lie h (omega arith) (omega arith) a.low

words_of_all-each : (m areas : List Area) → ((i : ℕ) → i < length areas → All (IsWordOf m) (words_in m (nth_area areas i))) → All (IsWordOf m) (words_of_all m areas)
words_of_all-each m [] h = All-nil (IsWordOf m)
words_of_all-each m (a ∷ rest) h =
    All-append (IsWordOf m) (words_in m a) (words_of_all m rest) (h 0 (omega arith)) (words_of_all-each m rest (λ i k. h (suc i) (omega arith)))

-- each word of the list stands in memory
pub words_of-each : (m : List Area) → AreasLieFrom 0 m → All (IsWordOf m) (words_of_all m m)
words_of-each m lie = words_of_all-each m m (λ i h. words_in-each m i lie h)

Contains-cons : (w v : ℕ × ℕ) (ws : List (ℕ × ℕ)) → Contains ws w → Contains (v ∷ ws) w
Contains-cons w v ws h = (suc h.0, omega arith, h.2)

words_from-every : (n : ℕ) (m : List Area) (k low x : ℕ) → k < n → x ≡ low + 8 * k → Contains (words_from n m low) (x, number_at 8 m x)
words_from-every zero m k low x h at = absurd (omega arith)
words_from-every (suc n) m zero low x h at =
    let here : x ≡ low = omega arith in
    (0, omega arith, ap (λ (v : ℕ). (v, number_at 8 m v)) (sym here))
words_from-every (suc n) m (suc k) low x h at =
    Contains-cons (x, number_at 8 m x) (low, number_at 8 m low) (words_from n m (low + 8)) (words_from-every n m k (low + 8) x (omega arith) (omega arith))

words_in-every : (m : List Area) (i x : ℕ) → AreasLieFrom 0 m → i < length m → holds (nth_area m i) x ≡ true → x % 8 ≡ 0 → Contains (words_in m (nth_area m i)) (x, number_at 8 m x)
words_in-every m i x lie h held even =
    let a = aligned 0 m i lie h in
    let inside = inside_holds (nth_area m i) x held in
    words_from-every (length (nth_area m i).bytes / 8) m ((x - (nth_area m i).low) / 8) (nth_area m i).low x (omega arith) (omega arith)

words_of_all-every : (m areas : List Area) (i : ℕ) (w : ℕ × ℕ) → i < length areas → Contains (words_in m (nth_area areas i)) w → Contains (words_of_all m areas) w
words_of_all-every m [] i w h has = absurd (omega arith)
words_of_all-every m (a ∷ rest) zero w h has = Contains-append_left (words_in m a) (words_of_all m rest) w has
words_of_all-every m (a ∷ rest) (suc i) w h has = Contains-append_right (words_in m a) (words_of_all m rest) w (words_of_all-every m rest i w (omega arith) has)

-- the area that holds an address
abbrev Place : List Area → ℕ → Type 0
Place m x = (i : ℕ) × (i < length m) × (holds (nth_area m i) x ≡ true)

place_step : (a b : Area) (rest : List Area) (x : ℕ) (t : Bool) → holds a x ≡ t → cond t (Some a) (area_at rest x) ≡ Some b → (area_at rest x ≡ Some b → Place rest x) → Place (a ∷ rest) x
place_step a b rest x true e is later = (0, omega arith, e)
place_step a b rest x false e is later = let p = later is in (suc p.0, omega arith, p.2)

place : (m : List Area) (x : ℕ) (b : Area) → area_at m x ≡ Some b → Place m x
place [] x b is = cc
place (a ∷ rest) x b is = place_step a b rest x (holds a x) refl is (place rest x b)

every_step : (m : List Area) (x n : ℕ) (even : Bool) (found : Option Area) → AreasLieFrom 0 m → (x % 8 == 0) ≡ even → area_at m x ≡ found → cond even (if_in_area found (number_at 8 m x)) None ≡ Some n
    → Contains (words_of_all m m) (x, n)
every_step m x n false found lie e f is = cc
every_step m x n true None lie e f is = cc
every_step m x n true (Some b) lie e f is =
    let p = place m x b f in
    let even : x % 8 ≡ 0 = grind (arith, nat_tests) in
    let number : number_at 8 m x ≡ n = cc in
    rw (← number) (words_of_all-every m m p.0 (x, number_at 8 m x) p.1 (words_in-every m p.0 x lie p.1 p.2 even))

-- each word of memory is in the list
pub words_of-every : (m : List Area) (x n : ℕ) → AreasLieFrom 0 m → word_of m x ≡ Some n → Contains (words_of_all m m) (x, n)
words_of-every m x n lie is = every_step m x n (x % 8 == 0) (area_at m x) lie refl refl is
