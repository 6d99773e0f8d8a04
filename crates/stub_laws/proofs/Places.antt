-- Words at a place of the code, with their open jumps aimed.
use Rattle.std.proofs.Common.{◌≡◌, ◌≢◌, ◌<◌, ◌^◌, subst, length, get_or, ℕ, zero, suc, ◌+◌, ◌-◌, ◌*◌, ◌/◌, ◌%◌, refl, sym, ap, ◌∙◌, arith, pos, Option, Some, Bool, true, false, List, [], ◌∷◌}
use Rattle.rv64_decode.specs.Aim.{Aimed}
use Rattle.std.specs.Prelude.{◌==◌, slice_get, nat_le}
use Rattle.std.proofs.lemmas.Bool.Decides.{nat_tests}
use Rattle.std.proofs.lemmas.Int.{ints}
use Rattle.rv64_decode.specs.declared.instr.Instr.TheVariants.{Jal}
use Rattle.rv64_decode.specs.declared.xinstr.XInstr.{XInstr}
use Rattle.rv64_decode.specs.declared.xinstr.XInstr.TheVariants.{Base}
use Rattle.rv64_decode.specs.XTable.{decoded_x}
use Rattle.rv64_decode.specs.Hart.{address, fetched, read_by}
use Rattle.rv64_decode.proofs.XDecodes.{means_x_decoded}
use Rattle.stub_laws.proofs.Opens.{only_open}
use Rattle.rv64_decode.specs.Aim.{distance}
use Rattle.stub_laws.specs.Laws.{AimedLaw}
use Rattle.stub_laws.specs.Places.{aimed, StandsIn, IsAt, WordsAt}
use Rattle.stub_laws.specs.Code.{readings, somes}

pub fetched_at : (code : List ℕ) (n : ℕ) → fetched code (address n) ≡ read_by (slice_get code n)
unfolding fetched
fetched_at code n =
    let a : (address n % 4 == 0) ≡ true = grind (arith, nat_tests) in
    let b : (0x6000_0000 + 4 * n - 0x6000_0000) / 4 ≡ n = omega arith in
    let c : nat_le 0x6000_0000 (address n) ≡ true = grind (arith, nat_tests) in
    rw (c, a, b) refl

-- a jump with offset 0 or not
abbrev is_open : XInstr → Bool
is_open (Base (Jal zero (pos zero))) = true
is_open i = false

aimed_open : (to p : ℕ) (i : XInstr) → is_open i ≡ true → (i ≡ Base (Jal 0 (pos 0))) × (aimed to p i ≡ Base (Jal 0 (distance to p)))
aimed_open to p (Base (Jal zero (pos zero))) h = (refl, refl)
aimed_open to p i h = absurd (cc)

aimed_other : (to p : ℕ) (i : XInstr) → is_open i ≡ false → aimed to p i ≡ i
aimed_other to p (Base (Jal zero (pos zero))) h = cc
aimed_other to p i h = refl

not_open : (i : XInstr) → is_open i ≡ false → i ≢ Base (Jal 0 (pos 0))
not_open i h e = let f : is_open i ≡ true = ap is_open e in cc

open_means : decoded_x 0x6F ≡ Some (Base (Jal 0 (pos 0)))
open_means = means_x_decoded 0x6F (Base (Jal 0 (pos 0))) (refl, refl, refl)

some_same : (i j : XInstr) → Some i ≡ Some j → i ≡ j
some_same i j e = cc

-- the word fetched from its place stands for the instruction, aimed
fetched_one : (code : List ℕ) (out : ℕ) (p to k word : ℕ) (i : XInstr) → IsAt code p to k word → decoded_x word ≡ Some i → distance out p ≡ distance to k → fetched code (address p) ≡ Some (aimed out p i)
fetched_one code out p to k word i at d same = by_test (is_open i) refl
  where
    by_test : (t : Bool) → is_open i ≡ t → fetched code (address p) ≡ Some (aimed out p i)
    by_test true h =
        let o = aimed_open out p i h in
        let e = only_open word at.small (d ∙ ap Some o.0) in
        fetched_at code p ∙ ap read_by at.here ∙ means_x_decoded at.now _ (at.aim.jumps e) ∙ ap (λ z. Some (Base (Jal 0 z))) (sym same) ∙ ap Some (sym o.1)
    by_test false h =
        let other : word ≢ 0x6F = λ e. not_open i h (some_same i _ (sym d ∙ ap decoded_x e ∙ open_means)) in
        fetched_at code p ∙ ap read_by at.here ∙ ap decoded_x (at.aim.stays other) ∙ d ∙ ap Some (sym (aimed_other out p i h))

same_distance : (a p to k : ℕ) → a + k ≡ to + p → distance a p ≡ distance to k
same_distance a p to k e = omega (arith, ints)

head_same : (x : Option XInstr) (i : XInstr) (xs ys : List (Option XInstr)) → x ∷ xs ≡ Some i ∷ ys → (x ≡ Some i) × (xs ≡ ys)
head_same x i xs ys e = let a : x ≡ Some i = cc in let b : xs ≡ ys = cc in (a, b)

-- words that stand for instructions stand at a place, so these instructions do
pub stands_words : (code : List ℕ) (out : ℕ) (is : List XInstr) (words : List ℕ) (p to k : ℕ) → out + k ≡ to + p → WordsAt code p to k words → readings words ≡ somes is → StandsIn code out p is
unfolding readings somes
stands_words code out [] words p to k e at r = tt
stands_words code out (i ∷ is) [] p to k e at r = cc
stands_words code out (i ∷ is) (x ∷ words) p to k e at r =
    let h = head_same (decoded_x x) i (readings words) (somes is) r in
    let f : out + suc k ≡ to + suc p = omega arith in
    (fetched_one code out p to k x i at.0 h.0 (same_distance out p to k e), stands_words code out is words (suc p) to (suc k) f at.1 h.1)

-- from what `aim` ensures at each index: a stub that `aim` went over stands at place p
pub words_from : (code words aimed_words : List ℕ) (to p k : ℕ) → ((j : ℕ) → j < length words → slice_get code (p + j) ≡ Some (get_or aimed_words j 0)) → ((j : ℕ) → j < length words → Aimed to (k + j) (get_or words j 0) (get_or aimed_words j 0)) → ((j : ℕ) → j < length words → get_or words j 0 < 2 ^ 32) → length aimed_words ≡ length words → WordsAt code p to k words
words_from code [] vs to p k here aims small size = tt
words_from code (x ∷ words) [] to p k here aims small size = absurd (omega arith)
words_from code (x ∷ words) (v ∷ vs) to p k here aims small size =
    let z : 0 < length (x ∷ words) = omega arith in
    let e : p + 0 ≡ p = omega arith in
    let f : k + 0 ≡ k = omega arith in
    let first : IsAt code p to k x = record { small = small 0 z; now = v; here = subst (λ n. slice_get code n ≡ Some v) e (here 0 z); aim = subst (λ n. Aimed to n x v) f (aims 0 z) } in
    (first, words_from code words vs to (suc p) (suc k) (later_here here) (later_aims aims) (later_small small) (omega arith))
  where
    later_here : ((j : ℕ) → j < length (x ∷ words) → slice_get code (p + j) ≡ Some (get_or (v ∷ vs) j 0)) → (j : ℕ) → j < length words → slice_get code (suc p + j) ≡ Some (get_or vs j 0)
    later_here h j l = let e : p + suc j ≡ suc p + j = omega arith in subst (λ n. slice_get code n ≡ Some (get_or vs j 0)) e (h (suc j) (omega arith))

    later_aims : ((j : ℕ) → j < length (x ∷ words) → Aimed to (k + j) (get_or (x ∷ words) j 0) (get_or (v ∷ vs) j 0)) → (j : ℕ) → j < length words → Aimed to (suc k + j) (get_or words j 0) (get_or vs j 0)
    later_aims h j l = let e : k + suc j ≡ suc k + j = omega arith in subst (λ n. Aimed to n (get_or words j 0) (get_or vs j 0)) e (h (suc j) (omega arith))

    later_small : ((j : ℕ) → j < length (x ∷ words) → get_or (x ∷ words) j 0 < 2 ^ 32) → (j : ℕ) → j < length words → get_or words j 0 < 2 ^ 32
    later_small h j l = h (suc j) (omega arith)

pub aimed_words : AimedLaw
aimed_words code words aimed to p k small size here aims = words_from code words aimed to p k here aims (λ j l. small j 0 l) size
