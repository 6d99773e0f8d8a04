-- Where copies stand that are put down in order, as a list of places.
use Rattle.std.proofs.Common.{◌≡◌, ◌≢◌, ℕ, zero, suc, ◌+◌, ◌*◌, ◌^◌, ◌<◌, ◌≤◌, refl, sym, ap, ◌∙◌, arith, Option, Some, None, Bool, true, false, List, [], ◌∷◌, ◌++◌, length, get_or, drop, append_assoc, if◌then◌else◌}
use Rattle.std.specs.Prelude.{◌==◌, ◌&&◌}
use Rattle.std.specs.List.{AllPairs, Contains}
use Rattle.std.proofs.Math.Seq.{drop-cons}
use Rattle.std.proofs.lemmas.Int.{ints}
use Rattle.std.proofs.lemmas.List.{drop_all}
use Rattle.rv64_decode.specs.Aim.{distance}
use Rattle.rv64_decode.specs.Form.{IsSigned}
use Rattle.rv64_decode.specs.Row.{next_pc}
use Rattle.rv64_decode.specs.declared.instr.LoadOp.TheVariants.{Lw}
use Rattle.rv64_decode.specs.declared.instr.UpperOp.TheVariants.{Auipc}
use Rattle.rv64_decode.specs.declared.instr.Instr.{Instr}
use Rattle.rv64_decode.specs.declared.instr.Instr.TheVariants.{Upper, Load, Store}
use Rattle.loop_data.specs.declared.shape.Level.{Level}
use Rattle.loop_data.specs.LoopCode.{LoopCode}
use Rattle.loop_data.proofs.Tests.{is_eq, is_ne}
use Rattle.turn_copies.specs.Copies.{Kind, Leaving, OfCell, Plain, falls_through, word_size, back_size, size_of, copy_size, place_in, end_in, in_order, arrive, kind_of}
use Rattle.outliner.specs.Sizes.{places_from}

-- ---- how many words a copy has

word_few : (kind : Kind) (i : Instr) → word_size kind i ≤ 2
word_few Leaving i = omega arith
word_few (OfCell k) (Load Lw rd rs1 imm) = omega arith
word_few (OfCell k) (Load op rd rs1 imm) = omega arith
word_few (OfCell k) (Store op rs1 rs2 imm) = omega arith
word_few (OfCell k) i = omega arith
word_few Plain (Upper Auipc rd imm) = omega arith
word_few Plain i = omega arith

back_few : (l : Level) (u : ℕ) (i : Instr) → back_size l u i ≤ 1
back_few l u i = by (falls_through i && (next_pc u == l.header))
  where
    by : (b : Bool) → (if b then 1 else 0) ≤ 1
    by true = omega arith
    by false = omega arith

size_few : (l : Level) (u : ℕ) (kind : Kind) (o : Option Instr) → size_of l u kind o ≤ 3
size_few l u kind None = omega arith
size_few l u kind (Some i) = let a = word_few kind i in let b = back_few l u i in omega (arith, a, b)

pub copy_few : (l : Level) (B : LoopCode) (u : ℕ) → copy_size l B u ≤ 3
copy_few l B u = size_few l u (kind_of l B u) (B.instr u)

-- ---- places

pub places_length : (l : Level) (B : LoopCode) (p : ℕ) (us : List ℕ) → length (places_from l B p us) ≡ length us + 1
places_length l B p [] = omega arith
places_length l B p (u ∷ us) = let h = places_length l B (p + copy_size l B u) us in omega (arith, h)

pub first_place : (l : Level) (B : LoopCode) (p : ℕ) (us : List ℕ) → get_or (places_from l B p us) 0 0 ≡ p
first_place l B p [] = refl
first_place l B p (u ∷ us) = refl

pub last_place : (l : Level) (B : LoopCode) (p : ℕ) (us : List ℕ) → get_or (places_from l B p us) (length us) 0 ≡ end_in l B us p
last_place l B p [] = refl
last_place l B p (u ∷ us) = last_place l B (p + copy_size l B u) us

place_here : (l : Level) (B : LoopCode) (u x : ℕ) (us : List ℕ) (p : ℕ) → u ≡ x → p ≡ place_in l B (u ∷ us) p x
place_here l B u x us p e = ap (λ b. if b then p else place_in l B us (p + copy_size l B u) x) (sym (is_eq u x e))

place_later : (l : Level) (B : LoopCode) (u x : ℕ) (us : List ℕ) (p : ℕ) → u ≢ x → place_in l B us (p + copy_size l B u) x ≡ place_in l B (u ∷ us) p x
place_later l B u x us p e = ap (λ b. if b then p else place_in l B us (p + copy_size l B u) x) (sym (is_ne u x e))

later_pairs : (u : ℕ) (us : List ℕ) → AllPairs (λ x y. x < y) (u ∷ us) → AllPairs (λ x y. x < y) us
later_pairs u us h = λ i j d lt within. h (suc i) (suc j) d (omega arith) (omega arith)

pub place_found : (l : Level) (B : LoopCode) (us : List ℕ) (p k x : ℕ) → AllPairs (λ a b. a < b) us → k < length us → get_or us k 0 ≡ x → get_or (places_from l B p us) k 0 ≡ place_in l B us p x
place_found l B [] p k x rising lt e = absurd (omega arith)
place_found l B (u ∷ us) p zero x rising lt e = place_here l B u x us p e
place_found l B (u ∷ us) p (suc k) x rising lt e =
    let below : u < get_or us k 0 = rising 0 (suc k) 0 (omega arith) (omega arith) in
    let other : u ≢ x = λ s. absurd (omega arith) in
    place_found l B us (p + copy_size l B u) k x (later_pairs u us rising) (omega arith) e ∙ place_later l B u x us p other

pub place_missing : (l : Level) (B : LoopCode) (us : List ℕ) (p x : ℕ) → (Contains us x → ⊥) → get_or (places_from l B p us) (length us) 0 ≡ place_in l B us p x
place_missing l B [] p x h = refl
place_missing l B (u ∷ us) p x h =
    let other : u ≢ x = λ s. h (0, omega arith, s) in
    place_missing l B us (p + copy_size l B u) x (λ c. h (suc c.0, let b = c.1 in omega (arith, b), c.2)) ∙ place_later l B u x us p other

-- ---- how far they go

pub end_most : (l : Level) (B : LoopCode) (us : List ℕ) (p : ℕ) → end_in l B us p ≤ p + 3 * length us
end_most l B [] p = omega arith
end_most l B (u ∷ us) p = let h = end_most l B us (p + copy_size l B u) in let k = copy_few l B u in omega (arith, h, k)

pub end_least : (l : Level) (B : LoopCode) (us : List ℕ) (p : ℕ) → p ≤ end_in l B us p
end_least l B [] p = omega arith
end_least l B (u ∷ us) p = let h = end_least l B us (p + copy_size l B u) in omega (arith, h)

pub place_most : (l : Level) (B : LoopCode) (us : List ℕ) (p x : ℕ) → place_in l B us p x ≤ end_in l B us p
place_most l B [] p x = omega arith
place_most l B (u ∷ us) p x = by (u == x) (end_least l B (u ∷ us) p) (place_most l B us (p + copy_size l B u) x)
  where
    by : (b : Bool) → p ≤ end_in l B us (p + copy_size l B u) → place_in l B us (p + copy_size l B u) x ≤ end_in l B us (p + copy_size l B u)
        → (if b then p else place_in l B us (p + copy_size l B u) x) ≤ end_in l B us (p + copy_size l B u)
    by true h k = h
    by false h k = k

pub place_least : (l : Level) (B : LoopCode) (us : List ℕ) (p x : ℕ) → p ≤ place_in l B us p x
place_least l B [] p x = omega arith
place_least l B (u ∷ us) p x = by (u == x) (place_least l B us (p + copy_size l B u) x)
  where
    by : (b : Bool) → p + copy_size l B u ≤ place_in l B us (p + copy_size l B u) x → p ≤ (if b then p else place_in l B us (p + copy_size l B u) x)
    by true h = omega arith
    by false h = omega (arith, h)

pub arrive_least : (l : Level) (B : LoopCode) (p x : ℕ) → p ≤ arrive l (in_order l B p) x
arrive_least l B p x = by (x == l.header) (end_least l B l.body p) (place_least l B l.body p x)
  where
    by : (b : Bool) → p ≤ end_in l B l.body p → p ≤ place_in l B l.body p x → p ≤ (if b then end_in l B l.body p else place_in l B l.body p x)
    by true h k = h
    by false h k = k

pub arrive_most : (l : Level) (B : LoopCode) (p x : ℕ) → arrive l (in_order l B p) x ≤ end_in l B l.body p
arrive_most l B p x = by (x == l.header) (place_most l B l.body p x)
  where
    by : (b : Bool) → place_in l B l.body p x ≤ end_in l B l.body p → (if b then end_in l B l.body p else place_in l B l.body p x) ≤ end_in l B l.body p
    by true k = omega arith
    by false k = k

-- two places among the copies of at most 256 words are near enough for a branch
pub near_copies : (to at p : ℕ) → p ≤ to → to ≤ p + 3 * 256 → p ≤ at → at ≤ p + 3 * 256 → IsSigned 13 (distance to at)
near_copies to at p a b c d = (omega (arith, ints), omega (arith, ints))

-- ---- the list, one place after the other

pub place_added : (l : Level) (B : LoopCode) (us done whole : List ℕ) (k p : ℕ) → k < length us → whole ≡ done ++ places_from l B p (drop k us) → whole ≡ (done ++ (p ∷ [])) ++ places_from l B (p + copy_size l B (get_or us k 0)) (drop (k + 1) us)
place_added l B us done whole k p lt e =
    let next : suc k ≡ k + 1 = omega arith in
    e ∙ ap (λ xs. done ++ places_from l B p xs) (drop-cons us k 0 lt) ∙ sym (append_assoc done (p ∷ []) (places_from l B (p + copy_size l B (get_or us k 0)) (drop (suc k) us)))
    ∙ ap (λ n. (done ++ (p ∷ [])) ++ places_from l B (p + copy_size l B (get_or us k 0)) (drop n us)) next

pub places_done : (l : Level) (B : LoopCode) (us done whole : List ℕ) (k p : ℕ) → length us ≤ k → whole ≡ done ++ places_from l B p (drop k us) → done ++ (p ∷ []) ≡ whole
places_done l B us done whole k p lt e = sym (e ∙ ap (λ xs. done ++ places_from l B p xs) (drop_all k us lt))

-- ---- what a copy needs

pub room : (l : Level) (B : LoopCode) (p : ℕ) (places : List ℕ) → places ≡ places_from l B p l.body → length l.body < length places
room l B p places e = let a = ap length e in let b = places_length l B p l.body in omega (arith, a, b)

pub near_of : (l : Level) (B : LoopCode) (p here to at x : ℕ) → length l.body ≤ 256 → here ≡ place_in l B l.body p at → to ≡ arrive l (in_order l B p) x → IsSigned 13 (distance to here)
near_of l B p here to at x few e f =
    let a = arrive_least l B p x in
    let b = arrive_most l B p x in
    let m = end_most l B l.body p in
    let y = place_least l B l.body p at in
    let z = place_most l B l.body p at in
    near_copies to here p (omega (arith, a, f)) (omega (arith, b, m, f, few)) (omega (arith, y, e)) (omega (arith, z, m, e, few))

pub ends_of : (l : Level) (B : LoopCode) (p here end at : ℕ) → length l.body ≤ 256 → here ≡ place_in l B l.body p at → end ≡ end_in l B l.body p → (here ≤ end) × (end ≤ here + 2 ^ 12)
ends_of l B p here end at few e f =
    let m = end_most l B l.body p in
    let y = place_least l B l.body p at in
    let z = place_most l B l.body p at in
    (omega (arith, z, e, f), omega (arith, y, m, e, f, few))

pub small_of : (l : Level) (B : LoopCode) (p here at : ℕ) → length l.body ≤ 256 → p < 2 ^ 30 → here ≡ place_in l B l.body p at → here < 2 ^ 31
small_of l B p here at few low e =
    let m = end_most l B l.body p in
    let z = place_most l B l.body p at in
    omega (arith, z, m, e, few, low)

-- the last of the places, by a list that is the body
pub end_by : (l : Level) (B : LoopCode) (p : ℕ) (places body : List ℕ) → places ≡ places_from l B p l.body → body ≡ l.body → get_or places (length body) 0 ≡ end_in l B l.body p
end_by l B p places body e f = ap (λ xs. get_or xs (length body) 0) e ∙ ap (λ q. get_or (places_from l B p l.body) (length q) 0) f ∙ last_place l B p l.body
