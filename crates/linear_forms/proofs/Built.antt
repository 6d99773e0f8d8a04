-- A list of terms that is built, term by term, until it is a wanted list.
use Rattle.std.proofs.Common.{◌≡◌, ◌≢◌, ℕ, zero, suc, ◌+◌, ◌<◌, ◌≤◌, List, [], ◌∷◌, ◌++◌, length, drop, true, false, refl, ap, sym, ◌∙◌, subst, arith, length-append, append_assoc, append-nil, slice_index_or, ℤ, pos, ◌*ℤ◌}
use Rattle.linear_forms.specs.declared.location.Loc.{Loc}
use Rattle.linear_forms.specs.declared.terms.Next.{Next}
use Rattle.linear_forms.specs.Forms.{EntryTerm, is_zero, is_small, are_small, are_limited, merged, scaled_terms, AreFrom, unless_zero}
use Rattle.linear_forms.specs.Locations.{term_of, terms_of, AreLocations, AreFormTerms, IsLocation}
use Rattle.linear_forms.specs.Merging.{IsNext, IsBuilt, AddsTerm, PassesLimits, IsWhole}
use Rattle.linear_forms.proofs.Merges.{kept, AreFrom-merged, AreFrom-unless_zero, are_small-push, are_limited-large, are_limited-long, are_limited-from}
use Rattle.linear_forms.proofs.Nexts.{tail}

pub terms_of-append : (xs ys : List (Loc × ℤ)) → terms_of (xs ++ ys) ≡ terms_of xs ++ terms_of ys
terms_of-append [] ys = refl
terms_of-append (x ∷ xs) ys = ap (λ zs. term_of x ∷ zs) (terms_of-append xs ys)

pub length-terms_of : (xs : List (Loc × ℤ)) → length (terms_of xs) ≡ length xs
length-terms_of [] = refl
length-terms_of (x ∷ xs) = ap suc (length-terms_of xs)

pub AreLocations-push : (xs : List (Loc × ℤ)) (t : Loc × ℤ) → AreLocations xs → IsLocation t.0 → AreLocations (xs ++ t ∷ [])
AreLocations-push [] t a b = (b, tt)
AreLocations-push (x ∷ xs) t a b = (a.0, AreLocations-push xs t a.1 b)

pub drop_terms : (n : ℕ) (ts : List (Loc × ℤ)) → AreFormTerms ts → AreFormTerms (drop n ts)
drop_terms zero ts h = h
drop_terms (suc n) [] h = h
drop_terms (suc n) (t ∷ ts) h = drop_terms n ts (tail t ts h)

pub nothing_built : (wanted : List EntryTerm) → IsBuilt [] wanted wanted
nothing_built wanted = record { whole = refl; locations = tt; small = refl; short = omega arith }

pub built_more : (list : List (Loc × ℤ)) (t : Loc × ℤ) (rest wanted : List EntryTerm) → IsBuilt list (unless_zero (term_of t) rest) wanted
    → t.1 ≢ pos 0 → is_small t.1 ≡ true → IsLocation t.0 → length list < 4 → IsBuilt (list ++ t ∷ []) rest wanted
built_more list t rest wanted b n s l h =
    record {
      whole = ap (λ xs. xs ++ rest) (terms_of-append list (t ∷ [])) ∙ append_assoc (terms_of list) (term_of t ∷ []) rest ∙ ap (λ xs. terms_of list ++ xs) (sym (kept (term_of t) rest n)) ∙ b.whole;
      locations = AreLocations-push list t b.locations l;
      small = ap are_small (terms_of-append list (t ∷ [])) ∙ are_small-push (terms_of list) (term_of t) b.small s;
      short = let e = length-append list (t ∷ []) in omega arith;
    }

pub built_same : (list : List (Loc × ℤ)) (t : Loc × ℤ) (rest wanted : List EntryTerm) → IsBuilt list (unless_zero (term_of t) rest) wanted
    → t.1 ≡ pos 0 → IsBuilt list rest wanted
built_same list t rest wanted b z =
    let e : unless_zero (term_of t) rest ≡ rest = let f : is_zero t.1 ≡ true = ap is_zero z in rw f refl in
    record { whole = ap (λ xs. terms_of list ++ xs) (sym e) ∙ b.whole; locations = b.locations; small = b.small; short = b.short }

pub built_full : (list : List (Loc × ℤ)) (t : Loc × ℤ) (rest wanted : List EntryTerm) → IsBuilt list (unless_zero (term_of t) rest) wanted
    → t.1 ≢ pos 0 → 4 ≤ length list → are_limited wanted ≡ false
built_full list t rest wanted b n h =
    let e : terms_of list ++ term_of t ∷ rest ≡ wanted = ap (λ xs. terms_of list ++ xs) (sym (kept (term_of t) rest n)) ∙ b.whole in
    let f = length-append (terms_of list) (term_of t ∷ rest) in
    let g = length-terms_of list in
    let k : 4 < length wanted = subst (λ xs. 4 < length xs) e (omega arith) in
    are_limited-long wanted k

pub built_large : (list : List (Loc × ℤ)) (t : Loc × ℤ) (rest wanted : List EntryTerm) → IsBuilt list (unless_zero (term_of t) rest) wanted
    → t.1 ≢ pos 0 → is_small t.1 ≡ false → are_limited wanted ≡ false
built_large list t rest wanted b n s =
    let e : terms_of list ++ term_of t ∷ rest ≡ wanted = ap (λ xs. terms_of list ++ xs) (sym (kept (term_of t) rest n)) ∙ b.whole in
    sym (ap are_limited e) ∙ are_limited-large (terms_of list) (term_of t) rest s

pub adds_term : (list : List (Loc × ℤ)) (t : Loc × ℤ) → t.1 ≢ pos 0 → is_small t.1 ≡ true → IsLocation t.0 → length list < 4 → AddsTerm list (list ++ t ∷ []) t
adds_term list t n s l h = λ rest wanted b. built_more list t rest wanted b n s l h

pub adds_nothing : (list : List (Loc × ℤ)) (t : Loc × ℤ) → t.1 ≡ pos 0 → AddsTerm list list t
adds_nothing list t z = λ rest wanted b. built_same list t rest wanted b z

pub passes_full : (list : List (Loc × ℤ)) (t : Loc × ℤ) → t.1 ≢ pos 0 → 4 ≤ length list → PassesLimits list t
passes_full list t n h = λ rest wanted b. built_full list t rest wanted b n h

pub passes_large : (list : List (Loc × ℤ)) (t : Loc × ℤ) → t.1 ≢ pos 0 → is_small t.1 ≡ false → PassesLimits list t
passes_large list t n s = λ rest wanted b. built_large list t rest wanted b n s

pub built_all : (list : List (Loc × ℤ)) (wanted : List EntryTerm) → IsBuilt list [] wanted → terms_of list ≡ wanted
built_all list wanted b = sym (append-nil (terms_of list)) ∙ b.whole

pub built_terms : (list : List (Loc × ℤ)) (wanted : List EntryTerm) → IsBuilt list [] wanted → AreFrom 1 wanted → AreFormTerms list
built_terms list wanted b a =
    let g = length-terms_of list in
    record {
      locations = b.locations;
      terms = record { ordered = subst (AreFrom 1) (sym (built_all list wanted b)) a; limited = are_limited-from (terms_of list) (omega arith) b.small };
    }

-- a step of a sum
pub next_built : (list ts us : List (Loc × ℤ)) (n : Next) (wanted : List EntryTerm) → IsNext ts us n → IsBuilt list (merged (terms_of ts) (terms_of us)) wanted
    → IsBuilt list (unless_zero (term_of n.term) (merged (terms_of (drop n.first ts)) (terms_of (drop n.second us)))) wanted
next_built list ts us n wanted h b =
    record { whole = ap (λ xs. terms_of list ++ xs) (sym h.sum) ∙ b.whole; locations = b.locations; small = b.small; short = b.short }

pub built_whole : (list : List (Loc × ℤ)) (wanted : List EntryTerm) → IsBuilt list [] wanted → AreFrom 1 wanted → IsWhole list wanted
built_whole list wanted b a = record { is = built_all list wanted b; terms = built_terms list wanted b a }

-- the sum of two lists that are used up
pub merge_whole : (list ts us : List (Loc × ℤ)) (wanted : List EntryTerm) → length ts + length us ≤ 0 → IsBuilt list (merged (terms_of ts) (terms_of us)) wanted → AreFrom 1 wanted → IsWhole list wanted
merge_whole list [] [] wanted h b a = built_whole list wanted b a
merge_whole list [] (u ∷ us) wanted h b a = absurd (omega arith)
merge_whole list (t ∷ ts) us wanted h b a = absurd (omega arith)

pub location_at : (ts : List (Loc × ℤ)) (i : ℕ) (d : Loc × ℤ) → AreLocations ts → i < length ts → IsLocation (slice_index_or ts i d).0
location_at [] i d a h = absurd (omega arith)
location_at (t ∷ ts) zero d a h = a.0
location_at (t ∷ ts) (suc i) d a h = location_at ts i d a.1 (omega arith)

AreFrom-scaled : (low : ℕ) (by : ℤ) (ts : List EntryTerm) → AreFrom low ts → AreFrom low (scaled_terms by ts)
AreFrom-scaled low by [] a = tt
AreFrom-scaled low by (t ∷ ts) a =
    AreFrom-unless_zero low (record { loc = t.loc; by = by *ℤ t.by }) (scaled_terms by ts) a.0 a.1 (AreFrom-scaled (suc t.loc) by ts a.3)

pub scaled_ordered : (by : ℤ) (ts : List (Loc × ℤ)) → AreFormTerms ts → AreFrom 1 (scaled_terms by (terms_of ts))
scaled_ordered by ts h = AreFrom-scaled 1 by (terms_of ts) h.terms.ordered

pub merged_ordered : (ts us : List (Loc × ℤ)) → AreFormTerms ts → AreFormTerms us → AreFrom 1 (merged (terms_of ts) (terms_of us))
merged_ordered ts us h k = AreFrom-merged 1 (terms_of ts) (terms_of us) h.terms.ordered k.terms.ordered

-- the multiple of what is left begins with that of its first term
pub scaled_from : (by : ℤ) (ts : List (Loc × ℤ)) (i : ℕ) (d : Loc × ℤ) → i < length ts
    → scaled_terms by (terms_of (drop i ts)) ≡ unless_zero (term_of ((slice_index_or ts i d).0, by *ℤ (slice_index_or ts i d).1)) (scaled_terms by (terms_of (drop (suc i) ts)))
scaled_from by [] i d h = absurd (omega arith)
scaled_from by (t ∷ ts) zero d h = refl
scaled_from by (t ∷ ts) (suc i) d h = scaled_from by ts i d (omega arith)

pub scaled_whole : (list ts : List (Loc × ℤ)) (by : ℤ) (i : ℕ) → length ts ≤ i → IsBuilt list (scaled_terms by (terms_of (drop i ts))) (scaled_terms by (terms_of ts)) → AreFormTerms ts → IsWhole list (scaled_terms by (terms_of ts))
scaled_whole list ts by i h b a = built_whole list (scaled_terms by (terms_of ts)) (subst (λ xs. IsBuilt list xs (scaled_terms by (terms_of ts))) (done ts i h) b) (scaled_ordered by ts a)
  where
    done : (ts : List (Loc × ℤ)) (i : ℕ) → length ts ≤ i → scaled_terms by (terms_of (drop i ts)) ≡ []
    done [] zero h = refl
    done [] (suc i) h = refl
    done (t ∷ ts) zero h = absurd (omega arith)
    done (t ∷ ts) (suc i) h = done ts i (omega arith)

-- a step of a multiple
pub scaled_built : (list ts : List (Loc × ℤ)) (by : ℤ) (i : ℕ) (d : Loc × ℤ) (wanted : List EntryTerm) → i < length ts → IsBuilt list (scaled_terms by (terms_of (drop i ts))) wanted
    → IsBuilt list (unless_zero (term_of ((slice_index_or ts i d).0, by *ℤ (slice_index_or ts i d).1)) (scaled_terms by (terms_of (drop (suc i) ts)))) wanted
scaled_built list ts by i d wanted h b = subst (λ xs. IsBuilt list xs wanted) (scaled_from by ts i d h) b
