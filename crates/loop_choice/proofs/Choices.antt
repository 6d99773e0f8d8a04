-- The places of the chosen loops, one after the other.
use Rattle.std.proofs.Common.{◌≡◌, ◌≢◌, ℕ, ◌<◌, ◌≤◌, ◌+◌, ◌⊎◌, inl, inr, Bool, true, false, not, List, [], ◌∷◌, ◌++◌, length, get_or, Some, refl, ap, sym, ◌∙◌, subst, arith}
use Rattle.std.specs.Prelude.{slice_get}
use Rattle.std.specs.List.{Contains}
use Rattle.std.specs.List.Sorted.{IsStrictlyIncreasing}
use Rattle.std.proofs.lemmas.Bool.{cases_lt}
use Rattle.std.proofs.lemmas.List.{get_or_append_left, get_or_push, length_push}
use Rattle.std.proofs.lemmas.List.Elements.{Contains-get_or, Contains-push, Contains-push_cases, Contains-append_left}
use Rattle.std.proofs.lemmas.Option.{slice_get_within}
use Rattle.loop_data.specs.Sets.{IsListOf}
use Rattle.loop_data.specs.declared.verdict.Verdict.TheVariants.{Parallel}
use Rattle.loop_data.proofs.Rising.{same_list, same_count}
use Rattle.loop_choice.specs.declared.judged.Judged.{Judged}
use Rattle.loop_choice.specs.Choice.{IsChosen, IsParallelWith, OneChoiceLaw}
use Rattle.loop_choice.specs.Choosing.{IsSet, AreFlags, AreChosenBelow}
use Rattle.loop_choice.proofs.Hopeless.{up_to}
use Rattle.loop_choice.proofs.Lists.{one_element}

-- numbers that rise, and one above them
rises_push : (xs : List ℕ) (y : ℕ) → IsStrictlyIncreasing xs → ((x : ℕ) → Contains xs x → x < y) → IsStrictlyIncreasing (xs ++ y ∷ [])
rises_push xs y up above k l = by (cases_lt (k + 1) (length xs))
  where
    left : (i : ℕ) → i < length xs → get_or (xs ++ y ∷ []) i 0 ≡ get_or xs i 0
    left i q = get_or_append_left xs (y ∷ []) 0 i q

    by : (k + 1 < length xs) ⊎ (length xs ≤ k + 1) → get_or (xs ++ y ∷ []) k 0 < get_or (xs ++ y ∷ []) (k + 1) 0
    by (inl q) =
        let a = left k (omega arith) in
        let b = left (k + 1) q in
        let c = up k q in
        omega arith
    by (inr q) =
        let m = length_push xs y in
        let last : length xs ≡ k + 1 = omega arith in
        let p : k < length xs = omega arith in
        let a = left k p in
        let b = get_or_push xs y 0 (k + 1) last in
        let c = above (get_or xs k 0) (Contains-get_or xs k 0 p) in
        omega arith

pub none_chosen : (all : List Judged) → AreChosenBelow all 0 []
none_chosen all = record { ordered = λ k l. absurd (omega arith); each = λ x c. let l = c.1 in absurd (omega arith); every = λ x c l. absurd (omega arith) }

cases_up_to : (x n : ℕ) → x < n + 1 → (x < n) ⊎ (x ≡ n)
cases_up_to x n l = up_to x n (omega arith)

-- the loop at a place is chosen where it is Parallel and its flag is not set
pub is_chosen : (all : List Judged) (flags : List Bool) (n : ℕ) (loop : Judged) → AreFlags all (length all) flags → slice_get all n ≡ Some loop
    → loop.verdict ≡ Parallel → (IsSet flags n → ⊥) → IsChosen all n
is_chosen all flags n loop f at parallel unset = record {
  loop = loop;
  is = at;
  parallel = parallel;
  outermost = λ other apart holds. unset (f.every n (record { loop = loop; is = at; place = other; below = slice_get_within all other holds.loop holds.is; apart = apart; holds = holds }));
}

pub not_chosen : (all : List Judged) (flags : List Bool) (n : ℕ) → AreFlags all (length all) flags → IsSet flags n → ¬ IsChosen all n
not_chosen all flags n f set c =
    let o = f.each n set in
    let same : o.loop ≡ c.loop = one_element all n o.loop c.loop o.is c.is in
    c.outermost o.place o.apart (subst (λ (j : Judged). IsParallelWith all j.header o.place) same o.holds)

pub not_parallel : (all : List Judged) (n : ℕ) (loop : Judged) → slice_get all n ≡ Some loop → loop.verdict ≢ Parallel → ¬ IsChosen all n
not_parallel all n loop at other c =
    let same : c.loop ≡ loop = one_element all n c.loop loop c.is at in
    other (sym (ap (λ (j : Judged). j.verdict) same) ∙ c.parallel)

pub one_more : (all : List Judged) (n : ℕ) (places : List ℕ) → AreChosenBelow all n places → IsChosen all n → AreChosenBelow all (n + 1) (places ++ n ∷ [])
one_more all n places b c = record {
  ordered = rises_push places n b.ordered (λ x m. (b.each x m).1);
  each = λ x m. by x (Contains-push_cases places n x m);
  every = λ x h l. there x h (cases_up_to x n l);
}
  where
    by : (x : ℕ) → Contains places x ⊎ (n ≡ x) → IsChosen all x × (x < n + 1)
    by x (inl m) = let p = b.each x m in let l = p.1 in (p.0, omega arith)
    by x (inr e) = (subst (IsChosen all) e c, omega arith)

    there : (x : ℕ) → IsChosen all x → (x < n) ⊎ (x ≡ n) → Contains (places ++ n ∷ []) x
    there x h (inl l) = Contains-append_left places (n ∷ []) x (b.every x h l)
    there x h (inr e) = subst (Contains (places ++ n ∷ [])) (sym e) (Contains-push places n)

pub no_more : (all : List Judged) (n : ℕ) (places : List ℕ) → AreChosenBelow all n places → ¬ IsChosen all n → AreChosenBelow all (n + 1) places
no_more all n places b unchosen = record {
  ordered = b.ordered;
  each = λ x m. let p = b.each x m in let l = p.1 in (p.0, omega arith);
  every = λ x h l. there x h (cases_up_to x n l);
}
  where
    there : (x : ℕ) → IsChosen all x → (x < n) ⊎ (x ≡ n) → Contains places x
    there x h (inl l) = b.every x h l
    there x h (inr e) = absurd (unchosen (subst (IsChosen all) e h))

pub all_chosen : (all : List Judged) (n : ℕ) (places : List ℕ) → length all ≤ n → AreChosenBelow all n places → IsListOf (IsChosen all) places
all_chosen all n places l b = record {
  ordered = b.ordered;
  each = λ x m. (b.each x m).0;
  every = λ x h. b.every x h (let w = slice_get_within all x h.loop h.is in omega arith);
}

-- ---- the test at a place

pub negated : (b : Bool) → not b ≡ true → b ≡ false
negated false e = refl
negated true e = absurd (cc)

pub not_negated : (b : Bool) → not b ≡ false → b ≡ true
not_negated true e = refl
not_negated false e = absurd (cc)

pub one_choice_law : OneChoiceLaw
one_choice_law = record {
  places = λ all xs ys a b. same_list (IsChosen all) xs ys a.are b.are;
  counts = λ all m n a b. same_count (IsChosen all) m n a.count b.count;
  apart = λ all xs n a b.
      let h = b.count in
      let e = same_list (IsChosen all) xs h.members a.are h.are in
      let l = a.few in
      let m = b.many in
      let c = h.count in
      let d = ap length e in
      omega arith;
}
