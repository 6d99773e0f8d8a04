-- Words in address order: those before a word stand before it.
use Rattle.std.proofs.Common.{◌≡◌, ℕ, ◌+◌, ◌-◌, ◌<◌, ◌≤◌, ◌⊎◌, inl, inr, None, List, length, get_or, map, take, ap, sym, subst, ◌∙◌, arith}
use Rattle.std.specs.List.{AllPairs}
use Rattle.std.specs.List.Sorted.{IsStrictlyIncreasing}
use Rattle.std.proofs.lemmas.Bool.{cases_lt}
use Rattle.std.proofs.lemmas.List.{get_or-map, length-map, get_or-take, length-take-le, get_or_default}
use Rattle.std.proofs.lemmas.List.Kept.{AllPairs-from_increasing}
use Rattle.stack_slots.specs.declared.words.BodyWord.{BodyWord}
use Rattle.stack_slots.proofs.Members.{Member, to_member, from_member}

pub rises : (ws : List BodyWord) → IsStrictlyIncreasing (map (λ (w : BodyWord). w.at) ws) → AllPairs (λ (x y : BodyWord). x.at < y.at) ws
rises ws up i j d lt within =
    let n = length-map ws (λ (w : BodyWord). w.at) in
    let p = AllPairs-from_increasing (map (λ (w : BodyWord). w.at) ws) up i j 0 lt (omega arith) in
    let a = get_or-map (λ (w : BodyWord). w.at) ws i d 0 (omega arith) in
    let b = get_or-map (λ (w : BodyWord). w.at) ws j d 0 within in
    omega arith

module _ (ws : List BodyWord) (up : IsStrictlyIncreasing (map (λ (w : BodyWord). w.at) ws)) (i : ℕ) (w : BodyWord) (l : i < length ws) (is : w ≡ get_or ws i w) where
  -- a word of a lower address stands before it
  pub member_before : (f : BodyWord) → Member ws f → f.at < w.at → Member (take i ws) f
  member_before f m lt = by (from_member ws f m)
    where
      by : (k : ℕ) × (k < length ws) × (get_or ws k f ≡ f) → Member (take i ws) f
      by (k, inside, e) = go (cases_lt k i)
        where
          go : (k < i) ⊎ (i ≤ k) → Member (take i ws) f
          go (inl before) =
              let n = length-take-le i ws (omega arith) in
              to_member (take i ws) f (k, omega arith, get_or-take i ws k f before ∙ e)
          go (inr behind) = absurd (no (cases_lt i k))
            where
              no : (i < k) ⊎ (k ≤ i) → ⊥
              no (inl above) =
                  let r = rises ws up i k w above inside in
                  let a = ap (λ (x : BodyWord). x.at) is in
                  let b = ap (λ (x : BodyWord). x.at) (get_or_default ws k w f inside ∙ e) in
                  omega arith
              no (inr below) =
                  let same : k ≡ i = omega arith in
                  let a = ap (λ (x : BodyWord). x.at) is in
                  let b = ap (λ (x : BodyWord). x.at) (ap (λ n. get_or ws n w) (sym same) ∙ get_or_default ws k w f inside ∙ e) in
                  omega arith

  -- one that stands before it has a lower address
  pub before_below : (f : BodyWord) → Member (take i ws) f → (f.at < w.at) × Member ws f
  before_below f m = by (from_member (take i ws) f m)
    where
      n : length (take i ws) ≡ i
      n = length-take-le i ws (omega arith)

      by : (k : ℕ) × (k < length (take i ws)) × (get_or (take i ws) k f ≡ f) → (f.at < w.at) × Member ws f
      by (k, inside, e) =
          let m = n in
          let q = sym (get_or-take i ws k f (omega arith)) ∙ e in
          let r = rises ws up k i f (omega arith) l in
          let a = ap (λ (x : BodyWord). x.at) q in
          let b = ap (λ (x : BodyWord). x.at) (is ∙ get_or_default ws i w f l) in
          (omega arith, to_member ws f (k, omega arith, q))

-- the first n words rise
abbrev pub Rising : List BodyWord → ℕ → Type 0
Rising ws n = (k : ℕ) (d : BodyWord) → k + 1 < n → (get_or ws k d).at < (get_or ws (k + 1) d).at

pub rising_more : (ws : List BodyWord) (n : ℕ) → Rising ws n → ((d : BodyWord) → (get_or ws (n - 1) d).at < (get_or ws n d).at) → Rising ws (n + 1)
rising_more ws n before last k d lt = by (cases_lt (k + 1) n)
  where
    by : (k + 1 < n) ⊎ (n ≤ k + 1) → (get_or ws k d).at < (get_or ws (k + 1) d).at
    by (inl l) = before k d l
    by (inr l) =
        let e : n ≡ k + 1 = omega arith in
        let f : n - 1 ≡ k = omega arith in
        subst (λ j. (get_or ws j d).at < (get_or ws (k + 1) d).at) f (subst (λ j. (get_or ws (n - 1) d).at < (get_or ws j d).at) e (last d))

pub rising_all : (ws : List BodyWord) (n : ℕ) → Rising ws n → length ws ≤ n → IsStrictlyIncreasing (map (λ (w : BodyWord). w.at) ws)
rising_all ws n all l k within =
    let d : BodyWord = record { at = 0; instr = None; touch = None } in
    let m = length-map ws (λ (w : BodyWord). w.at) in
    let a = get_or-map (λ (w : BodyWord). w.at) ws k d 0 (omega arith) in
    let b = get_or-map (λ (w : BodyWord). w.at) ws (k + 1) d 0 (omega arith) in
    let c = all k d (omega arith) in
    omega arith
