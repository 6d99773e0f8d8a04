-- Flags of the loops that lie in others.
use Rattle.std.proofs.Common.{◌≡◌, ◌≢◌, ℕ, zero, suc, ◌<◌, ◌≤◌, ◌+◌, ◌⊎◌, ◌↔◌, inl, inr, Bool, true, false, List, [], ◌∷◌, length, get_or, set, replicate, Option, Some, None, refl, ap, sym, ◌∙◌, subst, arith}
use Rattle.std.specs.Prelude.{slice_get}
use Rattle.std.specs.List.{Contains}
use Rattle.std.specs.List.Sorted.{IsStrictlyIncreasing}
use Rattle.std.proofs.lemmas.List.{length-set, get_or-set_same, get_or-set_other, get_or-replicate, get_or_past, length-replicate, length-map}
use Rattle.std.proofs.lemmas.Bool.{cases_lt}
use Rattle.std.proofs.lemmas.List.Kept.{AllPairs-from_increasing}
use Rattle.std.proofs.lemmas.Option.{slice_get-map, get_or_from_slice_get, slice_get_within, slice_get_read}
use Rattle.loop_data.specs.declared.verdict.Verdict.TheVariants.{Parallel}
use Rattle.loop_choice.specs.declared.judged.Judged.{Judged}
use Rattle.loop_choice.specs.Choice.{headers_of}
use Rattle.loop_choice.specs.Choosing.{IsSet, AreSetToo, IsOtherAt, IsOtherAmong, LiesInOther, AreFlags, HasHeaderAt, HasNoHeader}
use Rattle.loop_choice.proofs.Hopeless.{up_to, three}
use Rattle.loop_choice.proofs.Lists.{element_at, one_element}

-- ---- headers

-- the header of the loop at a place
pub header_at : (all : List Judged) (p : ℕ) (loop : Judged) → slice_get all p ≡ Some loop → get_or (headers_of all) p 0 ≡ loop.header
header_at all p loop e =
    get_or_from_slice_get (headers_of all) p loop.header 0
    (slice_get-map (λ (j : Judged). j.header) all p ∙ ap (λ (o : Option Judged). head o) e)
  where
    head : Option Judged → Option ℕ
    head None = None
    head (Some j) = Some j.header

pub found : (all : List Judged) (u p : ℕ) → (p < length all) × (get_or (headers_of all) p 0 ≡ u) → HasHeaderAt all u p
found all u p (l, e) =
    let x = element_at all p l in
    record { loop = x.0; is = x.1; header = sym (header_at all p x.0 x.1) ∙ e }

pub contained : (all : List Judged) (u p : ℕ) → HasHeaderAt all u p → Contains (headers_of all) u
contained all u p h =
    let l = slice_get_within all p h.loop h.is in
    let n = length-map all (λ (j : Judged). j.header) in
    let e = header_at all p h.loop h.is ∙ h.header in
    (p, omega arith, get_or_any (headers_of all) p 0 u (omega arith) e)
  where
    get_or_any : (xs : List ℕ) (k d v : ℕ) → k < length xs → get_or xs k d ≡ v → get_or xs k v ≡ v
    get_or_any [] k d v l e = absurd (omega arith)
    get_or_any (x ∷ xs) zero d v l e = e
    get_or_any (x ∷ xs) (suc k) d v l e = get_or_any xs k d v (omega arith) e

-- two places with one header are one
pub one_place : (all : List Judged) (u p q : ℕ) → IsStrictlyIncreasing (headers_of all) → HasHeaderAt all u p → HasHeaderAt all u q → p ≡ q
one_place all u p q up h k =
    let lp = slice_get_within all p h.loop h.is in
    let lq = slice_get_within all q k.loop k.is in
    let a = header_at all p h.loop h.is ∙ h.header in
    let b = header_at all q k.loop k.is ∙ k.header in
    let n = length-map all (λ (j : Judged). j.header) in
    by a b (omega arith) (omega arith) (three p q)
  where
    by : get_or (headers_of all) p 0 ≡ u → get_or (headers_of all) q 0 ≡ u → p < length (headers_of all) → q < length (headers_of all) → (p < q) ⊎ ((q < p) ⊎ (p ≡ q)) → p ≡ q
    by a b lp lq (inl l) = let c = AllPairs-from_increasing (headers_of all) up p q 0 l lq in omega arith
    by a b lp lq (inr (inl l)) = let c = AllPairs-from_increasing (headers_of all) up q p 0 l lp in omega arith
    by a b lp lq (inr (inr e)) = e

-- ---- one header

pub nothing_set : (P : ℕ → Type 0) (flags : List Bool) → ((p : ℕ) → P p → IsSet flags p) → AreSetToo P flags flags
nothing_set P flags none = record { count = refl; each = λ p e. inl e; kept = λ p e. e; every = none }

same_or_not : (p q : ℕ) → (p ≡ q) ⊎ (p ≢ q)
same_or_not p q = by (three p q)
  where
    by : (p < q) ⊎ ((q < p) ⊎ (p ≡ q)) → (p ≡ q) ⊎ (p ≢ q)
    by (inl l) = inr (λ e. let f : p ≡ q = e in omega arith)
    by (inr (inl l)) = inr (λ e. let f : p ≡ q = e in omega arith)
    by (inr (inr e)) = inl e

pub one_set : (all : List Judged) (i u place : ℕ) (old : List Bool) → IsStrictlyIncreasing (headers_of all)
    → length old ≡ length all → HasHeaderAt all u place → place ≢ i → AreSetToo (IsOtherAt all i u) old (set old place true)
one_set all i u place old up n h apart =
    record {
      count = length-set old place true;
      each = λ p e. old_or_new p e (same_or_not p place);
      kept = λ p e. still p e (same_or_not p place);
      every = λ p o. subst (IsSet (set old place true)) (one_place all u place p up h (record { loop = o.loop; is = o.is; header = o.header })) here;
    }
  where
    here : IsSet (set old place true) place
    here = let l = slice_get_within all place h.loop h.is in get_or-set_same old place true false (omega arith)

    this : IsOtherAt all i u place
    this = record { loop = h.loop; is = h.is; header = h.header; apart = λ e. apart (sym e) }

    old_or_new : (p : ℕ) → IsSet (set old place true) p → (p ≡ place) ⊎ (p ≢ place) → IsSet old p ⊎ IsOtherAt all i u p
    old_or_new p e (inl q) = inr (subst (IsOtherAt all i u) (sym q) this)
    old_or_new p e (inr q) = inl (sym (get_or-set_other old place p true false q) ∙ e)

    still : (p : ℕ) → IsSet old p → (p ≡ place) ⊎ (p ≢ place) → IsSet (set old place true) p
    still p e (inl q) = subst (IsSet (set old place true)) (sym q) here
    still p e (inr q) = get_or-set_other old place p true false q ∙ e

pub itself : (all : List Judged) (i u place : ℕ) (old : List Bool) → IsStrictlyIncreasing (headers_of all) → HasHeaderAt all u place → place ≡ i
    → AreSetToo (IsOtherAt all i u) old old
itself all i u place old up h e =
    nothing_set (IsOtherAt all i u) old (λ p o. absurd (o.apart (sym e ∙ one_place all u place p up h (record { loop = o.loop; is = o.is; header = o.header }))))

pub none_there : (all : List Judged) (i u : ℕ) (old : List Bool) → HasNoHeader all u → AreSetToo (IsOtherAt all i u) old old
none_there all i u old none =
    nothing_set (IsOtherAt all i u) old (λ p o. absurd (none p (record { loop = o.loop; is = o.is; header = o.header })))

-- ---- several headers

-- the header of another loop is one of the first words
pub record IsOtherTo (all : List Judged) (i : ℕ) (words : List ℕ) (k p : ℕ) : Type 0 where
  pub place : ℕ
  pub below : place < k
  pub other : IsOtherAt all i (get_or words place 0) p

pub none_yet : (all : List Judged) (i : ℕ) (words : List ℕ) (flags : List Bool) → AreSetToo (IsOtherTo all i words 0) flags flags
none_yet all i words flags = nothing_set (IsOtherTo all i words 0) flags (λ p o. let l = o.below in absurd (omega arith))

pub next_word : (all : List Judged) (i : ℕ) (words : List ℕ) (k u : ℕ) (first old new : List Bool) → u ≡ get_or words k 0
    → AreSetToo (IsOtherTo all i words k) first old → AreSetToo (IsOtherAt all i u) old new
    → AreSetToo (IsOtherTo all i words (k + 1)) first new
next_word all i words k u first old new at s t = record {
  count = t.count ∙ s.count;
  each = λ p e. one p (t.each p e);
  kept = λ p e. t.kept p (s.kept p e);
  every = λ p o. all_of p o (up_to (o.place) k (let l = o.below in omega arith));
}
  where
    two : (p : ℕ) → IsSet first p ⊎ IsOtherTo all i words k p → IsSet first p ⊎ IsOtherTo all i words (k + 1) p
    two p (inl e) = inl e
    two p (inr o) = inr (record { place = o.place; below = (let l = o.below in omega arith); other = o.other })

    one : (p : ℕ) → IsSet old p ⊎ IsOtherAt all i u p → IsSet first p ⊎ IsOtherTo all i words (k + 1) p
    one p (inl e) = two p (s.each p e)
    one p (inr o) = inr (record { place = k; below = omega arith; other = subst (λ v. IsOtherAt all i v p) at o })

    all_of : (p : ℕ) (o : IsOtherTo all i words (k + 1) p) → (o.place < k) ⊎ (o.place ≡ k) → IsSet new p
    all_of p o (inl l) = t.kept p (s.every p (record { place = o.place; below = l; other = o.other }))
    all_of p o (inr e) = t.every p (subst (λ v. IsOtherAt all i v p) (ap (λ m. get_or words m 0) e ∙ sym at) o.other)

pub all_words : (all : List Judged) (i : ℕ) (words : List ℕ) (k : ℕ) (first new : List Bool) → length words ≤ k → k ≤ length words
    → AreSetToo (IsOtherTo all i words k) first new → AreSetToo (IsOtherAmong all i words) first new
all_words all i words k first new l m s = record {
  count = s.count;
  each = λ p e. one p (s.each p e);
  kept = s.kept;
  every = λ p o. s.every p (back p o);
}
  where
    word : (n : ℕ) → n < length words → Contains words (get_or words n 0)
    word n b = (n, b, get_or_own words n 0 b)
      where
        get_or_own : (xs : List ℕ) (j d : ℕ) → j < length xs → get_or xs j (get_or xs j d) ≡ get_or xs j d
        get_or_own [] j d q = absurd (omega arith)
        get_or_own (x ∷ xs) zero d q = refl
        get_or_own (x ∷ xs) (suc j) d q = get_or_own xs j d (omega arith)

    one : (p : ℕ) → IsSet first p ⊎ IsOtherTo all i words k p → IsSet first p ⊎ IsOtherAmong all i words p
    one p (inl e) = inl e
    one p (inr o) = inr (record { word = get_or words o.place 0; among = word o.place (let b = o.below in omega arith); other = o.other })

    back : (p : ℕ) → IsOtherAmong all i words p → IsOtherTo all i words k p
    back p o = record { place = (o.among).0; below = (let b = (o.among).1 in omega arith); other = subst (λ v. IsOtherAt all i v p) (sym (own words (o.among).0 (o.word) (o.among).1 (o.among).2)) o.other }
      where
        own : (xs : List ℕ) (j v : ℕ) → j < length xs → get_or xs j v ≡ v → get_or xs j 0 ≡ v
        own [] j v q e = absurd (omega arith)
        own (x ∷ xs) zero v q e = e
        own (x ∷ xs) (suc j) v q e = own xs j v (omega arith) e

-- ---- all loops

pub no_flags : (all : List Judged) (flags : List Bool) → flags ≡ replicate (length all) false → AreFlags all 0 flags
no_flags all flags e =
    subst (AreFlags all 0) (sym e)
    (record { count = length-replicate (length all) false; each = λ p s. absurd (unset p s (cases_lt p (length all))); every = λ p o. let l = o.below in absurd (omega arith) })
  where
    unset : (p : ℕ) → IsSet (replicate (length all) false) p → (p < length all) ⊎ (length all ≤ p) → ⊥
    unset p s (inl l) = let f = get_or-replicate (length all) p false false l in absurd (cc)
    unset p s (inr l) =
        let n = length-replicate (length all) false in
        let f = get_or_past (replicate (length all) false) p false (omega arith) in absurd (cc)

below_or : (m k : ℕ) → m < k + 1 → (m < k) ⊎ (m ≡ k)
below_or m k l = up_to m k (omega arith)

next_at : (all : List Judged) (i : ℕ) (loop : Judged) (words : List ℕ) (old new : List Bool) → slice_get all i ≡ Some loop
    → loop.verdict ≡ Parallel → words ≡ loop.body → AreFlags all i old → AreSetToo (IsOtherAmong all i words) old new
    → AreFlags all (i + 1) new
next_at all i loop words old new at parallel is f s = record {
  count = s.count ∙ f.count;
  each = λ p e. one p (s.each p e);
  every = λ p o. by p o (below_or (o.place) i o.below);
}
  where
    one : (p : ℕ) → IsSet old p ⊎ IsOtherAmong all i words p → LiesInOther all (i + 1) p
    one p (inl e) =
        let o = f.each p e in
        record { loop = o.loop; is = o.is; place = o.place; below = (let l = o.below in omega arith); apart = o.apart; holds = o.holds }
    one p (inr o) = record {
      loop = (o.other).loop;
      is = (o.other).is;
      place = i;
      below = omega arith;
      apart = (o.other).apart;
      holds = record { loop = loop; is = at; parallel = parallel; holds = subst (λ xs. Contains xs ((o.other).loop).header) is (subst (Contains words) (sym (o.other).header) o.among) };
    }

    by : (p : ℕ) (o : LiesInOther all (i + 1) p) → (o.place < i) ⊎ (o.place ≡ i) → IsSet new p
    by p o (inl l) = s.kept p (f.every p (record { loop = o.loop; is = o.is; place = o.place; below = l; apart = o.apart; holds = o.holds }))
    by p o (inr e) =
        let same : (o.holds).loop ≡ loop = one_element all i (o.holds).loop loop (subst (λ k. slice_get all k ≡ Some (o.holds).loop) e (o.holds).is) at in
        s.every p (record {
          word = (o.loop).header;
          among = subst (λ xs. Contains xs (o.loop).header) (ap (λ (j : Judged). j.body) same ∙ sym is) (o.holds).holds;
          other = record { loop = o.loop; is = o.is; header = refl; apart = subst (λ k. k ≢ p) e o.apart };
        })

other_at : (all : List Judged) (i : ℕ) (loop : Judged) (flags : List Bool) → slice_get all i ≡ Some loop → loop.verdict ≢ Parallel
    → AreFlags all i flags → AreFlags all (i + 1) flags
other_at all i loop flags at other f = record {
  count = f.count;
  each = λ p e. let o = f.each p e in record { loop = o.loop; is = o.is; place = o.place; below = (let l = o.below in omega arith); apart = o.apart; holds = o.holds };
  every = λ p o. by p o (below_or (o.place) i o.below);
}
  where
    by : (p : ℕ) (o : LiesInOther all (i + 1) p) → (o.place < i) ⊎ (o.place ≡ i) → IsSet flags p
    by p o (inl l) = f.every p (record { loop = o.loop; is = o.is; place = o.place; below = l; apart = o.apart; holds = o.holds })
    by p o (inr e) =
        let same : (o.holds).loop ≡ loop = one_element all i (o.holds).loop loop (subst (λ k. slice_get all k ≡ Some (o.holds).loop) e (o.holds).is) at in
        absurd (other (sym (ap (λ (j : Judged). j.verdict) same) ∙ (o.holds).parallel))

pub next_loop : (all : List Judged) (i : ℕ) (loop : Judged) (words : List ℕ) (r : Bool) (old new : List Bool) → i < length all
    → loop ≡ get_or all i loop → (r ≡ true) ↔ (loop.verdict ≡ Parallel) → r ≡ true → words ≡ loop.body → AreFlags all i old
    → AreSetToo (IsOtherAmong all i words) old new → AreFlags all (i + 1) new
next_loop all i loop words r old new l at p t is f s =
    next_at all i loop words old new (slice_get_read all (length all) i loop refl l at) (p.0 t) is f s

pub other_loop : (all : List Judged) (i : ℕ) (loop : Judged) (r : Bool) (flags : List Bool) → i < length all → loop ≡ get_or all i loop
    → (r ≡ true) ↔ (loop.verdict ≡ Parallel) → r ≡ false → AreFlags all i flags → AreFlags all (i + 1) flags
other_loop all i loop r flags l at p t f =
    other_at all i loop flags (slice_get_read all (length all) i loop refl l at) (λ e. let q = p.1 e in absurd (cc)) f
