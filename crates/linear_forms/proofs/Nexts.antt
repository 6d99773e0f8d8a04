-- The first term of the sum of two lists, case by case.
use Rattle.std.proofs.Common.{◌≡◌, ℕ, zero, suc, ◌<◌, List, [], ◌∷◌, length, true, sym, ◌∙◌, arith, slice_index_or, ℤ, ◌+ℤ◌}
use Rattle.linear_forms.specs.declared.location.Loc.{Loc}
use Rattle.linear_forms.specs.Forms.{is_small, merged, AreFrom}
use Rattle.linear_forms.specs.Locations.{number_of, term_of, terms_of, AreFormTerms}
use Rattle.linear_forms.specs.Merging.{IsNext}
use Rattle.linear_forms.proofs.Ranges.{fits_small, fits_sum}
use Rattle.linear_forms.proofs.Merges.{kept, AreFrom-weaker, merged-first, merged-second, merged-both, are_limited-tail}

-- what is left of a list in order is in order
pub tail : (t : Loc × ℤ) (ts : List (Loc × ℤ)) → AreFormTerms (t ∷ ts) → AreFormTerms ts
tail t ts h =
    record {
      locations = h.locations.1;
      terms = record { ordered = AreFrom-weaker 1 (suc (number_of t.0)) (terms_of ts) (omega arith) h.terms.ordered.3; limited = (are_limited-tail (term_of t) (terms_of ts) h.terms.limited).1 };
    }

pub small_at : (ts : List (Loc × ℤ)) (i : ℕ) (d : Loc × ℤ) → AreFormTerms ts → i < length ts → is_small (slice_index_or ts i d).1 ≡ true
small_at [] i d h l = absurd (omega arith)
small_at (t ∷ ts) zero d h l = (are_limited-tail (term_of t) (terms_of ts) h.terms.limited).0
small_at (t ∷ ts) (suc i) d h l = small_at ts i d (tail t ts h) (omega arith)

pub next_first : (ts us : List (Loc × ℤ)) (d : Loc × ℤ) → AreFormTerms ts → AreFormTerms us → 0 < length ts
    → (0 < length us → number_of (slice_index_or ts 0 d).0 < number_of (slice_index_or us 0 d).0)
    → IsNext ts us (record { term = slice_index_or ts 0 d; first = 1; second = 0 })
next_first [] us d h k l m = absurd (omega arith)
next_first (t ∷ ts) us d h k l m =
    record {
      within = omega arith;
      within_second = omega arith;
      some = omega arith;
      location = h.locations.0;
      fits = fits_small t.1 (are_limited-tail (term_of t) (terms_of ts) h.terms.limited).0;
      sum = merged-first (term_of t) (terms_of ts) (terms_of us) 1 h.terms.ordered (later us k m) ∙ sym (kept (term_of t) (merged (terms_of ts) (terms_of us)) h.terms.ordered.2);
    }
  where
    later : (us : List (Loc × ℤ)) → AreFormTerms us → (0 < length us → number_of t.0 < number_of (slice_index_or us 0 d).0) → AreFrom (suc (number_of t.0)) (terms_of us)
    later [] k m = tt
    later (u ∷ us) k m = let o = k.terms.ordered in let n = m (omega arith) in (omega arith, o.1, o.2, o.3)

pub next_second : (ts us : List (Loc × ℤ)) (d : Loc × ℤ) → AreFormTerms ts → AreFormTerms us → 0 < length us
    → (0 < length ts → number_of (slice_index_or us 0 d).0 < number_of (slice_index_or ts 0 d).0)
    → IsNext ts us (record { term = slice_index_or us 0 d; first = 0; second = 1 })
next_second ts [] d h k l m = absurd (omega arith)
next_second ts (u ∷ us) d h k l m =
    record {
      within = omega arith;
      within_second = omega arith;
      some = omega arith;
      location = k.locations.0;
      fits = fits_small u.1 (are_limited-tail (term_of u) (terms_of us) k.terms.limited).0;
      sum = merged-second (term_of u) (terms_of ts) (terms_of us) (later ts h m) ∙ sym (kept (term_of u) (merged (terms_of ts) (terms_of us)) k.terms.ordered.2);
    }
  where
    later : (ts : List (Loc × ℤ)) → AreFormTerms ts → (0 < length ts → number_of u.0 < number_of (slice_index_or ts 0 d).0) → AreFrom (suc (number_of u.0)) (terms_of ts)
    later [] h m = tt
    later (t ∷ ts) h m = let o = h.terms.ordered in let n = m (omega arith) in (omega arith, o.1, o.2, o.3)

pub next_both : (ts us : List (Loc × ℤ)) (d : Loc × ℤ) → AreFormTerms ts → AreFormTerms us → 0 < length ts → 0 < length us
    → number_of (slice_index_or ts 0 d).0 ≡ number_of (slice_index_or us 0 d).0
    → IsNext ts us (record { term = ((slice_index_or ts 0 d).0, (slice_index_or ts 0 d).1 +ℤ (slice_index_or us 0 d).1); first = 1; second = 1 })
next_both [] us d h k l m e = absurd (omega arith)
next_both (t ∷ ts) [] d h k l m e = absurd (omega arith)
next_both (t ∷ ts) (u ∷ us) d h k l m e =
    record {
      within = omega arith;
      within_second = omega arith;
      some = omega arith;
      location = h.locations.0;
      fits = fits_sum t.1 u.1 (are_limited-tail (term_of t) (terms_of ts) h.terms.limited).0 (are_limited-tail (term_of u) (terms_of us) k.terms.limited).0;
      sum = merged-both (term_of t) (term_of u) (terms_of ts) (terms_of us) 1 e h.terms.ordered;
    }
