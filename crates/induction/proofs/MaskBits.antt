-- Masks of registers, and the masks of the words of a loop.
use Rattle.std.proofs.Common.{◌≡◌, ◌≢◌, ℕ, suc, ◌+◌, ◌-◌, ◌*◌, ◌^◌, ◌%◌, ◌<◌, ◌≤◌, ◌⊎◌, inl, inr, min, ◌==◌, ◌&&◌, ◌||◌, Bool, true, false, if◌then◌else◌, List, [], ◌∷◌, ◌++◌, length, get_or, set, take, refl, ap, sym, ◌∙◌, subst, arith}
use Rattle.std.specs.List.{Contains}
use Rattle.std.specs.Int.{bit_at}
use Rattle.std.specs.Int.Bits.{bit_and}
use Rattle.std.specs.Int.RustNames.{bit_or}
use mir.Val.{bits}
use Rattle.std.specs.Int.{w64}
use Rattle.std.proofs.lemmas.Bool.{cases_eq}
use Rattle.std.proofs.lemmas.List.{get_or-set_same, get_or-set_other, take_more, get_or_default}
use Rattle.std.proofs.lemmas.Nat.Bits.{bit_at_and, bit_at_set_same, bit_at_set_other, bit_at-lt, bit_at_ones}
use Rattle.loop_data.specs.declared.flow.Flow.{Flow}
use Rattle.loop_data.specs.Flows.{row_at, IsWholeOrder}
use Rattle.loop_data.proofs.Tests.{ne_of, is_eq, is_ne}
use Rattle.induction.specs.Masks.{has_bit, place_writes, bit_after, all_after, mask_bit, IsMaskAt, AreMasks}

bit_min : (a b : ℕ) → a < 2 → b < 2 → (min a b == 1) ≡ ((a == 1) && (b == 1))
bit_min a b la lb = by (cases_eq a 0)
  where
    by : (a ≡ 0) ⊎ (a ≢ 0) → (min a b == 1) ≡ ((a == 1) && (b == 1))
    by (inl e) = is_ne (min a b) 1 (λ q. absurd (omega arith)) ∙ sym (ap (λ t. t && (b == 1)) (is_ne a 1 (λ q. absurd (omega arith))))
    by (inr ne) = let m : min a b ≡ b = omega arith in ap (λ n. n == 1) m ∙ sym (ap (λ t. t && (b == 1)) (is_eq a 1 (omega arith)))

-- what is in both masks
pub bit_both : (a b r : ℕ) → has_bit (bit_and a b) r ≡ (has_bit a r && has_bit b r)
bit_both a b r = ap (λ n. n == 1) (bit_at_and a b r) ∙ bit_min (bit_at a r) (bit_at b r) (bit_at-lt a r) (bit_at-lt b r)

-- a mask with one register more
pub bit_with : (m k r : ℕ) → k ≢ 0 → k < 48 → r < 48 → has_bit (bit_or m (1 * 2 ^ k % 2 ^ bits w64)) r ≡ (has_bit m r || (if r == 0 then false else k == r))
bit_with m k r ne lk lr = by (cases_eq r k)
  where
    or_true : (a : Bool) → true ≡ (a || true)
    or_true true = refl
    or_true false = refl

    or_false : (a : Bool) → a ≡ (a || false)
    or_false true = refl
    or_false false = refl

    by : (r ≡ k) ⊎ (r ≢ k) → has_bit (bit_or m (1 * 2 ^ k % 2 ^ bits w64)) r ≡ (has_bit m r || (if r == 0 then false else k == r))
    by (inl e) =
        let a : has_bit (bit_or m (1 * 2 ^ k % 2 ^ bits w64)) r ≡ true = subst (λ (q : ℕ). has_bit (bit_or m (1 * 2 ^ k % 2 ^ bits w64)) q ≡ true) (sym e) (is_eq _ 1 (bit_at_set_same w64 m k (omega arith))) in
        let b : (if r == 0 then false else k == r) ≡ true = ap (λ t. if t then false else k == r) (is_ne r 0 (λ z. ne (sym e ∙ z))) ∙ is_eq k r (sym e) in
        a ∙ or_true (has_bit m r) ∙ ap (λ t. has_bit m r || t) (sym b)
    by (inr f) =
        let a : has_bit (bit_or m (1 * 2 ^ k % 2 ^ bits w64)) r ≡ has_bit m r = ap (λ n. n == 1) (bit_at_set_other w64 m k (omega arith) r f) in
        a ∙ or_false (has_bit m r) ∙ ap (λ t. has_bit m r || t) (sym (none (r == 0)))
      where
        none : (b : Bool) → (if b then false else k == r) ≡ false
        none true = refl
        none false = is_ne k r (λ q. f (sym q))

-- x0 and what is no register adds nothing
pub bit_without : (m k r : ℕ) → (k ≡ 0) ⊎ (48 ≤ k) → r < 48 → has_bit m r ≡ (has_bit m r || (if r == 0 then false else k == r))
bit_without m k r h lr = or_false (has_bit m r) ∙ ap (λ t. has_bit m r || t) (sym (none (r == 0) refl h))
  where
    or_false : (a : Bool) → a ≡ (a || false)
    or_false true = refl
    or_false false = refl

    none : (b : Bool) → (r == 0) ≡ b → (k ≡ 0) ⊎ (48 ≤ k) → (if b then false else k == r) ≡ false
    none true e h = refl
    none false e (inl z) = is_ne k r (λ q. ne_of r 0 e (sym q ∙ z))
    none false e (inr l) = is_ne k r (λ q. absurd (omega arith))

pub all_after_more : (f : Flow) (masks ks : List ℕ) (k r : ℕ) → all_after f masks (ks ++ k ∷ []) r ≡ (all_after f masks ks r && bit_after f masks k r)
all_after_more f masks [] k r = and_true (bit_after f masks k r)
  where
    and_true : (a : Bool) → (a && true) ≡ (true && a)
    and_true true = refl
    and_true false = refl
all_after_more f masks (j ∷ ks) k r = ap (λ t. bit_after f masks j r && t) (all_after_more f masks ks k r) ∙ regroup (bit_after f masks j r) (all_after f masks ks r) (bit_after f masks k r)
  where
    regroup : (a b c : Bool) → (a && (b && c)) ≡ ((a && b) && c)
    regroup true b c = refl
    regroup false b c = refl

-- one step of the meet
pub meet_more : (f : Flow) (masks sources : List ℕ) (i old after new k : ℕ) → i < length sources → k ≡ get_or sources i 0
    → ((r : ℕ) → r < 48 → has_bit old r ≡ all_after f masks (take i sources) r) → ((r : ℕ) → r < 48 → has_bit after r ≡ bit_after f masks k r) → new ≡ bit_and old after
    → (r : ℕ) → r < 48 → has_bit new r ≡ all_after f masks (take (i + 1) sources) r
meet_more f masks sources i old after new k l is below here e r lr =
    ap (λ m. has_bit m r) e ∙ bit_both old after r ∙ ap (λ t. t && has_bit after r) (below r lr) ∙ ap (λ t. all_after f masks (take i sources) r && t) (here r lr)
    ∙ sym (all_after_more f masks (take i sources) k r) ∙ ap (λ ks. all_after f masks ks r) (ap (λ q. take i sources ++ q ∷ []) is ∙ sym (take_more sources i 0 l))

pub full_mask : (r : ℕ) → r < 48 → has_bit (2 ^ 64 - 1) r ≡ true
full_mask r l = is_eq _ 1 (bit_at_ones 64 r (omega arith))

-- a mask that is set elsewhere changes nothing after the words at other places
same_after : (f : Flow) (masks ks : List ℕ) (p m r : ℕ) → ((k : ℕ) → Contains ks k → k ≢ p) → all_after f (set masks p m) ks r ≡ all_after f masks ks r
same_after f masks [] p m r other = refl
same_after f masks (k ∷ ks) p m r other =
    let ne : k ≢ p = other k (0, omega arith, refl) in
    ap (λ n. ((bit_at n r == 1) || place_writes f k r) && all_after f (set masks p m) ks r) (get_or-set_other masks p k m 0 ne)
    ∙ ap (λ t. bit_after f masks k r && t) (same_after f masks ks p m r (λ j c. other j (suc c.0, (let l = c.1 in omega arith), c.2)))

same_mask_bit : (header : ℕ) (body : List ℕ) (f : Flow) (masks ks : List ℕ) (p m q r : ℕ) → ((k : ℕ) → Contains ks k → k ≢ p) → mask_bit header body f masks ks q r ≡ mask_bit header body f (set masks p m) ks q r
same_mask_bit header body f masks ks p m q r other = ap (λ t. if get_or body q 0 == header then false else t) (sym (same_after f masks ks p m r other))

-- the mask of the next place of the order is set
pub masks_more : (header : ℕ) (body : List ℕ) (f : Flow) (rows : List (List ℕ)) (order masks : List ℕ) (i p m : ℕ) → IsWholeOrder rows order → length rows ≡ length body → length masks ≡ length body → i < length order → p ≡ get_or order i 0
    → ((r : ℕ) → r < 48 → has_bit m r ≡ mask_bit header body f masks (row_at rows p) p r) → ((j : ℕ) → j < i → IsMaskAt header body f rows masks (get_or order j 0))
    → (j : ℕ) → j < i + 1 → IsMaskAt header body f rows (set masks p m) (get_or order j 0)
masks_more header body f rows order masks i p m o n c l is new below j lt = by (cases_eq j i)
  where
    by : (j ≡ i) ⊎ (j ≢ i) → IsMaskAt header body f rows (set masks p m) (get_or order j 0)
    by (inl e) = subst (IsMaskAt header body f rows (set masks p m)) (is ∙ ap (λ k. get_or order k 0) (sym e)) here
      where
        within : p < length masks
        within = let w = o.order.within i l in let q = is in omega arith

        other : (k : ℕ) → Contains (row_at rows p) k → k ≢ p
        other k d e =
            let a = o.order.after i k l (subst (λ q. Contains (row_at rows q) k) is d) in
            let b = a.1 in
            o.order.once a.0 i b l (a.2 ∙ e ∙ is)

        here : IsMaskAt header body f rows (set masks p m) p
        here r lr = ap (λ n. has_bit n r) (get_or-set_same masks p m 0 within) ∙ new r lr ∙ same_mask_bit header body f masks (row_at rows p) p m p r other
    by (inr ne) = λ r lr. ap (λ n. has_bit n r) (get_or-set_other masks p (get_or order j 0) m 0 apart) ∙ below j (omega arith) r lr ∙ same_mask_bit header body f masks (row_at rows (get_or order j 0)) p m (get_or order j 0) r other
      where
        apart : get_or order j 0 ≢ p
        apart e = o.order.once j i (omega arith) l (e ∙ is)

        other : (k : ℕ) → Contains (row_at rows (get_or order j 0)) k → k ≢ p
        other k d e =
            let a = o.order.after j k (omega arith) d in
            let b = a.1 in
            o.order.once a.0 i (omega arith) l (a.2 ∙ e ∙ is)

-- once all places are set, all masks are right
pub masks_all : (header : ℕ) (body : List ℕ) (f : Flow) (rows : List (List ℕ)) (order masks : List ℕ) (i : ℕ) → IsWholeOrder rows order → length rows ≡ length body → length masks ≡ length body → length order ≤ i
    → ((j : ℕ) → j < i → IsMaskAt header body f rows masks (get_or order j 0)) → AreMasks header body f rows masks
masks_all header body f rows order masks i o n c l below = record { count = c; each = each }
  where
    each : (p : ℕ) → p < length body → IsMaskAt header body f rows masks p
    each p lt =
        let d = o.every p (omega arith) in
        let b = d.1 in
        subst (IsMaskAt header body f rows masks) (get_or_default order d.0 0 p d.1 ∙ d.2) (below d.0 (omega arith))
