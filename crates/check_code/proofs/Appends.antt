-- The words that the pieces of the check append.
use Rattle.std.proofs.Common.{◌≡◌, ℕ, suc, ◌+◌, ◌-◌, ◌*◌, ◌<◌, ◌≤◌, refl, sym, subst, ap, ◌∙◌, arith, ℤ, pos, Bool, true, false, cond, Option, Some, None, List, [], ◌∷◌, ◌++◌, length, drop, get_or, add-one, length-drop}
use Rattle.std.specs.Prelude.{int_lt, slice_index}
use Rattle.std.proofs.Math.Seq.{drop-cons}
use Rattle.std.proofs.lemmas.List.{drop_all}
use Rattle.rv64_decode.specs.declared.instr.AluOp.TheVariants.{Add, Mul}
use Rattle.rv64_decode.specs.declared.instr.ImmOp.TheVariants.{Addiw}
use Rattle.rv64_decode.specs.declared.instr.UpperOp.TheVariants.{Lui}
use Rattle.rv64_decode.specs.declared.instr.BranchOp.TheVariants.{Blt, Bge}
use Rattle.rv64_decode.specs.declared.instr.Instr.TheVariants.{Alu, AluImm, Upper, Branch}
use Rattle.rv64_decode.specs.declared.xinstr.XInstr.{XInstr}
use Rattle.rv64_decode.specs.declared.xinstr.XInstr.TheVariants.{Base}
use Rattle.alias_checks.specs.declared.areas.Permission.{Permission}
use Rattle.alias_checks.specs.Areas.{Bounds, flags_permit}
use Rattle.std.specs.List.{All}
use Rattle.linear_forms.specs.Forms.{EntryTerm, LinearForm, form_of}
use Rattle.linear_forms.specs.declared.location.Loc.{Loc}
use Rattle.linear_forms.specs.Locations.{IsLocation, AreLocations}
use Rattle.linear_forms.proofs.Built.{location_at}
use Rattle.stub_laws.specs.Code.{Appended}
use Rattle.stub_laws.proofs.Appends.{joined, as_list, no_word}
use Rattle.check_numbers.specs.Parts.{low_part, high_part}
use Rattle.check_code.specs.Macros.{number_code, bring, product_code, sum_code, form_code, span_code, fall_code, rise_code, low_code, high_code, offset_code, address_by_code, area_code, permitted, areas_code, PassesArea}
use Rattle.check_code.proofs.Pieces.{areas_length}
use Rattle.check_code.proofs.Runs.{fewer}

pub two_words : (r : ℕ) (v hi lo : ℤ) → hi ≡ high_part v → lo ≡ low_part v → Base (Upper Lui r hi) ∷ Base (AluImm Addiw r r lo) ∷ [] ≡ number_code r v
two_words r v hi lo a b = cc

pub product_words : (a b c d : List ℕ) (r n m1 m2 m3 s : ℕ) (by : ℤ) → n ≡ 30 → m1 ≡ 31 → m2 ≡ 31 → m3 ≡ 30 → s ≡ 31 → Appended a b (number_code n by) → Appended b c (Base (Alu Mul m1 m2 m3) ∷ []) → Appended c d (Base (Alu Add r r s) ∷ []) → Appended a d (product_code r by)
product_words a b c d r n m1 m2 m3 s by e1 e2 e3 e4 e5 p q u =
    let is : number_code n by ++ (Base (Alu Mul m1 m2 m3) ∷ Base (Alu Add r r s) ∷ []) ≡ product_code r by = cc in
    as_list a d _ _ (joined a b d _ _ p (joined b c d _ _ q u)) is

-- a first word on x31, and the product
pub with_product : (a b c : List ℕ) (first : ℕ → XInstr) (r n : ℕ) (by : ℤ) → n ≡ 31 → Appended a b (first n ∷ []) → Appended b c (product_code r by) → Appended a c (first 31 ∷ product_code r by)
with_product a b c first r n by e p q = as_list a c _ _ (joined a b c _ _ p q) (ap (λ k. first k ∷ product_code r by) e)

pub fall_none : (old : List ℕ) (r : ℕ) (by : ℤ) (slot : ℕ) → int_lt by (pos 0) ≡ false → Appended old old (fall_code r by slot)
fall_none old r by slot h = rw h (no_word old)

pub rise_none : (old : List ℕ) (r : ℕ) (by : ℤ) (slot : ℕ) → int_lt (pos 0) by ≡ false → Appended old old (rise_code r by slot)
rise_none old r by slot h = rw h (no_word old)

pub fall_one : (old new : List ℕ) (r : ℕ) (by : ℤ) (slot : ℕ) → int_lt by (pos 0) ≡ true → Appended old new (span_code r by slot) → Appended old new (fall_code r by slot)
fall_one old new r by slot h p = rw h p

pub rise_one : (old new : List ℕ) (r : ℕ) (by : ℤ) (slot : ℕ) → int_lt (pos 0) by ≡ true → Appended old new (span_code r by slot) → Appended old new (rise_code r by slot)
rise_one old new r by slot h p = rw h p

pub offset_as : (a b : List ℕ) (r : ℕ) (z z' : ℤ) → Appended a b (offset_code r z) → z ≡ z' → Appended a b (offset_code r z')
offset_as a b r z z' p e = as_list a b _ _ p (ap (offset_code r) e)

pub based_words : (a b c : List ℕ) (r base : ℕ) (o : Option ℕ) (z : ℤ) → o ≡ Some base → Appended a b (bring r base ∷ []) → Appended b c (offset_code r z) → Appended a c (address_by_code r o z)
based_words a b c r base o z e p q = rw e (joined a b c _ _ p q)

pub plain_words : (a b : List ℕ) (r : ℕ) (o : Option ℕ) (z : ℤ) → o ≡ None → Appended a b (number_code r z) → Appended a b (address_by_code r o z)
plain_words a b r o z e p = rw e p

pub area_words : (a b c d e : List ℕ) (n k m1 m2 s1 s2 low end left : ℕ) (z : ℤ) → z ≡ pos (4 * suc left) → n ≡ 7 → k ≡ 7 → m1 ≡ 5 → m2 ≡ 7 → s1 ≡ 7 → s2 ≡ 6 → Appended a b (number_code n (pos low)) → Appended b c (Base (Branch Blt m1 m2 (pos 16)) ∷ []) → Appended c d (number_code k (pos end)) → Appended d e (Base (Branch Bge s1 s2 z) ∷ []) → Appended a e (area_code low end left)
area_words a b c d e n k m1 m2 s1 s2 low end left z f1 e1 e2 e3 e4 e5 e6 p q u v =
    let is : number_code n (pos low) ++ (Base (Branch Blt m1 m2 (pos 16)) ∷ (number_code k (pos end) ++ (Base (Branch Bge s1 s2 z) ∷ []))) ≡ area_code low end left = cc in
    as_list a e _ _ (joined a b e _ _ p (joined b c e _ _ q (joined c d e _ _ u v))) is

-- the areas that permit an access, area by area
one_more : (permission : Permission) (areas : List Bounds) (k : ℕ) (d : Bounds) (t : Bool) → k < length areas → flags_permit permission (get_or areas k d).2 ≡ t → permitted permission (drop k areas) ≡ cond t (get_or areas k d ∷ permitted permission (drop (k + 1) areas)) (permitted permission (drop (k + 1) areas))
one_more permission areas k d t h e =
    let one = get_or areas k d in
    let rest = drop (suc k) areas in
    ap (permitted permission) (drop-cons areas k d h)
    ∙ ap (λ b. cond b (one ∷ permitted permission rest) (permitted permission rest)) e
    ∙ ap (λ n. cond t (one ∷ permitted permission (drop n areas)) (permitted permission (drop n areas))) (sym (add-one k))

pub one_counted : (permission : Permission) (areas : List Bounds) (k : ℕ) (d : Bounds) (t : Bool) → k < length areas → flags_permit permission (get_or areas k d).2 ≡ t → length (permitted permission (drop k areas)) ≡ cond t 1 0 + length (permitted permission (drop (k + 1) areas))
one_counted permission areas k d t h e = ap length (one_more permission areas k d t h e) ∙ counted t (get_or areas k d) (permitted permission (drop (k + 1) areas))
  where
    counted : (t : Bool) (x : Bounds) (xs : List Bounds) → length (cond t (x ∷ xs) xs) ≡ cond t 1 0 + length xs
    counted true x xs = omega arith
    counted false x xs = omega arith

-- one turn of the loop over the areas
pub area_turn : (permission : Permission) (a b fin : List ℕ) (areas : List Bounds) (k left n : ℕ) (d : Bounds) → k < length areas → left ≡ length (permitted permission (drop k areas)) → PassesArea permission (get_or areas k d) left a b n
    → Appended b fin (areas_code (permitted permission (drop (k + 1) areas))) → Appended a fin (areas_code (permitted permission (drop k areas)))
area_turn permission a b fin areas k left n d h e pass next = by_flag (flags_permit permission (get_or areas k d).2) refl pass.words
  where
    by_flag : (t : Bool) → flags_permit permission (get_or areas k d).2 ≡ t → Appended a b (cond t (area_code (get_or areas k d).0 (get_or areas k d).1 (6 * (left - 1) + 1)) [])
        → Appended a fin (areas_code (permitted permission (drop k areas)))
    by_flag true f p =
        let one = get_or areas k d in
        let rest = permitted permission (drop (k + 1) areas) in
        let c = one_counted permission areas k d true h f in
        let size = areas_length rest in
        let m : 6 * (left - 1) + 1 ≡ length (areas_code rest) = omega (arith, e, c, size) in
        let whole = joined a b fin _ _ (subst (λ j. Appended a b (area_code one.0 one.1 j)) m p) next in
        subst (λ l. Appended a fin (areas_code l)) (sym (one_more permission areas k d true h f)) whole
    by_flag false f p =
        let whole = joined a b fin _ _ p next in
        subst (λ l. Appended a fin (areas_code l)) (sym (one_more permission areas k d false h f)) whole

-- how many areas are left
pub left_turn : (permission : Permission) (a b : List ℕ) (areas : List Bounds) (k left n : ℕ) (d : Bounds) → k < length areas → left ≡ length (permitted permission (drop k areas)) → PassesArea permission (get_or areas k d) left a b n → n ≡ length (permitted permission (drop (k + 1) areas))
left_turn permission a b areas k left n d h e pass = by_flag (flags_permit permission (get_or areas k d).2) refl pass.behind
  where
    by_flag : (t : Bool) → flags_permit permission (get_or areas k d).2 ≡ t → n ≡ cond t (left - 1) left → n ≡ length (permitted permission (drop (k + 1) areas))
    by_flag true f p = let c = one_counted permission areas k d true h f in omega (arith, e, c, p)
    by_flag false f p = let c = one_counted permission areas k d false h f in omega (arith, e, c, p)

pub none_left : (permission : Permission) (areas : List Bounds) (k : ℕ) → length areas ≤ k → drop k areas ≡ []
none_left permission areas k h = drop_all k areas h

pub all_located : (ts : List (Loc × ℤ)) → AreLocations ts → All (λ (t : Loc × ℤ). IsLocation t.0) ts
all_located ts h = λ k d l. location_at ts k d h l

pub number_as : (a b : List ℕ) (r : ℕ) (z z' : ℤ) → Appended a b (number_code r z) → z ≡ z' → Appended a b (number_code r z')
number_as a b r z z' p e = as_list a b _ _ p (ap (number_code r) e)

-- a form by its parts
pub form_words : (a b c : List ℕ) (r : ℕ) (f : LinearForm) (z : ℤ) (ts us : List EntryTerm) (turns : List ℤ) → form_of z ts turns ≡ f → us ≡ ts → Appended a b (number_code r z) → Appended b c (sum_code r us) → Appended a c (form_code r f)
form_words a b c r f z ts us turns e s p q = subst (λ g. Appended a c (form_code r g)) e (joined a b c _ _ p (subst (λ l. Appended b c (sum_code r l)) s q))

pub low_words : (a b c d e : List ℕ) (r : ℕ) (f : LinearForm) (z : ℤ) (ts : List EntryTerm) (turns : List ℤ) (slots : List ℕ) → form_of z ts turns ≡ f → Appended a b (form_code r f)
    → Appended b c (fall_code r (get_or turns 0 (pos 0)) (slice_index slots 0)) → Appended c d (fall_code r (get_or turns 1 (pos 0)) (slice_index slots 1)) → Appended d e (fall_code r (get_or turns 2 (pos 0)) (slice_index slots 2)) → Appended a e (low_code r f slots)
low_words a b c d e r f z ts turns slots is p q u v =
    let q' = subst (λ g. Appended b c (fall_code r g.first (slice_index slots 0))) is q in
    let u' = subst (λ g. Appended c d (fall_code r g.second (slice_index slots 1))) is u in
    let v' = subst (λ g. Appended d e (fall_code r g.third (slice_index slots 2))) is v in
    joined a b e _ _ p (joined b c e _ _ q' (joined c d e _ _ u' v'))

pub high_words : (a b c d e h : List ℕ) (r : ℕ) (f : LinearForm) (z : ℤ) (ts : List EntryTerm) (turns : List ℤ) (slots : List ℕ) (size : ℤ) (n : ℕ) → form_of z ts turns ≡ f → size ≡ pos n → Appended a b (form_code r f)
    → Appended b c (rise_code r (get_or turns 0 (pos 0)) (slice_index slots 0)) → Appended c d (rise_code r (get_or turns 1 (pos 0)) (slice_index slots 1)) → Appended d e (rise_code r (get_or turns 2 (pos 0)) (slice_index slots 2)) → Appended e h (offset_code r size) → Appended a h (high_code r f slots n)
high_words a b c d e h r f z ts turns slots size n is same p q u v x =
    let q' = subst (λ g. Appended b c (rise_code r g.first (slice_index slots 0))) is q in
    let u' = subst (λ g. Appended c d (rise_code r g.second (slice_index slots 1))) is u in
    let v' = subst (λ g. Appended d e (rise_code r g.third (slice_index slots 2))) is v in
    joined a b h _ _ p (joined b c h _ _ q' (joined c d h _ _ u' (joined d e h _ _ v' (offset_as e h r size (pos n) x same))))

pub passes_none : (permission : Permission) (b : Bounds) (left : ℕ) (old : List ℕ) → flags_permit permission b.2 ≡ false → PassesArea permission b left old old left
passes_none permission b left old h = record { words = rw h (no_word old); behind = rw h refl }

pub few_left : (permission : Permission) (areas : List Bounds) (k left : ℕ) → left ≡ length (permitted permission (drop k areas)) → length areas ≤ 128 → left ≤ 128
few_left permission areas k left e h = let f = fewer permission (drop k areas) in let d = length-drop k areas in omega (arith, e, f, d, h)

pub some_left : (permission : Permission) (areas : List Bounds) (k left : ℕ) (d : Bounds) → k < length areas → left ≡ length (permitted permission (drop k areas)) → flags_permit permission (get_or areas k d).2 ≡ true → 1 ≤ left
some_left permission areas k left d h e f = let c = one_counted permission areas k d true h f in omega (arith, e, c)
