-- The words that the lists of a check append.
use Rattle.std.proofs.Common.{◌≡◌, ℕ, zero, suc, ◌+◌, ◌-◌, ◌<◌, ◌≤◌, refl, sym, subst, ap, ◌∙◌, ⊎_elim, arith, List, [], ◌∷◌, ◌++◌, length, length-drop, take, drop, get_or, add-one, Some}
use Rattle.std.specs.Prelude.{flat_map, slice_get}
use Rattle.std.specs.List.{All}
use Rattle.std.proofs.lemmas.Bool.{cases_lt}
use Rattle.std.proofs.lemmas.List.{drop_all}
use Rattle.std.proofs.Math.Seq.{drop-cons}
use Rattle.rv64_decode.specs.declared.xinstr.XInstr.{XInstr}
use Rattle.loop_data.specs.declared.trips.Trip.{Trip}
use Rattle.loop_data.specs.declared.verdict.Cell.{Cell}
use Rattle.alias_checks.specs.Areas.{Bounds}
use Rattle.stub_laws.specs.Code.{Appended, readings, somes}
use Rattle.loop_data.specs.declared.accesses.Access.{Access}
use Rattle.alias_checks.specs.Listing.{Pair, IsPair}
use Rattle.dependence_tests.specs.Terms.{IsTermOf}
use Rattle.check_code.specs.PairCode.{pair_code}
use Rattle.check_code.proofs.Whole.{pair_taken}
use Rattle.stub_laws.proofs.Appends.{joined, as_list, one_turn, last_turn, no_word, fresh}
use Rattle.linear_forms.specs.Forms.{IsForm}
use Rattle.loop_data.specs.declared.equations.Duty.{Duty}
use Rattle.alias_checks.specs.declared.lists.Check.{Check}
use Rattle.check_code.specs.TurnCode.{root_code, inner_code}
use Rattle.check_code.specs.DutyCode.{duty_code}
use Rattle.check_code.specs.AccessCode.{access_code}
use Rattle.check_code.specs.Checkable.{KeepsLimits}
use Rattle.check_code.specs.CellCode.{cell_code, clear_code}
use Rattle.check_code.specs.CheckCode.{cells_code, all_clear_code, inners_code, trips_code, all_keep_off_code, pair_of_code, pair_at_code, check_code}

-- a turn of a loop over a list
pub map_turn : {X : Type 0} (code : X → List XInstr) (a b fin : List ℕ) (xs : List X) (k : ℕ) (d : X) → k < length xs → Appended a b
    (code (get_or xs k d)) → Appended b fin (flat_map code (drop (k + 1) xs)) → Appended a fin (flat_map code (drop k xs))
map_turn code a b fin xs k d h p q = one_turn (λ x rest. code x) (flat_map code) (λ x rest. refl) a b fin xs k d h p q

-- the same of an element that was read
pub map_item : {X : Type 0} (code : X → List XInstr) (a b fin : List ℕ) (xs : List X) (k : ℕ) (x : X) → k < length xs → x ≡ get_or xs k x
    → Appended a b (code x) → Appended b fin (flat_map code (drop (k + 1) xs)) → Appended a fin (flat_map code (drop k xs))
map_item code a b fin xs k x h e p q = map_turn code a b fin xs k x h (subst (λ y. Appended a b (code y)) e p) q

pub map_end : {X : Type 0} (code : X → List XInstr) (a : List ℕ) (xs : List X) (k : ℕ) → length xs ≤ k → Appended a a
    (flat_map code (drop k xs))
map_end code a xs k h = last_turn (flat_map code) [] refl a a xs k h (no_word a)

-- the list of which each element has a place
pub cells_turn : (areas : List Bounds) (a b fin : List ℕ) (cs : List Cell) (k : ℕ) (d : Cell) → k < length cs → Appended a b
    (cell_code areas k (get_or cs k d)) → Appended b fin (cells_code areas (k + 1) (drop (k + 1) cs)) → Appended a fin
    (cells_code areas k (drop k cs))
cells_turn areas a b fin cs k d h p q =
    let q' : Appended b fin (cells_code areas (suc k) (drop (suc k) cs)) = subst (λ n. Appended b fin (cells_code areas n (drop n cs)))
    (add-one k) q in
    subst (λ l. Appended a fin (cells_code areas k l)) (sym (drop-cons cs k d h)) (joined a b fin _ _ p q')

pub cells_end : (areas : List Bounds) (a : List ℕ) (cs : List Cell) (k : ℕ) → length cs ≤ k → Appended a a (cells_code areas k (drop k cs))
cells_end areas a cs k h = subst (λ l. Appended a a (cells_code areas k l)) (sym (drop_all k cs h)) (no_word a)

take_whole : {X : Type 0} (xs : List X) (n : ℕ) → n ≡ length xs → take n xs ≡ xs
take_whole [] zero e = refl
take_whole [] (suc n) e = cc
take_whole (x ∷ xs) zero e = cc
take_whole (x ∷ xs) (suc n) e = ap (λ l. x ∷ l) (take_whole xs n (omega (arith, e)))

pub clear_turn : (a b fin : List ℕ) (cs : List Cell) (k : ℕ) (d : Cell) → k < length cs → Appended a b
    (flat_map (clear_code (get_or cs k d)) (take (length cs - (k + 1)) (drop (k + 1) cs))) → Appended b fin
    (all_clear_code (drop (k + 1) cs)) → Appended a fin (all_clear_code (drop k cs))
clear_turn a b fin cs k d h p q =
    let e = take_whole (drop (k + 1) cs) (length cs - (k + 1)) (sym (length-drop (k + 1) cs)) in
    let p' : Appended a b (flat_map (clear_code (get_or cs k d)) (drop (suc k) cs)) = subst
    (λ l. Appended a b (flat_map (clear_code (get_or cs k d)) l)) (e ∙ ap (λ n. drop n cs) (add-one k)) p in
    one_turn (λ c ds. flat_map (clear_code c) ds) all_clear_code (λ c ds. refl) a b fin cs k d h p' q

pub clear_end : (a : List ℕ) (cs : List Cell) (k : ℕ) → length cs ≤ k → Appended a a (all_clear_code (drop k cs))
clear_end a cs k h = last_turn all_clear_code [] refl a a cs k h (no_word a)

pub inners_turn : (a b fin : List ℕ) (ts : List Trip) (k : ℕ) (d : Trip) → k < length ts → d ≡ get_or ts k d → Appended a b
    (inner_code (24 + k) d) → Appended b fin (inners_code (24 + (k + 1)) (drop (k + 1) ts)) → Appended a fin
    (inners_code (24 + k) (drop k ts))
inners_turn a b fin ts k d h e p q =
    let n : 24 + (k + 1) ≡ suc (24 + k) = omega arith in
    let q' : Appended b fin (inners_code (suc (24 + k)) (drop (suc k) ts)) = subst (λ m. Appended b fin (inners_code m (drop (suc k) ts)))
    n (subst (λ m. Appended b fin (inners_code (24 + (k + 1)) (drop m ts))) (add-one k) q) in
    subst (λ l. Appended a fin (inners_code (24 + k) l)) (sym (drop-cons ts k d h))
    (joined a b fin _ _ (subst (λ y. Appended a b (inner_code (24 + k) y)) e p) q')

pub inners_end : (a : List ℕ) (ts : List Trip) (k : ℕ) → length ts ≤ k → Appended a a (inners_code (24 + k) (drop k ts))
inners_end a ts k h = subst (λ l. Appended a a (inners_code (24 + k) l)) (sym (drop_all k ts h)) (no_word a)

-- what holds of the first elements of a list
abbrev pub UpTo : {X : Type 0} → (X → Type 0) → ℕ → List X → Type 0
UpTo {X} P k xs = (j : ℕ) → j < k → j < length xs → (d : X) → P (get_or xs j d)

pub none_yet : {X : Type 0} (P : X → Type 0) (xs : List X) → UpTo P 0 xs
none_yet P xs j h l d = absurd (omega (arith, h))

pub one_further : {X : Type 0} (P : X → Type 0) (xs : List X) (k : ℕ) (e : X) → k < length xs → UpTo P k xs → P (get_or xs k e) → UpTo P
    (k + 1) xs
one_further {X = X} P xs k e here up p j h l d =
    ⊎_elim (λ lt. up j lt l d) (λ le. let q : j ≡ k = omega (arith, h, le) in subst (λ n. P (get_or xs n d)) (sym q)
    (same_at xs k e d here p)) (cases_lt j k)
  where
    same_at : (ys : List X) (i : ℕ) (a b : X) → i < length ys → P (get_or ys i a) → P (get_or ys i b)
    same_at [] i a b h p = absurd (omega (arith, h))
    same_at (y ∷ ys) zero a b h p = p
    same_at (y ∷ ys) (suc i) a b h p = same_at ys i a b (omega (arith, h)) p

pub item_further : {X : Type 0} (P : X → Type 0) (xs : List X) (k : ℕ) (x : X) → k < length xs → UpTo P k xs → x ≡ get_or xs k x → P x →
    UpTo P (k + 1) xs
item_further P xs k x here up e p = one_further P xs k x here up (subst P e p)

pub all_of : {X : Type 0} (P : X → Type 0) (xs : List X) (k : ℕ) → length xs ≤ k → UpTo P k xs → All P xs
all_of P xs k h up j d l = up j (omega (arith, h, l)) l d

-- the pair at two places
pub pair_words : (a b : List ℕ) (xs : List Access) (t : Pair) (d e : Access) → t.0 < length xs → t.1 < length xs → d ≡ get_or xs t.0 d → e
    ≡ get_or xs t.1 e → Appended a b (pair_code d e t.2) → Appended a b (pair_at_code xs t)
pair_words a b xs t d e h k x y p =
    as_list a b _ _ p (ap (λ z. pair_code z e t.2) x ∙ ap (λ z. pair_code (get_or xs t.0 d) z t.2) y ∙ sym
    (ap (λ o. pair_of_code o (slice_get xs t.1) t.2) (pair_taken xs t.0 d h) ∙ ap (λ o. pair_of_code (Some (get_or xs t.0 d)) o t.2)
    (pair_taken xs t.1 e k)))

-- the words of the whole
pub seven_parts : (a b c d e f g h : List ℕ) (x y z u v w k : List XInstr) → a ≡ [] → Appended a b x → Appended b c y → Appended c d z →
    Appended d e u → Appended e f v → Appended f g w → Appended g h k → readings h ≡ somes (x ++ (y ++ (z ++ (u ++ (v ++ (w ++ k))))))
seven_parts a b c d e f g h x y z u v w k none p q r s t o n =
    fresh a h (x ++ (y ++ (z ++ (u ++ (v ++ (w ++ k)))))) none
    (joined a b h x _ p (joined b c h y _ q (joined c d h z _ r (joined d e h u _ s (joined e f h v _ t (joined f g h w k o n))))))

other_default : (xs : List Access) (i : ℕ) (d e : Access) → i < length xs → get_or xs i d ≡ get_or xs i e
other_default [] i d e h = absurd (omega (arith, h))
other_default (x ∷ xs) zero d e h = refl
other_default (x ∷ xs) (suc i) d e h = other_default xs i d e (omega (arith, h))

pub pair_term : (xs : List Access) (t : Pair) (d e : Access) → IsPair xs t → d ≡ get_or xs t.0 d → e ≡ get_or xs t.1 e → IsTermOf d e t.2
pair_term xs t d e h x y =
    let z : get_or xs t.1 d ≡ e = other_default xs t.1 d e h.second ∙ sym y in
    subst (λ u. IsTermOf u e t.2) (sym x) (subst (λ u. IsTermOf (get_or xs t.0 d) u t.2) z (h.term d))

pub trips_words : (a b d : List ℕ) (ts : List Trip) (x : Trip) → 0 < length ts → x ≡ get_or ts 0 x → Appended a b (root_code x) → Appended
    b d (inners_code 24 (take (length ts - 1) (drop 1 ts))) → Appended a d (trips_code ts)
trips_words a b d [] x h e p q = absurd (omega (arith, h))
trips_words a b d (t ∷ ts) x h e p q =
    (joined a b d (root_code t) (inners_code 24 ts) (subst (λ y. Appended a b (root_code y)) e p)
    (subst (λ l. Appended b d (inners_code 24 l)) (take_whole ts (length (t ∷ ts) - 1) (omega arith)) q))

-- the parts of a check, by its lists
abbrev pub parts_code : List Bounds → List Cell → List Trip → List Duty → List Access → List Pair → List XInstr
parts_code areas cells trips duties accesses pairs =
    cells_code areas 0 cells ++ (all_clear_code cells ++
    (trips_code trips ++ (flat_map duty_code duties ++
    (flat_map (access_code areas) accesses ++ (all_keep_off_code cells accesses ++ flat_map (pair_at_code accesses) pairs)))))

pub check_words : (c : Check) (words : List ℕ) (areas : List Bounds) (cells : List Cell) (trips : List Trip) (duties : List Duty)
    (accesses : List Access) (pairs : List Pair)
    → areas ≡ c.areas → cells ≡ c.cells.list.items → trips ≡ c.trips → duties ≡ c.duties → accesses ≡ c.accesses.list.items → pairs ≡
    c.pairs
    → readings words ≡ somes (parts_code areas cells trips duties accesses pairs) → readings words ≡ somes (check_code c)
check_words c words areas cells trips duties accesses pairs e1 e2 e3 e4 e5 e6 h =
    h ∙ ap (λ x. somes (parts_code x cells trips duties accesses pairs)) e1 ∙ ap
    (λ x. somes (parts_code c.areas x trips duties accesses pairs)) e2
    ∙ ap (λ x. somes (parts_code c.areas c.cells.list.items x duties accesses pairs)) e3 ∙ ap
    (λ x. somes (parts_code c.areas c.cells.list.items c.trips x accesses pairs)) e4
    ∙ ap (λ x. somes (parts_code c.areas c.cells.list.items c.trips c.duties x pairs)) e5 ∙ ap
    (λ x. somes (parts_code c.areas c.cells.list.items c.trips c.duties c.accesses.list.items x)) e6

pub check_kept : (c : Check) (cells : List Cell) (trips : List Trip) (duties : List Duty) (accesses : List Access) → cells ≡
    c.cells.list.items → trips ≡ c.trips → duties ≡ c.duties → accesses ≡ c.accesses.list.items
    → length cells ≤ 16 → length accesses ≤ 32 → All (λ (t : Trip). IsForm t.start) trips → All (λ (t : Trip). IsForm t.bound) trips → All
    (λ (d : Duty). IsForm d.form) duties → All (λ (a : Access). IsForm a.form) accesses → KeepsLimits c
check_kept c cells trips duties accesses e0 e1 e2 e3 few fewer s b d a = record {
  few_cells = subst (λ (l : List Cell). length l ≤ 16) e0 few;
  few_accesses = subst (λ (l : List Access). length l ≤ 32) e3 fewer;
  starts = subst (All (λ (t : Trip). IsForm t.start)) e1 s;
  bounds = subst (All (λ (t : Trip). IsForm t.bound)) e1 b;
  duties = subst (All (λ (d : Duty). IsForm d.form)) e2 d;
  accesses = subst (All (λ (a : Access). IsForm a.form)) e3 a;
}
