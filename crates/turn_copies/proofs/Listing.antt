-- The copies of a body's words, one after the other.
use Rattle.std.proofs.Common.{◌≡◌, ◌≢◌, ℕ, zero, suc, ◌+◌, ◌%◌, ◌<◌, ◌≤◌, refl, sym, subst, ap, ◌∙◌, arith, Option, Some, None, Bool, true, false, List, [], ◌∷◌, ◌++◌, length, get_or, if◌then◌else◌}
use Rattle.std.specs.Prelude.{◌==◌, ◌&&◌, slice_get}
use Rattle.std.specs.List.{AllPairs}
use Rattle.std.proofs.lemmas.List.Kept.{AllPairs-from_increasing}
use Rattle.std.proofs.lemmas.List.{length-append}
use Rattle.rv64_decode.specs.Hart.{read_by}
use Rattle.rv64_decode.specs.Row.{next_pc, plus_offset}
use Rattle.rv64_decode.specs.XTable.{decoded_x}
use Rattle.rv64_decode.specs.declared.instr.LoadOp.TheVariants.{Lw}
use Rattle.rv64_decode.specs.declared.instr.UpperOp.TheVariants.{Auipc}
use Rattle.rv64_decode.specs.declared.instr.Instr.{Instr}
use Rattle.rv64_decode.specs.declared.instr.Instr.TheVariants.{Alu, AluImm, Upper, Load, Store, Branch, Jal, Jalr, Fence, Ecall, Ebreak}
use Rattle.rv64_decode.specs.declared.xinstr.XInstr.{XInstr}
use Rattle.loop_data.specs.declared.shape.Level.{Level}
use Rattle.loop_data.specs.LoopCode.{LoopCode}
use Rattle.loop_data.specs.LoopWords.{IsPlainInstr, next_words}
use Rattle.loop_data.specs.Nests.{has, Holds}
use Rattle.loop_data.proofs.Tests.{eq_of, ne_of, is_eq, is_ne}
use Rattle.stub_laws.specs.Code.{readings, somes}
use Rattle.stub_laws.specs.Places.{behind}
use Rattle.stub_laws.proofs.Places.{fetched_at}
use Rattle.stub_laws.proofs.Steps.{behind_hop, hop_is}
use Rattle.turn_copies.specs.Copies.{Placed, Placing, Kind, Leaving, OfCell, Plain, kind_by, kind_of, word_code, falls_through, back_code, copy_of, copy_code, goes_on_by, goes_on, jump_to, word_size, back_size, size_of, copy_size, place_in, end_in, in_order, copies_code}
use Rattle.turn_copies.specs.Listing.{PlacedLaw, BodyLaw, SizeLaw}
use Rattle.turn_copies.proofs.Following.{placed_front, placed_back}

-- ---- words where they stand

head_same : (x : Option XInstr) (i : XInstr) (xs ys : List (Option XInstr)) → x ∷ xs ≡ Some i ∷ ys → (x ≡ Some i) × (xs ≡ ys)
head_same x i xs ys e = let a : x ≡ Some i = cc in let b : xs ≡ ys = cc in (a, b)

pub placed_law : PlacedLaw
unfolding readings somes
placed_law code [] p [] r here = tt
placed_law code [] p (i ∷ is) r here = cc
placed_law code (x ∷ words) p [] r here = tt
placed_law code (x ∷ words) p (i ∷ is) r here =
    let h = head_same (decoded_x x) i (readings words) (somes is) r in
    let e : p + 0 ≡ p = omega arith in
    let at : slice_get code p ≡ Some x = subst (λ n. slice_get code n ≡ Some x) e (here 0 (omega arith)) in
    (fetched_at code p ∙ ap read_by at ∙ h.0, placed_law code words (suc p) is h.1 (λ j lt. later j lt))
  where
    later : (j : ℕ) → j < length words → slice_get code (suc p + j) ≡ Some (get_or words j 0)
    later j lt = let e : p + suc j ≡ suc p + j = omega arith in subst (λ n. slice_get code n ≡ Some (get_or words j 0)) e (here (suc j) (omega arith))

-- ---- how many words a copy has

word_long : (l : Level) (c : Placing) (u : ℕ) (kind : Kind) (i : Instr) → length (word_code l c u kind i) ≡ word_size kind i
word_long l c u Leaving i = refl
word_long l c u (OfCell k) (Load Lw rd rs1 imm) = refl
word_long l c u (OfCell k) (Load op rd rs1 imm) = refl
word_long l c u (OfCell k) (Store op rs1 rs2 imm) = refl
word_long l c u (OfCell k) i = refl
word_long l c u Plain (Upper Auipc rd imm) = refl
word_long l c u Plain i = refl

back_long : (l : Level) (c : Placing) (p u : ℕ) (i : Instr) → length (back_code l c p u i) ≡ back_size l u i
back_long l c p u i = go (falls_through i && (next_pc u == l.header))
  where
    go : (b : Bool) → length (if b then jump_to c.next p ∷ [] else []) ≡ (if b then 1 else 0)
    go true = refl
    go false = refl

size_is : (l : Level) (c : Placing) (u : ℕ) (kind : Kind) (o : Option Instr) → length (copy_of l c u kind o) ≡ size_of l u kind o
size_is l c u kind None = refl
size_is l c u kind (Some i) =
    length-append (word_code l c u kind i) (back_code l c (behind (c.place u) (word_code l c u kind i)) u i)
    ∙ ap (λ n. n + length (back_code l c (behind (c.place u) (word_code l c u kind i)) u i)) (word_long l c u kind i) ∙ ap (λ n. word_size kind i + n) (back_long l c (behind (c.place u) (word_code l c u kind i)) u i)

copy_long : (l : Level) (B : LoopCode) (c : Placing) (u : ℕ) → length (copy_code l B c u) ≡ copy_size l B u
copy_long l B c u = size_is l c u (kind_of l B u) (B.instr u)

behind_copy : (l : Level) (B : LoopCode) (c : Placing) (u q : ℕ) → behind q (copy_code l B c u) ≡ q + copy_size l B u
behind_copy l B c u q = behind_hop q (copy_code l B c u) ∙ hop_is (length (copy_code l B c u)) q ∙ ap (λ n. q + n) (copy_long l B c u)

copies_end : (l : Level) (B : LoopCode) (c : Placing) (us : List ℕ) (q : ℕ) → q + length (copies_code l B c us) ≡ end_in l B us q
copies_end l B c [] q = omega arith
copies_end l B c (u ∷ us) q =
    let a = length-append (copy_code l B c u) (copies_code l B c us) in
    let b = copy_long l B c u in
    let r = copies_end l B c us (q + copy_size l B u) in
    let e : q + length (copy_code l B c u ++ copies_code l B c us) ≡ q + copy_size l B u + length (copies_code l B c us) = omega (arith, a, b) in
    e ∙ r

pub size_law : SizeLaw
size_law l B p = copies_end l B (in_order l B p) l.body p

-- ---- where each stands

abbrev Rising : List ℕ → Type 0
Rising xs = AllPairs (λ x y. x < y) xs

rising_rest : (x : ℕ) (xs : List ℕ) → Rising (x ∷ xs) → Rising xs
rising_rest x xs h = λ i j d lt within. h (suc i) (suc j) d (omega arith) (omega arith)

has_step : (x : ℕ) (xs : List ℕ) (v : ℕ) (b : Bool) → (x == v) ≡ b → has (x ∷ xs) v ≡ true → (if b then true else has xs v) ≡ true
has_step x xs v b e h = sym (ap (λ c. if c then true else has xs v) e) ∙ h

rising_first : (x : ℕ) (xs : List ℕ) (v : ℕ) → Rising (x ∷ xs) → has xs v ≡ true → x < v
rising_first x [] v h e = absurd (cc)
rising_first x (y ∷ ys) v h e = go (y == v) refl (has_step y ys v (y == v) refl e) (λ k. rising_first x ys v drop k)
  where
    first : x < y
    first = h 0 1 0 (omega arith) (omega arith)

    drop : Rising (x ∷ ys)
    drop zero zero d lt within = absurd (omega arith)
    drop zero (suc j) d lt within = h 0 (suc (suc j)) d (omega arith) (omega arith)
    drop (suc i) zero d lt within = absurd (omega arith)
    drop (suc i) (suc j) d lt within = h (suc (suc i)) (suc (suc j)) d (omega arith) (omega arith)

    go : (b : Bool) → (y == v) ≡ b → (if b then true else has ys v) ≡ true → (has ys v ≡ true → x < v) → x < v
    go true q k later = subst (λ z. x < z) (eq_of y v q) first
    go false q k later = later k

place_here : (l : Level) (B : LoopCode) (x : ℕ) (xs : List ℕ) (q v : ℕ) → x ≡ v → place_in l B (x ∷ xs) q v ≡ q
place_here l B x xs q v e = ap (λ b. if b then q else place_in l B xs (q + copy_size l B x) v) (is_eq x v e)

place_later : (l : Level) (B : LoopCode) (x : ℕ) (xs : List ℕ) (q v : ℕ) → x ≢ v → place_in l B (x ∷ xs) q v ≡ place_in l B xs (q + copy_size l B x) v
place_later l B x xs q v e = ap (λ b. if b then q else place_in l B xs (q + copy_size l B x) v) (is_ne x v e)

-- all places are up to the end
pub end_up : (l : Level) (B : LoopCode) (us : List ℕ) (q : ℕ) → q ≤ end_in l B us q
end_up l B [] q = omega arith
end_up l B (u ∷ us) q = let h = end_up l B us (q + copy_size l B u) in omega (arith, h)

place_up : (l : Level) (B : LoopCode) (us : List ℕ) (q v : ℕ) → place_in l B us q v ≤ end_in l B us q
place_up l B [] q v = omega arith
place_up l B (u ∷ us) q v = go (u == v) (end_up l B (u ∷ us) q) (place_up l B us (q + copy_size l B u) v)
  where
    go : (b : Bool) → q ≤ end_in l B us (q + copy_size l B u) → place_in l B us (q + copy_size l B u) v ≤ end_in l B us (q + copy_size l B u)
        → (if b then q else place_in l B us (q + copy_size l B u) v) ≤ end_in l B us (q + copy_size l B u)
    go true h k = h
    go false h k = k

listed : (code : List ℕ) (l : Level) (B : LoopCode) (c : Placing) (us : List ℕ) (q v : ℕ) → Placed code q (copies_code l B c us) → c.place v ≡ place_in l B us q v → has us v ≡ true → Placed code (c.place v) (copy_code l B c v)
listed code l B c [] q v h at e = absurd (cc)
listed code l B c (x ∷ xs) q v h at e = go (x == v) refl (has_step x xs v (x == v) refl e) (λ k m. listed code l B c xs (q + copy_size l B x) v rest m k)
  where
    rest : Placed code (q + copy_size l B x) (copies_code l B c xs)
    rest = subst (λ y. Placed code y (copies_code l B c xs)) (behind_copy l B c x q) (placed_back code q (copy_code l B c x) (copies_code l B c xs) h)

    go : (b : Bool) → (x == v) ≡ b → (if b then true else has xs v) ≡ true → (has xs v ≡ true → c.place v ≡ place_in l B xs (q + copy_size l B x) v → Placed code (c.place v) (copy_code l B c v)) → Placed code (c.place v) (copy_code l B c v)
    go true y k later =
        let same : x ≡ v = eq_of x v y in
        let there : q ≡ c.place v = sym (at ∙ place_here l B x xs q v same) in
        subst (λ z. Placed code (c.place v) (copy_code l B c z)) same (subst (λ z. Placed code z (copy_code l B c x)) there (placed_front code q (copy_code l B c x) (copies_code l B c xs) h))
    go false y k later = later k (at ∙ place_later l B x xs q v (ne_of x v y))

-- the word behind another has the next copy
next_place : (l : Level) (B : LoopCode) (us : List ℕ) (q u v : ℕ) → Rising us → ((x : ℕ) → has us x ≡ true → x % 4 ≡ 0) → has us u ≡ true → has us v ≡ true → v ≡ u + 4 → place_in l B us q v ≡ place_in l B us q u + copy_size l B u
next_place l B [] q u v rising al hu hv e = absurd (cc)
next_place l B (x ∷ xs) q u v rising al hu hv e =
    go (x == u) refl (has_step x xs u (x == u) refl hu) (λ k. next_place l B xs (q + copy_size l B x) u v (rising_rest x xs rising) (λ y m. al y (later_has y m)) k)
  where
    later_has : (y : ℕ) → has xs y ≡ true → (if x == y then true else has xs y) ≡ true
    later_has y m = by (x == y)
      where
        by : (b : Bool) → (if b then true else has xs y) ≡ true
        by true = refl
        by false = m

    v_later : x ≢ v → has xs v ≡ true
    v_later ne = has_step x xs v false (is_ne x v ne) hv

    first : (ys : List ℕ) → Rising (x ∷ ys) → ((y : ℕ) → has ys y ≡ true → y % 4 ≡ 0) → x % 4 ≡ 0 → v ≡ x + 4 → has ys v ≡ true → (r : ℕ) → place_in l B ys r v ≡ r
    first [] rise alys alx is h r = absurd (cc)
    first (y ∷ ys) rise alys alx is h r = by (y == v) refl (has_step y ys v (y == v) refl h)
      where
        by : (b : Bool) → (y == v) ≡ b → (if b then true else has ys v) ≡ true → place_in l B (y ∷ ys) r v ≡ r
        by true z k = place_here l B y ys r v (eq_of y v z)
        by false z k =
            let low : x < y = rise 0 1 0 (omega arith) (omega arith) in
            let high : y < v = rising_first y ys v (rising_rest x (y ∷ ys) rise) k in
            let whole : y % 4 ≡ 0 = alys y (ap (λ b. if b then true else has ys y) (is_eq y y refl)) in
            absurd (omega arith)

    go : (b : Bool) → (x == u) ≡ b → (if b then true else has xs u) ≡ true → (has xs u ≡ true → has xs v ≡ true → v ≡ u + 4 → place_in l B xs (q + copy_size l B x) v ≡ place_in l B xs (q + copy_size l B x) u + copy_size l B u)
        → place_in l B (x ∷ xs) q v ≡ place_in l B (x ∷ xs) q u + copy_size l B u
    go true y k later =
        let same : x ≡ u = eq_of x u y in
        let ne : x ≢ v = λ z. absurd (omega arith) in
        let alx : x % 4 ≡ 0 = al x (ap (λ b. if b then true else has xs x) (is_eq x x refl)) in
        place_later l B x xs q v ne ∙ first xs rising (λ z m. al z (later_has z m)) alx (omega arith) (v_later ne) (q + copy_size l B x) ∙ ap (λ z. q + copy_size l B z) same
        ∙ sym (ap (λ z. z + copy_size l B u) (place_here l B x xs q u same))
    go false y k later =
        let up : x < u = rising_first x xs u rising k in
        let ne : x ≢ v = λ z. absurd (omega arith) in
        place_later l B x xs q v ne ∙ later k (v_later ne) e ∙ sym (ap (λ z. z + copy_size l B u) (place_later l B x xs q u (ne_of x u y)))

falls_to : (i : Instr) (u : ℕ) → IsPlainInstr i → falls_through i ≡ true → has (next_words i u) (next_pc u) ≡ true
falls_to (Alu op rd rs1 rs2) u x e = ap (λ b. if b then true else false) (is_eq (next_pc u) (next_pc u) refl)
falls_to (AluImm op rd rs1 imm) u x e = ap (λ b. if b then true else false) (is_eq (next_pc u) (next_pc u) refl)
falls_to (Upper op rd imm) u x e = ap (λ b. if b then true else false) (is_eq (next_pc u) (next_pc u) refl)
falls_to (Load op rd rs1 imm) u x e = ap (λ b. if b then true else false) (is_eq (next_pc u) (next_pc u) refl)
falls_to (Store op rs1 rs2 imm) u x e = ap (λ b. if b then true else false) (is_eq (next_pc u) (next_pc u) refl)
falls_to (Fence rd rs1 imm) u x e = ap (λ b. if b then true else false) (is_eq (next_pc u) (next_pc u) refl)
falls_to (Branch op rs1 rs2 imm) u x e = ap (λ b. if b then true else has (plus_offset u imm ∷ []) (next_pc u)) (is_eq (next_pc u) (next_pc u) refl)
falls_to (Jal rd imm) u x e = absurd (cc)
falls_to (Jalr rd rs1 imm) u x e = absurd x
falls_to Ecall u x e = absurd x
falls_to Ebreak u x e = absurd x

pub body_law : BodyLaw
body_law code l B p body order near stands =
    let c = in_order l B p in
    record {
      stand = λ u inside. listed code l B c l.body p u stands refl inside;
      follow = follow;
      near = λ u. let h = place_up l B l.body p u in omega (arith, h, near);
      next_near = near;
    }
  where
    follow : (u : ℕ) → Holds l u → goes_on l B u ≡ true → (next_pc u == l.header) ≡ false → place_in l B l.body p (next_pc u) ≡ behind (place_in l B l.body p u) (copy_code l B (in_order l B p) u)
    follow u inside on other =
        let w = body.words u inside in
        let goes : goes_on_by (kind_of l B u) (Some w.does) ≡ true = sym (ap (goes_on_by (kind_of l B u)) w.is) ∙ on in
        let parts = split (u == l.exit) (B.cells.uses u) refl w.does goes in
        let there : Holds l (next_pc u) = order.inside u (next_pc u) w.does inside (ne_of u l.exit parts.0) w.is (falls_to w.does u w.plain parts.1) in
        let low = order.low u inside in
        let next : next_pc u ≡ u + 4 = omega arith in
        next_place l B l.body p u (next_pc u) (AllPairs-from_increasing l.body order.ordered) order.aligned inside there next
        ∙ sym (behind_copy l B (in_order l B p) u (place_in l B l.body p u))
      where
        split : (b : Bool) (o : Option ℕ) → (u == l.exit) ≡ b → (i : Instr) → goes_on_by (kind_by b o) (Some i) ≡ true → ((u == l.exit) ≡ false) × (falls_through i ≡ true)
        split true o e i h = absurd (cc)
        split false (Some k) e i h = (e, h)
        split false None e i h = (e, h)
