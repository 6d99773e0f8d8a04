-- What is known of the cells of a loop whose list does not decide against it.
use Rattle.std.proofs.Common.{◌≡◌, ◌≢◌, ℕ, ℤ, pos, negsuc, ◌+ℤ◌, ◌≤ℤ◌, int_lt, zero, suc, ◌<◌, ◌≤◌, ◌⊎◌, inl, inr, ◌==◌, Bool, true, false, not, ◌&&◌, ◌||◌, cond, nat_lt, if◌then◌else◌, List, [], ◌∷◌, map, filter, get_or, Option, Some, None, refl, ap, sym, ◌∙◌, subst, arith}
use Rattle.std.specs.List.{AllPairs, Contains, cons_option, filter_map, list_any}
use Rattle.std.specs.List.Sorted.{IsStrictlyIncreasing}
use Rattle.std.specs.Prelude.{slice_get, find}
use Rattle.std.specs.Option.{option_or}
use Rattle.std.proofs.lemmas.Int.{ints}
use Rattle.std.proofs.lemmas.Bool.{cases_lt}
use Rattle.std.proofs.lemmas.Bool.Decides.{nat_tests}
use Rattle.std.proofs.lemmas.List.{get_or-map, length-map}
use Rattle.std.proofs.lemmas.List.Kept.{AllPairs-from_increasing, AllPairs-filter}
use Rattle.std.proofs.lemmas.Option.{get_or_from_slice_get, slice_get_within}
use Rattle.rv64_decode.specs.Area.{bytes_of}
use Rattle.rv64_decode.specs.Form.{IsSigned}
use Rattle.rv64_decode.specs.Row.{load_width, store_width}
use Rattle.rv64_decode.specs.declared.instr.Instr.{Instr}
use Rattle.rv64_decode.specs.declared.instr.Instr.TheVariants.{Alu, AluImm, Upper, Load, Store, Branch, Jal, Jalr, Fence, Ecall, Ebreak}
use Rattle.rv64_decode.specs.declared.instr.LoadOp.{LoadOp}
use Rattle.rv64_decode.specs.declared.instr.LoadOp.TheVariants.{Lb, Lh, Lw, Ld, Lbu, Lhu, Lwu}
use Rattle.rv64_decode.specs.declared.instr.StoreOp.{StoreOp}
use Rattle.rv64_decode.specs.declared.instr.StoreOp.TheVariants.{Sb, Sh, Sw, Sd}
use Rattle.linear_forms.proofs.Ranges.{between_is}
use Rattle.linear_forms.specs.Forms.{between}
use Rattle.loop_data.specs.declared.cells.Cells.{Cells}
use Rattle.loop_data.specs.declared.verdict.Cell.{Cell}
use Rattle.loop_data.specs.declared.verdict.Verdict.{Verdict}
use Rattle.loop_data.specs.declared.graph.Graph.{Graph}
use Rattle.loop_data.specs.declared.shape.Level.{Level}
use Rattle.loop_data.specs.Accesses.{Motion, motion_of}
use Rattle.loop_data.specs.Facts.{Fact, Number, Offset, fact_read, fact_sum}
use Rattle.loop_data.specs.FactPass.{AreFacts}
use Rattle.loop_data.specs.Locations.{cell_at, no_cells, width_by, width_of}
use Rattle.loop_data.specs.LoopCode.{LoopCode, code_of}
use Rattle.loop_data.specs.LoopWords.{AreNest}
use Rattle.loop_data.specs.Lookups.{cell_map, use_of}
use Rattle.loop_data.specs.Nests.{nest_of}
use Rattle.loop_data.proofs.Tests.{eq_of, is_eq, and_true, true_and, yes_no}
use Rattle.stack_slots.specs.declared.words.BodyWord.{BodyWord}
use Rattle.stack_slots.specs.declared.words.KnownAddress.{KnownAddress}
use Rattle.stack_slots.specs.declared.words.Touch.{Touch}
use Rattle.stack_slots.specs.CellRules.{same_base, have_one_base, are_of_one_cell, meet, are_mixed, both, uses_cell, use_one_cell, is_store, is_first_use, first_uses, cell_with, cell_of, is_stored, is_mixed, limit_of, mixed_at}
use Rattle.stack_slots.specs.Results.{HasCells, AreCellsOf}
use Rattle.stack_slots.specs.Touches.{known_by, known_address, loads_cells, stores_cells, accesses_cells, touch_with, touch_by, touch_of, is_kept, word_at, words_of}
use Rattle.stack_slots.proofs.FirstUses.{has_cell}
use Rattle.stack_slots.proofs.Members.{Member, to_member, from_member, kept_passes}
use Rattle.stack_slots.proofs.OneCell.{uses_one_with_itself}

-- cells of one base do not meet, a cell that a word stores to is marked so, and offsets are near
pub record AreKnown (B : LoopCode) (cells : List Cell) : Type 0 where
  pub stored : (u k : ℕ) (c : Cell) (m : Motion) → B.cells.uses u ≡ Some k → cell_at cells k ≡ Some c → motion_of (B.instr u) ≡ Some m → m.store ≡ true → c.stored ≡ true
  pub unmixed : (j k : ℕ) (c d : Cell) → cell_at cells j ≡ Some c → cell_at cells k ≡ Some d → j ≢ k → c.base ≡ d.base
      → ((c.offset +ℤ pos (bytes_of (width_of c))) ≤ℤ d.offset) ⊎ ((d.offset +ℤ pos (bytes_of (width_of d))) ≤ℤ c.offset)
  pub near : (k : ℕ) (c : Cell) → cell_at cells k ≡ Some c → IsSigned 32 c.offset

-- ---- one access

-- what a touch is
record IsTouch (i : Option Instr) (t : Touch) : Type 0 where
  pub motion : Motion
  pub is : motion_of i ≡ Some motion
  pub width : t.width ≡ motion.width
  pub store : t.store ≡ motion.store
  pub of_cell : t.of_cell ≡ accesses_cells i
  pub near : IsSigned 32 t.address.offset

near_known : (kept : ℕ → Bool) (o : Option Fact) (a : KnownAddress) → known_by kept o ≡ Some a → IsSigned 32 a.offset
near_known kept None a e = absurd (cc)
near_known kept (Some (Number z)) a e = go (between (pos 0) (pos 0x7FFF_F800) z) refl e
  where
    go : (b : Bool) → between (pos 0) (pos 0x7FFF_F800) z ≡ b → (if b then Some (record { base = None; offset = z }) else None) ≡ Some a → IsSigned 32 a.offset
    go true f h =
        let q : record { base = None; offset = z } ≡ a = cc in
        let p = between_is (pos 0) (pos 0x7FFF_F800) z f in let x = p.0 in let y = p.1 in
        subst (λ (k : KnownAddress). IsSigned 32 k.offset) q (omega (arith, ints), omega (arith, ints))
    go false f h = absurd (cc)
near_known kept (Some (Offset q z)) a e = go (kept q) (between (negsuc 2047) (pos 2048) z) refl e
  where
    go : (k b : Bool) → between (negsuc 2047) (pos 2048) z ≡ b → (if k then (if b then Some (record { base = Some q; offset = z }) else None) else None) ≡ Some a → IsSigned 32 a.offset
    go true true f h =
        let y : record { base = Some q; offset = z } ≡ a = cc in
        let p = between_is (negsuc 2047) (pos 2048) z f in let v = p.0 in let w = p.1 in
        subst (λ (k : KnownAddress). IsSigned 32 k.offset) y (omega (arith, ints), omega (arith, ints))
    go true false f h = absurd (cc)
    go false b f h = absurd (cc)

is_touch : (kept : ℕ → Bool) (F : ℕ → Option Fact) (i : Option Instr) (t : Touch) → touch_of kept F i ≡ Some t → IsTouch i t
is_touch kept F i t e = go (motion_of i) refl e
  where
    go : (o : Option Motion) → motion_of i ≡ o → touch_by kept F (accesses_cells i) o ≡ Some t → IsTouch i t
    go None q h = absurd (cc)
    go (Some m) q h = by (known_address kept F m.base m.offset) refl h
      where
        by : (a : Option KnownAddress) → known_address kept F m.base m.offset ≡ a → touch_with (accesses_cells i) m a ≡ Some t → IsTouch i t
        by None g h = absurd (cc)
        by (Some a) g h =
            let y : record { address = a; width = m.width; store = m.store; of_cell = accesses_cells i } ≡ t = cc in
            record {
              motion = m;
              is = q;
              width = sym (ap (λ (x : Touch). x.width) y);
              store = sym (ap (λ (x : Touch). x.store) y);
              of_cell = sym (ap (λ (x : Touch). x.of_cell) y);
              near = subst (λ (x : Touch). IsSigned 32 x.address.offset) y (near_known kept (fact_sum (fact_read F m.base) (Some (Number m.offset))) a g);
            }

-- an access of a cell has 8 bytes or 4
cell_width : (i : Option Instr) (m : Motion) → motion_of i ≡ Some m → accesses_cells i ≡ true → bytes_of (width_by (bytes_of m.width == 8)) ≡ bytes_of m.width
cell_width (Some (Load op rd rs1 imm)) m e k = let q : record { base = rs1; offset = imm; width = load_width op; store = false } ≡ m = cc in subst (λ (n : Motion). bytes_of (width_by (bytes_of n.width == 8)) ≡ bytes_of n.width) q (by op k)
  where
    by : (op : LoadOp) → loads_cells op ≡ true → bytes_of (width_by (bytes_of (load_width op) == 8)) ≡ bytes_of (load_width op)
    by Lw k = refl
    by Ld k = refl
    by Lb k = absurd (cc)
    by Lh k = absurd (cc)
    by Lbu k = absurd (cc)
    by Lhu k = absurd (cc)
    by Lwu k = absurd (cc)
cell_width (Some (Store op rs1 rs2 imm)) m e k = let q : record { base = rs1; offset = imm; width = store_width op; store = true } ≡ m = cc in subst (λ (n : Motion). bytes_of (width_by (bytes_of n.width == 8)) ≡ bytes_of n.width) q (by op k)
  where
    by : (op : StoreOp) → stores_cells op ≡ true → bytes_of (width_by (bytes_of (store_width op) == 8)) ≡ bytes_of (store_width op)
    by Sw k = refl
    by Sd k = refl
    by Sb k = absurd (cc)
    by Sh k = absurd (cc)
cell_width (Some (Alu op rd rs1 rs2)) m e k = absurd (cc)
cell_width (Some (AluImm op rd rs1 imm)) m e k = absurd (cc)
cell_width (Some (Upper op rd imm)) m e k = absurd (cc)
cell_width (Some (Branch op rs1 rs2 imm)) m e k = absurd (cc)
cell_width (Some (Jal rd imm)) m e k = absurd (cc)
cell_width (Some (Jalr rd rs1 imm)) m e k = absurd (cc)
cell_width (Some (Fence rd rs1 imm)) m e k = absurd (cc)
cell_width (Some Ecall) m e k = absurd (cc)
cell_width (Some Ebreak) m e k = absurd (cc)
cell_width None m e k = absurd (cc)

-- the cell of a word that accesses one
record IsCellOf (stored : Bool) (o : Option Touch) (c : Cell) : Type 0 where
  pub touch : Touch
  pub is : o ≡ Some touch
  pub of_cell : touch.of_cell ≡ true
  pub base : c.base ≡ touch.address.base
  pub offset : c.offset ≡ touch.address.offset
  pub wide : c.wide ≡ (bytes_of touch.width == 8)
  pub flag : c.stored ≡ stored

is_cell_of : (stored : Bool) (o : Option Touch) (c : Cell) → cell_with stored o ≡ Some c → IsCellOf stored o c
is_cell_of stored None c e = absurd (cc)
is_cell_of stored (Some t) c e = go t.of_cell refl e
  where
    go : (b : Bool) → t.of_cell ≡ b → (if b then Some (record { base = t.address.base; offset = t.address.offset; wide = bytes_of t.width == 8; stored = stored }) else None) ≡ Some c → IsCellOf stored (Some t) c
    go true f h =
        let q : record { base = t.address.base; offset = t.address.offset; wide = bytes_of t.width == 8; stored = stored } ≡ c = cc in
        record {
          touch = t;
          is = refl;
          of_cell = f;
          base = sym (ap (λ (x : Cell). x.base) q);
          offset = sym (ap (λ (x : Cell). x.offset) q);
          wide = sym (ap (λ (x : Cell). x.wide) q);
          flag = sym (ap (λ (x : Cell). x.stored) q);
        }
    go false f h = absurd (cc)

-- ---- lists

any_here : {X : Type 0} (test : X → Bool) (xs : List X) (x : X) → Member xs x → test x ≡ true → list_any test xs ≡ true
any_here test [] x m e = absurd m
any_here test (y ∷ ys) x (inl q) e = ap (λ b. b || list_any test ys) (ap test q ∙ e)
any_here test (y ∷ ys) x (inr m) e = go (test y) (any_here test ys x m e)
  where
    go : (b : Bool) → list_any test ys ≡ true → (b || list_any test ys) ≡ true
    go true h = refl
    go false h = h

none_passes : {X : Type 0} (test : X → Bool) (xs : List X) (x : X) → Member xs x → list_any test xs ≡ false → test x ≡ false
none_passes test xs x m e = go (test x) refl
  where
    go : (b : Bool) → test x ≡ b → b ≡ false
    go true f = absurd (yes_no (list_any test xs) (any_here test xs x m f) e)
    go false f = refl

none_found : {X : Type 0} (test : X → Bool) (xs : List X) (x : X) → Member xs x → find test xs ≡ None → test x ≡ false
none_found test [] x m e = absurd m
none_found test (y ∷ ys) x m e = go (test y) refl m e (λ k. none_found test ys x k)
  where
    go : (b : Bool) → test y ≡ b → (y ≡ x) ⊎ Member ys x → cond b (Some y) (find test ys) ≡ None → (Member ys x → find test ys ≡ None → test x ≡ false) → test x ≡ false
    go true f k h later = absurd (cc)
    go false f (inl q) h later = sym (ap test q) ∙ f
    go false f (inr k) h later = later k h

later_none : (o p : Option Verdict) → option_or o p ≡ None → p ≡ None
later_none None p e = e
later_none (Some v) p e = absurd (cc)

no_mixed : (o : Option BodyWord) → mixed_at o ≡ None → o ≡ None
no_mixed None e = refl
no_mixed (Some w) e = absurd (cc)

kept_member : {X : Type 0} (test : X → Bool) (xs : List X) (x : X) → Member (filter test xs) x → Member xs x
kept_member test [] x m = absurd m
kept_member test (y ∷ ys) x m = go (test y) m (kept_member test ys x)
  where
    go : (b : Bool) → Member (cond b (y ∷ filter test ys) (filter test ys)) x → (Member (filter test ys) x → Member ys x) → Member (y ∷ ys) x
    go true (inl e) later = inl e
    go true (inr m) later = inr (later m)
    go false m later = inr (later m)

-- the first use of a cell that is listed
cell_from : (words firsts : List BodyWord) → ((f : BodyWord) → Member firsts f → uses_cell f ≡ true) → (k : ℕ) (c : Cell) → cell_at (filter_map (cell_of words) firsts) k ≡ Some c
    → (f : BodyWord) × (slice_get firsts k ≡ Some f) × (cell_of words f ≡ Some c)
cell_from words [] all k c e = absurd (cc)
cell_from words (x ∷ xs) all zero c e =
    let d = has_cell words x (all x (inl refl)) in
    (x, refl, d.1 ∙ (sym (ap (λ o. cell_at (cons_option o (filter_map (cell_of words) xs)) 0) d.1) ∙ e))
cell_from words (x ∷ xs) all (suc k) c e =
    let d = has_cell words x (all x (inl refl)) in
    let r = cell_from words xs (λ f m. all f (inr m)) k c (sym (ap (λ o. cell_at (cons_option o (filter_map (cell_of words) xs)) (suc k)) d.1) ∙ e) in
    (r.0, r.1, r.2)

member_of : {X : Type 0} (xs : List X) (k : ℕ) (x : X) → slice_get xs k ≡ Some x → Member xs x
member_of [] k x e = absurd (cc)
member_of (y ∷ ys) zero x e = inl (cc)
member_of (y ∷ ys) (suc k) x e = inr (member_of ys k x e)

-- ---- the words of a body

word_here : (B : LoopCode) (V : ℕ → ℕ → Option Fact) (body us : List ℕ) (w : BodyWord) → Member (map (λ (u : ℕ). word_at B body (V u) u) us) w → word_at B body (V w.at) w.at ≡ w
word_here B V body [] w m = absurd m
word_here B V body (u ∷ us) w (inl e) = subst (λ (x : BodyWord). word_at B body (V x.at) x.at ≡ x) e refl
word_here B V body (u ∷ us) w (inr m) = word_here B V body us w m

addresses_are : (B : LoopCode) (V : ℕ → ℕ → Option Fact) (body us : List ℕ) → map (λ (w : BodyWord). w.at) (map (λ (u : ℕ). word_at B body (V u) u) us) ≡ us
addresses_are B V body [] = refl
addresses_are B V body (u ∷ us) = ap (λ xs. u ∷ xs) (addresses_are B V body us)

rising : (ws : List BodyWord) → IsStrictlyIncreasing (map (λ (w : BodyWord). w.at) ws) → AllPairs (λ (x y : BodyWord). x.at < y.at) ws
rising ws up i j d lt within =
    let n = length-map ws (λ (w : BodyWord). w.at) in
    let p = AllPairs-from_increasing (map (λ (w : BodyWord). w.at) ws) up i j 0 lt (omega arith) in
    let a = get_or-map (λ (w : BodyWord). w.at) ws i d 0 (omega arith) in
    let b = get_or-map (λ (w : BodyWord). w.at) ws j d 0 within in
    omega arith

-- accesses of one base that do not meet
not_met : (a b : ℤ) (m n : ℕ) → (int_lt a (b +ℤ pos n) && int_lt b (a +ℤ pos m)) ≡ false → ((a +ℤ pos m) ≤ℤ b) ⊎ ((b +ℤ pos n) ≤ℤ a)
not_met a b m n e = go (int_lt a (b +ℤ pos n)) (int_lt b (a +ℤ pos m)) refl refl e
  where
    go : (x y : Bool) → int_lt a (b +ℤ pos n) ≡ x → int_lt b (a +ℤ pos m) ≡ y → (x && y) ≡ false → ((a +ℤ pos m) ≤ℤ b) ⊎ ((b +ℤ pos n) ≤ℤ a)
    go true true f g h = absurd (cc)
    go true false f g h = inl (grind (arith, ints))
    go false y f g h = inr (grind (arith, ints))

same_base_is : (a b : Option ℕ) → a ≡ b → same_base a b ≡ true
same_base_is (Some q) (Some r) e = is_eq q r (cc)
same_base_is (Some q) None e = absurd (cc)
same_base_is None (Some r) e = absurd (cc)
same_base_is None None e = refl

use_among : (us : List (ℕ × ℕ)) (u k : ℕ) → use_of us u ≡ Some k → Contains us (u, k)
use_among us u k e = from_member us (u, k) (go us e)
  where
    go : (us : List (ℕ × ℕ)) → use_of us u ≡ Some k → Member us (u, k)
    go [] e = absurd (cc)
    go (x ∷ xs) e = by (x.0 == u) refl e (go xs)
      where
        by : (b : Bool) → (x.0 == u) ≡ b → (if b then Some x.1 else use_of xs u) ≡ Some k → (use_of xs u ≡ Some k → Member xs (u, k)) → Member (x ∷ xs) (u, k)
        by true f h later = let p = eq_of x.0 u f in let q : x.1 ≡ k = cc in inl (ap (λ a. (a, x.1)) p ∙ ap (λ b. (u, b)) q)
        by false f h later = inr (later h)

module _ (B : LoopCode) (body : List ℕ) (V : ℕ → ℕ → Option Fact) (c : Cells) (up : IsStrictlyIncreasing body) (h : HasCells (words_of B body V) c) (sound : c.fault ≡ None) where
  abbrev words : List BodyWord
  words = words_of B body V

  firsts_use : (f : BodyWord) → Member (first_uses words) f → uses_cell f ≡ true
  firsts_use f m = (and_true (uses_cell f) (not (list_any (λ (v : BodyWord). nat_lt v.at f.at && use_one_cell v f) words)) (kept_passes (is_first_use words) words f m)).0

  -- the first use of each cell
  record IsFirst (k : ℕ) (d : Cell) : Type 0 where
    pub word : BodyWord
    pub nth : slice_get (first_uses words) k ≡ Some word
    pub cell : IsCellOf (is_stored words word) word.touch d

  first_of : (k : ℕ) (d : Cell) → cell_at c.list.items k ≡ Some d → IsFirst k d
  first_of k d e =
      let r = cell_from words (first_uses words) firsts_use k d (subst (λ cs. cell_at cs k ≡ Some d) (h.list sound) e) in
      record { word = r.0; nth = r.1; cell = is_cell_of (is_stored words r.0) (r.0).touch d r.2 }

  touch_in : (w : BodyWord) (t : Touch) → Member words w → w.touch ≡ Some t → IsTouch (B.instr w.at) t
  touch_in w t m e = is_touch (is_kept B body) (V w.at) (B.instr w.at) t (ap (λ (x : BodyWord). x.touch) (word_here B V body body w m) ∙ e)

  near_in : (k : ℕ) (d : Cell) → cell_at c.list.items k ≡ Some d → IsSigned 32 d.offset
  near_in k d e =
      let f = first_of k d e in
      let m = kept_member (is_first_use words) words f.word (member_of (first_uses words) k f.word f.nth) in
      subst (IsSigned 32) (sym f.cell.offset) (touch_in f.word f.cell.touch m f.cell.is).near

  size_in : (k : ℕ) (d : Cell) (e : cell_at c.list.items k ≡ Some d) → bytes_of (width_of d) ≡ bytes_of (first_of k d e).cell.touch.width
  size_in k d e =
      let f = first_of k d e in
      let m = kept_member (is_first_use words) words f.word (member_of (first_uses words) k f.word f.nth) in
      let t = touch_in f.word f.cell.touch m f.cell.is in
      ap (λ b. bytes_of (width_by b)) (f.cell.wide ∙ ap (λ w. bytes_of w == 8) t.width) ∙ cell_width (B.instr f.word.at) t.motion t.is (sym t.of_cell ∙ f.cell.of_cell) ∙ sym (ap bytes_of t.width)

  none_mixed : find (is_mixed words) words ≡ None
  none_mixed =
      let none = sym h.fault ∙ sound in
      no_mixed (find (is_mixed words) words) (later_none (limit_of words) (mixed_at (find (is_mixed words) words)) none)

  -- of two first uses the later one is of another cell, and the two do not meet
  in_order : (j k : ℕ) (a b : Cell) → j < k → (p : cell_at c.list.items j ≡ Some a) → (q : cell_at c.list.items k ≡ Some b) → a.base ≡ b.base
      → ((a.offset +ℤ pos (bytes_of (width_of a))) ≤ℤ b.offset) ⊎ ((b.offset +ℤ pos (bytes_of (width_of b))) ≤ℤ a.offset)
  in_order j k a b lt p q same =
      subst (λ n. ((a.offset +ℤ pos n) ≤ℤ b.offset) ⊎ ((b.offset +ℤ pos (bytes_of (width_of b))) ≤ℤ a.offset)) (sym (size_in j a p))
      (subst (λ n. ((a.offset +ℤ pos (bytes_of s.width)) ≤ℤ b.offset) ⊎ ((b.offset +ℤ pos n) ≤ℤ a.offset)) (sym (size_in k b q))
      (subst (λ z. ((z +ℤ pos (bytes_of s.width)) ≤ℤ b.offset) ⊎ ((b.offset +ℤ pos (bytes_of t.width)) ≤ℤ z)) (sym f.cell.offset)
      (subst (λ z. ((s.address.offset +ℤ pos (bytes_of s.width)) ≤ℤ z) ⊎ ((z +ℤ pos (bytes_of t.width)) ≤ℤ s.address.offset)) (sym g.cell.offset)
      (not_met s.address.offset t.address.offset (bytes_of s.width) (bytes_of t.width) apart))))
    where
      f : IsFirst j a
      f = first_of j a p

      g : IsFirst k b
      g = first_of k b q

      s : Touch
      s = f.cell.touch

      t : Touch
      t = g.cell.touch

      first_member : Member (first_uses words) f.word
      first_member = member_of (first_uses words) j f.word f.nth

      first_in : Member words f.word
      first_in = kept_member (is_first_use words) words f.word first_member

      second_member : Member (first_uses words) g.word
      second_member = member_of (first_uses words) k g.word g.nth

      second_in : Member words g.word
      second_in = kept_member (is_first_use words) words g.word second_member

      below : f.word.at < g.word.at
      below =
          let d = f.word in
          let all = AllPairs-filter (λ (x y : BodyWord). x.at < y.at) (is_first_use words) words (rising words (subst IsStrictlyIncreasing (sym (addresses_are B V body body)) up)) in
          let x = all j k d lt (slice_get_within (first_uses words) k g.word g.nth) in
          let y = get_or_from_slice_get (first_uses words) j f.word d f.nth in
          let z = get_or_from_slice_get (first_uses words) k g.word d g.nth in
          subst (λ (v : BodyWord). v.at < g.word.at) y (subst (λ (v : BodyWord). (get_or (first_uses words) j d).at < v.at) z x)

      earlier : nat_lt f.word.at g.word.at ≡ true
      earlier = let l = below in grind (arith, nat_tests)

      -- they are not accesses of one cell
      other : are_of_one_cell s t ≡ false
      other =
          let none = (and_true (uses_cell g.word) (not (list_any (λ (v : BodyWord). nat_lt v.at g.word.at && use_one_cell v g.word) words)) (kept_passes (is_first_use words) words g.word second_member)).1 in
          let one = none_passes (λ (v : BodyWord). nat_lt v.at g.word.at && use_one_cell v g.word) words f.word first_in (unnot _ none) in
          sym (ap (λ o. both are_of_one_cell o g.word.touch) f.cell.is ∙ ap (λ o. both are_of_one_cell (Some s) o) g.cell.is) ∙ sym (ap (λ b. b && use_one_cell f.word g.word) earlier) ∙ one
        where
          unnot : (b : Bool) → not b ≡ true → b ≡ false
          unnot true e = absurd (cc)
          unnot false e = refl

      mixed : are_mixed s t ≡ false
      mixed =
          let none = none_found (is_mixed words) words g.word second_in none_mixed in
          let one = none_passes (λ (v : BodyWord). nat_lt v.at g.word.at && both are_mixed v.touch g.word.touch) words f.word first_in none in
          sym (ap (λ o. both are_mixed o g.word.touch) f.cell.is ∙ ap (λ o. both are_mixed (Some s) o) g.cell.is) ∙ sym (ap (λ b. b && both are_mixed f.word.touch g.word.touch) earlier) ∙ one

      apart : meet s t ≡ false
      apart = go (meet s t) refl
        where
          go : (b : Bool) → meet s t ≡ b → b ≡ false
          go true e =
              let base : have_one_base s t ≡ true = same_base_is s.address.base t.address.base (sym f.cell.base ∙ same ∙ g.cell.base) in
              absurd (yes_no (are_mixed s t)
              (true_and (have_one_base s t && meet s t) ((s.of_cell || t.of_cell) && not (are_of_one_cell s t)) (true_and (have_one_base s t) (meet s t) base e)
              (true_and (s.of_cell || t.of_cell) (not (are_of_one_cell s t)) (ap (λ b. b || t.of_cell) f.cell.of_cell) (ap not other))) mixed)
          go false e = refl

  apart_in : (j k : ℕ) (a b : Cell) → cell_at c.list.items j ≡ Some a → cell_at c.list.items k ≡ Some b → j ≢ k → a.base ≡ b.base
      → ((a.offset +ℤ pos (bytes_of (width_of a))) ≤ℤ b.offset) ⊎ ((b.offset +ℤ pos (bytes_of (width_of b))) ≤ℤ a.offset)
  apart_in j k a b p q ne same = go (cases_lt j k)
    where
      turned : ((b.offset +ℤ pos (bytes_of (width_of b))) ≤ℤ a.offset) ⊎ ((a.offset +ℤ pos (bytes_of (width_of a))) ≤ℤ b.offset)
          → ((a.offset +ℤ pos (bytes_of (width_of a))) ≤ℤ b.offset) ⊎ ((b.offset +ℤ pos (bytes_of (width_of b))) ≤ℤ a.offset)
      turned (inl l) = inr l
      turned (inr l) = inl l

      go : (j < k) ⊎ (k ≤ j) → ((a.offset +ℤ pos (bytes_of (width_of a))) ≤ℤ b.offset) ⊎ ((b.offset +ℤ pos (bytes_of (width_of b))) ≤ℤ a.offset)
      go (inl l) = in_order j k a b l p q same
      go (inr l) = turned (in_order k j b a (omega arith) q p (sym same))

  -- a word that stores to a cell marks it
  stored_in : (u k : ℕ) (d : Cell) (m : Motion) → use_of c.uses.items u ≡ Some k → cell_at c.list.items k ≡ Some d → motion_of (B.instr u) ≡ Some m → m.store ≡ true → d.stored ≡ true
  stored_in u k d m e f moves store =
      let is = (h.uses sound).each (u, k) (use_among c.uses.items u k e) in
      let w = is.word in
      let inside = to_member words w is.among in
      let x = is_cell_of (is_stored words w) w.touch d (sym is.cell ∙ f) in
      let t = touch_in w x.touch inside x.is in
      let same : t.motion ≡ m = (let q : Some t.motion ≡ Some m = sym t.is ∙ (ap (λ v. motion_of (B.instr v)) is.at ∙ moves) in cc) in
      let stores : x.touch.store ≡ true = t.store ∙ ap (λ (n : Motion). n.store) same ∙ store in
      x.flag ∙ any_here (λ (v : BodyWord). is_store v.touch && use_one_cell v w) words w inside (true_and (is_store w.touch) (use_one_cell w w) (ap is_store x.is ∙ stores) (uses_one_with_itself w is.uses))

-- what the cells of a loop promise
pub known_cells : (G : Graph) (levels : List Level) (nest : AreNest G levels) (c : Cells) (V : ℕ → ℕ → Option Fact) → AreCellsOf G levels c → c.fault ≡ None
    → AreFacts (nest_of G nest.root nest.inner) (code_of G no_cells) nest.root V → AreKnown (code_of G (cell_map c)) c.list.items
known_cells G levels nest c V cells sound facts =
    record {
      stored = λ u k d m. stored_in D nest.root.body V c up h sound u k d m;
      unmixed = λ j k a b. apart_in D nest.root.body V c up h sound j k a b;
      near = λ k d. near_in D nest.root.body V c up h sound k d;
    }
  where
    D : LoopCode
    D = code_of G no_cells

    up : IsStrictlyIncreasing nest.root.body
    up = nest.ordered nest.root (inl refl)

    h : HasCells (words_of (code_of G no_cells) nest.root.body V) c
    h = cells (nest_of G nest.root nest.inner) V (record { root = nest.root; inner = nest.inner; are = nest.are; is = refl }) facts
