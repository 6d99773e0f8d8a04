-- Two answers for the cells of a loop are the same.
use Rattle.std.proofs.Common.{inl, inr, ◌≡◌, ◌⊎◌, ℕ, ◌<◌, zero, suc, ◌==◌, ◌&&◌, Bool, true, false, not, if◌then◌else◌, List, [], ◌∷◌, map, get_or, Option, Some, None, refl, ap, sym, ◌∙◌, subst, arith}
use Rattle.std.specs.Prelude.{nat_lt, slice_get}
use Rattle.std.specs.List.{Contains, cons_option, filter_map, list_any}
use Rattle.std.specs.List.Sorted.{IsStrictlyIncreasing}
use Rattle.std.specs.Ordering.{int_eq}
use Rattle.std.proofs.lemmas.Bool.Decides.{Decides-int_eq, nat_tests}
use Rattle.std.proofs.lemmas.List.{length-map}
use Rattle.std.proofs.lemmas.Option.{get_or_from_slice_get, slice_get-map, slice_get_within}
use Rattle.std.specs.Option.{option_map}
use Rattle.std.proofs.lemmas.List.Kept.{AllPairs-from_increasing}
use Rattle.rv64_decode.specs.Area.{bytes_of}
use Rattle.rv64_decode.specs.Row.{load_width, store_width}
use Rattle.rv64_decode.specs.declared.instr.Instr.{Instr}
use Rattle.rv64_decode.specs.declared.instr.Instr.TheVariants.{Alu, AluImm, Upper, Load, Store, Branch, Jal, Jalr, Fence, Ecall, Ebreak}
use Rattle.rv64_decode.specs.declared.instr.LoadOp.{LoadOp}
use Rattle.rv64_decode.specs.declared.instr.LoadOp.TheVariants.{Lb, Lh, Lw, Ld, Lbu, Lhu, Lwu}
use Rattle.rv64_decode.specs.declared.instr.StoreOp.{StoreOp}
use Rattle.rv64_decode.specs.declared.instr.StoreOp.TheVariants.{Sb, Sh, Sw, Sd}
use Rattle.loop_data.specs.declared.cells.Cells.{Cells}
use Rattle.loop_data.specs.declared.graph.Graph.{Graph}
use Rattle.loop_data.specs.declared.shape.Level.{Level}
use Rattle.loop_data.specs.declared.verdict.Cell.{Cell}
use Rattle.loop_data.specs.declared.verdict.Verdict.{Verdict}
use Rattle.loop_data.specs.Accesses.{Motion, motion_of}
use Rattle.loop_data.specs.Facts.{Fact}
use Rattle.loop_data.specs.FactPass.{AreFacts}
use Rattle.loop_data.specs.Locations.{cell_at, no_cells}
use Rattle.loop_data.specs.LoopCode.{LoopCode, code_of}
use Rattle.loop_data.specs.LoopWords.{AreNest}
use Rattle.loop_data.specs.Nests.{Nest, nest_of}
use Rattle.loop_data.proofs.FactsExist.{facts_exist}
use Rattle.loop_data.proofs.Keys.{same_keyed}
use Rattle.loop_data.proofs.Tests.{is_eq, and_true, true_and}
use Rattle.stack_slots.specs.declared.words.BodyWord.{BodyWord}
use Rattle.stack_slots.specs.declared.words.Touch.{Touch}
use Rattle.stack_slots.specs.CellRules.{same_base, have_one_base, are_of_one_cell, both, uses_cell, use_one_cell, is_first_use, first_uses, is_stored, cell_with, cell_of}
use Rattle.stack_slots.specs.OneList.{OneListLaw}
use Rattle.stack_slots.specs.Results.{IsUse, AreUses, HasCells, AreCellsOf}
use Rattle.stack_slots.specs.Touches.{is_kept, loads_cells, stores_cells, accesses_cells, touch_of, word_at, words_of}
use Rattle.stack_slots.proofs.FirstUses.{has_cell, first_has}
use Rattle.stack_slots.proofs.FoundCells.{word_among, addresses_of, touched, rising_at, some_cell}
use Rattle.stack_slots.proofs.Members.{Member, from_member, kept_member, any_passes, kept_passes}
use Rattle.stack_slots.proofs.Points.{this_nest}

-- ---- accesses of one cell

-- a cell has 8 bytes or 4
abbrev bytes_by : Bool → ℕ
bytes_by wide = if wide then 8 else 4

width_by_load : (op : LoadOp) → loads_cells op ≡ true → bytes_of (load_width op) ≡ bytes_by (bytes_of (load_width op) == 8)
width_by_load Lw e = refl
width_by_load Ld e = refl
width_by_load Lb e = absurd (cc)
width_by_load Lh e = absurd (cc)
width_by_load Lbu e = absurd (cc)
width_by_load Lhu e = absurd (cc)
width_by_load Lwu e = absurd (cc)

width_by_store : (op : StoreOp) → stores_cells op ≡ true → bytes_of (store_width op) ≡ bytes_by (bytes_of (store_width op) == 8)
width_by_store Sw e = refl
width_by_store Sd e = refl
width_by_store Sb e = absurd (cc)
width_by_store Sh e = absurd (cc)

width_by_cell : (i : Option Instr) (m : Motion) → motion_of i ≡ Some m → accesses_cells i ≡ true → bytes_of m.width ≡ bytes_by (bytes_of m.width == 8)
width_by_cell (Some (Load op rd rs1 imm)) m e k = let q : record { base = rs1; offset = imm; width = load_width op; store = false } ≡ m = cc in subst (λ (n : Motion). bytes_of n.width ≡ bytes_by (bytes_of n.width == 8)) q (width_by_load op k)
width_by_cell (Some (Store op rs1 rs2 imm)) m e k = let q : record { base = rs1; offset = imm; width = store_width op; store = true } ≡ m = cc in subst (λ (n : Motion). bytes_of n.width ≡ bytes_by (bytes_of n.width == 8)) q (width_by_store op k)
width_by_cell (Some (Alu op rd rs1 rs2)) m e k = absurd (cc)
width_by_cell (Some (AluImm op rd rs1 imm)) m e k = absurd (cc)
width_by_cell (Some (Upper op rd imm)) m e k = absurd (cc)
width_by_cell (Some (Branch op rs1 rs2 imm)) m e k = absurd (cc)
width_by_cell (Some (Jal rd imm)) m e k = absurd (cc)
width_by_cell (Some (Jalr rd rs1 imm)) m e k = absurd (cc)
width_by_cell (Some (Fence rd rs1 imm)) m e k = absurd (cc)
width_by_cell (Some Ecall) m e k = absurd (cc)
width_by_cell (Some Ebreak) m e k = absurd (cc)
width_by_cell None m e k = absurd (cc)

base_of : (a b : Option ℕ) → a ≡ b → same_base a b ≡ true
base_of a b e = subst (λ c. same_base a c ≡ true) e (self a)
  where
    self : (o : Option ℕ) → same_base o o ≡ true
    self (Some q) = is_eq q q refl
    self None = refl

-- an access with the bytes of a cell
abbrev HasCellWidth : Touch → Type 0
HasCellWidth t = bytes_of t.width ≡ bytes_by (bytes_of t.width == 8)

abbrev cell_by : Bool → Touch → Cell
cell_by stored t = record { base = t.address.base; offset = t.address.offset; wide = bytes_of t.width == 8; stored = stored }

one_by_cell : (a b : Bool) (s t : Touch) → s.of_cell ≡ true → t.of_cell ≡ true → HasCellWidth s → HasCellWidth t → cell_by a s ≡ cell_by b t → are_of_one_cell s t ≡ true
one_by_cell a b s t f g v w e =
    let width : bytes_of s.width ≡ bytes_of t.width = v ∙ ap (λ (c : Cell). bytes_by c.wide) e ∙ sym w in
    true_and (s.of_cell && t.of_cell) (have_one_base s t && (int_eq s.address.offset t.address.offset && (bytes_of s.width == bytes_of t.width)))
    (true_and s.of_cell t.of_cell f g)
    (true_and (have_one_base s t) (int_eq s.address.offset t.address.offset && (bytes_of s.width == bytes_of t.width)) (base_of s.address.base t.address.base (ap (λ (c : Cell). c.base) e))
    (true_and (int_eq s.address.offset t.address.offset) (bytes_of s.width == bytes_of t.width) ((Decides-int_eq s.address.offset t.address.offset).1 (ap (λ (c : Cell). c.offset) e)) (is_eq (bytes_of s.width) (bytes_of t.width) width)))

-- ---- lists, and tests

member_of : {X : Type 0} (xs : List X) (k : ℕ) (x : X) → slice_get xs k ≡ Some x → Member xs x
member_of [] k x e = absurd (cc)
member_of (y ∷ ys) zero x e = inl (cc)
member_of (y ∷ ys) (suc k) x e = inr (member_of ys k x e)

not_both : (b : Bool) → b ≡ true → not b ≡ true → ⊥
not_both true e f = absurd (cc)
not_both false e f = absurd (cc)

lt_of : (a b : ℕ) → a < b → nat_lt a b ≡ true
lt_of a b l = grind (arith, nat_tests)

cases_lt : (a b : ℕ) → (a < b) ⊎ ((b < a) ⊎ (a ≡ b))
cases_lt zero zero = inr (inr refl)
cases_lt zero (suc b) = inl (omega arith)
cases_lt (suc a) zero = inr (inl (omega arith))
cases_lt (suc a) (suc b) = by (cases_lt a b)
  where
    by : (a < b) ⊎ ((b < a) ⊎ (a ≡ b)) → (suc a < suc b) ⊎ ((suc b < suc a) ⊎ (suc a ≡ suc b))
    by (inl l) = inl (omega arith)
    by (inr (inl l)) = inr (inl (omega arith))
    by (inr (inr e)) = inr (inr (ap suc e))

-- cells that are the same in each part
cells_from : (c d : Cells) → c.list.items ≡ d.list.items → c.uses.items ≡ d.uses.items → c.fault ≡ d.fault → c ≡ d
cells_from c d a b e =
    ap (λ xs. record { list = record { items = xs }; uses = record { items = c.uses.items }; fault = c.fault }) a
    ∙ ap (λ us. record { list = record { items = d.list.items }; uses = record { items = us }; fault = c.fault }) b
    ∙ ap (λ v. record { list = record { items = d.list.items }; uses = record { items = d.uses.items }; fault = v }) e

-- ---- the words of a body

module _ (B : LoopCode) (body : List ℕ) (V : ℕ → ℕ → Option Fact) (up : IsStrictlyIncreasing (map (λ (w : BodyWord). w.at) (words_of B body V))) where
  abbrev words : List BodyWord
  words = words_of B body V

  word_is : (w : BodyWord) → Contains words w → w ≡ word_at B body (V w.at) w.at
  word_is w c = (word_among B V body body w c).0

  cell_width : (w : BodyWord) (t : Touch) → Contains words w → w.touch ≡ Some t → t.of_cell ≡ true → HasCellWidth t
  cell_width w t c e f =
      let own : touch_of (is_kept B body) (V w.at) (B.instr w.at) ≡ Some t = sym (ap (λ (x : BodyWord). x.touch) (word_is w c)) ∙ e in
      let x = touched (is_kept B body) (V w.at) (B.instr w.at) t own in
      subst (λ n. bytes_of n ≡ bytes_by (bytes_of n == 8)) (sym x.width) (width_by_cell (B.instr w.at) x.moves x.is (sym x.of_cell ∙ f))

  -- words of one cell use one cell
  one_use : (v w : BodyWord) → Contains words v → Contains words w → uses_cell v ≡ true → uses_cell w ≡ true → cell_of words v ≡ cell_of words w → use_one_cell v w ≡ true
  one_use v w cv cw ev ew e =
      let s = some_cell words v ev in
      let t = some_cell words w ew in
      let a = cell_is v s.0 s.1 s.2 in
      let b = cell_is w t.0 t.1 t.2 in
      let q : cell_by (is_stored words v) s.0 ≡ cell_by (is_stored words w) t.0 = inside (sym a ∙ e ∙ b) in
      both_is s.1 t.1 (one_by_cell (is_stored words v) (is_stored words w) s.0 t.0 s.2 t.2 (cell_width v s.0 cv s.1 s.2) (cell_width w t.0 cw t.1 t.2) q)
    where
      cell_is : (w : BodyWord) (t : Touch) → w.touch ≡ Some t → t.of_cell ≡ true → cell_of words w ≡ Some (cell_by (is_stored words w) t)
      cell_is w t q f = ap (cell_with (is_stored words w)) q ∙ ap (λ b. if b then Some (cell_by (is_stored words w) t) else None) f

      inside : {X : Type 0} {x y : X} → Some x ≡ Some y → x ≡ y
      inside e = cc

      both_is : {s t : Touch} → v.touch ≡ Some s → w.touch ≡ Some t → are_of_one_cell s t ≡ true → use_one_cell v w ≡ true
      both_is {s} {t} a b e = ap (λ o. both are_of_one_cell o w.touch) a ∙ ap (both are_of_one_cell (Some s)) b ∙ e

  abbrev firsts : List BodyWord
  firsts = first_uses words

  abbrev list : List Cell
  list = filter_map (cell_of words) firsts

  -- a cell of the list is that of a first use
  from_first : (fs : List BodyWord) → ((f : BodyWord) → Member fs f → uses_cell f ≡ true) → (k : ℕ) (c : Cell) → cell_at (filter_map (cell_of words) fs) k ≡ Some c
      → (f : BodyWord) × (slice_get fs k ≡ Some f) × (cell_of words f ≡ Some c)
  from_first [] all k c e = absurd (cc)
  from_first (x ∷ xs) all k c e =
      let h = has_cell words x (all x (inl refl)) in
      by h.0 h.1 k (ap (λ o. cell_at (cons_option o (filter_map (cell_of words) xs)) k) (sym h.1) ∙ e) (λ j q. from_first xs (λ g m. all g (inr m)) j c q)
    where
      by : (d : Cell) → cell_of words x ≡ Some d → (k : ℕ) → cell_at (d ∷ filter_map (cell_of words) xs) k ≡ Some c
          → ((j : ℕ) → cell_at (filter_map (cell_of words) xs) j ≡ Some c → (f : BodyWord) × (slice_get xs j ≡ Some f) × (cell_of words f ≡ Some c))
          → (f : BodyWord) × (slice_get (x ∷ xs) k ≡ Some f) × (cell_of words f ≡ Some c)
      by d g zero q later = (x, refl, g ∙ q)
      by d g (suc j) q later = later j q

  -- the first uses rise
  rises : (j k : ℕ) (f g : BodyWord) → j < k → slice_get firsts j ≡ Some f → slice_get firsts k ≡ Some g → f.at < g.at
  rises j k f g l a b =
      let n = length-map firsts (λ (w : BodyWord). w.at) in
      let m = slice_get_within firsts k g b in
      let p = AllPairs-from_increasing (map (λ (w : BodyWord). w.at) firsts) (rising_at words up (is_first_use words)) j k 0 l (omega arith) in
      let x = address j f a in
      let y = address k g b in
      omega arith
    where
      address : (i : ℕ) (h : BodyWord) → slice_get firsts i ≡ Some h → get_or (map (λ (w : BodyWord). w.at) firsts) i 0 ≡ h.at
      address i h e = get_or_from_slice_get (map (λ (w : BodyWord). w.at) firsts) i h.at 0 (slice_get-map (λ (w : BodyWord). w.at) firsts i ∙ ap (option_map (λ (w : BodyWord). w.at)) e)

  -- two places of the list have two cells
  no_later : (j k : ℕ) (c : Cell) → j < k → cell_at list j ≡ Some c → cell_at list k ≡ Some c → ⊥
  no_later j k c l a b =
      let f = from_first firsts (first_has words) j c a in
      let g = from_first firsts (first_has words) k c b in
      let mf = member_of firsts j f.0 f.1 in
      let mg = member_of firsts k g.0 g.1 in
      let one = one_use f.0 g.0 (from_member words f.0 (kept_member (is_first_use words) words f.0 mf)) (from_member words g.0 (kept_member (is_first_use words) words g.0 mg)) (first_has words f.0 mf) (first_has words g.0 mg) (f.2 ∙ sym g.2) in
      let before = lt_of (f.0).at (g.0).at (rises j k f.0 g.0 l f.1 g.1) in
      let found = any_passes (λ (v : BodyWord). nat_lt v.at (g.0).at && use_one_cell v g.0) words f.0 (kept_member (is_first_use words) words f.0 mf) (true_and (nat_lt (f.0).at (g.0).at) (use_one_cell f.0 g.0) before one) in
      let first = (and_true (uses_cell g.0) (not (list_any (λ (v : BodyWord). nat_lt v.at (g.0).at && use_one_cell v g.0) words)) (kept_passes (is_first_use words) words g.0 mg)).1 in
      not_both (list_any (λ (v : BodyWord). nat_lt v.at (g.0).at && use_one_cell v g.0) words) found first

  same_number : (j k : ℕ) (c : Cell) → cell_at list j ≡ Some c → cell_at list k ≡ Some c → j ≡ k
  same_number j k c a b = by (cases_lt j k)
    where
      by : (j < k) ⊎ ((k < j) ⊎ (j ≡ k)) → j ≡ k
      by (inl l) = absurd (no_later j k c l a b)
      by (inr (inl l)) = absurd (no_later k j c l b a)
      by (inr (inr e)) = e

  same_use : (u j k : ℕ) → IsUse words list (u, j) → IsUse words list (u, k) → j ≡ k
  same_use u j k f g =
      let same : f.word ≡ g.word = word_is f.word f.among ∙ ap (λ v. word_at B body (V v) v) (f.at ∙ sym g.at) ∙ sym (word_is g.word g.among) in
      let h = has_cell words f.word f.uses in
      same_number j k h.0 (f.cell ∙ h.1) (g.cell ∙ ap (cell_of words) (sym same) ∙ h.1)

  same_uses : (us vs : List (ℕ × ℕ)) → AreUses words list us → AreUses words list vs → us ≡ vs
  same_uses us vs f g = same_keyed (λ (u : ℕ × ℕ). u.0) us vs (f.words_are ∙ sym g.words_are) same
    where
      same : (u v : ℕ × ℕ) → Contains us u → Contains vs v → u.0 ≡ v.0 → u ≡ v
      same u v c d e =
          let h : IsUse words list (v.0, u.1) = subst (λ n. IsUse words list (n, u.1)) e (f.each u c) in
          ap (λ n. (n, u.1)) e ∙ ap (λ n. (v.0, n)) (same_use v.0 u.1 v.1 h (g.each v d))

  -- where there is no fault the lists and the uses are the same
  same_listed : (c d : Cells) → HasCells words c → HasCells words d → c.fault ≡ None → d.fault ≡ None → (c.list.items ≡ d.list.items) × (c.uses.items ≡ d.uses.items)
  same_listed c d f g e h = (f.list e ∙ sym (g.list h), same_uses c.uses.items d.uses.items one other)
    where
      one : AreUses words list c.uses.items
      one = subst (λ cs. AreUses words cs c.uses.items) (f.list e) (f.uses e)

      other : AreUses words list d.uses.items
      other = subst (λ cs. AreUses words cs d.uses.items) (g.list h) (g.uses h)

  pub same_cells : (c d : Cells) → HasCells words c → HasCells words d → c ≡ d
  same_cells c d f g = by c.fault refl
    where
      fault : c.fault ≡ d.fault
      fault = f.fault ∙ sym g.fault

      by : (o : Option Verdict) → c.fault ≡ o → c ≡ d
      by None e = let s = same_listed c d f g e (sym fault ∙ e) in cells_from c d s.0 s.1 fault
      by (Some v) e =
          let a = f.none (λ n. some_is_none (sym e ∙ n)) in
          let b = g.none (λ n. some_is_none (sym e ∙ fault ∙ n)) in
          cells_from c d (a.0 ∙ sym b.0) (a.1 ∙ sym b.1) fault
        where
          some_is_none : Some v ≡ None → ⊥
          some_is_none n = absurd (cc)

module _ (G : Graph) (ls : List Level) (c d : Cells) (nest : AreNest G ls) (one : AreCellsOf G ls c) (other : AreCellsOf G ls d) where
  abbrev N : Nest
  N = nest_of G nest.root nest.inner

  abbrev D : LoopCode
  D = code_of G no_cells

  pass : (V : ℕ → ℕ → Option Fact) × AreFacts N D nest.root V
  pass = facts_exist N D nest.root nest.nest (inl refl)

  rising : IsStrictlyIncreasing (map (λ (w : BodyWord). w.at) (words_of D nest.root.body pass.0))
  rising = subst (λ xs. IsStrictlyIncreasing xs) (sym (addresses_of D pass.0 nest.root.body nest.root.body)) (nest.ordered nest.root (inl refl))

  pub list_is_one : c ≡ d
  list_is_one = same_cells D nest.root.body pass.0 rising c d (one N pass.0 (this_nest G ls nest) pass.1) (other N pass.0 (this_nest G ls nest) pass.1)

pub one_list : OneListLaw
one_list G ls c d nest one other = list_is_one G ls c d nest one other
