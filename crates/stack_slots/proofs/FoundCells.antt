-- Each use of a cell is an access at the cell's address.
use Rattle.std.proofs.Common.{inl, ◌≡◌, ℕ, ℤ, pos, negsuc, ◌+◌, ◌<◌, ◌≤◌, zero, suc, ◌==◌, Bool, true, false, not, if◌then◌else◌, ◌&&◌, nat_le, nat_lt, List, [], ◌∷◌, length, map, filter, get_or, Option, Some, None, refl, ap, sym, ◌∙◌, subst, arith}
use Rattle.std.specs.List.{All, AllPairs, Contains, cons_option, filter_map}
use Rattle.std.specs.List.Sorted.{IsStrictlyIncreasing}
use Rattle.std.specs.Prelude.{slice_get, find}
use Rattle.std.proofs.lemmas.Int.{ints}
use Rattle.std.proofs.lemmas.Bool.{ltb-true}
use Rattle.std.proofs.lemmas.Bool.Decides.{nat_tests}
use Rattle.std.proofs.lemmas.List.{get_or-map, length-map, get_or_default}
use Rattle.std.proofs.lemmas.List.Kept.{AllPairs-from_increasing, AllPairs-filter}
use Rattle.rv64_decode.specs.Area.{bytes_of}
use Rattle.rv64_decode.specs.Form.{IsSigned}
use Rattle.rv64_decode.specs.Row.{load_width, store_width}
use Rattle.rv64_decode.specs.declared.instr.Instr.{Instr}
use Rattle.rv64_decode.specs.declared.instr.Instr.TheVariants.{Alu, AluImm, Upper, Load, Store, Branch, Jal, Jalr, Fence, Ecall, Ebreak}
use Rattle.rv64_decode.specs.declared.instr.LoadOp.{LoadOp}
use Rattle.rv64_decode.specs.declared.instr.LoadOp.TheVariants.{Lb, Lh, Lw, Ld, Lbu, Lhu, Lwu}
use Rattle.rv64_decode.specs.declared.instr.StoreOp.{StoreOp}
use Rattle.rv64_decode.specs.declared.instr.StoreOp.TheVariants.{Sb, Sh, Sw, Sd}
use Rattle.linear_forms.specs.Forms.{between}
use Rattle.loop_data.specs.declared.cells.Cells.{Cells}
use Rattle.loop_data.specs.declared.verdict.Cell.{Cell}
use Rattle.loop_data.specs.declared.verdict.Verdict.{Verdict}
use Rattle.loop_data.specs.declared.graph.Graph.{Graph}
use Rattle.loop_data.specs.declared.shape.Level.{Level}
use Rattle.loop_data.specs.Accesses.{Motion, motion_of}
use Rattle.loop_data.specs.Facts.{Fact, Number, Offset, fact_read, fact_sum}
use Rattle.loop_data.specs.FactPass.{AreFacts}
use Rattle.loop_data.specs.FoundCells.{address_by, HasFixedBase, IsFoundUse}
use Rattle.loop_data.specs.Locations.{CellMap, no_cells, first_cell, cell_at, writes_register, writes_cell, instr_writes, moves_cell}
use Rattle.loop_data.specs.LoopCode.{LoopCode, code_of, any_writes, IsUnwritten}
use Rattle.loop_data.specs.LoopWords.{AreNest}
use Rattle.loop_data.specs.Lookups.{cell_map, use_of, AreNumbered}
use Rattle.loop_data.specs.Nests.{Nest, Holds, nest_of}
use Rattle.loop_data.proofs.FactUnique.{none_writes_it}
use Rattle.loop_data.proofs.FactsExist.{facts_exist}
use Rattle.loop_data.proofs.Tests.{eq_of, and_true}
use Rattle.linear_forms.proofs.Ranges.{between_is}
use Rattle.stack_slots.specs.declared.words.BodyWord.{BodyWord}
use Rattle.stack_slots.specs.declared.words.KnownAddress.{KnownAddress}
use Rattle.stack_slots.specs.declared.words.Touch.{Touch}
use Rattle.stack_slots.specs.CellRules.{uses_cell, is_of_cell, is_first_use, first_uses, cell_with, cell_of, is_stored, is_far_auipc, limit_at, limit_of}
use Rattle.stack_slots.specs.CellLaws.{NumberedLaw, FoundLaw, BasesLaw, HasOffset, OffsetsLaw}
use Rattle.stack_slots.specs.Results.{AreUses, HasCells, AreCellsOf}
use Rattle.stack_slots.specs.Touches.{is_kept, known_by, known_address, loads_cells, stores_cells, accesses_cells, touch_with, touch_by, touch_of, word_at, words_of}
use Rattle.stack_slots.proofs.Members.{to_member, from_member, kept_member, kept_source}
use Rattle.stack_slots.proofs.Limits.{first_none, later_none}
use Rattle.stack_slots.proofs.Points.{nest_is, this_nest}

-- ---- the words of a body

-- a word of the body is that of its address
pub word_among : (B : LoopCode) (V : ℕ → ℕ → Option Fact) (body us : List ℕ) (w : BodyWord) → Contains (map (λ (u : ℕ). word_at B body (V u) u) us) w → (w ≡ word_at B body (V w.at) w.at) × Contains us w.at
word_among B V body us w c =
    let n = length-map us (λ (u : ℕ). word_at B body (V u) u) in
    let l : c.0 < length us = let k = c.1 in omega arith in
    let e : word_at B body (V (get_or us c.0 0)) (get_or us c.0 0) ≡ w = sym (get_or-map (λ (u : ℕ). word_at B body (V u) u) us c.0 0 w l) ∙ c.2 in
    let a : get_or us c.0 0 ≡ w.at = ap (λ (x : BodyWord). x.at) e in
    (sym (subst (λ u. word_at B body (V u) u ≡ w) a e), (c.0, l, get_or_default us c.0 w.at 0 l ∙ a))

pub addresses_of : (B : LoopCode) (V : ℕ → ℕ → Option Fact) (body us : List ℕ) → map (λ (w : BodyWord). w.at) (map (λ (u : ℕ). word_at B body (V u) u) us) ≡ us
addresses_of B V body [] = refl
addresses_of B V body (u ∷ us) = ap (λ xs. u ∷ xs) (addresses_of B V body us)

-- ---- addresses that are known

-- a register but x0 that no word of the body writes
kept_is : (G : Graph) (C : CellMap) (l : Level) (q : ℕ) → is_kept (code_of G no_cells) l.body q ≡ true → (1 ≤ q) × (q < first_cell) × IsUnwritten (code_of G C) l q
kept_is G C l q e = go (nat_le 1 q && nat_lt q first_cell) refl e
  where
    go : (b : Bool) → (nat_le 1 q && nat_lt q first_cell) ≡ b → (if b then not (any_writes (code_of G no_cells) l.body q) else false) ≡ true → (1 ≤ q) × (q < first_cell) × IsUnwritten (code_of G C) l q
    go true f h =
        let none : any_writes (code_of G no_cells) l.body q ≡ false = not_false (any_writes (code_of G no_cells) l.body q) h in
        let parts = and_true (nat_le 1 q) (nat_lt q first_cell) f in
        (at_least q parts.0, ltb-true q first_cell parts.1, λ u hu. low (instr_of u) (C.uses u) parts.1 ∙ none_writes_it (code_of G no_cells) l.body q u none hu)
      where
        at_least : (n : ℕ) → nat_le 1 n ≡ true → 1 ≤ n
        at_least n g = grind (arith, nat_tests)

        not_false : (b : Bool) → not b ≡ true → b ≡ false
        not_false false h = refl
        not_false true h = absurd (cc)

        instr_of : ℕ → Option Instr
        instr_of u = (code_of G no_cells).instr u

        low : (i : Option Instr) (d : Option ℕ) → nat_lt q first_cell ≡ true → instr_writes i d q ≡ instr_writes i None q
        low None d f = refl
        low (Some i) d f = ap (λ b. if b then writes_register i q else writes_cell i d q) f ∙ sym (ap (λ b. if b then writes_register i q else writes_cell i None q) f)
    go false f h = absurd (cc)

near_number : (z : ℤ) → between (pos 0) (pos 0x7FFF_F800) z ≡ true → IsSigned 32 z
near_number z e = let p = between_is (pos 0) (pos 0x7FFF_F800) z e in let a = p.0 in let b = p.1 in (omega (arith, ints), omega (arith, ints))

near_offset : (z : ℤ) → between (negsuc 2047) (pos 2048) z ≡ true → IsSigned 32 z
near_offset z e = let p = between_is (negsuc 2047) (pos 2048) z e in let a = p.0 in let b = p.1 in (omega (arith, ints), omega (arith, ints))

short_offset : (z : ℤ) → between (negsuc 2047) (pos 2048) z ≡ true → IsSigned 12 z
short_offset z e = let p = between_is (negsuc 2047) (pos 2048) z e in let a = p.0 in let b = p.1 in (omega (arith, ints), omega (arith, ints))

-- what is known of an address that is known
record Known (G : Graph) (C : CellMap) (l : Level) (o : Option Fact) (a : KnownAddress) : Type 0 where
  pub fact : o ≡ Some (address_by a.base a.offset)
  pub base : (N : Nest) → N.root ≡ l → HasFixedBase N (code_of G C) a.base
  pub kept : (q : ℕ) → a.base ≡ Some q → (1 ≤ q) × (q < first_cell) × IsUnwritten (code_of G C) l q
  pub near : IsSigned 32 a.offset
  pub offset : HasOffset a.base a.offset

known_is : (G : Graph) (C : CellMap) (l : Level) (o : Option Fact) (a : KnownAddress) → known_by (is_kept (code_of G no_cells) l.body) o ≡ Some a → Known G C l o a
known_is G C l None a e = absurd (cc)
known_is G C l (Some (Number z)) a e = go (between (pos 0) (pos 0x7FFF_F800) z) refl e
  where
    go : (b : Bool) → between (pos 0) (pos 0x7FFF_F800) z ≡ b → (if b then Some (record { base = None; offset = z }) else None) ≡ Some a → Known G C l (Some (Number z)) a
    go true f h =
        let q : record { base = None; offset = z } ≡ a = cc in
        subst (Known G C l (Some (Number z))) q (record { fact = refl; base = λ N e. tt; kept = λ q k. absurd (cc); near = near_number z f; offset = between_is (pos 0) (pos 0x7FFF_F800) z f })
    go false f h = absurd (cc)
known_is G C l (Some (Offset q z)) a e = go (is_kept (code_of G no_cells) l.body q) refl (between (negsuc 2047) (pos 2048) z) refl e
  where
    go : (k : Bool) → is_kept (code_of G no_cells) l.body q ≡ k → (b : Bool) → between (negsuc 2047) (pos 2048) z ≡ b
        → (if k then (if b then Some (record { base = Some q; offset = z }) else None) else None) ≡ Some a → Known G C l (Some (Offset q z)) a
    go true g true f h =
        let y : record { base = Some q; offset = z } ≡ a = cc in
        subst (Known G C l (Some (Offset q z))) y (record { fact = refl; base = λ N e. subst (λ (m : Level). (q < first_cell) × IsUnwritten (code_of G C) m q) (sym e) (let k = kept_is G C l q g in (k.1, k.2)); kept = λ r k. kept_is G C l r (let x : q ≡ r = cc in subst (λ n. is_kept (code_of G no_cells) l.body n ≡ true) x g); near = near_offset z f; offset = short_offset z f })
    go true g false f h = absurd (cc)
    go false g b f h = absurd (cc)

-- the instruction moves the bytes of the cell
width_is : (i : Option Instr) (m : Motion) → motion_of i ≡ Some m → accesses_cells i ≡ true → moves_cell i (bytes_of m.width == 8) ≡ true
width_is (Some (Load op rd rs1 imm)) m e k = let q : record { base = rs1; offset = imm; width = load_width op; store = false } ≡ m = cc in subst (λ (n : Motion). moves_cell (Some (Load op rd rs1 imm)) (bytes_of n.width == 8) ≡ true) q (by op k)
  where
    by : (op : LoadOp) → loads_cells op ≡ true → moves_cell (Some (Load op rd rs1 imm)) (bytes_of (load_width op) == 8) ≡ true
    by Lw k = refl
    by Ld k = refl
    by Lb k = absurd (cc)
    by Lh k = absurd (cc)
    by Lbu k = absurd (cc)
    by Lhu k = absurd (cc)
    by Lwu k = absurd (cc)
width_is (Some (Store op rs1 rs2 imm)) m e k = let q : record { base = rs1; offset = imm; width = store_width op; store = true } ≡ m = cc in subst (λ (n : Motion). moves_cell (Some (Store op rs1 rs2 imm)) (bytes_of n.width == 8) ≡ true) q (by op k)
  where
    by : (op : StoreOp) → stores_cells op ≡ true → moves_cell (Some (Store op rs1 rs2 imm)) (bytes_of (store_width op) == 8) ≡ true
    by Sw k = refl
    by Sd k = refl
    by Sb k = absurd (cc)
    by Sh k = absurd (cc)
width_is (Some (Alu op rd rs1 rs2)) m e k = absurd (cc)
width_is (Some (AluImm op rd rs1 imm)) m e k = absurd (cc)
width_is (Some (Upper op rd imm)) m e k = absurd (cc)
width_is (Some (Branch op rs1 rs2 imm)) m e k = absurd (cc)
width_is (Some (Jal rd imm)) m e k = absurd (cc)
width_is (Some (Jalr rd rs1 imm)) m e k = absurd (cc)
width_is (Some (Fence rd rs1 imm)) m e k = absurd (cc)
width_is (Some Ecall) m e k = absurd (cc)
width_is (Some Ebreak) m e k = absurd (cc)
width_is None m e k = absurd (cc)

-- what a touch is
pub record Touched (kept : ℕ → Bool) (F : ℕ → Option Fact) (i : Option Instr) (t : Touch) : Type 0 where
  pub moves : Motion
  pub is : motion_of i ≡ Some moves
  pub address : known_address kept F moves.base moves.offset ≡ Some t.address
  pub width : t.width ≡ moves.width
  pub of_cell : t.of_cell ≡ accesses_cells i

pub touched : (kept : ℕ → Bool) (F : ℕ → Option Fact) (i : Option Instr) (t : Touch) → touch_of kept F i ≡ Some t → Touched kept F i t
touched kept F i t e = go (motion_of i) refl e
  where
    go : (o : Option Motion) → motion_of i ≡ o → touch_by kept F (accesses_cells i) o ≡ Some t → Touched kept F i t
    go None q h = absurd (cc)
    go (Some m) q h = by (known_address kept F m.base m.offset) refl h
      where
        by : (a : Option KnownAddress) → known_address kept F m.base m.offset ≡ a → touch_with (accesses_cells i) m a ≡ Some t → Touched kept F i t
        by None g h = absurd (cc)
        by (Some a) g h =
            let y : record { address = a; width = m.width; store = m.store; of_cell = accesses_cells i } ≡ t = cc in
            record { moves = m; is = q; address = g ∙ ap (λ (x : Touch). Some x.address) y; width = sym (ap (λ (x : Touch). x.width) y); of_cell = sym (ap (λ (x : Touch). x.of_cell) y) }

-- ---- numbers of uses

pub rising_at : (ws : List BodyWord) → IsStrictlyIncreasing (map (λ (w : BodyWord). w.at) ws) → (p : BodyWord → Bool) → IsStrictlyIncreasing (map (λ (w : BodyWord). w.at) (filter p ws))
rising_at ws up p k within =
    let d : BodyWord = record { at = 0; instr = None; touch = None } in
    let n = length-map (filter p ws) (λ (w : BodyWord). w.at) in
    let pairs = AllPairs-filter (λ (x y : BodyWord). x.at < y.at) p ws rise k (k + 1) d (omega arith) (omega arith) in
    let a = get_or-map (λ (w : BodyWord). w.at) (filter p ws) k d 0 (omega arith) in
    let b = get_or-map (λ (w : BodyWord). w.at) (filter p ws) (k + 1) d 0 (omega arith) in
    omega arith
  where
    rise : AllPairs (λ (x y : BodyWord). x.at < y.at) ws
    rise i j d lt within =
        let n = length-map ws (λ (w : BodyWord). w.at) in
        let p = AllPairs-from_increasing (map (λ (w : BodyWord). w.at) ws) up i j 0 lt (omega arith) in
        let a = get_or-map (λ (w : BodyWord). w.at) ws i d 0 (omega arith) in
        let b = get_or-map (λ (w : BodyWord). w.at) ws j d 0 within in
        omega arith

pub some_cell : (words : List BodyWord) (w : BodyWord) → uses_cell w ≡ true → (t : Touch) × (w.touch ≡ Some t) × (t.of_cell ≡ true)
some_cell words w e = go w.touch refl e
  where
    go : (o : Option Touch) → w.touch ≡ o → is_of_cell o ≡ true → (t : Touch) × (w.touch ≡ Some t) × (t.of_cell ≡ true)
    go (Some t) q f = (t, q, f)
    go None q f = absurd (cc)

-- the cell of an access of a cell
abbrev cell_by : Bool → Touch → Cell
cell_by stored t = record { base = t.address.base; offset = t.address.offset; wide = bytes_of t.width == 8; stored = stored }

cell_is : (words : List BodyWord) (w : BodyWord) (t : Touch) → w.touch ≡ Some t → t.of_cell ≡ true → cell_of words w ≡ Some (cell_by (is_stored words w) t)
cell_is words w t q f = ap (cell_with (is_stored words w)) q ∙ ap (λ b. if b then Some (cell_by (is_stored words w) t) else None) f

-- the access of a word that has a cell, its base and its offset
cell_touch : (words : List BodyWord) (w : BodyWord) (c : Cell) → cell_of words w ≡ Some c
    → (t : Touch) × (w.touch ≡ Some t) × (t.address.base ≡ c.base) × (t.address.offset ≡ c.offset)
cell_touch words w c e = go w.touch refl e
  where
    go : (o : Option Touch) → w.touch ≡ o → cell_with (is_stored words w) o ≡ Some c
        → (t : Touch) × (w.touch ≡ Some t) × (t.address.base ≡ c.base) × (t.address.offset ≡ c.offset)
    go None q h = absurd (cc)
    go (Some t) q h = let x = by t.of_cell h in (t, q, x.0, x.1)
      where
        by : (b : Bool) → (if b then Some (cell_by (is_stored words w) t) else None) ≡ Some c → (t.address.base ≡ c.base) × (t.address.offset ≡ c.offset)
        by true g = let x : cell_by (is_stored words w) t ≡ c = cc in (ap (λ (y : Cell). y.base) x, ap (λ (y : Cell). y.offset) x)
        by false g = absurd (cc)

cell_below : (cs : List Cell) (k : ℕ) (c : Cell) → cell_at cs k ≡ Some c → k < length cs
cell_below [] k c e = absurd (cc)
cell_below (x ∷ xs) zero c e = omega arith
cell_below (x ∷ xs) (suc k) c e = let l = cell_below xs k c e in omega arith

kept_length : {X Y : Type 0} (h : X → Option Y) (xs : List X) → length (filter_map h xs) ≤ length xs
kept_length h [] = omega arith
kept_length h (x ∷ xs) = go (h x) (kept_length h xs)
  where
    go : (o : Option _) → length (filter_map h xs) ≤ length xs → length (cons_option o (filter_map h xs)) ≤ suc (length xs)
    go None l = omega arith
    go (Some y) l = omega arith

pub no_more : {X : Type 0} (xs : List X) (n : ℕ) → slice_get xs n ≡ None → length xs ≤ n
no_more [] n e = omega arith
no_more (x ∷ xs) zero e = absurd (cc)
no_more (x ∷ xs) (suc n) e = let l = no_more xs n e in omega arith

pub no_limit : (o : Option BodyWord) → limit_at o ≡ None → o ≡ None
no_limit None e = refl
no_limit (Some w) e = absurd (cc)

module _ (G : Graph) (ls : List Level) (c : Cells) (nest : AreNest G ls) (cells : AreCellsOf G ls c) (sound : c.fault ≡ None) where
  abbrev N : Nest
  N = nest_of G nest.root nest.inner

  abbrev D : LoopCode
  D = code_of G no_cells

  abbrev body : List ℕ
  body = nest.root.body

  module _ (V : ℕ → ℕ → Option Fact) (facts : AreFacts N D nest.root V) where
    abbrev words : List BodyWord
    words = words_of D body V

    has_cells : HasCells words c
    has_cells = cells N V (this_nest G ls nest) facts

    uses : AreUses words c.list.items c.uses.items
    uses = has_cells.uses sound

    ordered : IsStrictlyIncreasing (map (λ (u : ℕ × ℕ). u.0) c.uses.items)
    ordered =
        subst (λ xs. IsStrictlyIncreasing xs) (sym uses.words_are)
        (rising_at words (subst (λ xs. IsStrictlyIncreasing xs) (sym (addresses_of D V body body)) (nest.ordered nest.root (inl refl))) uses_cell)

    numbers : All (λ (u : ℕ × ℕ). u.1 < length c.list.items) c.uses.items
    numbers k d l =
        let u = get_or c.uses.items k d in
        let is = uses.each u (k, l, sym (get_or_default c.uses.items k d u l)) in
        let t = some_cell words is.word is.uses in
        cell_below c.list.items u.1 (cell_by (is_stored words is.word) t.0) (is.cell ∙ cell_is words is.word t.0 t.1 t.2)

    few : length c.list.items ≤ 16
    few =
        let none = sym has_cells.fault ∙ sound in
        let l = no_more (first_uses words) 16 (no_limit (slice_get (first_uses words) 16) (first_none _ _ (later_none (limit_at (find is_far_auipc words)) _ (first_none (limit_of words) _ none)))) in
        let m = kept_length (cell_of words) (first_uses words) in
        let e = ap length (has_cells.list sound) in
        omega arith

    -- the address of a cell that is listed
    address_known : (cell : Cell) → Contains c.list.items cell → (o : Option Fact) × (a : KnownAddress) × Known G (cell_map c) nest.root o a × (a.base ≡ cell.base) × (a.offset ≡ cell.offset)
    address_known cell k =
        let s = kept_source (cell_of words) (first_uses words) cell (to_member (filter_map (cell_of words) (first_uses words)) cell (subst (λ cs. Contains cs cell) (has_cells.list sound) k)) in
        let w = s.element in
        let a = word_among D V body body w (from_member words w (kept_member (is_first_use words) words w s.member)) in
        let t = cell_touch words w cell s.is in
        let own : touch_of (is_kept D body) (V w.at) (D.instr w.at) ≡ Some t.0 = sym (ap (λ (x : BodyWord). x.touch) a.0) ∙ t.1 in
        let x = touched (is_kept D body) (V w.at) (D.instr w.at) t.0 own in
        let o = fact_sum (fact_read (V w.at) (x.moves).base) (Some (Number (x.moves).offset)) in
        (o, (t.0).address, known_is G (cell_map c) nest.root o (t.0).address x.address, t.2, t.3)

    base_kept : (cell : Cell) → Contains c.list.items cell → (q : ℕ) → cell.base ≡ Some q → (1 ≤ q) × (q < first_cell) × IsUnwritten (code_of G (cell_map c)) nest.root q
    base_kept cell k q e = let a = address_known cell k in (a.2).kept q (a.3 ∙ e)

    has_offset : (cell : Cell) → Contains c.list.items cell → HasOffset cell.base cell.offset
    has_offset cell k =
        let a = address_known cell k in
        subst (λ z. HasOffset cell.base z) a.4 (subst (λ b. HasOffset b (a.1).offset) a.3 (a.2).offset)

    pub is_numbered : AreNumbered c
    is_numbered = record { ordered = ordered; numbers = numbers; few = few }

    -- the number that is looked up is a use's
    use_among : (us : List (ℕ × ℕ)) (u k : ℕ) → use_of us u ≡ Some k → Contains us (u, k)
    use_among [] u k e = absurd (cc)
    use_among (x ∷ xs) u k e = go (x.0 == u) refl e (use_among xs u k)
      where
        go : (b : Bool) → (x.0 == u) ≡ b → (if b then Some x.1 else use_of xs u) ≡ Some k → (use_of xs u ≡ Some k → Contains xs (u, k)) → Contains (x ∷ xs) (u, k)
        go true f h later = let p = eq_of x.0 u f in let q : x.1 ≡ k = cc in (0, (omega arith), (ap (λ a. (a, x.1)) p ∙ ap (λ b. (u, b)) q))
        go false f h later = let r = later h in (suc r.0, (let l = r.1 in omega arith), r.2)

    pub found : (u k : ℕ) → use_of c.uses.items u ≡ Some k → IsFoundUse N (code_of G (cell_map c)) (V u) u k
    found u k e =
        let is = uses.each (u, k) (use_among c.uses.items u k e) in
        let w = is.word in
        let a = word_among D V body body w is.among in
        let t = some_cell words w is.uses in
        let here : word_at D body (V u) u ≡ w = subst (λ v. word_at D body (V v) v ≡ w) is.at (sym a.0) in
        let own : touch_of (is_kept D body) (V u) (D.instr u) ≡ Some t.0 = ap (λ (x : BodyWord). x.touch) here ∙ t.1 in
        let x = touched (is_kept D body) (V u) (D.instr u) t.0 own in
        let known = known_is G (cell_map c) nest.root (fact_sum (fact_read (V u) (x.moves).base) (Some (Number (x.moves).offset))) (t.0).address x.address in
        record {
          cell = cell_by (is_stored words w) t.0;
          at = is.cell ∙ cell_is words w t.0 t.1 t.2;
          width = subst (λ n. moves_cell (D.instr u) (bytes_of n == 8) ≡ true) (sym x.width) (width_is (D.instr u) x.moves x.is (sym x.of_cell ∙ t.2));
          moves = x.moves;
          is = x.is;
          address = known.fact;
          base = known.base N refl;
          near = known.near;
        }

pub found_law : FoundLaw
found_law G ls c N V nest cells sound is facts =
    let e = nest_is G ls nest N is in
    let own = subst (λ (M : Nest). AreFacts M (code_of G no_cells) M.root V) e facts in
    subst (λ (M : Nest). (u k : ℕ) → Holds M.root u → use_of c.uses.items u ≡ Some k → IsFoundUse M (code_of G (cell_map c)) (V u) u k) (sym e)
    (λ u k h q. found G ls c nest cells sound V own u k q)

pub numbered_law : NumberedLaw
numbered_law G ls c nest cells sound = let f = facts_exist (nest_of G nest.root nest.inner) (code_of G no_cells) nest.root nest.nest (inl refl) in is_numbered G ls c nest cells sound f.0 f.1

-- where the cells decide against the loop, none is listed
none_listed : (words : List BodyWord) (c : Cells) (v : Verdict) → HasCells words c → c.fault ≡ Some v → (cell : Cell) → ¬ Contains c.list.items cell
none_listed words c v has decided cell among =
    let none = has.none (λ n. let x : Some v ≡ None = sym decided ∙ n in absurd (cc)) in
    let k = subst (λ cs. Contains cs cell) none.0 among in
    absurd (let l = k.1 in omega arith)

pub bases_law : BasesLaw
bases_law G ls c N nest cells is cell among q e = go c.fault refl
  where
    f : (V : ℕ → ℕ → Option Fact) × AreFacts (nest_of G nest.root nest.inner) (code_of G no_cells) nest.root V
    f = facts_exist (nest_of G nest.root nest.inner) (code_of G no_cells) nest.root nest.nest (inl refl)

    own : (1 ≤ q) × (q < first_cell) × IsUnwritten (code_of G (cell_map c)) nest.root q → (1 ≤ q) × (q < first_cell) × IsUnwritten (code_of G (cell_map c)) N.root q
    own h = subst (λ (M : Nest). (1 ≤ q) × (q < first_cell) × IsUnwritten (code_of G (cell_map c)) M.root q) (sym (nest_is G ls nest N is)) h

    go : (o : Option Verdict) → c.fault ≡ o → (1 ≤ q) × (q < first_cell) × IsUnwritten (code_of G (cell_map c)) N.root q
    go None sound = own (base_kept G ls c nest cells sound f.0 f.1 cell among q e)
    go (Some v) decided = absurd (none_listed _ c v (cells (nest_of G nest.root nest.inner) f.0 (this_nest G ls nest) f.1) decided cell among)

pub offsets_law : OffsetsLaw
offsets_law G ls c nest cells cell among = go c.fault refl
  where
    f : (V : ℕ → ℕ → Option Fact) × AreFacts (nest_of G nest.root nest.inner) (code_of G no_cells) nest.root V
    f = facts_exist (nest_of G nest.root nest.inner) (code_of G no_cells) nest.root nest.nest (inl refl)

    go : (o : Option Verdict) → c.fault ≡ o → HasOffset cell.base cell.offset
    go None sound = has_offset G ls c nest cells sound f.0 f.1 cell among
    go (Some v) decided = absurd (none_listed _ c v (cells (nest_of G nest.root nest.inner) f.0 (this_nest G ls nest) f.1) decided cell among)
