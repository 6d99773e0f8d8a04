-- The copy of a word, by the places that it names.
use Rattle.std.proofs.Common.{◌≡◌, ℕ, ◌+◌, refl, sym, ap, ◌∙◌, Bool, true, false, Option, Some, None, Result, Ok, Err, ℤ, subst, arith, ◌<◌, List, [], ◌∷◌, ◌++◌, length, if◌then◌else◌}
use Rattle.std.specs.Prelude.{◌==◌, ◌&&◌, IfOk, IfSome}
use Rattle.rv64_decode.specs.declared.instr.LoadOp.{LoadOp}
use Rattle.rv64_decode.specs.declared.instr.StoreOp.{StoreOp}
use Rattle.loop_data.specs.declared.cells.Cells.{Cells}
use Rattle.loop_data.specs.Lookups.{AreNumbered, use_of}
use Rattle.loop_data.proofs.ValuePlaces.{few_of}
use Rattle.rv64_decode.specs.declared.instr.LoadOp.TheVariants.{Lb, Lh, Lw, Lbu, Lhu, Lwu, Ld}
use Rattle.rv64_decode.specs.declared.instr.UpperOp.TheVariants.{Lui, Auipc}
use Rattle.rv64_decode.specs.declared.instr.Instr.{Instr}
use Rattle.rv64_decode.specs.declared.instr.Instr.TheVariants.{Alu, AluImm, Upper, Load, Store, Branch, Jal, Jalr, Fence, Ecall, Ebreak}
use Rattle.rv64_decode.specs.Row.{next_pc}
use Rattle.loop_data.specs.declared.shape.Level.{Level}
use Rattle.loop_data.specs.LoopCode.{LoopCode}
use Rattle.stub_laws.specs.Code.{Appended}
use Rattle.stub_laws.specs.Places.{behind}
use Rattle.stub_laws.proofs.Appends.{joined, as_list, no_word}
use Rattle.turn_copies.specs.Copies.{Placing, Kind, Leaving, OfCell, Plain, arrive, kind_by, kind_of, falls_through, jump_to, word_code, back_code, copy_by, copy_of, copy_code, word_size, place_in, end_in, in_order}
use Rattle.outliner.specs.Words.{target_of, word_at, copy_at}
use Rattle.outliner.proofs.Appends.{behind_is}

word_same : (l : Level) (c : Placing) (u : ℕ) (kind : Kind) (i : Instr) → word_code l c u kind i ≡ word_at u (c.place u) (arrive l c (target_of l u kind i)) kind i
word_same l c u Leaving i = refl
word_same l c u (OfCell k) (Load Lb rd rs1 imm) = refl
word_same l c u (OfCell k) (Load Lh rd rs1 imm) = refl
word_same l c u (OfCell k) (Load Lw rd rs1 imm) = refl
word_same l c u (OfCell k) (Load Lbu rd rs1 imm) = refl
word_same l c u (OfCell k) (Load Lhu rd rs1 imm) = refl
word_same l c u (OfCell k) (Load Lwu rd rs1 imm) = refl
word_same l c u (OfCell k) (Load Ld rd rs1 imm) = refl
word_same l c u (OfCell k) (Store op rs1 rs2 imm) = refl
word_same l c u (OfCell k) i = refl
word_same l c u Plain (Upper Auipc rd imm) = refl
word_same l c u Plain (Upper Lui rd imm) = refl
word_same l c u Plain (Branch op rs1 rs2 imm) = refl
word_same l c u Plain (Jal rd imm) = refl
word_same l c u Plain i = refl

word_long : (l : Level) (c : Placing) (u : ℕ) (kind : Kind) (i : Instr) → length (word_code l c u kind i) ≡ word_size kind i
word_long l c u Leaving i = refl
word_long l c u (OfCell k) (Load Lw rd rs1 imm) = refl
word_long l c u (OfCell k) (Load op rd rs1 imm) = refl
word_long l c u (OfCell k) (Store op rs1 rs2 imm) = refl
word_long l c u (OfCell k) i = refl
word_long l c u Plain (Upper Auipc rd imm) = refl
word_long l c u Plain i = refl

pub copy_same : (l : Level) (c : Placing) (u : ℕ) (kind : Kind) (i : Instr) → copy_by l c u kind i ≡ copy_at l u (c.place u) (arrive l c (target_of l u kind i)) c.next kind i
copy_same l c u kind i =
    let w = word_code l c u kind i in
    let e : behind (c.place u) w ≡ c.place u + word_size kind i = behind_is (c.place u) w ∙ ap (λ n. c.place u + n) (word_long l c u kind i) in
    ap (λ p. w ++ back_code l c p u i) e ∙ ap (λ v. v ++ back_code l c (c.place u + word_size kind i) u i) (word_same l c u kind i)

two_same : {X Y Z : Type 0} (f : X → Y → Z) (a a' : X) (b b' : Y) → a ≡ a' → b ≡ b' → f a b ≡ f a' b'
two_same f a a' b b' d e = cc

three_same : {Z : Type 0} (f : ℕ → ℕ → ℕ → Z) (a a' b b' c c' : ℕ) → a ≡ a' → b ≡ b' → c ≡ c' → f a b c ≡ f a' b' c'
three_same f a a' b b' c c' d e g = cc

-- the word, and behind it the jump where there is one
pub back_words : (a b d : List ℕ) (l : Level) (u at to end here : ℕ) (kind : Kind) (i : Instr) → here ≡ at + word_size kind i → Appended a b (word_at u at to kind i)
    → Appended b d (if falls_through i && (next_pc u == l.header) then jump_to end here ∷ [] else []) → Appended a d (copy_at l u at to end kind i)
back_words a b d l u at to end here kind i e x y =
    joined a b d _ _ x (as_list b d _ _ y (ap (λ n. if falls_through i && (next_pc u == l.header) then jump_to end n ∷ [] else []) e))

-- the copy of a word by its place, where it leads and where a turn ends
pub copy_words : (a b : List ℕ) (l : Level) (B : LoopCode) (p u at to end : ℕ) (leaving : Bool) (uses : Option ℕ) (i : Instr) → B.instr u ≡ Some i → leaving ≡ (u == l.exit) → uses ≡ B.cells.uses u → at ≡ place_in l B l.body p u
    → to ≡ arrive l (in_order l B p) (target_of l u (kind_by leaving uses) i) → end ≡ end_in l B l.body p → Appended a b (copy_at l u at to end (kind_by leaving uses) i) → Appended a b (copy_code l B (in_order l B p) u)
copy_words a b l B p u at to end leaving uses i h e1 e2 e3 e4 e5 x =
    let c = in_order l B p in
    let kind = kind_by leaving uses in
    let places : copy_at l u at to end kind i ≡ copy_at l u (c.place u) (arrive l c (target_of l u kind i)) c.next kind i =
    three_same (λ y z v. copy_at l u y z v kind i) at (c.place u) to (arrive l c (target_of l u kind i)) end c.next e3 e4 e5 in
    let same : kind ≡ kind_of l B u = two_same kind_by leaving (u == l.exit) uses (B.cells.uses u) e1 e2 in
    as_list a b _ _ x (places ∙ sym (copy_same l c u kind i) ∙ ap (λ k. copy_of l c u k (Some i)) same ∙ ap (copy_of l c u (kind_of l B u)) (sym h))

pub no_copy : (a : List ℕ) (l : Level) (B : LoopCode) (p u : ℕ) → B.instr u ≡ None → Appended a a (copy_code l B (in_order l B p) u)
no_copy a l B p u h = as_list a a _ _ (no_word a) (ap (copy_of l (in_order l B p) u (kind_of l B u)) (sym h))

pub back_one : (old new : List ℕ) (l : Level) (u end here : ℕ) (i : Instr) (b : Bool) → b ≡ falls_through i && (next_pc u == l.header) → b ≡ true → Appended old new (jump_to end here ∷ [])
    → Appended old new (if falls_through i && (next_pc u == l.header) then jump_to end here ∷ [] else [])
back_one old new l u end here i b e t x = as_list old new _ _ x (ap (λ q. if q then jump_to end here ∷ [] else []) (sym t ∙ e))

pub back_none : (old : List ℕ) (l : Level) (u end here : ℕ) (i : Instr) (b : Bool) → b ≡ falls_through i && (next_pc u == l.header) → b ≡ false
    → Appended old old (if falls_through i && (next_pc u == l.header) then jump_to end here ∷ [] else [])
back_none old l u end here i b e t = as_list old old _ _ (no_word old) (ap (λ q. if q then jump_to end here ∷ [] else []) (sym t ∙ e))

pub cell_kind : (leaving : Bool) (uses : Option ℕ) (k : ℕ) → leaving ≡ false → uses ≡ Some k → OfCell k ≡ kind_by leaving uses
cell_kind leaving uses k e f = two_same kind_by false leaving (Some k) uses (sym e) (sym f)

-- a word that neither loads nor stores
pub no_access : (a : List ℕ) (k : ℕ) (i : Instr) → ((op : LoadOp) (rd rs1 : ℕ) (imm : ℤ) → i ≡ Load op rd rs1 imm → ⊥) → ((op : StoreOp) (rs1 rs2 : ℕ) (imm : ℤ) → i ≡ Store op rs1 rs2 imm → ⊥) → Appended a a (word_at 0 0 0 (OfCell k) i)
no_access a k (Load op rd rs1 imm) f g = absurd (f op rd rs1 imm refl)
no_access a k (Store op rs1 rs2 imm) f g = absurd (g op rs1 rs2 imm refl)
no_access a k (Alu op rd rs1 rs2) f g = no_word a
no_access a k (AluImm op rd rs1 imm) f g = no_word a
no_access a k (Upper op rd imm) f g = no_word a
no_access a k (Branch op rs1 rs2 imm) f g = no_word a
no_access a k (Jal rd imm) f g = no_word a
no_access a k (Jalr rd rs1 imm) f g = no_word a
no_access a k (Fence rd rs1 imm) f g = no_word a
no_access a k Ecall f g = no_word a
no_access a k Ebreak f g = no_word a

pub slots_low : (C : Cells) → AreNumbered C → (o : Option ℕ) (u : ℕ) → o ≡ use_of C.uses.items u → IfSome o (λ k. k < 32)
slots_low C n None u e = tt
slots_low C n (Some k) u e = let h = (few_of C n).uses u k (sym e) in omega (arith, h)

pub if_ok_as : {T E A B : Type 0} (r : Result T E) → (A → B) → IfOk r (λ u. A) → IfOk r (λ u. B)
if_ok_as (Ok x) f h = f h
if_ok_as (Err x) f h = tt

-- the same, for an address that is named otherwise
pub copy_words_at : (a b : List ℕ) (l : Level) (B : LoopCode) (p u v at to end : ℕ) (leaving : Bool) (uses : Option ℕ) (i : Instr) → u ≡ v → B.instr u ≡ Some i → leaving ≡ (u == l.exit) → uses ≡ B.cells.uses u → at ≡ place_in l B l.body p u
    → to ≡ arrive l (in_order l B p) (target_of l u (kind_by leaving uses) i) → end ≡ end_in l B l.body p → Appended a b (copy_at l u at to end (kind_by leaving uses) i) → Appended a b (copy_code l B (in_order l B p) v)
copy_words_at a b l B p u v at to end leaving uses i q h e1 e2 e3 e4 e5 x =
    subst (λ w. Appended a b (copy_code l B (in_order l B p) w)) q (copy_words a b l B p u at to end leaving uses i h e1 e2 e3 e4 e5 x)
