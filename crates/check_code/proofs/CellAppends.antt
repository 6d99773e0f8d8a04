-- The words that the tests of cells append.
use Rattle.std.proofs.Common.{◌≡◌, ℕ, ℤ, pos, ap, List, [], ◌∷◌, true, false}
use Rattle.std.specs.Prelude.{◌||◌}
use Rattle.rv64_decode.specs.declared.instr.ImmOp.TheVariants.{Addi}
use Rattle.rv64_decode.specs.declared.instr.BranchOp.TheVariants.{Bge}
use Rattle.rv64_decode.specs.declared.instr.Instr.TheVariants.{AluImm, Load}
use Rattle.rv64_decode.specs.declared.xinstr.XInstr.TheVariants.{Base, Put}
use Rattle.loop_data.specs.declared.verdict.Cell.{Cell}
use Rattle.alias_checks.specs.CellTests.{cell_size, cell_permission, same_base}
use Rattle.stub_laws.specs.Code.{Appended, open_jump}
use Rattle.stub_laws.proofs.Appends.{joined, as_list, no_word}
use Rattle.check_code.specs.PairCode.{over_words}
use Rattle.alias_checks.specs.declared.areas.Permission.{Permission}
use Rattle.alias_checks.specs.Areas.{Bounds}
use Rattle.rv64_decode.specs.declared.instr.LoadOp.{LoadOp}
use Rattle.check_code.specs.Macros.{permitted, areas_code}
use Rattle.check_code.specs.CellCode.{load_op, cell_areas_code, cell_load_code, apart_code, both_code, clear_code}

-- one instruction, under another immediate
pub immediate_as : (a b : List ℕ) (rd rs1 : ℕ) (z z' : ℤ) → Appended a b (Base (AluImm Addi rd rs1 z) ∷ []) → z ≡ z' → Appended a b
    (Base (AluImm Addi rd rs1 z') ∷ [])
immediate_as a b rd rs1 z z' p e = as_list a b _ _ p (ap (λ x. Base (AluImm Addi rd rs1 x) ∷ []) e)

pub apart_words : (a b d e f g : List ℕ) (c k : Cell) (z y : ℤ) → z ≡ pos (cell_size c) → y ≡ pos (cell_size k) → Appended a b
    (Base (AluImm Addi 7 5 z) ∷ []) → Appended b d (over_words Bge 6 7 3 ∷ []) → Appended d e (Base (AluImm Addi 7 6 y) ∷ []) → Appended e
    f (over_words Bge 5 7 1 ∷ []) → Appended f g (open_jump ∷ []) → Appended a g (apart_code c k)
apart_words a b d e f g c k z y hz hy p q r s t =
    joined a b g (Base (AluImm Addi 7 5 (pos (cell_size c))) ∷ []) _ (immediate_as a b 7 5 z _ p hz)
    (joined b d g (over_words Bge 6 7 3 ∷ []) _ q
    (joined d e g (Base (AluImm Addi 7 6 (pos (cell_size k))) ∷ []) _ (immediate_as d e 7 6 y _ r hy)
    (joined e f g (over_words Bge 5 7 1 ∷ []) (open_jump ∷ []) s t)))

pub keep_words : (a b : List ℕ) (slot n : ℕ) → n ≡ 6 → Appended a b (Put slot n ∷ []) → Appended a b (Put slot 6 ∷ [])
keep_words a b slot n e p = as_list a b _ _ p (ap (λ x. Put slot x ∷ []) e)

-- two cells of which nothing is asked
pub clear_same : (old : List ℕ) (c d : Cell) → same_base c.base d.base ≡ true → Appended old old (clear_code c d)
clear_same old c d h = rw h (no_word old)

pub clear_kept : (old : List ℕ) (c d : Cell) → same_base c.base d.base ≡ false → (c.stored || d.stored) ≡ false → Appended old old
    (clear_code c d)
clear_kept old c d h k = rw (h, k) (no_word old)

pub clear_both : (old new : List ℕ) (c d : Cell) → same_base c.base d.base ≡ false → (c.stored || d.stored) ≡ true → Appended old new
    (both_code c d) → Appended old new (clear_code c d)
clear_both old new c d h k p = rw (h, k) p

pub cell_areas_words : (a b d : List ℕ) (areas : List Bounds) (c : Cell) (z : ℤ) (k : Permission) → z ≡ pos (cell_size c) → k ≡
    cell_permission c → Appended a b (Base (AluImm Addi 6 5 z) ∷ []) → Appended b d (areas_code (permitted k areas)) → Appended a d
    (cell_areas_code areas c)
cell_areas_words a b d areas c z k hz hk p q =
    joined a b d (Base (AluImm Addi 6 5 (pos (cell_size c))) ∷ []) (areas_code (permitted (cell_permission c) areas))
    (immediate_as a b 6 5 z _ p hz) (as_list b d _ _ q (ap (λ y. areas_code (permitted y areas)) hk))

pub cell_load_words : (a b d : List ℕ) (slot : ℕ) (c : Cell) (op : LoadOp) → op ≡ load_op c.wide → Appended a b
    (Base (Load op 6 5 (pos 0)) ∷ []) → Appended b d (Put slot 6 ∷ []) → Appended a d (cell_load_code slot c)
cell_load_words a b d slot c op h p q = joined a b d (Base (Load (load_op c.wide) 6 5 (pos 0)) ∷ []) (Put slot 6 ∷ [])
    (as_list a b _ _ p (ap (λ x. Base (Load x 6 5 (pos 0)) ∷ []) h)) q
