-- Words appended in several steps.
use Rattle.std.proofs.Common.{◌≡◌, ℕ, ◌+◌, Bool, false, subst, ap, sym, List, [], ◌∷◌, ◌++◌, ℤ, pos, Option}
use Rattle.std.specs.Prelude.{◌||◌, nat_lt}
use Rattle.rv64_decode.specs.declared.xinstr.XInstr.{XInstr}
use Rattle.stub_laws.specs.Code.{Appended}
use Rattle.stub_laws.proofs.Appends.{joined, no_word}
use Rattle.loop_data.specs.declared.accesses.Access.{Access}
use Rattle.loop_data.specs.declared.plans.Term.{Term}
use Rattle.loop_data.specs.declared.plans.Term.TheVariants.{Same}
use Rattle.loop_data.specs.declared.verdict.Cell.{Cell}
use Rattle.rv64_decode.specs.declared.instr.ImmOp.{ImmOp}
use Rattle.rv64_decode.specs.declared.instr.Instr.TheVariants.{AluImm}
use Rattle.rv64_decode.specs.declared.xinstr.XInstr.TheVariants.{Base}
use Rattle.alias_checks.specs.declared.areas.Permission.{Permission}
use Rattle.alias_checks.specs.Areas.{Bounds}
use Rattle.check_code.specs.Macros.{rise_code, permitted, areas_code}
use Rattle.check_code.specs.MeetCode.{keep_off_code}
use Rattle.check_code.specs.PairCode.{lane_length, residue_length, block_code, lane_part, residue_part, far_code, front_code, four_code, pair_code}

pub three : (a b c d : List ℕ) (x y z : List XInstr) → Appended a b x → Appended b c y → Appended c d z → Appended a d (x ++ (y ++ z))
three a b c d x y z p q r = joined a b d x (y ++ z) p (joined b c d y z q r)

pub four : (a b c d e : List ℕ) (x y z u : List XInstr) → Appended a b x → Appended b c y → Appended c d z → Appended d e u
    → Appended a e (x ++ (y ++ (z ++ u)))
four a b c d e x y z u p q r s = joined a b e x (y ++ (z ++ u)) p (three b c d e y z u q r s)

pub five : (a b c d e f : List ℕ) (x y z u v : List XInstr) → Appended a b x → Appended b c y → Appended c d z → Appended d e u
    → Appended e f v → Appended a f (x ++ (y ++ (z ++ (u ++ v))))
five a b c d e f x y z u v p q r s t = joined a b f x (y ++ (z ++ (u ++ v))) p (four b c d e f y z u v q r s t)

pub six : (a b c d e f g : List ℕ) (x y z u v w : List XInstr) → Appended a b x → Appended b c y → Appended c d z → Appended d e u
    → Appended e f v → Appended f g w → Appended a g (x ++ (y ++ (z ++ (u ++ (v ++ w)))))
six a b c d e f g x y z u v w p q r s t o = joined a b g x (y ++ (z ++ (u ++ (v ++ w)))) p (five b c d e f g y z u v w q r s t o)

pub seven : (a b c d e f g h : List ℕ) (x y z u v w k : List XInstr) → Appended a b x → Appended b c y → Appended c d z → Appended d e u
    → Appended e f v → Appended f g w → Appended g h k → Appended a h (x ++ (y ++ (z ++ (u ++ (v ++ (w ++ k))))))
seven a b c d e f g h x y z u v w k p q r s t o n =
    joined a b h x (y ++ (z ++ (u ++ (v ++ (w ++ k))))) p (six b c d e f g h y z u v w k q r s t o n)

-- no words for a stride, a divisor or two stores that are not there
pub no_size : (old : List ℕ) (size slot : ℕ) → size ≡ 0 → Appended old old (rise_code 6 (pos size) slot)
no_size old size slot e = rw e (no_word old)

pub no_lanes : (old : List ℕ) (lanes width n : ℕ) → lanes ≡ 0 → Appended old old (lane_part (nat_lt 0 lanes) lanes width n)
no_lanes old lanes width n e = rw e (no_word old)

pub no_residue : (old : List ℕ) (residue width : ℕ) → residue ≡ 0 → Appended old old (residue_part (nat_lt 0 residue) residue width)
no_residue old residue width e = rw e (no_word old)

pub no_store : (old : List ℕ) (c : Cell) (a : Access) → (c.stored || a.store) ≡ false → Appended old old (keep_off_code c a)
no_store old c a e = rw e (no_word old)

-- the four tests, by their lengths
pub four_words : (a b c d e : List ℕ) (inner common : Bool) (root lanes residue width x y : ℕ) → x ≡ lane_length inner
    → y ≡ residue_length common → Appended a b (block_code root width (x + (y + 6))) → Appended b c (lane_part inner lanes width (y + 6))
    → Appended c d (residue_part common residue width) → Appended d e (far_code width)
    → Appended a e (four_code inner common root lanes residue width)
four_words a b c d e inner common root lanes residue width x y p q r s t u =
    let r' = subst (λ n. Appended a b (block_code root width (n + (residue_length common + 6)))) p
    (subst (λ n. Appended a b (block_code root width (x + (n + 6)))) q r) in
    let s' = subst (λ n. Appended b c (lane_part inner lanes width (n + 6))) q s in
    four a b c d e _ _ _ _ r' s' t u

-- a pair by its term
pub same_pair : (a b c : List ℕ) (x y : Access) (t : Term) (root : ℕ) (inner : List ℕ) (lanes residue width : ℕ) (k : Option ℤ)
    → t ≡ Same root inner lanes residue width k → Appended a b (front_code x.form y.form inner)
    → Appended b c (four_code (nat_lt 0 lanes) (nat_lt 0 residue) root lanes residue width) → Appended a c (pair_code x y t)
same_pair a b c x y t root inner lanes residue width k e p q = subst (λ t. Appended a c (pair_code x y t)) (sym e) (joined a b c _ _ p q)

-- the same words under another name of a value
pub as_immediate : (a b : List ℕ) (op : ImmOp) (rd rs1 : ℕ) (z z' : ℤ) → z ≡ z' → Appended a b (Base (AluImm op rd rs1 z) ∷ [])
    → Appended a b (Base (AluImm op rd rs1 z') ∷ [])
as_immediate a b op rd rs1 z z' e p = subst (λ y. Appended a b (Base (AluImm op rd rs1 y) ∷ [])) e p

pub as_permitted : (a b : List ℕ) (p q : Permission) (areas : List Bounds) → p ≡ q → Appended a b (areas_code (permitted p areas))
    → Appended a b (areas_code (permitted q areas))
as_permitted a b p q areas e h = subst (λ k. Appended a b (areas_code (permitted k areas))) e h
