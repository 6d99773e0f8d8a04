-- The test of a cell, and its load into the slot; and the test of two cells.
use Rattle.std.proofs.Common.{◌≡◌, ℕ, suc, ◌+◌, ◌-◌, ◌%◌, ◌^◌, ◌<◌, ◌≤◌, refl, sym, subst, ap, ◌∙◌, arith, pos, Ok, Bool, true, false, cond, List, [], ◌∷◌, ◌++◌, length, append_assoc, ◌*◌}
use Rattle.std.specs.Prelude.{◌==◌, ◌&&◌, ◌||◌, not, nat_lt, int_lt}
use Rattle.std.proofs.lemmas.Bool.Decides.{nat_tests}
use Rattle.std.proofs.lemmas.Int.{ints}
use Rattle.std.proofs.lemmas.Nat.{and_mask}
use Rattle.rv64_decode.specs.Area.{Area, bytes_of, number_at, load_of}
use Rattle.rv64_decode.specs.Ask.{Ask, Loads}
use Rattle.rv64_decode.specs.Row.{alu_imm, taken, signed64, plus_offset, extended, load_width}
use Rattle.rv64_decode.specs.declared.memory.Width.{Width}
use Rattle.rv64_decode.specs.declared.instr.ImmOp.TheVariants.{Addi, Andi, Srli}
use Rattle.rv64_decode.specs.declared.instr.BranchOp.TheVariants.{Beq, Bge}
use Rattle.rv64_decode.specs.declared.instr.Instr.TheVariants.{AluImm, Branch}
use Rattle.rv64_decode.specs.declared.xinstr.XInstr.{XInstr}
use Rattle.rv64_decode.specs.declared.xinstr.XInstr.TheVariants.{Base}
use Rattle.loop_data.specs.declared.verdict.Cell.{Cell}
use Rattle.loop_data.specs.Locations.{address as cell_address, width_of, width_by, content}
use Rattle.alias_checks.specs.Areas.{Bounds, in_bounds}
use Rattle.alias_checks.specs.CellTests.{cell_size, cell_range, cell_permission, cell_fits, are_clear, same_base}
use Rattle.dependence_tests.specs.PairTests.{are_disjoint}
use Rattle.stub_laws.specs.Code.{open_jump}
use Rattle.stub_laws.specs.Straight.{read, put}
use Rattle.stub_laws.proofs.Steps.{World, Wins, imm_law, put_law}
use Rattle.stub_laws.proofs.Known.{Temporary, Slot, also, knows_put, knows_slot}
use Rattle.stub_laws.proofs.Tests.{State, IsTest, both, Known, With, same_test}
use Rattle.stub_laws.proofs.Choices.{or_else, never}
use Rattle.stub_laws.proofs.Logs.{at, IsLoading, lifted, both_loading}
use Rattle.check_code.specs.Macros.{address_code, need_code, permitted, areas_code}
use Rattle.check_code.specs.Laws.{AreLow}
use Rattle.check_code.specs.AccessCode.{below_code, aligned_code}
use Rattle.check_code.specs.CellCode.{load_op, cell_areas_code, cell_load_code, cell_code, apart_code, both_code, clear_code}
use Rattle.check_code.proofs.Pieces.{areas_law, areas_length}
use Rattle.check_code.proofs.Runs.{bounds_is, fewer, low_bounds}
use Rattle.check_code.proofs.Loads.{load_law}
use Rattle.check_code.proofs.States.{temps_test, knows_temps, ap2, weaker_after, t5, t6, needed, address_word, AddressOk, addressed}

-- what the address of a cell is worked out from
pub record SiteOk (known : ℕ → Bool) (e : ℕ → ℕ) (regs : List ℕ) (c : Cell) : Type 0 where
  pub address : AddressOk known c.base c.offset
  pub is : address_word e c.base c.offset ≡ cell_address regs c

-- what the test of a cell and its load take, where its slot has this number
pub record CellOk (w : World) (known : ℕ → Bool) (e : ℕ → ℕ) (regs : List ℕ) (areas : List Bounds) (slot : ℕ) (c : Cell) : Type 0 where
  pub site : SiteOk known e regs c
  pub few : length areas < 2 ^ 16
  pub low : AreLow areas
  pub is_slot : Slot (32 + slot) slot
  pub answered : cell_fits (in_bounds areas) regs c ≡ true → load_of w.memory (cell_address regs c) (width_of c) ≡ Ok
      (number_at (cell_size c) w.memory (cell_address regs c))
  pub value : e (32 + slot) ≡ content c.wide w.memory (cell_address regs c)

abbrev pub cell_ask : List ℕ → Cell → List Ask
cell_ask regs c = Loads (cell_address regs c) (width_of c) ∷ []

mask_test : (v : ℕ) (wide : Bool) → (alu_imm Andi v (pos (bytes_of (width_by wide) - 1)) == 0) ≡ (v % bytes_of (width_by wide) == 0)
mask_test v true = ap (λ x. x == 0) (and_mask v 3)
mask_test v false = ap (λ x. x == 0) (and_mask v 2)

shift_test : (q : ℕ) → (alu_imm Srli q (pos 31) == 0) ≡ nat_lt q (2 ^ 31)
shift_test q = grind (arith, nat_tests)

below_of : (a b : ℕ) → nat_lt a b ≡ true → a < b
below_of a b h = grind (arith, nat_tests)

size_below : (wide : Bool) → bytes_of (width_by wide) ≤ 8
size_below true = omega arith
size_below false = omega arith

added_size : (v : ℕ) (wide : Bool) → alu_imm Addi v (pos (bytes_of (width_by wide))) ≡ (v + bytes_of (width_by wide)) % 2 ^ 64
added_size v true = refl
added_size v false = refl

small_signed : (v : ℕ) → v < 2 ^ 32 → signed64 v ≡ pos v
small_signed v h = omega (arith, ints)

end_is : (v : ℕ) (wide : Bool) → v < 2 ^ 31 → alu_imm Addi v (pos (bytes_of (width_by wide))) ≡ v + bytes_of (width_by wide)
end_is v wide h = let s = size_below wide in added_size v wide ∙ omega (arith, s)

-- the words of a range as integers
range_words : (areas : List Bounds) (c : Cell) (v : ℕ) → v < 2 ^ 31
    → in_bounds areas (cell_permission c) (signed64 v, signed64 (alu_imm Addi v (pos (cell_size c)))) ≡ in_bounds areas
    (cell_permission c) (pos v, pos (v + cell_size c))
range_words areas c v h =
    let s = size_below c.wide in
    let e : signed64 (alu_imm Addi v (pos (cell_size c))) ≡ pos (v + cell_size c) = ap signed64 (end_is v c.wide h) ∙ small_signed
    (v + cell_size c) (omega (arith, s)) in
    ap (λ z. in_bounds areas (cell_permission c) (z, signed64 (alu_imm Addi v (pos (cell_size c))))) (small_signed v (omega arith))
    ∙ ap (λ z. in_bounds areas (cell_permission c) (pos v, z)) e

-- no instruction
pub no_test : (w : World) (z a : State) → IsTest w z a a [] true
no_test w z a = record { by = λ p f g x has on off. on refl f g x }

x6 : Temporary 6
x6 = record { slot = 17; is = refl }

x7 : Temporary 7
x7 = record { slot = 18; is = refl }

module _ (w : World) (known : ℕ → Bool) (e : ℕ → ℕ) where
  aligned : (v : ℕ) (c : Cell) → IsTest w (Known known e) (With 5 v (Known known e)) (With 5 v (Known known e))
      (aligned_code (width_of c)) (v % cell_size c == 0)
  aligned v c =
      let z = Known known e in
      let s = With 5 v z in
      let one = Base (AluImm Andi 6 5 (pos (cell_size c - 1))) ∷ [] in
      let m = With 6 (alu_imm Andi v (pos (cell_size c - 1))) s in
      both w z s m s one (need_code Beq 6 0) true (v % cell_size c == 0)
      (temps_test w z s m one refl (λ f g x. (
        ap (λ y. alu_imm Andi y (pos (cell_size c - 1))) x.0,
        (x.0, knows_temps known e one f g refl x.1),
      )))
      (λ h. weaker_after w z m m s (need_code Beq 6 0) (v % cell_size c == 0)
      (needed w z m Beq 6 0 (v % cell_size c == 0) (λ f g x. ap (λ y. y == 0) x.0 ∙ mask_test v c.wide) (λ f g x. x.1.1))
      (λ f g x. x.1))

  below : (v : ℕ) → IsTest w (Known known e) (With 5 v (Known known e)) (With 5 v (Known known e)) below_code (nat_lt v (2 ^ 31))
  below v =
      let z = Known known e in
      let s = With 5 v z in
      let one = Base (AluImm Srli 6 5 (pos 31)) ∷ [] in
      let m = With 6 (alu_imm Srli v (pos 31)) s in
      both w z s m s one (need_code Beq 6 0) true (nat_lt v (2 ^ 31))
      (temps_test w z s m one refl (λ f g x. (ap (λ y. alu_imm Srli y (pos 31)) x.0, (x.0, knows_temps known e one f g refl x.1))))
      (λ h. weaker_after w z m m s (need_code Beq 6 0) (nat_lt v (2 ^ 31))
      (needed w z m Beq 6 0 (nat_lt v (2 ^ 31)) (λ f g x. ap (λ y. y == 0) x.0 ∙ shift_test v) (λ f g x. x.1.1)) (λ f g x. x.1))

  in_areas : (v : ℕ) (c : Cell) (areas : List Bounds) → length areas < 2 ^ 16 → AreLow areas → v < 2 ^ 31 → IsTest w (Known known e)
      (With 5 v (Known known e)) (With 5 v (Known known e)) (cell_areas_code areas c)
      (in_bounds areas (cell_permission c) (pos v, pos (v + cell_size c)))
  in_areas v c areas few low small = record {
    by = λ p f g k has on off.
        let some = permitted (cell_permission c) areas in
        let short : length (areas_code some) < 2 ^ 19 = omega (arith, areas_length some, fewer (cell_permission c) areas, few) in
        let f1 = put f 6 (alu_imm Addi (read f 5) (pos (cell_size c))) in
        let k1 = knows_put known e f g 6 (alu_imm Addi (read f 5) (pos (cell_size c))) x6 k.1 in
        let same = bounds_is (cell_permission c) areas (read f 5) (alu_imm Addi (read f 5) (pos (cell_size c)))
        ∙ ap (λ y. in_bounds areas (cell_permission c) (signed64 y, signed64 (alu_imm Addi y (pos (cell_size c))))) k.0 ∙ range_words
        areas c v small in
        imm_law w p f g Addi 6 5 (pos (cell_size c)) has.0
        (areas_law w f1 g some (suc p) short (low_bounds (cell_permission c) areas low) has.1
        (λ h a. on (sym same ∙ h) (put f1 7 a) g (k.0, knows_put known e f1 g 7 a x7 k1))
        (λ h a. off (sym same ∙ h) (put f1 7 a) g (knows_put known e f1 g 7 a x7 k1)));
  }

  -- the tests of a cell
  fits : (regs : List ℕ) (areas : List Bounds) (c : Cell) → SiteOk known e regs c → length areas < 2 ^ 16 → AreLow areas
      → IsTest w (Known known e) (Known known e) (With 5 (cell_address regs c) (Known known e))
      (address_code 5 c ++ (aligned_code (width_of c) ++ (below_code ++ cell_areas_code areas c))) (cell_fits (in_bounds areas) regs c)
  unfolding cell_fits
  fits regs areas c ok few low =
      let z = Known known e in
      let v = cell_address regs c in
      let s = With 5 v z in
      let t1 = v % cell_size c == 0 in
      let t2 = nat_lt v (2 ^ 31) in
      let t3 = in_bounds areas (cell_permission c) (cell_range regs c) in
      both w z z s s (address_code 5 c) (aligned_code (width_of c) ++ (below_code ++ cell_areas_code areas c)) true (t1 && (t2 && t3))
      (addressed w known e 5 t5 c.base c.offset z s ok.address (λ f g x. x)
      (λ f g x. (ok.is, knows_put known e f g 5 _ (record { slot = 16; is = refl }) x)))
      (λ h. both w z s s s (aligned_code (width_of c)) (below_code ++ cell_areas_code areas c) t1 (t2 && t3) (aligned v c)
      (λ h. both w z s s s below_code (cell_areas_code areas c) t2 t3 (below v) (λ h. in_areas v c areas few low (below_of v (2 ^ 31) h))))

whole_of : (x y z u : List XInstr) (v : List XInstr) → x ++ (y ++ (z ++ (u ++ v))) ≡ (x ++ (y ++ (z ++ u))) ++ v
whole_of x y z u v = sym (append_assoc x (y ++ (z ++ u)) v ∙ ap (λ l. x ++ l)
    (append_assoc y (z ++ u) v ∙ ap (λ l. y ++ l) (append_assoc z u v)))

same_width : (wide : Bool) → load_width (load_op wide) ≡ width_by wide
same_width true = refl
same_width false = refl

value_of_load : (wide : Bool) (m : List Area) (x : ℕ) → extended (load_op wide) (number_at (bytes_of (width_by wide)) m x) ≡ content wide
    m x
value_of_load true m x = refl
value_of_load false m x = refl

aligned_below : (regs : List ℕ) (areas : List Bounds) (c : Cell) → cell_fits (in_bounds areas) regs c ≡ true → cell_address regs c < 2 ^ 31
unfolding cell_fits
aligned_below regs areas c h = by_test (cell_address regs c % cell_size c == 0) (nat_lt (cell_address regs c) (2 ^ 31)) refl h
  where
    by_test : (t u : Bool) → nat_lt (cell_address regs c) (2 ^ 31) ≡ u →
        (t && (u && in_bounds areas (cell_permission c) (cell_range regs c))) ≡ true → cell_address regs c < 2 ^ 31
    by_test true true e h = below_of (cell_address regs c) (2 ^ 31) e
    by_test true false e h = absurd (cc)
    by_test false u e h = absurd (cc)

-- the load into the slot
taken_in : (w : World) (known : ℕ → Bool) (e : ℕ → ℕ) (regs : List ℕ) (areas : List Bounds) (slot : ℕ) (c : Cell) → CellOk w known e regs
    areas slot c → cell_fits (in_bounds areas) regs c ≡ true
    → IsLoading w (Known known e) (With 5 (cell_address regs c) (Known known e)) (Known (also known (32 + slot)) e)
    (cell_load_code slot c) true (cell_ask regs c)
taken_in w known e regs areas slot c ok holds = record {
  by = λ l p f g x has on off.
      let v = cell_address regs c in
      let m = w.memory in
      let n = number_at (cell_size c) m v in
      let low = aligned_below regs areas c holds in
      let place : plus_offset (read f 5) (pos 0) ≡ v = ap (λ y. plus_offset y (pos 0)) x.0 ∙ unmoved v low in
      let r = extended (load_op c.wide) n in
      let is : r ≡ e (32 + slot) = value_of_load c.wide m v ∙ sym ok.value in
      let k1 = knows_put known e f g 6 r x6 x.1 in
      let goal = λ (q : ℕ) (u : Width). Wins (at w (l ++ Loads q u ∷ [])) (suc p) (put f 6 r) g in
      let answered : load_of m (plus_offset (read f 5) (pos 0)) (load_width (load_op c.wide)) ≡ load_of m v (width_of c) = ap
      (λ y. load_of m y (load_width (load_op c.wide))) place ∙ ap (load_of m v) (same_width c.wide) in
      load_law (at w l) p n f g (load_op c.wide) 6 5 (pos 0) has.0 (answered ∙ ok.answered holds)
      (subst (λ q. goal q (load_width (load_op c.wide))) (sym place) (subst (goal v) (sym (same_width c.wide))
      (put_law (at w (l ++ cell_ask regs c)) (suc p) (put f 6 r) g slot 6 has.1.0
      (on refl (put f 6 r) _ (knows_slot known e (put f 6 r) g (32 + slot) slot r ok.is_slot is k1)))));
}
  where
    unmoved : (a : ℕ) → a < 2 ^ 31 → (a + 0) % 2 ^ 64 ≡ a
    unmoved a h = omega arith

and_true : (t : Bool) → (t && true) ≡ t
and_true true = refl
and_true false = refl

-- the test of a cell: one load, whose value goes into the slot
pub cell_law : (w : World) (known : ℕ → Bool) (e : ℕ → ℕ) (regs : List ℕ) (areas : List Bounds) (slot : ℕ) (c : Cell) → CellOk w known e
    regs areas slot c
    → IsLoading w (Known known e) (Known known e) (Known (also known (32 + slot)) e) (cell_code areas slot c)
    (cell_fits (in_bounds areas) regs c) (cell_ask regs c)
cell_law w known e regs areas slot c ok =
    let z = Known known e in
    let after = Known (also known (32 + slot)) e in
    let front = address_code 5 c ++ (aligned_code (width_of c) ++ (below_code ++ cell_areas_code areas c)) in
    let t = cell_fits (in_bounds areas) regs c in
    subst (λ is. IsLoading w z z after is t (cell_ask regs c))
    (sym (whole_of (address_code 5 c) (aligned_code (width_of c)) below_code (cell_areas_code areas c) (cell_load_code slot c)))
    (subst (λ b. IsLoading w z z after (front ++ cell_load_code slot c) b (cell_ask regs c)) (and_true t)
    (both_loading w z z (With 5 (cell_address regs c) z) after front (cell_load_code slot c) t true [] (cell_ask regs c)
    (lifted w z z (With 5 (cell_address regs c) z) front t (λ l. fits (at w l) known e regs areas c ok.site ok.few ok.low))
    (λ h. taken_in w known e regs areas slot c ok h)))

ge_words : (a b : ℕ) (wide : Bool) → a < 2 ^ 31 → b < 2 ^ 31 → taken Bge b (alu_imm Addi a (pos (bytes_of (width_by wide)))) ≡ not
    (int_lt (pos b) (pos (a + bytes_of (width_by wide))))
ge_words a b wide k h =
    let s = size_below wide in
    ap (λ y. not (int_lt (signed64 b) (signed64 y))) (end_is a wide k)
    ∙ ap (λ y. not (int_lt y (signed64 (a + bytes_of (width_by wide))))) (small_signed b (omega (arith, h)))
    ∙ ap (λ y. not (int_lt (pos b) y)) (small_signed (a + bytes_of (width_by wide)) (omega (arith, s, k)))

or_none : (t u : Bool) → (t || (u || false)) ≡ (t || u)
or_none true u = refl
or_none false true = refl
or_none false false = refl

module _ (w : World) (known : ℕ → Bool) (e : ℕ → ℕ) where
  -- the bytes of two cells are apart
  both_law : (regs : List ℕ) (c d : Cell) → SiteOk known e regs c → SiteOk known e regs d → cell_address regs c < 2 ^ 31 → cell_address
      regs d < 2 ^ 31
      → IsTest w (Known known e) (Known known e) (Known known e) (both_code c d) (are_disjoint (cell_range regs c) (cell_range regs d))
  both_law regs c d okc okd lowc lowd =
      let z = Known known e in
      let a = cell_address regs c in
      let b = cell_address regs d in
      let ea = alu_imm Addi a (pos (cell_size c)) in
      let eb = alu_imm Addi b (pos (cell_size d)) in
      let s1 = With 5 a z in
      let s2 = With 6 b s1 in
      let s3 = With 7 ea s2 in
      let s4 = With 7 eb s2 in
      let t1 = taken Bge b ea in
      let t2 = taken Bge a eb in
      let one = Base (AluImm Addi 7 5 (pos (cell_size c))) ∷ [] in
      let two = Base (AluImm Addi 7 6 (pos (cell_size d))) ∷ [] in
      same_test w z z z (both_code c d) (t1 || (t2 || false)) (are_disjoint (cell_range regs c) (cell_range regs d))
      (or_none t1 t2 ∙ ap (λ t. t || t2) (ge_words a b c.wide lowc lowd) ∙ ap (λ t. not (int_lt (pos b) (pos (a + cell_size c))) || t)
      (ge_words b a d.wide lowd lowc))
      (both w z z s1 z (address_code 5 c) (address_code 6 d ++ apart_code c d) true (t1 || (t2 || false))
      (addressed w known e 5 t5 c.base c.offset z s1 okc.address (λ f g x. x)
      (λ f g x. (okc.is, knows_put known e f g 5 _ (record { slot = 16; is = refl }) x)))
      (λ h. both w z s1 s2 z (address_code 6 d) (apart_code c d) true (t1 || (t2 || false))
      (addressed w known e 6 t6 d.base d.offset s1 s2 okd.address (λ f g x. x.1)
      (λ f g x. (okd.is, (x.0, knows_put known e f g 6 _ x6 x.1))))
      (λ h. both w z s2 s3 z one (Base (Branch Bge 6 7 (pos (4 * 4))) ∷ (two ++ last)) true (t1 || (t2 || false))
      (temps_test w z s2 s3 one refl (λ f g x. (
        ap (λ y. alu_imm Addi y (pos (cell_size c))) x.1.0,
        (x.0, (x.1.0, knows_temps known e one f g refl x.1.1)),
      )))
      (λ h. or_else w z s3 z Bge 6 7 (two ++ last) t1 (t2 || false) (λ f g x. ap2 (read f 6) b (read f 7) ea (taken Bge) x.1.0 x.0)
      (λ f g x. x.1.1.1) (omega arith)
      (λ h. both w z s3 s4 z two last true (t2 || false)
      (temps_test w z s3 s4 two refl (λ f g x. (
        ap (λ y. alu_imm Addi y (pos (cell_size d))) x.1.0,
        (x.1.0, (x.1.1.0, knows_temps known e two f g refl x.1.1.1)),
      )))
      (λ h. or_else w z s4 z Bge 5 7 (open_jump ∷ []) t2 false (λ f g x. ap2 (read f 5) a (read f 7) eb (taken Bge) x.1.1.0 x.0)
      (λ f g x. x.1.1.1) (omega arith)
      (λ k. never w z s4 z (λ f g x. x.1.1.1))))))))
    where
      last : List XInstr
      last = Base (Branch Bge 5 7 (pos (4 * 2))) ∷ open_jump ∷ []

  -- two cells of different bases, of which one is stored
  pub clear_law : (regs : List ℕ) (c d : Cell) → SiteOk known e regs c → SiteOk known e regs d → cell_address regs c < 2 ^ 31 →
      cell_address regs d < 2 ^ 31
      → IsTest w (Known known e) (Known known e) (Known known e) (clear_code c d) (are_clear regs c d)
  unfolding are_clear
  clear_law regs c d okc okd lowc lowd = by_tests (same_base c.base d.base) (c.stored || d.stored)
    where
      by_tests : (t u : Bool) → IsTest w (Known known e) (Known known e) (Known known e) (cond t [] (cond u (both_code c d) []))
          (t || (not u || are_disjoint (cell_range regs c) (cell_range regs d)))
      by_tests true u = no_test w (Known known e) (Known known e)
      by_tests false true = both_law regs c d okc okd lowc lowd
      by_tests false false = no_test w (Known known e) (Known known e)
