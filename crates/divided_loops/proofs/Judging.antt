-- A loop that is judged Parallel, as its added code takes it.
use Rattle.std.proofs.Common.{◌≡◌, ◌≢◌, ℕ, zero, suc, ◌+◌, ◌-◌, ◌%◌, ◌^◌, ◌<◌, refl, sym, subst, ap, ◌∙◌, arith, ℤ, pos, negsuc, ◌+ℤ◌, Option, Some, None, Bool, true, false, not, cond, List, [], ◌∷◌, map, inl, if◌then◌else◌}
use Rattle.std.specs.Prelude.{◌==◌, ◌&&◌, nat_le, nat_lt, find}
use Rattle.std.specs.List.{Contains}
use Rattle.std.specs.Option.{option_or}
use Rattle.std.specs.Int.{w64, cast_unsigned}
use Rattle.std.proofs.lemmas.Bool.{and_parts}
use Rattle.std.proofs.lemmas.Bool.Decides.{nat_tests}
use Rattle.std.proofs.lemmas.Int.{ints}
use Rattle.elf_image.specs.declared.image.Elf.{Elf}
use Rattle.elf_image.specs.declared.image.Segment.{Segment}
use Rattle.elf_image.specs.Layout.{IsLoadable, LieFrom, is_code_of, is_executable, rounded_low, rounded_end}
use Rattle.rv64_decode.specs.Row.{plus_offset, signed64}
use Rattle.rv64_decode.specs.Form.{IsSigned}
use Rattle.rv64_decode.specs.declared.instr.UpperOp.TheVariants.{Auipc}
use Rattle.rv64_decode.specs.declared.instr.Instr.{Instr}
use Rattle.rv64_decode.specs.declared.instr.Instr.TheVariants.{Upper, Store}
use Rattle.rv64_decode.proofs.Fields.{decoded-in_range}
use Rattle.linear_forms.specs.Forms.{word_of, is_small, constant_fits}
use Rattle.linear_forms.proofs.Sums.{same, word_is}
use Rattle.linear_forms.proofs.Values.{sum_alike}
use Rattle.loop_data.specs.declared.classes.Class.{Class}
use Rattle.loop_data.specs.declared.classes.Class.TheVariants.{Induction, Private as PrivateClass}
use Rattle.loop_data.specs.declared.graph.Graph.{Graph}
use Rattle.loop_data.specs.declared.plans.Plan.{Plan}
use Rattle.loop_data.specs.declared.shape.Level.{Level}
use Rattle.loop_data.specs.declared.shape.LoopShape.{LoopShape}
use Rattle.loop_data.specs.declared.verdict.Cell.{Cell}
use Rattle.loop_data.specs.declared.verdict.Verdict.{Verdict}
use Rattle.loop_data.specs.Classes.{HasRole}
use Rattle.loop_data.specs.Code.{word_at, word_of as word_in_code}
use Rattle.loop_data.specs.Executing.{AreProgramWords, AreCellWords}
use Rattle.loop_data.specs.FactPass.{AreFacts}
use Rattle.loop_data.specs.Facts.{Fact, signed_of}
use Rattle.loop_data.specs.Graphs.{IsGraph}
use Rattle.loop_data.specs.Independent.{Role, Keeps, Moves, Private}
use Rattle.loop_data.specs.Locations.{CellMap, cell_at, no_cells, target, writes_register, writes_cell, instr_writes}
use Rattle.loop_data.specs.LoopCode.{LoopCode, code_of, instr_among, any_writes, writes, IsUnwritten}
use Rattle.loop_data.specs.LoopWords.{AreNest}
use Rattle.loop_data.specs.Lookups.{cell_map, AreFew, classes_of, role_by}
use Rattle.loop_data.specs.Nests.{Nest, nest_of, has, Holds}
use Rattle.loop_data.specs.Results.{IsNestOf, class_in}
use Rattle.loop_data.proofs.FactsExist.{facts_exist}
use Rattle.loop_data.proofs.NestVisits.{found_instr}
use Rattle.loop_data.proofs.Shorts.{alike_word}
use Rattle.loop_data.proofs.Tests.{eq_of, is_eq, yes_no}
use Rattle.loop_data.proofs.ValuePlaces.{few_of}
use Rattle.stack_slots.specs.declared.words.BodyWord.{BodyWord}
use Rattle.stack_slots.specs.CellLaws.{NumberedLaw, FoundLaw, BasesLaw, OffsetsLaw, HasOffset}
use Rattle.stack_slots.specs.CellRules.{is_far, is_far_auipc, limit_at, limit_of, fault_of}
use Rattle.stack_slots.specs.Touches.{words_of, word_at as body_word}
use Rattle.check_numbers.specs.Sums.{IsShort}
use Rattle.alias_checks.specs.declared.lists.Check.{Check}
use Rattle.loop_choice.specs.Independence.{roles_of, IndependenceLaw}
use Rattle.loop_choice.specs.Judging.{IsPlanOf}
use Rattle.loop_choice.specs.States.{ProgramLaw, WordsLaw, StoredLaw}
use Rattle.turn_copies.specs.Listing.{HasShortValues, NestLaw}
use Rattle.turn_copies.specs.Regions.{CanMove}
use Rattle.divided_loops.specs.Judged.{planned, ShortLaw, CopyLaw, MoveLaw, DividedLaw}

-- ---- an auipc that is not far

none_found : (test : BodyWord → Bool) (f : ℕ → BodyWord) (us : List ℕ) (u : ℕ) → has us u ≡ true → find test (map f us) ≡ None → test (f u) ≡ false
none_found test f [] u h e = absurd (cc)
none_found test f (v ∷ us) u h e = go (test (f v)) refl (v == u) refl h e (λ k q. none_found test f us u k q)
  where
    go : (b : Bool) → test (f v) ≡ b → (c : Bool) → (v == u) ≡ c → (if c then true else has us u) ≡ true → cond b (Some (f v)) (find test (map f us)) ≡ None
        → (has us u ≡ true → find test (map f us) ≡ None → test (f u) ≡ false) → test (f u) ≡ false
    go true q c r h e rest = absurd (cc)
    go false q true r h e rest = subst (λ x. test (f x) ≡ false) (eq_of v u r) q
    go false q false r h e rest = rest h e

first_none : (a b : Option Verdict) → option_or a b ≡ None → a ≡ None
first_none None b e = refl
first_none (Some v) b e = absurd (cc)

no_limit : (o : Option BodyWord) → limit_at o ≡ None → o ≡ None
no_limit None e = refl
no_limit (Some w) e = absurd (cc)

none_far : (words : List BodyWord) → fault_of words ≡ None → find is_far_auipc words ≡ None
none_far words e = no_limit (find is_far_auipc words) (first_none _ _ (first_none (limit_of words) _ e))

not_not : (b : Bool) → not b ≡ false → b ≡ true
not_not true e = refl
not_not false e = absurd (cc)

offset_is : (u : ℕ) (z : ℤ) → IsSigned 32 z → plus_offset u z ≡ word_of (pos u +ℤ z)
offset_is u z short =
    let small : plus_offset u z < 2 ^ 64 = omega arith in
    word_is (plus_offset u z) (pos u +ℤ z) small (sum_alike u (cast_unsigned w64 z) (pos u) z (same (pos u)) (alike_word z short))

constant_short : (z : ℤ) → constant_fits z ≡ true → IsShort z
constant_short (pos n) h = (grind (arith, ints, nat_tests), grind (arith, ints, nat_tests))
constant_short (negsuc n) h = (grind (arith, ints, nat_tests), grind (arith, ints, nat_tests))

cell_contained : (cs : List Cell) (k : ℕ) (c : Cell) → cell_at cs k ≡ Some c → Contains cs c
cell_contained [] k c e = absurd (cc)
cell_contained (d ∷ ds) zero c e = let same : d ≡ c = cc in (0, omega arith, same)
cell_contained (d ∷ ds) (suc k) c e = let h = cell_contained ds k c e in let l = h.1 in (suc h.0, omega (arith, l), h.2)

-- ---- addresses of code

word_low : (from : ℕ) (segments : List Segment) (x n : ℕ) → LieFrom from segments → word_in_code segments x ≡ Some n → x < 2 ^ 31
word_low from [] x n lie e = absurd (cc)
word_low from (s ∷ more) x n lie e = go (is_code_of s x) refl (word_low (rounded_end s) more x n lie.5)
  where
    go : (b : Bool) → is_code_of s x ≡ b → (word_in_code more x ≡ Some n → x < 2 ^ 31) → x < 2 ^ 31
    go true k later =
        let a = and_parts (is_executable s) (nat_le (rounded_low s) x && nat_lt x (rounded_end s)) k in
        let u : x < rounded_end s = grind (arith, nat_tests, a) in
        let b = lie.3 in
        omega (arith, u, b)
    go false k later = later (sym (ap (λ b. if b then Some (Rattle.loop_data.specs.Code.word_in s x) else word_in_code more x) k) ∙ e)

code_low : (elf : Elf) (x n : ℕ) → IsLoadable elf → word_at elf x ≡ Some n → x < 2 ^ 31
unfolding word_at
code_low elf x n load e = go (x % 4 == 0) e
  where
    go : (b : Bool) → (if b then word_in_code elf.segments x else None) ≡ Some n → x < 2 ^ 31
    go true e = word_low 0 elf.segments x n load.apart e
    go false e = absurd (cc)

-- ---- steps

small_short : (z : ℤ) → is_small z ≡ true → IsShort z
small_short (pos n) h = (grind (arith, ints, nat_tests), grind (arith, ints, nat_tests))
small_short (negsuc n) h = (grind (arith, ints, nat_tests), grind (arith, ints, nat_tests))

moving_class : (written : Bool) (c : Option Class) (step : ℤ) → role_by written c ≡ Moves step → c ≡ Some (Induction step)
moving_class written (Some (Induction z)) step e = cc
moving_class written (Some PrivateClass) step e = absurd (cc)
moving_class true None step e = absurd (cc)
moving_class false None step e = absurd (cc)

-- a location that a word writes is a register but x0, or one of 16 cells
written_place : (C : CellMap) → AreFew C → (o : Option Instr) (u loc : ℕ) → instr_writes o (C.uses u) loc ≡ true → (loc ≢ 0) × (loc < 48)
written_place C few None u loc e = absurd (cc)
written_place C few (Some i) u loc e = go (nat_lt loc 32) refl e
  where
    of_register : (b : Bool) → (loc == 0) ≡ b → (if b then false else target i == loc) ≡ true → loc ≢ 0
    of_register true q e = absurd (cc)
    of_register false q e = λ z. let k = is_eq loc 0 z in absurd (cc)

    of_cell : (j : Instr) (uses : Option ℕ) → C.uses u ≡ uses → writes_cell j uses loc ≡ true → (loc ≢ 0) × (loc < 48)
    of_cell (Store op rs1 rs2 imm) (Some k) q e =
        let at = eq_of (32 + k) loc e in
        let small = few.uses u k q in
        ((λ z. absurd (omega (arith, at, z))), omega (arith, at, small))
    of_cell (Store op rs1 rs2 imm) None q e = absurd (cc)
    of_cell j uses q e = absurd (cc)

    go : (b : Bool) → nat_lt loc 32 ≡ b → (if b then writes_register i loc else writes_cell i (C.uses u) loc) ≡ true → (loc ≢ 0) × (loc < 48)
    go true q e = (of_register (loc == 0) refl e, grind (arith, nat_tests))
    go false q e = of_cell i (C.uses u) refl e

module _ (G : Graph) (elf : Elf) (shape : LoopShape) (plan : Plan) (check : Check) (nest : AreNest G shape.levels) (p : IsPlanOf G elf shape plan check) where
  abbrev N : Nest
  N = nest_of G nest.root nest.inner

  abbrev C : CellMap
  C = cell_map plan.cells

  abbrev B : LoopCode
  B = planned G plan

  abbrev roles : ℕ → Role
  roles = roles_of G shape.levels plan nest.root

  of : IsNestOf G shape.levels N
  of = record { root = nest.root; inner = nest.inner; are = nest.are; is = refl }

  -- ---- values

  short : AreProgramWords G → HasShortValues G nest.root
  short words u rd imm inside m =
      let facts = facts_exist N (code_of G no_cells) nest.root nest.nest (inl refl) in
      let sound = p.found.confirmed.solved.sound in
      let listed = words_of (code_of G no_cells) nest.root.body facts.0 in
      let found = sound.cells N facts.0 of facts.1 in
      let near = none_far listed (sym found.fault ∙ sound.no_fault) in
      let far : is_far u (instr_among G.words u) ≡ false = none_found is_far_auipc (λ v. body_word (code_of G no_cells) nest.root.body (facts.0 v) v) nest.root.body u inside near in
      let is = found_instr G u (Some (Upper Auipc rd imm)) words.ordered m in
      let off : not (constant_fits (signed_of (pos u +ℤ imm))) ≡ false = sym (ap (is_far u) is) ∙ far in
      let range = decoded-in_range m.word.bits (Upper Auipc rd imm) (words.bits m.word m.among) m.means in
      subst (λ n. IsShort (signed64 n)) (sym (offset_is u imm range.number)) (constant_short (signed_of (pos u +ℤ imm)) (not_not (constant_fits (signed_of (pos u +ℤ imm))) off))

  few : NumberedLaw → AreFew C
  few numbered = let sound = p.found.confirmed.solved.sound in few_of plan.cells (numbered G shape.levels plan.cells nest sound.cells sound.no_fault)

  cell_words : FoundLaw → AreCellWords nest.root B
  cell_words founds =
      let sound = p.found.confirmed.solved.sound in
      let facts = facts_exist N (code_of G no_cells) nest.root nest.nest (inl refl) in
      let found = founds G shape.levels plan.cells N facts.0 nest sound.cells sound.no_fault of facts.1 in
      record { uses = λ u k h e. let x = found u k h e in (x.cell, x.at, x.width) }

  low : IsLoadable elf → IsGraph elf G → (u : ℕ) → Holds nest.root u → u < 2 ^ 63
  low load graph u inside =
      let m = (nest.words u inside).means in
      let c = m.among in
      let word = graph.words c.0 m.word c.1 in
      let bits : word_at elf u ≡ Some m.word.bits = subst (λ x. word_at elf x ≡ Some m.word.bits) m.at (subst (λ (w : Rattle.loop_data.specs.declared.graph.Word.Word). word_at elf w.at ≡ Some w.bits) c.2 word.bits) in
      let h = code_low elf u m.word.bits load bits in
      omega (arith, h)

  -- ---- roles

  root_classes : classes_of shape.levels (plan.classes.root ∷ plan.classes.inner) nest.root ≡ plan.classes.root
  root_classes =
      ap (λ (xs : List Level). classes_of xs (plan.classes.root ∷ plan.classes.inner) nest.root) nest.are
      ∙ ap (λ b. if b then plan.classes.root else classes_of nest.inner plan.classes.inner nest.root) (is_eq nest.root.header nest.root.header refl)

  role_is : (r : ℕ) → roles r ≡ role_by (any_writes B nest.root.body r) (class_in plan.classes.root r)
  role_is r = ap (λ row. role_by (any_writes B nest.root.body r) (class_in row r)) root_classes

  facts_in : (V : ℕ → ℕ → Option Fact) × AreFacts N B nest.root V
  facts_in = facts_exist N B nest.root nest.nest (inl refl)

  has_role : (r : ℕ) → HasRole N B facts_in.0 r (roles r)
  has_role r = subst (HasRole N B facts_in.0 r) (sym (role_is r)) (p.found.confirmed.solved.classes.root N facts_in.0 r of facts_in.1)

  keeps : (r : ℕ) → IsUnwritten B nest.root r → roles r ≡ Keeps
  keeps r un = go (roles r) (has_role r)
    where
      go : (role : Role) → HasRole N B facts_in.0 r role → role ≡ Keeps
      go Keeps h = refl
      go (Moves step) h = absurd (yes_no (writes B h.word r) h.does (un h.word h.inside))
      go Private h = let w = h.0 in absurd (yes_no (writes B w.word r) w.does (un w.word w.inside))

  moves : NumberedLaw → CanMove roles
  moves numbered = record { each = each }
    where
      each : (loc : ℕ) (step : ℤ) → roles loc ≡ Moves step → (loc ≢ 0) × (loc < 48) × IsShort step
      each loc step e =
          let class = moving_class (any_writes B nest.root.body loc) (class_in plan.classes.root loc) step (sym (role_is loc) ∙ e) in
          let small = p.found.confirmed.solved.classes.steps.root loc step class in
          let h = subst (HasRole N B facts_in.0 loc) e (has_role loc) in
          let place = written_place C (few numbered) (B.instr h.word) h.word loc h.does in
          (place.0, place.1, small_short step small)

  -- ---- cells

  among : (k : ℕ) (c : Cell) → cell_at C.cells k ≡ Some c → Contains plan.cells.list.items c
  among k c e = cell_contained plan.cells.list.items k c e

  stored_base : BasesLaw → (k r : ℕ) (c : Cell) → cell_at C.cells k ≡ Some c → c.base ≡ Some r → roles r ≡ Keeps
  stored_base bases k r c at base =
      let sound = p.found.confirmed.solved.sound in
      keeps r (bases G shape.levels plan.cells N nest sound.cells of c (among k c at) r base).2

  near_by : (base : Option ℕ) (z : ℤ) → base ≡ None → HasOffset base z → (n : ℕ) × (z ≡ pos n) × (n < 2 ^ 31 - 2 ^ 11)
  near_by None (pos n) e h = let a = h.1 in (n, refl, omega (arith, ints, a))
  near_by None (negsuc n) e h = let a = h.0 in absurd (omega (arith, ints, a))
  near_by (Some r) z e h = absurd (cc)

  stored_near : OffsetsLaw → (k : ℕ) (c : Cell) → cell_at C.cells k ≡ Some c → c.base ≡ None → (n : ℕ) × (c.offset ≡ pos n) × (n < 2 ^ 31 - 2 ^ 11)
  stored_near offsets k c at base =
      let sound = p.found.confirmed.solved.sound in
      near_by c.base c.offset base (offsets G shape.levels plan.cells nest sound.cells c (among k c at))

-- ---- the laws

pub short_law : ShortLaw
short_law elf G shape plan check nest words p = short G elf shape plan check nest p words

pub copy_law : NumberedLaw → FoundLaw → NestLaw → CopyLaw
copy_law numbered founds nests elf G shape plan check nest load graph words p =
    nests G shape.levels (cell_map plan.cells) nest words (cell_words G elf shape plan check nest p founds) (few G elf shape plan check nest p numbered)
    (short G elf shape plan check nest p words) (low G elf shape plan check nest p load graph)

pub move_law : NumberedLaw → MoveLaw
move_law numbered elf G shape plan check nest p = moves G elf shape plan check nest p numbered

pub divided_law : BasesLaw → OffsetsLaw → IndependenceLaw → ProgramLaw → WordsLaw → StoredLaw → DividedLaw
divided_law bases offsets independent program words stored elf G shape plan check nest s t held =
    let has = program elf G shape (cell_map plan.cells) nest s held.load held.graph held.state in (
      record {
        independent = independent elf G shape plan check nest s t held;
        start = held.state.at.at;
        registers = held.state.registers;
        bytes = held.state.bytes;
        whole = has.whole;
        first = has.words;
        words = words elf G shape plan check nest s t held;
      },
      record {
        base = λ k r c at is base. stored_base G elf shape plan check nest held.judged bases k r c at base;
        near = λ k c at is base. stored_near G elf shape plan check nest held.judged offsets k c at base;
        allowed = stored elf G shape plan check nest s t held;
      },
    )
