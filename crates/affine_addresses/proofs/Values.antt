-- The address of an access is the value of its form.
use Rattle.std.proofs.Common.{◌≡◌, ◌≢◌, map, ℕ, ◌+◌, ◌<◌, Bool, true, false, List, Option, Some, None, refl, ap, sym, ◌∙◌, subst, arith, if◌then◌else◌, ℤ}
use Rattle.std.specs.List.{Contains}
use Rattle.std.specs.Int.{w64, cast_unsigned}
use Rattle.rv64_decode.specs.Form.{IsSigned}
use Rattle.rv64_decode.specs.Range.{IsInRange}
use Rattle.rv64_decode.specs.Registers.{register}
use Rattle.rv64_decode.specs.Row.{plus_offset, load_width, store_width}
use Rattle.rv64_decode.specs.declared.instr.Instr.{Instr}
use Rattle.rv64_decode.specs.declared.instr.Instr.TheVariants.{Alu, AluImm, Upper, Load, Store, Branch, Jal, Jalr, Fence, Ecall, Ebreak}
use Rattle.rv64_decode.specs.declared.memory.Width.{Width}
use Rattle.linear_forms.specs.Forms.{LinearForm, exact, pure, value}
use Rattle.linear_forms.proofs.Sums.{word_is}
use Rattle.loop_data.specs.declared.accesses.Access.{Access}
use Rattle.loop_data.specs.declared.graph.Graph.{Graph}
use Rattle.loop_data.specs.declared.shape.Level.{Level}
use Rattle.loop_data.specs.Nests.{Nest, nest_of}
use Rattle.loop_data.specs.LoopWords.{AreNest}
use Rattle.loop_data.specs.Runs.{State, run, walk, instr, asks_of}
use Rattle.loop_data.specs.Locations.{CellMap}
use Rattle.loop_data.specs.LoopCode.{LoopCode, code_of}
use Rattle.rv64_decode.specs.Ask.{Nothing}
use Rattle.loop_data.specs.FormRows.{form_read, form_sum}
use Rattle.loop_data.specs.Holds.{entry_of, times, HoldsAt}
use Rattle.loop_data.specs.Executing.{AreProgramWords}
use Rattle.loop_data.specs.Accesses.{Motion, motion_of, unless_used, address_form, is_regular, if_regular, accessed_form, AreAccesses}
use Rattle.loop_data.proofs.FormWords.{right_sum, right_limited, right_pure}
use Rattle.loop_data.proofs.NestVisits.{are_given}
use Rattle.loop_data.proofs.Operands.{operand_right}
use Rattle.loop_data.proofs.Steps.{contains_has}
use Rattle.affine_addresses.specs.AddressLaws.{AsksFor}

-- a word that is no access of a cell accesses what its instruction does
moved : (k : Option ℕ) (o : Option Motion) (m : Motion) → unless_used k o ≡ Some m → o ≡ Some m
moved None o m e = e
moved (Some k) o m e = absurd (cc)

-- a regular form is the form of the address
form_is : (width : Width) (o : Option LinearForm) (f : LinearForm) → if_regular width o ≡ Some f → o ≡ Some f
form_is width None f e = absurd (cc)
form_is width (Some g) f e = go (is_regular width g) e
  where
    go : (b : Bool) → (if b then Some g else None) ≡ Some f → Some g ≡ Some f
    go true e = e
    go false e = absurd (cc)

module _ (N : Nest) (C : CellMap) (at : ℕ → ℕ → Option LinearForm) (s : State) (n u : ℕ) (holds : HoldsAt N C at s n) (here : walk s n ≡ u) (f : LinearForm) where
  address_is : (base : ℕ) (offset : ℤ) → base < 32 → IsSigned 32 offset → address_form (at u) base offset ≡ Some f → plus_offset (register (run s n).regs base) offset ≡ value f (entry_of C s) (times N s n)
  address_is base offset lt h e =
      let v = register (run s n).regs base in
      let a = operand_right N C at s n u base holds here lt in
      let b = right_pure (entry_of C s) (times N s n) offset h in
      let c = right_limited (entry_of C s) (times N s n) (v + cast_unsigned w64 offset) (form_sum (form_read (at u) base) (Some (pure offset))) (right_sum (entry_of C s) (times N s n) v (cast_unsigned w64 offset) (form_read (at u) base) (Some (pure offset)) a b) in
      word_is (plus_offset v offset) (exact f (entry_of C s) (times N s n)) (omega arith) (c f e)

  asks_is : (i : Instr) (m : Motion) → IsInRange i → motion_of (Some i) ≡ Some m → accessed_form (at u) m ≡ Some f → AsksFor (asks_of (Some i) (run s n).regs) (value f (entry_of C s) (times N s n)) m.width m.store
  asks_is (Load op rd rs1 imm) m range e form =
      let made : Motion = record { base = rs1; offset = imm; width = load_width op; store = false } in
      let q : made ≡ m = cc in
      let g : accessed_form (at u) made ≡ Some f = subst (λ (x : Motion). accessed_form (at u) x ≡ Some f) (sym q) form in
      subst (λ (x : Motion). AsksFor (asks_of (Some (Load op rd rs1 imm)) (run s n).regs) (value f (entry_of C s) (times N s n)) x.width x.store) q
      (address_is rs1 imm range.registers.1 range.number (form_is (load_width op) (address_form (at u) rs1 imm) f g), refl, refl)
  asks_is (Store op rs1 rs2 imm) m range e form =
      let made : Motion = record { base = rs1; offset = imm; width = store_width op; store = true } in
      let q : made ≡ m = cc in
      let g : accessed_form (at u) made ≡ Some f = subst (λ (x : Motion). accessed_form (at u) x ≡ Some f) (sym q) form in
      subst (λ (x : Motion). AsksFor (asks_of (Some (Store op rs1 rs2 imm)) (run s n).regs) (value f (entry_of C s) (times N s n)) x.width x.store) q
      (address_is rs1 imm range.registers.0 range.number (form_is (store_width op) (address_form (at u) rs1 imm) f g), refl, refl)
  asks_is (Alu op rd rs1 rs2) m range e form = absurd (cc)
  asks_is (AluImm op rd rs1 imm) m range e form = absurd (cc)
  asks_is (Upper op rd imm) m range e form = absurd (cc)
  asks_is (Branch op rs1 rs2 imm) m range e form = absurd (cc)
  asks_is (Jal rd imm) m range e form = absurd (cc)
  asks_is (Jalr rd rs1 imm) m range e form = absurd (cc)
  asks_is (Fence rd rs1 imm) m range e form = absurd (cc)
  asks_is Ecall m range e form = absurd (cc)
  asks_is Ebreak m range e form = absurd (cc)

pub address_law : (G : Graph) (levels : List Level) (nest : AreNest G levels) → AreProgramWords G → (C : CellMap) (at : ℕ → ℕ → Option LinearForm) (list : List Access) (a : Access) (s : State) (m : ℕ) → AreAccesses levels nest.root.body (code_of G C) at list → Contains list a
    → walk s m ≡ a.at → instr (run s m) ≡ (code_of G C).instr (walk s m) → HoldsAt (nest_of G nest.root nest.inner) C at s m
    → AsksFor (asks_of (instr (run s m)) (run s m).regs) (value a.form (entry_of C s) (times (nest_of G nest.root nest.inner) s m)) a.width a.store
address_law G levels nest words C at list a s m are c here word holds =
    let x = are.each a c in
    let own = x.1 in
    let w = are_given G levels nest C words a.at (contains_has nest.root.body a.at x.0) in
    let e : instr (run s m) ≡ Some w.does = word ∙ ap (code_of G C).instr here ∙ w.is in
    let moves = moved (C.uses a.at) (motion_of ((code_of G C).instr a.at)) own.motion own.moves in
    let r = asks_is (nest_of G nest.root nest.inner) C at s m a.at holds here a.form w.does own.motion w.range (sym (ap motion_of w.is) ∙ moves) own.form in
    subst (λ i. AsksFor (asks_of i (run s m).regs) (value a.form (entry_of C s) (times (nest_of G nest.root nest.inner) s m)) a.width a.store) (sym e)
    (subst (λ b. AsksFor (asks_of (Some w.does) (run s m).regs) (value a.form (entry_of C s) (times (nest_of G nest.root nest.inner) s m)) a.width b) (sym own.store)
    (subst (λ z. AsksFor (asks_of (Some w.does) (run s m).regs) (value a.form (entry_of C s) (times (nest_of G nest.root nest.inner) s m)) z own.motion.store) (sym own.width) r))

-- a word with an access uses no cell
unused : (k : Option ℕ) (o : Option Motion) (m : Motion) → unless_used k o ≡ Some m → k ≡ None
unused None o m e = refl
unused (Some k) o m e = absurd (cc)

pub cell_law : (levels : List Level) (body : List ℕ) (B : LoopCode) (at : ℕ → ℕ → Option LinearForm) (list : List Access) (a : Access) → AreAccesses levels body B at list → Contains list a → B.cells.uses a.at ≡ None
cell_law levels body B at list a are c = let own = (are.each a c).1 in unused (B.cells.uses a.at) (motion_of (B.instr a.at)) own.motion own.moves

-- what asks memory for anything is a load or a store
moves_some : (i : Option Instr) (regs : List ℕ) → asks_of i regs ≢ Nothing → (m : Motion) × (motion_of i ≡ Some m)
moves_some None regs ne = absurd (ne refl)
moves_some (Some (Load op rd rs1 imm)) regs ne = (record { base = rs1; offset = imm; width = load_width op; store = false }, refl)
moves_some (Some (Store op rs1 rs2 imm)) regs ne = (record { base = rs1; offset = imm; width = store_width op; store = true }, refl)
moves_some (Some (Alu op rd rs1 rs2)) regs ne = absurd (ne refl)
moves_some (Some (AluImm op rd rs1 imm)) regs ne = absurd (ne refl)
moves_some (Some (Upper op rd imm)) regs ne = absurd (ne refl)
moves_some (Some (Branch op rs1 rs2 imm)) regs ne = absurd (ne refl)
moves_some (Some (Jal rd imm)) regs ne = absurd (ne refl)
moves_some (Some (Jalr rd rs1 imm)) regs ne = absurd (ne refl)
moves_some (Some (Fence rd rs1 imm)) regs ne = absurd (ne refl)
moves_some (Some Ecall) regs ne = absurd (ne refl)
moves_some (Some Ebreak) regs ne = absurd (ne refl)

pub each_law : (levels : List Level) (body : List ℕ) (B : LoopCode) (at : ℕ → ℕ → Option LinearForm) (list : List Access) (u : ℕ) (regs : List ℕ) → AreAccesses levels body B at list → Contains body u → B.cells.uses u ≡ None → asks_of (B.instr u) regs ≢ Nothing → Contains (map (λ (a : Access). a.at) list) u
each_law levels body B at list u regs are c e ne =
    let m = moves_some (B.instr u) regs ne in
    are.every u m.0 c (ap (λ k. unless_used k (motion_of (B.instr u))) e ∙ m.1)
