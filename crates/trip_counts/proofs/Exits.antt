-- Where the branch of a loop leads at a visit: below the number of the trip into the loop, and at it out of it.
use Rattle.std.proofs.Common.{◌≡◌, ◌≢◌, ℕ, zero, suc, ◌%◌, ◌<◌, ◌⊎◌, inl, inr, List, [], ◌∷◌, Bool, true, false, not, Option, Some, None, refl, ap, sym, ◌∙◌, subst, arith, if◌then◌else◌, ◌==◌, ℤ}
use Rattle.rv64_decode.specs.Range.{AreWords, HasRegisters}
use Rattle.rv64_decode.specs.Registers.{register}
use Rattle.rv64_decode.specs.Row.{next_pc, plus_offset, onward, jump, stopped, taken}
use Rattle.rv64_decode.specs.declared.instr.Instr.{Instr}
use Rattle.rv64_decode.specs.declared.instr.Instr.TheVariants.{Alu, AluImm, Upper, Load, Store, Branch, Jal, Jalr, Fence, Ecall, Ebreak}
use Rattle.rv64_decode.specs.declared.instr.BranchOp.{BranchOp}
use Rattle.rv64_decode.specs.declared.outcome.Fault.TheVariants.{Target}
use Rattle.rv64_decode.specs.declared.outcome.Next.TheVariants.{At}
use Rattle.rv64_decode.proofs.Sound.{register_below}
use Rattle.linear_forms.specs.Forms.{LinearForm}
use Rattle.loop_data.specs.declared.graph.Graph.{Graph}
use Rattle.loop_data.specs.declared.shape.Level.{Level}
use Rattle.loop_data.specs.declared.trips.Trip.{Trip}
use Rattle.loop_data.specs.Nests.{Nest, has, In, Among, levels, nest_of, HasSides}
use Rattle.loop_data.specs.LoopWords.{next_words, IsLoopWord, AreNest}
use Rattle.loop_data.specs.Runs.{State, run, walk, goes_at}
use Rattle.loop_data.specs.Turns.{turn}
use Rattle.loop_data.specs.Passes.{pass, passes}
use Rattle.loop_data.specs.Locations.{CellMap}
use Rattle.loop_data.specs.LoopCode.{instr_among, code_of}
use Rattle.loop_data.specs.FormRows.{form_read}
use Rattle.loop_data.specs.Holds.{entry_of, times}
use Rattle.loop_data.specs.Executing.{AreProgramWords, Executes}
use Rattle.loop_data.specs.Trips.{stay, is_signed, trip_read, trip_by}
use Rattle.loop_data.proofs.Tests.{is_eq, yes_no}
use Rattle.loop_data.proofs.Lists.{to_in}
use Rattle.loop_data.proofs.Steps.{is_leads}
use Rattle.loop_data.proofs.Arounds.{time_at}
use Rattle.loop_data.proofs.NestVisits.{AreGiven, are_given, found_instr, here, holds_word, sound, step_is}
use Rattle.loop_data.proofs.Operands.{operand_right}
use Rattle.trip_counts.specs.TripLaws.{Tells, IsAtExit, StaysUntil}
use Rattle.trip_counts.proofs.Told.{Turns, trip_told}

-- the branch that a trip comes from
record Branching (l : Level) (i : Option Instr) (F : ℕ → Option LinearForm) (trip : Trip) : Type 0 where
  pub op : BranchOp
  pub rs1 : ℕ
  pub rs2 : ℕ
  pub imm : ℤ
  pub is : i ≡ Some (Branch op rs1 rs2 imm)
  pub reads :
      trip_read l.depth (stay op (has l.body (plus_offset l.exit imm))) (is_signed op) (form_read F rs1) (form_read F rs2)
      ≡ Some trip

branching : (l : Level) (i : Option Instr) (F : ℕ → Option LinearForm) (trip : Trip) → trip_by l i F ≡ Some trip → Branching l i F trip
branching l None F trip e = absurd (cc)
branching l (Some (Branch op rs1 rs2 imm)) F trip e = record { op = op; rs1 = rs1; rs2 = rs2; imm = imm; is = refl; reads = e }
branching l (Some (Alu op rd rs1 rs2)) F trip e = absurd (cc)
branching l (Some (AluImm op rd rs1 imm)) F trip e = absurd (cc)
branching l (Some (Upper op rd imm)) F trip e = absurd (cc)
branching l (Some (Load op rd rs1 imm)) F trip e = absurd (cc)
branching l (Some (Store op rs1 rs2 imm)) F trip e = absurd (cc)
branching l (Some (Jal rd imm)) F trip e = absurd (cc)
branching l (Some (Jalr rd rs1 imm)) F trip e = absurd (cc)
branching l (Some (Fence rd rs1 imm)) F trip e = absurd (cc)
branching l (Some Ecall) F trip e = absurd (cc)
branching l (Some Ebreak) F trip e = absurd (cc)

-- of the two sides of the branch that leaves a loop one is in the loop
record AreSides (l : Level) (taken_to onto : ℕ) : Type 0 where
  pub stays : has l.body taken_to ≡ false → has l.body onto ≡ true
  pub leaves : has l.body taken_to ≡ true → has l.body onto ≡ false

sides : (G : Graph) (levels : List Level) (nest : AreNest G levels) (l : Level) (op : BranchOp) (rs1 rs2 : ℕ) (imm : ℤ) → AreProgramWords G → Among (nest_of G nest.root nest.inner) l → instr_among G.words l.exit ≡ Some (Branch op rs1 rs2 imm)
    → AreSides l (plus_offset l.exit imm) (next_pc l.exit)
sides G levels nest l op rs1 rs2 imm words i e = record { stays = stays; leaves = leaves }
  where
    h : HasSides (nest_of G nest.root nest.inner) l
    h = nest.nest.shapes.sides l i

    w : IsLoopWord G l.exit
    w = nest.words l.exit (nest.nest.bodies.within l i l.exit h.inside)

    does : w.instr ≡ Branch op rs1 rs2 imm
    does = let k = sym (found_instr G l.exit (Some w.instr) words.ordered w.means) ∙ e in cc

    -- a word to which the branch leads is one of the two
    one_of : (v : ℕ) → (nest_of G nest.root nest.inner).leads l.exit v ≡ true → (next_pc l.exit ≡ v) ⊎ (plus_offset l.exit imm ≡ v)
    one_of v leads = go (to_in (next_pc l.exit ∷ plus_offset l.exit imm ∷ []) v (subst (λ (x : Instr). Rattle.std.specs.List.Contains (next_words x l.exit) v) does ((w.leads v).0 (is_leads G l.exit v leads))))
      where
        go : (next_pc l.exit ≡ v) ⊎ ((plus_offset l.exit imm ≡ v) ⊎ ⊥) → (next_pc l.exit ≡ v) ⊎ (plus_offset l.exit imm ≡ v)
        go (inl a) = inl a
        go (inr (inl b)) = inr b
        go (inr (inr c)) = absurd c

    stays : has l.body (plus_offset l.exit imm) ≡ false → has l.body (next_pc l.exit) ≡ true
    stays f = go (one_of h.on h.leads_on)
      where
        go : (next_pc l.exit ≡ h.on) ⊎ (plus_offset l.exit imm ≡ h.on) → has l.body (next_pc l.exit) ≡ true
        go (inl a) = subst (λ v. has l.body v ≡ true) (sym a) h.stays
        go (inr b) = absurd (yes_no _ (subst (λ v. has l.body v ≡ true) (sym b) h.stays) f)

    leaves : has l.body (plus_offset l.exit imm) ≡ true → has l.body (next_pc l.exit) ≡ false
    leaves f = go (one_of h.out h.leads_out)
      where
        go : (next_pc l.exit ≡ h.out) ⊎ (plus_offset l.exit imm ≡ h.out) → has l.body (next_pc l.exit) ≡ false
        go (inl a) = subst (λ v. has l.body v ≡ false) (sym a) h.leaves
        go (inr b) = absurd (yes_no _ f (subst (λ v. has l.body v ≡ false) (sym b) h.leaves))

-- a word of a loop is aligned
aligned : (G : Graph) (levels : List Level) (nest : AreNest G levels) (l : Level) (v : ℕ) → Among (nest_of G nest.root nest.inner) l → has l.body v ≡ true → v % 4 ≡ 0
aligned G levels nest l v i h = (nest.words v (nest.nest.bodies.within l i v h)).aligned

-- a branch that stays leads into the loop, and one that does not leads out of it
leads_in : (l : Level) (to pc : ℕ) (regs : List ℕ) (b c : Bool) → has l.body to ≡ b → AreSides l to (next_pc pc) → (has l.body to ≡ true → to % 4 ≡ 0) → (if b then c else not c) ≡ true
    → goes_at (has l.body) (if c then jump to regs regs else onward pc regs).next ≡ true
leads_in l to pc regs true true e s a q = go (to % 4 == 0) (is_eq _ _ (a e))
  where
    go : (k : Bool) → k ≡ true → goes_at (has l.body) (if k then record { next = At to; regs = regs } else stopped Target to regs).next ≡ true
    go true f = e
    go false f = absurd (cc)
leads_in l to pc regs true false e s a q = absurd (cc)
leads_in l to pc regs false true e s a q = absurd (cc)
leads_in l to pc regs false false e s a q = s.stays e

leads_out : (l : Level) (to pc : ℕ) (regs : List ℕ) (b c : Bool) → has l.body to ≡ b → AreSides l to (next_pc pc) → (if b then c else not c) ≡ false → goes_at (has l.body) (if c then jump to regs regs else onward pc regs).next ≡ false
leads_out l to pc regs true true e s q = absurd (cc)
leads_out l to pc regs true false e s q = s.leaves e
leads_out l to pc regs false true e s q = go (to % 4 == 0)
  where
    go : (k : Bool) → goes_at (has l.body) (if k then record { next = At to; regs = regs } else stopped Target to regs).next ≡ false
    go true = e
    go false = refl
leads_out l to pc regs false false e s q = absurd (cc)

pub exit_told : (G : Graph) (levels : List Level) (nest : AreNest G levels) → AreProgramWords G → (C : CellMap) (at : ℕ → ℕ → Option LinearForm) (l : Level) (s : State) (m n : ℕ) → Among (nest_of G nest.root nest.inner) l → Tells G C at l s n
    → IsAtExit (nest_of G nest.root nest.inner) (code_of G C) at l s m → StaysUntil l s m (times (nest_of G nest.root nest.inner) s m l.depth) n
exit_told G ls nest words C at l s m n i tells exit =
    record {
      stays = λ lt. subst (λ x. goes_at (has l.body) x ≡ true) (sym next) (leads_in l to l.exit regs (has l.body to) c refl two (aligned G ls nest l to i) (told.below lt));
      leaves = λ e. subst (λ x. goes_at (has l.body) x ≡ false) (sym next) (leads_out l to l.exit regs (has l.body to) c refl two (told.at e));
    }
  where
    N : Nest
    N = nest_of G nest.root nest.inner

    given : AreGiven (nest_of G nest.root nest.inner) (code_of G C)
    given = are_given G ls nest C words

    x : Branching l (instr_among G.words l.exit) (at l.exit) tells.trip
    x = branching l (instr_among G.words l.exit) (at l.exit) tells.trip tells.is

    to : ℕ
    to = plus_offset l.exit x.imm

    regs : List ℕ
    regs = (run s m).regs

    v : ℕ
    v = register (run s m).regs x.rs1

    w : ℕ
    w = register (run s m).regs x.rs2

    c : Bool
    c = taken x.op (register (run s m).regs x.rs1) (register (run s m).regs x.rs2)

    e : Executes nest.root (code_of G C) s m
    e = exit.executes

    are_words : AreWords (run s m).regs
    are_words = (sound (nest_of G nest.root nest.inner) (code_of G C) given nest.root (λ y h. h) s m e m (omega arith)).0

    registers : HasRegisters (Branch x.op x.rs1 x.rs2 x.imm)
    registers =
        let g = given (walk s m) (holds_word (nest_of G nest.root nest.inner) (code_of G C) given s m e m (omega arith)) in
        let k : g.does ≡ Branch x.op x.rs1 x.rs2 x.imm = (let q = sym g.is ∙ ap (instr_among G.words) exit.exit ∙ x.is in cc) in
        subst HasRegisters k g.range.registers

    told : Turns x.op (has l.body (plus_offset l.exit x.imm)) (register (run s m).regs x.rs1) (register (run s m).regs x.rs2) (times (nest_of G nest.root nest.inner) s m l.depth) n
    told =
        trip_told l.depth x.op (has l.body (plus_offset l.exit x.imm)) (form_read (at l.exit) x.rs1) (form_read (at l.exit) x.rs2) (entry_of C s) (times (nest_of G nest.root nest.inner) s m) n v w tells.trip x.reads tells.number
        (register_below (run s m).regs x.rs1 are_words) (register_below (run s m).regs x.rs2 are_words)
        (operand_right (nest_of G nest.root nest.inner) C at s m l.exit x.rs1 exit.holds exit.exit (first_register registers)) (operand_right (nest_of G nest.root nest.inner) C at s m l.exit x.rs2 exit.holds exit.exit (second_register registers))
      where
        first_register : HasRegisters (Branch x.op x.rs1 x.rs2 x.imm) → x.rs1 < 32
        first_register h = h.0

        second_register : HasRegisters (Branch x.op x.rs1 x.rs2 x.imm) → x.rs2 < 32
        second_register h = h.1

    two : AreSides l (plus_offset l.exit x.imm) (next_pc l.exit)
    two = sides G ls nest l x.op x.rs1 x.rs2 x.imm words i x.is

    here_now : (run s m).next ≡ At l.exit
    here_now = here (nest_of G nest.root nest.inner) (code_of G C) given s m e m (omega arith) ∙ ap At exit.exit

    next : (run s (suc m)).next ≡ (if taken x.op (register (run s m).regs x.rs1) (register (run s m).regs x.rs2) then jump (plus_offset l.exit x.imm) (run s m).regs (run s m).regs else onward l.exit (run s m).regs).next
    next = ap (λ (z : State). z.next) (step_is (run s m) l.exit (Branch x.op x.rs1 x.rs2 x.imm) here_now (exit.word ∙ ap (instr_among G.words) exit.exit ∙ x.is))

-- by its turns, and by its passes
pub turn_told : (G : Graph) (levels : List Level) (nest : AreNest G levels) → AreProgramWords G → (C : CellMap) (at : ℕ → ℕ → Option LinearForm) (s : State) (m n : ℕ) → Tells G C at nest.root s n
    → IsAtExit (nest_of G nest.root nest.inner) (code_of G C) at nest.root s m → StaysUntil nest.root s m (turn nest.root s m) n
turn_told G ls nest words C at s m n tells exit =
    subst (λ d. StaysUntil nest.root s m (times (nest_of G nest.root nest.inner) s m d) n) nest.nest.bodies.outermost
    (exit_told G ls nest words C at nest.root s m n (inl refl) tells exit)

pub pass_told : (G : Graph) (levels : List Level) (nest : AreNest G levels) → AreProgramWords G → (C : CellMap) (at : ℕ → ℕ → Option LinearForm) (l : Level) (s : State) (m n : ℕ) → In nest.inner l → Tells G C at l s n
    → IsAtExit (nest_of G nest.root nest.inner) (code_of G C) at l s m → StaysUntil l s m (pass l (walk s) m) n
pass_told G ls nest words C at l s m n i tells exit =
    subst (λ t. StaysUntil l s m t n) (deep l.depth (nest.nest.bodies.inner_deep l i) ∙ time_at (nest_of G nest.root nest.inner) l (walk s) m nest.nest (inr i) inside)
    (exit_told G ls nest words C at l s m n (inr i) tells exit)
  where
    inside : has l.body (walk s m) ≡ true
    inside = subst (λ u. has l.body u ≡ true) (sym exit.exit) (nest.nest.shapes.sides l (inr i)).inside

    deep : (d : ℕ) → d ≢ 0 → times (nest_of G nest.root nest.inner) s m d ≡ passes (nest_of G nest.root nest.inner) (walk s) m d
    deep zero ne = absurd (ne refl)
    deep (suc d) ne = refl
