-- Harts that hold words go on to hold words.
use Rattle.std.proofs.Common.{◌≡◌, ℕ, zero, suc, ◌/◌, ◌-◌, ◌%◌, ◌<◌, ◌^◌, refl, ◌∙◌, subst, arith, Option, Some, None, Bool, true, false, cond, List, [], ◌∷◌}
use Rattle.std.specs.Prelude.{slice_index, slice_set, slice_get, ◌==◌, ◌&&◌, nat_le}
use Rattle.std.specs.List.{All}
use Rattle.rv64_decode.specs.Area.{Area}
use Rattle.rv64_decode.specs.Ask.{Ask, Nothing, after}
use Rattle.rv64_decode.specs.Fields.{opcode, funct7}
use Rattle.rv64_decode.specs.Hart.{Hart, moved, act, run, fetched, read_by, outcome_at, x_asks}
use Rattle.rv64_decode.specs.Range.{IsInRange, AreWords, AreBytes}
use Rattle.rv64_decode.specs.Registers.{register, with_register}
use Rattle.rv64_decode.specs.Row.{outcome, next_pc}
use Rattle.rv64_decode.specs.Table.{decoded}
use Rattle.rv64_decode.specs.XTable.{decoded_x, added_row, with_base}
use Rattle.rv64_decode.specs.declared.instr.Instr.{Instr}
use Rattle.rv64_decode.specs.declared.outcome.Next.TheVariants.{At, Call, Fault as Faulting}
use Rattle.rv64_decode.specs.declared.xinstr.XInstr.{XInstr}
use Rattle.rv64_decode.specs.declared.xinstr.XInstr.TheVariants.{Base, Put, Get, Par, Join, Back, Id, Harts}
use Rattle.rv64_decode.specs.declared.xinstr.XNext.{XNext}
use Rattle.rv64_decode.specs.declared.xinstr.XNext.TheVariants.{Own, Shared}
use Rattle.rv64_decode.proofs.Sound.{set_below}
use Rattle.stub_laws.specs.Harts.{AreSlots}
use Rattle.stub_laws.specs.Sound.{IsSound, StaysSound, SoundLaw}
use Rattle.stub_laws.proofs.Steps.{holds_many}
use Rattle.stub_laws.proofs.Opens.{based, x_not}

-- a word of the code has 32 bits
word_in : (code : List ℕ) (k w : ℕ) → All (λ x. x < 2 ^ 32) code → slice_get code k ≡ Some w → w < 2 ^ 32
word_in [] k w all e = absurd (cc)
word_in (x ∷ xs) zero w all e = let s : x ≡ w = cc in subst (λ y. y < 2 ^ 32) s (all 0 0 (omega arith))
word_in (x ∷ xs) (suc k) w all e = word_in xs k w (λ j d l. all (suc j) d (omega arith)) e

slots_set : (slots : List ℕ) (s v : ℕ) → AreSlots slots → v < 2 ^ 64 → AreSlots (slice_set slots s v)
slots_set slots s v h b = record { count = holds_many slots s v h.count; below = λ q. set_below slots s v q (2 ^ 64) h.below b }

same : (h : Hart) → IsSound h → StaysSound h h
same h s = record { sound = s; number = refl; harts = refl }

module _ (fields : (w : ℕ) (i : Instr) → w < 2 ^ 32 → decoded w ≡ Some i → IsInRange i)
    (words : (i : Instr) (pc : ℕ) (regs : List ℕ) (m : List Area) → IsInRange i → AreBytes m → AreWords regs → AreWords (outcome i pc regs m).regs)
    (bytes : (m : List Area) (ask : Ask) → AreBytes m → AreBytes (after m ask))
    (write : (regs : List ℕ) (r value : ℕ) → AreWords regs → value < 2 ^ 64 → AreWords (with_register regs r value))
    (reads : (regs : List ℕ) (r : ℕ) → AreWords regs → register regs r < 2 ^ 64) where
  -- an instruction of RV64IM that a word stands for has its fields in range
  in_range : (w : ℕ) (i : Instr) → w < 2 ^ 32 → decoded_x w ≡ Some (Base i) → IsInRange i
  unfolding decoded_x
  in_range w i b e = by_test (opcode w == 0x0B && funct7 w == 0) e
    where
      by_test : (t : Bool) → cond t (added_row w) (with_base (decoded w)) ≡ Some (Base i) → IsInRange i
      by_test true e = absurd (x_not w i e)
      by_test false e = fields w i b (based (decoded w) i e)

  read_in : (code : List ℕ) (k : ℕ) (i : Instr) → All (λ x. x < 2 ^ 32) code → read_by (slice_get code k) ≡ Some (Base i) → IsInRange i
  read_in code k i all e = go (slice_get code k) refl e
    where
      go : (o : Option ℕ) → slice_get code k ≡ o → read_by o ≡ Some (Base i) → IsInRange i
      go None q f = absurd (cc)
      go (Some w) q f = in_range w i (word_in code k w all q) f

  fetched_in : (code : List ℕ) (pc : ℕ) (i : Instr) → All (λ x. x < 2 ^ 32) code → fetched code pc ≡ Some (Base i) → IsInRange i
  unfolding fetched
  fetched_in code pc i all e = by_test (nat_le 0x6000_0000 pc && pc % 4 == 0) e
    where
      by_test : (t : Bool) → cond t (read_by (slice_get code ((pc - 0x6000_0000) / 4))) None ≡ Some (Base i) → IsInRange i
      by_test true f = read_in code ((pc - 0x6000_0000) / 4) i all f
      by_test false f = absurd (cc)

  moved_sound : (h : Hart) (next : XNext) (regs slots : List ℕ) (ask : Ask) → IsSound h → AreWords regs → AreSlots slots → StaysSound h (moved h next regs slots ask)
  moved_sound h (Own (At pc)) regs slots ask s a b =
      record {
        sound = record { registers = a; slots = b; bytes = bytes h.memory ask s.bytes; number = s.number; harts = s.harts };
        number = refl;
        harts = refl;
      }
  moved_sound h (Own Call) regs slots ask s a b = same h s
  moved_sound h (Own (Faulting kind addr)) regs slots ask s a b = same h s
  moved_sound h Shared regs slots ask s a b = same h s

  acted : (code : List ℕ) (h : Hart) (o : Option XInstr) → fetched code h.pc ≡ o → All (λ x. x < 2 ^ 32) code → IsSound h → StaysSound h (act o h)
  acted code h None e all s = same h s
  acted code h (Some (Base i)) e all s =
      moved_sound h (outcome_at (Base i) h).next (outcome_at (Base i) h).regs (outcome_at (Base i) h).slots (x_asks (Base i) h.regs) s (words i h.pc h.regs h.memory (fetched_in code h.pc i all e) s.bytes s.registers) s.slots
  acted code h (Some (Put slot rs1)) e all s =
      moved_sound h (Own (At (next_pc h.pc))) h.regs (slice_set h.slots slot (register h.regs rs1)) Nothing s s.registers (slots_set h.slots slot (register h.regs rs1) s.slots (reads h.regs rs1 s.registers))
  acted code h (Some (Get rd slot)) e all s =
      moved_sound h (Own (At (next_pc h.pc))) (with_register h.regs rd (slice_index h.slots slot)) h.slots Nothing s (write h.regs rd (slice_index h.slots slot) s.registers (s.slots.below slot)) s.slots
  acted code h (Some Par) e all s = same h s
  acted code h (Some Join) e all s = same h s
  acted code h (Some Back) e all s = same h s
  acted code h (Some (Id rd)) e all s = moved_sound h (Own (At (next_pc h.pc))) (with_register h.regs rd h.number) h.slots Nothing s (write h.regs rd h.number s.registers s.number) s.slots
  acted code h (Some (Harts rd)) e all s = moved_sound h (Own (At (next_pc h.pc))) (with_register h.regs rd h.harts) h.slots Nothing s (write h.regs rd h.harts s.registers s.harts) s.slots

  further : (h m now : Hart) → StaysSound h m → StaysSound m now → StaysSound h now
  further h m now a b = record { sound = b.sound; number = b.number ∙ a.number; harts = b.harts ∙ a.harts }

  pub sound_runs : SoundLaw
  unfolding run
  sound_runs code zero h all s = same h s
  sound_runs code (suc n) h all s =
      let first = acted code h (fetched code h.pc) refl all s in
      further h (act (fetched code h.pc) h) (run code n (act (fetched code h.pc) h)) first
      (sound_runs code n (act (fetched code h.pc) h) all first.sound)
