-- Every state of an executable's run is sound.
use Rattle.std.proofs.Common.{◌≡◌, ℕ, zero, suc, ◌%◌, ◌^◌, ◌<◌, ◌==◌, not, ◌&&◌, ◌||◌, if◌then◌else◌, List, [], ◌∷◌, ◌++◌, length, get_or, take, replicate, true, false, Bool, Option, Some, None, Result, Ok, Err, refl, arith}
use Rattle.std.proofs.lemmas.Bool.Decides.{nat_tests}
use Rattle.std.proofs.lemmas.List.{length-take}
use Rattle.std.proofs.lemmas.List.Elements.{All-take, All-drop}
use Rattle.std.specs.Prelude.{All, nat_le}
use Rattle.elf_image.specs.Layout.{IsLoadable}
use Rattle.elf_image.specs.declared.image.Segment.{Segment}
use Rattle.elf_image.specs.declared.image.Elf.{Elf}
use Rattle.rv64_decode.specs.Area.{Area, fetch_of, number_at, or_refusal, why, executable_of, writable_of, load_of}
use Rattle.rv64_decode.specs.Ask.{after, answer}
use Rattle.rv64_decode.specs.Range.{IsInRange, AreWords, AreBytes}
use Rattle.rv64_decode.specs.Registers.{register, with_register}
use Rattle.rv64_decode.specs.Row.{asks, outcome, row, jump, onward, loaded, stored, taken, plus_offset, next_pc}
use Rattle.rv64_decode.specs.Table.{decoded}
use Rattle.rv64_decode.specs.declared.memory.MemFault.{MemFault}
use Rattle.rv64_decode.specs.declared.memory.Width.TheVariants.{Four}
use Rattle.rv64_decode.specs.declared.instr.Instr.{Instr}
use Rattle.rv64_decode.specs.declared.instr.Instr.TheVariants.{Alu, AluImm, Upper, Load, Store, Branch, Jal, Jalr, Fence, Ecall, Ebreak}
use Rattle.rv64_decode.specs.declared.outcome.Next.{Next}
use Rattle.rv64_decode.specs.declared.outcome.Next.TheVariants.{At, Call, Fault as Faulting}
use Rattle.rv64_decode.proofs.Fields.{decoded-in_range}
use Rattle.rv64_decode.proofs.Sound.{row-words, after_are, written, register_below, number_4}
use Rattle.guest_memory.specs.Areas.{areas_of, zeros, segment_areas}
use Rattle.guest_memory.specs.Layout.{KeepAreas}
use Rattle.guest_memory.specs.Spans.{all_permitted, with_bytes_at}
use Rattle.guest_memory.proofs.Kept.{keep_self, keep_on, keep-lie, after-keeps, span-keeps, span-bytes}
use Rattle.guest_memory.proofs.Loaded.{areas-lie}
use Rattle.guest_calls.proofs.Spans.{permitted_taken}
use Rattle.guest_calls.specs.Calls.{Called, called, a0, a1, a2, a7, negated, bytes_read, read_call, write_call, exit_call, brk_call, answered}
use Rattle.guest_calls.specs.declared.Brk.{Brk}
use Rattle.guest_calls.specs.declared.Going.{Going}
use Rattle.guest_calls.specs.declared.Going.TheVariants.{On, Exit}
use Rattle.serial_run.specs.Serial.{State, ended, start_of, with_left, after_next, after_call, after_instr, after_word, after_fetch, unless_ended, step, serial, pc_after}
use Rattle.serial_run.specs.Sound.{IsSound, HaveBytes}
use Rattle.serial_run.specs.declared.machine.End.{End}

-- ---- where an instruction leads

abbrev pub IsAlignedNext : Next → Type 0
IsAlignedNext (At pc) = pc % 4 ≡ 0
IsAlignedNext Call = Unit {0}
IsAlignedNext (Faulting kind addr) = Unit {0}

next_aligned : (pc : ℕ) → pc % 4 ≡ 0 → next_pc pc % 4 ≡ 0
next_aligned pc h = omega arith

jump_aligned : (to : ℕ) (old new : List ℕ) → IsAlignedNext (jump to old new).next
jump_aligned to old new = go (to % 4 == 0) refl
  where
    go : (b : Bool) → (to % 4 == 0) ≡ b → IsAlignedNext (if b then record { next = At to; regs = new } else Rattle.rv64_decode.specs.Row.stopped Rattle.rv64_decode.specs.declared.outcome.Fault.TheVariants.Target to old).next
    go true e = grind (arith, nat_tests)
    go false e = tt

row_aligned : (i : Instr) (pc : ℕ) (regs : List ℕ) (told : Result ℕ MemFault) → pc % 4 ≡ 0 → IsAlignedNext (row i pc regs told).next
row_aligned (Alu op rd rs1 rs2) pc regs told h = next_aligned pc h
row_aligned (AluImm op rd rs1 imm) pc regs told h = next_aligned pc h
row_aligned (Upper op rd imm) pc regs told h = next_aligned pc h
row_aligned (Load op rd rs1 imm) pc regs (Ok n) h = next_aligned pc h
row_aligned (Load op rd rs1 imm) pc regs (Err why) h = tt
row_aligned (Store op rs1 rs2 imm) pc regs (Ok n) h = next_aligned pc h
row_aligned (Store op rs1 rs2 imm) pc regs (Err why) h = tt
row_aligned (Branch op rs1 rs2 imm) pc regs told h = go (taken op (register regs rs1) (register regs rs2))
  where
    go : (b : Bool) → IsAlignedNext (if b then jump (plus_offset pc imm) regs regs else onward pc regs).next
    go true = jump_aligned (plus_offset pc imm) regs regs
    go false = next_aligned pc h
row_aligned (Jal rd imm) pc regs told h = jump_aligned _ regs _
row_aligned (Jalr rd rs1 imm) pc regs told h = jump_aligned _ regs _
row_aligned (Fence rd rs1 imm) pc regs told h = next_aligned pc h
row_aligned Ecall pc regs told h = tt
row_aligned Ebreak pc regs told h = tt

-- ---- what a call leaves

pub record IsSoundCall (elf : Elf) (c : Called) : Type 0 where
  pub registers : AreWords c.regs
  pub bytes : AreBytes c.memory
  pub areas : KeepAreas (areas_of elf) c.memory
  pub break_word : c.brk.at < 2 ^ 64
  pub unread : All (λ b. b < 256) c.rest

module _ (elf : Elf) (regs : List ℕ) (m : List Area) (brk : Brk) (rest : List ℕ) (ok : AreWords regs) (bytes : AreBytes m)
    (areas : KeepAreas (areas_of elf) m) (low : brk.at < 2 ^ 64) (unread : All (λ b. b < 256) rest) where
  answered_sound : (value : ℕ) → value < 2 ^ 64 → IsSoundCall elf (answered value regs m brk rest)
  answered_sound value l =
      record { registers = written regs 10 value l ok; bytes = bytes; areas = areas; break_word = low; unread = unread }

  exit_sound : IsSoundCall elf (exit_call regs m brk rest)
  exit_sound = record { registers = ok; bytes = bytes; areas = areas; break_word = low; unread = unread }

  brk_sound : IsSoundCall elf (brk_call regs m brk rest)
  brk_sound = go (nat_le brk.low (a0 regs) && nat_le (a0 regs) brk.high)
    where
      go : (b : Bool) → IsSoundCall elf (let at = if b then a0 regs else brk.at in answered at regs m (record brk { at = at }) rest)
      go true = let l = register_below regs 10 ok in record { registers = written regs 10 (a0 regs) l ok; bytes = bytes; areas = areas; break_word = l; unread = unread }
      go false = record { registers = written regs 10 brk.at low ok; bytes = bytes; areas = areas; break_word = low; unread = unread }

  write_sound : IsSoundCall elf (write_call regs m brk rest)
  write_sound = record { registers = written regs 10 _ (go (not (a0 regs == 1 || a0 regs == 2)) (not (all_permitted Rattle.rv64_decode.specs.Area.readable_of (a2 regs) m (a1 regs)))) ok; bytes = bytes; areas = areas; break_word = low; unread = unread }
    where
      go : (b c : Bool) → (if b then negated 9 else if c then negated 14 else a2 regs) < 2 ^ 64
      go true c = omega arith
      go false true = omega arith
      go false false = register_below regs 12 ok

  read_sound : IsSoundCall elf (read_call regs m brk rest)
  read_sound =
      let got = bytes_read (a0 regs) (a1 regs) (a2 regs) m rest in
      let open_to = taken_open (a0 regs == 0) (all_permitted writable_of (a2 regs) m (a1 regs)) refl in
      record {
        registers = written regs 10 _ (value (not (a0 regs == 0)) (not (all_permitted writable_of (a2 regs) m (a1 regs)))) ok;
        bytes = span-bytes m (a1 regs) got bytes (taken_bytes (a0 regs == 0 && all_permitted writable_of (a2 regs) m (a1 regs)));
        areas = keep_on (areas_of elf) m (with_bytes_at m (a1 regs) got) areas (span-keeps m (a1 regs) got open_to);
        break_word = low;
        unread = All-drop (λ b. b < 256) (length got) rest unread;
      }
    where
      value : (b c : Bool) → (if b then negated 9 else if c then negated 14 else length (take (a2 regs) rest)) < 2 ^ 64
      value true c = omega arith
      value false true = omega arith
      value false false = let l = register_below regs 12 ok in let t = length-take (a2 regs) rest in omega arith

      taken_bytes : (b : Bool) → All (λ v. v < 256) (if b then take (a2 regs) rest else [])
      taken_bytes true = All-take (λ v. v < 256) (a2 regs) rest unread
      taken_bytes false = λ k d l. absurd (omega arith)

      taken_open : (b c : Bool) → all_permitted writable_of (a2 regs) m (a1 regs) ≡ c → all_permitted writable_of (length (if b && c then take (a2 regs) rest else [])) m (a1 regs) ≡ true
      taken_open true true e = permitted_taken writable_of (a2 regs) (a2 regs) rest m (a1 regs) e (omega arith)
      taken_open true false e = refl
      taken_open false c e = refl

  called_sound : IsSoundCall elf (called regs m brk rest)
  unfolding called
  called_sound = go (a7 regs == 63) (a7 regs == 64) (a7 regs == 93 || a7 regs == 94) (a7 regs == 214)
    where
      go : (a b c d : Bool) → IsSoundCall elf
          (if a then read_call regs m brk rest else
          if b then write_call regs m brk rest else
          if c then exit_call regs m brk rest else
          if d then brk_call regs m brk rest else
          answered (negated 38) regs m brk rest)
      go true b c d = read_sound
      go false true c d = write_sound
      go false false true d = exit_sound
      go false false false true = brk_sound
      go false false false false = answered_sound (negated 38) (omega arith)

after_call_sound : (elf : Elf) (s : State) (c : Called) → s.machine.pc % 4 ≡ 0 → IsSoundCall elf c → IsSound elf (after_call s c)
after_call_sound elf s c at h = record {
  registers = h.registers;
  bytes = h.bytes;
  areas = h.areas;
  aligned = go c.going;
  break_word = h.break_word;
  unread = h.unread;
}
  where
    go : (g : Going) → pc_after s.machine.pc g % 4 ≡ 0
    go On = next_aligned s.machine.pc at
    go (Exit code) = at

-- ---- steps

next_sound : (elf : Elf) (s : State) (n : Next) → IsSound elf s → IsAlignedNext n → IsSound elf (after_next s n)
next_sound elf s (At pc) h at = record {
  registers = h.registers;
  bytes = h.bytes;
  areas = h.areas;
  aligned = at;
  break_word = h.break_word;
  unread = h.unread;
}
next_sound elf s Call h at =
    let m = s.machine in
    after_call_sound elf s (called m.regs m.memory m.brk s.rest) h.aligned
    (called_sound elf m.regs m.memory m.brk s.rest h.registers h.bytes h.areas h.break_word h.unread)
next_sound elf s (Faulting kind addr) h at = record {
  registers = h.registers;
  bytes = h.bytes;
  areas = h.areas;
  aligned = h.aligned;
  break_word = h.break_word;
  unread = h.unread;
}

instr_sound : (elf : Elf) (s : State) (i : Instr) → IsLoadable elf → IsInRange i → IsSound elf s → IsSound elf (after_instr s i)
instr_sound elf s i is range h =
    let m = s.machine in
    let o = outcome i m.pc m.regs m.memory in
    let lie = keep-lie 0 (areas_of elf) m.memory (areas-lie elf is) h.areas in
    next_sound elf (with_left s o.regs (after m.memory (asks i m.regs))) o.next
    (record {
      registers = row-words i m.pc m.regs m.memory range h.bytes h.registers;
      bytes = after_are m.memory (asks i m.regs) h.bytes;
      areas = keep_on (areas_of elf) m.memory (after m.memory (asks i m.regs)) h.areas (after-keeps m.memory (asks i m.regs) lie);
      aligned = h.aligned;
      break_word = h.break_word;
      unread = h.unread;
    })
    (row_aligned i m.pc m.regs (answer m.memory (asks i m.regs)) h.aligned)

word_sound : (elf : Elf) (s : State) (word : ℕ) (o : Option Instr) → decoded word ≡ o → word < 2 ^ 32 → IsLoadable elf → IsSound elf s → IsSound elf (after_word s word o)
word_sound elf s word None e l is h = record {
  registers = h.registers;
  bytes = h.bytes;
  areas = h.areas;
  aligned = h.aligned;
  break_word = h.break_word;
  unread = h.unread;
}
word_sound elf s word (Some i) e l is h = instr_sound elf s i is (decoded-in_range word i l e) h

fetch_sound : (elf : Elf) (s : State) (o : Option MemFault) → IsLoadable elf → IsSound elf s → IsSound elf (after_fetch s (or_refusal o (number_at 4 s.machine.memory s.machine.pc)))
fetch_sound elf s None is h =
    let word = number_at 4 s.machine.memory s.machine.pc in
    word_sound elf s word (decoded word) refl (number_4 s.machine.memory s.machine.pc h.bytes) is h
fetch_sound elf s (Some fault) is h = record {
  registers = h.registers;
  bytes = h.bytes;
  areas = h.areas;
  aligned = h.aligned;
  break_word = h.break_word;
  unread = h.unread;
}

unless_sound : (elf : Elf) (o : Option End) (s t : State) → IsSound elf s → IsSound elf t → IsSound elf (unless_ended o s t)
unless_sound elf None s t h k = k
unless_sound elf (Some end) s t h k = h

step_sound : (elf : Elf) (s : State) → IsLoadable elf → IsSound elf s → IsSound elf (step s)
unfolding step
step_sound elf s is h =
    unless_sound elf (ended s) s _ h (fetch_sound elf s (why executable_of s.machine.memory s.machine.pc Four) is h)

serial_sound : (elf : Elf) (n : ℕ) (s : State) → IsLoadable elf → IsSound elf s → IsSound elf (serial n s)
serial_sound elf zero s is h = h
serial_sound elf (suc n) s is h = serial_sound elf n (step s) is (step_sound elf s is h)

-- ---- the start

zero_below : (n i : ℕ) → get_or (replicate n 0) i 0 < 256
zero_below zero i = omega arith
zero_below (suc n) zero = omega arith
zero_below (suc n) (suc i) = zero_below n i

zeros_below : (n i : ℕ) → get_or (zeros n) i 0 < 256
unfolding zeros
zeros_below n i = zero_below n i

append_below : (xs ys : List ℕ) → ((i : ℕ) → get_or xs i 0 < 256) → ((i : ℕ) → get_or ys i 0 < 256) → (i : ℕ) → get_or (xs ++ ys) i 0 < 256
append_below [] ys h k i = k i
append_below (x ∷ xs) ys h k zero = h 0
append_below (x ∷ xs) ys h k (suc i) = append_below xs ys (λ j. h (suc j)) k i

areas_bytes : (segments : List Segment) (m : List Area) → HaveBytes segments → AreBytes m → AreBytes (segment_areas segments ++ m)
areas_bytes [] m h k = k
areas_bytes (s ∷ rest) m h k =
    (append_below _ _ (zeros_below _) (append_below s.bytes _ h.0 (zeros_below _)), areas_bytes rest m h.1 k)

start_words : AreWords (with_register (replicate 32 0) 2 0x7F7F_FFC0)
start_words = written (replicate 32 0) 2 0x7F7F_FFC0 (omega arith) (record { count = refl; zero = refl; below = λ r. let l = zero_below 32 r in omega arith })

start_sound : (elf : Elf) (input : List ℕ) → IsLoadable elf → HaveBytes elf.segments → All (λ b. b < 256) input → IsSound elf (start_of elf input)
start_sound elf input is bytes h =
    let below = Rattle.guest_memory.proofs.Loaded.highest_end-le 0 elf.segments is.apart in
    record {
      registers = start_words;
      bytes = areas_bytes elf.segments _ bytes (zeros_below _, (zeros_below _, tt));
      areas = keep_self (areas_of elf);
      aligned = is.aligned;
      break_word = omega arith;
      unread = h;
    }

pub states_sound : (elf : Elf) (input : List ℕ) (n : ℕ) → IsLoadable elf → HaveBytes elf.segments → All (λ b. b < 256) input → IsSound elf (serial n (start_of elf input))
states_sound elf input n is bytes h = serial_sound elf n (start_of elf input) is (start_sound elf input is bytes h)
