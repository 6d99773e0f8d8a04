-- What a call of the guest's environment does. The number stands in a7, the arguments in a0, a1 and
-- a2, and the answer goes to a0; the numbers are those of Linux for RISC-V.
use Rattle.std.specs.Prelude.{ℕ, ◌==◌, ◌-◌, ◌%◌, ◌^◌, not, ◌&&◌, ◌||◌, nat_le, if◌then◌else◌, List, [], length, take, drop}
use Rattle.rv64_decode.specs.Area.{Area, readable_of, writable_of}
use Rattle.rv64_decode.specs.Registers.{register, with_register}
use Rattle.guest_memory.specs.Spans.{all_permitted, bytes_at, with_bytes_at}
use Rattle.guest_calls.specs.declared.Brk.{Brk}
use Rattle.guest_calls.specs.declared.Going.{Going}
use Rattle.guest_calls.specs.declared.Going.TheVariants.{On, Exit}

-- what a call may change, and what it answers to the run
pub record Called : Type 0 where
  pub regs : List ℕ
  pub memory : List Area
  pub brk : Brk
  -- the bytes that it appends to the output
  pub written : List ℕ
  -- the bytes of the input that it leaves
  pub rest : List ℕ
  pub going : Going

-- the registers of the call
abbrev pub a0 : List ℕ → ℕ
a0 regs = register regs 10

abbrev pub a1 : List ℕ → ℕ
a1 regs = register regs 11

abbrev pub a2 : List ℕ → ℕ
a2 regs = register regs 12

abbrev pub a7 : List ℕ → ℕ
a7 regs = register regs 17

-- an error's number, negated as a word
abbrev pub negated : ℕ → ℕ
negated n = 2 ^ 64 - n

-- a call with this answer, which changes nothing but a0
abbrev pub answered : ℕ → List ℕ → List Area → Brk → List ℕ → Called
answered answer regs memory brk rest =
    record { regs = with_register regs 10 answer; memory = memory; brk = brk; written = []; rest = rest; going = On }

-- the bytes of the input that a read takes: as many as are asked for and there, where the descriptor
-- is 0 and all of the buffer may be written
abbrev pub bytes_read : ℕ → ℕ → ℕ → List Area → List ℕ → List ℕ
bytes_read fd addr len memory rest =
    if fd == 0 && all_permitted writable_of len memory addr then take len rest else []

-- how many they are, or -9 (EBADF) for another descriptor, or -14 (EFAULT) for another buffer
abbrev pub read_answer : ℕ → ℕ → ℕ → List Area → List ℕ → ℕ
read_answer fd addr len memory rest =
    if not (fd == 0) then negated 9 else
    if not (all_permitted writable_of len memory addr) then negated 14 else length (take len rest)

abbrev pub read_call : List ℕ → List Area → Brk → List ℕ → Called
read_call regs memory brk rest =
    let got = bytes_read (a0 regs) (a1 regs) (a2 regs) memory rest in
    record {
      regs = with_register regs 10 (read_answer (a0 regs) (a1 regs) (a2 regs) memory rest);
      memory = with_bytes_at memory (a1 regs) got;
      brk = brk;
      written = [];
      rest = drop (length got) rest;
      going = On;
    }

-- the bytes that a write appends to the output: those of the buffer, where the descriptor is 1 or 2
-- and all of the buffer may be read
abbrev pub bytes_written : ℕ → ℕ → ℕ → List Area → List ℕ
bytes_written fd addr len memory =
    if (fd == 1 || fd == 2) && all_permitted readable_of len memory addr then bytes_at len memory addr else []

abbrev pub write_answer : ℕ → ℕ → ℕ → List Area → ℕ
write_answer fd addr len memory =
    if not (fd == 1 || fd == 2) then negated 9 else
    if not (all_permitted readable_of len memory addr) then negated 14 else len

abbrev pub write_call : List ℕ → List Area → Brk → List ℕ → Called
write_call regs memory brk rest =
    record {
      regs = with_register regs 10 (write_answer (a0 regs) (a1 regs) (a2 regs) memory);
      memory = memory;
      brk = brk;
      written = bytes_written (a0 regs) (a1 regs) (a2 regs) memory;
      rest = rest;
      going = On;
    }

-- exit: the run ends with a code of 8 bits, and all else stays
abbrev pub exit_call : List ℕ → List Area → Brk → List ℕ → Called
exit_call regs memory brk rest =
    record { regs = regs; memory = memory; brk = brk; written = []; rest = rest; going = Exit (a0 regs % 256) }

-- the break moves where the address lies in the heap or at its end
abbrev pub moved_break : Brk → ℕ → ℕ
moved_break brk to = if nat_le brk.low to && nat_le to brk.high then to else brk.at

abbrev pub brk_call : List ℕ → List Area → Brk → List ℕ → Called
brk_call regs memory brk rest =
    let at = moved_break brk (a0 regs) in answered at regs memory (record brk { at = at }) rest

-- the table of calls; every other number is answered by -38 (ENOSYS)
unfoldable pub called : List ℕ → List Area → Brk → List ℕ → Called
called regs memory brk rest =
    if a7 regs == 63 then read_call regs memory brk rest else
    if a7 regs == 64 then write_call regs memory brk rest else
    if a7 regs == 93 || a7 regs == 94 then exit_call regs memory brk rest else
    if a7 regs == 214 then brk_call regs memory brk rest else
    answered (negated 38) regs memory brk rest
