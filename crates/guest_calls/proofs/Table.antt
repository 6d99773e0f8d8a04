-- The rows of the table of calls.
use Rattle.std.proofs.Common.{◌≡◌, ℕ, ◌==◌, true, ◌||◌, List, length, drop, refl, ap, sym, ◌∙◌}
use Rattle.rv64_decode.specs.Area.{Area, readable_of, writable_of}
use Rattle.rv64_decode.specs.Registers.{register}
use Rattle.guest_memory.specs.Spans.{all_permitted, bytes_at}
use Rattle.guest_calls.specs.Calls.{called, a0, a1, a2, a7, bytes_read, bytes_written}
use Rattle.guest_calls.specs.declared.Brk.{Brk}
use Rattle.guest_calls.proofs.Spans.{drop_taken}

-- a register that is read by its number
pub register_read : (regs : List ℕ) (value r n : ℕ) → value ≡ register regs r → r ≡ n → value ≡ register regs n
register_read regs value r n e f = e ∙ ap (λ (k : ℕ). register regs k) f

pub written_call : (regs : List ℕ) (memory : List Area) (brk : Brk) (rest : List ℕ) → a7 regs ≡ 64 → (called regs memory brk rest).written ≡ bytes_written (a0 regs) (a1 regs) (a2 regs) memory
unfolding called
written_call regs memory brk rest e = rw e refl

pub sent_bytes : (fd addr len : ℕ) (m : List Area) → (fd == 1 || fd == 2) ≡ true → all_permitted readable_of len m addr ≡ true → bytes_written fd addr len m ≡ bytes_at len m addr
sent_bytes fd addr len m e h = rw (e, h) refl

-- what a read leaves of the input
pub left_by_read : (fd addr len : ℕ) (m : List Area) (xs : List ℕ) → fd ≡ 0 → all_permitted writable_of len m addr ≡ true → drop len xs ≡ drop (length (bytes_read fd addr len m xs)) xs
left_by_read fd addr len m xs e h = rw (e, h) (sym (drop_taken len xs))
