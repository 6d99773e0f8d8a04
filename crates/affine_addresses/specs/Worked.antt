-- Accessed addresses, worked out by hand: an address that x10 holds.
use Rattle.std.specs.Prelude.{ℕ, ◌==◌, if◌then◌else◌, ℤ, Option, Some, None}
use Rattle.rv64_decode.specs.declared.memory.Width.{Width}
use Rattle.linear_forms.specs.Forms.{LinearForm, moving}
use Rattle.loop_data.specs.Accesses.{address_form, if_regular}

-- x10 has this step in each turn of the root, and this one in each pass of the loop inside; no other register has
-- a form
abbrev pub pointer : ℤ → ℤ → LinearForm
pointer step inner_step = record (moving 10 step) { second = inner_step }

abbrev pub pointer_alone : LinearForm → ℕ → Option LinearForm
pointer_alone f r = if r == 10 then Some f else None

-- the regular form of the address at an offset from a register
abbrev pub addressed : LinearForm → ℕ → ℤ → Width → Option LinearForm
addressed f base offset width = if_regular width (address_form (pointer_alone f) base offset)
