-- The values of the registers that a word reads.
use Rattle.std.proofs.Common.{◌≡◌, ℕ, ◌-◌, ◌<◌, true, Option, ap, ◌∙◌, subst, arith, if◌then◌else◌, nat_lt, pos}
use Rattle.std.proofs.lemmas.Bool.Decides.{nat_tests}
use Rattle.rv64_decode.specs.Registers.{register}
use Rattle.linear_forms.specs.Forms.{Alike, LinearForm, exact}
use Rattle.loop_data.specs.Nests.{Nest}
use Rattle.loop_data.specs.Runs.{State, run, walk}
use Rattle.loop_data.specs.Locations.{CellMap, first_cell, value_of, held, cell_at}
use Rattle.loop_data.specs.FormRows.{form_read}
use Rattle.loop_data.specs.Holds.{entry_of, times, HoldsAt}
use Rattle.loop_data.proofs.FormWords.{Right, right_read}

-- a register that is read has the value of its form
pub operand_right : (N : Nest) (C : CellMap) (at : ℕ → ℕ → Option LinearForm) (s : State) (m u r : ℕ) → HoldsAt N C at s m → walk s m ≡ u → r < 32 → Right (entry_of C s) (times N s m) (register (run s m).regs r) (form_read (at u) r)
operand_right N C at s m u r holds e lt =
    right_read (entry_of C s) (times N s m) (run s m).regs (at u) r (λ f k. subst (λ v. Alike (pos v) (exact f (entry_of C s) (times N s m))) is_register (holds r f (ap (λ x. at x r) e ∙ k)))
  where
    is_register : value_of C s.regs (run s m) r ≡ register (run s m).regs r
    is_register =
        let l : nat_lt r first_cell ≡ true = grind (arith, nat_tests) in
        ap (λ b. if b then register (run s m).regs r else held s.regs (cell_at C.cells (r - first_cell)) (run s m).memory) l
