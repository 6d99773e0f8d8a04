-- What the words that test a duty do wherever they stand in added code: a hart whose known locations hold these values
-- goes on to their end where the duty is met, and to the target of the open jumps elsewhere. It writes no memory, and
-- makes no access.
use Rattle.std.specs.Prelude.{ℕ, ◌≡◌, ◌<◌, ◌^◌, Bool, List, []}
use Rattle.std.specs.List.{All}
use Rattle.rv64_decode.specs.Area.{Area}
use Rattle.linear_forms.specs.Forms.{IsForm}
use Rattle.loop_data.specs.declared.equations.Duty.{Duty}
use Rattle.alias_checks.specs.AccessTests.{duty_fits}
use Rattle.stub_laws.specs.Code.{readings, somes}
use Rattle.stub_laws.specs.Harts.{Checked}
use Rattle.check_code.specs.Rounds.{last_from, AreRoundsKnown}
use Rattle.check_code.specs.TurnLaws.{as_integers, AreInReach}
use Rattle.check_code.specs.DutyCode.{duty_code}

-- the slots have the last turn numbers, which are below 2 ^ 31
abbrev pub DutyLaw : Type 0
DutyLaw = (m : List Area) (known : ℕ → Bool) (e : ℕ → ℕ) (d : Duty) (words : List ℕ) → IsForm d.form
    → AreRoundsKnown known d.form d.around → AreInReach known → All (λ n. n < 2 ^ 31) (last_from e)
    → readings words ≡ somes (duty_code d)
    → Checked m known known e words (duty_fits (as_integers e) (last_from e) d) []
