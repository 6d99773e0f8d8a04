-- What the tests of accesses do wherever they stand in added code: a hart whose slots 23 to 26 have the last turn
-- number of the root and the last passes of the inner loops goes on to the place behind the words where the check's
-- own test holds, and to the target of their open jumps where it fails.
use Rattle.std.specs.Prelude.{ℕ, ◌≡◌, ◌==◌, ◌<◌, ◌≤◌, ◌^◌, Bool, ◌||◌, List, length}
use Rattle.std.specs.List.{All}
use Rattle.rv64_decode.specs.Hart.{Hart}
use Rattle.linear_forms.specs.Forms.{IsForm}
use Rattle.loop_data.specs.Locations.{address}
use Rattle.loop_data.specs.declared.accesses.Access.{Access}
use Rattle.loop_data.specs.declared.plans.Term.{Term}
use Rattle.loop_data.specs.declared.verdict.Cell.{Cell}
use Rattle.dependence_tests.specs.Terms.{IsTermOf, IsSized}
use Rattle.dependence_tests.specs.PairTests.{pair_test}
use Rattle.alias_checks.specs.Areas.{Bounds, in_bounds}
use Rattle.alias_checks.specs.Entry.{start_value}
use Rattle.alias_checks.specs.AccessTests.{place_of, access_fits, keeps_off, box_of}
use Rattle.stub_laws.specs.Harts.{IsHartAt}
use Rattle.stub_laws.specs.Locations.{held}
use Rattle.stub_laws.specs.Places.{StandsIn, behind}
use Rattle.check_code.specs.Macros.{is_work}
use Rattle.check_code.specs.Laws.{entries, HasOffset, HoldsBase, Decides, AreLow}
use Rattle.check_code.specs.Rounds.{last_from}
use Rattle.check_code.specs.AccessCode.{access_code}
use Rattle.check_code.specs.MeetCode.{keep_off_code}
use Rattle.check_code.specs.PairCode.{pair_code}

-- the registers that added code works with
abbrev pub is_temporary : ℕ → Bool
is_temporary q = is_work q || (q == 30 || q == 31)

-- the last turn number and the last passes, from their slots
abbrev pub last_turns : Hart → List ℕ
last_turns h = last_from (held h)

-- they are below 2 ^ 31
abbrev pub AreLastLow : Hart → Type 0
AreLastLow h = All (λ n. n < 2 ^ 31) (last_turns h)

-- the address of an access at turn numbers 0
abbrev pub first_address : Access → Hart → ℕ
first_address a h = start_value a.form (entries h)

abbrev pub AccessLaw : Type 0
AccessLaw = (code : List ℕ) (to p : ℕ) (areas : List Bounds) (a : Access) (h : Hart) → length code ≤ 2 ^ 32
    → to ≤ 2 ^ 32 → length areas < 2 ^ 16 → AreLow areas → IsForm a.form → AreLastLow h
    → StandsIn code to p (access_code areas a) → IsHartAt p h
    → Decides code h (behind p (access_code areas a)) to is_temporary
    (access_fits (in_bounds areas) (entries h) (last_turns h) a)

abbrev pub KeepOffLaw : Type 0
KeepOffLaw = (code : List ℕ) (to p : ℕ) (c : Cell) (a : Access) (regs : List ℕ) (h : Hart) → length code ≤ 2 ^ 32
    → to ≤ 2 ^ 32 → HasOffset c.base c.offset → HoldsBase c.base regs h → IsForm a.form → AreLastLow h
    → address regs c < 2 ^ 31 → first_address a h < 2 ^ 31 → StandsIn code to p (keep_off_code c a) → IsHartAt p h
    → Decides code h (behind p (keep_off_code c a)) to is_temporary
    (keeps_off regs c (place_of (entries h) (last_turns h) a))

abbrev pub PairTestLaw : Type 0
PairTestLaw = (code : List ℕ) (to p : ℕ) (a b : Access) (term : Term) (h : Hart) → length code ≤ 2 ^ 32 → to ≤ 2 ^ 32
    → IsForm a.form → IsForm b.form → IsTermOf a b term → IsSized term → AreLastLow h → first_address a h < 2 ^ 31
    → first_address b h < 2 ^ 31 → StandsIn code to p (pair_code a b term) → IsHartAt p h
    → Decides code h (behind p (pair_code a b term)) to is_temporary
    (pair_test term
    (box_of (last_turns h) (place_of (entries h) (last_turns h) a) (place_of (entries h) (last_turns h) b)))
