-- The added code of a divided loop behind its check, as one list.
use Rattle.std.specs.Prelude.{ℕ, suc, ◌≡◌, ◌≤◌, ◌^◌, List, ◌∷◌, ◌++◌, Some}
use Rattle.rv64_decode.specs.Hart.{address, fetched}
use Rattle.rv64_decode.specs.declared.xinstr.XInstr.{XInstr}
use Rattle.rv64_decode.specs.declared.xinstr.XInstr.TheVariants.{Par, Join}
use Rattle.loop_data.specs.declared.shape.Level.{Level}
use Rattle.loop_data.specs.Independent.{Role}
use Rattle.loop_data.specs.LoopCode.{LoopCode}
use Rattle.stub_laws.specs.Places.{behind}
use Rattle.turn_copies.specs.Copies.{Placed, place_in, end_in, in_order, body_code}
use Rattle.turn_copies.specs.Bodies.{IsBody, IsOrdered}
use Rattle.turn_copies.specs.StubCode.{fork_code, movings, begin_code, next_code, join_place, leave_code, refuse_code}
use Rattle.turn_copies.specs.Regions.{StandsRegion}

-- where the words behind a fork at place p begin, and the copies behind them. How many words there are does not depend
-- on where they lead
abbrev pub begin_place : ℕ → ℕ
begin_place p = behind (suc p) (fork_code (suc p) 0)

abbrev pub copies_place : (ℕ → Role) → ℕ → ℕ
copies_place roles p = behind (begin_place p) (begin_code (movings roles) (begin_place p) 0)

-- the place behind the copies
abbrev pub next_place : Level → LoopCode → (ℕ → Role) → ℕ → ℕ
next_place l B roles p = end_in l B l.body (copies_place roles p)

-- the place of the header's copy
abbrev pub header_place : Level → LoopCode → (ℕ → Role) → ℕ → ℕ
header_place l B roles p = place_in l B l.body (copies_place roles p) l.header

-- where the harts are joined
abbrev pub joined_at : Level → LoopCode → (ℕ → Role) → ℕ → ℕ
joined_at l B roles p = join_place (next_place l B roles p)

-- the words from place p on, where the harts are forked
abbrev pub divided_code : Level → LoopCode → (ℕ → Role) → ℕ → List XInstr
divided_code l B roles p =
    (Par ∷ fork_code (suc p) (joined_at l B roles p))
    ++ (begin_code (movings roles) (begin_place p) (header_place l B roles p)
    ++ (body_code l B (copies_place roles p)
    ++ (next_code (next_place l B roles p) (header_place l B roles p)
    ++ ((Join ∷ leave_code B.cells.cells) ++ refuse_code))))

-- the place at which a hart leaves where the check fails
abbrev pub refused_at : Level → LoopCode → (ℕ → Role) → ℕ → ℕ
refused_at l B roles p = behind (suc (joined_at l B roles p)) (leave_code B.cells.cells)

-- the words stand where they are wanted
pub record AreInPlace (code : List ℕ) (l : Level) (B : LoopCode) (roles : ℕ → Role) (p : ℕ) : Type 0 where
  pub forks : fetched code (address p) ≡ Some Par
  pub region : StandsRegion code l B roles (in_order l B (copies_place roles p)) (suc p)
  pub joins : fetched code (address (joined_at l B roles p)) ≡ Some Join
  pub leaves : Placed code (suc (joined_at l B roles p)) (leave_code B.cells.cells)
  pub refuses : Placed code (refused_at l B roles p) refuse_code

abbrev pub PlacesLaw : Type 0
PlacesLaw = (code : List ℕ) (l : Level) (B : LoopCode) (roles : ℕ → Role) (p : ℕ) → IsBody l B → IsOrdered l B
    → joined_at l B roles p ≤ 2 ^ 32 → Placed code p (divided_code l B roles p) → AreInPlace code l B roles p
