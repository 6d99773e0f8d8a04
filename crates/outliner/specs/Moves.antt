-- The locations that move on, by the classes of a loop.
use Rattle.std.specs.Prelude.{ℕ, suc, ◌≡◌, ◌≤◌, ◌+◌, ◌^◌, false, List, ◌∷◌, ◌++◌, length, Option, None, slice_index_or}
use Rattle.rv64_decode.specs.declared.xinstr.XInstr.{XInstr}
use Rattle.rv64_decode.specs.declared.xinstr.XInstr.TheVariants.{Par, Join}
use Rattle.loop_data.specs.declared.classes.Class.{Class}
use Rattle.loop_data.specs.declared.shape.Level.{Level}
use Rattle.loop_data.specs.declared.verdict.Cell.{Cell}
use Rattle.loop_data.specs.Independent.{Role}
use Rattle.loop_data.specs.LoopCode.{LoopCode}
use Rattle.loop_data.specs.Lookups.{role_by}
use Rattle.stub_laws.specs.Code.{readings, somes}
use Rattle.stub_laws.specs.Places.{behind}
use Rattle.turn_copies.specs.Copies.{place_in, end_in, body_code}
use Rattle.turn_copies.specs.StubCode.{Moving, fork_code, movings, begin_code, next_code, join_place, leave_code, refuse_code}
use Rattle.turn_copies.specs.Stubs.{begin_place}

-- what the classes say of a location
abbrev pub roles_in : List (Option Class) → ℕ → Role
roles_in classes loc = role_by false (slice_index_or classes loc None)

-- the locations that move on by their classes, in order. It has a name since it computes to a case for each location
unfoldable pub moved : List (Option Class) → List Moving
moved classes = movings (roles_in classes)

-- the words from the fork, at place p, to the first turn, which begins with the copy at place `header`. Behind a turn a
-- hart goes on at place next
abbrev pub front_code : List Moving → ℕ → ℕ → ℕ → List XInstr
front_code ms p header next = (Par ∷ fork_code (suc p) (join_place next)) ++ begin_code ms (begin_place p) header

-- the words behind a turn, from place next on: those for the next turn, the join, and the way out, on which cells go
-- into memory
abbrev pub behind_code : List Cell → ℕ → ℕ → List XInstr
behind_code cells header next = next_code next header ++ (Join ∷ leave_code cells)

-- the words behind a check from place p on, where these locations move on
abbrev pub divided_by : Level → LoopCode → List Moving → ℕ → List XInstr
divided_by l B ms p =
    let c = behind (begin_place p) (begin_code ms (begin_place p) 0) in
    let n = end_in l B l.body c in
    (Par ∷ fork_code (suc p) (join_place n))
    ++ (begin_code ms (begin_place p) (place_in l B l.body c l.header)
    ++ (body_code l B c
    ++ (next_code n (place_in l B l.body c l.header) ++ ((Join ∷ leave_code B.cells.cells) ++ refuse_code))))

-- the place at which a hart then leaves where the check fails
abbrev pub refused_by : Level → LoopCode → List Moving → ℕ → ℕ
refused_by l B ms p =
    behind (suc (join_place (end_in l B l.body (behind (begin_place p) (begin_code ms (begin_place p) 0)))))
    (leave_code B.cells.cells)

-- these are the words behind a check, and as many of them stand before the place at which a hart leaves where it fails
pub record AreDivided (l : Level) (B : LoopCode) (ms : List Moving) (p : ℕ) (code : List ℕ) (count : ℕ) : Type 0 where
  pub words : readings code ≡ somes (divided_by l B ms p)
  pub refused : p + count ≡ refused_by l B ms p
  pub few : count ≤ 2 ^ 11
  pub last : length code ≡ count + 8
