-- The whole added code of a loop as words, from the place where it is entered to its last one, and these words among
-- all added words.
use Rattle.std.specs.Prelude.{ℕ, ◌≡◌, ◌<◌, ◌+◌, ◌-◌, ◌^◌, List, ◌++◌, length, slice_index}
use Rattle.std.specs.List.{All}
use Rattle.rv64_decode.specs.Aim.{Aimed}
use Rattle.loop_data.specs.declared.shape.Level.{Level}
use Rattle.loop_data.specs.Independent.{Role}
use Rattle.loop_data.specs.LoopCode.{LoopCode}
use Rattle.stub_laws.specs.Code.{readings, somes}
use Rattle.stub_laws.specs.Places.{WordsAt, behind}
use Rattle.turn_copies.specs.Copies.{Placed}
use Rattle.turn_copies.specs.StubCode.{save_code}
use Rattle.turn_copies.specs.Stubs.{divided_code, joined_at, refused_at}

-- the place of the first word of a check, and that of the fork behind it, where the code is entered at place p
abbrev pub check_place : ℕ → ℕ
check_place p = behind p save_code

abbrev pub fork_place : ℕ → List ℕ → ℕ
fork_place p check = check_place p + length check

-- registers are saved, the check's words follow, each of 32 bits, of which the open jumps lead to where the check fails,
-- and then the code of the divided loop
pub record IsStub (l : Level) (B : LoopCode) (roles : ℕ → Role) (p : ℕ) (check new : List ℕ) : Type 0 where
  pub saved : List ℕ
  pub aimed : List ℕ
  pub divided : List ℕ
  pub are : new ≡ saved ++ (aimed ++ divided)
  pub saves : readings saved ≡ somes save_code
  pub small : All (λ (w : ℕ). w < 2 ^ 32) check
  pub many : length aimed ≡ length check
  pub aims : (k : ℕ) → k < length check
      → Aimed (refused_at l B roles (fork_place p check) - check_place p) k (slice_index check k) (slice_index aimed k)
  pub divides : readings divided ≡ somes (divided_code l B roles (fork_place p check))

-- each of the parts stands in the added code, from place p on
pub record HasStub (code : List ℕ) (l : Level) (B : LoopCode) (roles : ℕ → Role) (p : ℕ) (check : List ℕ) : Type 0 where
  pub saves : Placed code p save_code
  pub checks : WordsAt code (check_place p) (refused_at l B roles (fork_place p check) - check_place p) 0 check
  pub divides : Placed code (fork_place p check) (divided_code l B roles (fork_place p check))

-- it does where the stub's words stand there among others
abbrev pub StubLaw : Type 0
StubLaw = (before new rest code : List ℕ) (l : Level) (B : LoopCode) (roles : ℕ → Role) (check : List ℕ)
    → code ≡ before ++ (new ++ rest) → IsStub l B roles (length before) check new
    → HasStub code l B roles (length before) check

-- the place of the join is behind that of the first word, where the check fails is behind both, and all are inside
pub record EndsInside (code : List ℕ) (l : Level) (B : LoopCode) (roles : ℕ → Role) (p : ℕ) (check : List ℕ)
    : Type 0 where
  pub joined : p < joined_at l B roles (fork_place p check)
  pub refused : joined_at l B roles (fork_place p check) < refused_at l B roles (fork_place p check)
  pub inside : refused_at l B roles (fork_place p check) < length code

abbrev pub EndLaw : Type 0
EndLaw = (code : List ℕ) (l : Level) (B : LoopCode) (roles : ℕ → Role) (p : ℕ) (check : List ℕ)
    → HasStub code l B roles p check → EndsInside code l B roles p check
