-- The added code of the chosen loops of an executable: a stub for each, one behind the other in the order of the loops'
-- headers.
use Rattle.std.specs.Prelude.{ℕ, ◌≡◌, ◌+◌, ◌<◌, ◌^◌, List, [], ◌∷◌, ◌++◌, length, Some, slice_get}
use Rattle.std.specs.List.{All}
use Rattle.elf_image.specs.declared.image.Elf.{Elf}
use Rattle.rv64_decode.specs.Hart.{address}
use Rattle.loop_data.specs.declared.graph.Graph.{Graph}
use Rattle.loop_data.specs.declared.plans.Plan.{Plan}
use Rattle.loop_data.specs.declared.shape.Level.{Level}
use Rattle.loop_data.specs.declared.shape.LoopShape.{LoopShape}
use Rattle.loop_data.specs.LoopCode.{LoopCode, code_of}
use Rattle.loop_data.specs.Lookups.{cell_map, roles_by}
use Rattle.alias_checks.specs.declared.lists.Check.{Check}
use Rattle.stub_laws.specs.Code.{readings, somes}
use Rattle.check_code.specs.CheckCode.{check_code}
use Rattle.turn_copies.specs.StubWords.{IsStub}
use Rattle.loop_choice.specs.Judging.{IsPlanOf}
use Rattle.image_writer.specs.declared.image.Entry.{Entry}

-- the header of a loop, and the words of its added code
pub record Stub : Type 0 where
  pub header : ℕ
  pub words : List ℕ

-- instruction words
abbrev pub AreShort : List ℕ → Type 0
AreShort words = All (λ (w : ℕ). w < 2 ^ 32) words

-- the words of a loop, and a cell where they access one
abbrev pub words_with_cells : Graph → Plan → LoopCode
words_with_cells G plan = code_of G (cell_map plan.cells)

-- the words of the added code of a loop with this plan and this check, if the first stands at place p
pub record AreStubWords (G : Graph) (plan : Plan) (check : Check) (p : ℕ) (words : List ℕ) : Type 0 where
  pub root : Level
  pub inner : List Level
  pub levels : plan.shape.levels ≡ root ∷ inner
  pub tests : List ℕ
  pub tell : readings tests ≡ somes (check_code check)
  pub short : AreShort words
  pub stub :
      IsStub root (words_with_cells G plan)
      (roles_by (words_with_cells G plan) plan.shape.levels plan.classes root) p tests words

-- the words of the added code of a loop, by its plan and its check
pub record AreWordsOf (elf : Elf) (G : Graph) (shape : LoopShape) (p : ℕ) (words : List ℕ) : Type 0 where
  pub plan : Plan
  pub check : Check
  pub planned : IsPlanOf G elf shape plan check
  pub are : AreStubWords G plan check p words

-- the stub of the loop at a place of the list of loops
pub record IsStubAt (elf : Elf) (G : Graph) (shapes : List LoopShape) (place p : ℕ) (stub : Stub) : Type 0 where
  pub shape : LoopShape
  pub is : slice_get shapes place ≡ Some shape
  pub header : stub.header ≡ shape.header
  pub words : AreWordsOf elf G shape p stub.words

-- those of the loops at these places, one behind the other, the first from place p on
abbrev pub AreStubs : Elf → Graph → List LoopShape → List ℕ → ℕ → List Stub → Type 0
AreStubs elf G shapes [] p [] = Unit {0}
AreStubs elf G shapes (place ∷ places) p (stub ∷ stubs) =
    IsStubAt elf G shapes place p stub × AreStubs elf G shapes places (p + length stub.words) stubs
AreStubs elf G shapes _ p _ = ⊥

-- where a run leaves the executable for each of them
abbrev pub entries_of : ℕ → List Stub → List Entry
entries_of p [] = []
entries_of p (stub ∷ stubs) =
    record { header = stub.header; stub = address p } ∷ entries_of (p + length stub.words) stubs

-- all their words
abbrev pub words_of : List Stub → List ℕ
words_of [] = []
words_of (stub ∷ stubs) = stub.words ++ words_of stubs
