-- The addresses of accesses in a run are the values of their forms.
use Rattle.std.specs.Prelude.{ℕ, ◌≡◌, ◌≢◌, Bool, true, false, List, map, Option, None}
use Rattle.std.specs.List.{Contains}
use Rattle.rv64_decode.specs.Ask.{Ask, Nothing, Loads, Stores}
use Rattle.rv64_decode.specs.declared.memory.Width.{Width}
use Rattle.linear_forms.specs.Forms.{LinearForm, value}
use Rattle.loop_data.specs.declared.accesses.Access.{Access}
use Rattle.loop_data.specs.declared.graph.Graph.{Graph}
use Rattle.loop_data.specs.declared.shape.Level.{Level}
use Rattle.loop_data.specs.Nests.{nest_of}
use Rattle.loop_data.specs.LoopWords.{AreNest}
use Rattle.loop_data.specs.Runs.{State, run, walk, instr, asks_of}
use Rattle.loop_data.specs.Locations.{CellMap}
use Rattle.loop_data.specs.LoopCode.{LoopCode, code_of}
use Rattle.loop_data.specs.Holds.{entry_of, times, HoldsAt}
use Rattle.loop_data.specs.Executing.{AreProgramWords}
use Rattle.loop_data.specs.Accesses.{AreAccesses}

-- what is asked of memory is so many bytes from an address on, to be written or to be read
abbrev pub AsksFor : Ask → ℕ → Width → Bool → Type 0
AsksFor Nothing addr width store = ⊥
AsksFor (Loads a w) addr width store = (a ≡ addr) × (w ≡ width) × (store ≡ false)
AsksFor (Stores a w word) addr width store = (a ≡ addr) × (w ≡ width) × (store ≡ true)

-- so it is of each of a loop's accesses, at each visit of its word at which the forms hold: the address is the
-- value of its form
abbrev pub AddressLaw : Type 0
AddressLaw = (G : Graph) (levels : List Level) (nest : AreNest G levels) → AreProgramWords G → (C : CellMap) →
    let N = nest_of G nest.root nest.inner in
    let B = code_of G C in
    (at : ℕ → ℕ → Option LinearForm) (list : List Access) (a : Access) (s : State) (m : ℕ)
    → AreAccesses levels N.root.body B at list → Contains list a → walk s m ≡ a.at
    → instr (run s m) ≡ B.instr (walk s m) → HoldsAt N C at s m
    → AsksFor (asks_of (instr (run s m)) (run s m).regs) (value a.form (entry_of C s) (times N s m)) a.width
    a.store

-- no access that is listed is one of a cell
abbrev pub CellLaw : Type 0
CellLaw = (levels : List Level) (body : List ℕ) (B : LoopCode) (at : ℕ → ℕ → Option LinearForm) (list : List Access)
    (a : Access) → AreAccesses levels body B at list → Contains list a → B.cells.uses a.at ≡ None

-- and each word that accesses no cell and asks memory for anything has one
abbrev pub EachLaw : Type 0
EachLaw = (levels : List Level) (body : List ℕ) (B : LoopCode) (at : ℕ → ℕ → Option LinearForm) (list : List Access)
    (u : ℕ) (regs : List ℕ) → AreAccesses levels body B at list → Contains body u → B.cells.uses u ≡ None
    → asks_of (B.instr u) regs ≢ Nothing → Contains (map (λ (a : Access). a.at) list) u
