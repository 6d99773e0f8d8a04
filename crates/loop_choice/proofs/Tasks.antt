-- A loop whose check holds in a state, with all that is known of it.
use Rattle.std.proofs.Common.{◌≡◌, ℕ, zero, suc, ◌-◌, ◌^◌, ◌<◌, ◌≤◌, ◌==◌, inl, inr, if◌then◌else◌, List, [], ◌∷◌, length, map, get_or, Option, Some, None, refl, ap, sym, ◌∙◌, subst, arith, slice_index, ℤ}
use Rattle.std.specs.Prelude.{slice_get}
use Rattle.std.specs.List.{All, AllPairs, Contains}
use Rattle.std.specs.List.Sorted.{IsStrictlyIncreasing}
use Rattle.std.proofs.lemmas.List.{get_or-map, length-map}
use Rattle.std.proofs.lemmas.List.Kept.{AllPairs-from_increasing}
use Rattle.std.proofs.lemmas.Option.{slice_get-get_or}
use Rattle.rv64_decode.specs.Area.{Area}
use Rattle.rv64_decode.specs.Fetched.{instr_at}
use Rattle.rv64_decode.specs.Range.{AreWords, AreBytes}
use Rattle.rv64_decode.specs.declared.instr.Instr.{Instr}
use Rattle.rv64_decode.specs.declared.outcome.Next.TheVariants.{At}
use Rattle.guest_memory.specs.Layout.{AreasLieFrom}
use Rattle.loop_data.specs.declared.accesses.Access.{Access}
use Rattle.loop_data.specs.declared.cells.Cells.{Cells}
use Rattle.loop_data.specs.declared.classes.Classes.{Classes}
use Rattle.loop_data.specs.declared.equations.Duty.{Duty}
use Rattle.loop_data.specs.declared.equations.Equations.{Equations}
use Rattle.loop_data.specs.declared.graph.Graph.{Graph}
use Rattle.loop_data.specs.declared.shape.Level.{Level}
use Rattle.loop_data.specs.declared.trips.Trip.{Trip}
use Rattle.loop_data.specs.declared.verdict.Cell.{Cell}
use Rattle.linear_forms.specs.Forms.{LinearForm}
use Rattle.loop_data.specs.Accesses.{AreAccesses}
use Rattle.loop_data.specs.Executing.{AreProgramWords}
use Rattle.loop_data.specs.Holds.{entry_of}
use Rattle.loop_data.specs.Instructions.{Means}
use Rattle.loop_data.specs.Locations.{cell_at}
use Rattle.loop_data.specs.LoopCode.{LoopCode, code_of}
use Rattle.loop_data.specs.LoopWords.{AreNest}
use Rattle.loop_data.specs.Lookups.{cell_map, form_at}
use Rattle.loop_data.specs.Nests.{Nest, nest_of, In}
use Rattle.loop_data.specs.Runs.{State, run}
use Rattle.loop_data.specs.Trips.{number_of_stays, IsTripAt}
use Rattle.loop_data.proofs.Tests.{is_eq, is_ne}
use Rattle.register_equations.specs.FormLaws.{AreResults, ResultLaw, AskLaw}
use Rattle.trip_counts.specs.TripLaws.{TurnLaw, PassLaw, Tells}
use Rattle.affine_addresses.specs.AddressLaws.{AddressLaw, EachLaw}
use Rattle.alias_checks.specs.declared.lists.Turns.{Turns}
use Rattle.alias_checks.specs.Holds.{CellHolds, CellsHold, RootHolds, PassesHold, DutyHolds, AccessHolds, KeepsOff}
use Rattle.alias_checks.specs.TurnTests.{last_of}
use Rattle.alias_checks.specs.Values.{AddressLaw as ValueLaw, DutyLaw}
use Rattle.loop_choice.proofs.KnownCells.{AreKnown}

-- the laws of the crates below
pub record Laws : Type 0 where
  pub results : ResultLaw
  pub asked : AskLaw
  pub turns : TurnLaw
  pub passes : PassLaw
  pub addresses : AddressLaw
  pub listed : EachLaw
  pub values : ValueLaw
  pub duties : DutyLaw

-- the eight tests, over the entry values of a state
pub record IsTested (cells : List Cell) (trips : List Trip) (duties : List Duty) (list : List Access) (e : ℕ → ℤ) (regs : List ℕ) (m : List Area) (t : Turns) : Type 0 where
  pub cells_hold : All (CellHolds regs m) cells
  pub cells_apart : AllPairs (CellsHold regs) cells
  pub root : RootHolds trips e t.root
  pub inner : (k : ℕ) → k < 3 → PassesHold (slice_get trips (suc k)) e (slice_index t.inner k)
  pub duties_hold : All (DutyHolds e (last_of t)) duties
  pub accesses_hold : All (AccessHolds m e (last_of t)) list
  pub off : All (λ (d : Cell). All (KeepsOff regs e (last_of t) d) list) cells

pub record Task : Type 0 where
  -- what is found of a nest of a program
  pub G : Graph
  pub levels : List Level
  pub nest : AreNest G levels
  pub words : AreProgramWords G
  pub cells : Cells
  pub classes : Classes
  pub equations : Equations
  pub results : AreResults G levels (nest_of G nest.root nest.inner) cells classes equations
  pub known : AreKnown (code_of G (cell_map cells)) cells.list.items
  pub trips : List Trip
  pub count : length trips ≡ length levels
  pub are_trips : (i : ℕ) (t : Trip) → slice_get trips i ≡ Some t → IsTripAt G levels (form_at equations.points) i (Some t)
  pub list : List Access
  pub accesses : AreAccesses levels nest.root.body (code_of G (cell_map cells)) (form_at equations.points) list
  -- a state at its header, in memory with the program's code
  pub state : State
  pub start : state.next ≡ At nest.root.header
  pub registers : AreWords state.regs
  pub bytes : AreBytes state.memory
  pub lie : AreasLieFrom 0 state.memory
  pub code : (u n : ℕ) (i : Option Instr) → Means G u i → instr_at (run state n).memory u ≡ i
  -- in which the check holds
  pub turns : Turns
  pub tested : IsTested cells.list.items trips equations.duties list (entry_of (cell_map cells) state) state.regs state.memory turns
  pub laws : Laws

abbrev pub net : Task → Nest
net k = nest_of k.G k.nest.root k.nest.inner

abbrev pub code_in : Task → LoopCode
code_in k = code_of k.G (cell_map k.cells)

abbrev pub forms_in : Task → ℕ → ℕ → Option LinearForm
forms_in k = form_at k.equations.points

abbrev pub entry_in : Task → ℕ → ℤ
entry_in k = entry_of (cell_map k.cells) k.state

abbrev pub last_in : Task → List ℕ
last_in k = last_of k.turns

-- ---- places of loops among the inner ones

abbrev pub place_of : List Level → Level → ℕ
place_of [] l = 0
place_of (m ∷ ms) l = if m.header == l.header then 0 else suc (place_of ms l)

-- each header is below all later ones
abbrev Rises : List Level → Type 0
Rises ls = AllPairs (λ x y. x < y) (map (λ (x : Level). x.header) ls)

headers_rise : (m : Level) (ms : List Level) (l : Level) (j : ℕ) → Rises (m ∷ ms) → j < length ms → get_or ms j l ≡ l → m.header < l.header
headers_rise m ms l j up lt e =
    let n = length-map ms (λ (x : Level). x.header) in
    let p = up 0 (suc j) 0 (omega arith) (omega arith) in
    let q : get_or (map (λ (x : Level). x.header) ms) j 0 ≡ l.header = get_or-map (λ (x : Level). x.header) ms j l 0 lt ∙ ap (λ (x : Level). x.header) e in
    omega arith

place_in_rising : (ls : List Level) → Rises ls → (j : ℕ) (l : Level) → j < length ls → get_or ls j l ≡ l → place_of ls l ≡ j
place_in_rising [] up j l lt e = absurd (omega arith)
place_in_rising (m ∷ ms) up zero l lt e = ap (λ b. if b then 0 else suc (place_of ms l)) (is_eq m.header l.header (ap (λ (x : Level). x.header) e))
place_in_rising (m ∷ ms) up (suc j) l lt e =
    let r = headers_rise m ms l j up (omega arith) e in
    ap (λ b. if b then 0 else suc (place_of ms l)) (is_ne m.header l.header (λ q. absurd (omega arith))) ∙ ap suc (place_in_rising ms (λ i j d below within. up (suc i) (suc j) d (omega arith) (omega arith)) j l (omega arith) e)

pub place_is : (ls : List Level) → IsStrictlyIncreasing (map (λ (x : Level). x.header) ls) → (j : ℕ) (l : Level) → j < length ls → get_or ls j l ≡ l → place_of ls l ≡ j
place_is ls up = place_in_rising ls (AllPairs-from_increasing (map (λ (x : Level). x.header) ls) up)

pub in_place : (ls : List Level) (l : Level) → In ls l → (j : ℕ) × (j < length ls) × (get_or ls j l ≡ l)
in_place [] l i = absurd i
in_place (m ∷ ms) l (inl e) = (0, omega arith, e)
in_place (m ∷ ms) l (inr i) = let r = in_place ms l i in (suc r.0, (let q = r.1 in omega arith), r.2)

-- ---- elements of lists

pub all_at : {X : Type 0} (P : X → Type 0) (xs : List X) (x : X) → All P xs → Contains xs x → P x
all_at P xs x all c = subst P c.2 (all c.0 x c.1)

pub cell_among : (cs : List Cell) (k : ℕ) (c : Cell) → cell_at cs k ≡ Some c → (k < length cs) × (get_or cs k c ≡ c)
cell_among [] k c e = absurd (cc)
cell_among (x ∷ xs) zero c e = (omega arith, cc)
cell_among (x ∷ xs) (suc k) c e = let r = cell_among xs k c e in ((let l = r.0 in omega arith), r.1)

-- ---- the last passes

-- the last pass of an inner loop
abbrev pub last_pass_in : Task → Level → ℕ
last_pass_in k l = slice_index (last_in k) (suc (place_of k.nest.inner l))

module _ (k : Task) where
  pub last_at_place : (j : ℕ) (l : Level) → j < length k.nest.inner → get_or k.nest.inner j l ≡ l → last_pass_in k l ≡ slice_index (last_in k) (suc j)
  last_at_place j l lt e = ap (λ i. slice_index (last_in k) (suc i)) (place_is k.nest.inner k.nest.inner_ordered j l lt e)

  levels_at : (i : ℕ) (l : Level) → get_or (k.nest.root ∷ k.nest.inner) i l ≡ l → get_or k.levels i l ≡ l
  levels_at i l e = subst (λ (ls : List Level). get_or ls i l ≡ l) (sym k.nest.are) e

  levels_length : length k.levels ≡ suc (length k.nest.inner)
  levels_length = ap length k.nest.are

  few_inner : length k.nest.inner ≤ 3
  few_inner = k.nest.few

  -- the trip of the root tells the turns
  pub root_tells : Tells k.G (cell_map k.cells) (forms_in k) k.nest.root k.state k.turns.root
  root_tells =
      let r = k.tested.root in
      record { trip = r.trip; is = k.are_trips 0 r.trip r.first k.nest.root (levels_at 0 k.nest.root refl); number = r.number }

  last_from : (j : ℕ) → j < 3 → slice_index (last_in k) (suc j) ≡ slice_index k.turns.inner j - 1
  last_from zero lt = refl
  last_from (suc zero) lt = refl
  last_from (suc (suc zero)) lt = refl
  last_from (suc (suc (suc j))) lt = absurd (omega arith)

  -- and that of an inner loop its last pass
  pub pass_tells : (l : Level) → In k.nest.inner l → Tells k.G (cell_map k.cells) (forms_in k) l k.state (last_pass_in k l)
  pass_tells l i = go (in_place k.nest.inner l i)
    where
      go : (j : ℕ) × (j < length k.nest.inner) × (get_or k.nest.inner j l ≡ l) → Tells k.G (cell_map k.cells) (forms_in k) l k.state (last_pass_in k l)
      go (j, lt, e) = by (slice_get k.trips (suc j)) refl (k.tested.inner j (let f = few_inner in omega arith))
        where
          last : last_pass_in k l ≡ slice_index k.turns.inner j - 1
          last = last_at_place j l lt e ∙ last_from j (let f = few_inner in omega arith)

          by : (o : Option Trip) → slice_get k.trips (suc j) ≡ o → PassesHold o (entry_in k) (slice_index k.turns.inner j) → Tells k.G (cell_map k.cells) (forms_in k) l k.state (last_pass_in k l)
          by None q h =
              let n = k.count in
              let m = levels_length in
              let trip : Trip = k.tested.root.trip in
              let s = sym q ∙ slice_get-get_or k.trips (suc j) trip (omega arith) in
              absurd (cc)
          by (Some t) q h =
              record { trip = t; is = k.are_trips (suc j) t q l (levels_at (suc j) l e); number = subst (λ n. number_of_stays t (entry_in k) ≡ Some n) (sym last) h.1 }

  passes_few : (j : ℕ) → j < 3 → slice_index k.turns.inner j - 1 < 2 ^ 31
  passes_few j lt = go (slice_get k.trips (suc j)) (k.tested.inner j lt)
    where
      go : (o : Option Trip) → PassesHold o (entry_in k) (slice_index k.turns.inner j) → slice_index k.turns.inner j - 1 < 2 ^ 31
      go None h = omega arith
      go (Some t) h = let a = h.0.some in let b = h.0.few in omega arith

  pub last_few : All (λ n. n < 2 ^ 31) (last_in k)
  last_few zero d lt = let a = k.tested.root.limits.some in let b = k.tested.root.limits.few in omega arith
  last_few (suc zero) d lt = passes_few 0 (omega arith)
  last_few (suc (suc zero)) d lt = passes_few 1 (omega arith)
  last_few (suc (suc (suc zero))) d lt = passes_few 2 (omega arith)
  last_few (suc (suc (suc (suc j)))) d lt = absurd (omega arith)

  -- the passes of inner loops stay below this
  pub passes_below : (l : Level) → In k.nest.inner l → last_pass_in k l < 2 ^ 31
  passes_below l i =
      let j = in_place k.nest.inner l i in
      let lt = j.1 in
      let f = few_inner in
      let e = last_at_place j.0 l j.1 j.2 ∙ last_from j.0 (omega arith) in
      let q = passes_few j.0 (omega arith) in
      omega arith
