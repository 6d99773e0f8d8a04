-- What a check has whose words tell what it tells.
use Rattle.std.specs.Prelude.{ℕ, ◌≡◌, ◌+◌, ◌<◌, ◌≤◌, ◌^◌, true, List, length, slice_index, slice_get, Some, pos}
use Rattle.std.specs.List.{All}
use Rattle.linear_forms.specs.Forms.{EntryTerm, LinearForm, IsForm, stride, pure}
use Rattle.loop_data.specs.declared.accesses.Access.{Access}
use Rattle.loop_data.specs.declared.cells.Cells.{Cells}
use Rattle.loop_data.specs.declared.classes.Classes.{Classes}
use Rattle.loop_data.specs.declared.equations.Equations.{Equations}
use Rattle.loop_data.specs.declared.graph.Graph.{Graph}
use Rattle.loop_data.specs.declared.shape.Level.{Level}
use Rattle.loop_data.specs.Accesses.{AreAccesses}
use Rattle.loop_data.specs.LoopCode.{code_of}
use Rattle.loop_data.specs.LoopWords.{AreNest}
use Rattle.loop_data.specs.Lookups.{cell_map, form_at}
use Rattle.loop_data.specs.Nests.{Nest}
use Rattle.loop_data.specs.Results.{IsNestOf, AreEquations}
use Rattle.loop_data.specs.declared.equations.Duty.{Duty}
use Rattle.loop_data.specs.declared.trips.Relation.TheVariants.{Differ}
use Rattle.loop_data.specs.declared.trips.Trip.{Trip}
use Rattle.loop_data.specs.declared.verdict.Cell.{Cell}
use Rattle.loop_data.specs.Trips.{approaches, IsTripAt}
use Rattle.alias_checks.specs.declared.lists.Check.{Check}
use Rattle.alias_checks.specs.Areas.{Bounds}
use Rattle.alias_checks.specs.Listing.{ArePairs, bounds_of}
use Rattle.elf_image.specs.declared.image.Elf.{Elf}
use Rattle.elf_image.specs.Layout.{IsLoadable}
use Rattle.check_code.specs.Laws.{HasOffset}

-- the locations of a form are registers and so many cells
abbrev pub IsOver : ℕ → LinearForm → Type 0
IsOver cells f = All (λ (t : EntryTerm). t.loc < 32 + cells) f.terms

-- the inner loops round a word are among so many loops
pub record AreAmong (levels : ℕ) (around : List ℕ) : Type 0 where
  pub second : slice_index around 1 < levels
  pub third : slice_index around 2 < levels

-- a trip's step is a stride of its start and leads to where its relation ends, and only a difference is compared with 0
pub record IsTripOver (cells : ℕ) (t : Trip) : Type 0 where
  pub depth : ℕ
  pub gains : t.step ≡ stride t.start depth
  pub toward : approaches t.relation t.step ≡ true
  pub differs : t.relation ≡ Differ → (t.signed ≡ true) × (t.bound ≡ pure (pos 0))
  pub start : IsOver cells t.start
  pub bound : IsOver cells t.bound

pub record IsDutyOver (cells levels : ℕ) (d : Duty) : Type 0 where
  pub form : IsOver cells d.form
  pub around : AreAmong levels d.around

pub record IsAccessOver (cells levels : ℕ) (a : Access) : Type 0 where
  pub form : IsOver cells a.form
  pub around : AreAmong levels a.around

-- both bounds of an area lie below 2 ^ 31
abbrev pub IsLowArea : Bounds → Type 0
IsLowArea b = (b.0 < 2 ^ 31) × (b.1 < 2 ^ 31)

-- what the words of a check take to be written: offsets and areas have room in instructions, there is a root and at
-- most three inner loops, no more words owe anything than a loop has, and each two accesses of which one is a store are
-- a pair
pub record HasRoom (c : Check) : Type 0 where
  pub offsets : All (λ (d : Cell). HasOffset d.base d.offset) c.cells.list.items
  pub some_trips : 0 < length c.trips
  pub few_trips : length c.trips ≤ 4
  pub few_duties : length c.duties ≤ 256
  pub pairs : ArePairs c.accesses.list.items c.pairs
  pub few_areas : length c.areas ≤ 128
  pub low_areas : All IsLowArea c.areas

-- what they take to tell what it tells: steps lead to where relations end, forms are over the loop's own locations, and
-- the loops round a word are its own
pub record IsCheckable (c : Check) : Type 0 where
  pub trips : All (IsTripOver (length c.cells.list.items)) c.trips
  pub duties : All (IsDutyOver (length c.cells.list.items) (length c.trips)) c.duties
  pub accesses : All (IsAccessOver (length c.cells.list.items) (length c.trips)) c.accesses.list.items

-- it has few cells and accesses, and its forms keep to their limits, as their types promise
pub record KeepsLimits (c : Check) : Type 0 where
  pub few_cells : length c.cells.list.items ≤ 16
  pub few_accesses : length c.accesses.list.items ≤ 32
  pub starts : All (λ (t : Trip). IsForm t.start) c.trips
  pub bounds : All (λ (t : Trip). IsForm t.bound) c.trips
  pub duties : All (λ (d : Duty). IsForm d.form) c.duties
  pub accesses : All (λ (a : Access). IsForm a.form) c.accesses.list.items

-- the areas of an executable have room in instructions
abbrev pub RoomLaw : Type 0
RoomLaw = (elf : Elf) → IsLoadable elf → (length (bounds_of elf) ≤ 128) × All IsLowArea (bounds_of elf)

-- what the analysis of a nest finds, and a check of it
pub record IsFoundCheck (G : Graph) (levels : List Level) (cells : Cells) (classes : Classes) (e : Equations)
    (c : Check) : Type 0 where
  pub nest : AreNest G levels
  pub equations : AreEquations G levels (cell_map cells) classes e
  pub same_cells : c.cells.list.items ≡ cells.list.items
  pub count : length c.trips ≡ length levels
  pub trips : (i : ℕ) (t : Trip) → slice_get c.trips i ≡ Some t → IsTripAt G levels (form_at e.points) i (Some t)
  pub duties : c.duties ≡ e.duties
  pub accesses : (N : Nest) → IsNestOf G levels N
      → AreAccesses levels N.root.body (code_of G (cell_map cells)) (form_at e.points) c.accesses.list.items

-- such a check has a root and at most three inner loops, and can be told by its words
abbrev pub FoundLaw : Type 0
FoundLaw = (G : Graph) (levels : List Level) (cells : Cells) (classes : Classes) (e : Equations) (c : Check)
    → IsFoundCheck G levels cells classes e c → (0 < length c.trips) × (length c.trips ≤ 4) × IsCheckable c
