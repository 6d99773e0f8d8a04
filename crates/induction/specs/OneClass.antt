-- Each location of a loop has one class.
use Rattle.std.specs.Prelude.{ℕ, ◌≡◌, ◌<◌, List, [], length, slice_index_or}
use Rattle.linear_forms.specs.declared.location.Loc.{Loc}
use Rattle.loop_data.specs.declared.classes.Classes.{Classes}
use Rattle.loop_data.specs.declared.graph.Graph.{Graph}
use Rattle.loop_data.specs.declared.shape.Level.{Level}
use Rattle.loop_data.specs.Locations.{CellMap}
use Rattle.loop_data.specs.LoopWords.{AreNest}
use Rattle.loop_data.specs.Results.{class_in, class_at, AreClasses}
use Rattle.induction.specs.Results.{IsLeastCarried}

-- two answers for the classes of a loop give each location the same one in the root
abbrev pub OneClassLaw : Type 0
OneClassLaw = (G : Graph) (levels : List Level) (C : CellMap) (c d : Classes) → AreNest G levels
    → AreClasses G levels C c → AreClasses G levels C d → (r : ℕ) → class_in c.root r ≡ class_in d.root r

-- and in each inner loop
abbrev pub OneInnerClassLaw : Type 0
OneInnerClassLaw = (G : Graph) (levels : List Level) (C : CellMap) (c d : Classes) → AreNest G levels
    → AreClasses G levels C c → AreClasses G levels C d → (i r : ℕ) → class_at c.inner i r ≡ class_at d.inner i r

-- there is an entry for each location in the root, and in each of three inner loops
pub record HasAllRows (c : Classes) : Type 0 where
  pub root : length c.root ≡ 48
  pub inner : length c.inner ≡ 3
  pub each : (i : ℕ) → i < 3 → length (slice_index_or c.inner i []) ≡ 48

-- so that they are the same, as they are kept
abbrev pub OneClassesLaw : Type 0
OneClassesLaw = (G : Graph) (levels : List Level) (C : CellMap) (c d : Classes) → AreNest G levels
    → AreClasses G levels C c → AreClasses G levels C d → HasAllRows c → HasAllRows d → c ≡ d

-- of the locations that are carried there is one least
abbrev pub OneCarriedLaw : Type 0
OneCarriedLaw = (G : Graph) (levels : List Level) (C : CellMap) (a b : Loc) → AreNest G levels
    → IsLeastCarried G levels C a → IsLeastCarried G levels C b → a ≡ b

-- and none, where the locations have classes
abbrev pub NoneCarriedLaw : Type 0
NoneCarriedLaw = (G : Graph) (levels : List Level) (C : CellMap) (c : Classes) (loc : Loc) → AreNest G levels
    → AreClasses G levels C c → ¬ IsLeastCarried G levels C loc
