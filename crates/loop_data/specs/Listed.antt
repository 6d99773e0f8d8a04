-- Edges that close no loop and are listed as loops nevertheless, with their verdicts.
use Rattle.std.specs.Prelude.{ℕ, ◌≡◌, ◌≢◌, ◌<◌, ◌≤◌, ◌⊎◌}
use Rattle.std.specs.List.{Contains}
use Rattle.loop_data.specs.declared.graph.Graph.{Graph}
use Rattle.loop_data.specs.declared.verdict.Verdict.{Verdict}
use Rattle.loop_data.specs.declared.verdict.Verdict.TheVariants.{MultiEntry, Limit}
use Rattle.loop_data.specs.Paths.{Leads, Reaches, LeadsFar}
use Rattle.loop_data.specs.Sets.{HasAtMost, IsLeast}
use Rattle.loop_data.specs.Bodies.{InPart, IsHeader, InBody}

-- an edge from u back to g, or to itself, is on a cycle, and no loop accounts for it
pub record IsListed (G : Graph) (g u : ℕ) : Type 0 where
  pub edge : Leads G u g
  pub back : g ≤ u
  pub returns : LeadsFar G g u
  pub no_loop : ¬ IsHeader G g
  pub apart : (h : ℕ) → InBody G h g → ¬ InBody G h u

-- the words that g leads to inside the words of the edge
abbrev pub InCore : Graph → ℕ → ℕ → ℕ → Type 0
InCore G g u x = Reaches (Leads G) (InPart G g u) g x

-- an edge into the core beside its header, from a word that the header does not lead to
pub record Enters (G : Graph) (g u from to : ℕ) : Type 0 where
  pub edge : Leads G from to
  pub part : InPart G g u from
  pub outside : ¬ InCore G g u from
  pub core : InCore G g u to
  pub beside : to ≢ g

-- a start word in the core beside its header
pub record StartsIn (G : Graph) (g u x : ℕ) : Type 0 where
  pub start : Contains G.starts x
  pub core : InCore G g u x
  pub beside : x ≢ g

-- the least such edge, by its source and then by its target
pub record IsLeastEntrance (G : Graph) (g u from to : ℕ) : Type 0 where
  pub enters : Enters G g u from to
  pub least : (x y : ℕ) → Enters G g u x y → (from < x) ⊎ ((from ≡ x) × (to ≤ y))

-- the least start word in the core, where no edge leads in
pub record IsLeastStart (G : Graph) (g u from to : ℕ) : Type 0 where
  pub none : (x y : ℕ) → ¬ Enters G g u x y
  pub least : IsLeast (StartsIn G g u) from
  pub same : to ≡ from

-- the verdict of a listed edge
abbrev pub HasVerdict : Graph → ℕ → ℕ → Verdict → Type 0
HasVerdict G g u (Limit at) = (at ≡ g) × ¬ HasAtMost 256 (InPart G g u)
HasVerdict G g u (MultiEntry from to) = HasAtMost 256 (InPart G g u)
    × (IsLeastEntrance G g u from to ⊎ IsLeastStart G g u from to)
HasVerdict G g u _ = ⊥

-- one of the listed edges to g passes the limit
pub record IsPastLimit (G : Graph) (g u : ℕ) : Type 0 where
  pub listed : IsListed G g u
  pub large : ¬ HasAtMost 256 (InPart G g u)

-- the line of g: the limit, where a listed edge to g passes it, and else the verdict of the least
pub record IsLimitLine (G : Graph) (g : ℕ) (v : Verdict) : Type 0 where
  pub source : ℕ
  pub past : IsPastLimit G g source
  pub is : v ≡ Limit g

pub record IsEntryLine (G : Graph) (g : ℕ) (v : Verdict) : Type 0 where
  pub source : ℕ
  pub least : IsLeast (IsListed G g) source
  pub none : (u : ℕ) → ¬ IsPastLimit G g u
  pub verdict : HasVerdict G g source v

abbrev pub IsLine : Graph → ℕ → Verdict → Type 0
IsLine G g v = IsLimitLine G g v ⊎ IsEntryLine G g v
