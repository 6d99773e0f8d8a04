-- Words that are reached from start words.
use Rattle.std.specs.Prelude.{ℕ}
use Rattle.std.specs.List.{Contains}
use Rattle.loop_data.specs.declared.graph.Graph.{Graph}
use Rattle.loop_data.specs.Paths.{IsWord, LeadsFar}

-- by step edges a start word leads to x
pub record FromStart (G : Graph) (x : ℕ) : Type 0 where
  pub start : ℕ
  pub starts : Contains G.starts start
  pub reaches : LeadsFar G start x

-- to each word one does
abbrev pub AreFromStarts : Graph → Type 0
AreFromStarts G = (x : ℕ) → IsWord G x → FromStart G x
