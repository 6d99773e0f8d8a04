-- Words from which an edge leads to no reached word.
use Rattle.std.specs.Prelude.{ℕ}
use Rattle.loop_data.specs.declared.graph.Graph.{Graph}
use Rattle.loop_data.specs.Paths.{IsWord, Leads}

-- a step of the word at x leads to an address at which no reached word stands
pub record LeadsAstray (G : Graph) (x : ℕ) : Type 0 where
  pub to : ℕ
  pub edge : Leads G x to
  pub no_word : ¬ IsWord G to
