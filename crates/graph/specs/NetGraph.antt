-- That a graph is the net's.
use Rattle.std.specs.Prelude.{◌≡◌, ℕ, ◌≤◌, List, length, All}
use Rattle.graph.specs.declared.net.Net.{Net}
use Rattle.graph.specs.Sound.{KeepsRules}
use Rattle.graph.specs.JobGraph.{JobGraph}
use Rattle.graph.specs.GraphOf.{IsGraphOf}

-- the graph is the net's for these lengths: the net keeps the rules, each task has a length of at least 1, and the
-- graph is that of these lengths
pub record IsNetGraphFor (net : Net) (lengths : List ℕ) (g : JobGraph) : Type 0 where
  pub rules : KeepsRules net
  pub count : length lengths ≡ length net.tasks
  pub some : All (λ n. 1 ≤ n) lengths
  pub graph : IsGraphOf net lengths g

-- the graph is the net's, for some lengths
pub record IsNetGraph (net : Net) (g : JobGraph) : Type 0 where
  pub lengths : List ℕ
  pub is : IsNetGraphFor net lengths g
