-- What is determined about a net.
use Rattle.std.specs.Prelude.{◌≡◌, ℕ, List}
use Rattle.graph.specs.declared.net.Net.{Net}
use Rattle.graph.specs.declared.job.GraphFault.{GraphFault}
use Rattle.graph.specs.Faults.{PassesLimit}
use Rattle.graph.specs.GraphOf.{IsGraphOf}
use Rattle.graph.specs.JobGraph.{JobGraph, IsJobGraph}

-- two graphs of the net for these lengths are equal
abbrev pub HasOneGraph : Net → List ℕ → Type 0
HasOneGraph net lengths = (g h : JobGraph) → IsJobGraph g → IsJobGraph h → IsGraphOf net lengths g → IsGraphOf net lengths h → g ≡ h

-- two limits that the net passes first are equal, in kind and in number
abbrev pub HasOneFault : Net → Type 0
HasOneFault net = (f g : GraphFault) → PassesLimit net f → PassesLimit net g → f ≡ g

-- a net that passes a limit has no graph
abbrev pub HasNoGraphWithFault : Net → List ℕ → Type 0
HasNoGraphWithFault net lengths = (f : GraphFault) (g : JobGraph) → PassesLimit net f → IsGraphOf net lengths g → ⊥
