-- How many jobs valid tables have.
use Rattle.std.proofs.Common.{◌<◌, ◌^◌, length, arith}
use Rattle.graph.specs.declared.net.Net.{Net}
use Rattle.graph.specs.JobGraph.{JobGraph}
use Rattle.graph.specs.NetGraph.{IsNetGraph}
use Rattle.graph.proofs.NetGraphs.{graph_size}
use Rattle.tables.specs.declared.rule.TableRule.TheVariants as rule
use Rattle.tables.specs.declared.table.Tables.{Tables}
use Rattle.tables.specs.Valid.{AreValid}

-- valid tables have fewer jobs than 2 ^ 32
pub few_jobs : (net : Net) (g : JobGraph) (t : Tables) → IsNetGraph net g → AreValid net g t → length t.jobs < 2 ^ 32
few_jobs net g t n v = omega (arith, (v rule.Jobs).count, graph_size net n.lengths g n.is.graph, n.is.graph.limits.jobs)
