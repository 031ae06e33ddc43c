-- Valid tables, and the first rule that fails.
use Rattle.std.specs.Prelude.{◌<◌}
use Rattle.graph.specs.declared.net.Net.{Net}
use Rattle.graph.specs.JobGraph.{JobGraph}
use Rattle.tdma.specs.Layout.{Layout, layout_of}
use Rattle.tables.specs.declared.rule.TableRule.{TableRule}
use Rattle.tables.specs.declared.rule.TableRule.TheVariants as rule
use Rattle.tables.specs.declared.table.Tables.{Tables}
use Rattle.tables.specs.Number.{number_of}
use Rattle.tables.specs.Rules.{HasEachJob, HasUnits, HasLengths, SharesNoTick, StartsAfterRelease, EndsByDeadline, GetsInputs, FitsFrames}

-- the bus of the cycle
abbrev pub bus_of : Net → JobGraph → Layout
bus_of net g = layout_of net.shape g.cycle

-- the tables keep a rule
abbrev pub Keeps : Net → JobGraph → Tables → TableRule → Type 0
Keeps net g t rule.Jobs = HasEachJob g t
Keeps net g t rule.Units = HasUnits net g t
Keeps net g t rule.Lengths = HasLengths g t
Keeps net g t rule.Ticks = SharesNoTick g t
Keeps net g t rule.Releases = StartsAfterRelease g t
Keeps net g t rule.Deadlines = EndsByDeadline g t
Keeps net g t rule.Inputs = GetsInputs net g (bus_of net g) t
Keeps net g t rule.Frames = FitsFrames net (bus_of net g) t

-- the tables are valid for the net and its graph
abbrev pub AreValid : Net → JobGraph → Tables → Type 0
AreValid net g t = (rule : TableRule) → Keeps net g t rule

-- the rule fails, and all before it are kept
pub record IsFirstFault (net : Net) (g : JobGraph) (t : Tables) (rule : TableRule) : Type 0 where
  pub fails : Keeps net g t rule → ⊥
  pub before : (other : TableRule) → number_of other < number_of rule → Keeps net g t other
