-- The tables of a list that choices lead to, in which every job is placed, keep the eight rules.
use Rattle.std.proofs.Common.{ℕ, List, [], length}
use Rattle.graph.specs.declared.net.Net.{Net}
use Rattle.graph.specs.JobGraph.{JobGraph}
use Rattle.graph.specs.NetGraph.{IsNetGraph, IsNetGraphFor}
use Rattle.tables.specs.declared.rule.TableRule.{TableRule}
use Rattle.tables.specs.declared.rule.TableRule.TheVariants as rule
use Rattle.tables.specs.Valid.{Keeps, AreValid}
use Rattle.walks.specs.First.{Whole, IsFirst}
use Rattle.decisions.specs.Choices.{rules_of}
use Rattle.decisions.specs.Decision.{Decision}
use Rattle.decisions.specs.ProblemOf.{problem_of}
use Rattle.decisions.specs.TablesOf.{tables_of}
use Rattle.valid_lists.proofs.Along.{IsFull, full_of}
use Rattle.valid_lists.proofs.Entries.{each_job, units, lengths, no_tick, releases, deadlines}
use Rattle.valid_lists.proofs.Frames.{frames_kept}
use Rattle.valid_lists.proofs.Inputs.{inputs}

keeps : (net : Net) (ns : List ℕ) (g : JobGraph) (l : List Decision) → IsNetGraphFor net ns g → IsFull (problem_of net g) l → (r : TableRule) → Keeps net g (tables_of (problem_of net g) l) r
keeps net ns g l h f rule.Jobs = each_job net g l f
keeps net ns g l h f rule.Units = units net g l f
keeps net ns g l h f rule.Lengths = lengths net g l f
keeps net ns g l h f rule.Ticks = no_tick net g l f
keeps net ns g l h f rule.Releases = releases net g l f
keeps net ns g l h f rule.Deadlines = deadlines net g l f
keeps net ns g l h f rule.Inputs = inputs net ns g l h f
keeps net ns g l h f rule.Frames = frames_kept net ns g l h f

-- a list of as many decisions as there are jobs
pub full_valid : (net : Net) (g : JobGraph) (l : List Decision) → IsNetGraph net g → IsFull (problem_of net g) l → AreValid net g (tables_of (problem_of net g) l)
full_valid net g l h f = keeps net h.lengths g l h.is f

-- a whole list
pub whole_valid : (net : Net) (g : JobGraph) (ranks : List ℕ) (l : List Decision) → IsNetGraph net g → Whole (rules_of (problem_of net g)) (length (problem_of net g).works) [] ranks l → AreValid net g (tables_of (problem_of net g) l)
whole_valid net g ranks l h w = full_valid net g l h (full_of (problem_of net g) ranks l w)

-- the first whole list, which a search finds
pub first_valid : (net : Net) (g : JobGraph) (l : List Decision) → IsNetGraph net g → IsFirst (rules_of (problem_of net g)) (length (problem_of net g).works) l → AreValid net g (tables_of (problem_of net g) l)
first_valid net g l h f = whole_valid net g f.ranks l h f.is
