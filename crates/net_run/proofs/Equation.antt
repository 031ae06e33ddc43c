-- The results of a cycle, by instance and depth, meet their equation: as deep as there are tasks is deep enough.
use Rattle.std.proofs.Common.{◌≡◌, ℕ, zero, suc, ◌<◌, List, length, ℤ, sym, ap, arith}
use Rattle.graph.specs.Sound.{KeepsRules}
use Rattle.graph.specs.declared.net.Net.{Net}
use Rattle.graph.proofs.Entries.{joined}
use Rattle.net_run.specs.Equation.{CycleResults}
use Rattle.net_run.specs.NetRun.{Execution, given_by, outcome, by_depth, state_before}
use Rattle.net_run.specs.Words.{carried}
use Rattle.net_run.proofs.Ports.{inputs_same, carried_same, edge_feeds, feeds}
use Rattle.net_run.proofs.Ranks.{count_below, rises_more, below_all}

module _ (net : Net) (cycle : ℕ) (exec : Execution) (line : List ℤ) (rules : KeepsRules net) where
  -- a task's rank, below the number of tasks
  abbrev rank : ℕ → ℕ
  rank task = count_below rules.no_circle.0 (rules.no_circle.0 task) (length net.tasks)

  -- one more step of depth changes nothing for a task whose rank is below the depth
  deeper : (states : ℕ → List ℤ) (instance depth task : ℕ) → rank task < depth →
      by_depth net cycle exec line states instance (suc depth) task ≡ by_depth net cycle exec line states instance depth task
  deeper states instance zero task low = absurd (omega (arith, low))
  deeper states instance (suc depth) task low =
      ap (outcome net cycle exec task (states task))
      (inputs_same net cycle line
      (carried net (λ from. given_by (by_depth net cycle exec line states instance (suc depth) from)))
      (carried net (λ from. given_by (by_depth net cycle exec line states instance depth from)))
      instance task
      (λ port edge inside e.
      let f = edge_feeds net task port edge e in
      let up = rules.no_circle.1 f.edge.from_task task (feeds net task port edge f) in
      let from = (joined net rules.entry_rules.entries f.edge.from_task task (feeds net task port edge f)).0 in
      let less = rises_more rules.no_circle.0 (rules.no_circle.0 f.edge.from_task) (rules.no_circle.0 task) f.edge.from_task (length net.tasks) from (omega arith) up in
      carried_same net
      (λ from. given_by (by_depth net cycle exec line states instance (suc depth) from))
      (λ from. given_by (by_depth net cycle exec line states instance depth from))
      task port edge f
      (ap given_by (deeper states instance depth f.edge.from_task (omega (arith, less, low))))))

pub cycle_results_hold : CycleResults
cycle_results_hold net cycle exec line start rules instance task low =
    sym (deeper net cycle exec line rules (state_before net cycle exec line start instance) instance (length net.tasks) task
    (below_all rules.no_circle.0 (rules.no_circle.0 task) task (length net.tasks) low (omega arith)))
