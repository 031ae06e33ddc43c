use Rattle.std.proofs.Common.{◌≡◌, ◌≤◌, length, get_or, arith}
use Rattle.std.specs.Prelude.{map}
use Rattle.graph.specs.declared.job.Job.{Job}
use Rattle.graph.specs.Net.{Feeds}
use Rattle.graph.specs.Order.{IsOrder}
use Rattle.graph.specs.TaskRemaining.{HasRemainingFrom}
use Rattle.graph.specs.FeederTable.{IsFeederTable}
use Rattle.graph.proofs.Nets.{table_feeder}
use Rattle.graph.proofs.Whole.{tasks_of_jobs, is_job_graph, is_graph}
use Rattle.graph.proofs.job_graph.Graph.jobs.Goals as goal

pub job_remaining-requires : goal.job_remaining-requires
job_remaining-requires c =
    let come = c.in_ok-longest.ensures in
    rw (c.as_slice-4.ensures.value, c.in_ok-jobs.ensures, c.as_slice-5.ensures.value)
    (λ k d low. (let task = tasks_of_jobs c.args.net.now c.in_ok-cycle.cycle c.args.lengths.now k d low in let size = come.size in omega (arith, task, size)))

pub invariant_of-result : goal.invariant_of-result
invariant_of-result c =
    let order : IsOrder (Feeds c.args.net.now) (length c.args.net.now.tasks) c.in-Some.tasks.items = rw c.in-Some.is at c.in_ok-tasks.ensures in
    let come : HasRemainingFrom c.args.net.now c.args.lengths.now c.in-Some.tasks.items c.in_ok-longest.longest.items 0 = rw c.as_slice-3.ensures.value at c.in_ok-longest.ensures in
    let list : c.in_ok-remaining.remaining.items ≡ map (λ (j : Job). get_or c.in_ok-longest.longest.items j.task 0) c.in_ok-jobs.jobs.items = rw (c.as_slice-4.ensures.value, c.as_slice-5.ensures.value) at c.in_ok-remaining.ensures in
    let feeding : IsFeederTable c.args.net.now c.in-Some-2.feeders.items = rw c.in-Some-2.is at c.in_ok-feeders.ensures in
    let few : length c.in-Some.tasks.items ≤ 64 = (let size = order.size in omega (arith, size, c.requires.rules.entry_rules.counts.tasks)) in
    is_job_graph c.args.net.now c.args.lengths.now c.in-Some.tasks.items c.in_ok-longest.longest.items c.in_ok-order.order.items c.in_ok-remaining.remaining.items c.in_ok-first_jobs.first_jobs.items c.in-Some-2.feeders.items c.in_ok-cycle.cycle c.in_ok-jobs.jobs.items few come list
    c.in_ok-jobs.ensures c.in_ok-cycle.ensures.0.jobs feeding.size

graph_of : goal.returns-clause-graph
graph_of c =
    let order : IsOrder (Feeds c.args.net.now) (length c.args.net.now.tasks) c.in-Some.tasks.items = rw c.in-Some.is at c.in_ok-tasks.ensures in
    let come : HasRemainingFrom c.args.net.now c.args.lengths.now c.in-Some.tasks.items c.in_ok-longest.longest.items 0 = rw c.as_slice-3.ensures.value at c.in_ok-longest.ensures in
    let list : c.in_ok-remaining.remaining.items ≡ map (λ (j : Job). get_or c.in_ok-longest.longest.items j.task 0) c.in_ok-jobs.jobs.items = rw (c.as_slice-4.ensures.value, c.as_slice-5.ensures.value) at c.in_ok-remaining.ensures in
    let feeding : IsFeederTable c.args.net.now c.in-Some-2.feeders.items = rw c.in-Some-2.is at c.in_ok-feeders.ensures in
    record {
      rules = c.requires.rules;
      count = c.requires.lengths;
      some = c.requires.some;
      graph = is_graph c.args.net.now c.requires.rules.entry_rules.entries c.args.lengths.now c.in-Some.tasks.items c.in_ok-longest.longest.items c.in_ok-order.order.items c.in_ok-remaining.remaining.items c.in_ok-first_jobs.first_jobs.items c.in-Some-2.feeders.items c.in_ok-cycle.cycle c.in_ok-jobs.jobs.items
          c.in_ok-cycle.ensures.0 order c.in_ok-jobs.ensures c.in_ok-order.ensures come list c.in_ok-first_jobs.ensures.size c.in_ok-first_jobs.ensures.each (table_feeder c.args.net.now c.in-Some-2.feeders.items feeding);
    }

pub returns-clause-graph : goal.returns-clause-graph
returns-clause-graph c = graph_of c

pub returns-clause-net : goal.returns-clause-net
returns-clause-net c = record { lengths = c.args.lengths.now; is = graph_of c }
