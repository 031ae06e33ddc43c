use Rattle.std.proofs.Common.{◌≡◌, ◌+◌, ◌<◌, length, sym, ap, ◌∙◌, subst, arith}
use Rattle.graph.specs.declared.net.Edge.{Edge}
use Rattle.graph.specs.Cycle.{first_job}
use Rattle.net_problem.proofs.Sources.{join_of, few_width}
use Rattle.net_problem.proofs.feeds.feed_of.Goals as goal

pub number_of-requires-clause-instance : goal.number_of-requires-clause-instance
number_of-requires-clause-instance c =
    let n = c.requires.net in
    let j = join_of c.args.net.now n.lengths c.args.graph.now c.args.task c.args.instance c.args.number n.is c.requires.instance c.requires.edge in
    let e : c.edge_at-edge.result.from_task ≡ j.edge.from_task = ap (λ (x : Edge). x.from_task) (c.edge_at-edge.ensures ∙ j.at) in
    let f = n.is.graph.first_jobs c.edge_at-edge.result.from_task (omega (arith, j.from.task_is)) in
    let i : first_job c.args.net.now c.args.graph.now.cycle c.edge_at-edge.result.from_task + c.args.instance < length c.args.graph.now.jobs =
    subst (λ x. first_job c.args.net.now c.args.graph.now.cycle x + c.args.instance < length c.args.graph.now.jobs) (sym e) j.inside in
    omega (arith, f, i)

pub overflow_add-result : goal.overflow_add-result
overflow_add-result c = omega (arith, few_width c.args.net.now c.requires.net.is.rules.entry_rules.entries c.edge_at-edge.result, c.width_of.ensures)
