use Rattle.std.proofs.Common.{◌+◌, ap, arith, ◌∙◌}
use Rattle.graph.specs.Cycle.{first_job}
use Rattle.graph.specs.declared.net.Edge.{Edge}
use Rattle.tables.specs.Named.{edge_at}
use Rattle.tables.proofs.Edges.{edge_tasks}
use Rattle.timetable.proofs.named.producer_of.Goals as goal

pub first_job-first-requires : goal.first_job-first-requires
first_job-first-requires c =
    let h = edge_tasks c.args.net.now c.args.graph.now c.from.result c.requires in
    let e = ap (λ (x : Edge). x.from_task) c.edge_at.ensures in
    omega (arith, h.from, e, c.requires.is.graph.tasks)

pub returns : goal.returns
returns c =
    let first = c.first_job-first.ensures.first c.args.net.now c.requires in
    let task = ap (λ (x : Edge). first_job c.args.net.now c.args.graph.now.cycle x.from_task) c.edge_at.ensures in
    let edge = ap (λ n. first_job c.args.net.now c.args.graph.now.cycle (edge_at c.args.net.now n).from_task) c.from.ensures in
    ap (λ n. n + c.args.instance) (c.from-2.ensures ∙ first ∙ task ∙ edge)
