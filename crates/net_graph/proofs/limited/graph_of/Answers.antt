use Rattle.std.proofs.Common.{◌∙◌, sym, subst}
use Rattle.graph.specs.JobGraph.{JobGraph}
use Rattle.graph.specs.NetGraph.{IsNetGraphFor}
use Rattle.net_graph.proofs.Given.{give_graph, give_past}
use Rattle.net_graph.proofs.limited.graph_of.Goals as goal

pub returns-in-Ok-jobs-clause-answer : goal.returns-in-Ok-jobs-clause-answer
returns-in-Ok-jobs-clause-answer c =
    give_graph c.args.project.now c.args.net.now c.args.maxts.now c.as_slice.result.now c.whole.result (c.as_slice.ensures.value ∙ (c.in-Ok-lengths_of.ensures {u = tt}).lengths) c.whole.ensures.whole
    (subst (λ (g : JobGraph). IsNetGraphFor c.args.net.now c.as_slice.result.now g) (sym c.whole.ensures.same) (c.in-Ok-jobs.ensures {u = tt}).graph)

pub returns-in-Err-clause-answer : goal.returns-in-Err-clause-answer
returns-in-Err-clause-answer c =
    give_past c.args.project.now c.in-Ok.name c.args.net.now c.args.maxts.now c.in-Err.fault c.past_limit.result ((c.in-Ok.ensures {u = tt}) ∙ c.as_bytes.ensures.value) c.past_limit.ensures c.requires.rules (c.in-Err.ensures {u = tt}).fault
