use Rattle.std.proofs.Common.{sym, ◌∙◌, ap, arith}
use Rattle.cluster_plan.proofs.Numbers.{is_of}
use Rattle.replica_work.specs.Works.{task_in, limit_before, state_for, cycles_by}
use Rattle.replica_work.proofs.Later.{graph_of, found}
use Rattle.replica_work.proofs.working.cycles_so_far.Goals as goal

pub returns : goal.returns
returns g c =
    let plant = c.args.plant.now in let d = c.args.desk.now in let job = c.args.job in
    let known = (is_of plant.net plant.graph (graph_of plant c.requires.in_order) job c.requires.job).task in
    let f = found plant.programs (task_in plant job) (omega (arith, known, c.requires.in_order.programs)) in
    c.cycles.ensures f.0 (state_for plant d job) d.ins (limit_before plant job d.clock) (c.requires.runs f.0 f.1)
    ∙ sym (ap (λ o. cycles_by plant g.C.Cpu.execution d o job) f.1)
