use Rattle.std.proofs.Common.{◌≡◌, ◌+◌, Some, sym, ◌∙◌, ap, subst, arith}
use Rattle.std.specs.Prelude.{slice_get}
use Rattle.processor.specs.Results.{turn_of}
use Rattle.graph.specs.declared.job.Job.{Job}
use Rattle.cluster_plan.proofs.Numbers.{is_of}
use Rattle.replica_work.specs.Works.{task_in, limit_before, state_for}
use Rattle.tick_parts.proofs.Closing.{one_program}
use Rattle.replica_work.proofs.Later.{graph_of}
use Rattle.replica_work.proofs.working.go_on.Goals as goal

pub program-requires : goal.program-requires
program-requires g c =
    let plant = c.args.plant.now in
    let known = (is_of plant.net plant.graph (graph_of plant c.requires.in_order) c.args.job c.requires.hand.known).task in
    omega (arith, known, ap (λ (j : Job). j.task) c.job_of.ensures, c.requires.in_order.programs)

pub run_to-requires-clause-hand : goal.run_to-requires-clause-hand
run_to-requires-clause-hand g c =
    let plant = c.args.plant.now in let d = c.args.desk.now in let job = c.args.job in
    let prog : slice_get plant.programs (task_in plant job) ≡ Some c.program.result.now = ap (λ (j : Job). slice_get plant.programs j.task) (sym c.job_of.ensures) ∙ c.program.ensures in
    (state_for plant d job, d.ins, record { so_far = limit_before plant job d.clock; runs_so_far = c.requires.runs c.program.result.now prog; below = c.limit_at-limit.ensures.more })

pub returns-clause-runs : goal.returns-clause-runs
returns-clause-runs g c =
    let plant = c.args.plant.now in let d = c.args.desk.now in let job = c.args.job in
    let prog : slice_get plant.programs (task_in plant job) ≡ Some c.program.result.now = ap (λ (j : Job). slice_get plant.programs j.task) (sym c.job_of.ensures) ∙ c.program.ensures in
    λ program is.
    let same = one_program c.program.result.now program (sym prog ∙ is) in
    subst (λ q. g.C.Cpu.runs c.run_to.new.cpu q (state_for plant d job) d.ins (limit_before plant job (d.clock + 1))) same
    (subst (λ m. g.C.Cpu.runs c.run_to.new.cpu c.program.result.now (state_for plant d job) d.ins m) c.limit_at-limit.ensures.limit
    (c.run_to.ensures.runs (state_for plant d job) d.ins (record { so_far = limit_before plant job d.clock; runs_so_far = c.requires.runs c.program.result.now prog; below = c.limit_at-limit.ensures.more })))

pub returns-clause-turn : goal.returns-clause-turn
returns-clause-turn g c =
    let plant = c.args.plant.now in let d = c.args.desk.now in let job = c.args.job in
    let prog : slice_get plant.programs (task_in plant job) ≡ Some c.program.result.now = ap (λ (j : Job). slice_get plant.programs j.task) (sym c.job_of.ensures) ∙ c.program.ensures in
    λ program is.
    let same = one_program c.program.result.now program (sym prog ∙ is) in
    c.run_to.ensures.turn (state_for plant d job) d.ins (record { so_far = limit_before plant job d.clock; runs_so_far = c.requires.runs c.program.result.now prog; below = c.limit_at-limit.ensures.more })
    ∙ ap (λ m. turn_of (g.C.Cpu.execution c.program.result.now m (state_for plant d job) d.ins)) c.limit_at-limit.ensures.limit
    ∙ ap (λ q. turn_of (g.C.Cpu.execution q (limit_before plant job (d.clock + 1)) (state_for plant d job) d.ins)) same
