use Rattle.std.proofs.Common.{◌≡◌, List, ◌++◌, map, ℤ, sym, ◌∙◌, ap, append-nil}
use Rattle.tables.specs.Named.{entry_at}
use Rattle.tables.specs.declared.table.JobEntry.{JobEntry}
use Rattle.plant_run.specs.PlantRun.{plant_execution, plant_cost}
use Rattle.job_book.specs.Known.{status_of}
use Rattle.cluster_model.specs.declared.effect.Effect.{Effect}
use Rattle.replica_desk.specs.Desk.{state_in_hand}
use Rattle.replica_work.specs.Works.{state_for}
use Rattle.replica_work.proofs.Later.{graph_of, one_quiet, same_jobs, same_states, unseen}
use Rattle.replica_work.proofs.ending.after_work.Goals as goal

pub returns-then-entry_at-desk-clause-jobs : goal.returns-then-entry_at-desk-clause-jobs
returns-then-entry_at-desk-clause-jobs g c = λ given held.
    let new = c.end.new.desk in c.end.ensures.jobs given held (state_in_hand c.args.plant.now.graph new.states new.hand) new.ins

pub returns-else-entry_at-desk-clause-jobs : goal.returns-else-entry_at-desk-clause-jobs
returns-else-entry_at-desk-clause-jobs g c =
    let plant = c.args.plant.now in let d = c.args.desk.now in let unit = c.args.duties.now.unit in
    let order = c.requires.in_order in let h = c.requires.desk in
    let exec = plant_execution g.C.Cpu.execution plant in let cost = plant_cost g.C.Cpu.execution plant in
    let job = c.args.job in
    let over : c.entry_at.result.end ≡ (entry_at plant.tables job).end = ap (λ (e : JobEntry). e.end) c.entry_at.ensures ∙ ap (λ k. (entry_at plant.tables k).end) c.from.ensures in
    let quiet = one_quiet plant.net plant.graph plant.tables unit d h job c.requires.hand (λ e. c.if-entry_at-desk.false (over ∙ e)) in
    λ given held. ap (λ (s : List ℤ). map (status_of s d.ins) d.book.jobs) (ap (state_in_hand plant.graph d.states) c.requires.hand)
    ∙ same_jobs plant.net plant.graph plant.tables unit d h (graph_of plant order) order.tables plant.states exec cost quiet (state_for plant d job) given held

pub returns-else-entry_at-desk-clause-states : goal.returns-else-entry_at-desk-clause-states
returns-else-entry_at-desk-clause-states g c =
    let plant = c.args.plant.now in let d = c.args.desk.now in let unit = c.args.duties.now.unit in
    let order = c.requires.in_order in let h = c.requires.desk in
    let exec = plant_execution g.C.Cpu.execution plant in let cost = plant_cost g.C.Cpu.execution plant in
    let job = c.args.job in
    let over : c.entry_at.result.end ≡ (entry_at plant.tables job).end = ap (λ (e : JobEntry). e.end) c.entry_at.ensures ∙ ap (λ k. (entry_at plant.tables k).end) c.from.ensures in
    let quiet = one_quiet plant.net plant.graph plant.tables unit d h job c.requires.hand (λ e. c.if-entry_at-desk.false (over ∙ e)) in
    λ given held. same_states plant.net plant.graph plant.tables unit d h (graph_of plant order) order.tables plant.states exec cost quiet (state_for plant d job) given held

pub returns-else-entry_at-desk-clause-effects : goal.returns-else-entry_at-desk-clause-effects
returns-else-entry_at-desk-clause-effects g c =
    let plant = c.args.plant.now in let d = c.args.desk.now in let unit = c.args.duties.now.unit in
    let order = c.requires.in_order in let h = c.requires.desk in
    let exec = plant_execution g.C.Cpu.execution plant in let cost = plant_cost g.C.Cpu.execution plant in
    let job = c.args.job in
    let over : c.entry_at.result.end ≡ (entry_at plant.tables job).end = ap (λ (e : JobEntry). e.end) c.entry_at.ensures ∙ ap (λ k. (entry_at plant.tables k).end) c.from.ensures in
    let quiet = one_quiet plant.net plant.graph plant.tables unit d h job c.requires.hand (λ e. c.if-entry_at-desk.false (over ∙ e)) in
    λ given held. sym (append-nil c.args.seen.now) ∙ ap (λ (es : List Effect). c.args.seen.now ++ es) (sym (unseen plant.net plant.graph plant.tables unit d h (graph_of plant order) order.tables plant.states exec cost quiet (state_for plant d job) given held))
