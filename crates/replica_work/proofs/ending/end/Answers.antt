use Rattle.std.proofs.Common.{◌≡◌, ℕ, suc, ◌+◌, ◌≤◌, List, [], ◌++◌, length, get_or, map, sym, ◌∙◌, ap, arith}
use Rattle.std.specs.Prelude.{slice_index}
use Rattle.std.proofs.lemmas.List.{length-map, length-take-le}
use Rattle.std.proofs.lemmas.Option.{get_or_from_slice_get}
use Rattle.processor.specs.Ends.{End}
use Rattle.processor.specs.Results.{Results}
use Rattle.graph.specs.declared.job.Job.{Job}
use Rattle.tables.specs.Named.{entry_at}
use Rattle.net_run.specs.NetRun.{ended_as}
use Rattle.plant_run.specs.PlantRun.{plant_execution, plant_cost}
use Rattle.job_book.specs.Known.{status_of}
use Rattle.cluster_plan.proofs.Numbers.{is_of}
use Rattle.cluster_model.specs.Effects.{ending_as}
use Rattle.cluster_model.specs.State as status
use Rattle.cluster_model.specs.State.{Status}
use Rattle.cluster_model.specs.Tick.{state_after}
use Rattle.cluster_model.specs.declared.effect.Effect.{Effect}
use Rattle.tick_parts.proofs.Lists.{length_listed}
use Rattle.replica_desk.proofs.Ended.{one_ends}
use Rattle.replica_work.specs.Works.{task_in, limit_before, state_for, set_plan}
use Rattle.replica_work.proofs.Later.{graph_of, listed_self, found, hand_is, only_it, ends, exec_is, cost_is}
use Rattle.replica_work.proofs.ending.end.Goals as goal

pub state_words-requires : goal.state_words-requires
state_words-requires g c =
    let plant = c.args.plant.now in let d = c.args.desk.now in let job = c.args.job in let unit = c.args.duties.now.unit in
    let order = c.requires.in_order in let h = c.requires.desk in
    let w = hand_is plant.net plant.graph plant.tables unit d h job c.requires.hand in
    let known = (is_of plant.net plant.graph (graph_of plant order) job w.known).task in
    omega (arith, known, ap (λ (j : Job). j.task) c.job_of-task.ensures, order.states)

pub slice_bounds-close_job-end-3 : goal.slice_bounds-close_job-end-3
slice_bounds-close_job-end-3 g c =
    let plant = c.args.plant.now in let d = c.args.desk.now in let job = c.args.job in let unit = c.args.duties.now.unit in
    let order = c.requires.in_order in let h = c.requires.desk in
    let w = hand_is plant.net plant.graph plant.tables unit d h job c.requires.hand in
    let known = (is_of plant.net plant.graph (graph_of plant order) job w.known).task in
    let keeps_is : c.from-keeps.result ≡ slice_index plant.states (task_in plant job) =
    c.from-keeps.ensures ∙ sym (get_or_from_slice_get plant.states c.job_of-task.result.task c.state_words.result 0 c.state_words.ensures) ∙ ap (λ (j : Job). slice_index plant.states j.task) c.job_of-task.ensures in
    let room = c.requires.state (task_in plant job) in
    omega (arith, keeps_is, room)

pub slice_bounds-close_job-end-4 : goal.slice_bounds-close_job-end-4
slice_bounds-close_job-end-4 g c =
    let plant = c.args.plant.now in let d = c.args.desk.now in let job = c.args.job in let unit = c.args.duties.now.unit in
    let order = c.requires.in_order in let h = c.requires.desk in
    let w = hand_is plant.net plant.graph plant.tables unit d h job c.requires.hand in
    let known = (is_of plant.net plant.graph (graph_of plant order) job w.known).task in
    let keeps_is : c.from-keeps.result ≡ slice_index plant.states (task_in plant job) =
    c.from-keeps.ensures ∙ sym (get_or_from_slice_get plant.states c.job_of-task.result.task c.state_words.result 0 c.state_words.ensures) ∙ ap (λ (j : Job). slice_index plant.states j.task) c.job_of-task.ensures in
    let room = c.requires.state (task_in plant job) in
    sym (length-take-le c.from-keeps.result c.args.state.now (omega (arith, keeps_is, room)))

pub close_job-requires-clause-state : goal.close_job-requires-clause-state
close_job-requires-clause-state g c =
    let plant = c.args.plant.now in let d = c.args.desk.now in let job = c.args.job in let unit = c.args.duties.now.unit in
    let order = c.requires.in_order in let h = c.requires.desk in
    let w = hand_is plant.net plant.graph plant.tables unit d h job c.requires.hand in
    let known = (is_of plant.net plant.graph (graph_of plant order) job w.known).task in
    let keeps_is : c.from-keeps.result ≡ slice_index plant.states (task_in plant job) =
    c.from-keeps.ensures ∙ sym (get_or_from_slice_get plant.states c.job_of-task.result.task c.state_words.result 0 c.state_words.ensures) ∙ ap (λ (j : Job). slice_index plant.states j.task) c.job_of-task.ensures in
    let room = c.requires.state (task_in plant job) in
    length-take-le c.from-keeps.result c.args.state.now (omega (arith, keeps_is, room)) ∙ keeps_is

pub close_job-requires-clause-hand : goal.close_job-requires-clause-hand
close_job-requires-clause-hand g c = λ program is.
    (c.args.desk.now.ins, limit_before c.args.plant.now c.args.job (c.args.desk.now.clock + 1), c.requires.runs program is, c.requires.turn program is)

pub show_end-requires-clause-task : goal.show_end-requires-clause-task
show_end-requires-clause-task g c =
    let plant = c.args.plant.now in let d = c.args.desk.now in let job = c.args.job in let unit = c.args.duties.now.unit in
    let order = c.requires.in_order in let h = c.requires.desk in
    let w = hand_is plant.net plant.graph plant.tables unit d h job c.requires.hand in
    let known = (is_of plant.net plant.graph (graph_of plant order) job w.known).task in
    known

pub returns-clause-jobs : goal.returns-clause-jobs
returns-clause-jobs g c =
    let plant = c.args.plant.now in let d = c.args.desk.now in let job = c.args.job in let unit = c.args.duties.now.unit in
    let order = c.requires.in_order in let h = c.requires.desk in
    let w = hand_is plant.net plant.graph plant.tables unit d h job c.requires.hand in
    let known = (is_of plant.net plant.graph (graph_of plant order) job w.known).task in
    let f = found plant.programs (task_in plant job) (omega (arith, known, order.programs)) in
    let state = state_for plant d job in let limit = limit_before plant job (d.clock + 1) in
    let over : (entry_at plant.tables job).end ≡ suc d.clock = omega (arith, c.requires.end) in
    let begun : (entry_at plant.tables job).start ≤ d.clock = omega (arith, w.begun) in
    let exec = plant_execution g.C.Cpu.execution plant in let cost = plant_cost g.C.Cpu.execution plant in
    let runs = c.requires.runs f.0 f.1 in let turn = c.requires.turn f.0 f.1 in
    let ends_as = exec_is g.C.Cpu.execution plant order d job w.known begun c.requires.end f.0 f.1 state d.ins in
    λ given held. c.close_job.ensures.jobs plant.states exec cost d.clock given f.0 d.ins limit over f.1 runs turn ends_as held

pub returns-clause-states : goal.returns-clause-states
returns-clause-states g c =
    let plant = c.args.plant.now in let d = c.args.desk.now in let job = c.args.job in let unit = c.args.duties.now.unit in
    let order = c.requires.in_order in let h = c.requires.desk in
    let w = hand_is plant.net plant.graph plant.tables unit d h job c.requires.hand in
    let known = (is_of plant.net plant.graph (graph_of plant order) job w.known).task in
    let f = found plant.programs (task_in plant job) (omega (arith, known, order.programs)) in
    let state = state_for plant d job in let limit = limit_before plant job (d.clock + 1) in
    let over : (entry_at plant.tables job).end ≡ suc d.clock = omega (arith, c.requires.end) in
    let begun : (entry_at plant.tables job).start ≤ d.clock = omega (arith, w.begun) in
    let exec = plant_execution g.C.Cpu.execution plant in let cost = plant_cost g.C.Cpu.execution plant in
    let runs = c.requires.runs f.0 f.1 in let turn = c.requires.turn f.0 f.1 in
    let ends_as = exec_is g.C.Cpu.execution plant order d job w.known begun c.requires.end f.0 f.1 state d.ins in
    λ given held. c.close_job.ensures.states plant.states exec cost d.clock given f.0 d.ins limit over f.1 runs turn ends_as held

pub returns-clause-desk : goal.returns-clause-desk
returns-clause-desk g c =
    let plant = c.args.plant.now in let d = c.args.desk.now in let job = c.args.job in let unit = c.args.duties.now.unit in
    let order = c.requires.in_order in let h = c.requires.desk in
    let w = hand_is plant.net plant.graph plant.tables unit d h job c.requires.hand in
    let known = (is_of plant.net plant.graph (graph_of plant order) job w.known).task in
    let f = found plant.programs (task_in plant job) (omega (arith, known, order.programs)) in
    let state = state_for plant d job in let limit = limit_before plant job (d.clock + 1) in
    let over : (entry_at plant.tables job).end ≡ suc d.clock = omega (arith, c.requires.end) in
    let begun : (entry_at plant.tables job).start ≤ d.clock = omega (arith, w.begun) in
    let exec = plant_execution g.C.Cpu.execution plant in let cost = plant_cost g.C.Cpu.execution plant in
    let runs = c.requires.runs f.0 f.1 in let turn = c.requires.turn f.0 f.1 in
    let ends_as = exec_is g.C.Cpu.execution plant order d job w.known begun c.requires.end f.0 f.1 state d.ins in
    let p = set_plan g.C.Cpu.execution plant in
    let old = map (status_of state d.ins) d.book.jobs in
    let given : ℕ → Status = λ k. get_or old k status.Waiting in
    let held = listed_self old (length plant.graph.jobs) (length-map d.book.jobs (status_of state d.ins) ∙ h.book.jobs) in
    let count = ap length (c.close_job.ensures.states plant.states exec cost d.clock given f.0 d.ins limit over f.1 runs turn ends_as held)
    ∙ length_listed (length plant.net.tasks) (λ task. state_after p d.clock given task (get_or d.states task []) (p.instances task)) in
    ends plant.net plant.graph plant.tables unit d h c.requires.clock c.close_job.new.book c.close_job.new.states c.close_job.ensures.book count c.close_job.ensures.free

pub returns-clause-effects : goal.returns-clause-effects
returns-clause-effects g c =
    let plant = c.args.plant.now in let d = c.args.desk.now in let job = c.args.job in let unit = c.args.duties.now.unit in
    let order = c.requires.in_order in let h = c.requires.desk in
    let w = hand_is plant.net plant.graph plant.tables unit d h job c.requires.hand in
    let known = (is_of plant.net plant.graph (graph_of plant order) job w.known).task in
    let f = found plant.programs (task_in plant job) (omega (arith, known, order.programs)) in
    let state = state_for plant d job in let limit = limit_before plant job (d.clock + 1) in
    let over : (entry_at plant.tables job).end ≡ suc d.clock = omega (arith, c.requires.end) in
    let begun : (entry_at plant.tables job).start ≤ d.clock = omega (arith, w.begun) in
    let exec = plant_execution g.C.Cpu.execution plant in let cost = plant_cost g.C.Cpu.execution plant in
    let runs = c.requires.runs f.0 f.1 in let turn = c.requires.turn f.0 f.1 in
    let ends_as = exec_is g.C.Cpu.execution plant order d job w.known begun c.requires.end f.0 f.1 state d.ins in
    let p = set_plan g.C.Cpu.execution plant in
    let ran = g.C.Cpu.execution f.0 limit state d.ins in
    let takes = cost_is g.C.Cpu.execution plant order d job w.known begun c.requires.end f.0 f.1 state d.ins in
    λ given held. c.show_end.ensures plant.tables plant.states exec cost ran turn (c.cycles.ensures f.0 state d.ins limit runs)
    ∙ ap (λ (es : List Effect). c.args.seen.now ++ es)
    (sym (one_ends p d.clock given d.book state d.ins h.book.jobs held job w.known over w.in_hand (λ k i. only_it plant.net plant.graph plant.tables unit d h job k c.requires.hand i)
    ∙ ap (λ n. ending_as p job n (ended_as (exec (task_in plant job) state d.ins))) takes
    ∙ ap (λ (e : End Results). ending_as p job (Rattle.processor.specs.Ends.cycles_in ran) (ended_as e)) ends_as))
