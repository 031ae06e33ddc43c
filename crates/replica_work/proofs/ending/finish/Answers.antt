use Rattle.std.proofs.Common.{◌≡◌, List, ◌++◌, map, ℤ, sym, ◌∙◌, ap, append-nil}
use Rattle.plant_run.specs.PlantRun.{plant_execution, plant_cost}
use Rattle.job_book.specs.Known.{status_of}
use Rattle.cluster_model.specs.declared.effect.Effect.{Effect}
use Rattle.replica_desk.specs.Desk.{state_in_hand}
use Rattle.replica_work.specs.Works.{state_for}
use Rattle.replica_work.proofs.Later.{graph_of, none_quiet, same_jobs, same_states, unseen}
use Rattle.replica_work.proofs.ending.finish.Goals as goal

pub returns-in-Some-clause-jobs : goal.returns-in-Some-clause-jobs
returns-in-Some-clause-jobs g c =
    let plant = c.args.plant.now in let d = c.args.desk.now in let unit = c.args.duties.now.unit in
    let order = c.requires.in_order in let h = c.requires.desk in
    let exec = plant_execution g.C.Cpu.execution plant in let cost = plant_cost g.C.Cpu.execution plant in
    let same : map (status_of (state_in_hand plant.graph d.states d.hand) d.ins) d.book.jobs ≡ map (status_of (state_for plant d c.in-Some.job) d.ins) d.book.jobs =
    ap (λ (s : List ℤ). map (status_of s d.ins) d.book.jobs) (ap (state_in_hand plant.graph d.states) c.in-Some.is) in
    λ given held. c.after_work.ensures.jobs given (sym same ∙ held)

pub returns-in-Some-clause-states : goal.returns-in-Some-clause-states
returns-in-Some-clause-states g c =
    let plant = c.args.plant.now in let d = c.args.desk.now in let unit = c.args.duties.now.unit in
    let order = c.requires.in_order in let h = c.requires.desk in
    let exec = plant_execution g.C.Cpu.execution plant in let cost = plant_cost g.C.Cpu.execution plant in
    let same : map (status_of (state_in_hand plant.graph d.states d.hand) d.ins) d.book.jobs ≡ map (status_of (state_for plant d c.in-Some.job) d.ins) d.book.jobs =
    ap (λ (s : List ℤ). map (status_of s d.ins) d.book.jobs) (ap (state_in_hand plant.graph d.states) c.in-Some.is) in
    λ given held. c.after_work.ensures.states given (sym same ∙ held)

pub returns-in-Some-clause-effects : goal.returns-in-Some-clause-effects
returns-in-Some-clause-effects g c =
    let plant = c.args.plant.now in let d = c.args.desk.now in let unit = c.args.duties.now.unit in
    let order = c.requires.in_order in let h = c.requires.desk in
    let exec = plant_execution g.C.Cpu.execution plant in let cost = plant_cost g.C.Cpu.execution plant in
    let same : map (status_of (state_in_hand plant.graph d.states d.hand) d.ins) d.book.jobs ≡ map (status_of (state_for plant d c.in-Some.job) d.ins) d.book.jobs =
    ap (λ (s : List ℤ). map (status_of s d.ins) d.book.jobs) (ap (state_in_hand plant.graph d.states) c.in-Some.is) in
    λ given held. c.after_work.ensures.effects given (sym same ∙ held)

pub returns-in_default-clause-jobs : goal.returns-in_default-clause-jobs
returns-in_default-clause-jobs g c =
    let plant = c.args.plant.now in let d = c.args.desk.now in let unit = c.args.duties.now.unit in
    let order = c.requires.in_order in let h = c.requires.desk in
    let exec = plant_execution g.C.Cpu.execution plant in let cost = plant_cost g.C.Cpu.execution plant in
    let quiet = none_quiet plant.net plant.graph plant.tables unit d h c.in_default.is in
    λ given held. same_jobs plant.net plant.graph plant.tables unit d h (graph_of plant order) order.tables plant.states exec cost quiet (state_in_hand plant.graph d.states d.hand) given held

pub returns-in_default-clause-states : goal.returns-in_default-clause-states
returns-in_default-clause-states g c =
    let plant = c.args.plant.now in let d = c.args.desk.now in let unit = c.args.duties.now.unit in
    let order = c.requires.in_order in let h = c.requires.desk in
    let exec = plant_execution g.C.Cpu.execution plant in let cost = plant_cost g.C.Cpu.execution plant in
    let quiet = none_quiet plant.net plant.graph plant.tables unit d h c.in_default.is in
    λ given held. same_states plant.net plant.graph plant.tables unit d h (graph_of plant order) order.tables plant.states exec cost quiet (state_in_hand plant.graph d.states d.hand) given held

pub returns-in_default-clause-effects : goal.returns-in_default-clause-effects
returns-in_default-clause-effects g c =
    let plant = c.args.plant.now in let d = c.args.desk.now in let unit = c.args.duties.now.unit in
    let order = c.requires.in_order in let h = c.requires.desk in
    let exec = plant_execution g.C.Cpu.execution plant in let cost = plant_cost g.C.Cpu.execution plant in
    let quiet = none_quiet plant.net plant.graph plant.tables unit d h c.in_default.is in
    λ given held. sym (append-nil c.args.seen.now) ∙ ap (λ (es : List Effect). c.args.seen.now ++ es) (sym (unseen plant.net plant.graph plant.tables unit d h (graph_of plant order) order.tables plant.states exec cost quiet (state_in_hand plant.graph d.states d.hand) given held))
