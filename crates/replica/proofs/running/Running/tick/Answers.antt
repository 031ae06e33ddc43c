use Rattle.std.proofs.Common.{ℕ, ◌+◌, List, ◌++◌, length, ℤ, refl, ◌∙◌, ap}
use Rattle.cluster_model.specs.Effects.{take_effects, put_effects, start_effects}
use Rattle.cluster_model.specs.Plan.{Plan, listed}
use Rattle.cluster_model.specs.State.{Held, Bus, Status}
use Rattle.cluster_model.specs.Tick.{opens, closes}
use Rattle.cluster_model.specs.declared.effect.Effect.{Effect}
use Rattle.net_run.specs.NetRun.{Execution}
use Rattle.plant_run.specs.PlantRun.{plant_execution, plant_cost}
use Rattle.replica_parts.specs.Inbox.{Taken}
use Rattle.replica_desk.specs.Desk.{held_in}
use Rattle.replica_work.specs.Ends.{ends_at, states_at}
use Rattle.replica_work.specs.Works.{set_plan}
use Rattle.tick_parts.specs.OnBus.{bus_on}
use Rattle.replica.proofs.Held.{held_after, runs_after}
use Rattle.replica.proofs.running.Running.tick.Goals as goal

pub finish-requires-clause-runs : goal.finish-requires-clause-runs
finish-requires-clause-runs g c =
    let old = c.args.self.now in
    runs_after g.C.Cpu.runs c.args.plant.now old.cpu old.desk c.begin.new.desk c.begin.ensures.clock c.begin.ensures.states c.begin.ensures.goes_on c.requires.alive.runs_on c.begin.new.desk.hand refl

pub returns-clause-own : goal.returns-clause-own
returns-clause-own g c =
    let plant = c.args.plant.now in
    c.begin.ensures.own plant.states (plant_execution g.C.Cpu.execution plant) (plant_cost g.C.Cpu.execution plant)

pub returns-clause-held : goal.returns-clause-held
returns-clause-held g c =
    let plant = c.args.plant.now in let old = c.args.self.now in let begun = c.begin.new.desk in let after = c.finish.new.desk in
    let exec : Execution = plant_execution g.C.Cpu.execution plant in let cost : ℕ → List ℤ → List ℤ → ℕ = plant_cost g.C.Cpu.execution plant in
    let p : Plan = set_plan g.C.Cpu.execution plant in
    let bus : Bus = bus_on c.args.bus.now in
    let h : Held = held_in plant.graph old.desk in
    let given : ℕ → Status = opens p bus old.duties.unit h c.args.line.now in
    let known = c.begin.ensures.jobs plant.states exec cost in
    held_after p plant.graph bus c.args.line.now old.duties.unit old.desk after begun.inbox.words
    (c.finish.ensures.clock ∙ ap (λ (k : ℕ). k + 1) c.begin.ensures.clock)
    (c.finish.ensures.states given known ∙ ap (λ (k : ℕ). states_at p k given begun.states) c.begin.ensures.clock ∙ ap (λ (ss : List (List ℤ)). states_at p old.desk.clock given ss) c.begin.ensures.states)
    (c.begin.ensures.taken plant.states exec cost)
    (ap (λ (i : Taken). i.words) c.finish.ensures.inbox)
    (c.finish.ensures.jobs given known ∙ ap (λ (k : ℕ). listed (length plant.graph.jobs) (λ job. closes p k job (given job))) c.begin.ensures.clock)

pub returns-clause-effects : goal.returns-clause-effects
returns-clause-effects g c =
    let plant = c.args.plant.now in let old = c.args.self.now in let begun = c.begin.new.desk in
    let exec : Execution = plant_execution g.C.Cpu.execution plant in let cost : ℕ → List ℤ → List ℤ → ℕ = plant_cost g.C.Cpu.execution plant in
    let p : Plan = set_plan g.C.Cpu.execution plant in
    let bus : Bus = bus_on c.args.bus.now in
    let h : Held = held_in plant.graph old.desk in
    let given : ℕ → Status = opens p bus old.duties.unit h c.args.line.now in
    let takes : List Effect = take_effects p bus old.duties.unit old.desk.clock in
    let puts : List Effect = put_effects p old.duties.unit old.duties.side h in
    let starts : List Effect = start_effects p bus c.args.line.now old.duties.unit h in
    c.finish.ensures.effects given (c.begin.ensures.jobs plant.states exec cost)
    ∙ ap (λ (xs : List Effect). xs ++ ends_at p begun.clock given) (c.begin.ensures.effects plant.states exec cost)
    ∙ ap (λ (xs : List Effect). (((xs ++ takes) ++ puts) ++ starts) ++ ends_at p begun.clock given) c.requires.room
    ∙ ap (λ (k : ℕ). ((takes ++ puts) ++ starts) ++ ends_at p k given) c.begin.ensures.clock
