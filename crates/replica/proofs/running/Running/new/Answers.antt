use Rattle.std.proofs.Common.{ℕ, ◌≤◌, List, length, ◌∙◌, subst, ap}
use Rattle.std.specs.Prelude.{slice_index}
use Rattle.cluster_model.specs.Cluster.{fresh_held, first_held_states}
use Rattle.cluster_model.specs.PlanOf.{plan_of}
use Rattle.plant_run.specs.PlantRun.{plant_execution, plant_cost}
use Rattle.replica_desk.specs.Desk.{HasStates}
use Rattle.replica.proofs.Held.{runs_none}
use Rattle.replica.proofs.running.Running.new.Goals as goal

pub returns-clause-alive : goal.returns-clause-alive
returns-clause-alive g c =
    let plant = c.args.plant.now in let desk = c.in_ok-desk.desk in
    record {
      duties = c.in_ok-duties.ensures;
      desk = c.in_ok-desk.ensures.desk 1;
      sizes = subst (λ (ws : List ℕ). HasStates plant.net plant.graph plant.tables c.args.unit ws desk.states) c.as_slice-words.ensures c.in_ok-desk.ensures.states;
      runs_on = runs_none g.C.Cpu.runs plant c.args.cpu desk desk.hand c.in_ok-desk.ensures.hand;
      outs = c.in_ok-outs.ensures;
      state = λ task. subst (λ (ws : List ℕ). slice_index ws task ≤ length c.in_ok-state.state.items) c.as_slice-words.ensures (c.in_ok-state.ensures task);
    }

pub returns-clause-held : goal.returns-clause-held
returns-clause-held g c =
    let plant = c.args.plant.now in
    let exec = plant_execution g.C.Cpu.execution plant in let cost = plant_cost g.C.Cpu.execution plant in
    c.in_ok-desk.ensures.held exec cost
    ∙ ap (λ (ws : List ℕ). let q = plan_of plant.net plant.graph plant.tables ws exec cost in fresh_held q (first_held_states q c.args.unit)) c.as_slice-words.ensures
