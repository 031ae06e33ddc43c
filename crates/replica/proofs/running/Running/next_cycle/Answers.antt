use Rattle.std.proofs.Common.{ℤ, List, sym, subst}
use Rattle.plant_run.specs.PlantRun.{plant_execution, plant_cost}
use Rattle.replica_desk.specs.Desk.{HasStates}
use Rattle.replica.proofs.Held.{runs_none}
use Rattle.replica.proofs.running.Running.next_cycle.Goals as goal

pub returns-clause-alive : goal.returns-clause-alive
returns-clause-alive g c =
    let plant = c.args.plant.now in let old = c.args.self.now in let desk = c.turn.new.desk in
    record {
      duties = c.requires.alive.duties;
      desk = c.turn.ensures.desk plant.net plant.graph plant.tables old.duties.unit 1 1 c.requires.alive.desk;
      sizes = subst (λ (ss : List (List ℤ)). HasStates plant.net plant.graph plant.tables old.duties.unit plant.states ss) (sym c.turn.ensures.states) c.requires.alive.sizes;
      runs_on = runs_none g.C.Cpu.runs plant old.cpu desk desk.hand c.turn.ensures.hand;
      outs = c.requires.alive.outs;
      state = c.requires.alive.state;
    }

pub returns-clause-held : goal.returns-clause-held
returns-clause-held g c =
    let plant = c.args.plant.now in let old = c.args.self.now in
    c.turn.ensures.held plant.net plant.graph plant.tables old.duties.unit 1 plant.states (plant_execution g.C.Cpu.execution plant) (plant_cost g.C.Cpu.execution plant) c.requires.alive.desk
