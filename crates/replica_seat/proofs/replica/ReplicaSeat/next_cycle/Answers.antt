use Rattle.std.proofs.Common.{◌≡◌, ℤ, List, sym, ◌∙◌, ap, subst}
use Rattle.cluster_model.specs.State.{Held}
use Rattle.cluster_seats.specs.Seats.{Seated}
use Rattle.plant_run.specs.PlantRun.{plant_execution, plant_cost}
use Rattle.replica_desk.specs.Desk.{HasStates}
use Rattle.tables.specs.Named.{job_at}
use Rattle.replica_seat.specs.Alive.{seat_of}
use Rattle.replica_seat.proofs.Seated.{held_same, none_told, runs_none}
use Rattle.replica_seat.proofs.replica.ReplicaSeat.next_cycle.Goals as goal

pub returns-clause-alive : goal.returns-clause-alive
returns-clause-alive g c =
    let plant = c.args.plant.now in let old = c.args.self.now in let desk = c.turn.new.desk in
    record {
      duties = c.requires.alive.duties;
      desk = c.turn.ensures.desk plant.net plant.graph plant.tables old.duties.unit 1 1 c.requires.alive.desk;
      sizes = subst (λ (ss : List (List ℤ)). HasStates plant.net plant.graph plant.tables old.duties.unit plant.states ss) (sym c.turn.ensures.states) c.requires.alive.sizes;
      task = none_told desk.hand c.turn.ensures.hand (λ job. old.task ≡ (job_at plant.graph job).task);
      outs = c.requires.alive.outs;
      state = c.requires.alive.state;
      runs_on = runs_none g.C.Cpu.runs plant old.cpu desk desk.hand c.turn.ensures.hand;
    }

pub returns-clause-seat : goal.returns-clause-seat
returns-clause-seat g c =
    let plant = c.args.plant.now in let old = c.args.self.now in let desk = c.turn.new.desk in
    let seat : Seated = seat_of old in
    let with_it : Held → Seated = λ held. record { mode = seat.mode; held = held; unit = seat.unit; side = seat.side } in
    ap with_it (held_same plant.graph old.task desk (none_told desk.hand c.turn.ensures.hand (λ job. old.task ≡ (job_at plant.graph job).task))
    ∙ c.turn.ensures.held plant.net plant.graph plant.tables old.duties.unit 1 plant.states (plant_execution g.C.Cpu.execution plant) (plant_cost g.C.Cpu.execution plant) c.requires.alive.desk)
