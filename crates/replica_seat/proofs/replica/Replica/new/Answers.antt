use Rattle.std.proofs.Common.{◌≡◌, ℕ, sym, ◌∙◌, subst, List, ap}
use Rattle.std.specs.Prelude.{slice_index}
use Rattle.cluster_model.specs.Cluster.{fresh_held, first_held_states}
use Rattle.cluster_model.specs.State.{Running}
use Rattle.plant_run.specs.PlantRun.{plant_execution, plant_cost}
use Rattle.replica_desk.specs.Desk.{IsDesk, HasStates}
use Rattle.tables.specs.Named.{job_at}
use Rattle.replica_work.specs.Works.{set_plan}
use Rattle.replica_seat.specs.Alive.{held_by}
use Rattle.replica_seat.proofs.Seated.{held_same, none_told, seat_same, own_duties, runs_none}
use Rattle.replica_seat.proofs.replica.Replica.new.Goals as goal

pub returns-clause-alive : goal.returns-clause-alive
returns-clause-alive g c =
    let plant = c.args.plant.now in let net = plant.net in let graph = plant.graph in let t = plant.tables in
    let d = c.in_ok-duties.duties in let desk = c.in_ok-desk.desk in
    let unit_is : d.unit ≡ c.args.unit = c.in_ok-duties.ensures.unit_is in
    record {
      duties = own_duties net graph t c.args.unit c.args.side d c.in_ok-duties.ensures;
      desk = subst (λ (u : ℕ). IsDesk net graph t u 1 desk) (sym unit_is) (c.in_ok-desk.ensures.desk 1);
      sizes = subst (λ (u : ℕ). HasStates net graph t u plant.states desk.states) (sym unit_is) (subst (λ (ws : List ℕ). HasStates net graph t c.args.unit ws desk.states) c.as_slice-words.ensures c.in_ok-desk.ensures.states);
      task = none_told desk.hand c.in_ok-desk.ensures.hand (λ job. 0 ≡ (job_at graph job).task);
      outs = c.in_ok-outs.ensures;
      state = λ task. subst (λ (ws : List ℕ). Rattle.std.specs.Prelude.◌≤◌ (slice_index ws task) (Rattle.std.specs.Prelude.length c.in_ok-state.state.items)) c.as_slice-words.ensures (c.in_ok-state.ensures task);
      runs_on = runs_none g.C.Cpu.runs plant c.args.cpu desk desk.hand c.in_ok-desk.ensures.hand;
    }

pub returns-clause-seat : goal.returns-clause-seat
returns-clause-seat g c =
    let plant = c.args.plant.now in let graph = plant.graph in
    let d = c.in_ok-duties.duties in let desk = c.in_ok-desk.desk in
    let exec = plant_execution g.C.Cpu.execution plant in let cost = plant_cost g.C.Cpu.execution plant in
    let p = set_plan g.C.Cpu.execution plant in
    let held : held_by 0 desk ≡ fresh_held p (first_held_states p c.args.unit) =
    held_same graph 0 desk (none_told desk.hand c.in_ok-desk.ensures.hand (λ job. 0 ≡ (job_at graph job).task))
    ∙ c.in_ok-desk.ensures.held exec cost
    ∙ ap (λ (ws : List ℕ). let q = Rattle.cluster_model.specs.PlanOf.plan_of plant.net plant.graph plant.tables ws exec cost in fresh_held q (first_held_states q c.args.unit)) c.as_slice-words.ensures in
    seat_same Running (held_by 0 desk) (fresh_held p (first_held_states p c.args.unit)) d.unit c.args.unit d.side c.args.side held c.in_ok-duties.ensures.unit_is c.in_ok-duties.ensures.side_is
