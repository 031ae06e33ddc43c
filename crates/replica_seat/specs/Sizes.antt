-- The states of a unit's tasks have their words.
use Rattle.std.proofs.Common.{◌≡◌, ℕ, ◌<◌, List, [], length, get_or, ℤ, ◌∙◌, ap, subst, add-zero}
use Rattle.std.specs.Prelude.{slice_index}
use Rattle.graph.specs.Cycle.{first_job}
use Rattle.graph.specs.JobGraph.{JobGraph}
use Rattle.graph.specs.Jobs.{job_number}
use Rattle.graph.specs.NetGraph.{IsNetGraph}
use Rattle.graph.specs.declared.net.Net.{Net}
use Rattle.plant.specs.declared.system.Plant.{Plant}
use Rattle.plant.specs.InOrder.{IsInOrder}
use Rattle.plant.specs.Lengths.{lengths_of}
use Rattle.processor.specs.Ends.{Broken}
use Rattle.tables.specs.Named.{job_at, entry_at}
use Rattle.net_run.specs.NetRun.{Execution}
use Rattle.cluster_plan.proofs.Whole.{sound}
use Rattle.replica_desk.specs.Desk.{HasStates}

pub sized_by : {P : Type 0} (plant : Plant P) (unit : ℕ) (states : List (List ℤ)) → IsInOrder plant → HasStates plant.net plant.graph plant.tables unit plant.states states
    → (task : ℕ) → task < length plant.net.tasks → (entry_at plant.tables (first_job plant.net plant.graph.cycle task)).unit ≡ unit → length (get_or states task []) ≡ slice_index plant.states task
sized_by plant unit states order sizes task low home =
    let net : Net = plant.net in let g : JobGraph = plant.graph in
    let n : IsNetGraph net g = record { lengths = lengths_of plant.maxts net.shape.cycles_per_tick; is = order.graph } in
    let exec : Execution = λ task state ins. Broken in
    let cost : ℕ → List ℤ → List ℤ → ℕ = λ task state ins. 0 in
    let s = sound net g plant.tables plant.states exec cost n order.tables in
    let w = s.numbered task 0 low (s.every task low) in
    let job : ℕ = job_number net g.cycle task 0 in
    let first : job ≡ first_job net g.cycle task = add-zero (first_job net g.cycle task) in
    let fit : length (get_or states (job_at g job).task []) ≡ slice_index plant.states (job_at g job).task = sizes job w.0 (ap (λ k. (entry_at plant.tables k).unit) first ∙ home) in
    subst (λ k. length (get_or states k []) ≡ slice_index plant.states k) w.1 fit
