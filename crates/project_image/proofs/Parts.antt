-- The plant that is made of a planned project's parts.
use Rattle.std.proofs.Common.{◌≡◌, ℕ, List, map, sym, ap, ◌∙◌}
use Rattle.std.specs.Prelude.{All}
use Rattle.graph.specs.JobGraph.{JobGraph}
use Rattle.graph.specs.declared.net.Net.{Net}
use Rattle.image_sides.specs.Sides as sides
use Rattle.plant.specs.declared.system.Plant.{Plant}
use Rattle.project_graph.proofs.GraphSteps.{plain_bounds}
use Rattle.project_image.proofs.InOrder.{states_same}
use Rattle.project_plant.specs.Planned.{maxt_in, code_in, states_in, plant_in, IsRunnable}
use Rattle.tables.specs.declared.table.Tables.{Tables}
use Rattle.task_source.specs.Built.{Built, plain_built}
use Rattle.task_source.specs.declared.built.BuiltTask.{BuiltTask}
use Rattle.word_code.specs.declared.code.Code.{Code}

abbrev pub plant_with : Net → JobGraph → Tables → List Code → List ℕ → List ℕ → Plant Code
plant_with net graph tables programs maxts states = record { net = net; graph = graph; tables = tables; programs = programs; maxts = maxts; states = states }

pub made_plant : (net : Net) (graph : JobGraph) (tables : Tables) (built : List Built) (programs : List Code) (maxts states : List ℕ) → programs ≡ map code_in built → maxts ≡ map maxt_in built → states ≡ map sides.state_words programs
    → All IsRunnable built → plant_with net graph tables programs maxts states ≡ plant_in net graph tables built
made_plant net graph tables built programs maxts states codes bounds words runnable =
    ap (λ (ms : List ℕ). plant_with net graph tables programs ms states) bounds
    ∙ (ap (λ (ws : List ℕ). plant_with net graph tables programs (map maxt_in built) ws) (words ∙ (ap (map sides.state_words) codes ∙ sym (states_same built runnable)))
    ∙ ap (λ (cs : List Code). plant_with net graph tables cs (map maxt_in built) (map states_in built)) codes)

-- the bounds of the tasks
pub listed_bounds : (maxts listed : List ℕ) (lent tasks : List BuiltTask) → maxts ≡ listed → listed ≡ map (λ (b : BuiltTask). b.maxt) lent → lent ≡ tasks → maxts ≡ map maxt_in (map plain_built tasks)
listed_bounds maxts listed lent tasks same lists is = same ∙ (lists ∙ (ap (map (λ (b : BuiltTask). b.maxt)) is ∙ plain_bounds tasks))
