-- The call that joins the tasks of a project does its stages.
use Rattle.std.proofs.Common.{◌≡◌, ◌⊎◌, ◌<◌, ◌+◌, inr, ℕ, List, [], ◌∷◌, ◌++◌, length, map, take, get_or, Result, Ok, Err, refl, sym, ap, ◌∙◌, subst}
use Rattle.std.proofs.lemmas.List.{map-append, take_more}
use Rattle.graph.specs.declared.net.Net.{Net}
use Rattle.graph.specs.JobGraph.{JobGraph}
use Rattle.net_graph.specs.Gives.{GraphGives}
use Rattle.project_graph.specs.Graphed.{GraphedProject, graphed_as, jobbed, netted, tasked, ports_of_built, bound_of_built}
use Rattle.project_net.specs.Gives.{NetGives}
use Rattle.project_reader.specs.declared.project.Project.{Project}
use Rattle.project_reader.specs.declared.project.TaskEntry.{TaskEntry}
use Rattle.project_tasks.specs.Entries.{entries}
use Rattle.refusals.specs.Causes.{Counts}
use Rattle.refusals.specs.declared.refusal.Refusal.{Refusal}
use Rattle.refusals.specs.declared.refusal.Refusal.TheVariants as refusal
use Rattle.stages.specs.Stage.{Stage, Does, judging, giving}
use Rattle.stages.specs.World.{Held}
use Rattle.stages.proofs.Turns.{fails, stopped, went, judged, gave}
use Rattle.task_ports.specs.Ports.{ports_of}
use Rattle.task_ports.specs.declared.ports.TaskPorts.{TaskPorts}
use Rattle.task_source.specs.Built.{Built, plain_built}
use Rattle.task_source.specs.declared.built.BuiltTask.{BuiltTask}

abbrev give_it : Net → List Built → JobGraph → Stage GraphedProject
give_it net built graph = giving (graphed_as net built graph)

-- the ports and the bounds of tasks are those of their plain forms
pub plain_ports : (tasks : List BuiltTask) → map (λ (b : BuiltTask). ports_of b.task) tasks ≡ map ports_of_built (map plain_built tasks)
plain_ports [] = refl
plain_ports (t ∷ tasks) = ap (λ (rest : List TaskPorts). ports_of t.task ∷ rest) (plain_ports tasks)

pub plain_bounds : (tasks : List BuiltTask) → map (λ (b : BuiltTask). b.maxt) tasks ≡ map bound_of_built (map plain_built tasks)
plain_bounds [] = refl
plain_bounds (t ∷ tasks) = ap (λ (rest : List ℕ). t.maxt ∷ rest) (plain_bounds tasks)

-- what was listed for the tasks that were seen is that of their plain forms
pub all_ports : (tasks seen : List BuiltTask) (listed given : List TaskPorts) → given ≡ listed → listed ≡ map (λ (b : BuiltTask). ports_of b.task) seen → seen ≡ tasks → given ≡ map ports_of_built (map plain_built tasks)
all_ports tasks seen listed given is lists same = is ∙ (lists ∙ (ap (map (λ (b : BuiltTask). ports_of b.task)) same ∙ plain_ports tasks))

pub all_bounds : (tasks seen : List BuiltTask) (listed given : List ℕ) → given ≡ listed → listed ≡ map (λ (b : BuiltTask). b.maxt) seen → seen ≡ tasks → given ≡ map bound_of_built (map plain_built tasks)
all_bounds tasks seen listed given is lists same = is ∙ (lists ∙ (ap (map (λ (b : BuiltTask). b.maxt)) same ∙ plain_bounds tasks))

-- the ports of one task more
pub ports_more : (tasks : List BuiltTask) (i : ℕ) (task : BuiltTask) → i < length tasks → task ≡ get_or tasks i task → map (λ (b : BuiltTask). ports_of b.task) (take (i + 1) tasks) ≡ map (λ (b : BuiltTask). ports_of b.task) (take i tasks) ++ ports_of task.task ∷ []
ports_more tasks i task low is =
    ap (map (λ (b : BuiltTask). ports_of b.task)) (take_more tasks i task low)
    ∙ (map-append (λ (b : BuiltTask). ports_of b.task) (take i tasks) (get_or tasks i task ∷ []) ∙ ap (λ (b : BuiltTask). map (λ (b : BuiltTask). ports_of b.task) (take i tasks) ++ ports_of b.task ∷ []) (sym is))

-- no memory for the ports
pub no_ports : (project : List ℕ) (p : Project) (built : List Built) (b : Held) (c : Counts) → Does (netted project p built) b b c c (Err refusal.Memory)
no_ports project p built b c = stopped (judging (NetGives project p (map ports_of_built built))) (jobbed project built) (judged (NetGives project p (map ports_of_built built)) b c (Err refusal.Memory) (inr refl))

-- the net was refused
pub net_refused : (project : List ℕ) (p : Project) (built : List Built) (ports : List TaskPorts) (e : Refusal) (b : Held) (c : Counts) → ports ≡ map ports_of_built built → NetGives project p ports (Err e) ⊎ (fails Net e ≡ Err refusal.Memory)
    → Does (netted project p built) b b c c (Err e)
net_refused project p built ports e b c is gives =
    stopped (judging (NetGives project p (map ports_of_built built))) (jobbed project built)
    (judged (NetGives project p (map ports_of_built built)) b c (Err e) (subst (λ (x : List TaskPorts). NetGives project p x (Err e) ⊎ (fails Net e ≡ Err refusal.Memory)) is gives))

-- the net was given
pub net_given : (project : List ℕ) (p : Project) (built : List Built) (ports : List TaskPorts) (net : Net) (r : Result GraphedProject Refusal) (b : Held) (c : Counts) → ports ≡ map ports_of_built built
    → NetGives project p ports (Ok net) ⊎ (Ok net ≡ Err refusal.Memory) → Does (jobbed project built net) b b c c r → Does (netted project p built) b b c c r
net_given project p built ports net r b c is gives rest =
    went (judging (NetGives project p (map ports_of_built built))) (jobbed project built)
    (judged (NetGives project p (map ports_of_built built)) b c (Ok net) (subst (λ (x : List TaskPorts). NetGives project p x (Ok net) ⊎ (Ok net ≡ Err refusal.Memory)) is gives)) rest

-- no memory for the bounds
pub no_bounds : (project : List ℕ) (built : List Built) (net : Net) (b : Held) (c : Counts) → Does (jobbed project built net) b b c c (Err refusal.Memory)
no_bounds project built net b c = stopped (judging (GraphGives project net (map bound_of_built built))) (give_it net built) (judged (GraphGives project net (map bound_of_built built)) b c (Err refusal.Memory) (inr refl))

-- the graph was refused
pub graph_refused : (project : List ℕ) (built : List Built) (net : Net) (maxts : List ℕ) (e : Refusal) (b : Held) (c : Counts) → maxts ≡ map bound_of_built built → GraphGives project net maxts (Err e) ⊎ (fails JobGraph e ≡ Err refusal.Memory)
    → Does (jobbed project built net) b b c c (Err e)
graph_refused project built net maxts e b c is gives =
    stopped (judging (GraphGives project net (map bound_of_built built))) (give_it net built)
    (judged (GraphGives project net (map bound_of_built built)) b c (Err e) (subst (λ (x : List ℕ). GraphGives project net x (Err e) ⊎ (fails JobGraph e ≡ Err refusal.Memory)) is gives))

-- the graph was given
pub graph_given : (project : List ℕ) (built : List Built) (net : Net) (maxts : List ℕ) (g : JobGraph) (b : Held) (c : Counts) → maxts ≡ map bound_of_built built → GraphGives project net maxts (Ok g) ⊎ (Ok g ≡ Err refusal.Memory)
    → Does (jobbed project built net) b b c c (Ok (graphed_as net built g))
graph_given project built net maxts g b c is gives =
    went (judging (GraphGives project net (map bound_of_built built))) (give_it net built)
    (judged (GraphGives project net (map bound_of_built built)) b c (Ok g) (subst (λ (x : List ℕ). GraphGives project net x (Ok g) ⊎ (Ok g ≡ Err refusal.Memory)) is gives)) (gave (graphed_as net built g) b c)

-- the tasks were refused
pub tasks_refused : (project : List ℕ) (p : Project) (tasks : List TaskEntry) {b n : Held} {c d : Counts} {e : Refusal} → tasks ≡ p.tasks → Does (entries tasks) b n c d (Err e) → Does (tasked project p) b n c d (Err e)
tasks_refused project p tasks {b} {n} {c} {d} {e} is does = stopped (entries p.tasks) (netted project p) (subst (λ (x : List TaskEntry). Does (entries x) b n c d (Err e)) is does)

-- the tasks were given
pub tasks_given : (project : List ℕ) (p : Project) (tasks : List TaskEntry) (built : List Built) {b m n : Held} {c d f : Counts} {r : Result GraphedProject Refusal} → tasks ≡ p.tasks → Does (entries tasks) b m c d (Ok built)
    → Does (netted project p built) m n d f r → Does (tasked project p) b n c f r
tasks_given project p tasks built {b} {m} {n} {c} {d} is does rest = went (entries p.tasks) (netted project p) (subst (λ (x : List TaskEntry). Does (entries x) b m c d (Ok built)) is does) rest
