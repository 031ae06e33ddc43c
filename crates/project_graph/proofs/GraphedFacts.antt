-- What holds of every reading of a project.
use Rattle.std.proofs.Common.{◌≡◌, ℕ, List, map, Some, Ok, sym, ◌∙◌, subst}
use Rattle.graph.specs.declared.net.Net.{Net}
use Rattle.graph.specs.JobGraph.{JobGraph}
use Rattle.graph.specs.NetGraph.{IsNetGraphFor}
use Rattle.net_graph.proofs.Given.{graph_is}
use Rattle.net_graph.proofs.Once.{graph_once, refuses_graph}
use Rattle.net_graph.specs.Gives.{GraphGives}
use Rattle.plant.specs.Lengths.{lengths_of}
use Rattle.project_file.proofs.FileFacts.{passes_project, kept_project, refuses_project, missing_project, was_project}
use Rattle.project_file.specs.Gives.{project_stage}
use Rattle.project_graph.specs.Graphed.{GraphedProject, graphed_as, jobbed, netted, tasked, graphed, ports_of_built, bound_of_built}
use Rattle.project_graph.specs.Source.{IsSourceOf}
use Rattle.project_net.proofs.Once.{net_once, refuses_net, net_bound}
use Rattle.project_net.specs.Gives.{NetGives}
use Rattle.project_reader.specs.declared.project.Project.{Project}
use Rattle.project_tasks.proofs.EntryFacts.{passes_entries, kept_entries, refuses_entries, entries_gave}
use Rattle.project_tasks.specs.Entries.{entries, AreEntriesIn}
use Rattle.refusals.specs.declared.fault.Fault.{Fault}
use Rattle.refusals.specs.declared.refusal.Refusal.{Refusal}
use Rattle.refusals.specs.declared.refusal.Refusal.TheVariants as refusal
use Rattle.stages.specs.Files.{IsMissing}
use Rattle.stages.specs.Stage.{Stage, judging, giving}
use Rattle.stages.specs.World.{Held}
use Rattle.stages.proofs.Gives.{both_gave, ok_once}
use Rattle.stages.proofs.MissingFacts.{refused_turn}
use Rattle.stages.proofs.Relations.{AlwaysRefuses, Within, IsKept, Refuses, Passes}
use Rattle.stages.proofs.SoundFacts.{passes_turn, passes_judging, passes_giving}
use Rattle.stages.proofs.WithinFacts.{within_turn, within_judging, within_giving, refuses_turn, refuses_giving}
use Rattle.task_source.specs.Built.{Built}

abbrev give_it : Net → List Built → JobGraph → Stage GraphedProject
give_it net built graph = giving (graphed_as net built graph)

-- ---- the stages are sound

passes_jobbed : (project : List ℕ) (built : List Built) (net : Net) → Passes (jobbed project built net)
passes_jobbed project built net =
    passes_turn (judging (GraphGives project net (map bound_of_built built))) (give_it net built) (passes_judging (GraphGives project net (map bound_of_built built)) (graph_once project net (map bound_of_built built)))
    (λ graph. passes_giving (graphed_as net built graph))

passes_netted : (project : List ℕ) (p : Project) (built : List Built) → Passes (netted project p built)
passes_netted project p built =
    passes_turn (judging (NetGives project p (map ports_of_built built))) (jobbed project built) (passes_judging (NetGives project p (map ports_of_built built)) (net_once project p (map ports_of_built built))) (passes_jobbed project built)

pub passes_graphed : (project : List ℕ) → Passes (graphed project)
passes_graphed project =
    passes_turn (project_stage project) (tasked project) (passes_project project) (λ p. passes_turn (entries p.tasks) (netted project p) (passes_entries p.tasks) (passes_netted project p))

-- ---- what is kept from stage to stage is kept by all of them

kept_jobbed : (R : Held → Held → Type 0) (project : List ℕ) (built : List Built) (net : Net) → IsKept R → Within R (jobbed project built net)
kept_jobbed R project built net kept =
    within_turn R (judging (GraphGives project net (map bound_of_built built))) (give_it net built) kept (within_judging R (GraphGives project net (map bound_of_built built)) kept) (λ graph. within_giving R (graphed_as net built graph) kept)

kept_netted : (R : Held → Held → Type 0) (project : List ℕ) (p : Project) (built : List Built) → IsKept R → Within R (netted project p built)
kept_netted R project p built kept =
    within_turn R (judging (NetGives project p (map ports_of_built built))) (jobbed project built) kept (within_judging R (NetGives project p (map ports_of_built built)) kept) (λ net. kept_jobbed R project built net kept)

pub kept_graphed : (R : Held → Held → Type 0) (project : List ℕ) → IsKept R → Within R (graphed project)
kept_graphed R project kept =
    within_turn R (project_stage project) (tasked project) kept (kept_project R project kept)
    (λ p. within_turn R (entries p.tasks) (netted project p) kept (kept_entries R p.tasks kept) (λ built. kept_netted R project p built kept))

-- ---- what they refuse: a file's read, its length, and a fault

refuses_jobbed : (P : Refusal → Type 0) (project : List ℕ) (built : List Built) (net : Net) → ((f : Fault) → P (refusal.Fault f)) → Refuses P (jobbed project built net)
refuses_jobbed P project built net fails =
    refuses_turn P (judging (GraphGives project net (map bound_of_built built))) (give_it net built) (λ b n r e meant is. refuses_graph P project net (map bound_of_built built) fails r e meant.1 is)
    (λ graph. refuses_giving P (graphed_as net built graph))

refuses_netted : (P : Refusal → Type 0) (project : List ℕ) (p : Project) (built : List Built) → ((f : Fault) → P (refusal.Fault f)) → Refuses P (netted project p built)
refuses_netted P project p built fails =
    refuses_turn P (judging (NetGives project p (map ports_of_built built))) (jobbed project built) (λ b n r e meant is. refuses_net P project p (map ports_of_built built) fails r e meant.1 is)
    (λ net. refuses_jobbed P project built net fails)

pub refuses_graphed : (P : Refusal → Type 0) (project : List ℕ) → ((name : List ℕ) → P (refusal.ReadFault (Some name))) → ((name : List ℕ) → P (refusal.TooLong (Some name))) → ((f : Fault) → P (refusal.Fault f)) → Refuses P (graphed project)
refuses_graphed P project missing long fails =
    refuses_turn P (project_stage project) (tasked project) (refuses_project P project (missing project) (long project) fails)
    (λ p. refuses_turn P (entries p.tasks) (netted project p) (refuses_entries P p.tasks missing long fails) (λ built. refuses_netted P project p built fails))

-- a project whose file isn't there
pub missing_graphed : (project : List ℕ) (b : Held) → IsMissing b.files project → AlwaysRefuses b (refusal.ReadFault (Some project)) (graphed project)
missing_graphed project b missing = refused_turn b (refusal.ReadFault (Some project)) (project_stage project) (tasked project) (missing_project project b missing)

-- ---- what they gave

pub record WasGraphed (b n : Held) (project : List ℕ) (g : GraphedProject) : Type 0 where
  pub stays : n ≡ b
  pub graph : IsNetGraphFor g.net (lengths_of (map bound_of_built g.built) g.net.shape.cycles_per_tick) g.graph
  pub source : IsSourceOf b.files project g.net g.built

-- what was read is the source project of the file's name, and the graph is its net's
pub was_graphed : (project : List ℕ) (b n : Held) (g : GraphedProject) → (graphed project).meant b n (Ok g) → WasGraphed b n project g
was_graphed project b n g meant =
    let one = both_gave (project_stage project) (tasked project) meant in
    let p = one.0 in
    let two = both_gave (entries p.tasks) (netted project p) one.3 in
    let built = two.0 in
    let three = both_gave (judging (NetGives project p (map ports_of_built built))) (jobbed project built) two.3 in
    let net = three.0 in
    let four = both_gave (judging (GraphGives project net (map bound_of_built built))) (give_it net built) three.3 in
    let file = was_project project b one.1 p one.2 in
    let tasks = entries_gave p.tasks built one.1 two.1 two.2 in
    let graph = graph_is project net (map bound_of_built built) four.0 four.2.1 in
    let is : g ≡ graphed_as net built four.0 = ok_once GraphedProject g (graphed_as net built four.0) four.3.1 in
    subst (λ (x : GraphedProject). WasGraphed b n project x) (sym is) (record {
      stays = four.3.0 ∙ (four.2.0 ∙ (three.2.0 ∙ (tasks.0 ∙ file.stays)));
      graph = graph;
      source = record {
        bytes = file.bytes;
        file_is = file.file_is;
        short = file.short;
        entries = p;
        is_project = file.is;
        tasks = subst (λ (h : Held). AreEntriesIn h.files p.tasks built) file.stays tasks.1;
        bound = net_bound project p (map ports_of_built built) net three.2.1;
        sound = record { rules = graph.rules; cycle = four.0.cycle; limits = graph.graph.limits };
      };
    })
