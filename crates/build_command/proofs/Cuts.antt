-- By what the planning of a project can be cut off: never by a put.
use Rattle.std.proofs.Common.{◌≡◌, ◌⊎◌, inl, inr, ℕ, List, [], ◌∷◌, ◌++◌, map, None, Some, Result, Ok, sym, subst, arith}
use Rattle.graph.specs.declared.net.Net.{Net}
use Rattle.graph.specs.JobGraph.{JobGraph}
use Rattle.mc_tree.specs.declared.tree.Task.{Task}
use Rattle.net_graph.specs.Gives.{GraphGives}
use Rattle.net_tables.specs.Gives.{TablesGive}
use Rattle.project_file.specs.Gives.{ProjectGives, project_stage}
use Rattle.project_graph.specs.Graphed.{GraphedProject, graphed_as, jobbed, netted, tasked, graphed, ports_of_built, bound_of_built}
use Rattle.project_net.specs.Gives.{NetGives}
use Rattle.project_reader.specs.declared.project.Project.{Project}
use Rattle.project_reader.specs.declared.project.TaskEntry.{TaskEntry}
use Rattle.project_tables.specs.Planned.{PlannedProject, planned, tabled, with_tables}
use Rattle.project_tasks.specs.Entries.{entry, entries}
use Rattle.refusals.specs.declared.refusal.Refusal.{Refusal}
use Rattle.refusals.specs.declared.refusal.Refusal.TheVariants as refusal
use Rattle.stages.specs.Files.{reading}
use Rattle.stages.specs.Stage.{Stage, in_turn, judging, giving, all}
use Rattle.stages.specs.World.{Held}
use Rattle.tables.specs.declared.table.Tables.{Tables}
use Rattle.task_source.specs.Bound.{BoundGives, bounding}
use Rattle.task_source.specs.Built.{Built, built}
use Rattle.task_source.specs.Source.{SourceGives, source}

-- wherever the stages are cut off, the refusal is such
abbrev Cuts : {A : Type 0} → (Refusal → Type 0) → Stage A → Type 0
Cuts {A} P stage = (b n : Held) (e : Refusal) → stage.cut b n e → P e

-- the refusals of reads
record OfReads (P : Refusal → Type 0) : Type 0 where
  memory : P refusal.Memory
  fault : (name : List ℕ) → P (refusal.ReadFault (Some name))
  long : (name : List ℕ) → P (refusal.TooLong (Some name))

cuts_turn : {A B : Type 0} (P : Refusal → Type 0) (first : Stage A) (next : A → Stage B) → Cuts P first → ((a : A) → Cuts P (next a)) → Cuts P (in_turn first next)
cuts_turn P first next one two b n e cut = by cut
  where
    by : (in_turn first next).cut b n e → P e
    by (inl stop) = one b n e stop
    by (inr go) = two go.0 go.1 n e go.3

cuts_judging : {A : Type 0} (P : Refusal → Type 0) (Q : Result A Refusal → Type 0) → OfReads P → Cuts P (judging Q)
cuts_judging P Q of b n e cut = subst P (sym cut.1) of.memory

cuts_giving : {A : Type 0} (P : Refusal → Type 0) (a : A) → Cuts P (giving a)
cuts_giving P a b n e cut = absurd cut

cuts_reading : (P : Refusal → Type 0) (name : List ℕ) (limit : ℕ) → OfReads P → Cuts P (reading name limit)
cuts_reading P name limit of b n e cut = by cut.1
  where
    by : (e ≡ refusal.Memory) ⊎ ((e ≡ refusal.ReadFault (Some name)) ⊎ ((b.files ≡ None) × (e ≡ refusal.TooLong (Some name)))) → P e
    by (inl is) = subst P (sym is) of.memory
    by (inr (inl is)) = subst P (sym is) (of.fault name)
    by (inr (inr is)) = subst P (sym is.1) (of.long name)

cuts_all : {A X : Type 0} (P : Refusal → Type 0) (one : A → X → Stage A) (done : A) (xs : List X) → ((a : A) (x : X) → Cuts P (one a x)) → Cuts P (all one done xs)
cuts_all P one done [] each = cuts_giving P done
cuts_all P one done (x ∷ xs) each = cuts_turn P (one done x) (λ more. all one more xs) (each done x) (λ more. cuts_all P one more xs each)

abbrev bound_it : List ℕ → Task → Stage Built
bound_it file t = in_turn (bounding file t) (λ maxt. giving (record { task = t; maxt = maxt }))

abbrev give_built : Task → ℕ → Stage Built
give_built t maxt = giving (record { task = t; maxt = maxt })

cuts_bound : (P : Refusal → Type 0) (file : List ℕ) (t : Task) → OfReads P → Cuts P (bound_it file t)
cuts_bound P file t of = cuts_turn P (bounding file t) (give_built t) (cuts_judging P (BoundGives file t) of) (λ maxt. cuts_giving {A = Built} P (record { task = t; maxt = maxt }))

cuts_built : (P : Refusal → Type 0) (file : List ℕ) → OfReads P → Cuts P (built file)
cuts_built P file of =
    cuts_turn P (source file) (bound_it file)
    (cuts_turn P (reading file 65536) (λ bytes. judging (SourceGives file bytes)) (cuts_reading P file 65536 of) (λ bytes. cuts_judging P (SourceGives file bytes) of)) (λ t. cuts_bound P file t of)

abbrev keeping : List Built → Built → Stage (List Built)
keeping done it = judging (λ r. r ≡ Ok (done ++ (it ∷ [])))

cuts_entry : (P : Refusal → Type 0) (done : List Built) (task : TaskEntry) → OfReads P → Cuts P (entry done task)
cuts_entry P done task of = cuts_turn P (built task.file) (keeping done) (cuts_built P task.file of) (λ it. cuts_judging P (λ r. r ≡ Ok (done ++ (it ∷ []))) of)

abbrev give_graph : Net → List Built → JobGraph → Stage GraphedProject
give_graph net built graph = giving (graphed_as net built graph)

cuts_jobbed : (P : Refusal → Type 0) (project : List ℕ) (built : List Built) (net : Net) → OfReads P → Cuts P (jobbed project built net)
cuts_jobbed P project built net of =
    cuts_turn P (judging (GraphGives project net (map bound_of_built built))) (give_graph net built) (cuts_judging P (GraphGives project net (map bound_of_built built)) of) (λ graph. cuts_giving P (graphed_as net built graph))

cuts_netted : (P : Refusal → Type 0) (project : List ℕ) (p : Project) (built : List Built) → OfReads P → Cuts P (netted project p built)
cuts_netted P project p built of =
    cuts_turn P (judging (NetGives project p (map ports_of_built built))) (jobbed project built) (cuts_judging P (NetGives project p (map ports_of_built built)) of) (λ net. cuts_jobbed P project built net of)

cuts_graphed : (P : Refusal → Type 0) (project : List ℕ) → OfReads P → Cuts P (graphed project)
cuts_graphed P project of =
    cuts_turn P (project_stage project) (tasked project)
    (cuts_turn P (reading project 1048576) (λ bytes. judging (ProjectGives project bytes)) (cuts_reading P project 1048576 of) (λ bytes. cuts_judging P (ProjectGives project bytes) of))
    (λ p. cuts_turn P (entries p.tasks) (netted project p) (cuts_all P entry [] p.tasks (λ done task. cuts_entry P done task of)) (λ built. cuts_netted P project p built of))

abbrev give_tables : GraphedProject → Tables → Stage PlannedProject
give_tables g tables = giving (with_tables g tables)

cuts_planned : (P : Refusal → Type 0) (project : List ℕ) (budget : ℕ) → OfReads P → Cuts P (planned project budget)
cuts_planned P project budget of =
    cuts_turn P (graphed project) (tabled budget) (cuts_graphed P project of)
    (λ g. cuts_turn P (judging (TablesGive g.net g.graph budget)) (give_tables g) (cuts_judging P (TablesGive g.net g.graph budget) of) (λ tables. cuts_giving P (with_tables g tables)))

-- so what holds of the refusals of memory and of reads holds where planning is cut off
pub planned_cut : (P : Refusal → Type 0) (project : List ℕ) (budget : ℕ) → P refusal.Memory → ((name : List ℕ) → P (refusal.ReadFault (Some name))) → ((name : List ℕ) → P (refusal.TooLong (Some name)))
    → (b n : Held) (e : Refusal) → (planned project budget).cut b n e → P e
planned_cut P project budget memory fault long = cuts_planned P project budget (record { memory = memory; fault = fault; long = long })
