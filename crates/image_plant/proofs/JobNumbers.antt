-- A job's number, and its task and instance, say one another.
use Rattle.std.proofs.Common.{◌≡◌, ℕ, ◌<◌, ◌≤◌, Bool, true, false, List, length, All, Some, refl, sym, ◌∙◌, ap, arith}
use Rattle.std.specs.Prelude.{◌&&◌, nat_lt, if◌then◌else◌}
use Rattle.std.proofs.lemmas.Bool.{ltb-true, lt-ltb}
use Rattle.std.proofs.lemmas.Option.{slice_get-get_or}
use Rattle.std.proofs.lemmas.List.Elements.{All-from_get_or}
use Rattle.graph.specs.declared.net.Net.{Net}
use Rattle.graph.specs.declared.job.Job.{Job}
use Rattle.graph.specs.JobGraph.{JobGraph}
use Rattle.graph.specs.GraphOf.{IsGraphOf}
use Rattle.graph.specs.Jobs.{job_number, job_of}
use Rattle.graph.specs.Net.{instances}
use Rattle.graph.proofs.NetGraphs.{number_inside, number_is, job_is}
use Rattle.tables.specs.declared.table.JobEntry.{JobEntry}
use Rattle.tables.specs.declared.table.Tables.{Tables}
use Rattle.tables.specs.Named.{job_at, no_job, no_entry}
use Rattle.tables.specs.Rules.{HasEachJob}
use Rattle.image_tables.specs.declared.entries.JobPart.{JobPart}
use Rattle.image_plant.specs.Fields.{job_part}
use Rattle.image_plant.specs.Said.{number_in, entry_of}

-- a number that isn't 65,535 is a job's
record Inside (a b : Bool) (x : ℕ) : Type 0 where
  one : a ≡ true
  two : b ≡ true
  is : (if a && b then x else 65535) ≡ x

inside_test : (a b : Bool) (x : ℕ) → (if a && b then x else 65535) < 65535 → Inside a b x
inside_test true true x low = record { one = refl; two = refl; is = refl }
inside_test true false x low = absurd (omega (arith, low))
inside_test false b x low = absurd (omega (arith, low))

-- what a number below 65,535 names
pub record NamesJob (net : Net) (cycle task instance : ℕ) : Type 0 where
  pub task_there : task < length net.tasks
  pub instance_there : instance < instances net cycle task
  pub number : number_in net cycle task instance ≡ job_number net cycle task instance

pub names_job : (net : Net) (cycle task instance : ℕ) → number_in net cycle task instance < 65535 → NamesJob net cycle task instance
names_job net cycle task instance low =
    let i = inside_test (nat_lt task (length net.tasks)) (nat_lt instance (instances net cycle task)) (job_number net cycle task instance) low in
    record { task_there = ltb-true task (length net.tasks) i.one; instance_there = ltb-true instance (instances net cycle task) i.two; number = i.is }

both_true : (a b : Bool) (x : ℕ) → a ≡ true → b ≡ true → (if a && b then x else 65535) ≡ x
both_true true true x e f = refl
both_true true false x e f = absurd cc
both_true false b x e f = absurd cc

-- the number of a job that is there
pub number_there : (net : Net) (cycle task instance : ℕ) → task < length net.tasks → instance < instances net cycle task → number_in net cycle task instance ≡ job_number net cycle task instance
number_there net cycle task instance low inside =
    both_true (nat_lt task (length net.tasks)) (nat_lt instance (instances net cycle task)) (job_number net cycle task instance) (lt-ltb task (length net.tasks) low) (lt-ltb instance (instances net cycle task) inside)

-- the job with the number of a task's instance is this instance
job_there : (net : Net) (lengths : List ℕ) (g : JobGraph) → IsGraphOf net lengths g → (t i : ℕ) → t < length net.tasks → i < instances net g.cycle t → job_at g (job_number net g.cycle t i) ≡ job_of net lengths t i
job_there net lengths g h t i low inside =
    let there = number_inside net lengths g h t i low inside in
    let some : Some (job_at g (job_number net g.cycle t i)) ≡ Some (job_of net lengths t i) = sym (slice_get-get_or g.jobs (job_number net g.cycle t i) no_job there) ∙ job_is net lengths g h t i low inside in
    cc

-- the number of a job's task and instance is the job's
pub number_back : (net : Net) (lengths : List ℕ) (g : JobGraph) → IsGraphOf net lengths g → (number : ℕ) → number < length g.jobs → number_in net g.cycle (job_at g number).task (job_at g number).instance ≡ number
number_back net lengths g h number low =
    let n = number_is net lengths g h number low in
    let t = n.0 in
    let i = n.1 in
    let e : job_at g number ≡ job_of net lengths t i = ap (job_at g) n.4 ∙ job_there net lengths g h t i n.2 n.3 in
    ap (λ (j : Job). number_in net g.cycle j.task j.instance) e ∙ number_there net g.cycle t i n.2 n.3 ∙ sym n.4

abbrev with_job : JobEntry → ℕ → JobEntry
with_job e n = record { job = n; unit = e.unit; start = e.start; end = e.end }

abbrev with_names : JobPart → Job → JobPart
with_names p j = record { task = j.task; instance = j.instance; unit = p.unit; start = p.start; end = p.end }

-- entries of jobs that are there come back from their fields
pub entry_back : (net : Net) (lengths : List ℕ) (g : JobGraph) → IsGraphOf net lengths g → (e : JobEntry) → e.job < length g.jobs → entry_of net g.cycle (job_part g e) ≡ e
entry_back net lengths g h e low = ap (λ (n : ℕ). with_job e n) (number_back net lengths g h e.job low)

-- fields that name jobs come back from their entries
pub part_back : (net : Net) (lengths : List ℕ) (g : JobGraph) → IsGraphOf net lengths g → length g.jobs ≤ 512 → (p : JobPart) → (entry_of net g.cycle p).job < length g.jobs → job_part g (entry_of net g.cycle p) ≡ p
part_back net lengths g h few p low =
    let n = names_job net g.cycle p.task p.instance (omega (arith, low, few)) in
    let e : job_at g (number_in net g.cycle p.task p.instance) ≡ job_of net lengths p.task p.instance = ap (job_at g) n.number ∙ job_there net lengths g h p.task p.instance n.task_there n.instance_there in
    ap (λ (j : Job). with_names p j) e

-- under the first rule each entry is a job's
pub entries_there : (g : JobGraph) (t : Tables) → HasEachJob g t → All (λ (e : JobEntry). e.job < length g.jobs) t.jobs
entries_there g t h = All-from_get_or (λ (e : JobEntry). e.job < length g.jobs) t.jobs no_entry (λ i low. omega (arith, h.numbers i low, h.count, low))
