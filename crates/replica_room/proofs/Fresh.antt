-- What a replica holds at the start of a cycle.
use Rattle.std.proofs.Common.{◌≡◌, ℕ, ◌<◌, List, [], length, get_or, map, replicate, ℤ, pos, None, Some, Result, Ok, Err, Bool, true, false, cond, refl, sym, ◌∙◌, ap, arith}
use Rattle.std.specs.Prelude.{IfOk, nat_eq, slice_index, sum}
use Rattle.std.proofs.lemmas.Bool.{eq-eqb}
use Rattle.std.proofs.lemmas.List.{get_or-map, length-map, length-replicate}
use Rattle.std.proofs.lemmas.List.FromFn.{fill_by_all}
use Rattle.graph.specs.Cycle.{first_job}
use Rattle.graph.specs.JobGraph.{JobGraph}
use Rattle.graph.specs.Net.{outs_of, width_of}
use Rattle.graph.specs.declared.job.Job.{Job}
use Rattle.graph.specs.declared.net.Net.{Net}
use Rattle.tables.specs.Named.{no_job, no_message, entry_at, edge_at}
use Rattle.tables.specs.declared.table.Message.{Message}
use Rattle.tables.specs.declared.table.Tables.{Tables}
use Rattle.net_run.specs.NetRun.{Execution}
use Rattle.task_words.specs.States.{first_states}
use Rattle.job_book.specs.Known.{Book, Waiting, known_in, status_of}
use Rattle.carried_words.specs.Says.{IsBookOf}
use Rattle.replica_parts.specs.Inbox.{Taken, taken_at}
use Rattle.tick_parts.specs.Takes.{AreWidths}
use Rattle.tick_parts.proofs.Lists.{listed_at, length_listed}
use Rattle.cluster_model.specs.Cluster.{first_held_states}
use Rattle.cluster_model.specs.Plan.{listed}
use Rattle.cluster_model.specs.PlanOf.{plan_of}
use Rattle.cluster_model.specs.State as status
use Rattle.replica_room.specs.Fresh.{AreFreshJobs, AreFreshMessages, own_words}

-- a book whose jobs wait
pub fresh_jobs : (net : Net) (g : JobGraph) (book : Book) → IsBookOf net g book → ((job : ℕ) → known_in book job ≡ Waiting) → AreFreshJobs net g book
fresh_jobs net g book is wait = record {
  is_book = is;
  wait = wait;
  statuses = λ state ins. fill_by_all (λ job. status.Waiting) (map (status_of state ins) book.jobs) (length g.jobs) status.Waiting
      (length-map book.jobs (status_of state ins) ∙ is.jobs)
      (λ k low. get_or-map (status_of state ins) book.jobs k Waiting status.Waiting (omega (arith, low, is.jobs)) ∙ ap (status_of state ins) (wait k));
}

-- a book with these rooms
book_is : (net : Net) (g : JobGraph) (rooms : List ℕ) (book : Book) → rooms ≡ map (λ (job : Job). sum (outs_of net job.task)) g.jobs → book.rooms ≡ rooms → length book.jobs ≡ length rooms → IsBookOf net g book
book_is net g rooms book e same count = record {
  jobs = count ∙ ap length e ∙ length-map {B = ℕ} g.jobs (λ (job : Job). sum (outs_of net job.task));
  rooms = λ job low. ap (λ (ws : List ℕ). slice_index ws job) (same ∙ e) ∙ get_or-map (λ (job : Job). sum (outs_of net job.task)) g.jobs job no_job 0 low;
}

-- a new book of these rooms
pub fresh_book : {E : Type 0} (net : Net) (g : JobGraph) (rooms : List ℕ) (r : Result Book E) → rooms ≡ map (λ (job : Job). sum (outs_of net job.task)) g.jobs
    → IfOk r (λ b. b.rooms ≡ rooms) → IfOk r (λ b. length b.jobs ≡ length rooms) → IfOk r (λ b. (job : ℕ) → known_in b job ≡ Waiting) → IfOk r (AreFreshJobs net g)
fresh_book net g rooms (Ok book) e same count wait = fresh_jobs net g book (book_is net g rooms book e same count) wait
fresh_book net g rooms (Err fault) e same count wait = tt

-- a book with the rooms of another
pub book_stays : (net : Net) (g : JobGraph) (old new : Book) → new.rooms ≡ old.rooms → length new.jobs ≡ length old.jobs → IsBookOf net g old → IsBookOf net g new
book_stays net g old new rooms count is = record {
  jobs = count ∙ is.jobs;
  rooms = λ job low. ap (λ (ws : List ℕ). slice_index ws job) rooms ∙ is.rooms job low;
}

-- an inbox with nothing taken
pub fresh_messages : (net : Net) (t : Tables) (taken : Taken) → length taken.words ≡ length t.messages → AreWidths net t taken.widths → ((place : ℕ) → taken_at taken place ≡ None) → AreFreshMessages net t taken
fresh_messages net t taken count widths none = record {
  is_inbox = record {
    count = count;
    widths = λ place words low some. let clash : None ≡ Some words = sym (none place) ∙ some in cc;
  };
  widths = widths;
  words = fill_by_all (λ m. None) taken.words (length t.messages) None count (λ k low. none k);
}

-- widths of the messages' edges
widths_are : (net : Net) (t : Tables) (widths : List ℕ) → widths ≡ map (λ (message : Message). width_of net (edge_at net message.edge)) t.messages → AreWidths net t widths
widths_are net t widths e place low = ap (λ (ws : List ℕ). slice_index ws place) e ∙ get_or-map (λ (message : Message). width_of net (edge_at net message.edge)) t.messages place no_message 0 low

count_of_widths : (net : Net) (t : Tables) (widths : List ℕ) → widths ≡ map (λ (message : Message). width_of net (edge_at net message.edge)) t.messages → length widths ≡ length t.messages
count_of_widths net t widths e = ap length e ∙ length-map {B = ℕ} t.messages (λ (message : Message). width_of net (edge_at net message.edge))

-- a new inbox of these widths
pub fresh_inbox : {E : Type 0} (net : Net) (t : Tables) (widths : List ℕ) (r : Result Taken E) → widths ≡ map (λ (message : Message). width_of net (edge_at net message.edge)) t.messages
    → IfOk r (λ i. i.widths ≡ widths) → IfOk r (λ i. length i.words ≡ length widths) → IfOk r (λ i. (place : ℕ) → taken_at i place ≡ None) → IfOk r (AreFreshMessages net t)
fresh_inbox net t widths (Ok taken) e same count none =
    fresh_messages net t taken (count ∙ count_of_widths net t widths e) (widths_are net t taken.widths (same ∙ e)) none
fresh_inbox net t widths (Err fault) e same count none = tt

zeros_if : (b : Bool) (n : ℕ) → replicate (cond b n 0) (pos 0) ≡ cond b (replicate n (pos 0)) []
zeros_if true n = refl
zeros_if false n = refl

-- the state of a unit's own task has its words
pub own_fits : (net : Net) (g : JobGraph) (t : Tables) (words : List ℕ) (unit : ℕ) (exec : Execution) (cost : ℕ → List ℤ → List ℤ → ℕ) (states : List (List ℤ)) (task : ℕ)
    → states ≡ first_held_states (plan_of net g t words exec cost) unit → task < length net.tasks → (entry_at t (first_job net g.cycle task)).unit ≡ unit
    → length (get_or states task []) ≡ slice_index words task
own_fits net g t words unit exec cost states task e low own =
    let state : ℕ → List ℤ = λ k. cond (nat_eq (entry_at t (first_job net g.cycle k)).unit unit) (replicate (slice_index words k) (pos 0)) [] in
    ap (λ (ss : List (List ℤ)). length (get_or ss task [])) e
    ∙ ap (λ (s : List ℤ). length s) (listed_at (length net.tasks) state task [] low)
    ∙ ap (λ (b : Bool). length (cond b (replicate (slice_index words task) (pos 0)) [])) (eq-eqb (entry_at t (first_job net g.cycle task)).unit unit own)
    ∙ length-replicate (slice_index words task) (pos 0)

-- states with the words of the unit's own tasks
pub states_are : (net : Net) (g : JobGraph) (t : Tables) (words : List ℕ) (unit : ℕ) (exec : Execution) (cost : ℕ → List ℤ → List ℤ → ℕ) (counts : List ℕ) (states : List (List ℤ))
    → counts ≡ listed (length net.tasks) (own_words net g t words unit) → states ≡ first_states counts
    → states ≡ first_held_states (plan_of net g t words exec cost) unit
states_are net g t words unit exec cost counts states e s =
    let n = length net.tasks in
    let own = own_words net g t words unit in
    let zeros : ℕ → List ℤ = λ k. replicate k (pos 0) in
    s ∙ ap first_states e
    ∙ fill_by_all (λ task. cond (nat_eq (entry_at t (first_job net g.cycle task)).unit unit) (replicate (slice_index words task) (pos 0)) []) (map zeros (listed n own)) n []
    (length-map (listed n own) zeros ∙ length_listed n own)
    (λ k low. get_or-map zeros (listed n own) k 0 [] (omega (arith, low, length_listed n own))
    ∙ ap zeros (listed_at n own k 0 low)
    ∙ zeros_if (nat_eq (entry_at t (first_job net g.cycle k)).unit unit) (slice_index words k))

-- there is a state for each task
pub states_count : (net : Net) (g : JobGraph) (t : Tables) (words : List ℕ) (unit : ℕ) (counts : List ℕ) (states : List (List ℤ))
    → counts ≡ listed (length net.tasks) (own_words net g t words unit) → states ≡ first_states counts
    → length states ≡ length net.tasks
states_count net g t words unit counts states e s =
    let zeros : ℕ → List ℤ = λ k. replicate k (pos 0) in
    ap (λ (ss : List (List ℤ)). length ss) s ∙ length-map counts zeros ∙ ap (λ (ks : List ℕ). length ks) e ∙ length_listed (length net.tasks) (own_words net g t words unit)
