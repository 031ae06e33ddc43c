-- What is held at the start of a cycle.
use Rattle.std.proofs.Common.{◌≡◌, ℕ, List, length, ℤ, Option, None, Some, sym, ◌∙◌, ap, arith}
use Rattle.graph.specs.Cycle.{first_job}
use Rattle.graph.specs.JobGraph.{JobGraph}
use Rattle.graph.specs.NetGraph.{IsNetGraph}
use Rattle.graph.specs.declared.net.Net.{Net}
use Rattle.processor.specs.Ends.{Broken}
use Rattle.tables.specs.Named.{job_at, entry_at}
use Rattle.tables.specs.Valid.{AreValid}
use Rattle.tables.specs.declared.rule.TableRule.TheVariants as rule
use Rattle.tables.specs.declared.table.Tables.{Tables}
use Rattle.tables.proofs.FirstJobs.{has_first}
use Rattle.net_run.specs.NetRun.{Execution}
use Rattle.job_book.specs.Known.{Waiting, InHand}
use Rattle.cluster_model.specs.Cluster.{fresh_held, first_held_states}
use Rattle.cluster_model.specs.Plan.{listed}
use Rattle.cluster_model.specs.PlanOf.{plan_of}
use Rattle.cluster_model.specs.State.{Held, Status}
use Rattle.cluster_plan.proofs.Numbers.{is_of}
use Rattle.replica_room.specs.Fresh.{AreFreshJobs, AreFreshMessages}
use Rattle.replica_room.proofs.Fresh.{own_fits}
use Rattle.replica_desk.specs.declared.desk.Desk.{Desk}
use Rattle.replica_desk.specs.Desk.{IsDesk, HasStates, held_in}

-- a desk on which nothing was done in the cycle
pub record IsUnused (net : Net) (g : JobGraph) (t : Tables) (d : Desk) : Type 0 where
  pub clock : d.clock ≡ 0
  pub hand : d.hand ≡ None
  pub jobs : AreFreshJobs net g d.book
  pub messages : AreFreshMessages net t d.inbox
  pub states : length d.states ≡ length net.tasks

none_in_hand : (h : Option ℕ) (k : ℕ) → Waiting ≡ InHand → h ≡ Some k
none_in_hand h k e = cc

pub unused_desk : (net : Net) (g : JobGraph) (t : Tables) (unit ticks : ℕ) (d : Desk) → IsUnused net g t d → IsDesk net g t unit ticks d
unused_desk net g t unit ticks d u = record {
  clock = omega (arith, u.clock);
  book = u.jobs.is_book;
  inbox = u.messages.is_inbox;
  widths = u.messages.widths;
  states = u.states;
  hand = rw u.hand tt;
  only = λ k e. none_in_hand d.hand k (sym (u.jobs.wait k) ∙ e);
}

-- it is what the model's replica holds at the start of a cycle
pub unused_held : (net : Net) (g : JobGraph) (t : Tables) (words : List ℕ) (exec : Execution) (cost : ℕ → List ℤ → List ℤ → ℕ) (d : Desk) (states : List (List ℤ))
    → IsUnused net g t d → d.states ≡ states → held_in g d ≡ fresh_held (plan_of net g t words exec cost) states
unused_held net g t words exec cost d states u e =
    let jobs : List Status = listed (length g.jobs) (λ job. Rattle.cluster_model.specs.State.Waiting) in
    let taken : List (Option (List ℤ)) = listed (length t.messages) (λ m. None) in
    let mine : List Status = (held_in g d).jobs in
    let clock_is : held_in g d ≡ record { clock = 0; states = d.states; taken = d.inbox.words; jobs = mine } =
    ap (λ (n : ℕ). record { clock = n; states = d.states; taken = d.inbox.words; jobs = mine }) u.clock in
    let jobs_is : mine ≡ jobs = u.jobs.statuses (Rattle.replica_desk.specs.Desk.state_in_hand g d.states d.hand) d.ins in
    let jobs_too : record { clock = 0; states = d.states; taken = d.inbox.words; jobs = mine } ≡ record { clock = 0; states = d.states; taken = d.inbox.words; jobs = jobs } =
    ap (λ (xs : List Status). record { clock = 0; states = d.states; taken = d.inbox.words; jobs = xs }) jobs_is in
    let taken_too : record { clock = 0; states = d.states; taken = d.inbox.words; jobs = jobs } ≡ record { clock = 0; states = d.states; taken = taken; jobs = jobs } =
    ap (λ (xs : List (Option (List ℤ))). record { clock = 0; states = d.states; taken = xs; jobs = jobs }) u.messages.words in
    let states_too : record { clock = 0; states = d.states; taken = taken; jobs = jobs } ≡ record { clock = 0; states = states; taken = taken; jobs = jobs } =
    ap (λ (xs : List (List ℤ)). record { clock = 0; states = xs; taken = taken; jobs = jobs }) e in
    clock_is ∙ jobs_too ∙ taken_too ∙ states_too

-- the states of a unit's own tasks have their words
pub own_states : (net : Net) (g : JobGraph) (t : Tables) (words : List ℕ) (unit : ℕ) (states : List (List ℤ)) → IsNetGraph net g → AreValid net g t
    → ((exec : Execution) (cost : ℕ → List ℤ → List ℤ → ℕ) → states ≡ first_held_states (plan_of net g t words exec cost) unit) → HasStates net g t unit words states
own_states net g t words unit states n v h job low own =
    let none : Execution = λ task state ins. Broken in
    let free : ℕ → List ℤ → List ℤ → ℕ = λ task state ins. 0 in
    let first = has_first net g job n low in
    let home : (entry_at t (first_job net g.cycle (job_at g job).task)).unit ≡ (entry_at t job).unit = (v rule.Units).same (first_job net g.cycle (job_at g job).task) job first.inside low first.same in
    own_fits net g t words unit none free states (job_at g job).task (h none free) (is_of net g n job low).task (home ∙ own)
