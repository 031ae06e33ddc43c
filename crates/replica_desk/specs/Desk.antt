-- What a replica holds, as the model has it. This project's own.
use Rattle.std.specs.Prelude.{◌≡◌, ℕ, ◌+◌, ◌<◌, ◌≤◌, ⊤, List, [], get_or, length, map, slice_index, sum, ℤ, Option, None, Some}
use Rattle.graph.specs.JobGraph.{JobGraph}
use Rattle.graph.specs.Net.{ins_of}
use Rattle.graph.specs.declared.net.Net.{Net}
use Rattle.tables.specs.Named.{job_at, entry_at}
use Rattle.tables.specs.declared.table.Tables.{Tables}
use Rattle.job_book.specs.Known.{InHand, known_in, status_of}
use Rattle.carried_words.specs.Says.{IsBookOf}
use Rattle.job_inputs.specs.Look.{IsInboxOf}
use Rattle.tick_parts.specs.Takes.{AreWidths}
use Rattle.cluster_model.specs.State.{Held}
use Rattle.replica_desk.specs.declared.desk.Desk.{Desk}

-- the state from which the job in hand runs: its task's, which stays as it is while the job runs
abbrev pub state_in_hand : JobGraph → (states : List (List ℤ)) → Option ℕ → List ℤ
state_in_hand g states None = []
state_in_hand g states (Some job) = get_or states (job_at g job).task []

-- what the model's replica holds
abbrev pub held_in : JobGraph → Desk → Held
held_in g d = record {
  clock = d.clock;
  states = d.states;
  taken = d.inbox.words;
  jobs = map (status_of (state_in_hand g d.states d.hand) d.ins) d.book.jobs;
}

module _ (net : Net) (g : JobGraph) (t : Tables) (unit : ℕ) where
  -- a job of the unit is in hand: it has had so many ticks or more, and has ticks to come
  pub record IsInHand (ticks : ℕ) (d : Desk) (job : ℕ) : Type 0 where
    pub known : job < length g.jobs
    pub unit_is : (entry_at t job).unit ≡ unit
    pub begun : (entry_at t job).start + ticks ≤ d.clock
    pub going : d.clock < (entry_at t job).end
    pub in_hand : known_in d.book job ≡ InHand
    pub ins : length d.ins ≡ sum (ins_of net (job_at g job).task)

  abbrev pub HasInHand : (ticks : ℕ) → Desk → Option ℕ → Type 0
  HasInHand ticks d None = ⊤
  HasInHand ticks d (Some job) = IsInHand ticks d job

  -- what is held is all of it in order, and the job in hand, the only one, has had so many ticks or more
  pub record IsDesk (ticks : ℕ) (d : Desk) : Type 0 where
    pub clock : d.clock ≤ g.cycle
    pub book : IsBookOf net g d.book
    pub inbox : IsInboxOf net t d.inbox
    pub widths : AreWidths net t d.inbox.widths
    pub states : length d.states ≡ length net.tasks
    pub hand : HasInHand ticks d d.hand
    pub only : (k : ℕ) → known_in d.book k ≡ InHand → d.hand ≡ Some k

  -- the states of the unit's tasks have their words; the tasks have so many
  abbrev pub HasStates : (words : List ℕ) → (states : List (List ℤ)) → Type 0
  HasStates words states = (job : ℕ) → job < length g.jobs → (entry_at t job).unit ≡ unit
      → length (get_or states (job_at g job).task []) ≡ slice_index words (job_at g job).task
