-- What holds of the bus over every list of enabled events, in every cycle, whatever is lost.
use Rattle.std.specs.Prelude.{◌≡◌, ℕ, ◌<◌, List, length, get_or, ℤ, pos}
use Rattle.mars_base.specs.declared.shape.Side.{Side}
use Rattle.script.specs.declared.script.Silence.{Silence}
use Rattle.bus.specs.SlotState.{IsSending, Whole}
use Rattle.graph.specs.JobGraph.{JobGraph}
use Rattle.graph.specs.NetGraph.{IsNetGraph}
use Rattle.graph.specs.declared.net.Net.{Net}
use Rattle.tables.specs.Valid.{AreValid}
use Rattle.tables.specs.declared.table.Tables.{Tables}
use Rattle.net_run.specs.NetRun.{Execution}
use Rattle.cluster_agreement.specs.Runs.{Event, steps, AllMay}
use Rattle.cluster_model.specs.Cluster.{first_state, IsEnabled, settled}
use Rattle.cluster_model.specs.Plan.{Plan}
use Rattle.cluster_model.specs.PlanOf.{plan_of}
use Rattle.cluster_model.specs.Silences.{falls}
use Rattle.cluster_model.specs.State.{Silent, member_of, bus_in, State}
use Rattle.cluster_slots.specs.Puts.{Puts}
use Rattle.cluster_slots.specs.Shape.{Shapes}

module _ (p : Plan) (silences : List Silence) where
  -- at most one slot is sending
  abbrev pub OneSends : State → Type 0
  OneSends s = (u : ℕ) (x : Side) (k : ℕ) (v : ℕ) (y : Side) (n : ℕ) → u < p.units → v < p.units → k < p.rounds → n < p.rounds
      → IsSending (bus_in s.members u x k) → IsSending (bus_in s.members v y n) → (u ≡ v) × (x ≡ y) × (k ≡ n)

  -- a slot that is whole has the words that its own replica put there at its own ticks of this cycle
  abbrev pub WholeIsOwn : State → List Event → Type 0
  WholeIsOwn s events = (u : ℕ) (x : Side) (k : ℕ) (words : List ℤ) → u < p.units → k < p.rounds → bus_in (steps p silences s events).members u x k ≡ Whole words
      → (length words ≡ p.words) × ((i : ℕ) → i < p.words → Puts p silences s events (steps p silences s events).cycle u x k i (get_or words i (pos 0)))

  -- a replica that fell silent is never enabled again
  abbrev pub StaysSilent : State → List Event → Type 0
  StaysSilent s events = (u : ℕ) (x : Side) → u < p.units → (member_of s.members u x).mode ≡ Silent
      → ((member_of (steps p silences s events).members u x).mode ≡ Silent) × (IsEnabled p (settled p (steps p silences s events)).members u x → ⊥)

-- what holds of the bus after every list of enabled events
pub record OwnWords (p : Plan) (silences : List Silence) (events : List Event) : Type 0 where
  -- clocks and slots are as they should be, and each word of a slot was put by its own replica at the word's tick
  pub shapes : Shapes p (λ u x t. falls silences u x (steps p silences (first_state p) events).cycle t)
      (Puts p silences (first_state p) events (steps p silences (first_state p) events).cycle) (steps p silences (first_state p) events).members
  pub one_sends : OneSends p silences (steps p silences (first_state p) events)
  pub whole_is_own : WholeIsOwn p silences (first_state p) events
  pub stays_silent : (later : List Event) → AllMay p silences (λ line. Unit {0}) (steps p silences (first_state p) events) later → StaysSilent p silences (steps p silences (first_state p) events) later

abbrev pub OwnWordsOfAll : Type 0
OwnWordsOfAll = (net : Net) (g : JobGraph) (t : Tables) (words : List ℕ) (exec : Execution) (cost : ℕ → List ℤ → List ℤ → ℕ) (silences : List Silence) → IsNetGraph net g → AreValid net g t
    → (events : List Event) → AllMay (plan_of net g t words exec cost) silences (λ line. Unit {0}) (first_state (plan_of net g t words exec cost)) events
    → OwnWords (plan_of net g t words exec cost) silences events
