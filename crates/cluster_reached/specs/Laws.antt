-- What holds of the states that a cluster comes to.
use Rattle.std.specs.Prelude.{◌≡◌, ℕ, ◌<◌, List, ℤ, Some}
use Rattle.mars_base.specs.declared.shape.Side.{Side}
use Rattle.script.specs.declared.script.Silence.{Silence}
use Rattle.graph.specs.JobGraph.{JobGraph}
use Rattle.graph.specs.declared.net.Net.{Net}
use Rattle.tables.specs.declared.table.Tables.{Tables}
use Rattle.net_run.specs.Alike.{IsLine}
use Rattle.net_run.specs.NetRun.{Execution}
use Rattle.cluster_agreement.specs.Agreement.{IsSet, AgreesAlong}
use Rattle.cluster_agreement.specs.Runs.{Event, NoneLost}
use Rattle.cluster_model.specs.Cluster.{MayStep, step, settled, IsEnabled, first_state}
use Rattle.cluster_model.specs.PlanOf.{plan_of}
use Rattle.cluster_model.specs.State.{Silent, member_of, State}
use Rattle.cluster_slots.specs.OwnWords.{OneSends, OwnWords}
use Rattle.cluster_reached.specs.InPlace.{AreInPlace}
use Rattle.cluster_reached.specs.Reached.{ComesAfter, IsReached}

module _ (net : Net) (g : JobGraph) (t : Tables) (words : List ℕ) (exec : Execution) (cost : ℕ → List ℤ → List ℤ → ℕ) (silences : List Silence) where
  -- a state to which the cluster of a net and its tables comes, over lines that have the sensor words of a cycle
  abbrev pub IsReachedBy : State → Type 0
  IsReachedBy s = IsReached (plan_of net g t words exec cost) silences (IsLine net g.cycle) s

  -- what holds of such a state
  pub record OfReached (s : State) : Type 0 where
    -- all is in place, and so it is as the next event sees it, which takes a state between two cycles as the start of the later one
    pub now : AreInPlace (plan_of net g t words exec cost) s
    pub next : AreInPlace (plan_of net g t words exec cost) (settled (plan_of net g t words exec cost) s)
    -- at most one slot is sending
    pub one_sends : OneSends (plan_of net g t words exec cost) silences s
    -- a replica that fell silent has no event
    pub silent : (unit : ℕ) (side : Side) → unit < net.shape.units → (member_of s.members unit side).mode ≡ Silent
        → IsEnabled (plan_of net g t words exec cost) (settled (plan_of net g t words exec cost) s).members unit side → ⊥
    -- the slots have the words that their own replicas put, over each list of events that leads here
    pub own : (events : List Event) → ComesAfter (plan_of net g t words exec cost) silences (IsLine net g.cycle) s events → OwnWords (plan_of net g t words exec cost) silences events
    -- as long as no unit is lost, it agrees with the cycle along the graph
    pub agrees : NoneLost (plan_of net g t words exec cost) silences s.cycle → (line : List ℤ) → s.line ≡ Some line → AgreesAlong net g exec (plan_of net g t words exec cost) s line

-- the first state is reached, and each event that may come, with a line that fits, leads from a reached state to another
pub record ReachedLeads : Type 0 where
  pub first : (net : Net) (g : JobGraph) (t : Tables) (words : List ℕ) (exec : Execution) (cost : ℕ → List ℤ → List ℤ → ℕ) (silences : List Silence)
      → IsReachedBy net g t words exec cost silences (first_state (plan_of net g t words exec cost))
  pub next : (net : Net) (g : JobGraph) (t : Tables) (words : List ℕ) (exec : Execution) (cost : ℕ → List ℤ → List ℤ → ℕ) (silences : List Silence)
      → (s : State) (unit : ℕ) (side : Side) (line : List ℤ) → IsReachedBy net g t words exec cost silences s → MayStep (plan_of net g t words exec cost) s unit side line → IsLine net g.cycle line
      → IsReachedBy net g t words exec cost silences (step (plan_of net g t words exec cost) silences line unit side s)

abbrev pub ReachedHolds : Type 0
ReachedHolds = (net : Net) (g : JobGraph) (t : Tables) (words : List ℕ) (exec : Execution) (cost : ℕ → List ℤ → List ℤ → ℕ) (silences : List Silence) → IsSet net g t words exec
    → (s : State) → IsReachedBy net g t words exec cost silences s → OfReached net g t words exec cost silences s
