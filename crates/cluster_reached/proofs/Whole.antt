-- What holds of each state that is reached.
use Rattle.std.proofs.Common.{◌≡◌, ℕ, ◌<◌, List, [], ℤ, Some, refl, sym, ◌∙◌, ap, subst}
use Rattle.mars_base.specs.declared.shape.Side.{Side}
use Rattle.script.specs.declared.script.Silence.{Silence}
use Rattle.graph.specs.JobGraph.{JobGraph}
use Rattle.graph.specs.declared.net.Net.{Net}
use Rattle.tables.specs.declared.table.Tables.{Tables}
use Rattle.net_run.specs.Alike.{IsLine}
use Rattle.net_run.specs.NetRun.{Execution}
use Rattle.cluster_agreement.proofs.Along.{agreement_holds}
use Rattle.cluster_agreement.specs.Agreement.{IsSet}
use Rattle.cluster_agreement.specs.Runs.{Event, steps, AllMay}
use Rattle.cluster_model.specs.Cluster.{first_state}
use Rattle.cluster_model.specs.Plan.{Plan}
use Rattle.cluster_model.specs.PlanOf.{plan_of}
use Rattle.cluster_model.specs.State.{State}
use Rattle.cluster_plan.proofs.Whole.{sound_plans}
use Rattle.cluster_slots.proofs.All.{own_words_hold}
use Rattle.cluster_slots.proofs.Shapes.{ShapesIn, shapes_more}
use Rattle.cluster_slots.specs.OwnWords.{OwnWords}
use Rattle.cluster_slots.specs.Puts.{Puts}
use Rattle.cluster_reached.proofs.Along.{any_line}
use Rattle.cluster_reached.proofs.Lists.{AllLists, reached_lists}
use Rattle.cluster_reached.proofs.Places.{Any, all_in_place, settled_in_place}
use Rattle.cluster_reached.specs.Laws.{OfReached, ReachedHolds}
use Rattle.cluster_reached.specs.Reached.{ComesAfter}

module _ (net : Net) (g : JobGraph) (t : Tables) (words : List ℕ) (exec : Execution) (cost : ℕ → List ℤ → List ℤ → ℕ) (silences : List Silence) (is : IsSet net g t words exec) where
  abbrev plan : Plan
  plan = plan_of net g t words exec cost

  abbrev after : List Event → State
  after events = steps plan silences (first_state plan) events

  own_of : (events : List Event) → AllMay plan silences (IsLine net g.cycle) (first_state plan) events → OwnWords plan silences events
  own_of events may = own_words_hold net g t words exec cost silences is.graph is.tables events (any_line plan silences (IsLine net g.cycle) events (first_state plan) may)

  shapes_of : (events : List Event) → AllMay plan silences (IsLine net g.cycle) (first_state plan) events → ShapesIn plan silences (after events).cycle Any (after events).members
  shapes_of events may = shapes_more plan silences (after events).cycle (Puts plan silences (first_state plan) events (after events).cycle) Any (λ u x k i w h. tt) (after events).members (own_of events may).shapes

  lists_of : (events : List Event) → AllMay plan silences (IsLine net g.cycle) (first_state plan) events → AllLists plan (after events)
  lists_of events may = reached_lists plan silences (IsLine net g.cycle) events may

  after_holds : (events : List Event) → AllMay plan silences (IsLine net g.cycle) (first_state plan) events → OfReached net g t words exec cost silences (after events)
  after_holds events may =
      let own = own_of events may in
      record {
        now = all_in_place plan silences (after events) (shapes_of events may) (lists_of events may);
        next = settled_in_place plan silences (sound_plans net g t words exec cost is.graph is.tables).wide (after events) (shapes_of events may) (lists_of events may);
        one_sends = own.one_sends;
        silent = λ u x l q. (own.stays_silent [] tt u x l q).1;
        own = λ others h. own_of others h.may;
        agrees = λ kept line e. agreement_holds net g t words exec cost silences is events may kept line e;
      }

pub reached_holds : ReachedHolds
reached_holds net g t words exec cost silences is s h =
    subst (OfReached net g t words exec cost silences) h.1.state_is (after_holds net g t words exec cost silences is h.0 h.1.may)
