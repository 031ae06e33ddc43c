use Rattle.std.proofs.Common.{◌≡◌, ℤ, List, length, ◌∙◌}
use Rattle.std.proofs.lemmas.Result.{IfOk-weaker}
use Rattle.cluster_model.specs.Cluster.{first_held_states}
use Rattle.cluster_model.specs.PlanOf.{plan_of}
use Rattle.task_words.specs.States.{first_states}
use Rattle.replica_room.proofs.Fresh.{states_are, states_count}
use Rattle.replica_room.proofs.states.states_of.Goals as goal

pub returns-clause-states : goal.returns-clause-states
returns-clause-states c = λ exec cost.
    IfOk-weaker c.new.result (λ (s : List (List ℤ)). s ≡ first_states c.as_slice.result.now)
    (λ (s : List (List ℤ)). s ≡ first_held_states (plan_of c.args.net.now c.args.graph.now c.args.tables.now c.args.words.now exec cost) c.args.unit)
    (λ s e. states_are c.args.net.now c.args.graph.now c.args.tables.now c.args.words.now c.args.unit exec cost c.as_slice.result.now s (c.as_slice.ensures.value ∙ c.in_ok-counts.ensures) e)
    c.new.ensures

pub returns-clause-count : goal.returns-clause-count
returns-clause-count c =
    IfOk-weaker c.new.result (λ (s : List (List ℤ)). s ≡ first_states c.as_slice.result.now) (λ (s : List (List ℤ)). length s ≡ length c.args.net.now.tasks)
    (λ s e. states_count c.args.net.now c.args.graph.now c.args.tables.now c.args.words.now c.args.unit c.as_slice.result.now s (c.as_slice.ensures.value ∙ c.in_ok-counts.ensures) e)
    c.new.ensures
