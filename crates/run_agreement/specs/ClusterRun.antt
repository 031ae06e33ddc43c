-- The run of a cluster over lines: the events of each cycle in their order.
use Rattle.std.specs.Prelude.{ℕ, Bool, true, false, cond, List}
use Rattle.mars_base.specs.declared.shape.Side.TheVariants.{A, B}
use Rattle.script.specs.declared.script.Pace.{Pace}
use Rattle.script.specs.declared.script.Silence.{Silence}
use Rattle.cluster_model.specs.Cluster.{first_state}
use Rattle.cluster_model.specs.Plan.{Plan}
use Rattle.cluster_model.specs.State.{Status, Waiting, Busy, Gave, Broke, PassedOver, status_in, member_of, State}
use Rattle.cycle_events.specs.Events.{cycle_events, after_cycle}
use Rattle.event_effects.specs.Effects.{taken_in}
use Rattle.run_texts.specs.RunText.{Going}

abbrev pub is_told : Status → Bool
is_told Waiting = false
is_told (Busy state ins) = false
is_told (Gave outs) = true
is_told Broke = true
is_told PassedOver = true

-- what A's replica of its unit knows of a job where it has ended or skipped it, else what B's knows
abbrev pub shown_in : Plan → State → (job : ℕ) → Status
shown_in p s job =
    cond (is_told (status_in (member_of s.members (p.unit job) A).held job)) (status_in (member_of s.members (p.unit job) A).held job)
    (status_in (member_of s.members (p.unit job) B).held job)

-- the run of a cluster from its first state: what a cycle comes to is what is known after its events
abbrev pub along_cluster : Plan → List Silence → List Pace → Going State
along_cluster p silences paces = record {
  first = first_state p;
  status = λ s line job. shown_in p (after_cycle p silences paces line s) job;
  cycles = λ s line job. taken_in p silences job s (cycle_events p silences paces line s);
  next = λ s line. after_cycle p silences paces line s;
}
