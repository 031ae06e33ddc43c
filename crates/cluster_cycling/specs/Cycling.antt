-- A cluster's run, cycle by cycle: what each cycle writes and how it ends.
use Rattle.std.specs.Prelude.{ℕ, max, if◌then◌else◌, List, [], ◌++◌, length, slice_index, ℤ}
use Rattle.script.specs.declared.script.Pace.{Pace}
use Rattle.graph.specs.Net.{instances}
use Rattle.cluster_model.specs.Cluster.{settled, first_state}
use Rattle.cluster_model.specs.Plan.{Plan, listed}
use Rattle.cluster_model.specs.State.{Status, State}
use Rattle.cycle_events.specs.Events.{cycle_events, after_cycle}
use Rattle.cycle_runs.specs.Cycling.{Cycling, Ongoing}
use Rattle.cycle_runs.specs.declared.ended.CycleEnd.{CycleEnd}
use Rattle.cycle_runs.specs.declared.ended.CycleEnd.TheVariants.{Clean, Broken, Lost}
use Rattle.event_effects.specs.Effects.{taken_in}
use Rattle.run_texts.specs.RunText.{lost_text, broken_text, some_broke, outs_text, most, closing}
use Rattle.run_texts.specs.Setting.{Setting, some_lost}
use Rattle.run_agreement.specs.ClusterRun.{shown_in}
use Rattle.run_agreement.specs.Trace.{events_text}

module _ (s : Setting) (p : Plan) (paces : List Pace) where
  -- the number of the cycle that begins with a state
  abbrev pub cycle_of : State → ℕ
  cycle_of state = (settled p state).cycle

  -- what each job has come to in the cycle that begins with a state and has a line
  abbrev pub status_after : State → (line : List ℤ) → (job : ℕ) → Status
  status_after state line job = shown_in p (after_cycle p s.silences paces line state) job

  -- a lost unit comes before a broken job
  abbrev pub ended : State → (line : List ℤ) → CycleEnd
  ended state line =
      if some_lost s (cycle_of state) then Lost
      else if some_broke s (cycle_of state) (status_after state line) then Broken
      else Clean

  -- the lines at a cycle's end: its lost units, or its broken jobs, or else these
  abbrev pub end_text : State → (line : List ℤ) → (clean : List ℕ) → List ℕ
  end_text state line clean =
      if some_lost s (cycle_of state) then lost_text s (cycle_of state)
      else if some_broke s (cycle_of state) (status_after state line) then broken_text s (cycle_of state) (status_after state line)
      else clean

  -- the most cycles of each task, over the cycles up to this one
  abbrev pub seen_after : Ongoing → (line : List ℤ) → List ℕ
  seen_after o line = listed (length s.net.tasks)
      (λ task. max (slice_index o.seen task) (most s (λ job. taken_in p s.silences job o.state (cycle_events p s.silences paces line o.state)) task (instances s.net s.graph.cycle task)))

  abbrev pub next : Ongoing → (line : List ℤ) → Ongoing
  next o line = record { state = after_cycle p s.silences paces line o.state; seen = seen_after o line }

  -- run text: a cycle's outputs, and the closing lines
  abbrev pub run_cycling : Cycling Ongoing
  run_cycling = record {
    text = λ o line. end_text o.state line (outs_text s (cycle_of o.state) (status_after o.state line));
    ended = λ o line. ended o.state line;
    next = next;
    closing = λ o. closing s (slice_index o.seen);
  }

  -- a trace: the lines of all events, also of a cycle in which a unit is lost or a job is broken
  abbrev pub trace_cycling : Cycling Ongoing
  trace_cycling = record {
    text = λ o line. events_text s p paces o.state (cycle_events p s.silences paces line o.state) ++ end_text o.state line [];
    ended = λ o line. ended o.state line;
    next = next;
    closing = λ o. closing s (slice_index o.seen);
  }

-- before the first cycle
abbrev pub first_ongoing : Plan → (tasks : ℕ) → Ongoing
first_ongoing p tasks = record { state = first_state p; seen = listed tasks (λ task. 0) }
