-- The text of a trace: a line for each effect of a cluster's events in their order, and the closing lines of run text.
use Rattle.std.specs.Prelude.{ℕ, suc, ◌++◌, codes, decimal, if◌then◌else◌, List, [], ◌∷◌, ℤ, Option, None, Some}
use Rattle.std.specs.Fmt.{signed_decimal}
use Rattle.std.specs.List.{flat_map}
use Rattle.mars_base.specs.declared.shape.Side.{Side}
use Rattle.mars_base.specs.declared.shape.Side.TheVariants.{A, B}
use Rattle.lines.specs.Lines.{Lines, End, Bad, Line}
use Rattle.script.specs.declared.script.Pace.{Pace}
use Rattle.graph.specs.Net.{outs_of}
use Rattle.tables.specs.Named.{job_at}
use Rattle.net_run.specs.Words.{port_words}
use Rattle.cluster_agreement.specs.Runs.{Event}
use Rattle.cluster_model.specs.Cluster.{settled, step, first_state, outs_in}
use Rattle.cluster_model.specs.Plan.{Plan}
use Rattle.cluster_model.specs.State.{member_of, State}
use Rattle.cluster_model.specs.declared.effect.Effect.{Effect}
use Rattle.cluster_model.specs.declared.effect.Effect.TheVariants as effect
use Rattle.cycle_events.specs.Events.{cycle_events, after_cycle}
use Rattle.event_effects.specs.Effects.{effects_of}
use Rattle.run_texts.specs.Lines.{out_line}
use Rattle.run_texts.specs.RunText.{lost_text, broken_text, some_broke, closed, run_ending, seen_in}
use Rattle.run_texts.specs.Setting.{Setting, actuator_name, actuator_task, actuator_port, name_of_task, job_for, tick_of, some_lost}
use Rattle.run_agreement.specs.ClusterRun.{shown_in, along_cluster}

abbrev pub side_text : Side → List ℕ
side_text A = codes "A"
side_text B = codes "B"

-- parts of a line, each behind a space
abbrev pub behind : List (List ℕ) → List ℕ
behind [] = []
behind (part ∷ parts) = codes " " ++ (part ++ behind parts)

abbrev pub line_of : (word : List ℕ) → (parts : List (List ℕ)) → List ℕ
line_of word parts = word ++ (behind parts ++ codes "\n")

abbrev pub unit_text : (unit : ℕ) → List ℕ
unit_text unit = codes "u" ++ decimal unit

-- an event of a replica in a cycle, at the tick of its clock; and what each job has given after it
module _ (s : Setting) (cycle tick unit : ℕ) (side : Side) (gave : (job : ℕ) → Option (List ℤ)) where
  -- a line of the replica at a tick
  abbrev pub own_line : (word : List ℕ) → (at : ℕ) → (parts : List (List ℕ)) → List ℕ
  own_line word at parts = line_of word (decimal cycle ∷ decimal at ∷ unit_text unit ∷ side_text side ∷ parts)

  -- a job by its task's name and its instance
  abbrev pub job_parts : (job : ℕ) → (more : List (List ℕ)) → List (List ℕ)
  job_parts job more = name_of_task s (job_at s.graph job).task ∷ decimal (job_at s.graph job).instance ∷ more

  abbrev pub output_line : (actuator instance : ℕ) → Option (List ℤ) → List ℕ
  output_line actuator instance None = []
  output_line actuator instance (Some outs) =
      out_line cycle (actuator_name s actuator) instance (tick_of s actuator instance) (port_words (outs_of s.net (actuator_task s actuator)) (actuator_port s actuator) outs)

  abbrev pub effect_line : Effect → List ℕ
  effect_line (effect.Take from x round) = own_line (codes "take") tick (unit_text from ∷ side_text x ∷ decimal round ∷ [])
  effect_line (effect.Miss from round) = own_line (codes "miss") tick (unit_text from ∷ decimal round ∷ [])
  effect_line (effect.Put word) = own_line (codes "put") tick (signed_decimal word ∷ [])
  effect_line (effect.Start job) = own_line (codes "start") tick (job_parts job [])
  effect_line (effect.Skip job) = own_line (codes "skip") tick (job_parts job [])
  effect_line (effect.End job cycles) = own_line (codes "end") (s.ends job) (job_parts job (decimal cycles ∷ []))
  effect_line (effect.Break job) = own_line (codes "break") (s.ends job) (job_parts job [])
  effect_line (effect.Out actuator instance) = output_line actuator instance (gave (job_for s actuator instance))
  effect_line effect.Fell = own_line (codes "silent") tick []
  effect_line effect.Cut = own_line (codes "cut") tick []

module _ (s : Setting) (p : Plan) (paces : List Pace) where
  -- the lines of an event
  abbrev pub event_text : State → Event → List ℕ
  event_text state e = flat_map
      (effect_line s (settled p state).cycle (member_of (settled p state).members e.unit e.side).held.clock e.unit e.side
      (outs_in p (step p s.silences e.line e.unit e.side state)))
      (effects_of p s.silences state e)

  abbrev pub events_text : State → List Event → List ℕ
  events_text state [] = []
  events_text state (e ∷ events) = event_text state e ++ events_text (step p s.silences e.line e.unit e.side state) events

  -- the lines of the cycles from one on: a cycle's events, also of one in which a unit is lost or a job is broken
  abbrev pub trace_from : (cycle : ℕ) → State → Lines → List ℕ
  trace_from cycle state End = []
  trace_from cycle state (Bad n) = []
  trace_from cycle state (Line line rest) =
      events_text state (cycle_events p s.silences paces line state)
      ++ (if some_lost s cycle then lost_text s cycle
      else if some_broke s cycle (λ job. shown_in p (after_cycle p s.silences paces line state) job) then broken_text s cycle (λ job. shown_in p (after_cycle p s.silences paces line state) job)
      else trace_from (suc cycle) (after_cycle p s.silences paces line state) rest)

  -- the whole text
  abbrev pub trace_text : Lines → List ℕ
  trace_text lines =
      trace_from 0 (first_state p) lines
      ++ closed s (run_ending s (along_cluster p s.silences paces) lines) (seen_in s (along_cluster p s.silences paces) lines)
