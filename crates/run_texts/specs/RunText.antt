-- The text of a run over lines, for any way in which a run goes on: the source's along its net, a plant's, or a cluster's.
use Rattle.std.specs.Prelude.{ℕ, zero, suc, max, Bool, true, false, if◌then◌else◌, List, [], ◌++◌, length, slice_index, ℤ, Option, None, Some}
use Rattle.std.specs.List.{range_with_len, flat_map, list_any}
use Rattle.lines.specs.Lines.{Lines, End, Bad, Line}
use Rattle.graph.specs.Jobs.{job_number}
use Rattle.graph.specs.Net.{instances, outs_of}
use Rattle.tables.specs.Named.{job_at}
use Rattle.net_run.specs.Words.{port_words}
use Rattle.cluster_model.specs.State.{Status, Waiting, Busy, Gave, Broke, PassedOver, given}
use Rattle.run_texts.specs.Lines.{out_line, lost_line, broken_line, task_line}
use Rattle.run_texts.specs.Setting.{Setting, Output, actuator_name, actuator_task, actuator_port, name_of_task, job_for, outputs, is_lost, some_lost}

-- How a run goes on from cycle to cycle: what each job comes to in the cycle that begins with a state and has a line, the
-- cycles of its execution where it is done and else 0, and the state with which the next cycle begins.
pub record Going (S : Type 0) : Type 0 where
  pub first : S
  pub status : S → (line : List ℤ) → (job : ℕ) → Status
  pub cycles : S → (line : List ℤ) → (job : ℕ) → ℕ
  pub next : S → (line : List ℤ) → S

abbrev pub is_broke : Status → Bool
is_broke Waiting = false
is_broke (Busy state ins) = false
is_broke (Gave outs) = false
is_broke Broke = true
is_broke PassedOver = false

-- how a run ends: at the end of the lines, at a bad line, at a cycle in which a unit is lost, or at one with a broken job
pub data RunEnding : Type 0 where
  Finished : RunEnding
  BadLine : (n : ℕ) → RunEnding
  Lost : RunEnding
  Broken : RunEnding

module _ (s : Setting) where
  module _ (cycle : ℕ) where
    -- a line for each unit that is lost, by number
    abbrev pub lost_text : List ℕ
    lost_text = flat_map (λ unit. if is_lost s cycle unit then lost_line cycle unit else []) (range_with_len 0 s.net.shape.units)

    module _ (status : (job : ℕ) → Status) where
      -- a line for each broken job, by number
      abbrev pub broken_text : List ℕ
      broken_text = flat_map
          (λ job. if is_broke (status job) then broken_line cycle (name_of_task s (job_at s.graph job).task) (job_at s.graph job).instance else [])
          (range_with_len 0 (length s.graph.jobs))

      abbrev pub some_broke : Bool
      some_broke = list_any (λ job. is_broke (status job)) (range_with_len 0 (length s.graph.jobs))

      -- a line for each output whose job has given words, by tick, actuator and instance
      abbrev pub shown : Output → Option (List ℤ) → List ℕ
      shown o None = []
      shown o (Some outs) =
          out_line cycle (actuator_name s o.actuator) o.instance o.tick (port_words (outs_of s.net (actuator_task s o.actuator)) (actuator_port s o.actuator) outs)

      abbrev pub outs_text : List ℕ
      outs_text = flat_map (λ (o : Output). shown o (given (status (job_for s o.actuator o.instance)))) (outputs s)

  -- the greatest number of cycles of a task's first instances
  abbrev pub most : (cycles : ℕ → ℕ) → (task n : ℕ) → ℕ
  most cycles task zero = 0
  most cycles task (suc n) = max (most cycles task n) (cycles (job_number s.net s.graph.cycle task n))

  -- the closing lines: each task with its bound and the most cycles of an execution
  abbrev pub closing : (seen : ℕ → ℕ) → List ℕ
  closing seen = flat_map (λ task. task_line (name_of_task s task) (slice_index s.maxts task) (seen task)) (range_with_len 0 (length s.net.tasks))

  abbrev pub closed : RunEnding → (seen : ℕ → ℕ) → List ℕ
  closed Finished seen = closing seen
  closed (BadLine n) seen = []
  closed Lost seen = []
  closed Broken seen = []

  module _ {S : Type 0} (run : Going S) where
    -- the text of the cycles from a cycle and its state on: a bad line ends it with nothing, then a lost unit, then a broken job
    abbrev pub cycles_from : (cycle : ℕ) → S → Lines → List ℕ
    cycles_from cycle state End = []
    cycles_from cycle state (Bad n) = []
    cycles_from cycle state (Line line rest) =
        if some_lost s cycle then lost_text cycle
        else if some_broke cycle (run.status state line) then broken_text cycle (run.status state line)
        else outs_text cycle (run.status state line) ++ cycles_from (suc cycle) (run.next state line) rest

    -- how the run ends
    abbrev pub ending_from : (cycle : ℕ) → S → Lines → RunEnding
    ending_from cycle state End = Finished
    ending_from cycle state (Bad n) = BadLine n
    ending_from cycle state (Line line rest) =
        if some_lost s cycle then Lost
        else if some_broke cycle (run.status state line) then Broken
        else ending_from (suc cycle) (run.next state line) rest

    -- the most cycles of each task's executions, over all cycles
    abbrev pub seen_from : S → (seen : ℕ → ℕ) → Lines → ℕ → ℕ
    seen_from state seen End = seen
    seen_from state seen (Bad n) = seen
    seen_from state seen (Line line rest) =
        seen_from (run.next state line) (λ task. max (seen task) (most (run.cycles state line) task (instances s.net s.graph.cycle task))) rest

    abbrev pub cycles_text : Lines → List ℕ
    cycles_text lines = cycles_from 0 run.first lines

    abbrev pub run_ending : Lines → RunEnding
    run_ending lines = ending_from 0 run.first lines

    abbrev pub seen_in : Lines → ℕ → ℕ
    seen_in lines = seen_from run.first (λ task. 0) lines

    -- the whole text
    abbrev pub run_text : Lines → List ℕ
    run_text lines = cycles_text lines ++ closed (run_ending lines) (seen_in lines)
