-- What a source project means: its instances cycle by cycle along the edges of its net. No table, slot, clock or code.
use Rattle.std.specs.Prelude.{ℕ, ℤ, List, map, slice_get, Option, None, Some}
use Rattle.mc_tree.specs.Instance.{Outcome, Gives, Breaks, is_state, width_of, instance_of}
use Rattle.mc_tree.specs.Plain.{plain_task}
use Rattle.mc_tree.specs.declared.tree.Task.{Task}
use Rattle.net_run.specs.NetRun.{Execution, CycleRun, one_cycle, run_of, first_states}
use Rattle.processor.specs.Ends.{End, Halted, Broken}
use Rattle.processor.specs.Results.{Results}
use Rattle.project_source.specs.Project.{SourceProject}

-- how an instance ends
abbrev pub end_of : Outcome → End Results
end_of (Gives state outs) = Halted (state, outs)
end_of Breaks = Broken

abbrev pub instance_at : Option Task → (state ins : List ℤ) → End Results
instance_at None state ins = Broken
instance_at (Some t) state ins = end_of (instance_of (plain_task t) state ins)

-- each task's instance
abbrev pub source_execution : List Task → Execution
source_execution tasks task state ins = instance_at (slice_get tasks task) state ins

-- how many state words each task has
abbrev pub state_words : List Task → List ℕ
state_words tasks = map (λ (t : Task). width_of is_state t.cells) tasks

-- one cycle of so many ticks, from the states at its start and its line
abbrev pub source_cycle : SourceProject → (cycle : ℕ) → (states : List (List ℤ)) → (line : List ℤ) → CycleRun
source_cycle s cycle states line = one_cycle s.net cycle (source_execution s.tasks) states line

-- the cycles of some lines, one after another from states of 0; the first with a broken job is the last
abbrev pub source_run : SourceProject → (cycle : ℕ) → (lines : List (List ℤ)) → List CycleRun
source_run s cycle lines = run_of s.net cycle (source_execution s.tasks) (first_states (state_words s.tasks)) lines
