-- That a run cycle by cycle writes the text of a cluster's run.
use Rattle.std.specs.Prelude.{◌≡◌, ℕ, List, length}
use Rattle.lines.specs.Lines.{Lines}
use Rattle.script.specs.declared.script.Pace.{Pace}
use Rattle.script.specs.declared.script.Silence.{Silence}
use Rattle.graph.specs.JobGraph.{JobGraph}
use Rattle.graph.specs.declared.net.Net.{Net}
use Rattle.tables.specs.declared.table.Tables.{Tables}
use Rattle.net_run.specs.NetRun.{Execution}
use Rattle.cluster_agreement.specs.Agreement.{IsSet}
use Rattle.cluster_model.specs.Plan.{Plan}
use Rattle.cluster_model.specs.PlanOf.{plan_of}
use Rattle.cycle_runs.specs.Cycling.{text_from, ending_from}
use Rattle.plant_run.specs.PlantRun.{Cost}
use Rattle.run_texts.specs.RunText.{run_text, run_ending}
use Rattle.run_texts.specs.Setting.{Setting}
use Rattle.run_agreement.specs.Agreement.{setting}
use Rattle.run_agreement.specs.ClusterRun.{along_cluster}
use Rattle.run_agreement.specs.Trace.{trace_text}
use Rattle.cluster_cycling.specs.Cycling.{run_cycling, trace_cycling, first_ongoing}

-- both texts, and how they end
pub record IsTextOf (s : Setting) (p : Plan) (paces : List Pace) (lines : Lines) : Type 0 where
  pub run : text_from (run_cycling s p paces) (first_ongoing p (length s.net.tasks)) lines ≡ run_text s (along_cluster p s.silences paces) lines
  pub run_ends : ending_from (run_cycling s p paces) (first_ongoing p (length s.net.tasks)) lines ≡ run_ending s (along_cluster p s.silences paces) lines
  pub trace : text_from (trace_cycling s p paces) (first_ongoing p (length s.net.tasks)) lines ≡ trace_text s p paces lines
  pub trace_ends : ending_from (trace_cycling s p paces) (first_ongoing p (length s.net.tasks)) lines ≡ run_ending s (along_cluster p s.silences paces) lines

abbrev pub CyclingIsText : Type 0
CyclingIsText = (net : Net) (g : JobGraph) (t : Tables) (words maxts : List ℕ) (exec : Execution) (cost : Cost) (silences : List Silence) (paces : List Pace) → IsSet net g t words exec
    → (lines : Lines) → IsTextOf (setting net g t maxts silences) (plan_of net g t words exec cost) paces lines
