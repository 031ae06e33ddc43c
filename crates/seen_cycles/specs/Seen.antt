-- That the numbers of cycles which a cluster's run shows are those along its net.
use Rattle.std.specs.Prelude.{◌≡◌, ℕ, List}
use Rattle.lines.specs.Lines.{Lines}
use Rattle.script.specs.declared.script.Pace.{Pace}
use Rattle.script.specs.declared.script.Silence.{Silence}
use Rattle.graph.specs.JobGraph.{JobGraph}
use Rattle.graph.specs.declared.net.Net.{Net}
use Rattle.tables.specs.declared.table.Tables.{Tables}
use Rattle.net_run.specs.NetRun.{Execution}
use Rattle.cluster_agreement.specs.Agreement.{IsSet}
use Rattle.cluster_model.specs.PlanOf.{plan_of}
use Rattle.plant_run.specs.PlantRun.{Cost}
use Rattle.run_texts.specs.Along.{along_net}
use Rattle.run_texts.specs.RunText.{run_text}
use Rattle.run_agreement.specs.Agreement.{AreLines, setting}
use Rattle.run_agreement.specs.ClusterRun.{along_cluster}

-- Over any lines that fit and under any script the whole run text of a cluster is that along its net: the text of the cycles, and
-- at the end of the input the closing lines with the most cycles of each task.
abbrev pub WholeTexts : Type 0
WholeTexts = (net : Net) (g : JobGraph) (t : Tables) (words maxts : List ℕ) (exec : Execution) (cost : Cost) (silences : List Silence) (paces : List Pace) → IsSet net g t words exec
    → (lines : Lines) → AreLines net g.cycle lines
    → run_text (setting net g t maxts silences) (along_cluster (plan_of net g t words exec cost) silences paces) lines
    ≡ run_text (setting net g t maxts silences) (along_net net g words exec cost) lines
