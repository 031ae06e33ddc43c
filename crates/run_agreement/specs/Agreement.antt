-- That the text of a cluster's run is the text along its net.
use Rattle.std.specs.Prelude.{◌≡◌, ℕ, ◌↔◌, true, List}
use Rattle.lines.specs.Lines.{Lines, End, Bad, Line}
use Rattle.script.specs.Running.{IsLost}
use Rattle.script.specs.declared.script.Pace.{Pace}
use Rattle.script.specs.declared.script.Silence.{Silence}
use Rattle.graph.specs.JobGraph.{JobGraph}
use Rattle.graph.specs.declared.net.Net.{Net}
use Rattle.tables.specs.Named.{entry_at}
use Rattle.tables.specs.declared.table.Tables.{Tables}
use Rattle.net_run.specs.Alike.{IsLine}
use Rattle.net_run.specs.NetRun.{Execution}
use Rattle.cluster_agreement.specs.Agreement.{IsSet}
use Rattle.cluster_model.specs.PlanOf.{plan_of}
use Rattle.plant_run.specs.PlantRun.{Cost}
use Rattle.run_texts.specs.Along.{along_net}
use Rattle.run_texts.specs.RunText.{cycles_text, run_ending}
use Rattle.run_texts.specs.Setting.{Setting, is_lost}
use Rattle.run_agreement.specs.ClusterRun.{along_cluster}

-- each line has the sensor words of one cycle
abbrev pub AreLines : Net → (cycle : ℕ) → Lines → Type 0
AreLines net cycle End = Unit {0}
AreLines net cycle (Bad n) = Unit {0}
AreLines net cycle (Line line rest) = IsLine net cycle line × AreLines net cycle rest

abbrev pub setting : Net → JobGraph → Tables → (maxts : List ℕ) → List Silence → Setting
setting net g t maxts silences = record { net = net; graph = g; ends = λ job. (entry_at t job).end; maxts = maxts; silences = silences }

-- Over any lines and under any script, whatever is lost: the text of the cluster's cycles is that along the net, and both end alike.
abbrev pub RunAgreement : Type 0
RunAgreement = (net : Net) (g : JobGraph) (t : Tables) (words maxts : List ℕ) (exec : Execution) (cost : Cost) (silences : List Silence) (paces : List Pace) → IsSet net g t words exec
    → (lines : Lines) → AreLines net g.cycle lines
    → (cycles_text (setting net g t maxts silences) (along_cluster (plan_of net g t words exec cost) silences paces) lines
    ≡ cycles_text (setting net g t maxts silences) (along_net net g words exec cost) lines)
    × (run_ending (setting net g t maxts silences) (along_cluster (plan_of net g t words exec cost) silences paces) lines
    ≡ run_ending (setting net g t maxts silences) (along_net net g words exec cost) lines)

-- the lost units of a text are those that are lost
abbrev pub LostUnits : Type 0
LostUnits = (s : Setting) (cycle unit : ℕ) → (is_lost s cycle unit ≡ true) ↔ IsLost s.silences s.graph.cycle unit cycle
