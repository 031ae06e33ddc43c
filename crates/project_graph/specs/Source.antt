-- The source project that files hold.
use Rattle.std.specs.Prelude.{◌≤◌, ℕ, List, length, map, Option}
use Rattle.graph.specs.declared.net.Net.{Net}
use Rattle.graph.specs.Sound.{IsSound}
use Rattle.mars_base.specs.declared.file.File.{File}
use Rattle.project_binder.specs.PortFaults.{IsBound}
use Rattle.project_graph.specs.Graphed.{ports_of_built}
use Rattle.project_reader.specs.Faults.{IsProjectOf}
use Rattle.project_reader.specs.declared.project.Project.{Project}
use Rattle.project_tasks.specs.Entries.{AreEntriesIn}
use Rattle.stages.specs.Files.{FileIs}
use Rattle.task_source.specs.Built.{Built}

-- The net and its tasks are the source project of a name: its file is a document without a fault, each task's file is the
-- source of that task, the net is that of the entries and the tasks' ports, and it is sound.
pub record IsSourceOf (files : Option (List File)) (project : List ℕ) (net : Net) (built : List Built) : Type 0 where
  pub bytes : List ℕ
  pub file_is : FileIs files project bytes
  pub short : length bytes ≤ 1048576
  pub entries : Project
  pub is_project : IsProjectOf bytes entries
  pub tasks : AreEntriesIn files entries.tasks built
  pub bound : IsBound entries (map ports_of_built built) net
  pub sound : IsSound net
