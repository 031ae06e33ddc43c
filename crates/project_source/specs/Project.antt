-- Source projects: a net, and a task of the language for each of its tasks.
use Rattle.std.specs.Prelude.{◌≡◌, ℕ, Bool, List, length, map, filter, All, slice_get, Some}
use Rattle.graph.specs.Sound.{IsSound}
use Rattle.graph.specs.declared.net.Net.{Net}
use Rattle.graph.specs.declared.net.NetTask.{NetTask}
use Rattle.mars_base.specs.declared.word.Role.{Role}
use Rattle.mc_tree.specs.CheckedTask.{IsCheckedTask}
use Rattle.mc_tree.specs.Instance.{is_in, is_out}
use Rattle.mc_tree.specs.declared.tree.Cell.{Cell}
use Rattle.mc_tree.specs.declared.tree.Task.{Task}

-- a net, and the source of each of its tasks
pub record SourceProject : Type 0 where
  pub net : Net
  pub tasks : List Task

abbrev pub source_in : Net → List Task → SourceProject
source_in net tasks = record { net = net; tasks = tasks }

-- the widths of a task's cells of one role, in declared order
abbrev pub widths_of : (Role → Bool) → Task → List ℕ
widths_of p t = map (λ (c : Cell). c.width) (filter (λ (c : Cell). p c.role) t.cells)

-- the ports of a task of a net are those of its source
pub record HasPortsOf (entry : NetTask) (t : Task) : Type 0 where
  pub ins : entry.ins ≡ widths_of is_in t
  pub outs : entry.outs ≡ widths_of is_out t

-- the net is sound, and each of its tasks has a checked task with its ports
pub record IsSourceProject (s : SourceProject) : Type 0 where
  pub sound : IsSound s.net
  pub count : length s.tasks ≡ length s.net.tasks
  pub checked : All IsCheckedTask s.tasks
  pub ports : (task : ℕ) (entry : NetTask) (t : Task) → slice_get s.net.tasks task ≡ Some entry → slice_get s.tasks task ≡ Some t → HasPortsOf entry t
