-- What `check` answers.
use Rattle.std.specs.Prelude.{◌≡◌, Option, Some}
use Rattle.mc_check.specs.declared.task.CheckFault.{CheckFault}
use Rattle.mc_check.specs.declared.task.CheckFault.TheVariants.{Bad, Memory}
use Rattle.mc_tree.specs.Raw.{Task as Tree}
use Rattle.mc_tree.specs.TaskSites.{first_fault}

abbrev pub IsFault : Tree → CheckFault → Type 0
IsFault t (Bad kind span) = first_fault t ≡ Some (record { kind = kind; span = span })
IsFault t Memory = Unit {0}
