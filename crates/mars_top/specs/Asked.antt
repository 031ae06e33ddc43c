-- A command as its words give it.
use Rattle.std.specs.Prelude.{Option, None, Some}
use Rattle.mars_top.specs.Command.{Command, Build, Plan, Show, Task}
use Rattle.mars_top.specs.declared.asked.Asked.{Asked}
use Rattle.mars_top.specs.declared.asked.Asked.TheVariants as asked

abbrev pub plain_asked : Asked → Option Command
plain_asked asked.Nothing = None
plain_asked (asked.Task file) = Some (Task file.now)
plain_asked (asked.Plan project budget) = Some (Plan project.now budget)
plain_asked (asked.Show file) = Some (Show file.now)
plain_asked (asked.Build project budget image) = Some (Build project.now budget image.now)
