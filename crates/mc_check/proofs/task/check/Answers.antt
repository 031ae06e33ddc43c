use Rattle.std.proofs.Common.{subst, sym, ◌∙◌}
use Rattle.mc_tree.specs.CheckedTask.{IsCheckedTask}
use Rattle.mc_tree.specs.RawPlain.{plain_task}
use Rattle.mc_rules.proofs.Whole.{checked}
use Rattle.mc_check.proofs.task.check.Goals as goal

pub returns-in-Ok-clause-checked : goal.returns-in-Ok-clause-checked
returns-in-Ok-clause-checked c = λ shape. subst IsCheckedTask (sym c.in-Ok.ensures) (checked (plain_task c.args.raw.now) shape (sym c.in-Ok-None.ensures ∙ c.in-Ok-None.field-0-is))
