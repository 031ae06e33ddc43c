use Rattle.std.proofs.Common.{◌∙◌, sym, ap}
use Rattle.mc_check.specs.View.{table}
use Rattle.mc_tree.specs.Symbols.{is_some}
use Rattle.mc_check.proofs.Tables.{seen, declare-taken, declare-seen}
use Rattle.mc_check.proofs.names.add.Goals as goal

pub returns-in-Some : goal.returns-in-Some
returns-in-Some g c = sym (declare-taken c.args.name.now c.args.what (table c.args.names.now) (ap is_some (sym c.in-Some.ensures)))

pub returns-in_ok-insert-in-None : goal.returns-in_ok-insert-in-None
returns-in_ok-insert-in-None g c = ap seen c.in_ok-insert-in-None.ensures.entries ∙ declare-seen c.args.name c.args.what c.args.names.now.entries (sym c.in-None.ensures)
