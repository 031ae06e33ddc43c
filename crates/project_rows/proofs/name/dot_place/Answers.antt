use Rattle.std.proofs.Common.{sym, ◌==◌}
use Rattle.project_sheet.proofs.Firsts.{position_none}
use Rattle.project_rows.proofs.name.dot_place.Goals as goal

pub returns-in-None-clause-place : goal.returns-in-None-clause-place
returns-in-None-clause-place c = position_none (λ b. b == 46) c.args.reference.now (sym c.in-None.ensures)
