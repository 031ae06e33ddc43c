use Rattle.std.proofs.Common.{◌∙◌, ap}
use Rattle.std.specs.Prelude.{position}
use Rattle.toml.specs.View.{view}
use Rattle.project_sheet.specs.Form.{breaks}
use Rattle.project_sheet.proofs.Firsts.{position_map}
use Rattle.project_sheet.proofs.document.first_in_array.Goals as goal

pub returns : goal.returns
returns c = c.first_breaking.ensures ∙ position_map view (breaks c.args.rule c.args.section) c.array_at.result.now
    ∙ ap (position (breaks c.args.rule c.args.section)) c.array_at.ensures
