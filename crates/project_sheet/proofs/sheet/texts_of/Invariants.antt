use Rattle.std.proofs.Common.{◌≡◌, map, take}
use Rattle.toml.specs.View.{view}
use Rattle.project_sheet.specs.Sheet.{text_in}
use Rattle.project_sheet.proofs.sheet.texts_of.Given as goal

abbrev pub invariant-loop-item : goal.invariant-loop-item
invariant-loop-item l = l.texts.items ≡ map text_in (map view (take l.item-index l.items))
