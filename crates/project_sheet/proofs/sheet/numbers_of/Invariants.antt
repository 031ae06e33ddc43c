use Rattle.std.proofs.Common.{◌≡◌, map, take}
use Rattle.toml.specs.View.{view}
use Rattle.project_sheet.specs.Sheet.{number_in}
use Rattle.project_sheet.proofs.sheet.numbers_of.Given as goal

abbrev pub invariant-loop-item : goal.invariant-loop-item
invariant-loop-item l = l.numbers.items ≡ map number_in (map view (take l.item-index l.items))
