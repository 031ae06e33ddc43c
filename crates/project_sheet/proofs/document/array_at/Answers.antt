use Rattle.std.proofs.Common.{◌∙◌, ap, sym, List, map}
use Rattle.toml.specs.View.{view}
use Rattle.toml.specs.declared.value.Value.{Value}
use Rattle.project_sheet.proofs.Lists.{list_of_items}
use Rattle.project_sheet.proofs.document.array_at.Goals as goal

pub returns-in-Some-as_array : goal.returns-in-Some-as_array
returns-in-Some-as_array c = rw (← c.in-Some.ensures, ← c.in-Some-as_array.ensures)
    (ap (λ (vs : List Value). map view vs) c.as_slice.ensures.value ∙ sym (list_of_items (map view c.in-Some-as_array.items.now.items)))
