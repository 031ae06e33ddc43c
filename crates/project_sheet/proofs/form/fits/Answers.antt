use Rattle.std.proofs.Common.{◌∙◌, ap, is_some}
use Rattle.std.specs.List.{list_all}
use Rattle.toml.specs.Data.{as_integer, as_str}
use Rattle.toml.specs.View.{view}
use Rattle.toml.specs.declared.value.Value.{Value}
use Rattle.project_sheet.proofs.Lists.{items_pass}
use Rattle.project_sheet.proofs.form.fits.Goals as goal

pub returns-in-Some : goal.returns-in-Some
returns-in-Some c = rw (c.in-Numbers.is, ← c.in-Some.ensures)
    (c.all_numbers.ensures ∙ ap (list_all (λ (v : Value). is_some (as_integer (view v)))) c.as_slice.ensures.value ∙ items_pass (λ d. is_some (as_integer d)) _)

pub returns-in-Some-as_array : goal.returns-in-Some-as_array
returns-in-Some-as_array c = rw (c.in-Texts.is, ← c.in-Some-as_array.ensures)
    (c.all_texts.ensures ∙ ap (list_all (λ (v : Value). is_some (as_str (view v)))) c.as_slice-in-Some-as_array.ensures.value ∙ items_pass (λ d. is_some (as_str d)) _)
