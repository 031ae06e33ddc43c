use Rattle.std.proofs.Common.{◌∙◌, ap, List}
use Rattle.std.specs.List.{list_any}
use Rattle.toml.specs.View.{table_view}
use Rattle.project_sheet.specs.Form.{plain_key, PlainKey, has_unknown, lacks, misfits}
use Rattle.project_sheet.proofs.Lists.{any_map, unknown_view}
use Rattle.project_sheet.proofs.form.table_breaks.Goals as goal

pub returns-in-UnknownKey : goal.returns-in-UnknownKey
returns-in-UnknownKey c = rw c.in-UnknownKey.is
    (c.has_unknown.ensures ∙ unknown_view c.keys_of-keys.result.now c.args.table.now.entries ∙ ap (λ (keys : List PlainKey). has_unknown keys (table_view c.args.table.now)) c.keys_of-keys.ensures)

pub returns-in-MissingKey : goal.returns-in-MissingKey
returns-in-MissingKey c = rw c.in-MissingKey.is
    (c.lacks_any.ensures ∙ any_map plain_key (lacks (table_view c.args.table.now)) c.keys_of-keys.result.now ∙ ap (list_any (lacks (table_view c.args.table.now))) c.keys_of-keys.ensures)

pub returns-in-WrongType : goal.returns-in-WrongType
returns-in-WrongType c = rw c.in-WrongType.is
    (c.misfits_any.ensures ∙ any_map plain_key (misfits (table_view c.args.table.now)) c.keys_of-keys.result.now ∙ ap (list_any (misfits (table_view c.args.table.now))) c.keys_of-keys.ensures)
