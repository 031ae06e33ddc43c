use Rattle.std.proofs.Common.{arith}
use Rattle.toml.specs.View.{table_view}
use Rattle.project_sheet.specs.declared.kind.Kind.TheVariants.{UnknownKey, MissingKey, WrongType}
use Rattle.project_sheet.specs.FormFails.{FormFails}
use Rattle.project_sheet.proofs.Numbered.{none_yet, none_more, found_in}
use Rattle.project_sheet.proofs.form_fault.form_fault.Goals as goal

pub returns-in-Some : goal.returns-in-Some
returns-in-Some c = found_in (FormFails (table_view c.args.doc.now)) 2 UnknownKey c.in-Some.place 5 (omega arith) (none_yet (FormFails (table_view c.args.doc.now)) 2) c.in_ok-place.field-0 c.in-Some.is c.in_ok-place.ensures

pub returns-in-Some-2 : goal.returns-in-Some-2
returns-in-Some-2 c = found_in (FormFails (table_view c.args.doc.now)) 2 MissingKey c.in-Some-2.place 5 (omega arith) (none_more (FormFails (table_view c.args.doc.now)) 2 UnknownKey (none_yet (FormFails (table_view c.args.doc.now)) 2) c.in_ok-place.field-0 c.in-None.is c.in_ok-place.ensures) c.in_ok-place-2.field-0 c.in-Some-2.is c.in_ok-place-2.ensures

pub returns-in-Some-3 : goal.returns-in-Some-3
returns-in-Some-3 c = found_in (FormFails (table_view c.args.doc.now)) 2 WrongType c.in-Some-3.place 5 (omega arith) (none_more (FormFails (table_view c.args.doc.now)) 2 MissingKey (none_more (FormFails (table_view c.args.doc.now)) 2 UnknownKey (none_yet (FormFails (table_view c.args.doc.now)) 2) c.in_ok-place.field-0 c.in-None.is c.in_ok-place.ensures) c.in_ok-place-2.field-0 c.in-None-2.is c.in_ok-place-2.ensures) c.in_ok-place-3.field-0 c.in-Some-3.is c.in_ok-place-3.ensures

pub returns : goal.returns
returns c = (none_more (FormFails (table_view c.args.doc.now)) 2 WrongType (none_more (FormFails (table_view c.args.doc.now)) 2 MissingKey (none_more (FormFails (table_view c.args.doc.now)) 2 UnknownKey (none_yet (FormFails (table_view c.args.doc.now)) 2) c.in_ok-place.field-0 c.in-None.is c.in_ok-place.ensures) c.in_ok-place-2.field-0 c.in-None-2.is c.in_ok-place-2.ensures) c.in_ok-place-3.field-0 c.in-None-3.is c.in_ok-place-3.ensures)
