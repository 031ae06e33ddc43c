use Rattle.std.proofs.Common.{arith}
use Rattle.project_sheet.specs.declared.kind.Kind.TheVariants.{OutOfRange, BadName, TwiceNamed, TooMany}
use Rattle.project_sheet.specs.Sheet.{plain_sheet}
use Rattle.project_rows.specs.RowFails.{RowFails}
use Rattle.project_sheet.proofs.Numbered.{none_yet, none_more, found_in}
use Rattle.project_rows.proofs.row_fault.row_fault.Goals as goal

pub returns-in-Some : goal.returns-in-Some
returns-in-Some c = found_in (RowFails (plain_sheet c.args.sheet.now)) 5 OutOfRange c.in-Some.place 9 (omega arith) (none_yet (RowFails (plain_sheet c.args.sheet.now)) 5) c.in_ok-place.field-0 c.in-Some.is c.in_ok-place.ensures

pub returns-in-Some-2 : goal.returns-in-Some-2
returns-in-Some-2 c = found_in (RowFails (plain_sheet c.args.sheet.now)) 5 BadName c.in-Some-2.place 9 (omega arith) (none_more (RowFails (plain_sheet c.args.sheet.now)) 5 OutOfRange (none_yet (RowFails (plain_sheet c.args.sheet.now)) 5) c.in_ok-place.field-0 c.in-None.is c.in_ok-place.ensures) c.in_ok-place-2.field-0 c.in-Some-2.is c.in_ok-place-2.ensures

pub returns-in-Some-3 : goal.returns-in-Some-3
returns-in-Some-3 c = found_in (RowFails (plain_sheet c.args.sheet.now)) 5 TwiceNamed c.in-Some-3.place 9 (omega arith) (none_more (RowFails (plain_sheet c.args.sheet.now)) 5 BadName (none_more (RowFails (plain_sheet c.args.sheet.now)) 5 OutOfRange (none_yet (RowFails (plain_sheet c.args.sheet.now)) 5) c.in_ok-place.field-0 c.in-None.is c.in_ok-place.ensures) c.in_ok-place-2.field-0 c.in-None-2.is c.in_ok-place-2.ensures) c.in_ok-place-3.field-0 c.in-Some-3.is c.in_ok-place-3.ensures

pub returns-in-Some-4 : goal.returns-in-Some-4
returns-in-Some-4 c = found_in (RowFails (plain_sheet c.args.sheet.now)) 5 TooMany c.in-Some-4.place 9 (omega arith) (none_more (RowFails (plain_sheet c.args.sheet.now)) 5 TwiceNamed (none_more (RowFails (plain_sheet c.args.sheet.now)) 5 BadName (none_more (RowFails (plain_sheet c.args.sheet.now)) 5 OutOfRange (none_yet (RowFails (plain_sheet c.args.sheet.now)) 5) c.in_ok-place.field-0 c.in-None.is c.in_ok-place.ensures) c.in_ok-place-2.field-0 c.in-None-2.is c.in_ok-place-2.ensures) c.in_ok-place-3.field-0 c.in-None-3.is c.in_ok-place-3.ensures) c.in_ok-place-4.field-0 c.in-Some-4.is c.in_ok-place-4.ensures

pub returns : goal.returns
returns c = (none_more (RowFails (plain_sheet c.args.sheet.now)) 5 TooMany (none_more (RowFails (plain_sheet c.args.sheet.now)) 5 TwiceNamed (none_more (RowFails (plain_sheet c.args.sheet.now)) 5 BadName (none_more (RowFails (plain_sheet c.args.sheet.now)) 5 OutOfRange (none_yet (RowFails (plain_sheet c.args.sheet.now)) 5) c.in_ok-place.field-0 c.in-None.is c.in_ok-place.ensures) c.in_ok-place-2.field-0 c.in-None-2.is c.in_ok-place-2.ensures) c.in_ok-place-3.field-0 c.in-None-3.is c.in_ok-place-3.ensures) c.in_ok-place-4.field-0 c.in-None-4.is c.in_ok-place-4.ensures)
