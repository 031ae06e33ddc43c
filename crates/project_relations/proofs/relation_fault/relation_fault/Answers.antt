use Rattle.std.proofs.Common.{arith}
use Rattle.project_sheet.specs.declared.kind.Kind.TheVariants.{RoundTooShort, DeadlineAbovePeriod, UnknownUnit, UnknownTask, TaskNotInTransaction, TaskInTwoTransactions, EdgeBetweenTransactions, EdgesInCircle}
use Rattle.project_sheet.specs.Sheet.{plain_sheet}
use Rattle.project_relations.specs.RelationFails.{RelationFails}
use Rattle.project_sheet.proofs.Numbered.{none_yet, none_more, found_in}
use Rattle.project_relations.proofs.relation_fault.relation_fault.Goals as goal

pub returns-in-Some : goal.returns-in-Some
returns-in-Some c = found_in (RelationFails (plain_sheet c.args.sheet.now)) 9 RoundTooShort c.in-Some.place 17 (omega arith) (none_yet (RelationFails (plain_sheet c.args.sheet.now)) 9) c.in_ok-place.field-0 c.in-Some.is c.in_ok-place.ensures

pub returns-in-Some-2 : goal.returns-in-Some-2
returns-in-Some-2 c = found_in (RelationFails (plain_sheet c.args.sheet.now)) 9 DeadlineAbovePeriod c.in-Some-2.place 17 (omega arith) (none_more (RelationFails (plain_sheet c.args.sheet.now)) 9 RoundTooShort (none_yet (RelationFails (plain_sheet c.args.sheet.now)) 9) c.in_ok-place.field-0 c.in-None.is c.in_ok-place.ensures) c.in_ok-place-2.field-0 c.in-Some-2.is c.in_ok-place-2.ensures

pub returns-in-Some-3 : goal.returns-in-Some-3
returns-in-Some-3 c = found_in (RelationFails (plain_sheet c.args.sheet.now)) 9 UnknownUnit c.in-Some-3.place 17 (omega arith) (none_more (RelationFails (plain_sheet c.args.sheet.now)) 9 DeadlineAbovePeriod (none_more (RelationFails (plain_sheet c.args.sheet.now)) 9 RoundTooShort (none_yet (RelationFails (plain_sheet c.args.sheet.now)) 9) c.in_ok-place.field-0 c.in-None.is c.in_ok-place.ensures) c.in_ok-place-2.field-0 c.in-None-2.is c.in_ok-place-2.ensures) c.in_ok-place-3.field-0 c.in-Some-3.is c.in_ok-place-3.ensures

pub returns-in-Some-4 : goal.returns-in-Some-4
returns-in-Some-4 c = found_in (RelationFails (plain_sheet c.args.sheet.now)) 9 UnknownTask c.in-Some-4.place 17 (omega arith) (none_more (RelationFails (plain_sheet c.args.sheet.now)) 9 UnknownUnit (none_more (RelationFails (plain_sheet c.args.sheet.now)) 9 DeadlineAbovePeriod (none_more (RelationFails (plain_sheet c.args.sheet.now)) 9 RoundTooShort (none_yet (RelationFails (plain_sheet c.args.sheet.now)) 9) c.in_ok-place.field-0 c.in-None.is c.in_ok-place.ensures) c.in_ok-place-2.field-0 c.in-None-2.is c.in_ok-place-2.ensures) c.in_ok-place-3.field-0 c.in-None-3.is c.in_ok-place-3.ensures) c.in_ok-place-4.field-0 c.in-Some-4.is c.in_ok-place-4.ensures

pub returns-in-Some-5 : goal.returns-in-Some-5
returns-in-Some-5 c = found_in (RelationFails (plain_sheet c.args.sheet.now)) 9 TaskNotInTransaction c.in-Some-5.place 17 (omega arith) (none_more (RelationFails (plain_sheet c.args.sheet.now)) 9 UnknownTask (none_more (RelationFails (plain_sheet c.args.sheet.now)) 9 UnknownUnit (none_more (RelationFails (plain_sheet c.args.sheet.now)) 9 DeadlineAbovePeriod (none_more (RelationFails (plain_sheet c.args.sheet.now)) 9 RoundTooShort (none_yet (RelationFails (plain_sheet c.args.sheet.now)) 9) c.in_ok-place.field-0 c.in-None.is c.in_ok-place.ensures) c.in_ok-place-2.field-0 c.in-None-2.is c.in_ok-place-2.ensures) c.in_ok-place-3.field-0 c.in-None-3.is c.in_ok-place-3.ensures) c.in_ok-place-4.field-0 c.in-None-4.is c.in_ok-place-4.ensures) c.in_ok-place-5.field-0 c.in-Some-5.is c.in_ok-place-5.ensures

pub returns-in-Some-6 : goal.returns-in-Some-6
returns-in-Some-6 c = found_in (RelationFails (plain_sheet c.args.sheet.now)) 9 TaskInTwoTransactions c.in-Some-6.place 17 (omega arith) (none_more (RelationFails (plain_sheet c.args.sheet.now)) 9 TaskNotInTransaction (none_more (RelationFails (plain_sheet c.args.sheet.now)) 9 UnknownTask (none_more (RelationFails (plain_sheet c.args.sheet.now)) 9 UnknownUnit (none_more (RelationFails (plain_sheet c.args.sheet.now)) 9 DeadlineAbovePeriod (none_more (RelationFails (plain_sheet c.args.sheet.now)) 9 RoundTooShort (none_yet (RelationFails (plain_sheet c.args.sheet.now)) 9) c.in_ok-place.field-0 c.in-None.is c.in_ok-place.ensures) c.in_ok-place-2.field-0 c.in-None-2.is c.in_ok-place-2.ensures) c.in_ok-place-3.field-0 c.in-None-3.is c.in_ok-place-3.ensures) c.in_ok-place-4.field-0 c.in-None-4.is c.in_ok-place-4.ensures) c.in_ok-place-5.field-0 c.in-None-5.is c.in_ok-place-5.ensures) c.in_ok-place-6.field-0 c.in-Some-6.is c.in_ok-place-6.ensures

pub returns-in-Some-7 : goal.returns-in-Some-7
returns-in-Some-7 c = found_in (RelationFails (plain_sheet c.args.sheet.now)) 9 EdgeBetweenTransactions c.in-Some-7.place 17 (omega arith) (none_more (RelationFails (plain_sheet c.args.sheet.now)) 9 TaskInTwoTransactions (none_more (RelationFails (plain_sheet c.args.sheet.now)) 9 TaskNotInTransaction (none_more (RelationFails (plain_sheet c.args.sheet.now)) 9 UnknownTask (none_more (RelationFails (plain_sheet c.args.sheet.now)) 9 UnknownUnit (none_more (RelationFails (plain_sheet c.args.sheet.now)) 9 DeadlineAbovePeriod (none_more (RelationFails (plain_sheet c.args.sheet.now)) 9 RoundTooShort (none_yet (RelationFails (plain_sheet c.args.sheet.now)) 9) c.in_ok-place.field-0 c.in-None.is c.in_ok-place.ensures) c.in_ok-place-2.field-0 c.in-None-2.is c.in_ok-place-2.ensures) c.in_ok-place-3.field-0 c.in-None-3.is c.in_ok-place-3.ensures) c.in_ok-place-4.field-0 c.in-None-4.is c.in_ok-place-4.ensures) c.in_ok-place-5.field-0 c.in-None-5.is c.in_ok-place-5.ensures) c.in_ok-place-6.field-0 c.in-None-6.is c.in_ok-place-6.ensures) c.in_ok-place-7.field-0 c.in-Some-7.is c.in_ok-place-7.ensures

pub returns-in-Some-8 : goal.returns-in-Some-8
returns-in-Some-8 c = found_in (RelationFails (plain_sheet c.args.sheet.now)) 9 EdgesInCircle c.in-Some-8.place 17 (omega arith) (none_more (RelationFails (plain_sheet c.args.sheet.now)) 9 EdgeBetweenTransactions (none_more (RelationFails (plain_sheet c.args.sheet.now)) 9 TaskInTwoTransactions (none_more (RelationFails (plain_sheet c.args.sheet.now)) 9 TaskNotInTransaction (none_more (RelationFails (plain_sheet c.args.sheet.now)) 9 UnknownTask (none_more (RelationFails (plain_sheet c.args.sheet.now)) 9 UnknownUnit (none_more (RelationFails (plain_sheet c.args.sheet.now)) 9 DeadlineAbovePeriod (none_more (RelationFails (plain_sheet c.args.sheet.now)) 9 RoundTooShort (none_yet (RelationFails (plain_sheet c.args.sheet.now)) 9) c.in_ok-place.field-0 c.in-None.is c.in_ok-place.ensures) c.in_ok-place-2.field-0 c.in-None-2.is c.in_ok-place-2.ensures) c.in_ok-place-3.field-0 c.in-None-3.is c.in_ok-place-3.ensures) c.in_ok-place-4.field-0 c.in-None-4.is c.in_ok-place-4.ensures) c.in_ok-place-5.field-0 c.in-None-5.is c.in_ok-place-5.ensures) c.in_ok-place-6.field-0 c.in-None-6.is c.in_ok-place-6.ensures) c.in_ok-place-7.field-0 c.in-None-7.is c.in_ok-place-7.ensures) c.in_ok-place-8.field-0 c.in-Some-8.is c.in_ok-place-8.ensures

pub returns : goal.returns
returns c = (none_more (RelationFails (plain_sheet c.args.sheet.now)) 9 EdgesInCircle (none_more (RelationFails (plain_sheet c.args.sheet.now)) 9 EdgeBetweenTransactions (none_more (RelationFails (plain_sheet c.args.sheet.now)) 9 TaskInTwoTransactions (none_more (RelationFails (plain_sheet c.args.sheet.now)) 9 TaskNotInTransaction (none_more (RelationFails (plain_sheet c.args.sheet.now)) 9 UnknownTask (none_more (RelationFails (plain_sheet c.args.sheet.now)) 9 UnknownUnit (none_more (RelationFails (plain_sheet c.args.sheet.now)) 9 DeadlineAbovePeriod (none_more (RelationFails (plain_sheet c.args.sheet.now)) 9 RoundTooShort (none_yet (RelationFails (plain_sheet c.args.sheet.now)) 9) c.in_ok-place.field-0 c.in-None.is c.in_ok-place.ensures) c.in_ok-place-2.field-0 c.in-None-2.is c.in_ok-place-2.ensures) c.in_ok-place-3.field-0 c.in-None-3.is c.in_ok-place-3.ensures) c.in_ok-place-4.field-0 c.in-None-4.is c.in_ok-place-4.ensures) c.in_ok-place-5.field-0 c.in-None-5.is c.in_ok-place-5.ensures) c.in_ok-place-6.field-0 c.in-None-6.is c.in_ok-place-6.ensures) c.in_ok-place-7.field-0 c.in-None-7.is c.in_ok-place-7.ensures) c.in_ok-place-8.field-0 c.in-None-8.is c.in_ok-place-8.ensures)
