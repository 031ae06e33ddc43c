use Rattle.std.proofs.Common.{◌≡◌, ◌∙◌, Some, None, ap, subst, arith}
use Rattle.std.specs.Prelude.{All}
use Rattle.toml.specs.View.{table_view}
use Rattle.project_sheet.specs.Sheet.{PlainSheet, plain_sheet, sheet_of, HasUtf8File}
use Rattle.project_reader.specs.ProjectOf.{project_of}
use Rattle.project_reader.specs.Faults.{Fails}
use Rattle.project_reader.proofs.Named.{files_named}
use Rattle.project_sheet.proofs.Numbered.{later, first_of_all, none_of_all}
use Rattle.project_sheet.proofs.Numbered.{first_is}
use Rattle.project_reader.proofs.Whole.{of_form, of_rows, of_relations, cluster_fine, none_above}
use Rattle.project_reader.proofs.read.check.Goals as goal

pub returns-in-Some : goal.returns-in-Some
returns-in-Some c =
    let F = Fails (table_view c.args.doc.now) in
    first_of_all F 5 c.in-Some.fault (first_is F 2 5 c.in_ok-fault.field-0 (Some c.in-Some.fault) c.in-Some.is (of_form (table_view c.args.doc.now) c.in_ok-fault.field-0 c.in_ok-fault.ensures))

pub returns-in-Some-2 : goal.returns-in-Some-2
returns-in-Some-2 c =
    let F = Fails (table_view c.args.doc.now) in
    let form = first_is F 2 5 c.in_ok-fault.field-0 None c.in-None.is (of_form (table_view c.args.doc.now) c.in_ok-fault.field-0 c.in_ok-fault.ensures) in
    let rows = of_rows (table_view c.args.doc.now) (plain_sheet c.in_ok-sheet.sheet) c.in_ok-fault-2.field-0 c.in_ok-sheet.ensures.rows c.in_ok-fault-2.ensures in
    first_of_all F 9 c.in-Some-2.fault (later F 2 5 9 (Some c.in-Some-2.fault) form (first_is F 5 9 c.in_ok-fault-2.field-0 (Some c.in-Some-2.fault) c.in-Some-2.is rows))

pub relation_fault-requires : goal.relation_fault-requires
relation_fault-requires c = cluster_fine (plain_sheet c.in_ok-sheet.sheet) c.in_ok-fault-2.field-0 c.in-None-2.is c.in_ok-fault-2.ensures

pub returns-in-Some-3 : goal.returns-in-Some-3
returns-in-Some-3 c =
    let F = Fails (table_view c.args.doc.now) in
    let form = first_is F 2 5 c.in_ok-fault.field-0 None c.in-None.is (of_form (table_view c.args.doc.now) c.in_ok-fault.field-0 c.in_ok-fault.ensures) in
    let rows = of_rows (table_view c.args.doc.now) (plain_sheet c.in_ok-sheet.sheet) c.in_ok-fault-2.field-0 c.in_ok-sheet.ensures.rows c.in_ok-fault-2.ensures in
    let relations = of_relations (table_view c.args.doc.now) (plain_sheet c.in_ok-sheet.sheet) c.in_ok-fault-3.field-0 c.in_ok-sheet.ensures.rows c.in_ok-fault-3.ensures in
    let early = later F 2 5 9 None form (first_is F 5 9 c.in_ok-fault-2.field-0 None c.in-None-2.is rows) in
    first_of_all F 17 c.in-Some-3.fault (later F 2 9 17 (Some c.in-Some-3.fault) early (first_is F 9 17 c.in_ok-fault-3.field-0 (Some c.in-Some-3.fault) c.in-Some-3.is relations))

pub returns : goal.returns
returns c =
    let F = Fails (table_view c.args.doc.now) in
    let form = first_is F 2 5 c.in_ok-fault.field-0 None c.in-None.is (of_form (table_view c.args.doc.now) c.in_ok-fault.field-0 c.in_ok-fault.ensures) in
    let rows = of_rows (table_view c.args.doc.now) (plain_sheet c.in_ok-sheet.sheet) c.in_ok-fault-2.field-0 c.in_ok-sheet.ensures.rows c.in_ok-fault-2.ensures in
    let relations = of_relations (table_view c.args.doc.now) (plain_sheet c.in_ok-sheet.sheet) c.in_ok-fault-3.field-0 c.in_ok-sheet.ensures.rows c.in_ok-fault-3.ensures in
    let early = later F 2 5 9 None form (first_is F 5 9 c.in_ok-fault-2.field-0 None c.in-None-2.is rows) in
    let is : c.in_ok-project_of.field-0 ≡ project_of (sheet_of (table_view c.args.doc.now)) = c.in_ok-project_of.ensures ∙ ap project_of c.in_ok-sheet.ensures.rows in
    (none_of_all F (later F 2 17 21 None (later F 2 9 17 None early (first_is F 9 17 c.in_ok-fault-3.field-0 None c.in-None-3.is relations)) (none_above (table_view c.args.doc.now))), is, files_named (sheet_of (table_view c.args.doc.now)) c.in_ok-project_of.field-0 is (subst (λ (s : PlainSheet). All HasUtf8File s.tasks) c.in_ok-sheet.ensures.rows c.in_ok-sheet.ensures.utf8))

pub project_of-requires : goal.project_of-requires
project_of-requires c = cluster_fine (plain_sheet c.in_ok-sheet.sheet) c.in_ok-fault-2.field-0 c.in-None-2.is c.in_ok-fault-2.ensures
