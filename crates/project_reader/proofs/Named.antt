-- The files of a project are those of the rows.
use Rattle.std.proofs.Common.{◌≡◌, List, map, sym, subst}
use Rattle.std.specs.Prelude.{All}
use Rattle.std.proofs.lemmas.List.Elements.{All-map}
use Rattle.project_sheet.specs.declared.sheet.TaskRow.{TaskRow}
use Rattle.project_sheet.specs.Sheet.{PlainSheet, HasUtf8File}
use Rattle.project_reader.specs.declared.project.Project.{Project}
use Rattle.project_reader.specs.declared.project.TaskEntry.{TaskEntry}
use Rattle.project_reader.specs.ProjectOf.{task_entry, project_of, IsNamedInUtf8}

-- where each row's file is UTF-8, so is each task's
pub files_named : (s : PlainSheet) (project : Project) → project ≡ project_of s → All HasUtf8File s.tasks → All IsNamedInUtf8 project.tasks
files_named s project is all = subst (λ (p : Project). All IsNamedInUtf8 p.tasks) (sym is) (All-map IsNamedInUtf8 (task_entry s) s.tasks all)
