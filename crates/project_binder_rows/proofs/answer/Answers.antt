use Rattle.project_rules.proofs.Keeping.{keeps_project}
use Rattle.project_binder_rows.proofs.answer.Goals as goal

pub bind-requires-clause-kept : goal.bind-requires-clause-kept
bind-requires-clause-kept c = keeps_project c.as_bytes.result.now c.in-Ok.project c.in-Ok.ensures.ok
