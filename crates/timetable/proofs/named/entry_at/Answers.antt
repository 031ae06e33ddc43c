use Rattle.std.proofs.Common.{◌≡◌, Option, None, sym, ap, ◌∙◌}
use Rattle.std.specs.Prelude.{slice_get, unwrap_or}
use Rattle.std.proofs.lemmas.Option.{unwrap_or-slice_get}
use Rattle.tables.specs.declared.table.JobEntry.{JobEntry}
use Rattle.tables.specs.Named.{no_entry}
use Rattle.timetable.proofs.named.entry_at.Goals as goal

pub returns-in-None : goal.returns-in-None
returns-in-None c =
    let none : slice_get c.args.tables.now.jobs c.args.job ≡ None = sym c.in-None.ensures.value in
    sym (sym (unwrap_or-slice_get c.args.tables.now.jobs c.args.job no_entry) ∙ ap (λ (o : Option JobEntry). unwrap_or o no_entry) none)
