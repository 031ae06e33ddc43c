use Rattle.std.proofs.Common.{◌≡◌, Option, None, get_or, sym, ap, ◌∙◌}
use Rattle.std.specs.Prelude.{slice_get, unwrap_or}
use Rattle.std.proofs.lemmas.Option.{unwrap_or-slice_get}
use Rattle.tables.specs.declared.table.JobEntry.{JobEntry}
use Rattle.tables.specs.Named.{no_entry, entry_at}
use Rattle.tables_text.proofs.text.unit_of.Goals as goal

pub returns-in-None : goal.returns-in-None
returns-in-None c =
    let jobs = c.args.tables.now.jobs in
    let none : slice_get jobs c.from.result ≡ None = sym c.in-None.ensures.value in
    let e : get_or jobs c.from.result no_entry ≡ no_entry = sym (unwrap_or-slice_get jobs c.from.result no_entry) ∙ ap (λ (o : Option JobEntry). unwrap_or o no_entry) none in
    sym (ap (λ (x : JobEntry). x.unit) (ap (entry_at c.args.tables.now) (sym (c.from.ensures ∙ c.first_job.ensures.first c.args.net.now c.requires.net)) ∙ e))
