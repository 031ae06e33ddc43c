use Rattle.std.proofs.Common.{◌≡◌, Option, None, sym, ap, ◌∙◌}
use Rattle.std.specs.Prelude.{slice_get, unwrap_or}
use Rattle.std.proofs.lemmas.Option.{unwrap_or-slice_get}
use Rattle.tables.specs.declared.table.Message.{Message}
use Rattle.tables.specs.Named.{no_message}
use Rattle.timetable.proofs.named.message_at.Goals as goal

pub returns-in-None : goal.returns-in-None
returns-in-None c =
    let none : slice_get c.args.tables.now.messages c.args.place ≡ None = sym c.in-None.ensures.value in
    sym (sym (unwrap_or-slice_get c.args.tables.now.messages c.args.place no_message) ∙ ap (λ (o : Option Message). unwrap_or o no_message) none)
