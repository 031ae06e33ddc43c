use Rattle.std.proofs.Common.{◌≡◌, Option, None, sym, ap, ◌∙◌}
use Rattle.std.specs.Prelude.{slice_get, unwrap_or}
use Rattle.std.proofs.lemmas.Option.{unwrap_or-slice_get}
use Rattle.graph.specs.declared.net.Edge.{Edge}
use Rattle.tables.specs.Named.{no_edge}
use Rattle.timetable.proofs.named.edge_at.Goals as goal

pub returns-in-None : goal.returns-in-None
returns-in-None c =
    let none : slice_get c.args.net.now.edges c.args.edge ≡ None = sym c.in-None.ensures.value in
    sym (sym (unwrap_or-slice_get c.args.net.now.edges c.args.edge no_edge) ∙ ap (λ (o : Option Edge). unwrap_or o no_edge) none)
