use Rattle.std.proofs.Common.{◌≡◌, Option, None, sym, ap, ◌∙◌, get_or}
use Rattle.std.specs.Prelude.{slice_get, unwrap_or}
use Rattle.std.proofs.lemmas.Option.{unwrap_or-slice_get}
use Rattle.graph.specs.declared.net.Edge.{Edge}
use Rattle.tables.specs.Named.{no_edge}
use Rattle.net_problem.proofs.feeds.edge_at.Goals as goal

pub returns-in-None : goal.returns-in-None
returns-in-None c =
    let place = c.from-place.result in
    let none : slice_get c.args.net.now.edges place ≡ None = sym c.in-None.ensures.value in
    sym (sym (unwrap_or-slice_get c.args.net.now.edges place no_edge) ∙ ap (λ (o : Option Edge). unwrap_or o no_edge) none) ∙ ap (λ n. get_or c.args.net.now.edges n no_edge) c.from-place.ensures
