use Rattle.std.proofs.Common.{◌≡◌, ◌↔◌, IsTrue, Any, List, ◌∙◌, subst}
use Rattle.cluster_clocks.specs.declared.clock.Clock.{Clock}
use Rattle.cluster.specs.Clocks.{RunsOn}
use Rattle.cluster.specs.Stands.{seats_of}
use Rattle.cluster.proofs.Noted.{seen_clocks}
use Rattle.cluster.proofs.enabled.runs_on.Goals as goal

pub returns : goal.returns
returns g c =
    let cluster = c.args.cluster.now in
    subst (λ (cs : List Clock). IsTrue c.some_run_on.result ↔ Any (RunsOn c.args.plant.now.graph.cycle) cs)
    (c.deref.ensures.value ∙ c.requires.stands.clocks ∙ seen_clocks cluster.bus (seats_of g.S.Seat.seat cluster))
    (subst (λ k. IsTrue c.some_run_on.result ↔ Any (RunsOn k) c.deref.result.now) c.cycle.ensures c.some_run_on.ensures)
