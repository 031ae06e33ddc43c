use Rattle.std.proofs.Common.{ap, arith}
use Rattle.graph.specs.NetGraph.{IsNetGraph}
use Rattle.plant.specs.Lengths.{lengths_of}
use Rattle.tdma.specs.Layout.{Layout, cycle_ticks}
use Rattle.tick_parts.proofs.OwnSlots.{whole_rounds}
use Rattle.replica.proofs.running.fall.Goals as goal

pub fall_silent-requires-clause-tick : goal.fall_silent-requires-clause-tick
fall_silent-requires-clause-tick g c =
    let plant = c.args.plant.now in
    let n : IsNetGraph plant.net plant.graph = record { lengths = lengths_of plant.maxts plant.net.shape.cycles_per_tick; is = c.requires.in_order.graph } in
    omega (arith, c.requires.tick, whole_rounds plant.net plant.graph n, ap (λ (l : Layout). cycle_ticks l) c.requires.duties.round)
