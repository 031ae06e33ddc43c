use Rattle.std.proofs.Common.{ap, arith}
use Rattle.graph.specs.Jobs.{job_number}
use Rattle.tdma.specs.Layout.{Layout}
use Rattle.tables.specs.Named.{message_at, edge_at}
use Rattle.tables.proofs.FewUnits.{few_units}
use Rattle.tables.proofs.validity.message_rules.Goals as goal

pub gets_inputs-requires-clause-units : goal.gets_inputs-requires-clause-units
gets_inputs-requires-clause-units c = few_units c.args.net.now c.args.graph.now c.args.tables.now c.requires.net c.requires.jobs c.requires.units

pub fits_frames-requires-clause-unit : goal.fits_frames-requires-clause-unit
fits_frames-requires-clause-unit c = λ i low.
    let inputs = c.gets_inputs.ensures.0 c.if-not-gets_inputs.false in
    let m = message_at c.args.tables.now i in
    let few = few_units c.args.net.now c.args.graph.now c.args.tables.now c.requires.net c.requires.jobs c.requires.units
    (job_number c.args.net.now c.args.graph.now.cycle (edge_at c.args.net.now m.edge).from_task m.instance) in
    let units = ap (λ (l : Layout). l.units) c.new-round.ensures.layout in
    omega (arith, (inputs.in_time i low).unit, few, units)
