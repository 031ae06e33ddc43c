use Rattle.std.proofs.Common.{◌+◌, refl, arith}
use Rattle.placement.proofs.Looking.{row_step}
use Rattle.placement.proofs.fits.row.Goals as goal

pub loop-unit-preserved : goal.loop-unit-preserved
loop-unit-preserved c =
    let s = c.args.state.now in record {
      row = row_step s.problem s.placed.items c.args.job c.loop-unit.unit (c.loop-unit.unit + 1) c.loop-unit.row.items c.put_some.new.row.items refl c.loop-unit.invariant.row (rw c.fit_on-fit.ensures at c.put_some.ensures.items);
      few = omega (arith, c.put_some.ensures.few, c.loop-unit.invariant.few);
    }
