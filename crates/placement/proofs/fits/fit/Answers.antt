use Rattle.std.proofs.Common.{◌∙◌}
use Rattle.placement.specs.Feeding.{waiting_of}
use Rattle.placement.proofs.Fitting.{fit_none, fit_some}
use Rattle.placement.proofs.fits.fit.Goals as goal

pub returns-in-Some : goal.returns-in-Some
returns-in-Some c =
    let s = c.args.state.now in
    c.start_of.ensures ∙ fit_some s.problem s.placed.items c.args.choice.job c.args.choice.unit (waiting_of c.in-Some.pending) c.in-Some.ensures

pub returns-in-None : goal.returns-in-None
returns-in-None c = let s = c.args.state.now in fit_none s.problem s.placed.items c.args.choice.job c.args.choice.unit c.in-None.ensures
