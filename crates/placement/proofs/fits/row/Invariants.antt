use Rattle.std.proofs.Common.{◌≡◌, ◌≤◌, map, length}
use Rattle.decisions.specs.Choices.{row_of}
use Rattle.placement.specs.Choosing.{fit_of}
use Rattle.placement.proofs.fits.row.Given as goal

abbrev pub invariant-loop-unit : goal.invariant-loop-unit
invariant-loop-unit l = record {
  row : l.row.items ≡ map fit_of (row_of l.state.problem l.state.placed.items l.job l.unit);
  few : length l.row.items ≤ l.unit;
}
