use Rattle.std.proofs.Common.{◌≡◌, ℕ, [], map, length, get_or}
use Rattle.unit_ticks.specs.Rows.{ticks_in, AreRows}
use Rattle.unit_ticks.proofs.units.UnitTicks.new.Given as goal

abbrev pub invariant-loop : goal.invariant-loop
invariant-loop l = record {
  units : length l.rows.items ≡ l.counter;
  rows : AreRows l.jobs l.rows.items;
  none : (unit : ℕ) → get_or (map ticks_in l.rows.items) unit [] ≡ [];
}
