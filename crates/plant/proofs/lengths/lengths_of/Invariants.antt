use Rattle.std.proofs.Common.{◌≡◌, ◌≤◌, All, length, take}
use Rattle.plant.specs.Lengths.{lengths_of}
use Rattle.plant.proofs.lengths.lengths_of.Given as goal

abbrev pub invariant-loop-maxt : goal.invariant-loop-maxt
invariant-loop-maxt l = record {
  list : l.lengths.items ≡ lengths_of (take l.maxt-index l.maxts) l.cycles_per_tick;
  count : length l.lengths.items ≡ l.maxt-index;
  some : All (λ n. 1 ≤ n) l.lengths.items;
}
