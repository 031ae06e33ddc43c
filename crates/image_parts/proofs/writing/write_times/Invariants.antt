use Rattle.std.proofs.Common.{◌≡◌, ◌++◌, take}
use Rattle.std.specs.List.{flat_map}
use Rattle.image_parts.proofs.writing.write_times.Given as goal

abbrev pub invariant-loop-entry : goal.invariant-loop-entry
invariant-loop-entry g l = l.into.items ≡ l.fn.into.items ++ flat_map (g.T.Writable.format).writes (take l.entry-index l.entries)
