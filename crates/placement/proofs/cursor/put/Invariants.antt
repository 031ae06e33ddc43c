use Rattle.std.proofs.Common.{◌≡◌, ◌+◌, drop}
use Rattle.placement.proofs.Looking.{fits_before}
use Rattle.placement.proofs.cursor.put.Given as goal

abbrev pub invariant-loop-other : goal.invariant-loop-other
invariant-loop-other l = (l.place + fits_before l.fit (drop l.other-index l.other-items) ≡ fits_before l.fit l.other-items) × (l.place ≡ l.other-index)
