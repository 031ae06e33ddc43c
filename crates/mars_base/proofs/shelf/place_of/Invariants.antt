use Rattle.std.proofs.Common.{◌≡◌, ◌+◌, drop}
use Rattle.mars_base.specs.Outside.{place_at}
use Rattle.mars_base.proofs.shelf.place_of.Given as goal

abbrev pub invariant-loop-place : goal.invariant-loop-place
invariant-loop-place l = place_at l.name l.files ≡ place_at l.name (drop l.place l.files) + l.place
