use Rattle.std.proofs.Common.{◌≡◌, drop}
use Rattle.mars_base.specs.Outside.{file_at}
use Rattle.mars_base.proofs.shelf.find.Given as goal

abbrev pub invariant-loop-file : goal.invariant-loop-file
invariant-loop-file l = file_at l.name l.files ≡ file_at l.name (drop l.file-index l.files)
