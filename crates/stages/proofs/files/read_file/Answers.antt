use Rattle.std.proofs.Common.{sym, subst, List, Option, Ok, arith}
use Rattle.mars_base.specs.declared.file.File.{File}
use Rattle.stages.proofs.ReadFacts.{read_whole, file_is}
use Rattle.stages.specs.Files.{reading}
use Rattle.stages.specs.Stage.{Does}
use Rattle.stages.specs.World.{Held}
use Rattle.refusals.specs.Causes.{Counts, Later}
use Rattle.stages.proofs.files.read_file.Goals as goal

pub returns-in-Ok-clause-answer : goal.returns-in-Ok-clause-answer
returns-in-Ok-clause-answer g c left out input output =
    let files = g.H.Shelf.holds c.args.shelf.now in
    let before : Counts = record { reads = g.H.Shelf.failed_reads c.args.shelf.now; writes = g.H.Shelf.failed_writes c.args.shelf.now; input = input; output = output } in
    let now : Counts = record { reads = g.H.Shelf.failed_reads c.read.new.self; writes = g.H.Shelf.failed_writes c.read.new.self; input = input; output = output } in
    let later : Later before now = record { in_reads = c.read.ensures.later; in_writes = omega (arith, c.read.ensures.writes); in_input = omega arith; in_output = omega arith } in
    let held : Held = record { files = files; left = left; out = out } in
    subst (λ (f : Option (List File)). Does (reading c.args.file.now c.args.limit) held (record { files = f; left = left; out = out }) before now (Ok c.in-Ok.bytes.items)) (sym c.read.ensures.kept)
    (read_whole held before now c.args.file.now c.args.limit c.in-Ok.bytes.items later (file_is (λ v. v.items) files c.args.file.now c.args.limit c.in-Ok.bytes _ _ (c.in-Ok.ensures {u = tt}).answer) (omega (arith, c.in-Ok.bytes.ok, (c.in-Ok.ensures {u = tt}).short)))
