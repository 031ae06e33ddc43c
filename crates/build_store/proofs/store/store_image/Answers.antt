use Rattle.stages.specs.Files.{writing}
use Rattle.stages.specs.Stage.{printing}
use Rattle.stages.proofs.Turns.{stopped, went}
use Rattle.build_store.proofs.store.store_image.Goals as goal

pub returns-in-Ok-clause-answer : goal.returns-in-Ok-clause-answer
returns-in-Ok-clause-answer g c left input =
    let shelf = c.write_file.new.shelf in
    went (writing c.args.image.now c.args.bytes.now) (λ u. printing c.args.text.now)
    ((c.in-Ok.ensures {u = tt}).answer left (g.O.Sink.holds c.args.out.now) input (g.O.Sink.faults c.args.out.now))
    (c.print_text.ensures.answer (g.H.Shelf.holds shelf) left (g.H.Shelf.failed_reads shelf) (g.H.Shelf.failed_writes shelf) input)

pub returns-in-Err-clause-answer : goal.returns-in-Err-clause-answer
returns-in-Err-clause-answer g c left input =
    stopped (writing c.args.image.now c.args.bytes.now) (λ u. printing c.args.text.now)
    ((c.in-Err.ensures {u = tt}).answer left (g.O.Sink.holds c.args.out.now) input (g.O.Sink.faults c.args.out.now))
