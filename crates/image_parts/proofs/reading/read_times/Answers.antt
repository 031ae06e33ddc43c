use Rattle.std.proofs.Common.{◌≡◌, ◌++◌, ◌∷◌, []}
use Rattle.std.proofs.lemmas.Result.{err_from_is_err_and}
use Rattle.formats.specs.Format.{read_times}
use Rattle.image_parts.proofs.Loop.{goes_on, ends, is_done}
use Rattle.image_parts.proofs.reading.read_times.Goals as goal

pub returns-in_err-entry : goal.returns-in_err-entry
returns-in_err-entry g c =
    let p = err_from_is_err_and c.from_residual.result c.from_residual.ensures.1 in
    rw (p.1, p.2) (ends g.T.Readable.format.reads c.in_err-entry.field-0.0 c.loop.entries.items c.args.count c.loop.counter c.loop.rest.now (read_times g.T.Readable.format.reads c.args.count c.args.bytes.now) c.loop-test.true c.in_err-entry.ensures c.loop.invariant)

pub loop-preserved : goal.loop-preserved
loop-preserved g c =
    rw c.in_ok-push.ensures.items (goes_on g.T.Readable.format.reads c.loop.entries.items c.args.count c.loop.counter c.loop.rest.now c.in_ok-entry.entry c.in_ok-entry.after.now (read_times g.T.Readable.format.reads c.args.count c.args.bytes.now) c.loop-test.true c.in_ok-entry.ensures c.loop.invariant)

pub returns : goal.returns
returns g c = is_done g.T.Readable.format.reads c.loop.entries.items c.args.count c.loop.counter c.loop.rest.now (read_times g.T.Readable.format.reads c.args.count c.args.bytes.now) c.loop-test.false c.loop.invariant
