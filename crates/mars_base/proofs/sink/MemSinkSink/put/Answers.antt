use Rattle.mars_base.proofs.sink.MemSinkSink.put.Goals as goal

pub returns-then-contains-clause-appends : goal.returns-then-contains-clause-appends
returns-then-contains-clause-appends c = λ fails. cc (fails, c.contains.ensures.value, c.if-contains.true)
