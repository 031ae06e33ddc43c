use Rattle.std.proofs.Common.{sym, ◌∙◌}
use Rattle.job_inputs.proofs.Looking.{producer, found_there}
use Rattle.job_inputs.proofs.look.edge_in.Goals as goal

pub returns-else-producer-unit-clause-words : goal.returns-else-producer-unit-clause-words
returns-else-producer-unit-clause-words c =
    let net = c.args.net.now in let g = c.args.graph.now in let t = c.args.tables.now in
    c.taken_words.ensures.words
    ∙ sym (found_there net g t c.args.unit c.args.book.now c.args.inbox.now c.args.instance c.args.edge c.requires.edge c.entry_at-producer.result
    (producer net g t c.args.unit c.args.book.now c.args.inbox.now c.args.instance c.args.edge c.requires.edge c.producer_of.result c.producer_of.ensures c.entry_at-producer.result c.entry_at-producer.ensures)
    c.if-producer-unit.false)
