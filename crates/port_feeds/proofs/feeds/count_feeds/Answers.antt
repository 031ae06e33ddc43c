use Rattle.std.proofs.Common.{sym, subst, ◌∙◌}
use Rattle.port_feeds.specs.Feeds.{IsCounted}
use Rattle.port_feeds.proofs.Tables.{counted_start}
use Rattle.port_feeds.proofs.feeds.count_feeds.Goals as goal

pub count_edges-requires-clause-table : goal.count_edges-requires-clause-table
count_edges-requires-clause-table c = subst (IsCounted c.args.net.now 0 0) (sym (c.deref_mut.ensures.value ∙ c.in_ok-table.ensures.items_if_clones_equal (λ y e. e))) (counted_start c.args.net.now)
