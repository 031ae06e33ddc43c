use Rattle.std.proofs.Common.{◌≡◌, ◌++◌, map, drop}
use Rattle.std.specs.Prelude.{◌==◌, filter}
use Rattle.decisions.specs.declared.placed.Sent.{Sent}
use Rattle.decisions.specs.TablesOf.{message_of}
use Rattle.placement.proofs.into_tables.add_messages.Given as goal

abbrev pub invariant-loop-sent : goal.invariant-loop-sent
invariant-loop-sent l = l.messages ++ map (message_of l.instance) (filter (λ (m : Sent). m.edge == l.edge) (drop l.sent-index l.sent-items)) ≡ l.fn.messages ++ map (message_of l.instance) (filter (λ (m : Sent). m.edge == l.edge) l.sent-items)
