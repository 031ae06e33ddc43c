use Rattle.std.proofs.Common.{◌≡◌, take}
use Rattle.project_binder.proofs.net.transactions_of.Given as goal

abbrev pub invariant-loop-transaction : goal.invariant-loop-transaction
invariant-loop-transaction l = l.list ≡ take l.transaction-index l.transactions
