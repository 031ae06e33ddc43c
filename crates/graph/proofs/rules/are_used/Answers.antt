use Rattle.std.proofs.Common.{◌≡◌, below_more, refl, arith}
use Rattle.std.specs.Prelude.{Any}
use Rattle.std.proofs.lemmas.Bool.{false≢true}
use Rattle.graph.specs.declared.net.NetTask.{NetTask}
use Rattle.graph.proofs.Answering.{no}
use Rattle.graph.proofs.rules.are_used.Goals as goal

pub returns-then-not-is_used : goal.returns-then-not-is_used
returns-then-not-is_used c = no _ (λ h. let e = rw c.as_slice.ensures at c.if-not-is_used.ensures in false≢true (e.1 (h c.loop-transaction.transaction (omega arith))))

pub loop-transaction-preserved : goal.loop-transaction-preserved
loop-transaction-preserved c =
    below_more (λ t. Any (λ (task : NetTask). task.transaction ≡ t) c.args.net.now.tasks) _ c.loop-transaction.invariant
    (let e = rw c.as_slice.ensures at c.if-not-is_used.ensures in e.0 refl)
