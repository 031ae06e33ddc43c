use Rattle.std.proofs.Common.{refl}
use Rattle.graph.specs.Sound.{KeepsEntryRules}
use Rattle.graph.proofs.Circles.{ranked}
use Rattle.graph.proofs.soundness.keeps_rules.Goals as goal

pub returns : goal.returns
returns c =
    let rules : KeepsEntryRules c.args.net.now = (c.in_ok-keeps_entry_rules.ensures {u = tt}).0 c.if-not-branch.false in
    let order = rw c.in-Some.is at c.in_ok-_order.ensures in
    (λ _. record { entry_rules = rules; no_circle = ranked c.args.net.now rules.entries c.in-Some._order.items order }, λ _. refl)
