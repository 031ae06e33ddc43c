use Rattle.graph.specs.Sound.{KeepsRules}
use Rattle.graph.proofs.soundness.sound.Goals as goal

pub returns : goal.returns
returns c =
    let rules : KeepsRules c.args.net.now = (c.in_ok-keeps_rules.ensures {u = tt}).0 c.if-not-branch.false in
    (λ t. (let w = c.is_within_limits.ensures.0 t in record { rules = rules; cycle = w.0; limits = w.1 }), λ s. c.is_within_limits.ensures.1 (s.cycle, s.limits))
