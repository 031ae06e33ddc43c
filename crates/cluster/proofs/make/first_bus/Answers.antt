use Rattle.std.proofs.Common.{◌≡◌, ◌%◌, ◌∙◌, ap, arith}
use Rattle.cluster.proofs.make.first_bus.Goals as goal

pub new-requires-clause-whole : goal.new-requires-clause-whole
new-requires-clause-whole c =
    let h : c.args.graph.now.cycle % c.args.net.now.shape.round ≡ 0 = c.requires.is.graph.limits.is_cycle.common 0 0 (omega arith) in
    ap (λ x. x % c.args.net.now.shape.round) c.cycle.ensures ∙ h
