use Rattle.std.proofs.Common.{◌≡◌, ◌∙◌, take, sym, ap, subst, rules}
use Rattle.std.proofs.Common.{arith}
use Rattle.std.proofs.lemmas.Grind.{common_steps}
use Rattle.task_ports.specs.Ports.{ports_in, ports_of, IsTaskPorts}
use Rattle.task_ports.proofs.Kept.{ports_kept}
use Rattle.task_ports.proofs.ports.ports_of.Goals as goal

pub returns-clause-kept : goal.returns-clause-kept
returns-clause-kept c = λ h.
    let same : c.loop-cell.ports ≡ ports_of c.args.task.now = grind (arith, common_steps) in
    subst IsTaskPorts (sym same) (ports_kept c.args.task.now h)
