use Rattle.std.proofs.Common.{sym, subst}
use Rattle.graph.specs.declared.net.Net.{Net}
use Rattle.port_feeds.specs.Placed.{HasFewPorts}
use Rattle.project_sheet.specs.declared.place.Place.{Place}
use Rattle.project_sheet.specs.declared.kind.Kind.{Kind}
use Rattle.project_binder.specs.PortFaults.{BindFails}
use Rattle.project_binder.proofs.Faults.{good}
use Rattle.project_binder.proofs.NetFacts.{few_ports}
use Rattle.project_binder.proofs.Soundness.{bound_keeps}
use Rattle.project_binder.proofs.binding.bind.Goals as goal

pub port_fault-requires : goal.port_fault-requires
port_fault-requires c = subst HasFewPorts (sym c.in_ok-net.ensures) (few_ports c.args.project.now c.args.ports.now c.requires.count c.requires.kept.counts.tasks c.requires.ports)

pub returns-in-None-clause-rules : goal.returns-in-None-clause-rules
returns-in-None-clause-rules c =
    let none = good c.in_ok-net.net c.in_ok-fault.field-0 c.in-None.is c.in_ok-fault.ensures in
    bound_keeps c.args.project.now c.args.ports.now c.in_ok-net.net c.requires.kept c.requires.count c.requires.ports
    (record { no_fault = subst (λ (n : Net). (k : Kind) (p : Place) → BindFails n k p → ⊥) c.in_ok-net.ensures none; is = c.in_ok-net.ensures })
