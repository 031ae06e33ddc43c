use Rattle.std.proofs.Common.{◌∙◌, refl, subst}
use Rattle.project_binder.specs.PortFaults.{IsBindFaultOf}
use Rattle.project_net.proofs.Counts.{count_tasks}
use Rattle.project_net.proofs.Given.{give_net, give_fault}
use Rattle.project_net.proofs.bound.bind_project.Goals as goal

pub returns-in-Ok-bind-clause-answer : goal.returns-in-Ok-bind-clause-answer
returns-in-Ok-bind-clause-answer c = give_net c.args.file.now c.args.project.now c.args.ports.now c.in-Ok-bind.net (c.in-Ok-bind.ensures {u = tt}).ok

pub returns-in-Ok-bind-clause-count : goal.returns-in-Ok-bind-clause-count
returns-in-Ok-bind-clause-count c = count_tasks c.args.project.now c.args.ports.now c.in-Ok-bind.net c.requires.count (c.in-Ok-bind.ensures {u = tt}).ok

pub returns-in-Err-Bad-clause-answer : goal.returns-in-Err-Bad-clause-answer
returns-in-Err-Bad-clause-answer c =
    give_fault c.args.file.now c.in-Ok.name c.args.project.now c.args.ports.now c.in-Err-Bad.fault c.in-Err-Bad.fault c.fault_of.result ((c.in-Ok.ensures {u = tt}) ∙ c.as_bytes.ensures.value) refl c.fault_of.ensures (subst (IsBindFaultOf c.args.project.now c.args.ports.now) c.in-Err-Bad.field-0-is (c.in-Err-Bad.ensures {u = tt}).fault)
