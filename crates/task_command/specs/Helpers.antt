-- What the contracts of helpers cite; no public clause does.
use Rattle.std.specs.Prelude.{None}
use Rattle.refusals.specs.declared.refusal.Refusal.{Refusal}
use Rattle.refusals.specs.declared.refusal.Refusal.TheVariants as refusal
use Rattle.task_run.specs.declared.fault.RunFault.{RunFault}
use Rattle.task_run.specs.declared.fault.RunFault.TheVariants as run

-- the refusal of a run that ended early
abbrev pub refusal_of : RunFault → Refusal
refusal_of run.Memory = refusal.Memory
refusal_of run.Read = refusal.ReadFault None
refusal_of run.Write = refusal.WriteFault None
refusal_of (run.BadLine n) = refusal.BadInput n
refusal_of run.Broken = refusal.Broken
