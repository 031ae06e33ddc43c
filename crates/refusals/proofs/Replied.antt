-- What was said of a refusal.
use Rattle.std.proofs.Common.{inl, inr, ℕ, List, Option, Result, Ok, Err}
use Rattle.mars_base.specs.Causes.{HasCause}
use Rattle.mars_base.specs.declared.outside.SinkFault.{SinkFault}
use Rattle.mars_base.specs.Outside.{Puts}
use Rattle.refusals.specs.Said.{Said}
use Rattle.refusals.specs.Status.{line_of}
use Rattle.refusals.specs.declared.refusal.Refusal.{Refusal}

-- a put of the line says it, or a front of it
pub said_line : (r : Result (Unit {0}) SinkFault) (old new : Option (List ℕ)) (before now : ℕ) (refused : Refusal) → Puts old new r (line_of refused) → HasCause before now r → Said old new before now (Err refused)
said_line (Ok u) old new before now refused put cause = (cause.later, inl put)
said_line (Err e) old new before now refused put cause = (cause.later, inr (put.0, put.1, cause.failed))
