-- Counts that rose.
use Rattle.std.proofs.Common.{◌≡◌, None, Some, arith}
use Rattle.refusals.specs.Causes.{Counts, Later, Caused}
use Rattle.refusals.specs.Status.{status_of}
use Rattle.refusals.specs.declared.refusal.Refusal.{Refusal}
use Rattle.refusals.specs.declared.refusal.Refusal.TheVariants as refusal

-- counts that rose in a part rose in the whole
pub wider : (c d f : Counts) (e : Refusal) → Later c d → Caused d f e → Caused c f e
wider c d f refusal.Memory later caused = tt
wider c d f (refusal.ReadFault (Some name)) later caused = omega (arith, later.in_reads, caused)
wider c d f (refusal.ReadFault None) later caused = omega (arith, later.in_input, caused)
wider c d f (refusal.WriteFault (Some name)) later caused = omega (arith, later.in_writes, caused)
wider c d f (refusal.WriteFault None) later caused = omega (arith, later.in_output, caused)
wider c d f (refusal.TooLong (Some name)) later caused = omega (arith, later.in_reads, caused)
wider c d f other later caused = caused

pub later_later : (c d f : Counts) → Later c d → Later d f → Later c f
later_later c d f l m = record {
  in_reads = omega (arith, l.in_reads, m.in_reads);
  in_writes = omega (arith, l.in_writes, m.in_writes);
  in_input = omega (arith, l.in_input, m.in_input);
  in_output = omega (arith, l.in_output, m.in_output);
}

pub later_same : (c : Counts) → Later c c
later_same c = record { in_reads = omega arith; in_writes = omega arith; in_input = omega arith; in_output = omega arith }

-- what was cut off never answers that the words are none
pub caused_not_usage : (c d : Counts) (e : Refusal) → Caused c d e → status_of e ≡ 2 → ⊥
caused_not_usage c d refusal.Memory caused is = omega (arith, is)
caused_not_usage c d (refusal.ReadFault (Some name)) caused is = omega (arith, is)
caused_not_usage c d (refusal.ReadFault None) caused is = omega (arith, is)
caused_not_usage c d (refusal.WriteFault (Some name)) caused is = omega (arith, is)
caused_not_usage c d (refusal.WriteFault None) caused is = omega (arith, is)
caused_not_usage c d (refusal.TooLong (Some name)) caused is = omega (arith, is)
caused_not_usage c d other caused is = absurd caused
