use Rattle.std.proofs.Common.{◌-◌, ◌≤◌}
use Rattle.word_code.specs.Course.{IsOnCourse}
use Rattle.word_machine.specs.Machine.{standing_at, standing, IsSame}
use Rattle.word_machine.proofs.machine.Machine.run.Given as goal

-- the execution goes on from here as from the beginning, under each limit from this one on
abbrev pub invariant-loop-slots : goal.invariant-loop-slots
invariant-loop-slots l = record {
  course : IsOnCourse l.code (standing_at l.code l.pc l.self.registers);
  below : l.cycles ≤ l.limit;
  same : IsSame l.code l.limit (standing l.code l.fn.self) l.fn.self.cycles (standing_at l.code l.pc l.self.registers) l.cycles;
}

-- each instruction costs at least 1
abbrev pub decreases-loop-slots : goal.decreases-loop-slots
decreases-loop-slots l = l.limit - l.cycles
