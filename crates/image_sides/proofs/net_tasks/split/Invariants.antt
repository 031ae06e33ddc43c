use Rattle.std.proofs.Common.{◌≡◌, ◌++◌, map}
use Rattle.image_sides.specs.Sides.{net_task, code_of, maxt_of}
use Rattle.image_sides.proofs.net_tasks.split.Given as goal

abbrev pub invariant-loop-part : goal.invariant-loop-part
invariant-loop-part l = record {
  tasks : l.tasks ≡ map net_task l.yielded;
  codes : l.codes.items ≡ map code_of l.yielded;
  maxts : l.maxts ≡ map maxt_of l.yielded;
  parts : l.fn.parts.items ≡ l.yielded ++ l.part-iterator.rest.items;
}
