use Rattle.std.proofs.Common.{◌+◌, ◌∙◌, sym, subst, arith, map, drop}
use Rattle.std.proofs.lemmas.List.{drop_all}
use Rattle.project_reader.specs.ProjectOf.{IsNamedInUtf8}
use Rattle.project_tasks.proofs.ReadSteps.{left_here}
use Rattle.project_tasks.specs.Entries.{entry}
use Rattle.stages.proofs.EachFacts.{one_stopped, one_went, none_left}
use Rattle.task_source.specs.Built.{plain_built}
use Rattle.project_tasks.proofs.tasks.read_tasks.Goals as goal

pub read_entry-requires : goal.read_entry-requires
read_entry-requires g c = subst IsNamedInUtf8 (sym c.task-item.is) (c.requires c.loop-task.task-index c.task-item.result c.loop-task-test.true)

pub returns-in-Err-clause-answer : goal.returns-in-Err-clause-answer
returns-in-Err-clause-answer g c left out input output =
    c.loop-task.invariant.goes left out input output _ _ _
    (one_stopped entry (map plain_built c.loop-task.built) c.task-item.result (drop (c.loop-task.task-index + 1) c.args.tasks.now) (drop c.loop-task.task-index c.args.tasks.now) (left_here c.args.tasks.now c.loop-task.task-index c.task-item.result c.loop-task-test.true c.task-item.is) ((c.in-Err.ensures {u = tt}).answer left out input output))

pub loop-task-preserved : goal.loop-task-preserved
loop-task-preserved g c = record {
  goes = λ left out input output n d r rest.
      c.loop-task.invariant.goes left out input output n d r
      (one_went entry (map plain_built c.loop-task.built) (map plain_built c.read_entry.new.built) c.task-item.result (drop (c.loop-task.task-index + 1) c.args.tasks.now) (drop c.loop-task.task-index c.args.tasks.now) (left_here c.args.tasks.now c.loop-task.task-index c.task-item.result c.loop-task-test.true c.task-item.is) ((c.in_default.ensures {u = tt}).answer left out input output) rest);
  count = omega (arith, (c.in_default.ensures {u = tt}).count, c.loop-task.invariant.count);
  read = (c.in_default.ensures {u = tt}).read c.loop-task.invariant.read;
  files = (c.in_default.ensures {u = tt}).files ∙ c.loop-task.invariant.files;
  writes = (c.in_default.ensures {u = tt}).writes ∙ c.loop-task.invariant.writes;
}

pub returns-clause-answer : goal.returns-clause-answer
returns-clause-answer g c left out input output =
    c.loop-task.invariant.goes left out input output _ _ _ (none_left entry (map plain_built c.loop-task.built) (drop c.loop-task.task-index c.args.tasks.now) _ _ (sym (drop_all c.loop-task.task-index c.args.tasks.now (omega (arith, c.loop-task-test.false)))))
