use Rattle.std.proofs.Common.{◌≡◌, ℕ, List, Option, length, map, drop, Result}
use Rattle.std.specs.List.{All}
use Rattle.project_tasks.specs.Entries.{IsRead, entry, entries}
use Rattle.refusals.specs.Causes.{Counts}
use Rattle.refusals.specs.declared.refusal.Refusal.{Refusal}
use Rattle.stages.specs.Stage.{Does, all}
use Rattle.stages.specs.World.{Held}
use Rattle.task_source.specs.Built.{Built, plain_built}
use Rattle.project_tasks.proofs.tasks.read_tasks.Given as goal

-- whatever the rest of the stages does from here, all of them do from the start
abbrev pub invariant-loop-task : goal.invariant-loop-task
invariant-loop-task g l = record {
  goes : (left out : Option (List ℕ)) (input output : ℕ) (n : Held) (d : Counts) (r : Result (List Built) Refusal)
      → Does (all entry (map plain_built l.built) (drop l.task-index l.tasks))
      (record { files = g.H.Shelf.holds l.shelf; left = left; out = out }) n
      (record { reads = g.H.Shelf.failed_reads l.shelf; writes = g.H.Shelf.failed_writes l.shelf; input = input; output = output }) d r
      → Does (entries l.tasks)
      (record { files = g.H.Shelf.holds l.fn.shelf; left = left; out = out }) n
      (record { reads = g.H.Shelf.failed_reads l.fn.shelf; writes = g.H.Shelf.failed_writes l.fn.shelf; input = input; output = output }) d r;
  count : length l.built ≡ l.task-index;
  read : All IsRead l.built;
  files : g.H.Shelf.holds l.shelf ≡ g.H.Shelf.holds l.fn.shelf;
  writes : g.H.Shelf.failed_writes l.shelf ≡ g.H.Shelf.failed_writes l.fn.shelf;
}
