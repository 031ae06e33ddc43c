use Rattle.std.proofs.Common.{List, map, ap, sym, subst, None, Ok}
use Rattle.std.specs.List.{All}
use Rattle.std.proofs.lemmas.List.Elements.{All-push}
use Rattle.project_tasks.proofs.EntryFacts.{read_checked}
use Rattle.project_tasks.proofs.ReadSteps.{entry_refused, entry_read, entry_lost, one_more}
use Rattle.project_tasks.specs.Entries.{IsRead}
use Rattle.stages.proofs.Turns.{passes}
use Rattle.task_source.specs.Built.{Built, plain_built}
use Rattle.project_tasks.proofs.tasks.read_entry.Goals as goal

pub returns-in-Err-clause-answer : goal.returns-in-Err-clause-answer
returns-in-Err-clause-answer g c left out input output =
    entry_refused (map plain_built c.args.built.now) c.args.task.now c.file_of.result.now c.file_of.ensures ((c.in-Err.ensures {u = tt}).answer left out input output)

pub returns-in-Ok-push-clause-answer : goal.returns-in-Ok-push-clause-answer
returns-in-Ok-push-clause-answer g c left out input output =
    entry_read (map plain_built c.args.built.now) c.args.task.now c.file_of.result.now (plain_built c.in-Ok.it) (Ok (map plain_built c.push.new.self)) c.file_of.ensures ((c.in-Ok.ensures {u = tt}).answer left out input output)
    (ap (passes (List Built)) (one_more c.args.built.now c.push.new.self c.in-Ok.it (c.in-Ok-push.ensures {u = tt}).ok))

pub returns-in-Ok-push-clause-read : goal.returns-in-Ok-push-clause-read
returns-in-Ok-push-clause-read g c all =
    let ok = c.in-Ok.ensures {u = tt} in
    let one : IsRead c.in-Ok.it = record { checked = read_checked c.file_of.result.now (plain_built c.in-Ok.it) (ok.answer None None 0 0); built = ok.built } in
    subst (All IsRead) (sym (c.in-Ok-push.ensures {u = tt}).ok) (All-push IsRead c.args.built.now c.in-Ok.it all one)

pub returns-in-Err-push-clause-answer : goal.returns-in-Err-push-clause-answer
returns-in-Err-push-clause-answer g c left out input output =
    entry_lost (map plain_built c.args.built.now) c.args.task.now c.file_of.result.now (plain_built c.in-Ok.it) c.file_of.ensures ((c.in-Ok.ensures {u = tt}).answer left out input output)
