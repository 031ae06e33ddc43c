use Rattle.std.proofs.Common.{◌≡◌, ◌<◌, ℕ, List, [], length, get_or, set, map, ℤ, Option, Some, sym, ◌∙◌, ap, subst, arith}
use Rattle.std.specs.Prelude.{slice_get, slice_index}
use Rattle.std.proofs.lemmas.Option.{get_or_from_slice_get}
use Rattle.processor.specs.Results.{turn_of}
use Rattle.graph.specs.NetGraph.{IsNetGraph}
use Rattle.graph.specs.declared.job.Job.{Job}
use Rattle.tables.specs.Named.{no_job, job_at}
use Rattle.net_run.specs.NetRun.{JobResult, ended_as, kept}
use Rattle.job_book.specs.Known.{status_of}
use Rattle.replica_job.specs.Hand.{known_as, result_in}
use Rattle.cluster_plan.specs.Follows.{out_count}
use Rattle.cluster_plan.proofs.Numbers.{is_of}
use Rattle.cluster_plan.proofs.Whole.{sound_plans}
use Rattle.cluster_model.specs.PlanOf.{plan_of}
use Rattle.tick_parts.proofs.Closing.{jobs_after, states_after, one_program}
use Rattle.tick_parts.proofs.close.close_job.Goals as goal

pub program-requires : goal.program-requires
program-requires g c =
    let net = c.args.plant.now.net in let graph = c.args.plant.now.graph in let job = c.args.job in let states = c.args.states.now in
    let task = (job_at graph job).task in
    let it : job_at graph job ≡ c.job-task.result = get_or_from_slice_get graph.jobs job c.job-task.result no_job c.job-task.ensures in
    let n : IsNetGraph net graph = record { lengths = _; is = c.requires.in_order.graph } in
    let known = (is_of net graph n job c.requires.job).task in
    omega (arith, ap (λ (j : Job). j.task) it, known, c.requires.in_order.programs)

pub end_job-requires-clause-outs_room : goal.end_job-requires-clause-outs_room
end_job-requires-clause-outs_room g c =
    let net = c.args.plant.now.net in let graph = c.args.plant.now.graph in let job = c.args.job in let states = c.args.states.now in
    let task = (job_at graph job).task in
    let it : job_at graph job ≡ c.job-task.result = get_or_from_slice_get graph.jobs job c.job-task.result no_job c.job-task.ensures in
    let n : IsNetGraph net graph = record { lengths = _; is = c.requires.in_order.graph } in
    let known = (is_of net graph n job c.requires.job).task in
    let program = c.program.result.now in
    let prog : slice_get c.args.plant.now.programs task ≡ Some program = ap (λ (j : Job). slice_get c.args.plant.now.programs j.task) it ∙ c.program.ensures in
    ap (slice_index c.args.book.now.rooms) c.from.ensures ∙ c.requires.book.rooms job c.requires.job ∙ sym (c.requires.fits.outs task program prog)

pub end_job-requires-clause-task : goal.end_job-requires-clause-task
end_job-requires-clause-task g c =
    let net = c.args.plant.now.net in let graph = c.args.plant.now.graph in let job = c.args.job in let states = c.args.states.now in
    let task = (job_at graph job).task in
    let it : job_at graph job ≡ c.job-task.result = get_or_from_slice_get graph.jobs job c.job-task.result no_job c.job-task.ensures in
    let n : IsNetGraph net graph = record { lengths = _; is = c.requires.in_order.graph } in
    let known = (is_of net graph n job c.requires.job).task in
    let task_is : c.from-2.result ≡ task = c.from-2.ensures ∙ ap (λ (j : Job). j.task) (sym it) in
    omega (arith, task_is, known, c.requires.states)

pub end_job-requires-clause-state_room : goal.end_job-requires-clause-state_room
end_job-requires-clause-state_room g c =
    let net = c.args.plant.now.net in let graph = c.args.plant.now.graph in let job = c.args.job in let states = c.args.states.now in
    let task = (job_at graph job).task in
    let it : job_at graph job ≡ c.job-task.result = get_or_from_slice_get graph.jobs job c.job-task.result no_job c.job-task.ensures in
    let n : IsNetGraph net graph = record { lengths = _; is = c.requires.in_order.graph } in
    let known = (is_of net graph n job c.requires.job).task in
    let program = c.program.result.now in
    let prog : slice_get c.args.plant.now.programs task ≡ Some program = ap (λ (j : Job). slice_get c.args.plant.now.programs j.task) it ∙ c.program.ensures in
    let task_is : c.from-2.result ≡ task = c.from-2.ensures ∙ ap (λ (j : Job). j.task) (sym it) in
    ap (λ x. length (get_or states x [])) task_is ∙ c.requires.room ∙ sym (c.requires.fits.states task program prog)

pub end_job-requires-clause-outs : goal.end_job-requires-clause-outs
end_job-requires-clause-outs g c =
    let net = c.args.plant.now.net in let graph = c.args.plant.now.graph in let job = c.args.job in let states = c.args.states.now in
    let task = (job_at graph job).task in
    let it : job_at graph job ≡ c.job-task.result = get_or_from_slice_get graph.jobs job c.job-task.result no_job c.job-task.ensures in
    let n : IsNetGraph net graph = record { lengths = _; is = c.requires.in_order.graph } in
    let known = (is_of net graph n job c.requires.job).task in
    let program = c.program.result.now in
    let prog : slice_get c.args.plant.now.programs task ≡ Some program = ap (λ (j : Job). slice_get c.args.plant.now.programs j.task) it ∙ c.program.ensures in
    c.requires.outs ∙ sym (c.requires.fits.outs task program prog)

pub end_job-requires-clause-state : goal.end_job-requires-clause-state
end_job-requires-clause-state g c =
    let net = c.args.plant.now.net in let graph = c.args.plant.now.graph in let job = c.args.job in let states = c.args.states.now in
    let task = (job_at graph job).task in
    let it : job_at graph job ≡ c.job-task.result = get_or_from_slice_get graph.jobs job c.job-task.result no_job c.job-task.ensures in
    let n : IsNetGraph net graph = record { lengths = _; is = c.requires.in_order.graph } in
    let known = (is_of net graph n job c.requires.job).task in
    let program = c.program.result.now in
    let prog : slice_get c.args.plant.now.programs task ≡ Some program = ap (λ (j : Job). slice_get c.args.plant.now.programs j.task) it ∙ c.program.ensures in
    c.requires.state ∙ sym (c.requires.fits.states task program prog)

pub end_job-requires-clause-hand : goal.end_job-requires-clause-hand
end_job-requires-clause-hand g c =
    let net = c.args.plant.now.net in let graph = c.args.plant.now.graph in let job = c.args.job in let states = c.args.states.now in
    let task = (job_at graph job).task in
    let it : job_at graph job ≡ c.job-task.result = get_or_from_slice_get graph.jobs job c.job-task.result no_job c.job-task.ensures in
    let n : IsNetGraph net graph = record { lengths = _; is = c.requires.in_order.graph } in
    let known = (is_of net graph n job c.requires.job).task in
    let program = c.program.result.now in
    let prog : slice_get c.args.plant.now.programs task ≡ Some program = ap (λ (j : Job). slice_get c.args.plant.now.programs j.task) it ∙ c.program.ensures in
    let task_is : c.from-2.result ≡ task = c.from-2.ensures ∙ ap (λ (j : Job). j.task) (sym it) in
    subst (λ (x : ℕ). (ins : List ℤ) × (m : ℕ) × g.C.Cpu.runs c.args.cpu.now program (get_or states x []) ins m × (c.args.turn ≡ turn_of (g.C.Cpu.execution program m (get_or states x []) ins))) (sym task_is) (c.requires.hand program prog)

pub returns-clause-jobs : goal.returns-clause-jobs
returns-clause-jobs g c =
    let net = c.args.plant.now.net in let graph = c.args.plant.now.graph in let job = c.args.job in let states = c.args.states.now in
    let task = (job_at graph job).task in
    let it : job_at graph job ≡ c.job-task.result = get_or_from_slice_get graph.jobs job c.job-task.result no_job c.job-task.ensures in
    let n : IsNetGraph net graph = record { lengths = _; is = c.requires.in_order.graph } in
    let known = (is_of net graph n job c.requires.job).task in
    let program = c.program.result.now in
    let prog : slice_get c.args.plant.now.programs task ≡ Some program = ap (λ (j : Job). slice_get c.args.plant.now.programs j.task) it ∙ c.program.ensures in
    let task_is : c.from-2.result ≡ task = c.from-2.ensures ∙ ap (λ (j : Job). j.task) (sym it) in
    let old = get_or states task [] in
    let now = get_or states c.from-2.result [] in
    let now_is : now ≡ old = ap (λ x. get_or states x []) task_is in
    let size = c.requires.book.jobs in
    λ words exec cost tick statuses given ins m ends stands runs turn_is exec_is held s i.
    let same : given ≡ program = one_program given program (sym stands ∙ prog) in
    let runs_it : g.C.Cpu.runs c.args.cpu.now program now ins m = subst (λ (s : List ℤ). g.C.Cpu.runs c.args.cpu.now program s ins m) (sym now_is) (subst (λ q. g.C.Cpu.runs c.args.cpu.now q old ins m) same runs) in
    let turn_it : c.args.turn ≡ turn_of (g.C.Cpu.execution program m now ins) =
    turn_is ∙ ap (λ q. turn_of (g.C.Cpu.execution q m old ins)) same ∙ ap (λ (s : List ℤ). turn_of (g.C.Cpu.execution program m s ins)) (sym now_is) in
    let result_is : result_in (g.C.Cpu.execution program m now ins) ≡ ended_as (exec task old ins) =
    ap (λ (s : List ℤ). result_in (g.C.Cpu.execution program m s ins)) now_is
    ∙ ap (λ q. result_in (g.C.Cpu.execution q m old ins)) (sym same)
    ∙ sym (ap ended_as exec_is) in
    ap (map (status_of s i))
    (c.end_job.ensures.jobs ins m runs_it turn_it
    ∙ ap (λ k. set c.args.book.now.jobs k (known_as (result_in (g.C.Cpu.execution program m now ins)))) c.from.ensures
    ∙ ap (λ (r : JobResult). set c.args.book.now.jobs job (known_as r)) result_is)
    ∙ jobs_after (plan_of net graph c.args.plant.now.tables words exec cost) tick statuses c.args.book.now job old ins c.requires.job size ends c.requires.in_hand c.requires.only held s i

pub returns-clause-states : goal.returns-clause-states
returns-clause-states g c =
    let net = c.args.plant.now.net in let graph = c.args.plant.now.graph in let job = c.args.job in let states = c.args.states.now in
    let task = (job_at graph job).task in
    let it : job_at graph job ≡ c.job-task.result = get_or_from_slice_get graph.jobs job c.job-task.result no_job c.job-task.ensures in
    let n : IsNetGraph net graph = record { lengths = _; is = c.requires.in_order.graph } in
    let known = (is_of net graph n job c.requires.job).task in
    let program = c.program.result.now in
    let prog : slice_get c.args.plant.now.programs task ≡ Some program = ap (λ (j : Job). slice_get c.args.plant.now.programs j.task) it ∙ c.program.ensures in
    let task_is : c.from-2.result ≡ task = c.from-2.ensures ∙ ap (λ (j : Job). j.task) (sym it) in
    let old = get_or states task [] in
    let now = get_or states c.from-2.result [] in
    let now_is : now ≡ old = ap (λ x. get_or states x []) task_is in
    let size = c.requires.book.jobs in
    λ words exec cost tick statuses given ins m ends stands runs turn_is exec_is held.
    let same : given ≡ program = one_program given program (sym stands ∙ prog) in
    let runs_it : g.C.Cpu.runs c.args.cpu.now program now ins m = subst (λ (s : List ℤ). g.C.Cpu.runs c.args.cpu.now program s ins m) (sym now_is) (subst (λ q. g.C.Cpu.runs c.args.cpu.now q old ins m) same runs) in
    let turn_it : c.args.turn ≡ turn_of (g.C.Cpu.execution program m now ins) =
    turn_is ∙ ap (λ q. turn_of (g.C.Cpu.execution q m old ins)) same ∙ ap (λ (s : List ℤ). turn_of (g.C.Cpu.execution program m s ins)) (sym now_is) in
    let result_is : result_in (g.C.Cpu.execution program m now ins) ≡ ended_as (exec task old ins) =
    ap (λ (s : List ℤ). result_in (g.C.Cpu.execution program m s ins)) now_is
    ∙ ap (λ q. result_in (g.C.Cpu.execution q m old ins)) (sym same)
    ∙ sym (ap ended_as exec_is) in
    c.end_job.ensures.states ins m runs_it turn_it
    ∙ ap (λ x. set states x (kept now (result_in (g.C.Cpu.execution program m now ins)))) task_is
    ∙ ap (λ (s : List ℤ). set states task (kept s (result_in (g.C.Cpu.execution program m now ins)))) now_is
    ∙ ap (λ (r : JobResult). set states task (kept old r)) result_is
    ∙ states_after (plan_of net graph c.args.plant.now.tables words exec cost) tick statuses c.args.book.now job old ins c.requires.job size ends c.requires.in_hand c.requires.only held (out_count net) (sound_plans net graph c.args.plant.now.tables words exec cost n c.requires.in_order.tables) states c.requires.states Rattle.std.proofs.Common.refl
