use Rattle.std.proofs.Common.{◌≡◌, ap, ◌∙◌, subst}
use Rattle.lines.specs.Gathered.{Writes}
use Rattle.graph.specs.declared.job.Job.{Job}
use Rattle.tables_text.specs.Text.{job_line, task_name, line_of_job}
use Rattle.tables_text.proofs.text.write_line_of_job.Goals as goal

pub returns-clause-bytes : goal.returns-clause-bytes
returns-clause-bytes g c =
    let e : job_line c.task_name-name.result.now c.job_of-job.result.instance c.args.entry ≡ line_of_job c.args.net.now c.args.graph.now c.args.entry =
    ap (λ n. job_line n c.job_of-job.result.instance c.args.entry) c.task_name-name.ensures ∙ ap (λ (j : Job). job_line (task_name c.args.net.now j.task) j.instance c.args.entry) c.job_of-job.ensures in
    subst (λ x. Writes (g.O.Sink.holds c.args.out.now) c.args.buffer.now x (g.O.Sink.holds c.write_job.new.out) c.write_job.new.buffer c.write_job.result) e c.write_job.ensures.bytes
