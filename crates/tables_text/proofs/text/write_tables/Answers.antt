use Rattle.std.proofs.Common.{◌++◌, length, Ok, Err, subst}
use Rattle.mars_base.specs.declared.outside.SinkFault.{SinkFault}
use Rattle.lines.specs.Gathered.{Writes}
use Rattle.lines.proofs.Gather.{writes_both, writes_failed}
use Rattle.tables_text.specs.Text.{cluster_line, lines_of, lines_of_tasks, line_of_job, message_line}
use Rattle.tables_text.proofs.text.write_tables.Goals as goal

pub returns-in-Err-clause-bytes : goal.returns-in-Err-clause-bytes
returns-in-Err-clause-bytes g c =
    let net = c.args.net.now in
    let t = c.args.tables.now in
    let o0 = g.O.Sink.holds c.args.out.now in
    let o1 = g.O.Sink.holds c.write_cluster.new.out in
    let b0 = c.args.buffer.now in
    let b1 = c.write_cluster.new.buffer in
    let tasks = lines_of_tasks net c.args.graph.now t c.args.maxts.now (length net.tasks) in
    let rest = tasks ++ (lines_of (line_of_job net c.args.graph.now) t.jobs ++ lines_of message_line t.messages) in
    let f = c.in-Err.fault in
    writes_failed f f o0 o1 b0 b1 b1 (cluster_line net.shape c.args.graph.now.cycle) rest
    (subst (λ n. Writes {E = SinkFault} o0 b0 (cluster_line net.shape n) o1 b1 (Err f)) c.cycle.ensures (c.in-Err.ensures {u = tt}).bytes)

pub returns-in-Err-write_tasks-clause-bytes : goal.returns-in-Err-write_tasks-clause-bytes
returns-in-Err-write_tasks-clause-bytes g c =
    let net = c.args.net.now in
    let t = c.args.tables.now in
    let o0 = g.O.Sink.holds c.args.out.now in
    let o1 = g.O.Sink.holds c.write_cluster.new.out in
    let o2 = g.O.Sink.holds c.write_tasks.new.out in
    let b0 = c.args.buffer.now in
    let b1 = c.write_cluster.new.buffer in
    let b2 = c.write_tasks.new.buffer in
    let tasks = lines_of_tasks net c.args.graph.now t c.args.maxts.now (length net.tasks) in
    let rest = lines_of (line_of_job net c.args.graph.now) t.jobs ++ lines_of message_line t.messages in
    let f = c.in-Err-write_tasks.fault in
    let w1 = subst (λ n. Writes {E = SinkFault} o0 b0 (cluster_line net.shape n) o1 b1 (Ok tt)) c.cycle.ensures (c.in_default.ensures {u = tt}).bytes in
    writes_both {E = SinkFault} (Err f) o0 o1 o2 b0 b1 b2 (cluster_line net.shape c.args.graph.now.cycle) (tasks ++ rest) w1
    (writes_failed f f o1 o2 b1 b2 b2 tasks rest (c.in-Err-write_tasks.ensures {u = tt}).bytes)

pub returns-in-Err-write_jobs-clause-bytes : goal.returns-in-Err-write_jobs-clause-bytes
returns-in-Err-write_jobs-clause-bytes g c =
    let net = c.args.net.now in
    let t = c.args.tables.now in
    let o0 = g.O.Sink.holds c.args.out.now in
    let o1 = g.O.Sink.holds c.write_cluster.new.out in
    let o2 = g.O.Sink.holds c.write_tasks.new.out in
    let o3 = g.O.Sink.holds c.write_jobs.new.out in
    let b0 = c.args.buffer.now in
    let b1 = c.write_cluster.new.buffer in
    let b2 = c.write_tasks.new.buffer in
    let b3 = c.write_jobs.new.buffer in
    let tasks = lines_of_tasks net c.args.graph.now t c.args.maxts.now (length net.tasks) in
    let jobs = lines_of (line_of_job net c.args.graph.now) t.jobs in
    let rest = lines_of message_line t.messages in
    let f = c.in-Err-write_jobs.fault in
    let w1 = subst (λ n. Writes {E = SinkFault} o0 b0 (cluster_line net.shape n) o1 b1 (Ok tt)) c.cycle.ensures (c.in_default.ensures {u = tt}).bytes in
    let w3 = subst (λ js. Writes {E = SinkFault} o2 b2 (lines_of (line_of_job net c.args.graph.now) js) o3 b3 (Err f)) c.as_slice.ensures (c.in-Err-write_jobs.ensures {u = tt}).bytes in
    writes_both {E = SinkFault} (Err f) o0 o1 o3 b0 b1 b3 (cluster_line net.shape c.args.graph.now.cycle) (tasks ++ (jobs ++ rest)) w1
    (writes_both {E = SinkFault} (Err f) o1 o2 o3 b1 b2 b3 tasks (jobs ++ rest) (c.in_default-write_tasks.ensures {u = tt}).bytes (writes_failed f f o2 o3 b2 b3 b3 jobs rest w3))

pub returns-clause-bytes : goal.returns-clause-bytes
returns-clause-bytes g c =
    let net = c.args.net.now in
    let t = c.args.tables.now in
    let o0 = g.O.Sink.holds c.args.out.now in
    let o1 = g.O.Sink.holds c.write_cluster.new.out in
    let o2 = g.O.Sink.holds c.write_tasks.new.out in
    let o3 = g.O.Sink.holds c.write_jobs.new.out in
    let o4 = g.O.Sink.holds c.write_messages.new.out in
    let b0 = c.args.buffer.now in
    let b1 = c.write_cluster.new.buffer in
    let b2 = c.write_tasks.new.buffer in
    let b3 = c.write_jobs.new.buffer in
    let b4 = c.write_messages.new.buffer in
    let tasks = lines_of_tasks net c.args.graph.now t c.args.maxts.now (length net.tasks) in
    let jobs = lines_of (line_of_job net c.args.graph.now) t.jobs in
    let rest = lines_of message_line t.messages in
    let r = c.write_messages.result in
    let w1 = subst (λ n. Writes {E = SinkFault} o0 b0 (cluster_line net.shape n) o1 b1 (Ok tt)) c.cycle.ensures (c.in_default.ensures {u = tt}).bytes in
    let w3 = subst (λ js. Writes {E = SinkFault} o2 b2 (lines_of (line_of_job net c.args.graph.now) js) o3 b3 (Ok tt)) c.as_slice.ensures (c.in_default-write_jobs.ensures {u = tt}).bytes in
    let w4 = subst (λ ms. Writes o3 b3 (lines_of message_line ms) o4 b4 r) c.as_slice-2.ensures c.write_messages.ensures.bytes in
    writes_both r o0 o1 o4 b0 b1 b4 (cluster_line net.shape c.args.graph.now.cycle) (tasks ++ (jobs ++ rest)) w1
    (writes_both r o1 o2 o4 b1 b2 b4 tasks (jobs ++ rest) (c.in_default-write_tasks.ensures {u = tt}).bytes (writes_both r o2 o3 o4 b2 b3 b4 jobs rest w3 w4))
