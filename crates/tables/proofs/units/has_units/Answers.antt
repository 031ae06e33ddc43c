use Rattle.std.proofs.Common.{ap, length, arith}
use Rattle.graph.proofs.Answering.{no, yes}
use Rattle.tables.proofs.FirstJobs.{on_unit, all_units}
use Rattle.tables.proofs.units.has_units.Goals as goal

pub returns-then-not-is_on_unit : goal.returns-then-not-is_on_unit
returns-then-not-is_on_unit c = no _ (λ h.
    let low = c.loop-job-test.true in
    let n = ap length c.job_list-job-end.ensures in
    let e = c.is_on_unit.ensures.1 (on_unit c.args.net.now c.args.graph.now c.args.tables.now c.loop-job.job c.requires.net h (omega (arith, low, n))) in
    absurd (cc (e, c.if-not-is_on_unit.true)))

pub returns : goal.returns
returns c = yes _ (all_units c.args.net.now c.args.graph.now c.args.tables.now c.requires.net (λ job low.
    let n = ap length c.job_list-job-end.ensures in c.loop-job.invariant job (omega (arith, n, c.loop-job-test.false, low))))
