use Rattle.std.proofs.Common.{◌≡◌, ◌≤◌, ℕ, List, length, ap, arith}
use Rattle.std.specs.Prelude.{slice_index}
use Rattle.graph.specs.Net.{outs_of}
use Rattle.job_inputs.proofs.Feeders.{sums}
use Rattle.replica_room.proofs.Outs.{few_outs, narrow_out}
use Rattle.replica_room.proofs.jobs.words_given.Goals as goal

pub loop-width-preserved : goal.loop-width-preserved
loop-width-preserved c =
    let outs = c.outs_of-width-items.result.now in
    let i = c.loop-width.width-index in
    let is : outs ≡ outs_of c.args.net.now c.args.task = c.outs_of-width-items.ensures in
    let narrow : slice_index (outs_of c.args.net.now c.args.task) i ≤ 16 = narrow_out c.args.net.now c.requires c.args.task i (omega (arith, c.loop-width-test.true, ap length is)) in
    record {
      words = omega (arith, sums outs i c.loop-width-test.true, c.loop-width.invariant.words, c.from-words.ensures);
      few = omega (arith, c.loop-width.invariant.few, c.from-words.ensures, ap (λ (ws : List ℕ). slice_index ws i) is, narrow);
    }

pub returns-clause-few : goal.returns-clause-few
returns-clause-few c =
    let outs = few_outs c.args.net.now c.requires c.args.task in
    omega (arith, outs, ap length c.outs_of-width-items.ensures, c.loop-width.invariant.few, c.loop-width.auto.width-index-end)
