use Rattle.std.proofs.Common.{◌≡◌, ◌<◌, List, ℤ, length, Option, None, Some, sym, ◌∙◌, ap, arith, length-append}
use Rattle.std.specs.Borrow.{Bor}
use Rattle.std.specs.Prelude.{option_copied}
use Rattle.std.proofs.lemmas.Option.{get_or_from_slice_get}
use Rattle.graph.specs.Feeders.{feeder_of}
use Rattle.graph.specs.Net.{ins_of}
use Rattle.graph.specs.declared.job.Job.{Job}
use Rattle.tables.specs.Named.{no_job, job_at}
use Rattle.net_run.specs.Words.{brought, ports_to}
use Rattle.job_inputs.specs.Look.{looked_up}
use Rattle.job_inputs.proofs.Feeders.{limits, narrow, sums, sum_all, port_more, port_lacks}
use Rattle.job_inputs.proofs.ports.gather.Goals as goal

pub returns-in_default-clause-words : goal.returns-in_default-clause-words
returns-in_default-clause-words c =
    let net = c.args.net.now in let g = c.args.graph.now in
    let it = job_at g c.args.job in
    let it_is : it ≡ c.job.result = get_or_from_slice_get g.jobs c.args.job c.job.result no_job c.job.ensures in
    let ports_is : c.ins_of.result.now ≡ ins_of net it.task = c.ins_of.ensures ∙ ap (λ (j : Job). ins_of net j.task) (sym it_is) in
    let look = looked_up net g c.args.tables.now c.args.unit c.args.book.now c.args.inbox.now it.instance in
    let none : brought net g.cycle c.args.line.now look it.instance (feeder_of net it.task c.loop-port.port) ≡ None =
    sym c.port_brings.ensures.words ∙ ap (λ (o : Option (Bor (List ℤ))). option_copied o) c.in_default.is in
    port_lacks net g.cycle c.args.line.now look it.instance it.task c.loop-port.port (length (ins_of net it.task)) (omega (arith, c.loop-port-test.true, ap length ports_is)) none

pub add-requires : goal.add-requires
add-requires c =
    let net = c.args.net.now in let g = c.args.graph.now in
    let it = job_at g c.args.job in
    let it_is : it ≡ c.job.result = get_or_from_slice_get g.jobs c.args.job c.job.result no_job c.job.ensures in
    let ports_is : c.ins_of.result.now ≡ ins_of net it.task = c.ins_of.ensures ∙ ap (λ (j : Job). ins_of net j.task) (sym it_is) in
    let low : c.loop-port.port < length (ins_of net it.task) = omega (arith, c.loop-port-test.true, ap length ports_is) in
    let few = (limits net g c.requires.net c.args.job c.requires.job).ports in
    omega (arith, c.loop-port.invariant.few, c.in-Some.ensures.width, narrow net g c.requires.net c.args.job c.requires.job c.loop-port.port low, few, low)

pub loop-port-preserved : goal.loop-port-preserved
loop-port-preserved c =
    let net = c.args.net.now in let g = c.args.graph.now in
    let it = job_at g c.args.job in
    let it_is : it ≡ c.job.result = get_or_from_slice_get g.jobs c.args.job c.job.result no_job c.job.ensures in
    let ports_is : c.ins_of.result.now ≡ ins_of net it.task = c.ins_of.ensures ∙ ap (λ (j : Job). ins_of net j.task) (sym it_is) in
    let low : c.loop-port.port < length (ins_of net it.task) = omega (arith, c.loop-port-test.true, ap length ports_is) in
    let look = looked_up net g c.args.tables.now c.args.unit c.args.book.now c.args.inbox.now it.instance in
    let words = c.in-Some.words.now in
    let some : brought net g.cycle c.args.line.now look it.instance (feeder_of net it.task c.loop-port.port) ≡ Some words =
    sym c.port_brings.ensures.words ∙ ap (λ (o : Option (Bor (List ℤ))). option_copied o) c.in-Some.is in
    let width = c.in-Some.ensures.width in
    let long = length-append c.loop-port.ins words in
    let both = ap length c.add.ensures in
    record {
      ports = port_more net g.cycle c.args.line.now look it.instance it.task c.loop-port.port c.loop-port.ins words c.loop-port.invariant.ports some ∙ ap (λ (ins : List ℤ). Some ins) (sym c.add.ensures);
      count = omega (arith, both, long, c.loop-port.invariant.count, width, sums (ins_of net it.task) c.loop-port.port low);
      few = omega (arith, both, long, c.loop-port.invariant.few, width, narrow net g c.requires.net c.args.job c.requires.job c.loop-port.port low);
    }

pub returns-clause-words : goal.returns-clause-words
returns-clause-words c =
    let net = c.args.net.now in let g = c.args.graph.now in
    let it = job_at g c.args.job in
    let it_is : it ≡ c.job.result = get_or_from_slice_get g.jobs c.args.job c.job.result no_job c.job.ensures in
    let ports_is : c.ins_of.result.now ≡ ins_of net it.task = c.ins_of.ensures ∙ ap (λ (j : Job). ins_of net j.task) (sym it_is) in
    let look = looked_up net g c.args.tables.now c.args.unit c.args.book.now c.args.inbox.now it.instance in
    let at_end : length (ins_of net it.task) ≡ c.loop-port.port = omega (arith, c.loop-port-test.false, c.loop-port.auto.port-end, ap length ports_is) in
    ap (ports_to net g.cycle c.args.line.now look it.instance it.task) at_end ∙ c.loop-port.invariant.ports

pub returns-clause-count : goal.returns-clause-count
returns-clause-count c =
    let net = c.args.net.now in let g = c.args.graph.now in
    let it = job_at g c.args.job in
    let it_is : it ≡ c.job.result = get_or_from_slice_get g.jobs c.args.job c.job.result no_job c.job.ensures in
    let ports_is : c.ins_of.result.now ≡ ins_of net it.task = c.ins_of.ensures ∙ ap (λ (j : Job). ins_of net j.task) (sym it_is) in
    λ done. c.loop-port.invariant.count ∙ sum_all (ins_of net it.task) c.loop-port.port (omega (arith, c.loop-port-test.false, ap length ports_is))
