use Rattle.std.proofs.Common.{◌≡◌, ◌<◌, ℕ, List, ℤ, length, Some, sym, ◌∙◌, ap, subst}
use Rattle.std.specs.Prelude.{IfSome}
use Rattle.std.proofs.lemmas.Option.{get_or_from_slice_get}
use Rattle.graph.specs.Feeders.{feeder_of}
use Rattle.graph.specs.Jobs.{job_number}
use Rattle.graph.specs.Net.{instances}
use Rattle.graph.specs.declared.feeder.Feeder.{Feeder}
use Rattle.graph.specs.declared.feeder.Feeder.TheVariants as feeder
use Rattle.graph.specs.declared.job.Job.{Job}
use Rattle.tables.specs.Named.{no_job, edge_at, job_at}
use Rattle.net_run.specs.Words.{sensor_at, brought}
use Rattle.job_inputs.specs.Look.{looked_up}
use Rattle.job_inputs.proofs.Feeders.{is_fed, runs, goes_to, as_wide, sensor_runs, sensor_wide}
use Rattle.job_inputs.proofs.ports.port_brings.Goals as goal

pub edge_in-requires-clause-instance : goal.edge_in-requires-clause-instance
edge_in-requires-clause-instance c =
    let net = c.args.net.now in let g = c.args.graph.now in let edge = c.in-Some-Edge.edge in
    let it_is : job_at g c.args.job ≡ c.job-it.result = get_or_from_slice_get g.jobs c.args.job c.job-it.result no_job c.job-it.ensures in
    let fed : feeder_of net (job_at g c.args.job).task c.args.port ≡ Some (feeder.Edge edge) =
    ap (λ (j : Job). feeder_of net j.task c.args.port) it_is ∙ sym (c.in-Some-Edge.ensures.feeder net c.requires.net) ∙ ap (λ (f : Feeder). Some f) c.in-Some-Edge.field-0-is in
    subst (λ (j : Job). j.instance < instances net g.cycle (edge_at net edge).from_task) it_is (runs net g c.requires.net c.args.job c.requires.job c.args.port edge fed)

pub edge_in-requires-clause-to : goal.edge_in-requires-clause-to
edge_in-requires-clause-to c =
    let net = c.args.net.now in let g = c.args.graph.now in let edge = c.in-Some-Edge.edge in
    let it_is : job_at g c.args.job ≡ c.job-it.result = get_or_from_slice_get g.jobs c.args.job c.job-it.result no_job c.job-it.ensures in
    let fed : feeder_of net (job_at g c.args.job).task c.args.port ≡ Some (feeder.Edge edge) =
    ap (λ (j : Job). feeder_of net j.task c.args.port) it_is ∙ sym (c.in-Some-Edge.ensures.feeder net c.requires.net) ∙ ap (λ (f : Feeder). Some f) c.in-Some-Edge.field-0-is in
    ap (λ (j : Job). job_number net g.cycle (edge_at net edge).to_task j.instance) (sym it_is) ∙ goes_to net g c.requires.net c.args.job c.requires.job c.args.port edge fed

pub returns-in-Some-Edge-clause-words : goal.returns-in-Some-Edge-clause-words
returns-in-Some-Edge-clause-words c =
    let net = c.args.net.now in let g = c.args.graph.now in let t = c.args.tables.now in let edge = c.in-Some-Edge.edge in
    let it_is : job_at g c.args.job ≡ c.job-it.result = get_or_from_slice_get g.jobs c.args.job c.job-it.result no_job c.job-it.ensures in
    let fed : feeder_of net (job_at g c.args.job).task c.args.port ≡ Some (feeder.Edge edge) =
    ap (λ (j : Job). feeder_of net j.task c.args.port) it_is ∙ sym (c.in-Some-Edge.ensures.feeder net c.requires.net) ∙ ap (λ (f : Feeder). Some f) c.in-Some-Edge.field-0-is in
    c.edge_in.ensures.words
    ∙ ap (λ (j : Job). looked_up net g t c.args.unit c.args.book.now c.args.inbox.now j.instance edge) (sym it_is)
    ∙ sym (ap (brought net g.cycle c.args.line.now (looked_up net g t c.args.unit c.args.book.now c.args.inbox.now (job_at g c.args.job).instance) (job_at g c.args.job).instance) fed)

pub returns-in-Some-Edge-clause-width : goal.returns-in-Some-Edge-clause-width
returns-in-Some-Edge-clause-width c =
    let net = c.args.net.now in let g = c.args.graph.now in let edge = c.in-Some-Edge.edge in
    let it_is : job_at g c.args.job ≡ c.job-it.result = get_or_from_slice_get g.jobs c.args.job c.job-it.result no_job c.job-it.ensures in
    let fed : feeder_of net (job_at g c.args.job).task c.args.port ≡ Some (feeder.Edge edge) =
    ap (λ (j : Job). feeder_of net j.task c.args.port) it_is ∙ sym (c.in-Some-Edge.ensures.feeder net c.requires.net) ∙ ap (λ (f : Feeder). Some f) c.in-Some-Edge.field-0-is in
    subst (λ (n : ℕ). IfSome c.edge_in.result (λ words. length words.now ≡ n)) (as_wide net g c.requires.net c.args.job c.requires.job c.args.port edge fed) c.edge_in.ensures.width

pub sensor_part-requires-clause-instance : goal.sensor_part-requires-clause-instance
sensor_part-requires-clause-instance c =
    let net = c.args.net.now in let g = c.args.graph.now in let sensor = c.in-Some-Sensor.sensor in
    let it_is : job_at g c.args.job ≡ c.job-it.result = get_or_from_slice_get g.jobs c.args.job c.job-it.result no_job c.job-it.ensures in
    let fed : feeder_of net (job_at g c.args.job).task c.args.port ≡ Some (feeder.Sensor sensor) =
    ap (λ (j : Job). feeder_of net j.task c.args.port) it_is ∙ sym (c.in-Some-Sensor.ensures.feeder net c.requires.net) ∙ ap (λ (f : Feeder). Some f) c.in-Some-Sensor.field-0-is in
    λ plug e. subst (λ (j : Job). j.instance < instances net g.cycle plug.task) it_is (sensor_runs net g c.requires.net c.args.job c.requires.job c.args.port sensor fed plug e)

pub returns-in-Some-Sensor-clause-words : goal.returns-in-Some-Sensor-clause-words
returns-in-Some-Sensor-clause-words c =
    let net = c.args.net.now in let g = c.args.graph.now in let t = c.args.tables.now in let sensor = c.in-Some-Sensor.sensor in
    let it_is : job_at g c.args.job ≡ c.job-it.result = get_or_from_slice_get g.jobs c.args.job c.job-it.result no_job c.job-it.ensures in
    let fed : feeder_of net (job_at g c.args.job).task c.args.port ≡ Some (feeder.Sensor sensor) =
    ap (λ (j : Job). feeder_of net j.task c.args.port) it_is ∙ sym (c.in-Some-Sensor.ensures.feeder net c.requires.net) ∙ ap (λ (f : Feeder). Some f) c.in-Some-Sensor.field-0-is in
    ap (λ (words : List ℤ). Some words) c.sensor_part.ensures.words
    ∙ ap (λ (j : Job). Some (sensor_at net g.cycle sensor j.instance c.args.line.now)) (sym it_is)
    ∙ sym (ap (brought net g.cycle c.args.line.now (looked_up net g t c.args.unit c.args.book.now c.args.inbox.now (job_at g c.args.job).instance) (job_at g c.args.job).instance) fed)

pub returns-in-Some-Sensor-clause-width : goal.returns-in-Some-Sensor-clause-width
returns-in-Some-Sensor-clause-width c =
    let net = c.args.net.now in let g = c.args.graph.now in let sensor = c.in-Some-Sensor.sensor in
    let it_is : job_at g c.args.job ≡ c.job-it.result = get_or_from_slice_get g.jobs c.args.job c.job-it.result no_job c.job-it.ensures in
    let fed : feeder_of net (job_at g c.args.job).task c.args.port ≡ Some (feeder.Sensor sensor) =
    ap (λ (j : Job). feeder_of net j.task c.args.port) it_is ∙ sym (c.in-Some-Sensor.ensures.feeder net c.requires.net) ∙ ap (λ (f : Feeder). Some f) c.in-Some-Sensor.field-0-is in
    sensor_wide net g c.requires.net c.args.job c.requires.job c.args.port sensor fed c.sensor_part.result.now c.sensor_part.ensures.width

pub unreachable-requires : goal.unreachable-requires
unreachable-requires c =
    let net = c.args.net.now in let g = c.args.graph.now in
    let it_is : job_at g c.args.job ≡ c.job-it.result = get_or_from_slice_get g.jobs c.args.job c.job-it.result no_job c.job-it.ensures in
    is_fed net g c.requires.net c.args.job c.requires.job c.args.port c.requires.port
    (ap (λ (j : Job). feeder_of net j.task c.args.port) it_is ∙ sym (c.in-None.ensures.feeder net c.requires.net))
