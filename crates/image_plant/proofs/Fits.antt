-- A plant in order whose codes fit fits the fields of an image.
use Rattle.std.proofs.Common.{ℕ, ◌<◌, ◌≤◌, List, [], ◌∷◌, length, map, All, refl, arith, get_or}
use Rattle.std.specs.Int.{w8, w16}
use Rattle.std.proofs.lemmas.List.{length-map}
use Rattle.std.proofs.lemmas.List.Elements.{All-cons, All-from_get_or, All-head, All-map, All-nil, All-tail}
use Rattle.formats.specs.Format.{number}
use Rattle.mars_base.specs.Name.{IsName}
use Rattle.graph.specs.declared.net.Net.{Net}
use Rattle.graph.specs.declared.net.NetTask.{NetTask}
use Rattle.graph.specs.JobGraph.{JobGraph, IsJobGraph}
use Rattle.graph.specs.NetGraph.{IsNetGraphFor}
use Rattle.graph.specs.Sound.{KeepsRules}
use Rattle.tables.specs.declared.table.JobEntry.{JobEntry}
use Rattle.tables.specs.declared.table.Message.{Message}
use Rattle.tables.specs.declared.table.Tables.{Tables}
use Rattle.tables.specs.declared.rule.TableRule.TheVariants as rule
use Rattle.tables.specs.Named.{job_at, entry_at, no_entry, no_message}
use Rattle.tables.specs.Valid.{AreValid}
use Rattle.word_code.specs.Typing.{IsVerified}
use Rattle.word_code.specs.declared.code.Code.{Code}
use Rattle.plant.specs.declared.system.Plant.{Plant}
use Rattle.plant.specs.InOrder.{IsInOrder, IsMaxt}
use Rattle.plant.specs.Lengths.{lengths_of}
use Rattle.image_parts.specs.Records.{transaction, edge, plug}
use Rattle.image_tables.specs.Entries.{job, message}
use Rattle.image_tasks.specs.Task.{code, task}
use Rattle.image_fields.specs.Image.{head, lists, lists_of, body, image}
use Rattle.image_plant.specs.Fields.{task_part, task_parts, job_part, message_part, parts_of}
use Rattle.image_plant.specs.Image.{HasPorts, IsImage}
use Rattle.image_plant.proofs.Codes.{counted_fits}
use Rattle.image_plant.proofs.Ranges.{entry_fits, message_fits, few_messages}
use Rattle.image_plant.proofs.SaidTasks.{say_tasks}
use Rattle.image_plant.proofs.Small.{name_fits, shape_fits, mask_fits, transaction_fits, edge_fits, sensor_fits, actuator_fits}

-- what a task of the net has by itself
record TaskFits (t : NetTask) : Type 0 where
  named : IsName t.name
  transaction : t.transaction ≤ 255
  units : t.units ≤ 255

task_fits : (t : NetTask) (m : ℕ) (c : Code) → TaskFits t → IsMaxt m → code.fits c → task.fits (task_part t m c)
unfolding task
task_fits t m c fits maxt good = ((name_fits t.name fits.named, ((omega arith, fits.transaction), ((omega arith, fits.units), (maxt, good)))), refl)

tasks_fit : (ts : List NetTask) (ms : List ℕ) (cs : List Code) → All TaskFits ts → All IsMaxt ms → All code.fits cs → All task.fits (task_parts ts ms cs)
tasks_fit [] ms cs a b c = All-nil task.fits
tasks_fit (t ∷ ts) [] cs a b c = All-nil task.fits
tasks_fit (t ∷ ts) (m ∷ ms) [] a b c = All-nil task.fits
tasks_fit (t ∷ ts) (m ∷ ms) (d ∷ cs) a b c =
    All-cons task.fits (task_part t m d) (task_parts ts ms cs) (task_fits t m d (All-head TaskFits t ts a) (All-head IsMaxt m ms b) (All-head code.fits d cs c))
    (tasks_fit ts ms cs (All-tail TaskFits t ts a) (All-tail IsMaxt m ms b) (All-tail code.fits d cs c))

job_fits : (net : Net) (lengths : List ℕ) (g : JobGraph) (t : Tables) → IsNetGraphFor net lengths g → IsJobGraph g → AreValid net g t → (i : ℕ) → i < length t.jobs → job.fits (job_part g (entry_at t i))
unfolding job
job_fits net lengths g t is whole valid i low =
    let n = (valid rule.Jobs).numbers i low in
    let inside : i < length g.jobs = omega (arith, low, (valid rule.Jobs).count) in
    let f = entry_fits net lengths g t is whole valid i inside in
    let few = is.rules.entry_rules.counts.tasks in
    let task_low : (job_at g (entry_at t i).job).task < 64 = rw n (omega (arith, f.task, few)) in
    let instance_low : (job_at g (entry_at t i).job).instance < 512 = rw n f.instance in
    (((omega arith, omega (arith, task_low)), ((omega arith, omega (arith, instance_low)), ((omega arith, omega (arith, f.unit)), ((omega arith, omega (arith, f.start)), (omega arith, omega (arith, f.end)))))), refl)

message_part_fits : (net : Net) (lengths : List ℕ) (g : JobGraph) (t : Tables) → IsNetGraphFor net lengths g → IsJobGraph g → AreValid net g t → (i : ℕ) → i < length t.messages → message.fits (message_part (get_or t.messages i no_message))
unfolding message
message_part_fits net lengths g t is whole valid i low =
    let f = message_fits net lengths g t is whole valid i low in
    (((omega arith, omega (arith, f.edge)), ((omega arith, omega (arith, f.instance)), ((omega arith, omega (arith, f.unit)), ((omega arith, omega (arith, f.round)), (omega arith, omega (arith, f.offset)))))), refl)

module _ (plant : Plant Code) (order : IsInOrder plant) (ports : HasPorts plant) (good : IsJobGraph plant.graph) (codes : All code.fits plant.programs) where
  abbrev net : Net
  net = plant.net

  rules : KeepsRules net
  rules = order.sound.rules

  lists_fit : lists.fits (lists_of (parts_of plant))
  unfolding lists
  lists_fit =
      let counts = rules.entry_rules.counts in
      let entries = rules.entry_rules.entries in
      let names = rules.entry_rules.names in
      let lengths = lengths_of plant.maxts net.shape.cycles_per_tick in (
        counted_fits (number w16 0 1024) edge net.edges (omega arith, counts.edges) (λ k d low. edge_fits net entries counts.tasks _ (entries.edges k d low)),
        (
          counted_fits (number w16 0 1024) plug net.sensors (omega arith, counts.sensors) (λ k d low. sensor_fits net entries counts.tasks _ (names.sensors.form k d low) (entries.sensors k d low)),
          (
            counted_fits (number w16 0 1024) plug net.actuators (omega arith, counts.actuators) (λ k d low. actuator_fits net entries counts.tasks _ (names.actuators.form k d low) (entries.actuators k d low)),
            (
              counted_fits (number w16 0 512) job (map (job_part plant.graph) plant.tables.jobs) (omega arith, omega (arith, length-map plant.tables.jobs (job_part plant.graph), (order.tables rule.Jobs).count, good.few_jobs))
                  (All-map job.fits (job_part plant.graph) plant.tables.jobs (All-from_get_or (λ (e : JobEntry). job.fits (job_part plant.graph e)) plant.tables.jobs no_entry (λ i low. job_fits net lengths plant.graph plant.tables order.graph good order.tables i low))),
              counted_fits (number w16 0 65535) message (map message_part plant.tables.messages) (omega arith, omega (arith, length-map plant.tables.messages message_part, few_messages net lengths plant.graph plant.tables order.graph good order.tables))
                  (All-map message.fits message_part plant.tables.messages (All-from_get_or (λ (m : Message). message.fits (message_part m)) plant.tables.messages no_message (λ i low. message_part_fits net lengths plant.graph plant.tables order.graph good order.tables i low))),
            ),
          ),
        ),
      )

  task_is : (k : ℕ) (d : NetTask) → k < length net.tasks → TaskFits (get_or net.tasks k d)
  task_is k d low =
      let is = rules.entry_rules.entries.tasks k d low in
      record {
        named = rules.entry_rules.names.tasks.form k d low;
        transaction = omega (arith, is.transaction, rules.entry_rules.counts.transactions);
        units = mask_fits (get_or net.tasks k d).units net.shape.units rules.entry_rules.shape.units.1 is.known_units;
      }

  body_fits : body.fits (parts_of plant)
  unfolding body
  body_fits =
      let counts = rules.entry_rules.counts in
      let said = say_tasks net.tasks plant.maxts plant.programs order.maxts order.programs ports.ins ports.outs in (
        (
          shape_fits net.shape rules.entry_rules.shape,
          (
            counted_fits (number w8 1 64) task (task_parts net.tasks plant.maxts plant.programs) (omega (arith, said.size, counts.some_task), omega (arith, said.size, counts.tasks)) (tasks_fit net.tasks plant.maxts plant.programs task_is order.each_maxt codes),
            (
              counted_fits (number w8 1 32) transaction net.transactions (counts.some_transaction, counts.transactions) (λ k d low. transaction_fits _ (rules.entry_rules.names.transactions.form k d low) (rules.entry_rules.entries.transactions k d low)),
              lists_fit,
            ),
          ),
        ),
        refl,
      )

  -- its fields fit
  pub image_fits : image.fits (parts_of plant)
  unfolding image head
  image_fits = (((((omega arith, omega arith), (omega arith, omega arith)), refl), body_fits), refl)

-- and it is an image, where its codes are verified
pub is_image : (plant : Plant Code) → IsInOrder plant → HasPorts plant → IsJobGraph plant.graph → All IsVerified plant.programs → All code.fits plant.programs → IsImage plant
is_image plant order ports good verified codes = record { in_order = order; codes = verified; ports = ports; graph = good; fits = image_fits plant order ports good codes }
