-- An image's fields say the image, and no other.
use Rattle.std.proofs.Common.{◌≡◌, ℕ, ◌<◌, List, length, map, All, refl, sym, ◌∙◌, ap, subst}
use Rattle.std.proofs.lemmas.List.Elements.{All-weaker}
use Rattle.graph.specs.declared.net.Net.{Net}
use Rattle.graph.specs.declared.net.NetTask.{NetTask}
use Rattle.graph.specs.JobGraph.{JobGraph}
use Rattle.graph.specs.NetGraph.{IsNetGraphFor}
use Rattle.tables.specs.declared.rule.TableRule.TheVariants as rule
use Rattle.tables.specs.declared.table.JobEntry.{JobEntry}
use Rattle.tables.specs.declared.table.Message.{Message}
use Rattle.tables.specs.declared.table.Tables.{Tables}
use Rattle.tables.specs.Valid.{AreValid}
use Rattle.word_code.specs.declared.code.Code.{Code}
use Rattle.plant.specs.declared.system.Plant.{Plant}
use Rattle.plant.specs.Lengths.{lengths_of}
use Rattle.image_tables.specs.declared.entries.JobPart.{JobPart}
use Rattle.image_tables.specs.declared.entries.MessagePart.{MessagePart}
use Rattle.image_tasks.specs.declared.parts.TaskPart.{TaskPart}
use Rattle.image_fields.specs.declared.parts.Parts.{Parts}
use Rattle.image_sides.specs.Sides.{state_words}
use Rattle.one_graph.proofs.Whole.{one_graph}
use Rattle.image_plant.specs.Fields.{task_parts, job_part, message_part, parts_of}
use Rattle.image_plant.specs.Image.{IsImage}
use Rattle.image_plant.specs.Said.{net_of, maxts_of, entry_of, message_of, tables_of, IsSaid}
use Rattle.image_plant.proofs.Back.{map_back, All-unmap}
use Rattle.image_plant.proofs.SaidTasks.{tasks_back, say_tasks}
use Rattle.image_plant.proofs.JobNumbers.{entry_back, part_back, entries_there}

messages_back : (ms : List Message) → map message_of (map message_part ms) ≡ ms
messages_back ms = map_back message_part message_of ms (λ k d low. refl)

message_parts_back : (ps : List MessagePart) → map message_part (map message_of ps) ≡ ps
message_parts_back ps = map_back message_of message_part ps (λ k d low. refl)

abbrev with_lists : List JobEntry → List Message → Tables
with_lists jobs messages = record { jobs = jobs; messages = messages }

abbrev with_tasks : Net → List NetTask → Net
with_tasks net tasks = record { shape = net.shape; tasks = tasks; transactions = net.transactions; edges = net.edges; sensors = net.sensors; actuators = net.actuators }

-- the fields of an image say the image
pub image_said : (plant : Plant Code) → IsImage plant → IsSaid (parts_of plant) plant
image_said plant is =
    let order = is.in_order in
    let said = say_tasks plant.net.tasks plant.maxts plant.programs order.maxts order.programs is.ports.ins is.ports.outs in
    let net : plant.net ≡ net_of (parts_of plant) = ap (with_tasks plant.net) (sym said.tasks) in
    let jobs : map (entry_of plant.net plant.graph.cycle) (map (job_part plant.graph) plant.tables.jobs) ≡ plant.tables.jobs =
    map_back (job_part plant.graph) (entry_of plant.net plant.graph.cycle) plant.tables.jobs
    (All-weaker (λ (e : JobEntry). e.job < length plant.graph.jobs) (λ (e : JobEntry). entry_of plant.net plant.graph.cycle (job_part plant.graph e) ≡ e)
    (λ e low. entry_back plant.net (lengths_of plant.maxts plant.net.shape.cycles_per_tick) plant.graph order.graph.graph e low)
    plant.tables.jobs (entries_there plant.graph plant.tables (order.tables rule.Jobs))) in
    let tables : plant.tables ≡ tables_of plant.net plant.graph.cycle (parts_of plant) =
    ap (λ (js : List JobEntry). with_lists js plant.tables.messages) (sym jobs) ∙ ap (with_lists (map (entry_of plant.net plant.graph.cycle) (map (job_part plant.graph) plant.tables.jobs))) (sym (messages_back plant.tables.messages)) in
    record {
      net = net;
      programs = sym said.codes;
      maxts = sym said.maxts;
      states = is.ports.states ∙ ap (map state_words) (sym said.codes);
      graph = subst (λ (n : Net). IsNetGraphFor n (lengths_of (maxts_of (parts_of plant)) plant.net.shape.cycles_per_tick) plant.graph) net
          (subst (λ (ms : List ℕ). IsNetGraphFor plant.net (lengths_of ms plant.net.shape.cycles_per_tick) plant.graph) (sym said.maxts) order.graph);
      whole = is.graph;
      tables = tables ∙ ap (λ (n : Net). tables_of n plant.graph.cycle (parts_of plant)) net;
    }

-- fields say one plant
abbrev plant_with : Net → JobGraph → Tables → List Code → List ℕ → List ℕ → Plant Code
plant_with net graph tables programs maxts states = record { net = net; graph = graph; tables = tables; programs = programs; maxts = maxts; states = states }

same_plant : (a : Plant Code) (net : Net) (graph : JobGraph) (tables : Tables) (programs : List Code) (maxts states : List ℕ) → a.net ≡ net → a.graph ≡ graph → a.tables ≡ tables → a.programs ≡ programs → a.maxts ≡ maxts → a.states ≡ states
    → a ≡ plant_with net graph tables programs maxts states
same_plant a net graph tables programs maxts states p q r s t u =
    ap (λ (x : Net). plant_with x a.graph a.tables a.programs a.maxts a.states) p
    ∙ ap (λ (x : JobGraph). plant_with net x a.tables a.programs a.maxts a.states) q
    ∙ ap (λ (x : Tables). plant_with net graph x a.programs a.maxts a.states) r
    ∙ ap (λ (x : List Code). plant_with net graph tables x a.maxts a.states) s
    ∙ ap (λ (x : List ℕ). plant_with net graph tables programs x a.states) t
    ∙ ap (λ (x : List ℕ). plant_with net graph tables programs maxts x) u

pub one_plant : (p : Parts) (a b : Plant Code) → IsSaid p a → IsSaid p b → a ≡ b
one_plant p a b one two =
    let graph : a.graph ≡ b.graph = one_graph (net_of p) (lengths_of (maxts_of p) p.shape.cycles_per_tick) a.graph b.graph one.whole two.whole one.graph.graph two.graph.graph in
    let tables : a.tables ≡ b.tables = one.tables ∙ ap (λ (g : JobGraph). tables_of (net_of p) g.cycle p) graph ∙ sym two.tables in
    same_plant a b.net b.graph b.tables b.programs b.maxts b.states (one.net ∙ sym two.net) graph tables (one.programs ∙ sym two.programs) (one.maxts ∙ sym two.maxts) (one.states ∙ sym two.states)

abbrev parts_with : Net → List TaskPart → List JobPart → List MessagePart → Parts
parts_with net tasks jobs messages = record { shape = net.shape; tasks = tasks; transactions = net.transactions; edges = net.edges; sensors = net.sensors; actuators = net.actuators; jobs = jobs; messages = messages }

-- the plant that fields say has these fields, where its first table rule is kept
pub parts_said : (p : Parts) (plant : Plant Code) → IsSaid p plant → AreValid plant.net plant.graph plant.tables → parts_of plant ≡ p
parts_said p plant said valid =
    let g = plant.graph in
    let each = entries_there g plant.tables (valid rule.Jobs) in
    let entries : All (λ (e : JobEntry). e.job < length g.jobs) (map (entry_of (net_of p) g.cycle) p.jobs) = subst (λ (t : Tables). All (λ (e : JobEntry). e.job < length g.jobs) t.jobs) said.tables each in
    let jobs : map (job_part g) plant.tables.jobs ≡ p.jobs =
    ap (λ (t : Tables). map (job_part g) t.jobs) said.tables
    ∙ map_back (entry_of (net_of p) g.cycle) (job_part g) p.jobs
    (All-weaker (λ (q : JobPart). (entry_of (net_of p) g.cycle q).job < length g.jobs) (λ (q : JobPart). job_part g (entry_of (net_of p) g.cycle q) ≡ q)
    (λ q low. part_back (net_of p) (lengths_of (maxts_of p) p.shape.cycles_per_tick) g said.graph.graph said.whole.few_jobs q low)
    p.jobs (All-unmap (λ (e : JobEntry). e.job < length g.jobs) (entry_of (net_of p) g.cycle) p.jobs entries)) in
    let messages : map message_part plant.tables.messages ≡ p.messages = ap (λ (t : Tables). map message_part t.messages) said.tables ∙ message_parts_back p.messages in
    let tasks : task_parts plant.net.tasks plant.maxts plant.programs ≡ p.tasks =
    ap (λ (n : Net). task_parts n.tasks plant.maxts plant.programs) said.net
    ∙ ap (λ (ms : List ℕ). task_parts (net_of p).tasks ms plant.programs) said.maxts
    ∙ ap (λ (cs : List Code). task_parts (net_of p).tasks (maxts_of p) cs) said.programs
    ∙ tasks_back p.tasks in
    ap (λ (n : Net). parts_with n (task_parts plant.net.tasks plant.maxts plant.programs) (map (job_part g) plant.tables.jobs) (map message_part plant.tables.messages)) said.net
    ∙ ap (λ (ts : List TaskPart). parts_with (net_of p) ts (map (job_part g) plant.tables.jobs) (map message_part plant.tables.messages)) tasks
    ∙ ap (λ (js : List JobPart). parts_with (net_of p) p.tasks js (map message_part plant.tables.messages)) jobs
    ∙ ap (λ (ms : List MessagePart). parts_with (net_of p) p.tasks p.jobs ms) messages
