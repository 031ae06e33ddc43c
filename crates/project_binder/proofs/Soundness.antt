-- The net of a project that keeps its rules, and of ports without a fault, keeps the rules of nets.
use Rattle.std.proofs.Common.{◌≡◌, ℕ, zero, suc, ◌<◌, ◌≤◌, nat_le, ◌==◌, true, List, length, get_or, Some, refl, sym, ◌∙◌, ap, subst, arith}
use Rattle.std.specs.Prelude.{slice_get, slice_index, All, Any}
use Rattle.std.proofs.lemmas.Bool.Decides.{nat_tests}
use Rattle.std.proofs.lemmas.List.{length-map}
use Rattle.std.proofs.lemmas.List.Elements.{All-map}
use Rattle.std.proofs.lemmas.Option.{slice_get_within, slice_get-get_or, get_or_from_slice_get}
use Rattle.mars_base.specs.declared.shape.Port.{Port}
use Rattle.graph.specs.declared.net.Net.{Net}
use Rattle.graph.specs.declared.net.NetTask.{NetTask}
use Rattle.graph.specs.declared.net.Edge.{Edge}
use Rattle.graph.specs.declared.net.Plug.{Plug}
use Rattle.graph.specs.Net.{ins_of, outs_of, Feeds}
use Rattle.graph.specs.Order.{HasNoCircle}
use Rattle.graph.specs.Rules.{IsWidth, IsTask, IsEdge, IsSensor, IsActuator}
use Rattle.graph.specs.Sound.{HasCounts, HasEntries, HasNames, IsFedOnce, KeepsRules}
use Rattle.graph.proofs.Entries.{All_at}
use Rattle.project_sheet.specs.declared.place.Section.TheVariants.{Task, Edge as Edges, Sensor, Actuator}
use Rattle.project_sheet.specs.declared.place.Place.{Place}
use Rattle.project_sheet.specs.declared.kind.Kind.{Kind}
use Rattle.project_sheet.specs.declared.kind.Kind.TheVariants as kind
use Rattle.project_sheet.proofs.Firsts.{place_at}
use Rattle.project_reader.specs.declared.project.Project.{Project}
use Rattle.project_reader.specs.declared.project.TaskEntry.{TaskEntry}
use Rattle.project_reader.specs.declared.project.Wire.{Wire}
use Rattle.project_reader.specs.declared.project.Outlet.{Outlet}
use Rattle.project_rules.specs.Kept.{IsEntry, IsJoin, IsAtTask, Joins, KeepsProject}
use Rattle.project_rules.proofs.Lists.{all_standing, mapped, map_twice, from_map}
use Rattle.project_rules.proofs.Tests.{either_false, not_false, nowhere, below}
use Rattle.task_ports.specs.declared.ports.TaskPorts.{TaskPorts}
use Rattle.task_ports.specs.Ports.{HasPortWidth, IsTaskPorts}
use Rattle.port_feeds.specs.Feeds.{feeds_of}
use Rattle.port_feeds.proofs.Feeders.{one_feeder}
use Rattle.project_binder.specs.NetOf.{widths_of, net_task, edge_of, sensor_of, actuator_of, net_of}
use Rattle.project_binder.specs.PortFaults.{is_edge_loose, is_sensor_loose, is_actuator_loose, is_uneven, BindFails, IsBound}
use Rattle.project_binder.proofs.NetFacts.{IsMade, made_at, tasks_many, task_names, at_number, both_at, transaction_kept}
use Rattle.project_binder.proofs.Renamed.{names_as}

same_numbers : (m n : ℕ) → (m == n) ≡ true → m ≡ n
same_numbers m n e = grind (arith, nat_tests)

one_is : (n : ℕ) → (n ≡ 0 → ⊥) → (2 ≤ n → ⊥) → n ≡ 1
one_is zero h k = absurd (h refl)
one_is (suc zero) h k = refl
one_is (suc (suc n)) h k = absurd (k (omega arith))

module _ (p : Project) (ports : List TaskPorts) (kept : KeepsProject p) (same : length ports ≡ length p.tasks) (fine : All IsTaskPorts ports)
    (none : (k : Kind) (q : Place) → BindFails (net_of p ports) k q → ⊥) where
  abbrev net : Net
  net = net_of p ports

  many : length net.tasks ≡ length p.tasks
  many = tasks_many p.tasks ports same

  counts : HasCounts net
  counts = record {
    some_task = omega (arith, many, kept.counts.some_task);
    tasks = omega (arith, many, kept.counts.tasks);
    some_transaction = kept.counts.some_transaction;
    transactions = kept.counts.transactions;
    edges = omega (arith, length-map p.edges (edge_of ports), kept.counts.edges);
    sensors = omega (arith, length-map p.sensors (sensor_of ports), kept.counts.sensors);
    actuators = omega (arith, length-map p.actuators (actuator_of ports), kept.counts.actuators);
  }

  width_all : (qs : List Port) → All HasPortWidth qs → All IsWidth (widths_of qs)
  width_all qs all = All-map IsWidth (λ (q : Port). q.width) qs all

  task_is : (i : ℕ) (n : NetTask) → slice_get net.tasks i ≡ Some n → IsTask net n
  task_is i n at = subst (IsTask net) (sym m.made) (record {
    some_unit = entry.some_unit;
    known_units = entry.known_units;
    transaction = entry.transaction;
    ports = omega (arith, length-map m.ports.ins (λ (q : Port). q.width), length-map m.ports.outs (λ (q : Port). q.width), its.few);
    in_widths = width_all m.ports.ins its.in_widths;
    out_widths = width_all m.ports.outs its.out_widths;
  })
    where
      m : IsMade p.tasks ports i n
      m = made_at p.tasks ports i n at

      entry : IsEntry p m.task
      entry = All_at (IsEntry p) p.tasks i m.task kept.tasks m.task_is

      its : IsTaskPorts m.ports
      its = All_at IsTaskPorts ports i m.ports fine m.ports_are

  used : (t : ℕ) → t < length net.transactions → Any (λ (n : NetTask). n.transaction ≡ t) net.tasks
  used t lt =
      let (k, e, low, at, is) = kept.used t lt in
      let (u, q, stands, there) = both_at p ports same k low in
      let one : get_or p.tasks k e ≡ u = get_or_from_slice_get p.tasks k u e stands in
      let made = at_number p.tasks ports k u q stands there in
      (k, net_task u q, slice_get_within net.tasks k (net_task u q) made, get_or_from_slice_get net.tasks k (net_task u q) (net_task u q) made, ap (λ (x : TaskEntry). x.transaction) (sym one ∙ at) ∙ is)

  tight : (i : ℕ) (e : Edge) → slice_get net.edges i ≡ Some e → (e.from_port < length (outs_of net e.from_task)) × (e.to_port < length (ins_of net e.to_task))
  tight i e at =
      let loose = nowhere (is_edge_loose net) net.edges (λ i a. none kind.UnknownPort (place_at Edges i) a) i e at in
      let w = either_false (nat_le (length (outs_of net e.from_task)) e.from_port) (nat_le (length (ins_of net e.to_task)) e.to_port) loose in
      (below (length (outs_of net e.from_task)) e.from_port w.0, below (length (ins_of net e.to_task)) e.to_port w.1)

  even : (i : ℕ) (e : Edge) → slice_get net.edges i ≡ Some e → slice_index (outs_of net e.from_task) e.from_port ≡ slice_index (ins_of net e.to_task) e.to_port
  even i e at =
      let uneven = nowhere (is_uneven net) net.edges (λ i a. none kind.WidthDiffers (place_at Edges i) a) i e at in
      same_numbers (slice_index (outs_of net e.from_task) e.from_port) (slice_index (ins_of net e.to_task) e.to_port) (not_false (slice_index (outs_of net e.from_task) e.from_port == slice_index (ins_of net e.to_task) e.to_port) uneven)

  edge_is : (i : ℕ) (w : Wire) → slice_get p.edges i ≡ Some w → IsEdge net (edge_of ports w)
  edge_is i w at =
      let join = All_at (IsJoin p) p.edges i w kept.edges at in
      let there = mapped (edge_of ports) p.edges i w at in
      let ends = tight i (edge_of ports w) there in
      record {
        from_task = omega (arith, many, join.from_task);
        to_task = omega (arith, many, join.to_task);
        transaction = transaction_kept p ports same w.from.task join.from_task ∙ join.transaction ∙ sym (transaction_kept p ports same w.to.task join.to_task);
        from_port = ends.0;
        to_port = ends.1;
        width = even i (edge_of ports w) there;
      }

  sensor_is : (i : ℕ) (o : Outlet) → slice_get p.sensors i ≡ Some o → IsSensor net (sensor_of ports o)
  sensor_is i o at =
      let s = sensor_of ports o in
      let low : o.port.task < length p.tasks = All_at (IsAtTask p) p.sensors i o kept.sensors at in
      let loose = nowhere (is_sensor_loose net) net.sensors (λ i a. none kind.UnknownPort (place_at Sensor i) a) i s (mapped (sensor_of ports) p.sensors i o at) in
      record { task = omega (arith, many, low); port = below (length (ins_of net s.task)) s.port loose }

  actuator_is : (i : ℕ) (o : Outlet) → slice_get p.actuators i ≡ Some o → IsActuator net (actuator_of ports o)
  actuator_is i o at =
      let a = actuator_of ports o in
      let low : o.port.task < length p.tasks = All_at (IsAtTask p) p.actuators i o kept.actuators at in
      let loose = nowhere (is_actuator_loose net) net.actuators (λ i a. none kind.UnknownPort (place_at Actuator i) a) i a (mapped (actuator_of ports) p.actuators i o at) in
      record { task = omega (arith, many, low); port = below (length (outs_of net a.task)) a.port loose }

  entries : HasEntries net
  entries = record {
    tasks = all_standing (IsTask net) net.tasks task_is;
    transactions = kept.transactions;
    used = used;
    edges = All-map (IsEdge net) (edge_of ports) p.edges (all_standing (λ (w : Wire). IsEdge net (edge_of ports w)) p.edges edge_is);
    sensors = All-map (IsSensor net) (sensor_of ports) p.sensors (all_standing (λ (o : Outlet). IsSensor net (sensor_of ports o)) p.sensors sensor_is);
    actuators = All-map (IsActuator net) (actuator_of ports) p.actuators (all_standing (λ (o : Outlet). IsActuator net (actuator_of ports o)) p.actuators actuator_is);
  }

  fed : IsFedOnce net
  fed task port lt =
      one_feeder net task port
      (one_is (feeds_of net task port)
      (λ never. none kind.PortNeverFed (place_at Task task) (port, lt, never))
      (λ twice. none kind.PortFedTwice (place_at Task task) (port, lt, twice)))

  names : HasNames net
  names = record {
    tasks = names_as (λ (t : TaskEntry). t.name) (λ (n : NetTask). n.name) p.tasks net.tasks (task_names p.tasks ports same) kept.names.tasks;
    transactions = kept.names.transactions;
    sensors = names_as (λ (o : Outlet). o.name) (λ (s : Plug). s.name) p.sensors net.sensors (map_twice (sensor_of ports) (λ (s : Plug). s.name) p.sensors) kept.names.sensors;
    actuators = names_as (λ (o : Outlet). o.name) (λ (s : Plug). s.name) p.actuators net.actuators (map_twice (actuator_of ports) (λ (s : Plug). s.name) p.actuators) kept.names.actuators;
  }

  joins : (a b : ℕ) → Feeds net a b → Joins p a b
  joins a b (k, e, lt, at, ends) =
      let there : slice_get net.edges k ≡ Some e = slice_get-get_or net.edges k e lt ∙ ap (λ (x : Edge). Some x) at in
      let (w, stands, is) = from_map (edge_of ports) p.edges k e there in
      (k, w, slice_get_within p.edges k w stands, get_or_from_slice_get p.edges k w w stands, (ap (λ (x : Edge). x.from_task) is ∙ ends.0, ap (λ (x : Edge). x.to_task) is ∙ ends.1))

  no_circle : HasNoCircle (Feeds net)
  no_circle = (kept.no_circle.0, λ a b f. kept.no_circle.1 a b (joins a b f))

  pub net_keeps : KeepsRules net
  net_keeps = record {
    entry_rules = record { shape = kept.shape; counts = counts; entries = entries; fed = fed; names = names };
    no_circle = no_circle;
  }

-- the net of a project without a fault keeps the rules
pub bound_keeps : (p : Project) (ports : List TaskPorts) (net : Net) → KeepsProject p → length ports ≡ length p.tasks → All IsTaskPorts ports → IsBound p ports net → KeepsRules net
bound_keeps p ports net kept same fine bound = subst KeepsRules (sym bound.is) (net_keeps p ports kept same fine bound.no_fault)
