-- How many messages tables have, and that each goes in a frame of the cycle.
use Rattle.std.proofs.Common.{◌≡◌, ℕ, zero, suc, ◌+◌, ◌*◌, ◌/◌, ◌<◌, ◌≤◌, ◌^◌, List, length, ◌++◌, [], ◌∷◌, Bool, true, false, refl, sym, ap, ◌∙◌, subst, arith, length-append, mul-le-mul_right}
use Rattle.std.proofs.lemmas.List.{length-map}
use Rattle.graph.specs.declared.net.Net.{Net}
use Rattle.graph.specs.JobGraph.{JobGraph}
use Rattle.graph.specs.NetGraph.{IsNetGraph}
use Rattle.graph.specs.Net.{instances, period_of}
use Rattle.tables.specs.declared.rule.TableRule.TheVariants as rule
use Rattle.tables.specs.declared.table.Message.{Message}
use Rattle.tables.specs.declared.table.Tables.{Tables}
use Rattle.tables.specs.Named.{edge_at, message_at}
use Rattle.tables.specs.Rules.{crosses, key_if, keys_of_edge, keys_of_edges, keys_of}
use Rattle.tables.specs.Valid.{AreValid, bus_of}
use Rattle.tables.proofs.FewUnits.{few_units}

-- a message goes in a frame of the cycle
pub record IsOfCycle (net : Net) (g : JobGraph) (m : Message) : Type 0 where
  pub round : m.round < (bus_of net g).rounds
  pub unit : m.unit < (bus_of net g).units

pub of_cycle : (net : Net) (g : JobGraph) (t : Tables) (i : ℕ) → IsNetGraph net g → AreValid net g t → i < length t.messages → IsOfCycle net g (message_at t i)
of_cycle net g t i n v lt =
    let here = (v rule.Inputs).in_time i lt in
    let units = few_units net g t n (v rule.Jobs) (v rule.Units) in
    record { round = here.round; unit = subst (λ u. u < net.shape.units) (sym here.unit) (units _) }

few_if : (net : Net) (g : JobGraph) (t : Tables) (edge instance : ℕ) (b : Bool) → crosses net g t edge instance ≡ b → length (key_if net g t edge instance) ≤ 1
few_if net g t edge instance true e = rw e (omega arith)
few_if net g t edge instance false e = rw e (omega arith)

few_of_edge : (net : Net) (g : JobGraph) (t : Tables) (edge instance left : ℕ) → length (keys_of_edge net g t edge instance left) ≤ left
few_of_edge net g t edge instance zero = omega arith
few_of_edge net g t edge instance (suc left) =
    let one = few_if net g t edge instance (crosses net g t edge instance) refl in
    let more = few_of_edge net g t edge (instance + 1) left in
    let both = length-append (key_if net g t edge instance) (keys_of_edge net g t edge (instance + 1) left) in
    omega (arith, one, more, both)

few_instances : (net : Net) (cycle task : ℕ) → cycle ≤ 65536 → instances net cycle task ≤ 65536
few_instances net cycle task le = omega arith

few_of_edges : (net : Net) (g : JobGraph) (t : Tables) (edge left : ℕ) → g.cycle ≤ 65536 → length (keys_of_edges net g t edge left) ≤ left * 65536
few_of_edges net g t edge zero le = omega arith
few_of_edges net g t edge (suc left) le =
    let n = instances net g.cycle (edge_at net edge).from_task in
    let few = few_instances net g.cycle (edge_at net edge).from_task le in
    let one = few_of_edge net g t edge 0 n in
    let more = few_of_edges net g t (edge + 1) left le in
    let both = length-append (keys_of_edge net g t edge 0 n) (keys_of_edges net g t (edge + 1) left) in
    omega (arith, few, one, more, both)

-- valid tables have fewer messages than 2 ^ 32
pub few_messages : (net : Net) (g : JobGraph) (t : Tables) → IsNetGraph net g → AreValid net g t → length t.messages < 2 ^ 32
few_messages net g t n v =
    let edges = n.is.rules.entry_rules.counts.edges in
    let few = few_of_edges net g t 0 (length net.edges) n.is.graph.limits.ticks in
    let keys : length (keys_of t.messages) ≡ length (keys_of_edges net g t 0 (length net.edges)) = ap length (v rule.Inputs).messages in
    let same : length (keys_of t.messages) ≡ length t.messages = length-map t.messages _ in
    omega (arith, edges, few, keys, same)
