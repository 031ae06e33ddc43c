use Rattle.std.proofs.Common.{length, arith}
use Rattle.graph.specs.Net.{instances}
use Rattle.tables.specs.Keys.{strip}
use Rattle.tables.specs.Named.{edge_at}
use Rattle.tables.specs.Rules.{keys_of, keys_of_edge, keys_of_edges}
use Rattle.tables.proofs.Stripping.{goes, lacks, done, all_rows}
use Rattle.tables.proofs.inputs.strip_edges.Goals as goal

pub returns-in-None : goal.returns-in-None
returns-in-None c = lacks (λ edge. keys_of_edge c.args.net.now c.args.graph.now c.args.tables.now edge 0 (instances c.args.net.now c.args.graph.now.cycle (edge_at c.args.net.now edge).from_task)) (keys_of_edges c.args.net.now c.args.graph.now c.args.tables.now) (all_rows c.args.net.now c.args.graph.now c.args.tables.now) c.loop-edge.edge (length c.args.net.now.edges) (keys_of c.loop-edge.rest.now) (strip (keys_of_edges c.args.net.now c.args.graph.now c.args.tables.now 0 (length c.args.net.now.edges)) (keys_of c.args.messages.now))
    (omega arith) c.in-None.ensures c.loop-edge.invariant

pub loop-edge-preserved : goal.loop-edge-preserved
loop-edge-preserved c = goes (λ edge. keys_of_edge c.args.net.now c.args.graph.now c.args.tables.now edge 0 (instances c.args.net.now c.args.graph.now.cycle (edge_at c.args.net.now edge).from_task)) (keys_of_edges c.args.net.now c.args.graph.now c.args.tables.now) (all_rows c.args.net.now c.args.graph.now c.args.tables.now) c.loop-edge.edge (length c.args.net.now.edges) (keys_of c.loop-edge.rest.now) (keys_of c.in-Some.more.now) (strip (keys_of_edges c.args.net.now c.args.graph.now c.args.tables.now 0 (length c.args.net.now.edges)) (keys_of c.args.messages.now))
    (omega arith) (rw c.in-Some.more-is at c.in-Some.ensures) c.loop-edge.invariant

pub returns : goal.returns
returns c = done (λ edge. keys_of_edge c.args.net.now c.args.graph.now c.args.tables.now edge 0 (instances c.args.net.now c.args.graph.now.cycle (edge_at c.args.net.now edge).from_task)) (keys_of_edges c.args.net.now c.args.graph.now c.args.tables.now) (all_rows c.args.net.now c.args.graph.now c.args.tables.now) c.loop-edge.edge (length c.args.net.now.edges) (keys_of c.loop-edge.rest.now) (strip (keys_of_edges c.args.net.now c.args.graph.now c.args.tables.now 0 (length c.args.net.now.edges)) (keys_of c.args.messages.now))
    (omega arith) c.loop-edge.invariant
