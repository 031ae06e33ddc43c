use Rattle.std.proofs.Common.{arith}
use Rattle.graph.specs.Net.{instances}
use Rattle.tables.specs.Keys.{strip}
use Rattle.tables.specs.Named.{edge_at}
use Rattle.tables.specs.Rules.{key_if, keys_of, keys_of_edge}
use Rattle.tables.proofs.Stripping.{goes, lacks, done, edge_rows}
use Rattle.tables.proofs.inputs.strip_edge.Goals as goal

pub returns-in-None : goal.returns-in-None
returns-in-None c = lacks (key_if c.args.net.now c.args.graph.now c.args.tables.now c.args.edge) (keys_of_edge c.args.net.now c.args.graph.now c.args.tables.now c.args.edge) (edge_rows c.args.net.now c.args.graph.now c.args.tables.now c.args.edge) c.loop-instance.instance (instances c.args.net.now c.args.graph.now.cycle (edge_at c.args.net.now c.args.edge).from_task) (keys_of c.loop-instance.rest.now) (strip (keys_of_edge c.args.net.now c.args.graph.now c.args.tables.now c.args.edge 0 (instances c.args.net.now c.args.graph.now.cycle (edge_at c.args.net.now c.args.edge).from_task)) (keys_of c.args.messages.now))
    (omega (arith, c.instances_of-instance-end.ensures)) c.in-None.ensures c.loop-instance.invariant

pub loop-instance-preserved : goal.loop-instance-preserved
loop-instance-preserved c = goes (key_if c.args.net.now c.args.graph.now c.args.tables.now c.args.edge) (keys_of_edge c.args.net.now c.args.graph.now c.args.tables.now c.args.edge) (edge_rows c.args.net.now c.args.graph.now c.args.tables.now c.args.edge) c.loop-instance.instance (instances c.args.net.now c.args.graph.now.cycle (edge_at c.args.net.now c.args.edge).from_task) (keys_of c.loop-instance.rest.now) (keys_of c.in-Some.more.now) (strip (keys_of_edge c.args.net.now c.args.graph.now c.args.tables.now c.args.edge 0 (instances c.args.net.now c.args.graph.now.cycle (edge_at c.args.net.now c.args.edge).from_task)) (keys_of c.args.messages.now))
    (omega (arith, c.instances_of-instance-end.ensures)) (rw c.in-Some.more-is at c.in-Some.ensures) c.loop-instance.invariant

pub returns : goal.returns
returns c = done (key_if c.args.net.now c.args.graph.now c.args.tables.now c.args.edge) (keys_of_edge c.args.net.now c.args.graph.now c.args.tables.now c.args.edge) (edge_rows c.args.net.now c.args.graph.now c.args.tables.now c.args.edge) c.loop-instance.instance (instances c.args.net.now c.args.graph.now.cycle (edge_at c.args.net.now c.args.edge).from_task) (keys_of c.loop-instance.rest.now) (strip (keys_of_edge c.args.net.now c.args.graph.now c.args.tables.now c.args.edge 0 (instances c.args.net.now c.args.graph.now.cycle (edge_at c.args.net.now c.args.edge).from_task)) (keys_of c.args.messages.now))
    (omega (arith, c.instances_of-instance-end.ensures)) c.loop-instance.invariant
