-- What a replica looks up. This project's own.
use Rattle.std.specs.Prelude.{◌≡◌, ℕ, ◌<◌}
use Rattle.mars_base.specs.declared.shape.Side.{Side}
use Rattle.graph.specs.JobGraph.{JobGraph}
use Rattle.graph.specs.declared.net.Net.{Net}
use Rattle.tables.specs.Valid.{bus_of}
use Rattle.tables.specs.declared.table.Tables.{Tables}
use Rattle.timetable.specs.Keys.{starts_in, arrivals_in, sendings_in, feeds_in}
use Rattle.job_inputs.specs.Look.{AreStarts}
use Rattle.tick_parts.specs.Shows.{outputs_in}
use Rattle.replica_duties.specs.declared.duties.Duties.{Duties}

-- all that the replica of a unit's side looks up, for a net, the graph of its jobs and its tables
pub record AreDutiesOf (net : Net) (g : JobGraph) (t : Tables) (unit : ℕ) (side : Side) (d : Duties) : Type 0 where
  pub unit_is : d.unit ≡ unit
  pub side_is : d.side ≡ side
  pub known_unit : unit < net.shape.units
  pub round : d.round ≡ bus_of net g
  pub starts : d.starts ≡ starts_in g t unit
  pub arrivals : d.arrivals ≡ arrivals_in net g t unit
  pub sendings : d.sendings ≡ sendings_in net g t unit
  pub feeds : d.feeds ≡ feeds_in net g t
  pub outputs : d.outputs ≡ outputs_in net
  pub sensors : AreStarts net g.cycle d.sensors.items
