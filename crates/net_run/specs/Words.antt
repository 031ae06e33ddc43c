-- The words of ports and sensors among those of a job or a line, and what a job of a net takes.
use Rattle.std.specs.Prelude.{ℕ, zero, suc, ◌+◌, ◌*◌, ◌++◌, List, [], length, take, drop, slice_get, slice_index, sum, ℤ, Option, Some, None}
use Rattle.graph.specs.Cycle.{words_of_sensors}
use Rattle.graph.specs.Feeders.{feeder_of}
use Rattle.graph.specs.Net.{ins_of, outs_of}
use Rattle.graph.specs.declared.feeder.Feeder.{Feeder}
use Rattle.graph.specs.declared.feeder.Feeder.TheVariants as feeder
use Rattle.graph.specs.declared.net.Edge.{Edge}
use Rattle.graph.specs.declared.net.Net.{Net}
use Rattle.graph.specs.declared.net.Plug.{Plug}

-- so many words from a place on
abbrev pub part : (from count : ℕ) → List ℤ → List ℤ
part from count words = take count (drop from words)

-- the words of a port among those of all ports, which have these widths
abbrev pub port_words : (widths : List ℕ) → (port : ℕ) → (words : List ℤ) → List ℤ
port_words widths port words = part (sum (take port widths)) (slice_index widths port) words

-- the words of a sensor for an instance: a line has those of each sensor in order, and of each its instances in order
abbrev pub plug_words : Net → (cycle sensor instance : ℕ) → (line : List ℤ) → Option Plug → List ℤ
plug_words net cycle sensor instance line None = []
plug_words net cycle sensor instance line (Some plug) =
    part (words_of_sensors net cycle (take sensor net.sensors) + instance * slice_index (ins_of net plug.task) plug.port) (slice_index (ins_of net plug.task) plug.port) line

abbrev pub sensor_at : Net → (cycle sensor instance : ℕ) → (line : List ℤ) → List ℤ
sensor_at net cycle sensor instance line = plug_words net cycle sensor instance line (slice_get net.sensors sensor)

-- with words, where there are any
abbrev pub with_words : Option (List ℤ) → (List ℤ → Option (List ℤ)) → Option (List ℤ)
with_words None go = None
with_words (Some words) go = go words

-- what an edge carries in an instance, by what the job of each task gives there: the words of its out port, or nothing
abbrev pub edge_words : Net → (given : ℕ → Option (List ℤ)) → Option Edge → Option (List ℤ)
edge_words net given None = None
edge_words net given (Some edge) = with_words (given edge.from_task) (λ outs. Some (port_words (outs_of net edge.from_task) edge.from_port outs))

abbrev pub carried : Net → (given : ℕ → Option (List ℤ)) → (edge : ℕ) → Option (List ℤ)
carried net given edge = edge_words net given (slice_get net.edges edge)

module _ (net : Net) (cycle : ℕ) (line : List ℤ) (look : ℕ → Option (List ℤ)) (instance : ℕ) where
  -- what a feeder brings to a port, by what each edge brings
  abbrev pub brought : Option Feeder → Option (List ℤ)
  brought None = Some []
  brought (Some (feeder.Edge edge)) = look edge
  brought (Some (feeder.Sensor sensor)) = Some (sensor_at net cycle sensor instance line)

  -- the words of the first n in ports of a task, port by port; None where an edge brings nothing
  abbrev pub ports_to : (task n : ℕ) → Option (List ℤ)
  ports_to task zero = Some []
  ports_to task (suc n) = with_words (ports_to task n) (λ before. with_words (brought (feeder_of net task n)) (λ words. Some (before ++ words)))

  -- the input words of a task's job
  abbrev pub job_inputs : (task : ℕ) → Option (List ℤ)
  job_inputs task = ports_to task (length (ins_of net task))
