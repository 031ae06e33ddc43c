-- How often the in ports of a net are fed.
use Rattle.std.specs.Prelude.{◌≡◌, ℕ, ◌+◌, ◌<◌, ◌≤◌, min, ◌==◌, ◌&&◌, Bool, List, length, take, count_by, slice_index, Option, Some, None}
use Rattle.graph.specs.declared.net.Net.{Net}
use Rattle.graph.specs.declared.net.Edge.{Edge}
use Rattle.graph.specs.declared.net.Plug.{Plug}
use Rattle.graph.specs.FeederTable.{place_of}
use Rattle.graph.specs.Net.{ins_of}

-- an edge goes to the in port; a sensor feeds it
abbrev pub goes_to : (task port : ℕ) → Edge → Bool
goes_to task port e = (e.to_task == task) && (e.to_port == port)

abbrev pub plugs : (task port : ℕ) → Plug → Bool
plugs task port s = (s.task == task) && (s.port == port)

-- how many edges and sensors feed an in port
abbrev pub feeds_of : Net → (task port : ℕ) → ℕ
feeds_of net task port = count_by (goes_to task port) net.edges + count_by (plugs task port) net.sensors

-- a task has an in port that no edge and no sensor feeds
abbrev pub IsNeverFed : Net → (task : ℕ) → Type 0
IsNeverFed net task = (port : ℕ) × (port < length (ins_of net task)) × (feeds_of net task port ≡ 0)

-- a task has an in port that more than one of them feed
abbrev pub IsFedTwice : Net → (task : ℕ) → Type 0
IsFedTwice net task = (port : ℕ) × (port < length (ins_of net task)) × (2 ≤ feeds_of net task port)

-- a task has an in port that is fed so often, where twice and oftener are one
abbrev pub IsFedTimes : Net → (times task : ℕ) → Type 0
IsFedTimes net times task = (port : ℕ) × (port < length (ins_of net task)) × (min 2 (feeds_of net task port) ≡ times)

-- the least task of which something holds; None where it holds of none
abbrev pub IsLeastTask : (ℕ → Type 0) → Option ℕ → Type 0
IsLeastTask P None = (task : ℕ) → P task → ⊥
IsLeastTask P (Some task) = P task × ((other : ℕ) → P other → task ≤ other)

-- how many of the first edges and sensors feed an in port
abbrev pub feeds_among : Net → (edges sensors task port : ℕ) → ℕ
feeds_among net edges sensors task port = count_by (goes_to task port) (take edges net.edges) + count_by (plugs task port) (take sensors net.sensors)

-- a table of 16 ports for each of 64 tasks, with how many of the first edges and sensors feed each: none, one or more
pub record IsCounted (net : Net) (edges sensors : ℕ) (table : List ℕ) : Type 0 where
  pub size : length table ≡ 1024
  pub each : (task port : ℕ) → task < 64 → port < 16 → slice_index table (place_of task port) ≡ min 2 (feeds_among net edges sensors task port)

-- the table of all edges and sensors
abbrev pub IsFeedTable : Net → List ℕ → Type 0
IsFeedTable net table = IsCounted net (length net.edges) (length net.sensors) table
