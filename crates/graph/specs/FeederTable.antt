-- A table of what feeds each in port: 16 ports for each of 64 tasks.
use Rattle.std.specs.Prelude.{◌≡◌, ℕ, ◌+◌, ◌*◌, ◌<◌, ◌↔◌, List, length, slice_index_or, Option, Some, None}
use Rattle.graph.specs.declared.net.Net.{Net}
use Rattle.graph.specs.declared.feeder.Feeder.{Feeder}
use Rattle.graph.specs.declared.feeder.Feeder.TheVariants as feeder
use Rattle.graph.specs.Feeders.{IsFeeder}

-- the place of a port in the table
abbrev pub place_of : (task port : ℕ) → ℕ
place_of task port = task * 16 + port

-- what the table has for a port
abbrev pub feeder_in : List (Option Feeder) → (task port : ℕ) → Option Feeder
feeder_in table task port = slice_index_or table (place_of task port) None

-- an edge or a sensor below these numbers
abbrev pub IsBefore : (edges sensors : ℕ) → Feeder → Type 0
IsBefore edges sensors (feeder.Edge number) = number < edges
IsBefore edges sensors (feeder.Sensor number) = number < sensors

-- the table has exactly the feeders that are noted
pub record IsTable (net : Net) (table : List (Option Feeder)) (Noted : Feeder → Type 0) : Type 0 where
  pub size : length table ≡ 1024
  pub each : (task port : ℕ) (f : Feeder) → task < 64 → port < 16 → (feeder_in table task port ≡ Some f) ↔ (IsFeeder net task port f × Noted f)

-- the table has exactly what feeds each port
pub record IsFeederTable (net : Net) (table : List (Option Feeder)) : Type 0 where
  pub size : length table ≡ 1024
  pub each : (task port : ℕ) (f : Feeder) → task < 64 → port < 16 → (feeder_in table task port ≡ Some f) ↔ IsFeeder net task port f
