-- The fields of a cluster, a transaction, an edge, a sensor or actuator, and a cell, in their order.
use Rattle.std.specs.Prelude.{ℕ, List, ◌==◌, if◌then◌else◌}
use Rattle.std.specs.Int.{w8, w16, w32}
use Rattle.formats.specs.Format.{Format, number, ◌then◌, shaped}
use Rattle.mars_base.specs.declared.shape.ClusterShape.{ClusterShape}
use Rattle.mars_base.specs.declared.word.Role.{Role}
use Rattle.mars_base.specs.declared.word.Role.TheVariants.{In, Out, State, Local}
use Rattle.word_code.specs.declared.code.CellShape.{CellShape}
use Rattle.graph.specs.declared.net.Transaction.{Transaction}
use Rattle.graph.specs.declared.net.Edge.{Edge}
use Rattle.graph.specs.declared.net.Plug.{Plug}
use Rattle.image_parts.specs.Name.{name}

-- numbers of one, two and four bytes, of which none is refused
abbrev pub byte : Format ℕ
byte = number w8 0 255

abbrev pub short : Format ℕ
short = number w16 0 65535

abbrev pub long : Format ℕ
long = number w32 0 4294967295

abbrev pub to_shape : ℕ × (ℕ × (ℕ × (ℕ × ℕ))) → ClusterShape
to_shape p = record { units = p.0; slot_words = p.1.0; precision = p.1.1.0; cycles_per_tick = p.1.1.1.0; round = p.1.1.1.1 }

abbrev pub of_shape : ClusterShape → ℕ × (ℕ × (ℕ × (ℕ × ℕ)))
of_shape s = (s.units, (s.slot_words, (s.precision, (s.cycles_per_tick, s.round))))

-- a cluster: units, slot_words, precision, cycles_per_tick, round
unfoldable pub shape : Format ClusterShape
shape = shaped to_shape of_shape (number w8 1 8 then number w8 2 64 then number w8 1 8 then number w16 1 10000 then number w32 1 65536)

abbrev pub to_transaction : List ℕ × (ℕ × ℕ) → Transaction
to_transaction p = record { name = p.0; period = p.1.0; deadline = p.1.1 }

abbrev pub of_transaction : Transaction → List ℕ × (ℕ × ℕ)
of_transaction t = (t.name, (t.period, t.deadline))

-- a transaction: name, period, deadline
unfoldable pub transaction : Format Transaction
transaction = shaped to_transaction of_transaction (name then number w32 1 65536 then number w32 1 65536)

abbrev pub to_edge : ℕ × (ℕ × (ℕ × ℕ)) → Edge
to_edge p = record { from_task = p.0; from_port = p.1.0; to_task = p.1.1.0; to_port = p.1.1.1 }

abbrev pub of_edge : Edge → ℕ × (ℕ × (ℕ × ℕ))
of_edge e = (e.from_task, (e.from_port, (e.to_task, e.to_port)))

-- an edge: from task, from port, to task, to port
unfoldable pub edge : Format Edge
edge = shaped to_edge of_edge (byte then byte then byte then byte)

abbrev pub to_plug : List ℕ × (ℕ × ℕ) → Plug
to_plug p = record { name = p.0; task = p.1.0; port = p.1.1 }

abbrev pub of_plug : Plug → List ℕ × (ℕ × ℕ)
of_plug s = (s.name, (s.task, s.port))

-- a sensor or an actuator: name, task, port
unfoldable pub plug : Format Plug
plug = shaped to_plug of_plug (name then byte then byte)

-- the roles by number
abbrev pub role_of : ℕ → Role
role_of n = if n == 0 then In else if n == 1 then Out else State

abbrev pub number_of_role : Role → ℕ
number_of_role In = 0
number_of_role Out = 1
number_of_role State = 2
number_of_role Local = 3

abbrev pub to_cell : ℕ × ℕ → CellShape
to_cell p = record { role = role_of p.0; width = p.1 }

abbrev pub of_cell : CellShape → ℕ × ℕ
of_cell c = (number_of_role c.role, c.width)

-- a cell: role, width
unfoldable pub cell : Format CellShape
cell = shaped to_cell of_cell (number w8 0 2 then number w16 1 4096)
