-- All fields of an image, in their order.
use Rattle.std.specs.Prelude.{ℕ, List}
use Rattle.std.specs.Int.{w8, w16, w32}
use Rattle.formats.specs.Format.{Format, number, ◌then◌, shaped, counted}
use Rattle.mars_base.specs.declared.shape.ClusterShape.{ClusterShape}
use Rattle.graph.specs.declared.net.Transaction.{Transaction}
use Rattle.graph.specs.declared.net.Edge.{Edge}
use Rattle.graph.specs.declared.net.Plug.{Plug}
use Rattle.image_tasks.specs.declared.parts.TaskPart.{TaskPart}
use Rattle.image_tables.specs.declared.entries.JobPart.{JobPart}
use Rattle.image_tables.specs.declared.entries.MessagePart.{MessagePart}
use Rattle.image_parts.specs.Records.{shape, transaction, edge, plug}
use Rattle.image_tasks.specs.Task.{task}
use Rattle.image_tables.specs.Entries.{job, message}
use Rattle.image_fields.specs.declared.parts.Parts.{Parts}

abbrev pub to_head : ℕ × ℕ → ℕ
to_head p = p.1

abbrev pub of_head : ℕ → ℕ × ℕ
of_head version = (1296126547, version)

-- the head: the bytes of `MARS` as a number, and the version
unfoldable pub head : Format ℕ
head = shaped to_head of_head (number w32 1296126547 1296126547 then number w8 1 1)

abbrev pub Lists : Type 0
Lists = List Edge × (List Plug × (List Plug × (List JobPart × List MessagePart)))

-- edges, sensors, actuators, jobs, messages
unfoldable pub lists : Format Lists
lists = counted (number w16 0 1024) edge then counted (number w16 0 1024) plug then counted (number w16 0 1024) plug then counted (number w16 0 512) job then counted (number w16 0 65535) message

abbrev pub lists_of : Parts → Lists
lists_of i = (i.edges, (i.sensors, (i.actuators, (i.jobs, i.messages))))

abbrev pub to_body : ClusterShape × (List TaskPart × (List Transaction × Lists)) → Parts
to_body p = record { shape = p.0; tasks = p.1.0; transactions = p.1.1.0; edges = p.1.1.1.0; sensors = p.1.1.1.1.0; actuators = p.1.1.1.1.1.0; jobs = p.1.1.1.1.1.1.0; messages = p.1.1.1.1.1.1.1 }

abbrev pub of_body : Parts → ClusterShape × (List TaskPart × (List Transaction × Lists))
of_body i = (i.shape, (i.tasks, (i.transactions, lists_of i)))

-- all after the version: cluster, tasks, transactions, and the lists
unfoldable pub body : Format Parts
body = shaped to_body of_body (shape then counted (number w8 1 64) task then counted (number w8 1 32) transaction then lists)

abbrev pub to_image : ℕ × Parts → Parts
to_image p = p.1

abbrev pub of_image : Parts → ℕ × Parts
of_image i = (1, i)

-- an image of version 1
unfoldable pub image : Format Parts
image = shaped to_image of_image (head then body)
