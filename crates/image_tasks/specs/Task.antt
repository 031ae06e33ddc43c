-- The fields of a task and its code, in their order.
use Rattle.std.specs.Prelude.{ℕ, List}
use Rattle.std.specs.Int.{w8, w16, w32}
use Rattle.formats.specs.Format.{Format, number, ◌then◌, shaped, counted}
use Rattle.word_code.specs.declared.code.CellShape.{CellShape}
use Rattle.word_code.specs.declared.code.Slot.{Slot}
use Rattle.word_code.specs.declared.code.Code.{Code}
use Rattle.image_tasks.specs.declared.parts.TaskPart.{TaskPart}
use Rattle.image_parts.specs.Name.{name}
use Rattle.image_parts.specs.Records.{byte, short, cell}
use Rattle.image_parts.specs.Slot.{slot}

abbrev pub to_code : ℕ × (ℕ × (List CellShape × (List ℕ × List Slot))) → Code
to_code p = record { places = p.0; counters = p.1.0; cells = p.1.1.0; starts = p.1.1.1.0; instrs = p.1.1.1.1 }

abbrev pub of_code : Code → ℕ × (ℕ × (List CellShape × (List ℕ × List Slot)))
of_code c = (c.places, (c.counters, (c.cells, (c.starts, c.instrs))))

-- code: places, counters, cells, starts, instructions
unfoldable pub code : Format Code
code = shaped to_code of_code (number w16 0 4096 then number w16 0 256 then counted (number w16 0 4096) cell then counted (number w8 1 17) short then counted (number w16 1 65535) slot)

abbrev pub to_task : List ℕ × (ℕ × (ℕ × (ℕ × Code))) → TaskPart
to_task p = record { name = p.0; transaction = p.1.0; units = p.1.1.0; maxt = p.1.1.1.0; code = p.1.1.1.1 }

abbrev pub of_task : TaskPart → List ℕ × (ℕ × (ℕ × (ℕ × Code)))
of_task t = (t.name, (t.transaction, (t.units, (t.maxt, t.code))))

-- a task: name, transaction, units, maxt, code
unfoldable pub task : Format TaskPart
task = shaped to_task of_task (name then byte then byte then number w32 1 2147483647 then code)
