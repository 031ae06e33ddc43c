-- The fields of the entries of tables, in their order. None of them is refused by itself.
use Rattle.std.specs.Prelude.{ℕ}
use Rattle.formats.specs.Format.{Format, ◌then◌, shaped}
use Rattle.image_parts.specs.Records.{byte, short, long}
use Rattle.image_tables.specs.declared.entries.JobPart.{JobPart}
use Rattle.image_tables.specs.declared.entries.MessagePart.{MessagePart}

abbrev pub to_job : ℕ × (ℕ × (ℕ × (ℕ × ℕ))) → JobPart
to_job p = record { task = p.0; instance = p.1.0; unit = p.1.1.0; start = p.1.1.1.0; end = p.1.1.1.1 }

abbrev pub of_job : JobPart → ℕ × (ℕ × (ℕ × (ℕ × ℕ)))
of_job j = (j.task, (j.instance, (j.unit, (j.start, j.end))))

-- a job's entry: task, instance, unit, start, end
unfoldable pub job : Format JobPart
job = shaped to_job of_job (byte then short then byte then long then long)

abbrev pub to_message : ℕ × (ℕ × (ℕ × (ℕ × ℕ))) → MessagePart
to_message p = record { edge = p.0; instance = p.1.0; unit = p.1.1.0; round = p.1.1.1.0; offset = p.1.1.1.1 }

abbrev pub of_message : MessagePart → ℕ × (ℕ × (ℕ × (ℕ × ℕ)))
of_message m = (m.edge, (m.instance, (m.unit, (m.round, m.offset))))

-- a message's entry: edge, instance, unit, round, offset
unfoldable pub message : Format MessagePart
message = shaped to_message of_message (short then short then byte then short then byte)
