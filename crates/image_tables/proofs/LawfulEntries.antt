-- The formats of the entries are lawful.
use Rattle.std.proofs.Common.{◌≡◌, refl}
use Rattle.formats.specs.Laws.{IsLawful}
use Rattle.formats.proofs.Lawful.{lawful_then, lawful_shape}
use Rattle.image_parts.proofs.LawfulRecords.{lawful_byte, lawful_short, lawful_long}
use Rattle.image_tables.specs.Entries.{job, to_job, of_job, message, to_message, of_message}

pub job_laws : IsLawful job
unfolding job
job_laws = lawful_shape to_job of_job (lawful_then lawful_byte (lawful_then lawful_short (lawful_then lawful_byte (lawful_then lawful_long lawful_long)))) (λ p fits. refl)

pub message_laws : IsLawful message
unfolding message
message_laws = lawful_shape to_message of_message (lawful_then lawful_short (lawful_then lawful_short (lawful_then lawful_byte (lawful_then lawful_short lawful_byte)))) (λ p fits. refl)
