use Rattle.image.proofs.Encoded.{short_jobs, short_numbers}
use Rattle.image.proofs.encoding.encode.Goals as goal

pub job_parts-requires : goal.job_parts-requires
job_parts-requires c = rw c.as_slice.ensures (short_jobs c.plant-plant.result.now c.plant-plant.ensures.image)

pub message_parts-requires : goal.message_parts-requires
message_parts-requires c = rw c.as_slice-2.ensures (short_numbers c.plant-plant.result.now c.plant-plant.ensures.image)
