-- What fields that fit say of tasks, codes and bounds.
use Rattle.std.proofs.Common.{◌<◌, ◌≤◌, ◌^◌, length, All, arith}
use Rattle.std.proofs.lemmas.List.{length-map}
use Rattle.std.proofs.lemmas.List.Elements.{All-map, All-weaker}
use Rattle.word_code.specs.declared.code.Code.{Code}
use Rattle.plant.specs.InOrder.{IsMaxt}
use Rattle.image_tasks.specs.declared.parts.TaskPart.{TaskPart}
use Rattle.image_tasks.specs.Task.{code, task}
use Rattle.image_fields.specs.declared.parts.Parts.{Parts}
use Rattle.image_fields.specs.Image.{image, body}
use Rattle.image_sides.specs.Sides.{code_of, maxt_of}
use Rattle.image_plant.specs.Said.{codes_of, maxts_of}

task_short : (t : TaskPart) → task.fits t → length t.code.instrs < 2 ^ 32
unfolding task code
task_short t fits = omega (arith, fits.0.1.1.1.1.0.1.1.1.1.0.0.1)

task_maxt : (t : TaskPart) → task.fits t → IsMaxt t.maxt
unfolding task
task_maxt t fits = fits.0.1.1.1.0

body_few : (p : Parts) → body.fits p → length p.tasks ≤ 64
unfolding body
body_few p fits = fits.0.1.0.0.0.1

body_tasks : (p : Parts) → body.fits p → All task.fits p.tasks
unfolding body
body_tasks p fits = fits.0.1.0.0.1.1

image_body : (p : Parts) → image.fits p → body.fits p
unfolding image
image_body p fits = fits.0.1

pub few_tasks : (p : Parts) → image.fits p → length p.tasks ≤ 64
few_tasks p fits = body_few p (image_body p fits)

pub tasks_of : (p : Parts) → image.fits p → All task.fits p.tasks
tasks_of p fits = body_tasks p (image_body p fits)

-- there are few codes
pub few_codes : (p : Parts) → image.fits p → length (codes_of p) < 2 ^ 16
few_codes p fits = omega (arith, length-map p.tasks code_of, few_tasks p fits)

-- and each is short
pub short_codes : (p : Parts) → image.fits p → All (λ (c : Code). length c.instrs < 2 ^ 32) (codes_of p)
short_codes p fits =
    All-map (λ (c : Code). length c.instrs < 2 ^ 32) code_of p.tasks
    (All-weaker task.fits (λ (t : TaskPart). length t.code.instrs < 2 ^ 32) task_short p.tasks (tasks_of p fits))

-- each bound is in its range
pub each_maxt : (p : Parts) → image.fits p → All IsMaxt (maxts_of p)
each_maxt p fits = All-map IsMaxt maxt_of p.tasks (All-weaker task.fits (λ (t : TaskPart). IsMaxt t.maxt) task_maxt p.tasks (tasks_of p fits))
