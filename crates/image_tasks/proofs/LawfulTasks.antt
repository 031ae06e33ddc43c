-- The formats of tasks and their code are lawful.
use Rattle.std.proofs.Common.{◌≡◌, ◌<◌, refl, arith}
use Rattle.formats.specs.Laws.{IsLawful}
use Rattle.formats.proofs.Fields.{number8, number16, number32}
use Rattle.formats.proofs.Lawful.{lawful_then, lawful_shape, lawful_list}
use Rattle.image_parts.proofs.LawfulRecords.{lawful_name, lawful_byte, lawful_short, cell_laws}
use Rattle.image_parts.proofs.LawfulSlots.{slot_laws}
use Rattle.image_tasks.specs.Task.{code, to_code, of_code, task, to_task, of_task}

pub code_laws : IsLawful code
unfolding code
code_laws = lawful_shape to_code of_code
    (lawful_then (number16 0 4096 (omega arith)) (lawful_then (number16 0 256 (omega arith)) (lawful_then (lawful_list (number16 0 4096 (omega arith)) cell_laws)
    (lawful_then (lawful_list (number8 1 17 (omega arith)) lawful_short) (lawful_list (number16 1 65535 (omega arith)) slot_laws)))))
    (λ p fits. refl)

pub task_laws : IsLawful task
unfolding task
task_laws = lawful_shape to_task of_task
    (lawful_then lawful_name (lawful_then lawful_byte (lawful_then lawful_byte (lawful_then (number32 1 2147483647 (omega arith)) code_laws))))
    (λ p fits. refl)
