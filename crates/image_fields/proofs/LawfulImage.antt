-- The format of an image is lawful.
use Rattle.std.proofs.Common.{◌≡◌, ℕ, ◌<◌, ◌≤◌, refl, ap, arith}
use Rattle.formats.specs.Laws.{IsLawful}
use Rattle.formats.proofs.Fields.{number8, number16, number32}
use Rattle.formats.proofs.Lawful.{lawful_then, lawful_shape, lawful_list}
use Rattle.image_parts.proofs.LawfulRecords.{shape_laws, transaction_laws, edge_laws, plug_laws}
use Rattle.image_tasks.proofs.LawfulTasks.{task_laws}
use Rattle.image_tables.proofs.LawfulEntries.{job_laws, message_laws}
use Rattle.image_fields.specs.Image.{head, to_head, of_head, lists, body, to_body, of_body, image, to_image, of_image}

pub head_laws : IsLawful head
unfolding head
head_laws = lawful_shape to_head of_head (lawful_then (number32 1296126547 1296126547 (omega arith)) (number8 1 1 (omega arith)))
    (λ p fits. ap (λ (n : ℕ). (n, p.1)) (omega (arith, fits.0.0, fits.0.1)))

head_is : (version : ℕ) → head.fits version → 1 ≡ version
unfolding head
head_is version fits = omega (arith, fits.0.1.0, fits.0.1.1)

pub lists_laws : IsLawful lists
unfolding lists
lists_laws = lawful_then (lawful_list (number16 0 1024 (omega arith)) edge_laws) (lawful_then (lawful_list (number16 0 1024 (omega arith)) plug_laws)
    (lawful_then (lawful_list (number16 0 1024 (omega arith)) plug_laws) (lawful_then (lawful_list (number16 0 512 (omega arith)) job_laws) (lawful_list (number16 0 65535 (omega arith)) message_laws))))

pub body_laws : IsLawful body
unfolding body
body_laws = lawful_shape to_body of_body
    (lawful_then shape_laws (lawful_then (lawful_list (number8 1 64 (omega arith)) task_laws) (lawful_then (lawful_list (number8 1 32 (omega arith)) transaction_laws) lists_laws)))
    (λ p fits. refl)

pub image_laws : IsLawful image
unfolding image
image_laws = lawful_shape to_image of_image (lawful_then head_laws body_laws) (λ p fits. ap (λ (n : ℕ). (n, p.1)) (head_is p.0 fits.0))
