-- What reading all of the bytes answers.
use Rattle.std.proofs.Common.{◌≡◌, ℕ, List, Result, Ok, Err, sym, subst, ap, ◌∙◌}
use Rattle.std.specs.Prelude.{IfOk}
use Rattle.formats.specs.Format.{whole}
use Rattle.formats.specs.Laws.{IsBytes}
use Rattle.formats.proofs.Lawful.{whole_takes, whole_again}
use Rattle.image_fields.specs.declared.parts.Parts.{Parts}
use Rattle.image_fields.specs.declared.whole.BytesFault.{BytesFault}
use Rattle.image_fields.specs.Image.{image}
use Rattle.image_fields.specs.Answers.{Answers}
use Rattle.image_fields.proofs.LawfulImage.{image_laws}

pub found : (bytes : List ℕ) (r : Result Parts BytesFault) → IsBytes bytes → Answers r (whole image bytes) → IfOk r (λ parts. image.fits parts × (bytes ≡ image.writes parts))
found bytes (Ok parts) fits e = whole_takes image image_laws bytes parts fits e
found bytes (Err f) fits e = tt

pub again : (bytes : List ℕ) (parts : Parts) → image.fits parts → bytes ≡ image.writes parts → whole image bytes ≡ Ok parts
again bytes parts fits is = ap (whole image) is ∙ whole_again image image_laws parts fits

pub only : (bytes : List ℕ) (r : Result Parts BytesFault) (parts : Parts) → image.fits parts → bytes ≡ image.writes parts → Answers r (whole image bytes) → Answers r (Ok parts)
only bytes r parts fits is e = subst (λ (x : Result Parts ℕ). Answers r x) (again bytes parts fits is) e
