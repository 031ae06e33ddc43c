-- A text gives one answer.
use Rattle.std.proofs.Common.{◌≡◌, ℕ, List, Some, Ok, sym, ap, ◌∙◌, subst}
use Rattle.project_faults.proofs.Once.{first_once}
use Rattle.project_faults.specs.Faulty.{faulty}
use Rattle.project_file.specs.Gives.{ProjectGives, Sound, NotToml, Faulty}
use Rattle.project_reader.specs.Faults.{Fails, IsProjectOf}
use Rattle.project_reader.specs.ProjectOf.{project_of}
use Rattle.project_reader.specs.declared.project.Project.{Project}
use Rattle.project_sheet.specs.Document.{IsDocument}
use Rattle.project_sheet.specs.Kind.{IsFirst}
use Rattle.project_sheet.specs.Sheet.{sheet_of}
use Rattle.project_sheet.specs.declared.kind.Fault.{Fault}
use Rattle.stages.proofs.Relations.{OneAnswer}
use Rattle.stages.proofs.Turns.{fails}
use Rattle.toml.specs.Data.{Members}

-- a text is one document
one_document : (bytes : List ℕ) (doc other : Members) → IsDocument bytes doc → IsDocument bytes other → doc ≡ other
one_document bytes doc other h k = let both : Some doc ≡ Some other = sym h.parsed ∙ k.parsed in cc

pub one_project : (bytes : List ℕ) (p q : Project) → IsProjectOf bytes p → IsProjectOf bytes q → p ≡ q
one_project bytes p q h k = h.is ∙ (ap (λ (doc : Members). project_of (sheet_of doc)) (one_document bytes h.doc k.doc h.document k.document) ∙ sym k.is)

-- a document with a fault is none without
not_sound : (bytes : List ℕ) (p : Project) (doc : Members) (f : Fault) → IsProjectOf bytes p → IsDocument bytes doc → IsFirst (Fails doc) f → ⊥
not_sound bytes p doc f is document first = is.no_fault f.kind f.place (subst (λ (d : Members). Fails d f.kind f.place) (one_document bytes doc is.doc document is.document) first.0)

pub gives_once : (file bytes : List ℕ) → OneAnswer (ProjectGives file bytes)
gives_once file bytes r s (Sound p ok is) (Sound q fine too) = ok ∙ (ap (λ z. Ok z) (one_project bytes p q is too) ∙ sym fine)
gives_once file bytes r s (Sound p ok is) (NotToml refused none) = absurd (none is.doc is.document)
gives_once file bytes r s (Sound p ok is) (Faulty doc f refused document first) = absurd (not_sound bytes p doc f is document first)
gives_once file bytes r s (NotToml refused none) (Sound q fine too) = absurd (none too.doc too.document)
gives_once file bytes r s (NotToml refused none) (NotToml also never) = refused ∙ sym also
gives_once file bytes r s (NotToml refused none) (Faulty doc f also document first) = absurd (none doc document)
gives_once file bytes r s (Faulty doc f refused document first) (Sound q fine too) = absurd (not_sound bytes q doc f too document first)
gives_once file bytes r s (Faulty doc f refused document first) (NotToml also none) = absurd (none doc document)
gives_once file bytes r s (Faulty doc f refused document first) (Faulty other g also text least) =
    let same : f ≡ g = first_once (Fails doc) f g first (subst (λ (d : Members). IsFirst (Fails d) g) (one_document bytes other doc text document) least) in
    refused ∙ (ap (λ (z : Fault). fails Project (faulty file z)) same ∙ sym also)
