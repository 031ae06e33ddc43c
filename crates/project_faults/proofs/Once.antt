-- The first fault is one.
use Rattle.std.proofs.Common.{◌≡◌, inl, inr, ℕ, ap, ap₂, arith}
use Rattle.project_sheet.specs.declared.kind.Fault.{Fault}
use Rattle.project_sheet.specs.declared.kind.Kind.{Kind}
use Rattle.project_sheet.specs.declared.place.Place.{Place}
use Rattle.project_sheet.specs.declared.place.Section.{Section}
use Rattle.project_sheet.specs.First.{number_of, IsUpTo}
use Rattle.project_sheet.specs.Kind.{number_of_kind, Precedes, IsFirst}

abbrev make_place : Section → ℕ → Place
make_place section entry = record { section = section; entry = entry }

abbrev make_fault : Kind → Place → Fault
make_fault kind place = record { kind = kind; place = place }

-- places each of which comes no later than the other are the same
one_place : (p q : Place) → IsUpTo p q → IsUpTo q p → p ≡ q
one_place p q (inl low) (inl up) = absurd (omega (arith, low, up))
one_place p q (inl low) (inr up) = absurd (let same = ap number_of up.0 in omega (arith, low, same))
one_place p q (inr low) (inl up) = absurd (let same = ap number_of low.0 in omega (arith, up, same))
one_place p q (inr low) (inr up) = let entry : p.entry ≡ q.entry = omega (arith, low.1, up.1) in ap₂ make_place low.0 entry

one_fault : (f g : Fault) → Precedes f g.kind g.place → Precedes g f.kind f.place → f ≡ g
one_fault f g (inl low) (inl up) = absurd (omega (arith, low, up))
one_fault f g (inl low) (inr up) = absurd (let same = ap number_of_kind up.0 in omega (arith, low, same))
one_fault f g (inr low) (inl up) = absurd (let same = ap number_of_kind low.0 in omega (arith, up, same))
one_fault f g (inr low) (inr up) = ap₂ make_fault low.0 (one_place f.place g.place low.1 up.1)

pub first_once : (Fails : Kind → Place → Type 0) (f g : Fault) → IsFirst Fails f → IsFirst Fails g → f ≡ g
first_once Fails f g h k = one_fault f g (h.1 g.kind g.place k.0) (k.1 f.kind f.place h.0)
