-- The faults of form, of rows and of their relations are the document's.
use Rattle.std.proofs.Common.{◌≡◌, ℕ, ◌<◌, ◌≤◌, Bool, true, false, Option, Some, None, refl, subst, arith}
use Rattle.toml.specs.Data.{Members}
use Rattle.project_sheet.specs.declared.place.Section.TheVariants.{Cluster}
use Rattle.project_sheet.specs.declared.place.Place.{Place}
use Rattle.project_sheet.specs.declared.kind.Kind.{Kind}
use Rattle.project_sheet.specs.declared.kind.Kind.TheVariants.{UnknownKey, MissingKey, WrongType, OutOfRange, BadName, TwiceNamed, TooMany, RoundTooShort, DeadlineAbovePeriod, UnknownUnit, UnknownTask, TaskNotInTransaction, TaskInTwoTransactions, EdgeBetweenTransactions, EdgesInCircle, UnknownPort, PortNeverFed, PortFedTwice, WidthDiffers}
use Rattle.project_sheet.specs.declared.kind.Fault.{Fault}
use Rattle.project_sheet.specs.Sheet.{PlainSheet, sheet_of}
use Rattle.project_sheet.specs.Kind.{number_of_kind, IsFirstIn}
use Rattle.project_sheet.specs.FormFails.{FormFails}
use Rattle.project_sheet.proofs.Numbered.{first_same}
use Rattle.project_rows.specs.Rules.{cluster_out}
use Rattle.project_rows.specs.RowFails.{RowFails}
use Rattle.project_relations.specs.RelationFails.{RelationFails}
use Rattle.project_reader.specs.Faults.{Fails}

form_there : (doc : Members) (k : Kind) (p : Place) → FormFails doc k p → Fails doc k p
form_there doc UnknownKey p x = x
form_there doc MissingKey p x = x
form_there doc WrongType p x = x
form_there doc OutOfRange p x = absurd x
form_there doc BadName p x = absurd x
form_there doc TwiceNamed p x = absurd x
form_there doc TooMany p x = absurd x
form_there doc RoundTooShort p x = absurd x
form_there doc DeadlineAbovePeriod p x = absurd x
form_there doc UnknownUnit p x = absurd x
form_there doc UnknownTask p x = absurd x
form_there doc TaskNotInTransaction p x = absurd x
form_there doc TaskInTwoTransactions p x = absurd x
form_there doc EdgeBetweenTransactions p x = absurd x
form_there doc EdgesInCircle p x = absurd x
form_there doc UnknownPort p x = absurd x
form_there doc PortNeverFed p x = absurd x
form_there doc PortFedTwice p x = absurd x
form_there doc WidthDiffers p x = absurd x

form_back : (doc : Members) (k : Kind) (p : Place) → 2 ≤ number_of_kind k → number_of_kind k < 5 → Fails doc k p → FormFails doc k p
form_back doc UnknownKey p a b x = x
form_back doc MissingKey p a b x = x
form_back doc WrongType p a b x = x
form_back doc OutOfRange p a b x = omega arith
form_back doc BadName p a b x = omega arith
form_back doc TwiceNamed p a b x = omega arith
form_back doc TooMany p a b x = omega arith
form_back doc RoundTooShort p a b x = omega arith
form_back doc DeadlineAbovePeriod p a b x = omega arith
form_back doc UnknownUnit p a b x = omega arith
form_back doc UnknownTask p a b x = omega arith
form_back doc TaskNotInTransaction p a b x = omega arith
form_back doc TaskInTwoTransactions p a b x = omega arith
form_back doc EdgeBetweenTransactions p a b x = omega arith
form_back doc EdgesInCircle p a b x = omega arith
form_back doc UnknownPort p a b x = omega arith
form_back doc PortNeverFed p a b x = omega arith
form_back doc PortFedTwice p a b x = omega arith
form_back doc WidthDiffers p a b x = omega arith

row_there : (doc : Members) (k : Kind) (p : Place) → RowFails (sheet_of doc) k p → Fails doc k p
row_there doc UnknownKey p x = absurd x
row_there doc MissingKey p x = absurd x
row_there doc WrongType p x = absurd x
row_there doc OutOfRange p x = x
row_there doc BadName p x = x
row_there doc TwiceNamed p x = x
row_there doc TooMany p x = x
row_there doc RoundTooShort p x = absurd x
row_there doc DeadlineAbovePeriod p x = absurd x
row_there doc UnknownUnit p x = absurd x
row_there doc UnknownTask p x = absurd x
row_there doc TaskNotInTransaction p x = absurd x
row_there doc TaskInTwoTransactions p x = absurd x
row_there doc EdgeBetweenTransactions p x = absurd x
row_there doc EdgesInCircle p x = absurd x
row_there doc UnknownPort p x = absurd x
row_there doc PortNeverFed p x = absurd x
row_there doc PortFedTwice p x = absurd x
row_there doc WidthDiffers p x = absurd x

row_back : (doc : Members) (k : Kind) (p : Place) → 5 ≤ number_of_kind k → number_of_kind k < 9 → Fails doc k p → RowFails (sheet_of doc) k p
row_back doc UnknownKey p a b x = omega arith
row_back doc MissingKey p a b x = omega arith
row_back doc WrongType p a b x = omega arith
row_back doc OutOfRange p a b x = x
row_back doc BadName p a b x = x
row_back doc TwiceNamed p a b x = x
row_back doc TooMany p a b x = x
row_back doc RoundTooShort p a b x = omega arith
row_back doc DeadlineAbovePeriod p a b x = omega arith
row_back doc UnknownUnit p a b x = omega arith
row_back doc UnknownTask p a b x = omega arith
row_back doc TaskNotInTransaction p a b x = omega arith
row_back doc TaskInTwoTransactions p a b x = omega arith
row_back doc EdgeBetweenTransactions p a b x = omega arith
row_back doc EdgesInCircle p a b x = omega arith
row_back doc UnknownPort p a b x = omega arith
row_back doc PortNeverFed p a b x = omega arith
row_back doc PortFedTwice p a b x = omega arith
row_back doc WidthDiffers p a b x = omega arith

relation_there : (doc : Members) (k : Kind) (p : Place) → RelationFails (sheet_of doc) k p → Fails doc k p
relation_there doc UnknownKey p x = absurd x
relation_there doc MissingKey p x = absurd x
relation_there doc WrongType p x = absurd x
relation_there doc OutOfRange p x = absurd x
relation_there doc BadName p x = absurd x
relation_there doc TwiceNamed p x = absurd x
relation_there doc TooMany p x = absurd x
relation_there doc RoundTooShort p x = x
relation_there doc DeadlineAbovePeriod p x = x
relation_there doc UnknownUnit p x = x
relation_there doc UnknownTask p x = x
relation_there doc TaskNotInTransaction p x = x
relation_there doc TaskInTwoTransactions p x = x
relation_there doc EdgeBetweenTransactions p x = x
relation_there doc EdgesInCircle p x = x
relation_there doc UnknownPort p x = absurd x
relation_there doc PortNeverFed p x = absurd x
relation_there doc PortFedTwice p x = absurd x
relation_there doc WidthDiffers p x = absurd x

relation_back : (doc : Members) (k : Kind) (p : Place) → 9 ≤ number_of_kind k → number_of_kind k < 17 → Fails doc k p → RelationFails (sheet_of doc) k p
relation_back doc UnknownKey p a b x = omega arith
relation_back doc MissingKey p a b x = omega arith
relation_back doc WrongType p a b x = omega arith
relation_back doc OutOfRange p a b x = omega arith
relation_back doc BadName p a b x = omega arith
relation_back doc TwiceNamed p a b x = omega arith
relation_back doc TooMany p a b x = omega arith
relation_back doc RoundTooShort p a b x = x
relation_back doc DeadlineAbovePeriod p a b x = x
relation_back doc UnknownUnit p a b x = x
relation_back doc UnknownTask p a b x = x
relation_back doc TaskNotInTransaction p a b x = x
relation_back doc TaskInTwoTransactions p a b x = x
relation_back doc EdgeBetweenTransactions p a b x = x
relation_back doc EdgesInCircle p a b x = x
relation_back doc UnknownPort p a b x = omega arith
relation_back doc PortNeverFed p a b x = omega arith
relation_back doc PortFedTwice p a b x = omega arith
relation_back doc WidthDiffers p a b x = omega arith

-- the first fault of form is the document's first in these kinds
pub of_form : (doc : Members) (r : Option Fault) → IsFirstIn (FormFails doc) 2 5 r → IsFirstIn (Fails doc) 2 5 r
of_form doc r h = first_same (FormFails doc) (Fails doc) 2 5 r (form_there doc) (form_back doc) h

-- the first fault of the rows is the document's first in these kinds
pub of_rows : (doc : Members) (s : PlainSheet) (r : Option Fault) → s ≡ sheet_of doc → IsFirstIn (RowFails s) 5 9 r → IsFirstIn (Fails doc) 5 9 r
of_rows doc s r e h = first_same (RowFails (sheet_of doc)) (Fails doc) 5 9 r (row_there doc) (row_back doc) (subst (λ (t : PlainSheet). IsFirstIn (RowFails t) 5 9 r) e h)

-- the first fault of their relations is the document's first in these kinds
pub of_relations : (doc : Members) (s : PlainSheet) (r : Option Fault) → s ≡ sheet_of doc → IsFirstIn (RelationFails s) 9 17 r → IsFirstIn (Fails doc) 9 17 r
of_relations doc s r e h = first_same (RelationFails (sheet_of doc)) (Fails doc) 9 17 r (relation_there doc) (relation_back doc) (subst (λ (t : PlainSheet). IsFirstIn (RelationFails t) 9 17 r) e h)

by_test : (b c : Bool) → c ≡ b → (c ≡ true → ⊥) → c ≡ false
by_test true c e h = absurd (h e)
by_test false c e h = e

-- where rows have no fault by themselves, the cluster's numbers are in their limits
pub cluster_fine : (s : PlainSheet) (r : Option Fault) → r ≡ None → IsFirstIn (RowFails s) 5 9 r → cluster_out s.cluster ≡ false
cluster_fine s r e x =
    let none : IsFirstIn (RowFails s) 5 9 None = subst (IsFirstIn (RowFails s) 5 9) e x in
    by_test (cluster_out s.cluster) (cluster_out s.cluster) refl (λ bad. none OutOfRange (record { section = Cluster; entry = 0 }) (omega arith) (omega arith) (record { it = s.cluster; stands = refl; passes = bad }))

-- no kind above 16 has a fault of a document
pub none_above : (doc : Members) → IsFirstIn (Fails doc) 17 21 None
none_above doc = λ kind place a b x. above doc kind place a x
  where
    above : (doc : Members) (k : Kind) (p : Place) → 17 ≤ number_of_kind k → Fails doc k p → ⊥
    above doc UnknownKey p a x = omega arith
    above doc MissingKey p a x = omega arith
    above doc WrongType p a x = omega arith
    above doc OutOfRange p a x = omega arith
    above doc BadName p a x = omega arith
    above doc TwiceNamed p a x = omega arith
    above doc TooMany p a x = omega arith
    above doc RoundTooShort p a x = omega arith
    above doc DeadlineAbovePeriod p a x = omega arith
    above doc UnknownUnit p a x = omega arith
    above doc UnknownTask p a x = omega arith
    above doc TaskNotInTransaction p a x = omega arith
    above doc TaskInTwoTransactions p a x = omega arith
    above doc EdgeBetweenTransactions p a x = omega arith
    above doc EdgesInCircle p a x = omega arith
    above doc UnknownPort p a x = x
    above doc PortNeverFed p a x = x
    above doc PortFedTwice p a x = x
    above doc WidthDiffers p a x = x
