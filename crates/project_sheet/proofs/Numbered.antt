-- The first fault, kind by kind.
use Rattle.std.proofs.Common.{◌≡◌, ℕ, zero, suc, ◌<◌, ◌≤◌, ◌⊎◌, inl, inr, Option, Some, None, refl, ap, sym, subst, ◌∙◌, arith}
use Rattle.project_sheet.specs.declared.place.Place.{Place}
use Rattle.project_sheet.specs.declared.kind.Kind.{Kind}
use Rattle.project_sheet.specs.declared.kind.Kind.TheVariants.{UnknownKey, MissingKey, WrongType, OutOfRange, BadName, TwiceNamed, TooMany, RoundTooShort, DeadlineAbovePeriod, UnknownUnit, UnknownTask, TaskNotInTransaction, TaskInTwoTransactions, EdgeBetweenTransactions, EdgesInCircle, UnknownPort, PortNeverFed, PortFedTwice, WidthDiffers}
use Rattle.project_sheet.specs.declared.kind.Fault.{Fault}
use Rattle.project_sheet.specs.First.{IsFirstPlace}
use Rattle.project_sheet.specs.Kind.{number_of_kind, IsFirstIn, IsFirst}

-- a kind's number tells it
kind_at : ℕ → Kind
kind_at (suc (suc (zero))) = UnknownKey
kind_at (suc (suc (suc (zero)))) = MissingKey
kind_at (suc (suc (suc (suc (zero))))) = WrongType
kind_at (suc (suc (suc (suc (suc (zero)))))) = OutOfRange
kind_at (suc (suc (suc (suc (suc (suc (zero))))))) = BadName
kind_at (suc (suc (suc (suc (suc (suc (suc (zero)))))))) = TwiceNamed
kind_at (suc (suc (suc (suc (suc (suc (suc (suc (zero))))))))) = TooMany
kind_at (suc (suc (suc (suc (suc (suc (suc (suc (suc (zero)))))))))) = RoundTooShort
kind_at (suc (suc (suc (suc (suc (suc (suc (suc (suc (suc (zero))))))))))) = DeadlineAbovePeriod
kind_at (suc (suc (suc (suc (suc (suc (suc (suc (suc (suc (suc (zero)))))))))))) = UnknownUnit
kind_at (suc (suc (suc (suc (suc (suc (suc (suc (suc (suc (suc (suc (zero))))))))))))) = UnknownTask
kind_at (suc (suc (suc (suc (suc (suc (suc (suc (suc (suc (suc (suc (suc (zero)))))))))))))) = TaskNotInTransaction
kind_at (suc (suc (suc (suc (suc (suc (suc (suc (suc (suc (suc (suc (suc (suc (zero))))))))))))))) = TaskInTwoTransactions
kind_at (suc (suc (suc (suc (suc (suc (suc (suc (suc (suc (suc (suc (suc (suc (suc (zero)))))))))))))))) = EdgeBetweenTransactions
kind_at (suc (suc (suc (suc (suc (suc (suc (suc (suc (suc (suc (suc (suc (suc (suc (suc (zero))))))))))))))))) = EdgesInCircle
kind_at (suc (suc (suc (suc (suc (suc (suc (suc (suc (suc (suc (suc (suc (suc (suc (suc (suc (zero)))))))))))))))))) = UnknownPort
kind_at (suc (suc (suc (suc (suc (suc (suc (suc (suc (suc (suc (suc (suc (suc (suc (suc (suc (suc (zero))))))))))))))))))) = PortNeverFed
kind_at (suc (suc (suc (suc (suc (suc (suc (suc (suc (suc (suc (suc (suc (suc (suc (suc (suc (suc (suc (zero)))))))))))))))))))) = PortFedTwice
kind_at n = WidthDiffers

back : (k : Kind) → kind_at (number_of_kind k) ≡ k
unfolding kind_at
back UnknownKey = refl
back MissingKey = refl
back WrongType = refl
back OutOfRange = refl
back BadName = refl
back TwiceNamed = refl
back TooMany = refl
back RoundTooShort = refl
back DeadlineAbovePeriod = refl
back UnknownUnit = refl
back UnknownTask = refl
back TaskNotInTransaction = refl
back TaskInTwoTransactions = refl
back EdgeBetweenTransactions = refl
back EdgesInCircle = refl
back UnknownPort = refl
back PortNeverFed = refl
back PortFedTwice = refl
back WidthDiffers = refl

pub same_kind : (k l : Kind) → number_of_kind k ≡ number_of_kind l → k ≡ l
same_kind k l e = sym (back k) ∙ ap kind_at e ∙ back l

in_bounds : (k : Kind) → (2 ≤ number_of_kind k) × (number_of_kind k < 21)
in_bounds UnknownKey = (omega arith, omega arith)
in_bounds MissingKey = (omega arith, omega arith)
in_bounds WrongType = (omega arith, omega arith)
in_bounds OutOfRange = (omega arith, omega arith)
in_bounds BadName = (omega arith, omega arith)
in_bounds TwiceNamed = (omega arith, omega arith)
in_bounds TooMany = (omega arith, omega arith)
in_bounds RoundTooShort = (omega arith, omega arith)
in_bounds DeadlineAbovePeriod = (omega arith, omega arith)
in_bounds UnknownUnit = (omega arith, omega arith)
in_bounds UnknownTask = (omega arith, omega arith)
in_bounds TaskNotInTransaction = (omega arith, omega arith)
in_bounds TaskInTwoTransactions = (omega arith, omega arith)
in_bounds EdgeBetweenTransactions = (omega arith, omega arith)
in_bounds EdgesInCircle = (omega arith, omega arith)
in_bounds UnknownPort = (omega arith, omega arith)
in_bounds PortNeverFed = (omega arith, omega arith)
in_bounds PortFedTwice = (omega arith, omega arith)
in_bounds WidthDiffers = (omega arith, omega arith)

module _ (Fails : Kind → Place → Type 0) (low : ℕ) where
  -- no kind yet
  pub none_yet : IsFirstIn Fails low low None
  none_yet = λ kind place a b h. absurd (omega arith)

  below_or : (k : Kind) (n : ℕ) → number_of_kind k < suc n → (number_of_kind k < n) ⊎ (number_of_kind k ≡ n)
  below_or k n h = grind arith

  -- one kind more without a fault
  none_after : (k : Kind) → IsFirstIn Fails low (number_of_kind k) None → IsFirstPlace (Fails k) None → IsFirstIn Fails low (suc (number_of_kind k)) None
  none_after k before here = λ kind place a b h. elim (below_or kind (number_of_kind k) b) [
    | inl less ↦ before kind place a less h
    | inr same ↦ here place (subst (λ (l : Kind). Fails l place) (same_kind kind k same) h)
  ]

  less_or_same : (k l : Kind) → (number_of_kind l < number_of_kind k) ⊎ ((number_of_kind k ≡ number_of_kind l) ⊎ (number_of_kind k < number_of_kind l))
  less_or_same k l = grind arith

  -- the first kind with a fault
  found_after : (k : Kind) (p : Place) (high : ℕ) → number_of_kind k < high → IsFirstIn Fails low (number_of_kind k) None → IsFirstPlace (Fails k) (Some p)
      → IsFirstIn Fails low high (Some (record { kind = k; place = p }))
  found_after k p high lt before here = (
    lt,
    here.0,
    λ kind place a b h. elim (less_or_same k kind) [
      | inl less ↦ absurd (before kind place a less h)
      | inr rest ↦ elim rest [
        | inl same ↦ inr (same_kind k kind same, here.1 place (subst (λ (l : Kind). Fails l place) (sym (same_kind k kind same)) h))
        | inr more ↦ inl more
      ]
    ],
  )

  pub none_more : (k : Kind) → IsFirstIn Fails low (number_of_kind k) None → (r : Option Place) → r ≡ None → IsFirstPlace (Fails k) r
      → IsFirstIn Fails low (suc (number_of_kind k)) None
  none_more k before r e here = none_after k before (subst (IsFirstPlace (Fails k)) e here)

  pub found_in : (k : Kind) (p : Place) (high : ℕ) → number_of_kind k < high → IsFirstIn Fails low (number_of_kind k) None → (r : Option Place) → r ≡ Some p → IsFirstPlace (Fails k) r
      → IsFirstIn Fails low high (Some (record { kind = k; place = p }))
  found_in k p high lt before r e here = found_after k p high lt before (subst (IsFirstPlace (Fails k)) e here)

  -- no fault in some kinds, and then the first in later ones
  pub later : (middle high : ℕ) (r : Option Fault) → IsFirstIn Fails low middle None → IsFirstIn Fails middle high r → IsFirstIn Fails low high r
  later middle high None before rest = λ kind place a b h. elim (split (number_of_kind kind) middle) [
    | inl less ↦ before kind place a less h
    | inr more ↦ rest kind place more b h
  ]
    where
      split : (n m : ℕ) → (n < m) ⊎ (m ≤ n)
      split n m = grind arith
  later middle high (Some f) before rest = (
    rest.0,
    rest.1,
    λ kind place a b h. elim (split (number_of_kind kind) middle) [
      | inl less ↦ absurd (before kind place a less h)
      | inr more ↦ rest.2 kind place more b h
    ],
  )
    where
      split : (n m : ℕ) → (n < m) ⊎ (m ≤ n)
      split n m = grind arith

-- the first of all faults
pub first_of_all : (Fails : Kind → Place → Type 0) (high : ℕ) (f : Fault) → IsFirstIn Fails 2 high (Some f) → IsFirst Fails f
first_of_all Fails high f h = (
  h.1,
  λ kind place x. elim (split (number_of_kind kind) high) [
    | inl less ↦ h.2 kind place (in_bounds kind).0 less x
    | inr more ↦ inl (omega (arith, h.0))
  ],
)
  where
    split : (n m : ℕ) → (n < m) ⊎ (m ≤ n)
    split n m = grind arith

pub none_of_all : (Fails : Kind → Place → Type 0) → IsFirstIn Fails 2 21 None → (kind : Kind) (place : Place) → Fails kind place → ⊥
none_of_all Fails h = λ kind place x. h kind place (in_bounds kind).0 (in_bounds kind).1 x

-- kinds that speak of the same faults by two names have the same first fault
pub first_same : (F G : Kind → Place → Type 0) (low high : ℕ) (r : Option Fault)
    → ((k : Kind) (p : Place) → F k p → G k p)
    → ((k : Kind) (p : Place) → low ≤ number_of_kind k → number_of_kind k < high → G k p → F k p)
    → IsFirstIn F low high r → IsFirstIn G low high r
first_same F G low high None there back h = λ kind place a b x. h kind place a b (back kind place a b x)
first_same F G low high (Some f) there back h = (h.0, there f.kind f.place h.1, λ kind place a b x. h.2 kind place a b (back kind place a b x))

-- the same fault by another name
pub first_is : (F : Kind → Place → Type 0) (low high : ℕ) (r s : Option Fault) → r ≡ s → IsFirstIn F low high r → IsFirstIn F low high s
first_is F low high r s e h = subst (IsFirstIn F low high) e h
