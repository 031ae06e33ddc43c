-- All jobs of a task are on one of its units.
use Rattle.std.proofs.Common.{◌≡◌, ℕ, inl, inr, Bool, true, false, if◌then◌else◌, List, [], ◌∷◌, ◌++◌, Option, Some, None, refl, sym, ap, ◌∙◌, subst, arith}
use Rattle.std.specs.Prelude.{◌==◌, find}
use Rattle.std.specs.Int.{bit_at}
use Rattle.std.proofs.lemmas.Bool.{and_parts}
use Rattle.decisions.specs.declared.problem.Problem.{Problem}
use Rattle.decisions.specs.Decision.{Decision, work_at, first_of_task}
use Rattle.decisions.specs.Choices.{is_home, IsReached}
use Rattle.reached.proofs.Members.{In, in_cons, in_append, in_nothing, in_one}
use Rattle.reached.proofs.Good.{find_in}
use Rattle.valid_lists.proofs.Along.{IsNew, along}

pub equal_test : (a b : ℕ) → (a == b) ≡ true → a ≡ b
equal_test a b h = grind arith

pub same_test : (a b : ℕ) → a ≡ b → (a == b) ≡ true
same_test a b h = grind arith

pub other_test : (a b : ℕ) → (a ≡ b → ⊥) → (a == b) ≡ false
other_test a b h = grind arith

-- the decisions are on units of their tasks, and those on one task are on one unit
pub record HasHomes (pr : Problem) (l : List Decision) : Type 0 where
  pub allowed : (d : Decision) → In l d → bit_at (work_at pr d.job).units d.unit ≡ 1
  pub same : (d e : Decision) → In l d → In l e → (work_at pr d.job).task ≡ (work_at pr e.job).task → d.unit ≡ e.unit

found_by : (p : Decision → Bool) (y : Decision) (l : List Decision) (x : Decision) (b : Bool) → p y ≡ b → (if b then Some y else find p l) ≡ None → In (y ∷ l) x → p x ≡ true → (find p l ≡ None → In l x → ⊥) → ⊥
found_by p y l x true e h i t rest = cc
found_by p y l x false e h i t rest = elim (in_cons y l x i) [
  | inl s ↦ (let u : p x ≡ false = subst (λ z. p z ≡ false) s e in cc)
  | inr j ↦ rest h j
]

-- what passes is found
found : (p : Decision → Bool) (l : List Decision) (x : Decision) → find p l ≡ None → In l x → p x ≡ true → ⊥
found p [] x h i t = in_nothing x i
found p (y ∷ l) x h i t = found_by p y l x (p y) refl h i t (λ g j. found p l x g j t)

at_home_by : (pr : Problem) (l : List Decision) (d x : Decision) (o : Option Decision) → first_of_task pr l (work_at pr d.job).task ≡ o → is_home d.unit o ≡ true → HasHomes pr l → In l x → (work_at pr x.job).task ≡ (work_at pr d.job).task → x.unit ≡ d.unit
at_home_by pr l d x None e t h i s = absurd (found (λ (y : Decision). (work_at pr y.job).task == (work_at pr d.job).task) l x e i (same_test (work_at pr x.job).task (work_at pr d.job).task s))
at_home_by pr l d x (Some f) e t h i s =
    let g = find_in (λ (y : Decision). (work_at pr y.job).task == (work_at pr d.job).task) l f e in
    let task : (work_at pr f.job).task ≡ (work_at pr d.job).task = equal_test (work_at pr f.job).task (work_at pr d.job).task g.1 in
    h.same x f i g.0 (s ∙ sym task) ∙ equal_test f.unit d.unit t

-- a choice is on the unit of its task's jobs
at_home : (pr : Problem) (l : List Decision) (d x : Decision) → IsNew pr l d → HasHomes pr l → In l x → (work_at pr x.job).task ≡ (work_at pr d.job).task → x.unit ≡ d.unit
at_home pr l d x n h i s =
    let b = and_parts (bit_at (work_at pr d.job).units d.unit == 1) (is_home d.unit (first_of_task pr l (work_at pr d.job).task)) n.allowed in
    at_home_by pr l d x (first_of_task pr l (work_at pr d.job).task) refl b.1 h i s

allowed_next : (pr : Problem) (l : List Decision) (d x : Decision) → IsNew pr l d → HasHomes pr l → In (l ++ d ∷ []) x → bit_at (work_at pr x.job).units x.unit ≡ 1
allowed_next pr l d x n h i = elim (in_append l (d ∷ []) x i) [
  | inl old ↦ h.allowed x old
  | inr new ↦ (
      let b = and_parts (bit_at (work_at pr d.job).units d.unit == 1) (is_home d.unit (first_of_task pr l (work_at pr d.job).task)) n.allowed in
      subst (λ (y : Decision). bit_at (work_at pr y.job).units y.unit ≡ 1) (in_one d x new) (equal_test (bit_at (work_at pr d.job).units d.unit) 1 b.0))
]

same_next : (pr : Problem) (l : List Decision) (d x y : Decision) → IsNew pr l d → HasHomes pr l → In (l ++ d ∷ []) x → In (l ++ d ∷ []) y → (work_at pr x.job).task ≡ (work_at pr y.job).task → x.unit ≡ y.unit
same_next pr l d x y n h i j s = elim (in_append l (d ∷ []) x i) [
  | inl a ↦ elim (in_append l (d ∷ []) y j) [
    | inl b ↦ h.same x y a b s
    | inr b ↦ (let e = in_one d y b in
        at_home pr l d x n h a (s ∙ ap (λ (z : Decision). (work_at pr z.job).task) (sym e)) ∙ ap (λ (z : Decision). z.unit) e)
  ]
  | inr a ↦ (let f = in_one d x a in elim (in_append l (d ∷ []) y j) [
    | inl b ↦ ap (λ (z : Decision). z.unit) (sym f) ∙ sym (at_home pr l d y n h b (sym s ∙ ap (λ (z : Decision). (work_at pr z.job).task) (sym f)))
    | inr b ↦ ap (λ (z : Decision). z.unit) (sym f ∙ in_one d y b)
  ])
]

pub homes : (pr : Problem) (l : List Decision) → IsReached pr l → HasHomes pr l
homes pr = along pr (HasHomes pr) (record { allowed = λ d i. absurd (in_nothing d i); same = λ d e i j s. absurd (in_nothing d i) })
    (λ l d n h. record { allowed = λ x i. allowed_next pr l d x n h i; same = λ x y i j s. same_next pr l d x y n h i j s })
