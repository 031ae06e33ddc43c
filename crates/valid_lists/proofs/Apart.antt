-- Two jobs on one unit take no tick together.
use Rattle.std.proofs.Common.{◌≡◌, ℕ, ◌+◌, ◌≤◌, ◌⊎◌, inl, inr, Bool, true, false, ◌||◌, leb, if◌then◌else◌, List, [], ◌∷◌, ◌++◌, refl, sym, ap, ◌∙◌, subst, arith, leb-true}
use Rattle.std.specs.Prelude.{◌==◌}
use Rattle.std.proofs.lemmas.Bool.{and_parts, or_cases}
use Rattle.decisions.specs.declared.problem.Problem.{Problem}
use Rattle.decisions.specs.Decision.{Decision, work_at}
use Rattle.decisions.specs.Place.{ticks_on, is_free}
use Rattle.decisions.specs.Choices.{IsReached}
use Rattle.reached.proofs.Members.{In, in_cons, in_append, in_nothing, in_one}
use Rattle.valid_lists.proofs.Along.{IsNew, along}
use Rattle.valid_lists.proofs.Units.{same_test}

-- the decision takes none of the n ticks from the start on
abbrev pub IsClear : Decision → (start n : ℕ) → Type 0
IsClear d start n = (d.end ≤ start) ⊎ (start + n ≤ d.start)

-- the first decision is clear, and the others' ticks are free
record IsClearFirst (d : Decision) (l : List Decision) (unit start n : ℕ) : Type 0 where
  first : d.unit ≡ unit → IsClear d start n
  rest : is_free (ticks_on l unit) start n ≡ true

clear_by : (d : Decision) (l : List Decision) (unit start n : ℕ) (b : Bool) → (d.unit == unit) ≡ b → is_free ((if b then (record { start = d.start; end = d.end }) ∷ [] else []) ++ ticks_on l unit) start n ≡ true → IsClearFirst d l unit start n
clear_by d l unit start n true e h =
    let b = and_parts (leb d.end start || leb (start + n) d.start) (is_free (ticks_on l unit) start n) h in
    record {
      first = λ s. elim (or_cases (leb d.end start) (leb (start + n) d.start) b.0) [ inl t ↦ inl (leb-true d.end start t) | inr t ↦ inr (leb-true (start + n) d.start t) ];
      rest = b.1;
    }
clear_by d l unit start n false e h = record { first = λ s. absurd (let t = same_test d.unit unit s in cc); rest = h }

-- where ticks are free each decision on the unit is clear of them
clear : (l : List Decision) (unit start n : ℕ) → is_free (ticks_on l unit) start n ≡ true → (d : Decision) → In l d → d.unit ≡ unit → IsClear d start n
clear [] unit start n h d i s = absurd (in_nothing d i)
clear (x ∷ l) unit start n h d i s =
    let c = clear_by x l unit start n (x.unit == unit) refl h in
    elim (in_cons x l d i) [
      | inl e ↦ subst (λ (y : Decision). IsClear y start n) e (c.first (ap (λ (y : Decision). y.unit) e ∙ s))
      | inr j ↦ clear l unit start n c.rest d j s
    ]

-- one is over before the other starts
abbrev pub AreClear : Decision → Decision → Type 0
AreClear d e = (d.end ≤ e.start) ⊎ (e.end ≤ d.start)

abbrev pub AreAllClear : List Decision → Type 0
AreAllClear l = (d e : Decision) → In l d → In l e → (d.job ≡ e.job → ⊥) → d.unit ≡ e.unit → AreClear d e

-- an old decision and a new one
clear_new : (pr : Problem) (l : List Decision) (d x : Decision) → IsNew pr l d → In l x → x.unit ≡ d.unit → AreClear x d
clear_new pr l d x n i s =
    let c = n.choice.decided in
    elim (clear l d.unit d.start (work_at pr d.job).length c.free x i s) [ inl h ↦ inl h | inr h ↦ inr (omega (arith, c.span)) ]

turned : (d e : Decision) → AreClear d e → AreClear e d
turned d e h = elim h [ inl a ↦ inr a | inr b ↦ inl b ]

clear_next : (pr : Problem) (l : List Decision) (d x y : Decision) → IsNew pr l d → AreAllClear l → In (l ++ d ∷ []) x → In (l ++ d ∷ []) y → (x.job ≡ y.job → ⊥) → x.unit ≡ y.unit → AreClear x y
clear_next pr l d x y n h i j ne s = elim (in_append l (d ∷ []) x i) [
  | inl a ↦ elim (in_append l (d ∷ []) y j) [
    | inl b ↦ h x y a b ne s
    | inr b ↦ (let e = in_one d y b in subst (AreClear x) e (clear_new pr l d x n a (s ∙ ap (λ (z : Decision). z.unit) (sym e))))
  ]
  | inr a ↦ (let f = in_one d x a in elim (in_append l (d ∷ []) y j) [
    | inl b ↦ turned y x (subst (AreClear y) f (clear_new pr l d y n b (sym s ∙ ap (λ (z : Decision). z.unit) (sym f))))
    | inr b ↦ absurd (ne (ap (λ (z : Decision). z.job) (sym f ∙ in_one d y b)))
  ])
]

pub all_clear : (pr : Problem) (l : List Decision) → IsReached pr l → AreAllClear l
all_clear pr = along pr AreAllClear (λ d e i j ne s. absurd (in_nothing d i)) (λ l d n h x y i j ne s. clear_next pr l d x y n h i j ne s)
