-- The walk over the actuators of a task.
use Rattle.std.proofs.Common.{◌≡◌, ℕ, zero, suc, ◌+◌, ◌-◌, ◌<◌, ◌≤◌, inl, inr, List, [], ◌∷◌, ◌++◌, length, drop, get_or, map, Option, None, Some, Bool, refl, sym, ◌∙◌, ap, subst, arith, append_assoc, length-drop}
use Rattle.std.specs.Prelude.{◌==◌, if◌then◌else◌}
use Rattle.std.proofs.lemmas.Bool.{cases_eq, eq-eqb, ne_eqb}
use Rattle.std.proofs.lemmas.List.{get_or-map, get_or-drop, drop-drop, drop_more, length-map}
use Rattle.agenda.specs.Due.{IsDue, FirstFrom}
use Rattle.agenda.proofs.Walking.{left}
use Rattle.graph.specs.declared.net.Plug.{Plug}
use Rattle.cluster_model.specs.PlanOf.{fed_by}
use Rattle.cluster_model.specs.declared.effect.Effect.{Effect}
use Rattle.cluster_model.specs.declared.effect.Effect.TheVariants as effect
use Rattle.tick_parts.specs.Shows.{shown_outs}

abbrev no_plug : Plug
no_plug = record { name = []; task = 0; port = 0 }

-- the actuators that are left
abbrev pub rest : (task : ℕ) → List Plug → Option ℕ → List ℕ
rest task plugs None = []
rest task plugs (Some m) = fed_by task (drop m plugs) m

module _ (task : ℕ) where
  -- where none of some is the task's, none is fed
  none_fed : (plugs : List Plug) (k : ℕ) → ((i : ℕ) (d : Plug) → i < length plugs → (get_or plugs i d).task ≡ task → ⊥) → fed_by task plugs k ≡ []
  none_fed [] k none = refl
  none_fed (plug ∷ plugs) k none =
      ap (λ (b : Bool). (if b then k ∷ [] else []) ++ fed_by task plugs (k + 1)) (ne_eqb plug.task task (none 0 plug (omega arith)))
      ∙ none_fed plugs (k + 1) (λ i d low e. none (suc i) d (omega (arith, low)) e)

  -- those that aren't the task's are passed over
  skip : (plugs : List Plug) (k m : ℕ) → k ≤ m → m < k + length plugs → ((i : ℕ) (d : Plug) → i < m - k → (get_or plugs i d).task ≡ task → ⊥) → fed_by task plugs k ≡ fed_by task (drop (m - k) plugs) m
  skip [] k m le low none = absurd (omega (arith, le, low))
  skip (plug ∷ plugs) k m le low none = elim (cases_eq k m) [
    | inl here ↦
        let z : m - k ≡ 0 = omega (arith, here) in
        ap (fed_by task (plug ∷ plugs)) here ∙ sym (ap (λ n. fed_by task (drop n (plug ∷ plugs)) m) z)
    | inr later ↦
        let more : k + 1 ≤ m = omega (arith, le, later) in
        let z : m - k ≡ suc (m - (k + 1)) = omega (arith, more) in
        ap (λ (b : Bool). (if b then k ∷ [] else []) ++ fed_by task plugs (k + 1)) (ne_eqb plug.task task (none 0 plug (omega (arith, more))))
        ∙ skip plugs (k + 1) m more (omega (arith, low)) (λ i d less e. none (suc i) d (omega (arith, less, z)) e)
        ∙ sym (ap (λ n. fed_by task (drop n (plug ∷ plugs)) m) z)
  ]

  module _ (plugs : List Plug) (due : List ℕ) (is : due ≡ map (λ (plug : Plug). plug.task) plugs) where
    size : length due ≡ length plugs
    size = ap length is ∙ length-map {B = ℕ} plugs (λ (plug : Plug). plug.task)

    due_at : (i : ℕ) (d : Plug) → i < length plugs → get_or due i 0 ≡ (get_or plugs i d).task
    due_at i d low = ap (λ xs. get_or xs i 0) is ∙ get_or-map (λ (plug : Plug). plug.task) plugs i d 0 low

    pub rest_from : (from : ℕ) (o : Option ℕ) → FirstFrom due from task o → fed_by task (drop from plugs) from ≡ rest task plugs o
    rest_from from None none = none_fed (drop from plugs) from
        (λ i d low e. none (from + i) (omega arith) (record { within = omega (arith, low, length-drop from plugs, size); at = due_at (from + i) d (omega (arith, low, length-drop from plugs)) ∙ ap (λ (p : Plug). p.task) (sym (get_or-drop from plugs i d)) ∙ e }))
    rest_from from (Some m) first =
        let w = first.is_due.within in
        let a = first.after in
        skip (drop from plugs) from m a (omega (arith, w, a, length-drop from plugs, size))
        (λ i d less e.
        let in_it : from + i < length plugs = omega (arith, less, w, size) in
        let early = first.least (from + i) (omega arith) (record { within = omega (arith, in_it, size); at = due_at (from + i) d in_it ∙ ap (λ (p : Plug). p.task) (sym (get_or-drop from plugs i d)) ∙ e }) in
        omega (arith, early, less, a))
        ∙ ap (λ (ps : List Plug). fed_by task ps m) (drop-drop (m - from) from plugs ∙ (let z : from + (m - from) ≡ m = omega (arith, a) in ap (λ n. drop n plugs) z))

    -- the first of them, and those behind it
    pub rest_more : (m : ℕ) (next : Option ℕ) → IsDue due task m → FirstFrom due (m + 1) task next → rest task plugs (Some m) ≡ m ∷ rest task plugs next
    rest_more m next here first =
        let w = here.within in
        let low : m < length plugs = omega (arith, w, size) in
        ap (λ (ps : List Plug). fed_by task ps m) (drop_more plugs m no_plug low)
        ∙ ap (λ (b : Bool). (if b then m ∷ [] else []) ++ fed_by task (drop (m + 1) plugs) (m + 1)) (eq-eqb (get_or plugs m no_plug).task task (sym (due_at m no_plug low) ∙ here.at))
        ∙ ap (λ (ns : List ℕ). m ∷ ns) (rest_from (m + 1) next first)

    -- one effect more
    pub one_shown : (seen more all : List Effect) (instance m : ℕ) (next : Option ℕ) → IsDue due task m → FirstFrom due (m + 1) task next
        → more ≡ seen ++ effect.Out m instance ∷ [] → seen ++ shown_outs instance (rest task plugs (Some m)) ≡ all → more ++ shown_outs instance (rest task plugs next) ≡ all
    one_shown seen more all instance m next here first pushed before =
        ap (λ (es : List Effect). es ++ shown_outs instance (rest task plugs next)) pushed
        ∙ append_assoc seen (effect.Out m instance ∷ []) (shown_outs instance (rest task plugs next))
        ∙ ap (λ (ns : List ℕ). seen ++ shown_outs instance ns) (sym (rest_more m next here first))
        ∙ before

-- no more are left than there are
pub left_small : (count : ℕ) (o : Option ℕ) → left count o ≤ count
left_small count None = omega arith
left_small count (Some m) = omega arith
