-- Equal results of jobs have equal text.
use Rattle.std.proofs.Common.{◌≡◌, ℕ, zero, suc, ◌+◌, ◌<◌, ◌≤◌, List, [], ◌∷◌, ◌++◌, length, get_or, map, Bool, true, false, cond, ◌||◌, refl, ◌∙◌, ap, arith}
use Rattle.std.specs.Prelude.{slice_get, filter, ◌==◌, if◌then◌else◌}
use Rattle.std.specs.List.{range_with_len, list_any, flat_map}
use Rattle.std.proofs.lemmas.List.Elements.{All-get_or}
use Rattle.graph.specs.Net.{instances}
use Rattle.graph.specs.NetGraph.{IsNetGraph}
use Rattle.graph.specs.Rules.{IsActuator}
use Rattle.graph.specs.declared.net.Net.{Net}
use Rattle.graph.specs.declared.net.Plug.{Plug}
use Rattle.tables.specs.Named.{job_at}
use Rattle.cluster_model.specs.State.{Status, given}
use Rattle.cluster_plan.proofs.Numbers.{inside}
use Rattle.run_texts.specs.Lines.{broken_line}
use Rattle.run_texts.specs.RunText.{is_broke, broken_text, some_broke, outs_text, shown}
use Rattle.run_texts.specs.Setting.{Setting, Output, plug_task, actuator_task, name_of_task, job_for, tick_of, outputs_of, all_outputs, outputs_at, outputs}

flat_same : (f g : ℕ → List ℕ) (a n : ℕ) → ((j : ℕ) → a ≤ j → j < a + n → f j ≡ g j) → flat_map f (range_with_len a n) ≡ flat_map g (range_with_len a n)
flat_same f g a zero h = refl
flat_same f g a (suc n) h =
    ap (λ x. x ++ flat_map f (range_with_len (a + 1) n)) (h a (omega arith) (omega arith))
    ∙ ap (λ x. g a ++ x) (flat_same f g (a + 1) n (λ j low high. h j (omega (arith, low)) (omega (arith, high))))

any_same : (f g : ℕ → Bool) (a n : ℕ) → ((j : ℕ) → a ≤ j → j < a + n → f j ≡ g j) → list_any f (range_with_len a n) ≡ list_any g (range_with_len a n)
any_same f g a zero h = refl
any_same f g a (suc n) h =
    ap (λ x. x || list_any f (range_with_len (a + 1) n)) (h a (omega arith) (omega arith))
    ∙ ap (λ x. g a || x) (any_same f g (a + 1) n (λ j low high. h j (omega (arith, low)) (omega (arith, high))))

-- what holds of each of some outputs
abbrev Each : (Output → Type 0) → List Output → Type 0
Each P [] = Unit {0}
Each P (o ∷ os) = P o × Each P os

each_append : (P : Output → Type 0) (xs ys : List Output) → Each P xs → Each P ys → Each P (xs ++ ys)
each_append P [] ys a b = b
each_append P (x ∷ xs) ys a b = (a.0, each_append P xs ys a.1 b)

each_flat : (P : Output → Type 0) (f : ℕ → List Output) (a n : ℕ) → ((j : ℕ) → a ≤ j → j < a + n → Each P (f j)) → Each P (flat_map f (range_with_len a n))
each_flat P f a zero h = tt
each_flat P f a (suc n) h =
    each_append P (f a) (flat_map f (range_with_len (a + 1) n)) (h a (omega arith) (omega arith)) (each_flat P f (a + 1) n (λ j low high. h j (omega (arith, low)) (omega (arith, high))))

each_map : (P : Output → Type 0) (f : ℕ → Output) (a n : ℕ) → ((j : ℕ) → a ≤ j → j < a + n → P (f j)) → Each P (map f (range_with_len a n))
each_map P f a zero h = tt
each_map P f a (suc n) h = (h a (omega arith) (omega arith), each_map P f (a + 1) n (λ j low high. h j (omega (arith, low)) (omega (arith, high))))

each_filter : (P : Output → Type 0) (test : Output → Bool) (xs : List Output) → Each P xs → Each P (filter test xs)
each_filter P test [] h = tt
each_filter P test (x ∷ xs) h = elim (test x) as (λ b. Each P (cond b (x ∷ filter test xs) (filter test xs))) [ true ↦ (h.0, each_filter P test xs h.1) | false ↦ each_filter P test xs h.1 ]

flat_each : (f g : Output → List ℕ) (xs : List Output) → Each (λ o. f o ≡ g o) xs → flat_map f xs ≡ flat_map g xs
flat_each f g [] h = refl
flat_each f g (x ∷ xs) h = ap (λ y. y ++ flat_map f xs) h.0 ∙ ap (λ y. g x ++ y) (flat_each f g xs h.1)

plug_within : (net : Net) (plugs : List Plug) (k : ℕ) → k < length plugs → ((i : ℕ) (d : Plug) → i < length plugs → IsActuator net (get_or plugs i d)) → plug_task (slice_get plugs k) < length net.tasks
plug_within net [] k low h = absurd (omega (arith, low))
plug_within net (plug ∷ plugs) zero low h = (h zero plug (omega arith)).task
plug_within net (plug ∷ plugs) (suc k) low h = plug_within net plugs k (omega (arith, low)) (λ i d l. h (suc i) d (omega (arith, l)))

module _ (s : Setting) (n : IsNetGraph s.net s.graph) where
  -- the job of each output is one of the graph's
  all_have : Each (λ o. job_for s o.actuator o.instance < length s.graph.jobs) (outputs s)
  all_have =
      each_flat (λ o. job_for s o.actuator o.instance < length s.graph.jobs) (outputs_at s) 0 (s.graph.cycle + 1) (λ tick low high.
      each_filter (λ o. job_for s o.actuator o.instance < length s.graph.jobs) (λ (o : Output). o.tick == tick) (all_outputs s)
      (each_flat (λ o. job_for s o.actuator o.instance < length s.graph.jobs) (outputs_of s) 0 (length s.net.actuators) (λ actuator low2 high2.
      each_map (λ o. job_for s o.actuator o.instance < length s.graph.jobs) (λ instance. record { tick = tick_of s actuator instance; actuator = actuator; instance = instance }) 0
      (instances s.net s.graph.cycle (actuator_task s actuator)) (λ instance low3 high3.
      inside s.net s.graph n (actuator_task s actuator) instance
      (plug_within s.net s.net.actuators actuator (omega (arith, high2)) (λ i d l. All-get_or (IsActuator s.net) s.net.actuators i d l n.is.rules.entry_rules.entries.actuators))
      (omega (arith, high3))))))

  module _ (cycle : ℕ) (one two : ℕ → Status) (same : (job : ℕ) → job < length s.graph.jobs → one job ≡ two job) where
    pub broken_same : broken_text s cycle one ≡ broken_text s cycle two
    broken_same = flat_same
        (λ job. if is_broke (one job) then broken_line cycle (name_of_task s (job_at s.graph job).task) (job_at s.graph job).instance else [])
        (λ job. if is_broke (two job) then broken_line cycle (name_of_task s (job_at s.graph job).task) (job_at s.graph job).instance else [])
        0 (length s.graph.jobs)
        (λ job low high. ap (λ status. if is_broke status then broken_line cycle (name_of_task s (job_at s.graph job).task) (job_at s.graph job).instance else []) (same job (omega (arith, high))))

    pub some_same : some_broke s cycle one ≡ some_broke s cycle two
    some_same = any_same (λ job. is_broke (one job)) (λ job. is_broke (two job)) 0 (length s.graph.jobs) (λ job low high. ap is_broke (same job (omega (arith, high))))

    weaker : (xs : List Output) → Each (λ o. job_for s o.actuator o.instance < length s.graph.jobs) xs
        → Each (λ o. shown s cycle one o (given (one (job_for s o.actuator o.instance))) ≡ shown s cycle two o (given (two (job_for s o.actuator o.instance)))) xs
    weaker [] h = tt
    weaker (o ∷ os) h = (ap (λ status. shown s cycle one o (given status)) (same (job_for s o.actuator o.instance) h.0), weaker os h.1)

    pub outs_same : outs_text s cycle one ≡ outs_text s cycle two
    outs_same = flat_each (λ o. shown s cycle one o (given (one (job_for s o.actuator o.instance)))) (λ o. shown s cycle two o (given (two (job_for s o.actuator o.instance)))) (outputs s) (weaker (outputs s) all_have)
