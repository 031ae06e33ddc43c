-- What a tick's end makes of jobs and states, where no job ends or the one in hand does.
use Rattle.std.proofs.Common.{◌≡◌, ◌≢◌, ℕ, zero, suc, ◌+◌, ◌<◌, ◌≤◌, inl, inr, List, [], length, get_or, map, ℤ, Bool, cond, refl, sym, ◌∙◌, ap, arith}
use Rattle.std.specs.Prelude.{nat_eq, if◌then◌else◌}
use Rattle.std.specs.List.{range_with_len, flat_map}
use Rattle.std.proofs.lemmas.Bool.{cases_eq, eq-eqb, ne_eqb}
use Rattle.std.proofs.lemmas.List.{get_or-map, ext_get_or}
use Rattle.job_book.specs.Known.{Known, Waiting, InHand, Gave, Broke, PassedOver, Book, known_in, status_of}
use Rattle.cluster_model.specs.Effects.{ending, ending_as}
use Rattle.cluster_model.specs.Plan.{Plan, listed}
use Rattle.cluster_model.specs.Sound.{IsSoundPlan}
use Rattle.cluster_model.specs.State as status
use Rattle.cluster_model.specs.State.{Status}
use Rattle.cluster_model.specs.Tick.{result_from, ended, closes, leaves, state_after}
use Rattle.cluster_model.specs.declared.effect.Effect.{Effect}
use Rattle.tick_parts.proofs.Lists.{listed_at, length_listed, listed_same, flat_none, flat_one}

-- what is seen of the jobs that end at a tick
abbrev pub ends_at : Plan → (tick : ℕ) → (statuses : ℕ → Status) → List Effect
ends_at p tick statuses = flat_map (λ job. if nat_eq (p.ends job) (suc tick) then ending p job (statuses job) else []) (range_with_len 0 p.jobs)

module _ (p : Plan) where
  ended_same : (k : ℕ) (known : Known) → known ≢ InHand → (s i : List ℤ) → ended p k (status_of s i known) ≡ status_of s i known
  ended_same k Waiting other s i = refl
  ended_same k InHand other s i = absurd (other refl)
  ended_same k (Gave outs) other s i = refl
  ended_same k Broke other s i = refl
  ended_same k PassedOver other s i = refl

  leaves_same : (k : ℕ) (old : List ℤ) (known : Known) → known ≢ InHand → (s i : List ℤ) → leaves p k old (status_of s i known) ≡ old
  leaves_same k old Waiting other s i = refl
  leaves_same k old InHand other s i = absurd (other refl)
  leaves_same k old (Gave outs) other s i = refl
  leaves_same k old Broke other s i = refl
  leaves_same k old PassedOver other s i = refl

  unseen : (k : ℕ) (known : Known) → known ≢ InHand → (s i : List ℤ) → ending p k (status_of s i known) ≡ []
  unseen k Waiting other s i = refl
  unseen k InHand other s i = absurd (other refl)
  unseen k (Gave outs) other s i = refl
  unseen k Broke other s i = refl
  unseen k PassedOver other s i = refl

module _ (p : Plan) (tick : ℕ) (statuses : ℕ → Status) (book : Book) (state ins : List ℤ) (size : length book.jobs ≡ p.jobs) (held : map (status_of state ins) book.jobs ≡ listed p.jobs statuses) where
  pub status_at : (k : ℕ) → k < p.jobs → statuses k ≡ status_of state ins (known_in book k)
  status_at k few =
      sym (listed_at p.jobs statuses k status.Waiting few)
      ∙ sym (ap (λ (ss : List Status). get_or ss k status.Waiting) held)
      ∙ get_or-map (status_of state ins) book.jobs k Waiting status.Waiting (omega (arith, few, size))

  shown_at : (k : ℕ) → k < p.jobs → known_in book k ≢ InHand → (if nat_eq (p.ends k) (suc tick) then ending p k (statuses k) else []) ≡ []
  shown_at k few other = elim (cases_eq (p.ends k) (suc tick)) [
    | inl here ↦
        ap (λ (b : Bool). if b then ending p k (statuses k) else []) (eq-eqb (p.ends k) (suc tick) here)
        ∙ ap (ending p k) (status_at k few) ∙ unseen p k (known_in book k) other state ins
    | inr there ↦ ap (λ (b : Bool). if b then ending p k (statuses k) else []) (ne_eqb (p.ends k) (suc tick) there)
  ]

  -- the job in hand ends, and is the only one: its end is seen
  pub one_ends : (job : ℕ) → job < p.jobs → p.ends job ≡ suc tick → known_in book job ≡ InHand → ((k : ℕ) → known_in book k ≡ InHand → k ≡ job)
      → ends_at p tick statuses ≡ ending_as p job (p.cost (p.task job) state ins) (result_from p job state ins)
  one_ends job low ends hand only =
      flat_one (λ job. if nat_eq (p.ends job) (suc tick) then ending p job (statuses job) else []) 0 p.jobs job (omega arith) (omega (arith, low))
      (λ k from to other. shown_at k (omega (arith, to)) (λ h. other (only k h)))
      ∙ ap (λ (b : Bool). if b then ending p job (statuses job) else []) (eq-eqb (p.ends job) (suc tick) ends)
      ∙ ap (ending p job) (status_at job low ∙ ap (status_of state ins) hand)

  module _ (quiet : (k : ℕ) → k < p.jobs → known_in book k ≡ InHand → p.ends k ≢ suc tick) where
    closes_same : (k : ℕ) → k < p.jobs → statuses k ≡ closes p tick k (statuses k)
    closes_same k few = elim (cases_eq (p.ends k) (suc tick)) [
      | inl here ↦
          status_at k few ∙ sym (ended_same p k (known_in book k) (λ h. quiet k few h here) state ins) ∙ ap (ended p k) (sym (status_at k few))
          ∙ sym (ap (λ (b : Bool). cond b (ended p k (statuses k)) (statuses k)) (eq-eqb (p.ends k) (suc tick) here))
      | inr there ↦ sym (ap (λ (b : Bool). cond b (ended p k (statuses k)) (statuses k)) (ne_eqb (p.ends k) (suc tick) there))
    ]

    -- where no job in hand ends, all jobs stay as they are
    pub jobs_stay : map (status_of state ins) book.jobs ≡ listed p.jobs (λ k. closes p tick k (statuses k))
    jobs_stay = held ∙ listed_same p.jobs statuses (λ k. closes p tick k (statuses k)) closes_same

    -- nothing of them is seen
    pub none_seen : ends_at p tick statuses ≡ []
    none_seen = flat_none (λ job. if nat_eq (p.ends job) (suc tick) then ending p job (statuses job) else []) 0 p.jobs (λ k from to. one k (omega (arith, to)))
      where
        one : (k : ℕ) → k < p.jobs → (if nat_eq (p.ends k) (suc tick) then ending p k (statuses k) else []) ≡ []
        one k few = elim (cases_eq (p.ends k) (suc tick)) [
          | inl here ↦ shown_at k few (λ h. quiet k few h here)
          | inr there ↦ ap (λ (b : Bool). if b then ending p k (statuses k) else []) (ne_eqb (p.ends k) (suc tick) there)
        ]

    module _ (out_words : ℕ → ℕ) (sound : IsSoundPlan p out_words) (states : List (List ℤ)) (count : length states ≡ p.tasks) where
      state_stays : (task : ℕ) → task < p.tasks → (old : List ℤ) (n : ℕ) → n ≤ p.instances task → state_after p tick statuses task old n ≡ old
      state_stays task lt old zero le = refl
      state_stays task lt old (suc n) le =
          let there = sound.numbered task n lt (omega (arith, le)) in
          elim (cases_eq (p.ends (p.number task n)) (suc tick)) [
            | inl here ↦
                ap (λ (b : Bool). cond b (leaves p (p.number task n) old (statuses (p.number task n))) (state_after p tick statuses task old n)) (eq-eqb (p.ends (p.number task n)) (suc tick) here)
                ∙ ap (leaves p (p.number task n) old) (status_at (p.number task n) there.0)
                ∙ leaves_same p (p.number task n) old (known_in book (p.number task n)) (λ h. quiet (p.number task n) there.0 h here) state ins
            | inr other ↦
                ap (λ (b : Bool). cond b (leaves p (p.number task n) old (statuses (p.number task n))) (state_after p tick statuses task old n)) (ne_eqb (p.ends (p.number task n)) (suc tick) other)
                ∙ state_stays task lt old n (omega (arith, le))
          ]

      -- and all states stay as they are
      pub states_stay : states ≡ listed p.tasks (λ task. state_after p tick statuses task (get_or states task []) (p.instances task))
      states_stay = ext_get_or [] states (listed p.tasks (λ task. state_after p tick statuses task (get_or states task []) (p.instances task)))
          (count ∙ sym (length_listed p.tasks (λ task. state_after p tick statuses task (get_or states task []) (p.instances task))))
          (λ task lt. let few : task < p.tasks = omega (arith, lt, count) in
          sym (state_stays task few (get_or states task []) (p.instances task) (omega arith))
          ∙ sym (listed_at p.tasks (λ task. state_after p tick statuses task (get_or states task []) (p.instances task)) task [] few))
