-- The end of the one job in hand.
use Rattle.std.proofs.Common.{◌≡◌, ◌≢◌, ℕ, zero, suc, ◌<◌, ◌≤◌, inl, inr, List, [], length, get_or, set, map, ℤ, Some, Bool, true, false, cond, refl, sym, ◌∙◌, ap, arith}
use Rattle.std.specs.Prelude.{nat_eq}
use Rattle.std.proofs.lemmas.Bool.{cases_eq, eq-eqb, ne_eqb}
use Rattle.std.proofs.lemmas.List.{get_or-map, length-map, length-set, get_or-set_same, get_or-set_other, ext_get_or}
use Rattle.net_run.specs.NetRun.{JobResult, Done, Broken, Skipped, kept}
use Rattle.job_book.specs.Known.{Known, Waiting, InHand, Gave, Broke, PassedOver, Book, known_in, status_of}
use Rattle.replica_job.specs.Hand.{known_as}
use Rattle.cluster_model.specs.Plan.{Plan, listed}
use Rattle.cluster_model.specs.Sound.{IsSoundPlan}
use Rattle.cluster_model.specs.State as status
use Rattle.cluster_model.specs.State.{Status, told}
use Rattle.cluster_model.specs.Tick.{result_from, ended, closes, leaves, state_after}
use Rattle.tick_parts.proofs.Lists.{listed_at, length_listed}

told_known : (s i : List ℤ) (r : JobResult) → status_of s i (known_as r) ≡ told r
told_known s i (Done results) = refl
told_known s i Broken = refl
told_known s i Skipped = refl

cond_same : (b : Bool) (s : Status) → cond b s s ≡ s
cond_same true s = refl
cond_same false s = refl

cond_state : (b : Bool) (s : List ℤ) → cond b s s ≡ s
cond_state true s = refl
cond_state false s = refl

module _ (p : Plan) (tick : ℕ) (statuses : ℕ → Status) (book : Book) (job : ℕ) (state ins : List ℤ) (low : job < p.jobs) (size : length book.jobs ≡ p.jobs)
    (ends : p.ends job ≡ suc tick) (hand : known_in book job ≡ InHand) (only : (k : ℕ) → known_in book k ≡ InHand → k ≡ job)
    (held : map (status_of state ins) book.jobs ≡ listed p.jobs statuses) where
  status_at : (k : ℕ) → k < p.jobs → statuses k ≡ status_of state ins (known_in book k)
  status_at k few =
      sym (listed_at p.jobs statuses k status.Waiting few)
      ∙ sym (ap (λ (ss : List Status). get_or ss k status.Waiting) held)
      ∙ get_or-map (status_of state ins) book.jobs k Waiting status.Waiting (omega (arith, few, size))

  ends_now : nat_eq (p.ends job) (suc tick) ≡ true
  ends_now = eq-eqb (p.ends job) (suc tick) ends

  closes_it : closes p tick job (statuses job) ≡ told (result_from p job state ins)
  closes_it =
      ap (λ (b : Bool). cond b (ended p job (statuses job)) (statuses job)) ends_now
      ∙ ap (ended p job) (status_at job low ∙ ap (status_of state ins) hand)

  closes_other : (k : ℕ) (known : Known) → known ≢ InHand → (s i : List ℤ) → status_of s i known ≡ closes p tick k (status_of state ins known)
  closes_other k Waiting other s i = sym (cond_same (nat_eq (p.ends k) (suc tick)) status.Waiting)
  closes_other k InHand other s i = absurd (other refl)
  closes_other k (Gave outs) other s i = sym (cond_same (nat_eq (p.ends k) (suc tick)) (status.Gave outs))
  closes_other k Broke other s i = sym (cond_same (nat_eq (p.ends k) (suc tick)) status.Broke)
  closes_other k PassedOver other s i = sym (cond_same (nat_eq (p.ends k) (suc tick)) status.PassedOver)

  -- the job is told its result, and all others stay
  pub jobs_after : (s i : List ℤ) → map (status_of s i) (set book.jobs job (known_as (result_from p job state ins))) ≡ listed p.jobs (λ k. closes p tick k (statuses k))
  jobs_after s i = ext_get_or status.Waiting (map (status_of s i) (set book.jobs job (known_as (result_from p job state ins)))) (listed p.jobs (λ k. closes p tick k (statuses k)))
      (length-map (set book.jobs job (known_as (result_from p job state ins))) (status_of s i) ∙ length-set book.jobs job (known_as (result_from p job state ins)) ∙ size ∙ sym (length_listed p.jobs (λ k. closes p tick k (statuses k))))
      (λ k lk. let few : k < p.jobs = omega (arith, lk, length-map (set book.jobs job (known_as (result_from p job state ins))) (status_of s i), length-set book.jobs job (known_as (result_from p job state ins)), size) in
      get_or-map (status_of s i) (set book.jobs job (known_as (result_from p job state ins))) k Waiting status.Waiting (omega (arith, few, length-set book.jobs job (known_as (result_from p job state ins)), size))
      ∙ elim (cases_eq k job) [
        | inl here ↦
            ap (λ x. status_of s i (get_or (set book.jobs job (known_as (result_from p job state ins))) x Waiting)) here
            ∙ ap (status_of s i) (get_or-set_same book.jobs job (known_as (result_from p job state ins)) Waiting (omega (arith, low, size)))
            ∙ told_known s i (result_from p job state ins) ∙ sym closes_it
            ∙ ap (λ k. closes p tick k (statuses k)) (sym here)
            ∙ sym (listed_at p.jobs (λ k. closes p tick k (statuses k)) k status.Waiting few)
        | inr other ↦
            ap (status_of s i) (get_or-set_other book.jobs job k (known_as (result_from p job state ins)) Waiting other)
            ∙ closes_other k (known_in book k) (λ h. other (only k h)) s i
            ∙ ap (closes p tick k) (sym (status_at k few))
            ∙ sym (listed_at p.jobs (λ k. closes p tick k (statuses k)) k status.Waiting few)
      ])

  leaves_other : (k : ℕ) (old : List ℤ) (known : Known) → known ≢ InHand → leaves p k old (status_of state ins known) ≡ old
  leaves_other k old Waiting other = refl
  leaves_other k old InHand other = absurd (other refl)
  leaves_other k old (Gave outs) other = refl
  leaves_other k old Broke other = refl
  leaves_other k old PassedOver other = refl

  module _ (out_words : ℕ → ℕ) (sound : IsSoundPlan p out_words) (states : List (List ℤ)) (count : length states ≡ p.tasks) (state_is : get_or states (p.task job) [] ≡ state) where
    -- a task of which none of the first instances is the job in hand keeps its state
    keeps : (task : ℕ) → task < p.tasks → (old : List ℤ) (n : ℕ) → n ≤ p.instances task → ((k : ℕ) → k < n → p.number task k ≢ job) → state_after p tick statuses task old n ≡ old
    keeps task lt old zero le none = refl
    keeps task lt old (suc n) le none =
        let there = sound.numbered task n lt (omega (arith, le)) in
        ap (λ (s : List ℤ). cond (nat_eq (p.ends (p.number task n)) (suc tick)) (leaves p (p.number task n) old (statuses (p.number task n))) s) (keeps task lt old n (omega (arith, le)) (λ k lk. none k (omega (arith, lk))))
        ∙ ap (λ (s : List ℤ). cond (nat_eq (p.ends (p.number task n)) (suc tick)) s old)
        (ap (leaves p (p.number task n) old) (status_at (p.number task n) there.0) ∙ leaves_other (p.number task n) old (known_in book (p.number task n)) (λ h. none n (omega arith) (only (p.number task n) h)))
        ∙ cond_state (nat_eq (p.ends (p.number task n)) (suc tick)) old

    -- the state that the job leaves
    left : (n : ℕ) → n ≤ p.instances (p.task job) → p.instance job < n → state_after p tick statuses (p.task job) (get_or states (p.task job) []) n ≡ kept (get_or states (p.task job) []) (result_from p job state ins)
    left zero le in_it = absurd (omega (arith, in_it))
    left (suc n) le in_it = elim (cases_eq n (p.instance job)) [
      | inl here ↦
          let it : p.number (p.task job) n ≡ job = ap (p.number (p.task job)) here ∙ sound.number job low in
          ap (λ k. cond (nat_eq (p.ends k) (suc tick)) (leaves p k (get_or states (p.task job) []) (statuses k)) (state_after p tick statuses (p.task job) (get_or states (p.task job) []) n)) it
          ∙ ap (λ (b : Bool). cond b (leaves p job (get_or states (p.task job) []) (statuses job)) (state_after p tick statuses (p.task job) (get_or states (p.task job) []) n)) ends_now
          ∙ ap (leaves p job (get_or states (p.task job) [])) (status_at job low ∙ ap (status_of state ins) hand)
      | inr later ↦
          let more : p.instance job < n = omega (arith, in_it, later) in
          let there = sound.numbered (p.task job) n (sound.task job low) (omega (arith, le)) in
          let long = sound.long (p.number (p.task job) n) there.0 in
          let behind = sound.later (p.task job) (p.instance job) n (sound.task job low) more (omega (arith, le)) in
          let it : p.ends (p.number (p.task job) (p.instance job)) ≡ p.ends job = ap p.ends (sound.number job low) in
          ap (λ (b : Bool). cond b (leaves p (p.number (p.task job) n) (get_or states (p.task job) []) (statuses (p.number (p.task job) n))) (state_after p tick statuses (p.task job) (get_or states (p.task job) []) n))
          (ne_eqb (p.ends (p.number (p.task job) n)) (suc tick) (λ e. omega (arith, e, long, behind, it, ends)))
          ∙ left n (omega (arith, le)) more
    ]

    pub states_after : set states (p.task job) (kept (get_or states (p.task job) []) (result_from p job state ins)) ≡ listed p.tasks (λ task. state_after p tick statuses task (get_or states task []) (p.instances task))
    states_after = ext_get_or [] (set states (p.task job) (kept (get_or states (p.task job) []) (result_from p job state ins))) (listed p.tasks (λ task. state_after p tick statuses task (get_or states task []) (p.instances task)))
        (length-set states (p.task job) (kept (get_or states (p.task job) []) (result_from p job state ins)) ∙ count ∙ sym (length_listed p.tasks (λ task. state_after p tick statuses task (get_or states task []) (p.instances task))))
        (λ task lt. let few : task < p.tasks = omega (arith, lt, length-set states (p.task job) (kept (get_or states (p.task job) []) (result_from p job state ins)), count) in
        elim (cases_eq task (p.task job)) [
          | inl here ↦
              let known = sound.task job low in
              ap (λ x. get_or (set states (p.task job) (kept (get_or states (p.task job) []) (result_from p job state ins))) x []) here
              ∙ get_or-set_same states (p.task job) (kept (get_or states (p.task job) []) (result_from p job state ins)) [] (omega (arith, known, count))
              ∙ sym (left (p.instances (p.task job)) (omega arith) (sound.instance job low))
              ∙ ap (λ task. state_after p tick statuses task (get_or states task []) (p.instances task)) (sym here)
              ∙ sym (listed_at p.tasks (λ task. state_after p tick statuses task (get_or states task []) (p.instances task)) task [] few)
          | inr other ↦
              get_or-set_other states (p.task job) task (kept (get_or states (p.task job) []) (result_from p job state ins)) [] other
              ∙ sym (keeps task few (get_or states task []) (p.instances task) (omega arith)
              (λ k lk e. other (sym (sound.numbered task k few lk).1 ∙ ap p.task e)))
              ∙ sym (listed_at p.tasks (λ task. state_after p tick statuses task (get_or states task []) (p.instances task)) task [] few)
        ])

pub one_program : {P : Type 0} (a b : P) → Some a ≡ Some b → a ≡ b
one_program a b e = cc
