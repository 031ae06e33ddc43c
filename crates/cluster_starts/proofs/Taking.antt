-- The states of the tasks are taken one after another.
use Rattle.std.proofs.Common.{◌≡◌, ◌⊎◌, inl, inr, ℕ, ◌+◌, ◌*◌, ◌<◌, ◌≤◌, cond, true, false, List, [], length, map, set, get_or, ℤ, Option, refl, sym, ◌∙◌, ap, subst, arith, slice_index}
use Rattle.std.proofs.lemmas.Bool.{cases_eq, cases_Bool}
use Rattle.std.proofs.lemmas.List.{ext_get_or, get_or-map, length-map, length-set, get_or-set_same, get_or-set_other}
use Rattle.mars_base.specs.declared.shape.Side.TheVariants.{A, B}
use Rattle.bus.specs.Numbers.{BusState}
use Rattle.graph.specs.NetGraph.{IsNetGraph}
use Rattle.tables.specs.Valid.{AreValid}
use Rattle.plant.specs.declared.system.Plant.{Plant}
use Rattle.net_run.specs.NetRun.{Execution}
use Rattle.cluster_agreement.proofs.Reading.{listed_at, number_within}
use Rattle.cluster_agreement.proofs.Slots.{length_listed}
use Rattle.cluster_model.specs.Cluster.{is_silent, left_by, left_states}
use Rattle.cluster_model.specs.Plan.{Plan}
use Rattle.cluster_model.specs.State.{state_in, Member, replica_number, member_of, State}
use Rattle.cluster_seats.proofs.Members.{seat_of, member_at}
use Rattle.cluster_seats.specs.Seats.{Seated, seat_at, AreSeated, member_on, members_on, plan_for}
use Rattle.cluster_starts.specs.Left.{left_of, home_of, HaveRoom, state_with}
use Rattle.cluster_starts.proofs.Homes.{home_is, home_within}

module _ {P : Type 0} (plant : Plant P) (seats : List Seated) where
  -- what a task has left, by its unit's two replicas
  abbrev pub left_at : (task : ℕ) → (old : List ℤ) → List ℤ
  left_at task old = left_of (seat_at seats (2 * home_of plant.graph plant.tables task)) (seat_at seats (2 * home_of plant.graph plant.tables task + 1)) task old

  -- the first ones are taken, and the others as they were
  pub record AreTaken (count : ℕ) (old now : List (List ℤ)) : Type 0 where
    pub count_is : length now ≡ length old
    pub done : (k : ℕ) → k < count → k < length old → get_or now k [] ≡ left_at k (get_or old k [])
    pub rest : (k : ℕ) → count ≤ k → get_or now k [] ≡ get_or old k []
    pub sizes : (k : ℕ) → length (get_or now k []) ≡ length (get_or old k [])

  pub none_taken : (old : List (List ℤ)) → AreTaken 0 old old
  none_taken old = record { count_is = refl; done = λ k b c. absurd (omega (arith, b)); rest = λ k b. refl; sizes = λ k. refl }

  module _ (n : IsNetGraph plant.net plant.graph) (v : AreValid plant.net plant.graph plant.tables) (is : AreSeated plant.net.shape.units seats) (starts : List (List ℤ)) (h : HaveRoom plant seats starts) where
    -- the room of a task's state at each of its unit's replicas
    pub a_low : (task : ℕ) → task < length plant.net.tasks → 2 * home_of plant.graph plant.tables task < length seats
    a_low task low = omega (arith, is.count, home_within plant.net plant.graph plant.tables n v task low)

    pub b_low : (task : ℕ) → task < length plant.net.tasks → 2 * home_of plant.graph plant.tables task + 1 < length seats
    b_low task low = omega (arith, is.count, home_within plant.net plant.graph plant.tables n v task low)

    pub a_unit : (task : ℕ) → task < length plant.net.tasks → (seat_at seats (2 * home_of plant.graph plant.tables task)).unit ≡ home_of plant.graph plant.tables task
    a_unit task low =
        let home = home_of plant.graph plant.tables task in
        let e : replica_number home A ≡ 2 * home = omega arith in
        sym (ap (λ i. (seat_at seats i).unit) e) ∙ (seat_of plant.net.shape.units seats is home A (home_within plant.net plant.graph plant.tables n v task low)).0

    pub b_unit : (task : ℕ) → task < length plant.net.tasks → (seat_at seats (2 * home_of plant.graph plant.tables task + 1)).unit ≡ home_of plant.graph plant.tables task
    b_unit task low = (seat_of plant.net.shape.units seats is (home_of plant.graph plant.tables task) B (home_within plant.net plant.graph plant.tables n v task low)).0

    pub a_room : (task : ℕ) → task < length plant.net.tasks → length (state_in (seat_at seats (2 * home_of plant.graph plant.tables task)).held task) ≡ length (get_or starts task [])
    a_room task low = h.states (2 * home_of plant.graph plant.tables task) task (a_low task low) low (sym (a_unit task low)) ∙ sym (h.start task low)

    pub b_room : (task : ℕ) → task < length plant.net.tasks → length (state_in (seat_at seats (2 * home_of plant.graph plant.tables task + 1)).held task) ≡ length (get_or starts task [])
    b_room task low = h.states (2 * home_of plant.graph plant.tables task + 1) task (b_low task low) low (sym (b_unit task low)) ∙ sym (h.start task low)

    left_size : (task : ℕ) → task < length plant.net.tasks → length (left_at task (get_or starts task [])) ≡ length (get_or starts task [])
    left_size task low = elim (cases_Bool (is_silent (seat_at seats (2 * home_of plant.graph plant.tables task)).mode)) [
      | inr a ↦ rw a (a_room task low)
      | inl a ↦ rw a (elim (cases_Bool (is_silent (seat_at seats (2 * home_of plant.graph plant.tables task + 1)).mode)) [
        | inr b ↦ rw b (b_room task low)
        | inl b ↦ rw b refl
      ])
    ]

    pub one_more : (i : ℕ) (now : List (List ℤ)) → i < length plant.net.tasks → AreTaken i starts now → AreTaken (i + 1) starts (set now i (left_at i (get_or now i [])))
    one_more i now low t =
        let here : get_or now i [] ≡ get_or starts i [] = t.rest i (omega arith) in
        let c : i < length now = omega (arith, low, t.count_is, h.count) in
        record {
          count_is = length-set now i (left_at i (get_or now i [])) ∙ t.count_is;
          done = λ k b d. elim (cases_eq k i) [
            | inl e ↦
                ap (λ j. get_or (set now i (left_at i (get_or now i []))) j []) e
                ∙ get_or-set_same now i (left_at i (get_or now i [])) [] c ∙ ap (left_at i) here ∙ ap (λ j. left_at j (get_or starts j [])) (sym e)
            | inr o ↦ get_or-set_other now i k (left_at i (get_or now i [])) [] o ∙ t.done k (omega (arith, b, o)) d
          ];
          rest = λ k b. get_or-set_other now i k (left_at i (get_or now i [])) [] (λ e. absurd (omega (arith, b, e))) ∙ t.rest k (omega (arith, b));
          sizes = λ k. elim (cases_eq k i) [
            | inl e ↦
                ap (λ j. length (get_or (set now i (left_at i (get_or now i []))) j [])) e
                ∙ ap length (get_or-set_same now i (left_at i (get_or now i [])) [] c ∙ ap (left_at i) here)
                ∙ left_size i low ∙ ap (λ j. length (get_or starts j [])) (sym e)
            | inr o ↦ ap length (get_or-set_other now i k (left_at i (get_or now i [])) [] o) ∙ t.sizes k
          ];
        }

    pub all_taken : (exec : Plant P → Execution) (cost : Plant P → ℕ → List ℤ → List ℤ → ℕ) (now : List (List ℤ)) → AreTaken (length plant.net.tasks) starts now
        → (bus : BusState) (cycle : ℕ) (line : Option (List ℤ)) → now ≡ left_states (plan_for exec cost plant) (state_with cycle line starts (members_on bus seats))
    all_taken exec cost now t bus cycle line =
        let p : Plan = plan_for exec cost plant in
        let s : State = state_with cycle line starts (members_on bus seats) in
        let f : ℕ → List ℤ = λ k. left_by (member_of s.members (p.home k) A) (member_of s.members (p.home k) B) k (get_or starts k []) in
        ext_get_or [] now (left_states p s) (t.count_is ∙ h.count ∙ sym (length_listed p.tasks f))
        (λ k low.
        let b : k < length plant.net.tasks = omega (arith, low, t.count_is, h.count) in
        t.done k b (omega (arith, b, h.count)) ∙ by_home k b ∙ sym (listed_at p.tasks f k [] b))
      where
        by_home : (k : ℕ) → k < length plant.net.tasks → left_at k (get_or starts k [])
            ≡ left_by (member_of (members_on bus seats) ((plan_for exec cost plant).home k) A) (member_of (members_on bus seats) ((plan_for exec cost plant).home k) B) k (get_or starts k [])
        by_home k b =
            let home = home_of plant.graph plant.tables k in
            let within = home_within plant.net plant.graph plant.tables n v k b in
            let e : 2 * home ≡ replica_number home A = omega arith in
            ap (λ i. left_of (seat_at seats i) (seat_at seats (2 * home + 1)) k (get_or starts k [])) e
            ∙ ap (λ (m : Member). left_by m (member_on bus (seat_at seats (2 * home + 1))) k (get_or starts k [])) (sym (member_at plant.net.shape.units bus seats is home A within))
            ∙ ap (λ (m : Member). left_by (member_of (members_on bus seats) home A) m k (get_or starts k [])) (sym (member_at plant.net.shape.units bus seats is home B within))
            ∙ ap (λ u. left_by (member_of (members_on bus seats) u A) (member_of (members_on bus seats) u B) k (get_or starts k [])) (home_is plant.net plant.graph plant.tables n k b)
