-- Which events may come, by the clocks.
use Rattle.std.proofs.Common.{◌≡◌, ◌↔◌, ℕ, ◌*◌, ◌<◌, inl, inr, true, not, List, length, map, get_or, refl, sym, ◌∙◌, ap, subst, arith}
use Rattle.std.proofs.lemmas.Bool.{cases_Bool, true≢false}
use Rattle.std.proofs.lemmas.List.{get_or-map}
use Rattle.mars_base.specs.declared.shape.Side.{Side}
use Rattle.cluster_agreement.proofs.Reading.{number_within}
use Rattle.cluster_clocks.proofs.Members.{acts_are_enabled, overs_are_over}
use Rattle.cluster_clocks.specs.Clocks.{no_clock, clock_at, MayAct, IsOver}
use Rattle.cluster_clocks.specs.Members.{clock_of, clocks_of}
use Rattle.cluster_clocks.specs.declared.clock.Clock.{Clock}
use Rattle.cluster_model.specs.Cluster.{is_silent, is_over, IsEnabled, turned, settled}
use Rattle.cluster_model.specs.Plan.{Plan}
use Rattle.cluster_model.specs.State.{Mode, Running, Silent, Member, no_member, replica_number, member_of, State}
use Rattle.cluster_slots.proofs.Shapes.{turned_at}

runs_of : (mode : Mode) → not (is_silent mode) ≡ true → mode ≡ Running
runs_of Running e = refl
runs_of Silent e = absurd (true≢false (sym e))

module _ (p : Plan) (some_ticks : 0 < p.cycle) (some_skew : 0 < p.skew) (s : State) (size : length s.members ≡ 2 * p.units) (u : ℕ) (x : Side) (low : u < p.units) where
  inside : replica_number u x < length s.members
  inside = omega (arith, number_within p.units u x low, size)

  clock_is : clock_at (clocks_of s.members) (replica_number u x) ≡ clock_of (member_of s.members u x)
  clock_is = get_or-map clock_of s.members (replica_number u x) no_member no_clock inside

  -- at a cycle's start each replica that runs may act
  at_start : is_over p s.members ≡ true → ((clock_at (clocks_of s.members) (replica_number u x)).is_running ≡ true) ↔ IsEnabled p (map (turned p) s.members) u x
  at_start o = (
    λ r.
        let runs : (member_of s.members u x).mode ≡ Running = runs_of (member_of s.members u x).mode (sym (ap (λ (c : Clock). c.is_running) clock_is) ∙ r) in
        record {
          unit_is = low;
          runs = ap (λ (m : Member). m.mode) (turned_at p s.members u x inside) ∙ runs;
          below = (let e = ap (λ (m : Member). m.held.clock) (turned_at p s.members u x inside) in omega (arith, e, some_ticks));
          close = λ v y l q. (let e = ap (λ (m : Member). m.held.clock) (turned_at p s.members u x inside) in omega (arith, e, some_skew));
        },
    λ h. ap (λ (c : Clock). c.is_running) clock_is ∙ ap (λ mode. not (is_silent mode)) (sym (ap (λ (m : Member). m.mode) (turned_at p s.members u x inside)) ∙ h.runs),
  )

  pub enabled_over : IsOver (clocks_of s.members) p.cycle → ((clock_at (clocks_of s.members) (replica_number u x)).is_running ≡ true) ↔ IsEnabled p (settled p s).members u x
  enabled_over o =
      let t : is_over p s.members ≡ true = (overs_are_over p s.members).0 o in
      rw t (at_start t)

  pub enabled_within : (IsOver (clocks_of s.members) p.cycle → ⊥) → MayAct (clocks_of s.members) (replica_number u x) p.cycle p.skew ↔ IsEnabled p (settled p s).members u x
  enabled_within early = elim (cases_Bool (is_over p s.members)) [
    | inl t ↦ absurd (early ((overs_are_over p s.members).1 t))
    | inr f ↦ rw f (acts_are_enabled p s.members u x size low)
  ]

  -- the same by clocks that are the members'
  pub over_by : (clocks : List Clock) (n cycle : ℕ) (c : Clock) → clocks ≡ clocks_of s.members → n ≡ replica_number u x → cycle ≡ p.cycle → IsOver clocks cycle → c ≡ get_or clocks n c
      → (c.is_running ≡ true) ↔ IsEnabled p (settled p s).members u x
  over_by clocks n cycle c e f h o is =
      let here : c ≡ clock_at (clocks_of s.members) (replica_number u x) =
      is ∙ ap (λ (cs : List Clock). get_or cs n c) e ∙ ap (λ k. get_or (clocks_of s.members) k c) f
      ∙ get_or-map clock_of s.members (replica_number u x) no_member c inside ∙ sym clock_is in
      let w = enabled_over (subst (λ (cs : List Clock). IsOver cs p.cycle) e (subst (IsOver clocks) h o)) in (
        λ r. w.0 (sym (ap (λ (k : Clock). k.is_running) here) ∙ r),
        λ k. ap (λ (j : Clock). j.is_running) here ∙ w.1 k,
      )

  pub within_by : (clocks : List Clock) (n cycle : ℕ) → clocks ≡ clocks_of s.members → n ≡ replica_number u x → cycle ≡ p.cycle → (IsOver clocks cycle → ⊥)
      → MayAct clocks n cycle p.skew ↔ IsEnabled p (settled p s).members u x
  within_by clocks n cycle e f h early =
      subst (λ (cs : List Clock). MayAct cs n cycle p.skew ↔ IsEnabled p (settled p s).members u x) (sym e)
      (subst (λ k. MayAct (clocks_of s.members) k cycle p.skew ↔ IsEnabled p (settled p s).members u x) (sym f)
      (subst (λ k. MayAct (clocks_of s.members) (replica_number u x) k p.skew ↔ IsEnabled p (settled p s).members u x) (sym h)
      (enabled_within (λ o. early (subst (λ (cs : List Clock). IsOver cs cycle) (sym e) (subst (IsOver (clocks_of s.members)) (sym h) o))))))

  -- in the cycle itself, by clocks that are the members'
  pub acts_by : (clocks : List Clock) (n cycle : ℕ) → clocks ≡ clocks_of s.members → n ≡ replica_number u x → cycle ≡ p.cycle → MayAct clocks n cycle p.skew ↔ IsEnabled p s.members u x
  acts_by clocks n cycle e f h =
      subst (λ (cs : List Clock). MayAct cs n cycle p.skew ↔ IsEnabled p s.members u x) (sym e)
      (subst (λ k. MayAct (clocks_of s.members) k cycle p.skew ↔ IsEnabled p s.members u x) (sym f)
      (subst (λ k. MayAct (clocks_of s.members) (replica_number u x) k p.skew ↔ IsEnabled p s.members u x) (sym h)
      (acts_are_enabled p s.members u x size low)))
