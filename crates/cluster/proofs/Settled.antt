-- Whether the next cycle begins, by the clocks.
use Rattle.std.proofs.Common.{◌≡◌, ℕ, inl, inr, cond, List, sym, ap, subst}
use Rattle.std.proofs.lemmas.Bool.{cases_Bool}
use Rattle.cluster_clocks.proofs.Members.{overs_are_over}
use Rattle.cluster_clocks.specs.Clocks.{IsOver}
use Rattle.cluster_clocks.specs.Members.{clocks_of}
use Rattle.cluster_clocks.specs.declared.clock.Clock.{Clock}
use Rattle.cluster_model.specs.Cluster.{is_over, turn, settled}
use Rattle.cluster_model.specs.Plan.{Plan}
use Rattle.cluster_model.specs.State.{State}

module _ (p : Plan) (s : State) (clocks : List Clock) (cycle : ℕ) (e : clocks ≡ clocks_of s.members) (f : cycle ≡ p.cycle) where
  there : IsOver clocks cycle → IsOver (clocks_of s.members) p.cycle
  there o = subst (λ (cs : List Clock). IsOver cs p.cycle) e (subst (IsOver clocks) f o)

  back : IsOver (clocks_of s.members) p.cycle → IsOver clocks cycle
  back o = subst (λ (cs : List Clock). IsOver cs cycle) (sym e) (subst (IsOver (clocks_of s.members)) (sym f) o)

  pub turn_settled : IsOver clocks cycle → turn p s ≡ settled p s
  turn_settled o = sym (ap (λ b. cond b (turn p s) s) ((overs_are_over p s.members).0 (there o)))

  pub stays_settled : (IsOver clocks cycle → ⊥) → s ≡ settled p s
  stays_settled early = elim (cases_Bool (is_over p s.members)) [
    | inl t ↦ absurd (early (back ((overs_are_over p s.members).1 t)))
    | inr t ↦ sym (ap (λ b. cond b (turn p s) s) t)
  ]
