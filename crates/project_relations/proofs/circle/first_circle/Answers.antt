use Rattle.std.proofs.Common.{◌≡◌, ◌<◌, ◌+◌, ◌⊎◌, inl, inr, ℕ, subst, arith}
use Rattle.project_sheet.specs.Sheet.{plain_sheet}
use Rattle.project_relations.specs.Relations.{CanRank, links_of}
use Rattle.project_relations.proofs.circle.first_circle.Goals as goal

below_or : (t n : ℕ) → t < n + 1 → (t < n) ⊎ (n ≡ t)
below_or t n lt = grind arith

pub loop-transaction-preserved : goal.loop-transaction-preserved
loop-transaction-preserved c = λ t lt. elim (below_or t c.loop-transaction.transaction lt) [
  | inl less ↦ c.loop-transaction.invariant t less
  | inr same ↦ subst (λ n. CanRank (links_of (plain_sheet c.args.sheet.now) n)) same
      (subst CanRank c.in_ok-links.ensures (c.in_ok-has_circle.ensures.ranked c.if-branch.false))
]
