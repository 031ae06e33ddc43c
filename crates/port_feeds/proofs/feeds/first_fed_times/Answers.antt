use Rattle.std.proofs.Common.{◌≡◌, ℕ, ◌+◌, ◌<◌, ◌≤◌, ◌⊎◌, inl, inr, refl, sym, subst, arith}
use Rattle.std.proofs.lemmas.Bool.{false≢true}
use Rattle.graph.proofs.Entries.{ports_in}
use Rattle.port_feeds.specs.Feeds.{IsFedTimes}
use Rattle.port_feeds.proofs.feeds.first_fed_times.Goals as goal

below_or : (t n : ℕ) → t < n + 1 → (t < n) ⊎ (t ≡ n)
below_or t n lt = grind arith

less_or : (t n : ℕ) → (t < n) ⊎ (n ≤ t)
less_or t n = grind arith

pub returns-then-is_fed_times : goal.returns-then-is_fed_times
returns-then-is_fed_times c = (
  subst (IsFedTimes c.args.net.now c.args.times) (sym c.from.ensures) (c.if-is_fed_times.ensures.0 refl),
  λ other h. elim (less_or other c.loop-task.task) [
    | inl less ↦ absurd (c.loop-task.invariant other less h)
    | inr more ↦ omega (arith, more, c.from.ensures)
  ],
)

pub loop-task-preserved : goal.loop-task-preserved
loop-task-preserved c = λ task lt h. elim (below_or task c.loop-task.task lt) [
  | inl less ↦ c.loop-task.invariant task less h
  | inr same ↦ false≢true (c.if-is_fed_times.ensures.1 (subst (IsFedTimes c.args.net.now c.args.times) same h))
]

pub returns : goal.returns
returns c = λ task h. c.loop-task.invariant task (omega (arith, ports_in c.args.net.now task h.0 h.1, c.len-tasks.ensures, c.requires.places.few.tasks)) h
