-- Within a cycle fewer and fewer replicas run, so the last tick tells which units are lost.
use Rattle.std.proofs.Common.{◌≡◌, inl, inr, ℕ, ◌-◌, ◌<◌, ◌≤◌, List, arith}
use Rattle.mars_base.specs.declared.shape.Side.{Side}
use Rattle.mars_base.specs.declared.shape.Side.TheVariants.{A, B}
use Rattle.script.specs.Running.{IsBefore, LeavesRunning, IsRunning, IsLost}
use Rattle.script.specs.declared.script.Silence.{Silence}

sooner : (cycle tick last c t : ℕ) → tick ≤ last → IsBefore cycle last c t → IsBefore cycle tick c t
sooner cycle tick last c t le (inl lt) = inl lt
sooner cycle tick last c t le (inr same) = inr (same.0, (let lt = same.1 in omega arith))

still : (s : Silence) (unit : ℕ) (side : Side) (cycle tick last : ℕ) → tick ≤ last → LeavesRunning s unit side cycle last → LeavesRunning s unit side cycle tick
still s unit side cycle tick last le (inl other) = inl other
still s unit side cycle tick last le (inr (inl other)) = inr (inl other)
still s unit side cycle tick last le (inr (inr later)) = inr (inr (sooner cycle tick last s.cycle s.tick le later))

-- who runs at a tick ran at each tick before it
pub ran_before : (silences : List Silence) (unit : ℕ) (side : Side) (cycle tick last : ℕ) → tick ≤ last → IsRunning silences unit side cycle last → IsRunning silences unit side cycle tick
ran_before silences unit side cycle tick last le runs = λ k d lt. still _ unit side cycle tick last le (runs k d lt)

-- a unit of which neither replica runs at the last tick is lost, and no other
pub lost_at : (silences : List Silence) (ticks unit cycle last : ℕ) → 0 < ticks → last ≡ ticks - 1 → (IsRunning silences unit A cycle last → ⊥) → (IsRunning silences unit B cycle last → ⊥) → IsLost silences ticks unit cycle
lost_at silences ticks unit cycle last some is a b = record { tick = last; within = omega arith; a = a; b = b }

pub lost_a : (silences : List Silence) (ticks unit cycle last : ℕ) → last ≡ ticks - 1 → IsLost silences ticks unit cycle → IsRunning silences unit A cycle last → ⊥
lost_a silences ticks unit cycle last is lost runs = lost.a (ran_before silences unit A cycle lost.tick last (let lt = lost.within in omega arith) runs)

pub lost_b : (silences : List Silence) (ticks unit cycle last : ℕ) → last ≡ ticks - 1 → IsLost silences ticks unit cycle → IsRunning silences unit B cycle last → ⊥
lost_b silences ticks unit cycle last is lost runs = lost.b (ran_before silences unit B cycle lost.tick last (let lt = lost.within in omega arith) runs)
