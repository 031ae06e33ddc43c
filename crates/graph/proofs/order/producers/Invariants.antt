use Rattle.std.proofs.Common.{◌≡◌, ℕ, ◌^◌, ◌<◌, length, get_or, take}
use Rattle.graph.specs.Masks.{AreMasks}
use Rattle.graph.proofs.order.producers.Given as goal

abbrev pub invariant-loop-edge : goal.invariant-loop-edge
invariant-loop-edge l = AreMasks (take l.edge-index l.edge-items) l.masks × (length l.masks ≡ 64) × ((task : ℕ) → get_or l.masks task 0 < 2 ^ 64)
