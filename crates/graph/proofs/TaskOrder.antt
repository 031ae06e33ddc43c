-- How far the order of the tasks has come.
use Rattle.std.specs.Prelude.{◌≡◌, ℕ, ◌<◌, ◌↔◌, List, length, Contains}
use Rattle.std.specs.Int.{bit_at}
use Rattle.graph.specs.declared.net.Net.{Net}
use Rattle.graph.specs.Net.{Feeds}
use Rattle.graph.specs.Order.{IsInOrder}

-- the tasks so far are in order, and the mask has exactly them
pub record HasNamed (net : Net) (tasks : List ℕ) (named : ℕ) (count : ℕ) : Type 0 where
  pub in_order : IsInOrder (Feeds net) (length net.tasks) tasks
  pub bits : (t : ℕ) → t < 64 → (bit_at named t ≡ 1) ↔ Contains tasks t
  pub size : length tasks ≡ count
