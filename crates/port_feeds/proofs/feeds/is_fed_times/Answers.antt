use Rattle.std.proofs.Common.{◌≡◌, ℕ, ◌+◌, ◌<◌, ◌⊎◌, inl, inr, min, length, get_or, sym, ap, ◌∙◌, arith}
use Rattle.std.proofs.lemmas.Bool.{false≢true}
use Rattle.port_feeds.specs.Feeds.{feeds_of}
use Rattle.port_feeds.proofs.Tables.{counted_all}
use Rattle.port_feeds.proofs.feeds.is_fed_times.Goals as goal

below_or : (p n : ℕ) → p < n + 1 → (p < n) ⊎ (p ≡ n)
below_or p n lt = grind arith

pub loop-port-preserved : goal.loop-port-preserved
loop-port-preserved c = λ port lt e.
    let net = c.args.net.now in
    let few = c.requires.places.few.ports c.args.task in
    let at = counted_all net c.args.table.now c.requires.table c.args.task c.loop-port.port c.requires.task (omega (arith, few, ap length c.ins_of.ensures)) in
    let read = ap {B = ℕ} (λ k. get_or c.args.table.now k 0) c.place_of.ensures.place in
    elim (below_or port c.loop-port.port lt) [
      | inl less ↦ c.loop-port.invariant port less e
      | inr same ↦ c.if-table-place_of.false (let here : min 2 (feeds_of net c.args.task c.loop-port.port) ≡ c.args.times = ap (λ p. min 2 (feeds_of net c.args.task p)) (sym same) ∙ e in cc)
    ]

pub returns : goal.returns
returns c = (
  λ t. absurd (false≢true t),
  λ w. absurd (c.loop-port.invariant w.0 (omega (arith, w.1, ap length c.ins_of.ensures, c.requires.places.few.ports c.args.task)) w.2),
)
