use Rattle.std.proofs.Common.{◌≤◌, ◌↔◌, subst}
use Rattle.mars_base.specs.declared.shape.Side.TheVariants.{A}
use Rattle.tdma.specs.Layout.{Layout, slot_start_of}
use Rattle.tdma.proofs.Places.{first_iff}
use Rattle.tdma.proofs.round.Round.first_from.Goals as goal

pub returns : goal.returns
returns c k =
    subst (λ (l : Layout). (c.args.from ≤ slot_start_of l k c.args.unit A) ↔ (c.div_ceil.result ≤ k)) c.self.view_is
    (first_iff (record { units = c.self.inside.units; slot_words = c.self.inside.slot_words; precision = c.self.inside.precision; round_ticks = c.self.inside.round_ticks; rounds = c.self.inside.rounds }) c.args.unit c.args.from k c.saturating_sub.result c.div_ceil.result c.self.invariant (rw (c.from.ensures, c.from-2.ensures, c.from-3.ensures) at c.saturating_sub.ensures) c.div_ceil.ensures)
