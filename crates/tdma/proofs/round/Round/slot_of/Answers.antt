use Rattle.std.proofs.Common.{◌≡◌, ◌+◌, ◌/◌, ◌%◌, ◌<◌, inl, inr, arith, sym, subst}
use Rattle.tdma.specs.Layout.{Layout, IsLayout, cycle_ticks, side_number}
use Rattle.tdma.specs.Word.{IsIdle, IsAt}
use Rattle.tdma.proofs.Places.{idle, at_tick, one_place}
use Rattle.tdma.proofs.round.Round.slot_of.Goals as goal
use Rattle.tdma.proofs.round.Round.slot_of.Goals.{then-slot-from-via-then-slot-from, then-slot-from-via-else-slot-from+then-word-from, then-slot-eq0, else-slot-eq0}

pub returns-then-slot-from-clause-idle : goal.returns-then-slot-from-clause-idle
returns-then-slot-from-clause-idle c =
    subst (λ (l : Layout). IsIdle l c.args.tick) c.self.view_is (idle _ c.args.tick c.self.invariant
    (elim c.then-slot-from.branch [
      | then-slot-from-via-then-slot-from w ↦ inl (rw (c.from.ensures, c.from-2.ensures, c.from-3.ensures) at w.if-slot-from.true)
      | then-slot-from-via-else-slot-from+then-word-from w ↦ inr (rw (c.from.ensures, c.from-2.ensures, w.from-else-slot-from.ensures) at w.if-word-from.true)
    ]))

pub returns-clause-word : goal.returns-clause-word
returns-clause-word c =
    let second : side_number c.if-slot-eq0.result ≡ c.args.tick % c.self.inside.round_ticks / (c.from.result + c.from-2.result) % 2 =
    elim c.if-slot-eq0.branch [
      | then-slot-eq0 w ↦ rw w.result-is (omega (arith, w.if-slot-eq0.true))
      | else-slot-eq0 w ↦ rw w.result-is (omega (arith, w.if-slot-eq0.false))
    ] in
    rw (c.from.ensures, c.from-2.ensures)
    (subst (λ (l : Layout). IsAt l c.args.tick (record { round = c.args.tick / c.self.inside.round_ticks; unit = c.args.tick % c.self.inside.round_ticks / (c.self.inside.slot_words + c.self.inside.precision) / 2; side = c.if-slot-eq0.result; word = c.args.tick % c.self.inside.round_ticks % (c.self.inside.slot_words + c.self.inside.precision) })) c.self.view_is
    (at_tick _ c.args.tick c.if-slot-eq0.result c.self.invariant
    (subst (λ (l : Layout). c.args.tick < cycle_ticks l) (sym c.self.view_is) c.requires)
    (rw (c.from.ensures, c.from-2.ensures, c.from-3.ensures) at c.if-slot-from.false)
    (rw (c.from.ensures, c.from-2.ensures, c.from-else-slot-from.ensures) at c.if-word-from.false)
    (rw (c.from.ensures, c.from-2.ensures) at second)))

pub returns-clause-alone : goal.returns-clause-alone
returns-clause-alone c other h = one_place c.args.self.now c.args.tick _ other (subst (λ (l : Layout). IsLayout l) c.self.view_is c.self.invariant) (returns-clause-word c) h
