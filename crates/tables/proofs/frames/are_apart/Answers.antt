use Rattle.std.proofs.Common.{◌+◌, ◌<◌, ◌≤◌, ℕ, inl, inr, arith}
use Rattle.graph.proofs.Answering.{no}
use Rattle.tables.specs.Progress.{IsMarked}
use Rattle.tables.proofs.Sharing.{IsIn, clash, next_apart}
use Rattle.tables.proofs.frames.are_apart.Goals as goal

pub loop-place-init : goal.loop-place-init
loop-place-init c = record {
  apart = λ i k low there differ s. absurd (omega (arith, low));
  marked = λ tick. (λ m. absurd (c.no_marks-marks.ensures tick m), λ u. absurd (omega (arith, u.below)));
}

pub returns-then-not-are_free : goal.returns-then-not-are_free
returns-then-not-are_free c = no _ (λ apart.
    let free : (tick : ℕ) → c.first_tick-first.result ≤ tick → tick < c.first_tick-first.result + c.words_of.result → IsMarked c.loop-place.marks tick → ⊥ = λ tick from to m.
    (let h : IsIn c.args.net.now c.args.round.now c.args.messages.now c.loop-place.place tick = (omega (arith, from, c.first_tick-first.ensures.first, c.words_of.ensures.words), omega (arith, to, c.first_tick-first.ensures.first, c.words_of.ensures.words)) in
    let k = clash c.args.net.now c.args.round.now c.args.messages.now c.requires.layout c.requires.frames c.loop-place.place tick c.loop-place.marks c.loop-place-test.true c.loop-place.invariant h m in
    apart k.0 c.loop-place.place (omega (arith, k.1, c.loop-place-test.true)) c.loop-place-test.true (λ e. absurd (omega (arith, k.1, e))) k.2) in
    let yes = c.are_free.ensures.1 free in
    absurd (cc (yes, c.if-not-are_free.true)))

pub loop-place-preserved : goal.loop-place-preserved
loop-place-preserved c = next_apart c.args.net.now c.args.round.now c.args.messages.now c.loop-place.place c.loop-place.marks c.mark.new.marks c.loop-place.invariant
    (λ tick h m. c.are_free.ensures.0 c.if-not-are_free.false tick (omega (arith, h.0, c.first_tick-first.ensures.first, c.words_of.ensures.words)) (omega (arith, h.1, c.first_tick-first.ensures.first, c.words_of.ensures.words)) m)
    (λ tick. (
      λ m. elim ((c.mark.ensures tick).0 m) [ inl before ↦ inl before | inr now ↦ inr (omega (arith, now.0, c.first_tick-first.ensures.first, c.words_of.ensures.words), omega (arith, now.1, c.first_tick-first.ensures.first, c.words_of.ensures.words)) ],
      λ s. (c.mark.ensures tick).1 (elim s [ inl before ↦ inl before | inr now ↦ inr (omega (arith, now.0, c.first_tick-first.ensures.first, c.words_of.ensures.words), omega (arith, now.1, c.first_tick-first.ensures.first, c.words_of.ensures.words)) ]),
    ))
