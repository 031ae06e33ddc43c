use Rattle.std.proofs.Common.{◌≡◌, ◌+◌, ℕ, ap, ◌∙◌, subst}
use Rattle.decisions.specs.Place.{taken_before, words_sent}
use Rattle.tdma.specs.Load.{taken_in}
use Rattle.placement.specs.Feeding.{waiting_of}
use Rattle.placement.specs.Loads.{IsFirstFor, HasRoomFor}
use Rattle.placement.proofs.Fitting.{room_is, room_none, round_low, sent_is, sent_none}
use Rattle.placement.proofs.fits.send.Goals as goal

pub returns-in-None-clause-sent : goal.returns-in-None-clause-sent
returns-in-None-clause-sent c =
    let s = c.args.state.now in
    let ms = c.args.pending.now.sent.items in
    let u = c.args.producer.unit in
    let none : (k : ℕ) → HasRoomFor s.frames ms u c.args.producer.end c.args.feed.words k → ⊥ = subst (λ xs. (k : ℕ) → HasRoomFor s.frames xs u c.args.producer.end c.args.feed.words k → ⊥) c.as_slice-sent.ensures.value c.in-None.ensures.none in
    sent_none s.problem s.placed.items (waiting_of c.args.pending.now) c.args.feed u c.args.producer.end
    (room_none s.problem s.placed.items ms s.frames u c.args.producer.end c.args.feed.words c.requires.holds.words c.requires.unit none)

pub returns-in-Some-clause-sent : goal.returns-in-Some-clause-sent
returns-in-Some-clause-sent c =
    let s = c.args.state.now in
    let ms = c.args.pending.now.sent.items in
    let u = c.args.producer.unit in
    let k = c.in-Some.round in
    let first : IsFirstFor s.frames ms u c.args.producer.end c.args.feed.words k = subst (λ xs. IsFirstFor s.frames xs u c.args.producer.end c.args.feed.words k) c.as_slice-sent.ensures.value c.in-Some.ensures.first in
    let room = room_is s.problem s.placed.items ms s.frames u c.args.producer.end c.args.feed.words k c.requires.holds.words c.requires.unit first in
    let low = round_low s.problem s.placed.items s.frames ms u c.args.producer.end c.args.feed.words k c.requires.holds.words first in
    let taken = c.requires.holds.words.taken u k c.requires.unit low in
    let sent : c.taken_with-offset.result ≡ taken_in s.frames u k + words_sent ms u k = c.taken_with-offset.ensures.taken ∙ ap (λ xs. taken_in s.frames u k + words_sent xs u k) c.as_slice-sent.ensures.value in
    let offset : c.taken_with-offset.result ≡ taken_before s.placed.items ms u k = sent ∙ ap (λ n. n + words_sent ms u k) taken in
    sent_is s.problem s.placed.items (waiting_of c.args.pending.now) c.args.feed u c.args.producer.end k c.push.new.self.items c.later-pending.result c.taken_with-offset.result c.usable-usable.result room offset c.push.ensures.items c.usable-usable.ensures.usable c.later-pending.ensures
