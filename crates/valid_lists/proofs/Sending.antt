-- The messages of decisions: each is over a feed, in a frame that it fits in time.
use Rattle.std.proofs.Common.{◌≡◌, ℕ, ◌<◌, ◌≤◌, inl, inr, List, [], ◌∷◌, ◌++◌, Some, refl, sym, subst, arith}
use Rattle.mars_base.specs.declared.shape.Side.TheVariants.{A}
use Rattle.tdma.specs.Layout.{slot_start_of, usable_of}
use Rattle.decisions.specs.declared.placed.Sent.{Sent}
use Rattle.decisions.specs.declared.problem.Feed.{Feed}
use Rattle.decisions.specs.declared.problem.Problem.{Problem}
use Rattle.decisions.specs.Decision.{Decision, work_at, decision_on}
use Rattle.decisions.specs.Place.{Waiting}
use Rattle.decisions.specs.Choices.{IsReached}
use Rattle.reached.proofs.Members.{In, in_append, in_nothing, in_one}
use Rattle.reached.proofs.Decided.{IsFed, first_wait, message_in}
use Rattle.reached.proofs.Good.{IsChoiceOf, on_old}
use Rattle.valid_lists.proofs.Along.{IsNew, along, fed_along}

-- a message over one of the feeds: it goes from the producer's unit, after the producer's end, in a frame that may be used by
-- the tick
pub record IsOver (pr : Problem) (l : List Decision) (feeds : List Feed) (tick : ℕ) (m : Sent) : Type 0 where
  pub feed : Feed
  pub is_feed : In feeds feed
  pub edge : m.edge ≡ feed.edge
  pub words : m.words ≡ feed.words
  pub producer : Decision
  pub placed : decision_on l feed.producer ≡ Some producer
  pub unit : m.unit ≡ producer.unit
  pub round : m.round < pr.round.rounds
  pub after : producer.end ≤ slot_start_of pr.round m.round m.unit A
  pub usable : usable_of pr.round m.round m.unit ≤ tick

over_by : (pr : Problem) (l : List Decision) (feeds : List Feed) (a b : ℕ) (m : Sent) → a ≤ b → IsOver pr l feeds a m → IsOver pr l feeds b m
over_by pr l feeds a b m le o = record {
  feed = o.feed;
  is_feed = o.is_feed;
  edge = o.edge;
  words = o.words;
  producer = o.producer;
  placed = o.placed;
  unit = o.unit;
  round = o.round;
  after = o.after;
  usable = omega (arith, o.usable);
}

over_later : (pr : Problem) (l : List Decision) (d : Decision) (feeds : List Feed) (tick : ℕ) (m : Sent) → IsOver pr l feeds tick m → IsOver pr (l ++ d ∷ []) feeds tick m
over_later pr l d feeds tick m o = record {
  feed = o.feed;
  is_feed = o.is_feed;
  edge = o.edge;
  words = o.words;
  producer = o.producer;
  placed = on_old l d o.feed.producer o.producer o.placed;
  unit = o.unit;
  round = o.round;
  after = o.after;
  usable = o.usable;
}

-- all messages so far
abbrev AreOver : Problem → List Decision → List Feed → Waiting → Type 0
AreOver pr l feeds w = (m : Sent) → In w.sent m → IsOver pr l feeds w.wait m

over_one : (pr : Problem) (l : List Decision) (unit : ℕ) (feeds : List Feed) (w v : Waiting) (feed : Feed) → In feeds feed → IsFed pr l unit w feed v → AreOver pr l feeds w → AreOver pr l feeds v
over_one pr l unit feeds w v feed among f a m i = elim f.way [
  | inl h ↦ over_by pr l feeds w.wait v.wait m f.later (a m (subst (λ ms. In ms m) h.1 i))
  | inr h ↦ (
      let r = h.1.1 in
      elim (in_append w.sent (message_in l w feed f.producer.unit h.1.0 ∷ []) m (subst (λ ms. In ms m) h.1.2 i)) [
        | inl j ↦ over_by pr l feeds w.wait v.wait m f.later (a m j)
        | inr j ↦ subst (IsOver pr l feeds v.wait) (in_one (message_in l w feed f.producer.unit h.1.0) m j) (record {
          feed = feed;
          is_feed = among;
          edge = refl;
          words = refl;
          producer = f.producer;
          placed = f.placed;
          unit = refl;
          round = omega (arith, r.below);
          after = r.begins;
          usable = h.1.3;
        })
      ])
]

over_new : (pr : Problem) (l : List Decision) (d : Decision) → IsChoiceOf pr l d → (m : Sent) → In d.sent m → IsOver pr l (work_at pr d.job).feeds d.start m
over_new pr l d c m i =
    let k = c.decided in
    let a = fed_along pr l d.unit (work_at pr d.job).feeds (AreOver pr l (work_at pr d.job).feeds) (over_one pr l d.unit (work_at pr d.job).feeds) (work_at pr d.job).feeds (λ feed j. j)
    (first_wait pr d.job) k.waiting k.fed_is (λ x j. absurd (in_nothing x j)) in
    over_by pr l (work_at pr d.job).feeds k.waiting.wait d.start m k.after (a m (subst (λ ms. In ms m) k.sent_is i))

abbrev pub AllOver : Problem → List Decision → Type 0
AllOver pr l = (d : Decision) → In l d → (m : Sent) → In d.sent m → IsOver pr l (work_at pr d.job).feeds d.start m

over_next : (pr : Problem) (l : List Decision) (d x : Decision) → IsNew pr l d → AllOver pr l → In (l ++ d ∷ []) x → (m : Sent) → In x.sent m → IsOver pr (l ++ d ∷ []) (work_at pr x.job).feeds x.start m
over_next pr l d x n h i m j = elim (in_append l (d ∷ []) x i) [
  | inl a ↦ over_later pr l d (work_at pr x.job).feeds x.start m (h x a m j)
  | inr a ↦ (
      let e = in_one d x a in
      let o = over_new pr l d n.choice m (subst (λ (y : Decision). In y.sent m) (sym e) j) in
      subst (λ (y : Decision). IsOver pr (l ++ d ∷ []) (work_at pr y.job).feeds y.start m) e (over_later pr l d (work_at pr d.job).feeds d.start m o))
]

pub all_over : (pr : Problem) (l : List Decision) → IsReached pr l → AllOver pr l
all_over pr = along pr (AllOver pr) (λ d i m j. absurd (in_nothing d i)) (λ l d n h x i m j. over_next pr l d x n h i m j)
