use Rattle.std.proofs.Common.{◌≡◌, ◌+◌, None, Some, true, sym, ◌∙◌, ap, subst, arith, rules}
use Rattle.agenda.specs.Due.{IsDue, FirstFrom}
use Rattle.agenda.proofs.Walking.{IsAt, is_at}
use Rattle.tables.specs.Named.{message_at}
use Rattle.replica_parts.specs.Inbox.{taken_at}
use Rattle.job_inputs.specs.Look.{is_of}
use Rattle.job_inputs.proofs.Copied.{copied_is, copied_width}
use Rattle.job_inputs.proofs.Feeding.{count, MissesPassed, misses_first, misses_next, found_place, nothing_taken, width_there}
use Rattle.job_inputs.proofs.look.taken_words.Goals as goal

pub walk-init : goal.walk-init
walk-init c =
    let net = c.args.net.now in let g = c.args.graph.now in let t = c.args.tables.now in let a = c.args.feeds.now in
    let first : FirstFrom a.due 0 c.args.job c.first-at.result = subst (λ n. FirstFrom a.due 0 n c.first-at.result) c.from.ensures c.first-at.ensures in
    record {
      stands = is_at a.due 0 c.args.job c.first-at.result first;
      before = misses_first net g t a c.requires.feeds c.args.job c.args.edge c.args.instance c.requires.to c.first-at.result first;
    }

pub returns-then-is_of-clause-words : goal.returns-then-is_of-clause-words
returns-then-is_of-clause-words c =
    let net = c.args.net.now in let g = c.args.graph.now in let t = c.args.tables.now in let a = c.args.feeds.now in
    let thing = c.in-Some.thing in
    let is : IsDue a.due c.args.job thing = subst (IsAt a.due c.args.job) c.in-Some.is c.walk.invariant.stands in
    let before : MissesPassed net g t a c.requires.feeds c.args.job c.args.edge c.args.instance c.requires.to (Some thing) =
    subst (MissesPassed net g t a c.requires.feeds c.args.job c.args.edge c.args.instance c.requires.to) c.in-Some.is c.walk.invariant.before in
    let hits : is_of c.args.edge c.args.instance (message_at t thing) ≡ true =
    ap (is_of c.args.edge c.args.instance) (sym c.message_at-message.ensures) ∙ sym c.is_of.ensures ∙ c.if-is_of.true in
    copied_is c.get.result (taken_at c.args.inbox.now thing) c.get.ensures
    ∙ ap (taken_at c.args.inbox.now) (sym (found_place net g t a c.requires.feeds c.args.job c.args.edge c.args.instance c.requires.to thing is before hits))

pub returns-then-is_of-clause-width : goal.returns-then-is_of-clause-width
returns-then-is_of-clause-width c =
    let net = c.args.net.now in let g = c.args.graph.now in let t = c.args.tables.now in let a = c.args.feeds.now in
    let thing = c.in-Some.thing in
    let is : IsDue a.due c.args.job thing = subst (IsAt a.due c.args.job) c.in-Some.is c.walk.invariant.stands in
    let hits : is_of c.args.edge c.args.instance (message_at t thing) ≡ true =
    ap (is_of c.args.edge c.args.instance) (sym c.message_at-message.ensures) ∙ sym c.is_of.ensures ∙ c.if-is_of.true in
    let few = count net g t a c.requires.feeds c.args.job c.args.edge c.args.instance c.requires.to in
    let w = is.within in
    copied_width c.get.result (taken_at c.args.inbox.now thing) _ c.get.ensures
    (width_there net g t a c.requires.feeds c.args.job c.args.edge c.args.instance c.requires.to c.args.inbox.now c.requires.inbox thing (omega (arith, w, few)) hits)

pub walk-preserved : goal.walk-preserved
walk-preserved c =
    let net = c.args.net.now in let g = c.args.graph.now in let t = c.args.tables.now in let a = c.args.feeds.now in
    let thing = c.in-Some.thing in
    let is : IsDue a.due c.args.job thing = subst (IsAt a.due c.args.job) c.in-Some.is c.walk.invariant.stands in
    let next : FirstFrom a.due (thing + 1) c.args.job c.next-at.result = subst (λ n. FirstFrom a.due (thing + 1) n c.next-at.result) is.at c.next-at.ensures in
    record {
      stands = is_at a.due (thing + 1) c.args.job c.next-at.result next;
      before = misses_next net g t a c.requires.feeds c.args.job c.args.edge c.args.instance c.requires.to thing c.next-at.result next
          (ap (is_of c.args.edge c.args.instance) (sym c.message_at-message.ensures) ∙ sym c.is_of.ensures ∙ c.if-is_of.false)
          (subst (MissesPassed net g t a c.requires.feeds c.args.job c.args.edge c.args.instance c.requires.to) c.in-Some.is c.walk.invariant.before);
    }

pub returns-clause-words : goal.returns-clause-words
returns-clause-words c =
    let net = c.args.net.now in let g = c.args.graph.now in let t = c.args.tables.now in let a = c.args.feeds.now in
    let none : c.walk.at ≡ None = search rules in
    sym (nothing_taken net g t a c.requires.feeds c.args.job c.args.edge c.args.instance c.requires.to c.args.inbox.now c.requires.inbox
    (subst (MissesPassed net g t a c.requires.feeds c.args.job c.args.edge c.args.instance c.requires.to) none c.walk.invariant.before))
