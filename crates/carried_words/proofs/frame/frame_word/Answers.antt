use Rattle.std.proofs.Common.{◌≡◌, ◌<◌, ◌+◌, ◌-◌, length, None, Some, sym, ◌∙◌, ap, subst, arith, rules, to_z, of_z, w32}
use Rattle.graph.specs.Net.{instances}
use Rattle.tables.specs.Named.{edge_at}
use Rattle.tables.specs.declared.rule.TableRule.TheVariants as rule
use Rattle.tables.specs.declared.table.Message.{Message}
use Rattle.agenda.specs.Due.{IsDue, FirstFrom}
use Rattle.agenda.proofs.Walking.{IsAt, is_at}
use Rattle.cluster_plan.proofs.Messages.{of_message}
use Rattle.cluster_model.specs.Frame.{packed}
use Rattle.carried_words.specs.Says.{said_in, edge_says}
use Rattle.carried_words.proofs.Walk.{count, has, MissesPassed, misses_first, misses_next, found_word, no_word}
use Rattle.carried_words.proofs.frame.frame_word.Goals as goal

pub walk-init : goal.walk-init
walk-init c =
    let net = c.args.net.now in let g = c.args.graph.now in let t = c.args.tables.now in let a = c.args.sendings.now in
    record {
      stands = is_at a.due 0 c.args.round c.first-at.result c.first-at.ensures;
      before = misses_first net g t c.args.unit a c.requires.sendings c.args.round c.requires.round (said_in net g.cycle t c.args.book.now) c.args.word c.first-at.result c.first-at.ensures;
    }

pub message_word-requires-clause-edge : goal.message_word-requires-clause-edge
message_word-requires-clause-edge c =
    let net = c.args.net.now in let g = c.args.graph.now in let t = c.args.tables.now in let a = c.args.sendings.now in
    let is : IsDue a.due c.args.round c.in-Some.thing = subst (IsAt a.due c.args.round) c.in-Some.is c.walk.invariant.stands in
    let w = is.within in
    let few = count net g t c.args.unit a c.requires.sendings c.args.round c.requires.round (said_in net g.cycle t c.args.book.now) c.args.word in
    let key = of_message net g t (c.requires.valid rule.Inputs).messages c.in-Some.thing (omega (arith, w, few)) in
    subst (λ (m : Message). m.edge < length net.edges) (sym c.message_at-message.ensures) key.0

pub message_word-requires-clause-instance : goal.message_word-requires-clause-instance
message_word-requires-clause-instance c =
    let net = c.args.net.now in let g = c.args.graph.now in let t = c.args.tables.now in let a = c.args.sendings.now in
    let is : IsDue a.due c.args.round c.in-Some.thing = subst (IsAt a.due c.args.round) c.in-Some.is c.walk.invariant.stands in
    let w = is.within in
    let few = count net g t c.args.unit a c.requires.sendings c.args.round c.requires.round (said_in net g.cycle t c.args.book.now) c.args.word in
    let key = of_message net g t (c.requires.valid rule.Inputs).messages c.in-Some.thing (omega (arith, w, few)) in
    subst (λ (m : Message). m.instance < instances net g.cycle (edge_at net m.edge).from_task) (sym c.message_at-message.ensures) key.1

pub returns-then-has_word : goal.returns-then-has_word
returns-then-has_word c =
    let net = c.args.net.now in let g = c.args.graph.now in let t = c.args.tables.now in let a = c.args.sendings.now in
    let said = said_in net g.cycle t c.args.book.now in
    let thing = c.in-Some.thing in
    let is : IsDue a.due c.args.round thing = subst (IsAt a.due c.args.round) c.in-Some.is c.walk.invariant.stands in
    let before : MissesPassed net g t c.args.unit a c.requires.sendings c.args.round c.requires.round said c.args.word (Some thing) =
    subst (MissesPassed net g t c.args.unit a c.requires.sendings c.args.round c.requires.round said c.args.word) c.in-Some.is c.walk.invariant.before in
    let back : to_z w32 (of_z w32 c.message_word.result) ≡ c.message_word.result = search rules in
    back ∙ c.message_word.ensures
    ∙ ap (λ (m : Message). packed (edge_says net g.cycle c.args.book.now m.edge m.instance) (c.args.word - m.offset)) c.message_at-message.ensures
    ∙ sym (found_word net g t c.args.unit a c.requires.sendings c.args.round c.requires.round said c.args.word thing is before
    (ap (has net g t c.args.unit a c.requires.sendings c.args.round c.requires.round said c.args.word) (sym c.message_at-message.ensures) ∙ sym c.has_word.ensures ∙ c.if-has_word.true))

pub walk-preserved : goal.walk-preserved
walk-preserved c =
    let net = c.args.net.now in let g = c.args.graph.now in let t = c.args.tables.now in let a = c.args.sendings.now in
    let said = said_in net g.cycle t c.args.book.now in
    let thing = c.in-Some.thing in
    let is : IsDue a.due c.args.round thing = subst (IsAt a.due c.args.round) c.in-Some.is c.walk.invariant.stands in
    let next : FirstFrom a.due (thing + 1) c.args.round c.next-at.result = subst (λ n. FirstFrom a.due (thing + 1) n c.next-at.result) is.at c.next-at.ensures in
    record {
      stands = is_at a.due (thing + 1) c.args.round c.next-at.result next;
      before = misses_next net g t c.args.unit a c.requires.sendings c.args.round c.requires.round said c.args.word thing c.next-at.result next
          (ap (has net g t c.args.unit a c.requires.sendings c.args.round c.requires.round said c.args.word) (sym c.message_at-message.ensures) ∙ sym c.has_word.ensures ∙ c.if-has_word.false)
          (subst (MissesPassed net g t c.args.unit a c.requires.sendings c.args.round c.requires.round said c.args.word) c.in-Some.is c.walk.invariant.before);
    }

pub returns : goal.returns
returns c =
    let net = c.args.net.now in let g = c.args.graph.now in let t = c.args.tables.now in let a = c.args.sendings.now in
    let said = said_in net g.cycle t c.args.book.now in
    let none : c.walk.at ≡ None = search rules in
    sym (no_word net g t c.args.unit a c.requires.sendings c.args.round c.requires.round said c.args.word
    (subst (MissesPassed net g t c.args.unit a c.requires.sendings c.args.round c.requires.round said c.args.word) none c.walk.invariant.before))
