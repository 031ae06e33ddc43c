use Rattle.std.proofs.Common.{◌≡◌, ◌≤◌, ◌+◌, ◌++◌, ◌∷◌, [], ℕ, List, length, Option, None, Some, sym, ◌∙◌, ap, subst, arith, append-nil, rules, length-append}
use Rattle.std.proofs.lemmas.List.{length-map}
use Rattle.agenda.specs.Due.{Agenda, IsDue, FirstFrom}
use Rattle.agenda.proofs.Walking.{IsAt, is_at, left, falls}
use Rattle.cluster_model.specs.declared.effect.Effect.{Effect}
use Rattle.cluster_model.specs.declared.effect.Effect.TheVariants as effect
use Rattle.graph.specs.declared.net.Plug.{Plug}
use Rattle.tick_parts.specs.Shows.{shown_outs}
use Rattle.tick_parts.proofs.Outputs.{rest, rest_from, one_shown, left_small}
use Rattle.tick_parts.proofs.show.show_outputs.Goals as goal

pub walk-init : goal.walk-init
walk-init c =
    let due = c.args.outputs.now.due in
    let due_is = ap (λ (a : Agenda). a.due) c.requires.outputs in
    let first : FirstFrom due 0 c.args.task c.first-at.result = subst (λ n. FirstFrom due 0 n c.first-at.result) c.from.ensures c.first-at.ensures in
    record {
      stands = is_at due 0 c.args.task c.first-at.result first;
      room = omega (arith, c.requires.room, ap length due_is, length-map {B = ℕ} c.args.net.now.actuators (λ (plug : Plug). plug.task), left_small (length due) c.first-at.result);
      shown = ap (λ (ns : List ℕ). c.args.seen.now ++ shown_outs c.args.instance ns) (sym (rest_from c.args.task c.args.net.now.actuators due due_is 0 c.first-at.result first));
    }

pub walk-preserved : goal.walk-preserved
walk-preserved c =
    let due = c.args.outputs.now.due in
    let due_is = ap (λ (a : Agenda). a.due) c.requires.outputs in
    let thing = c.in-Some.thing in
    let is : IsDue due c.args.task thing = subst (IsAt due c.args.task) c.in-Some.is c.walk.invariant.stands in
    let next : FirstFrom due (thing + 1) c.args.task c.next-at.result = subst (λ n. FirstFrom due (thing + 1) n c.next-at.result) is.at c.next-at.ensures in
    let room : length c.walk.seen + left (length due) (Some thing) ≤ 1028 = subst (λ (o : Option ℕ). length c.walk.seen + left (length due) o ≤ 1028) c.in-Some.is c.walk.invariant.room in
    record {
      stands = is_at due (thing + 1) c.args.task c.next-at.result next;
      room = omega (arith, room, falls due c.args.task thing c.next-at.result is next, ap length c.push.ensures, length-append c.walk.seen (effect.Out thing c.args.instance ∷ []));
      shown = one_shown c.args.task c.args.net.now.actuators due due_is c.walk.seen c.push.new.self _ c.args.instance thing c.next-at.result is next c.push.ensures
          (ap (λ (o : Option ℕ). c.walk.seen ++ shown_outs c.args.instance (rest c.args.task c.args.net.now.actuators o)) (sym c.in-Some.is) ∙ c.walk.invariant.shown);
    }

pub returns : goal.returns
returns c =
    let none : c.walk.at ≡ None = search rules in
    sym (append-nil c.walk.seen) ∙ ap (λ (o : Option ℕ). c.walk.seen ++ shown_outs c.args.instance (rest c.args.task c.args.net.now.actuators o)) (sym none) ∙ c.walk.invariant.shown
