use Rattle.std.proofs.Common.{◌≡◌, ◌+◌, ◌*◌, ◌^◌, ◌-◌, ◌≤◌, true, false, set, ap, subst, sym, arith}
use Rattle.std.proofs.Math.Nat.{mul-le-mul_left}
use Rattle.std.proofs.lemmas.List.{get_or-replicate}
use Rattle.std.specs.Prelude.{slice_index}
use Rattle.loop_seq.proofs.Serving.{Serving, serving_none, serving_more, serving_all}
use Rattle.loop_seq.proofs.best_split.Goals as goal

pub loop-i-init : goal.loop-i-init
loop-i-init c = record {
  serving = serving_none c.args.caps.now c.args.weights.now c.args.total (2 ^ 40) _ (λ i lt. get_or-replicate 256 i false false (omega arith)) (λ i lt. c.requires.weights i (omega arith));
  room = omega arith;
}

pub loop-i-preserved : goal.loop-i-preserved
loop-i-preserved c =
    let i = c.in-Some.i in
    let weight = slice_index c.args.weights.now i in
    let turns = c.min-turns.result in
    let more : Serving c.args.caps.now c.args.weights.now c.args.total (set c.loop-i.served i true) (c.loop-i.left - turns) (c.loop-i.worth + turns * weight) =
    serving_more c.args.caps.now c.args.weights.now c.args.total c.loop-i.served c.loop-i.left c.loop-i.worth i turns
    c.requires.same (omega (arith, c.in-Some.ensures.inside)) (omega (arith, c.in-Some.ensures.inside, c.loop-i.array_long)) c.in-Some.ensures.unserved
    (λ j lt free. c.in-Some.ensures.heaviest j (omega arith) free) c.min-turns.ensures c.loop-i.invariant.serving in
    let wide : c.from.result ≡ turns = omega (arith, c.from.ensures) in
    let given : c.from.result * weight ≡ turns * weight = ap (λ t. t * weight) wide in
    let low : turns * weight ≤ turns * 2 ^ 40 = mul-le-mul_left turns (c.requires.weights i c.in-Some.ensures.inside) in
    record {
      serving = subst (λ v. Serving c.args.caps.now c.args.weights.now c.args.total (set c.loop-i.served i true) (c.loop-i.left - turns) (c.loop-i.worth + v)) (sym given) more;
      room = omega (arith, c.loop-i.invariant.room, given, low, c.min-turns.ensures);
    }

pub returns : goal.returns
returns c = serving_all c.args.caps.now c.args.weights.now c.args.total c.loop-i.served c.loop-i.left c.loop-i.worth c.requires.same (λ i lt. c.in_default.ensures.none i (omega arith)) c.loop-i.invariant.serving
