use Rattle.std.proofs.Common.{◌≡◌, ℕ, ◌+◌, ◌<◌, ◌↔◌, ◌∙◌, ◌∷◌, [], inl, inr, length, ap, arith, length-append}
use Rattle.std.proofs.lemmas.Bool.{cases_lt}
use Rattle.graph.specs.Net.{Feeds}
use Rattle.graph.specs.Order.{IsReady, IsNext}
use Rattle.graph.specs.Masks.{IsOpen}
use Rattle.graph.proofs.Masks.{open_ready, named_more}
use Rattle.graph.proofs.Circles.{circle}
use Rattle.graph.proofs.Listed.{in_order_push, whole_from_size}
use Rattle.graph.proofs.order.order_tasks.Goals as goal

pub returns-in_default : goal.returns-in_default
returns-in_default c =
    circle c.args.net.now c.requires.entries c.loop-place.order.items c.loop-place.invariant.in_order (omega (arith, c.loop-place.invariant.size, c.len-count.ensures))
    (λ t low ready. c.in_default.ensures.none t (omega (arith, low, c.len-count.ensures))
    ((open_ready c.args.net.now c.requires.entries c.requires.counts.tasks c.producers-masks.result c.loop-place.order.items c.loop-place.named c.producers-masks.ensures.masks c.producers-masks.ensures.small (omega (arith, c.loop-place.auto.named-fits)) c.loop-place.invariant.bits t low).1 ready))

pub loop-place-preserved : goal.loop-place-preserved
loop-place-preserved c =
    let net = c.args.net.now in
    let t = c.in-Some.task in
    let xs = c.loop-place.order.items in
    let ready : (k : ℕ) → k < length net.tasks → IsOpen c.producers-masks.result c.loop-place.named k ↔ IsReady (Feeds net) (length net.tasks) xs k =
    open_ready net c.requires.entries c.requires.counts.tasks c.producers-masks.result xs c.loop-place.named c.producers-masks.ensures.masks c.producers-masks.ensures.small (omega (arith, c.loop-place.auto.named-fits)) c.loop-place.invariant.bits in
    let low : t < length net.tasks = omega (arith, c.in-Some.ensures.some.0, c.len-count.ensures) in
    let next : IsNext (Feeds net) (length net.tasks) xs t = record {
      ready = (ready t low).0 c.in-Some.ensures.some.1;
      least = λ other is. elim (cases_lt other t) [
        | inl less ↦ absurd (c.in-Some.ensures.first other less ((ready other is.is_one).1 is))
        | inr more ↦ more
      ];
    } in
    rw c.in_ok-push.ensures.items (record {
      in_order = in_order_push (Feeds net) (length net.tasks) xs t c.loop-place.invariant.in_order next;
      bits = named_more xs c.loop-place.named t (omega (arith, low, c.requires.counts.tasks)) c.loop-place.invariant.bits;
      size = length-append xs (t ∷ []) ∙ ap (λ n. n + 1) c.loop-place.invariant.size;
    })

pub returns : goal.returns
returns c =
    let size : length c.loop-place.order.items ≡ length c.args.net.now.tasks = (let e = c.loop-place.invariant.size in omega (arith, e, c.len-count.ensures)) in
    record {
      size = size;
      whole = whole_from_size (Feeds c.args.net.now) (length c.args.net.now.tasks) c.loop-place.order.items c.loop-place.invariant.in_order size;
      each = c.loop-place.invariant.in_order;
    }
