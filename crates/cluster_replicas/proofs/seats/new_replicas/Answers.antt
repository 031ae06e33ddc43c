use Rattle.std.proofs.Common.{rules, ◌≡◌, ℕ, ◌+◌, ◌++◌, List, [], ◌∷◌, length, map, sym, ◌∙◌, ap, subst, arith, length-append}
use Rattle.std.specs.List.{All}
use Rattle.std.specs.Vec.Iter.{into_iter_items}
use Rattle.std.proofs.lemmas.List.{map-append}
use Rattle.std.proofs.lemmas.List.Elements.{All-push}
use Rattle.std.proofs.lemmas.List.FromFn.{map-range_with_len_more}
use Rattle.cluster_model.specs.Plan.{listed}
use Rattle.cluster_seats.specs.Seats.{Seated}
use Rattle.cluster.specs.First.{first_seated}
use Rattle.replica_work.specs.Works.{set_plan}
use Rattle.replica_seat.specs.Alive.{IsAlive, seat_of}
use Rattle.cluster_replicas.proofs.seats.new_replicas.Goals as goal

pub loop-cpu-preserved : goal.loop-cpu-preserved
loop-cpu-preserved g c =
    let plant = c.args.plant.now in
    let first : ℕ → Seated = first_seated (set_plan g.C.Cpu.execution plant) in
    let old = c.loop-cpu.replicas.items in
    let r = c.in_ok-replica.replica in
    let n = length old in
    let number : c.len-number.result ≡ n = c.len-number.ensures ∙ (search rules) in
    let steps : into_iter_items c.loop-cpu.cpu-iterator ≡ c.in-Some.cpu ∷ into_iter_items c.next.new.self = c.in-Some.ensures.steps.0 in
    let gone = c.in-Some.ensures.steps.1 in
    let short = ap length steps in
    let items : c.push.new.self.items ≡ old ++ r ∷ [] = c.in_ok-push.ensures.items in
    let size : length c.push.new.self.items ≡ n + 1 = omega (arith, ap length items, length-append old (r ∷ [])) in
    record {
      count = omega (arith, size, short, c.loop-cpu.invariant.count);
      left = omega (arith, gone, short, c.loop-cpu.invariant.left);
      alive = subst (All (IsAlive g.C.Cpu.runs plant)) (sym items) (All-push (IsAlive g.C.Cpu.runs plant) old r c.loop-cpu.invariant.alive c.in_ok-replica.ensures.alive);
      seats = ap (map seat_of) items ∙ map-append seat_of old (r ∷ []) ∙ ap (λ (ss : List Seated). ss ++ seat_of r ∷ []) c.loop-cpu.invariant.seats
          ∙ ap (λ (s : Seated). listed n first ++ s ∷ []) (c.in_ok-replica.ensures.seat ∙ ap first number)
          ∙ sym (map-range_with_len_more first 0 n n (omega arith)) ∙ ap (λ k. listed k first) (sym size);
    }
