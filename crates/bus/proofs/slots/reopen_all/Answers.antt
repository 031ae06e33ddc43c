use Rattle.std.proofs.Common.{◌<◌, length, subst, sym, arith}
use Rattle.std.proofs.lemmas.List.{length-set}
use Rattle.bus.specs.Slots.{HasRoom}
use Rattle.bus.proofs.Replaced.{room_kept, reopened}
use Rattle.bus.proofs.slots.reopen_all.Goals as goal

pub loop-i-preserved : goal.loop-i-preserved
loop-i-preserved c =
    let xs = c.loop-i.slots.items in
    let i = c.loop-i.i in
    let old = c.index_mut.result.now in
    let at = c.index_mut.ensures.value in
    let says = rw c.replace-old.ensures.value at c.reopen.ensures in
    let within : i < length xs = omega arith in
    record {
      count = simp length-set c.loop-i.invariant.count;
      room = λ n a. room_kept n xs i c.replace-old.new.dest c.reopen.result (c.loop-i.invariant.room n a) (says n (subst (HasRoom n) (sym at) (c.loop-i.invariant.room n a i old within))).0;
      opened = λ n a. reopened xs i c.replace-old.new.dest c.reopen.result old within at says n (c.loop-i.invariant.room n a) (c.loop-i.invariant.opened n a);
    }

pub returns-clause-open : goal.returns-clause-open
returns-clause-open c = λ n a k d lt. c.loop-i.invariant.opened n a k d (omega arith)
