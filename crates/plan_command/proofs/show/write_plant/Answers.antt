use Rattle.std.proofs.Common.{◌≡◌, ◌≤◌, ◌∙◌, ap, length, arith}
use Rattle.mars_base.specs.Causes.{Rose}
use Rattle.plan_command.proofs.Printed.{printed, failed, front_written, all_written, rest_failed}
use Rattle.plan_command.specs.Plan.{text_of}
use Rattle.plant.specs.Lengths.{lengths_of}
use Rattle.stages.proofs.Turns.{prints_same}
use Rattle.tables_text.specs.Text.{tables_text}
use Rattle.plan_command.proofs.show.write_plant.Goals as goal

pub write_tables-requires-clause-net : goal.write_tables-requires-clause-net
write_tables-requires-clause-net g c = record { lengths = lengths_of c.args.plant.now.maxts c.args.plant.now.net.shape.cycles_per_tick; is = c.requires.image.in_order.graph }

pub write_tables-requires-clause-maxts : goal.write_tables-requires-clause-maxts
write_tables-requires-clause-maxts g c = ap length c.as_slice-maxts.ensures ∙ c.requires.image.in_order.maxts

pub returns-in-Err : goal.returns-in-Err
returns-in-Err g c = record {
  answer = λ files left reads writes input.
      let p = c.args.plant.now in
      let e = c.in-Err.ensures {u = tt} in
      let shown = tables_text p.net p.graph p.tables c.as_slice-maxts.result.now in
      let same : shown ≡ text_of p = ap (tables_text p.net p.graph p.tables) c.as_slice-maxts.ensures in
      prints_same shown (text_of p) same
      (failed files left (g.O.Sink.holds c.args.out.now) (g.O.Sink.holds c.write_tables.new.out) shown reads writes input (g.O.Sink.faults c.args.out.now) (g.O.Sink.faults c.write_tables.new.out)
      (front_written (g.O.Sink.holds c.args.out.now) (g.O.Sink.holds c.write_tables.new.out) c.args.buffer.now shown c.requires.empty e.bytes) e.cause.later e.cause.failed);
}

pub returns-in-Ok : goal.returns-in-Ok
returns-in-Ok g c = record {
  answer = λ files left reads writes input.
      let p = c.args.plant.now in
      let e = c.in_default.ensures {u = tt} in
      let s = c.in-Ok.ensures {u = tt} in
      let shown = tables_text p.net p.graph p.tables c.as_slice-maxts.result.now in
      let same : shown ≡ text_of p = ap (tables_text p.net p.graph p.tables) c.as_slice-maxts.ensures in
      prints_same shown (text_of p) same
      (printed files left (g.O.Sink.holds c.args.out.now) (g.O.Sink.holds c.send.new.out) shown reads writes input (g.O.Sink.faults c.args.out.now) (g.O.Sink.faults c.send.new.out)
      (all_written (g.O.Sink.holds c.args.out.now) (g.O.Sink.holds c.write_tables.new.out) (g.O.Sink.holds c.send.new.out) c.args.buffer.now shown c.write_tables.new.buffer c.requires.empty e.bytes s.bytes) (omega (arith, e.cause.later, s.cause.later)));
}

pub returns-in-Err-send : goal.returns-in-Err-send
returns-in-Err-send g c = record {
  answer = λ files left reads writes input.
      let p = c.args.plant.now in
      let e = c.in_default.ensures {u = tt} in
      let s = c.in-Err-send.ensures {u = tt} in
      let shown = tables_text p.net p.graph p.tables c.as_slice-maxts.result.now in
      let same : shown ≡ text_of p = ap (tables_text p.net p.graph p.tables) c.as_slice-maxts.ensures in
      let low : g.O.Sink.faults c.args.out.now ≤ g.O.Sink.faults c.send.new.out = omega (arith, e.cause.later, s.cause.later) in
      let rose : Rose (g.O.Sink.faults c.args.out.now) (g.O.Sink.faults c.send.new.out) = omega (arith, e.cause.later, s.cause.failed) in
      prints_same shown (text_of p) same
      (failed files left (g.O.Sink.holds c.args.out.now) (g.O.Sink.holds c.send.new.out) shown reads writes input (g.O.Sink.faults c.args.out.now) (g.O.Sink.faults c.send.new.out)
      (rest_failed (g.O.Sink.holds c.args.out.now) (g.O.Sink.holds c.write_tables.new.out) (g.O.Sink.holds c.send.new.out) c.args.buffer.now shown c.write_tables.new.buffer s.bytes.0 c.requires.empty e.bytes s.bytes.1) low rose);
}
