use Rattle.std.proofs.Common.{◌≤◌, arith}
use Rattle.mars_base.specs.Causes.{Rose}
use Rattle.tables_print.proofs.Printed.{printed, failed, front_written, all_written, rest_failed}
use Rattle.tables_text.specs.Text.{tables_text}
use Rattle.tables_print.proofs.print.write_text.Goals as goal

pub returns-in-Err : goal.returns-in-Err
returns-in-Err g c = record {
  answer = λ files left reads writes input.
      let e = c.in-Err.ensures {u = tt} in
      let shown = tables_text c.args.net.now c.args.graph.now c.args.tables.now c.args.maxts.now in
      failed files left (g.O.Sink.holds c.args.out.now) (g.O.Sink.holds c.write_tables.new.out) shown reads writes input (g.O.Sink.faults c.args.out.now) (g.O.Sink.faults c.write_tables.new.out)
      (front_written (g.O.Sink.holds c.args.out.now) (g.O.Sink.holds c.write_tables.new.out) c.args.buffer.now shown c.requires.empty e.bytes) e.cause.later e.cause.failed;
}

pub returns-in-Ok : goal.returns-in-Ok
returns-in-Ok g c = record {
  answer = λ files left reads writes input.
      let e = c.in_default.ensures {u = tt} in
      let s = c.in-Ok.ensures {u = tt} in
      let shown = tables_text c.args.net.now c.args.graph.now c.args.tables.now c.args.maxts.now in
      printed files left (g.O.Sink.holds c.args.out.now) (g.O.Sink.holds c.send.new.out) shown reads writes input (g.O.Sink.faults c.args.out.now) (g.O.Sink.faults c.send.new.out)
      (all_written (g.O.Sink.holds c.args.out.now) (g.O.Sink.holds c.write_tables.new.out) (g.O.Sink.holds c.send.new.out) c.args.buffer.now shown c.write_tables.new.buffer c.requires.empty e.bytes s.bytes) (omega (arith, e.cause.later, s.cause.later));
}

pub returns-in-Err-send : goal.returns-in-Err-send
returns-in-Err-send g c = record {
  answer = λ files left reads writes input.
      let e = c.in_default.ensures {u = tt} in
      let s = c.in-Err-send.ensures {u = tt} in
      let shown = tables_text c.args.net.now c.args.graph.now c.args.tables.now c.args.maxts.now in
      let low : g.O.Sink.faults c.args.out.now ≤ g.O.Sink.faults c.send.new.out = omega (arith, e.cause.later, s.cause.later) in
      let rose : Rose (g.O.Sink.faults c.args.out.now) (g.O.Sink.faults c.send.new.out) = omega (arith, e.cause.later, s.cause.failed) in
      failed files left (g.O.Sink.holds c.args.out.now) (g.O.Sink.holds c.send.new.out) shown reads writes input (g.O.Sink.faults c.args.out.now) (g.O.Sink.faults c.send.new.out)
      (rest_failed (g.O.Sink.holds c.args.out.now) (g.O.Sink.holds c.write_tables.new.out) (g.O.Sink.holds c.send.new.out) c.args.buffer.now shown c.write_tables.new.buffer s.bytes.0 c.requires.empty e.bytes s.bytes.1) low rose;
}
