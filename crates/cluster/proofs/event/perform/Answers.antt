use Rattle.std.proofs.Common.{◌<◌, length, map, sym, ◌∙◌, ap, arith}
use Rattle.std.proofs.lemmas.List.{length-map}
use Rattle.cluster_act.proofs.Acting.{seen_at}
use Rattle.cluster.specs.Clocks.{clock_seen}
use Rattle.cluster.specs.Stands.{seats_of}
use Rattle.cluster.proofs.Noted.{clocks_again}
use Rattle.cluster.proofs.event.perform.Goals as goal

pub returns-clause-stands : goal.returns-clause-stands
returns-clause-stands g c =
    let cluster = c.args.cluster.now in
    let h = c.requires.stands in
    let after = c.tick_one.new.seats.items in
    let low : c.args.number < length (seats_of g.S.Seat.seat cluster) = omega (arith, c.requires.number, length-map cluster.seats.items g.S.Seat.seat) in
    let low2 : c.args.number < length after = omega (arith, low, h.seated.count, c.tick_one.ensures.seated.count, length-map after g.S.Seat.seat) in
    record {
      seated = c.tick_one.ensures.seated;
      alive = c.tick_one.ensures.alive;
      clocks = clocks_again cluster.bus c.tick_one.new.bus (seats_of g.S.Seat.seat cluster) (map g.S.Seat.seat after) c.args.number _ cluster.clocks.items c.clock_of.result
          low (c.tick_one.ensures.seated.count ∙ sym h.seated.count) h.clocks c.tick_one.ensures.members
          (c.clock_of.ensures ∙ ap clock_seen (seen_at g.S.Seat.seat after c.args.number c.index.result.now low2 c.index.ensures));
      bus = c.tick_one.ensures.bus;
      width = h.width;
      firsts = h.firsts;
      first = h.first;
      starts = h.starts;
    }
