use Rattle.std.proofs.Common.{◌≡◌, length, map, subst, arith}
use Rattle.std.proofs.lemmas.List.{length-map}
use Rattle.cluster.proofs.Noted.{AreNoted, all_noted}
use Rattle.cluster.proofs.clocks.read_clocks.Goals as goal

pub returns : goal.returns
returns g c =
    let seats = map g.S.Seat.seat c.args.seats.now in
    let e : c.clocks.i ≡ length seats = omega (arith, length-map c.args.seats.now g.S.Seat.seat) in
    all_noted seats c.clocks.clocks.items (subst (λ n. AreNoted n seats c.clocks.clocks.items) e c.clocks.invariant)
