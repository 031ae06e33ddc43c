use Rattle.std.proofs.Common.{◌≡◌, ◌+◌, List, length, Some, sym, ap, subst, ◌∙◌, arith}
use Rattle.std.specs.Prelude.{slice_get}
use Rattle.std.proofs.lemmas.Option.{slice_get-get_or}
use Rattle.graph.specs.declared.net.Plug.{Plug}
use Rattle.port_feeds.specs.Feeds.{IsCounted}
use Rattle.port_feeds.proofs.Tables.{counted_sensor, sensor_low}
use Rattle.port_feeds.proofs.feeds.count_sensors.Goals as goal

pub loop-number-preserved : goal.loop-number-preserved
loop-number-preserved c =
    let net = c.args.net.now in
    let n = c.loop-number.number in
    let s = c.index-sensors-number.result in
    let sensors = c.as_slice-sensors.result.now in
    let there : slice_get net.sensors n ≡ Some s =
    ap (λ (l : List Plug). slice_get l n) (sym c.as_slice-sensors.ensures) ∙ slice_get-get_or sensors n s (omega arith) ∙ ap (λ (x : Plug). Some x) (sym c.index-sensors-number.is) in
    let low = sensor_low net c.requires.places n s there in
    subst (IsCounted net (length net.edges) (n + 1)) (sym c.note.ensures) (counted_sensor net c.loop-number.table (length net.edges) n s c.loop-number.invariant there low.0 low.1)
