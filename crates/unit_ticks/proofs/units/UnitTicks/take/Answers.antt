use Rattle.std.proofs.Common.{◌≡◌, ◌+◌, ◌-◌, map, true, sym, subst, ap, ◌∙◌, arith}
use Rattle.decisions.specs.Place.{is_free}
use Rattle.unit_ticks.specs.Busy.{Busy, put_ticks}
use Rattle.unit_ticks.specs.Rows.{ticks_in}
use Rattle.unit_ticks.proofs.Kept.{row_at, rows_set, rows_are}
use Rattle.unit_ticks.proofs.Turns.{put_turn}
use Rattle.unit_ticks.proofs.units.UnitTicks.take.Goals as goal

pub invariant_of-self : goal.invariant_of-self
invariant_of-self c =
    let rows = c.self.inside.rows.items in
    let t = c.args.ticks in
    let e : map ticks_in rows ≡ c.args.self.now.rows = ap (λ (b : Busy). b.rows) c.self.view_is in
    let at = row_at rows c.args.self.now.rows c.args.unit c.from.result c.index_mut.result.now e c.from.ensures c.requires.unit c.index_mut.ensures.value in
    let row = c.self.invariant c.from.result c.index_mut.result.now at.stands in
    let free : is_free c.index_mut.result.now.items t.start (t.end - t.start) ≡ true = subst (λ ts. is_free ts t.start (t.end - t.start) ≡ true) (sym at.items) c.requires.free in
    let span : t.end ≡ t.start + (t.end - t.start) = omega (arith, c.requires.some) in
    rows_set c.self.inside.room rows c.from.result c.take.new.row c.self.invariant (record {
      holds = omega (arith, row.holds, c.take.ensures.room);
      turn = rw c.take.ensures.items (put_turn t (t.end - t.start) c.index_mut.result.now.items c.requires.some span row.turn free);
    })

pub returns-clause-rows : goal.returns-clause-rows
returns-clause-rows c =
    let rows = c.self.inside.rows.items in
    let e : map ticks_in rows ≡ c.args.self.now.rows = ap (λ (b : Busy). b.rows) c.self.view_is in
    let at = row_at rows c.args.self.now.rows c.args.unit c.from.result c.index_mut.result.now e c.from.ensures c.requires.unit c.index_mut.ensures.value in
    rows_are rows c.args.self.now.rows c.args.unit c.from.result c.take.new.row _ e c.from.ensures (c.take.ensures.items ∙ ap (put_ticks c.args.ticks) at.items)
