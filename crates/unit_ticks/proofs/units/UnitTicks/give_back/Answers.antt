use Rattle.std.proofs.Common.{◌≡◌, map, ap, ◌∙◌, arith}
use Rattle.unit_ticks.specs.Busy.{Busy, drop_ticks}
use Rattle.unit_ticks.specs.Rows.{ticks_in}
use Rattle.unit_ticks.proofs.Kept.{row_at, rows_set, rows_are}
use Rattle.unit_ticks.proofs.Turns.{drop_turn}
use Rattle.unit_ticks.proofs.units.UnitTicks.give_back.Goals as goal

pub invariant_of-self : goal.invariant_of-self
invariant_of-self c =
    let rows = c.self.inside.rows.items in
    let e : map ticks_in rows ≡ c.args.self.now.rows = ap (λ (b : Busy). b.rows) c.self.view_is in
    let at = row_at rows c.args.self.now.rows c.args.unit c.from.result c.index_mut.result.now e c.from.ensures c.requires c.index_mut.ensures.value in
    let row = c.self.invariant c.from.result c.index_mut.result.now at.stands in
    rows_set c.self.inside.room rows c.from.result c.give_back.new.row c.self.invariant (record {
      holds = omega (arith, row.holds, c.give_back.ensures.room);
      turn = rw c.give_back.ensures.items (drop_turn c.args.start c.index_mut.result.now.items row.turn);
    })

pub returns-clause-rows : goal.returns-clause-rows
returns-clause-rows c =
    let rows = c.self.inside.rows.items in
    let e : map ticks_in rows ≡ c.args.self.now.rows = ap (λ (b : Busy). b.rows) c.self.view_is in
    let at = row_at rows c.args.self.now.rows c.args.unit c.from.result c.index_mut.result.now e c.from.ensures c.requires c.index_mut.ensures.value in
    rows_are rows c.args.self.now.rows c.args.unit c.from.result c.give_back.new.row _ e c.from.ensures (c.give_back.ensures.items ∙ ap (drop_ticks c.args.start) at.items)
