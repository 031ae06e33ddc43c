use Rattle.std.proofs.Common.{◌≡◌, ℕ, List, [], ◌∷◌, ◌++◌, map, get_or, sym, subst, arith, length-append}
use Rattle.std.specs.Global.{Vec}
use Rattle.decisions.specs.declared.placed.Ticks.{Ticks}
use Rattle.unit_ticks.specs.Rows.{ticks_in, AreRows}
use Rattle.unit_ticks.proofs.Kept.{rows_more, none_more}
use Rattle.unit_ticks.proofs.units.UnitTicks.new.Goals as goal

pub loop-preserved : goal.loop-preserved
loop-preserved c =
    let rows = c.loop.rows.items in
    let new = c.in_ok-with_capacity.field-0 in
    let e : c.push.new.self.items ≡ rows ++ new ∷ [] = c.in_ok-push.ensures.items in
    let n = length-append rows (new ∷ []) in
    record {
      units = rw e (omega (arith, n, c.loop.invariant.units));
      rows = subst (AreRows c.args.jobs) (sym e) (rows_more c.args.jobs rows new c.loop.invariant.rows (record { holds = omega (arith, c.in_ok-with_capacity.ensures.capacity); turn = rw c.in_ok-with_capacity.ensures.items tt }));
      none = subst (λ (xs : List (Vec Ticks)). (unit : ℕ) → get_or (map ticks_in xs) unit [] ≡ []) (sym e) (none_more rows new c.in_ok-with_capacity.ensures.items c.loop.invariant.none);
    }
