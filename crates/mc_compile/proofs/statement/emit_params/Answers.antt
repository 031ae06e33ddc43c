use Rattle.std.proofs.Common.{rules, arith, ap, sym, length, map, ◌∙◌}
use Rattle.mc_tree.specs.Plain.{place_in}
use Rattle.mc_compile.specs.Translate.{stores_code}
use Rattle.mc_compile.proofs.Grow.{grows_as, grows_none, params_found, params_missing, length-found}
use Rattle.mc_compile.proofs.statement.emit_params.Goals as goal

pub emit_stores-requires-clause-few : goal.emit_stores-requires-clause-few
emit_stores-requires-clause-few c =
    let e = length-found c.args.task.now c.args.func c.in-Some.function.now (search rules) in
    omega (arith, e, ap length c.as_slice-params.ensures, c.requires.few)

pub emit_stores-requires-clause-room : goal.emit_stores-requires-clause-room
emit_stores-requires-clause-room c =
    let e = length-found c.args.task.now c.args.func c.in-Some.function.now (search rules) in
    omega (arith, e, ap length c.as_slice-params.ensures, c.requires.room)

pub returns-in-Some : goal.returns-in-Some
returns-in-Some c =
    let t = c.args.task.now in
    let found = params_found t c.args.func c.in-Some.function.now (search rules) in
    let shown = ap (λ ps. map (place_in t.cells) ps) c.as_slice-params.ensures ∙ sym found in
    let same = ap (λ cs. map (place_in cs) c.as_slice-params.result.now) c.as_slice.ensures ∙ shown in
    let size = ap length c.as_slice-params.ensures ∙ sym (length-found t c.args.func c.in-Some.function.now (search rules)) in
    grows_as _ _ _ _ _ _ (ap (stores_code 0) same) size c.emit_stores.ensures

pub returns-in-None : goal.returns-in-None
returns-in-None c =
    let e = params_missing c.args.task.now c.args.func (search rules) in
    grows_as _ _ _ _ _ _ (ap (stores_code 0) (sym e)) (ap length (sym e)) (grows_none c.args.code.now)
