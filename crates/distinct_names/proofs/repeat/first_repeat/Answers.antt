use Rattle.std.proofs.Common.{◌≡◌, ◌∙◌, sym, Some, map, arith}
use Rattle.std.specs.Prelude.{slice_get}
use Rattle.distinct_names.proofs.Names.{name_at, repeat_here, no_repeat_here, seen_names, fresh_more, names_more, first_at, none_at, from_not, from_not_false}
use Rattle.std.proofs.lemmas.List.{length-map}
use Rattle.distinct_names.proofs.repeat.first_repeat.Goals as goal

pub returns-then-not-branch : goal.returns-then-not-branch
returns-then-not-branch g c =
    let names = map g.T.Named.name_of c.args.entries.now in
    let place = c.loop-place.place in
    let at : slice_get names place ≡ Some c.name.result.now = name_at g.T.Named.name_of c.args.entries.now place c.index-entries-place.result c.name.result.now c.loop-place-test.true c.index-entries-place.is c.name.ensures in
    first_at names place c.loop-place.invariant.fresh (repeat_here names place c.name.result.now at
    (sym (seen_names c.loop-place.names.keys names place c.name.result.now c.loop-place.invariant.seen) ∙ from_not_false _ _ c.in_ok-note.ensures.fresh c.if-not-branch.true))

pub loop-place-preserved : goal.loop-place-preserved
loop-place-preserved g c =
    let names = map g.T.Named.name_of c.args.entries.now in
    let place = c.loop-place.place in
    let at : slice_get names place ≡ Some c.name.result.now = name_at g.T.Named.name_of c.args.entries.now place c.index-entries-place.result c.name.result.now c.loop-place-test.true c.index-entries-place.is c.name.ensures in
    record {
      seen = names_more names place c.name.result.now _ _ at c.loop-place.invariant.seen (c.in_ok-note.ensures.keys c.if-not-branch.false);
      fresh = fresh_more names place c.loop-place.invariant.fresh (no_repeat_here names place c.name.result.now at
          (sym (seen_names c.loop-place.names.keys names place c.name.result.now c.loop-place.invariant.seen) ∙ from_not _ _ c.in_ok-note.ensures.fresh c.if-not-branch.false));
    }

pub returns : goal.returns
returns g c = none_at (map g.T.Named.name_of c.args.entries.now) c.loop-place.place (omega (arith, length-map c.args.entries.now g.T.Named.name_of)) c.loop-place.invariant.fresh
