use Rattle.std.proofs.Common.{◌≡◌, ◌<◌, List, length, get_or, ◌∙◌, ap, arith}
use Rattle.graph.specs.Cycle.{words_of_sensor}
use Rattle.graph.specs.declared.net.Plug.{Plug}
use Rattle.job_inputs.proofs.Lines.{words_more, words_within}
use Rattle.cluster.proofs.width.line_words.Goals as goal

pub words_of_plug-words-requires-clause-few : goal.words_of_plug-words-requires-clause-few
words_of_plug-words-requires-clause-few c =
    let net = c.args.net.now in let plug = c.index-as_slice-number.result in let i = c.loop-number.number in
    let at : plug ≡ get_or net.sensors i plug = c.index-as_slice-number.is ∙ ap (λ (xs : List Plug). get_or xs i plug) c.as_slice.ensures in
    let low : i < length net.sensors = omega (arith, c.loop-number-test.true, c.len-number-end.ensures) in
    let room = words_within net c.args.graph.now.cycle net.sensors i plug low in
    let same = ap (words_of_sensor net c.args.graph.now.cycle) at in
    omega (arith, room, same, c.requires.is.graph.limits.words)

pub overflow_add-words : goal.overflow_add-words
overflow_add-words c =
    let net = c.args.net.now in let plug = c.index-as_slice-number.result in let i = c.loop-number.number in
    let at : plug ≡ get_or net.sensors i plug = c.index-as_slice-number.is ∙ ap (λ (xs : List Plug). get_or xs i plug) c.as_slice.ensures in
    let low : i < length net.sensors = omega (arith, c.loop-number-test.true, c.len-number-end.ensures) in
    let room = words_within net c.args.graph.now.cycle net.sensors i plug low in
    let same = ap (words_of_sensor net c.args.graph.now.cycle) at in
    omega (arith, room, same, c.requires.is.graph.limits.words, c.words_of_plug-words.ensures, c.loop-number.invariant)

pub loop-number-preserved : goal.loop-number-preserved
loop-number-preserved c =
    let net = c.args.net.now in let plug = c.index-as_slice-number.result in let i = c.loop-number.number in
    let at : plug ≡ get_or net.sensors i plug = c.index-as_slice-number.is ∙ ap (λ (xs : List Plug). get_or xs i plug) c.as_slice.ensures in
    let low : i < length net.sensors = omega (arith, c.loop-number-test.true, c.len-number-end.ensures) in
    let same = ap (words_of_sensor net c.args.graph.now.cycle) at in
    let more = words_more net c.args.graph.now.cycle net.sensors i plug low in
    omega (arith, more, same, c.words_of_plug-words.ensures, c.loop-number.invariant)
